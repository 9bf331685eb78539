use Rattle.std.proofs.Common.{rules, ◌≡◌, false, Some}
use Rattle.std.specs.Prelude.{is_some}
use Rattle.std.specs.FinMap.{get}
use Rattle.mr_keyspace.specs.Collections.{with_fields}
use Rattle.mr_keyspace.specs.Steps.{hashes, held}
use Rattle.mr_keyspace.proofs.Moving.{refused_there}
use Rattle.mr_keyspace.proofs.entries.Entries.copy_fields.Goals as goal

pub returns-then-not-takes_fields : goal.returns-then-not-takes_fields
returns-then-not-takes_fields c =
    let other : is_some (held hashes (get c.args.self.now c.args.key.now)) ≡ false = search rules in
    refused_there hashes c.args.key.now c.args.self.now (λ x. Some (with_fields c.args.pairs.now x)) other
