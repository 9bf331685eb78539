use Rattle.std.proofs.Common.{rules, ◌≡◌, false, Some}
use Rattle.std.specs.Prelude.{is_some}
use Rattle.std.specs.FinMap.{get}
use Rattle.mr_keyspace.specs.Collections.{pushed}
use Rattle.mr_keyspace.specs.Steps.{lists, held}
use Rattle.mr_keyspace.proofs.Moving.{refused_there}
use Rattle.mr_keyspace.proofs.entries.Entries.copy_items.Goals as goal

pub returns-then-not-takes_items : goal.returns-then-not-takes_items
returns-then-not-takes_items c =
    let other : is_some (held lists (get c.args.self.now c.args.key.now)) ≡ false = search rules in
    refused_there lists c.args.key.now c.args.self.now (λ x. Some (pushed c.args.end c.args.items.now x)) other
