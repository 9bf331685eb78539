use Rattle.std.proofs.Common.{rules, ◌≡◌, false, Some}
use Rattle.std.specs.Prelude.{is_some}
use Rattle.std.specs.FinMap.{get}
use Rattle.mr_keyspace.specs.Collections.{with_members}
use Rattle.mr_keyspace.specs.Steps.{sets, held}
use Rattle.mr_keyspace.proofs.Moving.{refused_there}
use Rattle.mr_keyspace.proofs.entries.Entries.copy_members.Goals as goal

pub returns-then-not-takes_members : goal.returns-then-not-takes_members
returns-then-not-takes_members c =
    let other : is_some (held sets (get c.args.self.now c.args.key.now)) ≡ false = search rules in
    refused_there sets c.args.key.now c.args.self.now (λ x. Some (with_members c.args.members.now x)) other
