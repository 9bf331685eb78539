use Rattle.std.proofs.Common.{rules, ◌≡◌, ◌∙◌, true, false}
use Rattle.std.specs.FinMap.{get}
use Rattle.std.specs.Str.{bytes_eq}
use Rattle.mr_keyspace.specs.Changes.{has_member}
use Rattle.mr_keyspace.proofs.Looking.{member_carried}
use Rattle.mr_keyspace.proofs.entries.Entries.can_move_member.Goals as goal

pub returns-else-eq : goal.returns-else-eq
returns-else-eq c =
    let apart : bytes_eq c.args.from.now c.args.to.now ≡ false = search rules in
    let there : has_member c.args.member.now (get c.args.self.now c.args.from.now) ≡ true = search rules in
    c.takes_members.ensures ∙ member_carried c.args.from.now c.args.to.now c.args.self.now apart c.args.member.now there
