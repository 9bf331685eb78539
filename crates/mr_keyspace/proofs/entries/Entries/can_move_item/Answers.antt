use Rattle.std.proofs.Common.{rules, ◌≡◌, ◌<◌, ◌∙◌, false, length, sym}
use Rattle.std.specs.Str.{bytes_eq}
use Rattle.mr_keyspace.proofs.Looking.{item_carried}
use Rattle.mr_keyspace.proofs.entries.Entries.can_move_item.Goals as goal

pub returns-else-eq : goal.returns-else-eq
returns-else-eq c = λ taken put.
    let apart : bytes_eq c.args.from.now c.args.to.now ≡ false = search rules in
    let some : 0 < length c.in-Some.list.now = search rules in
    c.takes_items.ensures ∙ item_carried c.args.from.now c.args.to.now c.args.self.now apart taken put c.in-Some.list.now c.in-Some.ensures some
