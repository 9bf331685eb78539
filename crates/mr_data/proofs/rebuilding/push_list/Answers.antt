use Rattle.std.proofs.Common.{rules, ◌≡◌, ℕ, List, [], ◌∷◌, ◌++◌, length}
use Rattle.mr_bytes.specs.declared.ends.End.TheVariants.{Right}
use Rattle.mr_effect.specs.declared.effect.Effect.TheVariants as made
use Rattle.mr_keyspace.specs.Cuts.{most_items}
use Rattle.mr_data.proofs.Grouping.{writing_flushes}
use Rattle.mr_data.proofs.rebuilding.push_list.Goals as goal

pub loop-item-preserved-then-len-eq-MOST_ITEMS : goal.loop-item-preserved-then-len-eq-MOST_ITEMS
loop-item-preserved-then-len-eq-MOST_ITEMS c =
    let x : List ℕ = c.in-Some.item.now in
    let more : c.push.new.self ≡ c.loop-item.group ++ x ∷ [] = search rules in
    let full : length c.push.new.self ≡ most_items = search rules in
    writing_flushes (made.Push c.args.key.now Right) c.args.out.now.items c.loop-item.out.items c.loop-item.group c.loop-item.item-iterator c.next.new.self c.args.items.now c.push.new.self x c.loop-item.invariant c.in-Some.ensures.steps more c.push_items.new.out.items _ full c.in_ok-push_items.ensures c.new-group-then-len-eq-MOST_ITEMS.ensures
