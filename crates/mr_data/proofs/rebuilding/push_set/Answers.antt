use Rattle.std.proofs.Common.{rules, ◌≡◌, ℕ, List, [], ◌∷◌, ◌++◌, length}
use Rattle.std.specs.FinMap.{keys}
use Rattle.mr_effect.specs.declared.effect.Effect.TheVariants as made
use Rattle.mr_keyspace.specs.Cuts.{most_items}
use Rattle.mr_data.proofs.Grouping.{writing_flushes}
use Rattle.mr_data.proofs.rebuilding.push_set.Goals as goal

pub loop-member-preserved-then-len-eq-MOST_ITEMS : goal.loop-member-preserved-then-len-eq-MOST_ITEMS
loop-member-preserved-then-len-eq-MOST_ITEMS c =
    let x : List ℕ = c.in-Some.member.now in
    let more : c.push.new.self ≡ c.loop-member.group ++ x ∷ [] = search rules in
    let full : length c.push.new.self ≡ most_items = search rules in
    writing_flushes (made.AddMembers c.args.key.now) c.args.out.now.items c.loop-member.out.items c.loop-member.group c.loop-member.member-iterator c.next.new.self (keys c.args.members.now) c.push.new.self x c.loop-member.invariant c.in-Some.ensures.steps more c.push_members.new.out.items _ full c.in_ok-push_members.ensures c.new-group-then-len-eq-MOST_ITEMS.ensures
