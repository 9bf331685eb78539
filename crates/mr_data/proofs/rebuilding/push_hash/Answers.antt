use Rattle.std.proofs.Common.{rules, ◌≡◌, ℕ, List, [], ◌∷◌, ◌++◌, length}
use Rattle.std.specs.FinMap.{entries}
use Rattle.mr_effect.specs.declared.effect.Effect.TheVariants as made
use Rattle.mr_keyspace.specs.Cuts.{most_items}
use Rattle.mr_data.proofs.Grouping.{writing_flushes}
use Rattle.mr_data.proofs.rebuilding.push_hash.Goals as goal

pub loop-field-preserved-then-len-eq-MOST_ITEMS : goal.loop-field-preserved-then-len-eq-MOST_ITEMS
loop-field-preserved-then-len-eq-MOST_ITEMS c =
    let x : List ℕ × List ℕ = (c.in-Some.field.now, c.in-Some.value.now) in
    let more : c.push.new.self ≡ c.loop-field.group ++ x ∷ [] = search rules in
    let full : length c.push.new.self ≡ most_items = search rules in
    writing_flushes (made.SetFields c.args.key.now) c.args.out.now.items c.loop-field.out.items c.loop-field.group c.loop-field.field-iterator c.next.new.self (entries c.args.fields.now) c.push.new.self x c.loop-field.invariant c.in-Some.ensures.steps more c.push_fields.new.out.items _ full c.in_ok-push_fields.ensures c.new-group-then-len-eq-MOST_ITEMS.ensures
