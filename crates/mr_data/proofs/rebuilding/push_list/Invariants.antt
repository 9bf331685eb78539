use Rattle.mr_bytes.specs.declared.ends.End.TheVariants.{Right}
use Rattle.mr_effect.specs.declared.effect.Effect.TheVariants as made
use Rattle.mr_data.proofs.Grouping.{IsWriting}
use Rattle.mr_data.proofs.rebuilding.push_list.Given as goal

abbrev pub invariant-loop-item : goal.invariant-loop-item
invariant-loop-item l = IsWriting (made.Push l.fn.key Right) l.fn.out.items l.out.items l.group l.item-iterator l.fn.items
