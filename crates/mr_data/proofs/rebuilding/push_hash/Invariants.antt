use Rattle.std.specs.FinMap.{entries}
use Rattle.mr_effect.specs.declared.effect.Effect.TheVariants as made
use Rattle.mr_data.proofs.Grouping.{IsWriting}
use Rattle.mr_data.proofs.rebuilding.push_hash.Given as goal

abbrev pub invariant-loop-field : goal.invariant-loop-field
invariant-loop-field l = IsWriting (made.SetFields l.fn.key) l.fn.out.items l.out.items l.group l.field-iterator (entries l.fn.fields)
