use Rattle.std.proofs.Common.{◌≡◌, ◌++◌, Some}
use Rattle.std.specs.List.{AllByRecursion}
use Rattle.mr_keyspace.specs.Changes.{NeedsNoMemory}
use Rattle.mr_data.specs.Meaning.{apply_all}
use Rattle.mr_data.proofs.dataset.Dataset.apply_all.Given as goal

abbrev pub invariant-loop-effect : goal.invariant-loop-effect
invariant-loop-effect l = record {
  folded : apply_all l.effect-iterator.rest.items l.self ≡ apply_all l.fn.effects.items l.fn.self;
  begun : apply_all l.yielded l.fn.self ≡ Some l.self;
  each : l.yielded ++ l.effect-iterator.rest.items ≡ l.fn.effects.items;
  light : AllByRecursion NeedsNoMemory l.fn.effects.items → AllByRecursion NeedsNoMemory l.effect-iterator.rest.items;
}
