use Rattle.std.proofs.Common.{◌≡◌, ◌<◌, ◌++◌, [], length, true, false, Some}
use Rattle.mr_data.specs.Meaning.{apply_all}
use Rattle.mr_groups.proofs.applying.apply_group_owned.Given as goal

-- the effects so far are done
abbrev pub invariant-loop-effect : goal.invariant-loop-effect
invariant-loop-effect l = record {
  begun : apply_all l.yielded l.fn.dataset ≡ Some l.dataset;
  each : l.yielded ++ l.effect-iterator.rest.items ≡ l.fn.effects.items;
  first : l.is_first ≡ true → l.yielded ≡ [];
  later : l.is_first ≡ false → 0 < length l.yielded;
}
