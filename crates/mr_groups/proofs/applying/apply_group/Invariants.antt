use Rattle.std.proofs.Common.{◌≡◌, ◌<◌, take, true, false, Some}
use Rattle.mr_data.specs.Meaning.{apply_all}
use Rattle.mr_groups.proofs.applying.apply_group.Given as goal

-- the effects in front of this one are done
abbrev pub invariant-loop-effect : goal.invariant-loop-effect
invariant-loop-effect l = record {
  begun : apply_all (take l.effect-index l.effects) l.fn.dataset ≡ Some l.dataset;
  first : l.is_first ≡ true → l.effect-index ≡ 0;
  later : l.is_first ≡ false → 0 < l.effect-index;
}
