use Rattle.std.proofs.Common.{sym, ◌∙◌}
use Rattle.std.specs.Prelude.{slice_index}
use Rattle.mr_glob.specs.Glob.{signs}
use Rattle.mr_glob.proofs.MaskLemmas.{all_set, any_byte}
use Rattle.mr_glob.proofs.pattern.place.takers.Goals as goal

pub returns-then-is_bare-clause-marks : goal.returns-then-is_bare-clause-marks
returns-then-is_bare-clause-marks c k small =
    all_set k small ∙ sym (any_byte c.args.sign (signs c.args.behind.now) (slice_index c.args.bytes k) (sym c.is_bare.ensures ∙ c.if-is_bare.true))
