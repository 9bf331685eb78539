use Rattle.std.proofs.Common.{not, sym, ap, ◌∙◌, ◌^◌, ◌<◌, rules}
use Rattle.std.specs.Prelude.{slice_index}
use Rattle.mr_glob.specs.Glob.{class_signs, in_class, signs}
use Rattle.mr_glob.proofs.MaskLemmas.{is_set-not, caret_first}
use Rattle.mr_glob.proofs.pattern.class.class_mask.Goals as goal

pub returns-in-Some-clause-marks : goal.returns-in-Some-clause-marks
returns-in-Some-clause-marks c k small =
    let byte = slice_index c.args.bytes k in
    let mask = c.ranges_mask-mask in
    let fits : mask.result.0 < 2 ^ 64 = search rules in
    is_set-not mask.result.0 k fits small
    ∙ ap not (mask.ensures.marks k small)
    ∙ sym (caret_first c.in-Some.caret (signs c.in-Some.others.now) byte (sym c.is_bare.ensures ∙ c.if-is_bare.true))
    ∙ sym (ap (λ ss. in_class (class_signs ss) byte) c.in-Some.ensures.signs_are)
