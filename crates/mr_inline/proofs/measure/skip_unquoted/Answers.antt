use Rattle.std.proofs.Common.{ap, ◌∙◌, arith}
use Rattle.mr_inline.specs.declared.place.Place.TheVariants.{Between, Plain}
use Rattle.mr_inline.proofs.SkipSteps.{skips_to, is_unquoted, plain_place, unquoted_place}
use Rattle.mr_inline.proofs.measure.skip_unquoted.Goals as goal

pub returns-in-Separator : goal.returns-in-Separator
returns-in-Separator c =
    let end = c.unmarked_end-end in
    skips_to c.args.limit c.args.input.now c.args.progress (record { at = end.result; place = Between }) (is_unquoted c.args.progress.place c.in-Between.is) c.requires end.ensures.forward c.if-end-progress.false (omega (arith, end.ensures.within, c.min.ensures)) (omega (arith, end.ensures.within, c.min.ensures)) end.ensures.none
    (ap unquoted_place c.in-Separator.ensures)

pub returns-in_default-of : goal.returns-in_default-of
returns-in_default-of c =
    let end = c.unmarked_end-end in
    skips_to c.args.limit c.args.input.now c.args.progress (record { at = end.result; place = Plain }) (is_unquoted c.args.progress.place c.in-Between.is) c.requires end.ensures.forward c.if-end-progress.false (omega (arith, end.ensures.within, c.min.ensures)) (omega (arith, end.ensures.within, c.min.ensures)) end.ensures.none
    (plain_place c.of.result c.in_default-of.not-Separator ∙ ap unquoted_place c.of.ensures)
