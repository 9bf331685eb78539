use Rattle.std.proofs.Common.{ap, sym, ◌∙◌, subst, arith}
use Rattle.mr_inline.specs.Language.{Fails}
use Rattle.mr_inline.specs.Line.{IsLineText, HasLineFault}
use Rattle.mr_inline.specs.Places.{turn_at}
use Rattle.mr_inline.specs.declared.place.Turn.TheVariants.{Goes, Breaks}
use Rattle.mr_inline.proofs.MeasureSteps.{fails_at, continues_at}
use Rattle.mr_inline.proofs.measure.measure.Goals as goal

pub returns-in-Breaks-clause-found : goal.returns-in-Breaks-clause-found
returns-in-Breaks-clause-found c =
    let turn = c.in-Breaks.ensures in
    let kind = c.of.ensures in
    subst (λ f. Fails (IsLineText c.args.limit) (HasLineFault c.args.limit f) c.args.input.now) (sym c.fault_at.ensures)
    (fails_at c.args.limit c.args.input.now (record { at = c.loop-at.at; place = c.loop-at.place }) Breaks c.requires.no_array c.loop-at.invariant c.loop-at-test.true (ap (turn_at c.loop-at.place) (sym kind) ∙ sym turn) tt)

pub returns-then-limit-at-clause-found : goal.returns-then-limit-at-clause-found
returns-then-limit-at-clause-found c =
    let turn = c.in-Goes.ensures in
    let kind = c.of.ensures in
    subst (λ f. Fails (IsLineText c.args.limit) (HasLineFault c.args.limit f) c.args.input.now) (sym c.fault_at-then-limit-at.ensures)
    (fails_at c.args.limit c.args.input.now (record { at = c.loop-at.at; place = c.loop-at.place }) (Goes c.in-Goes.next) c.requires.no_array c.loop-at.invariant c.loop-at-test.true (ap (turn_at c.loop-at.place) (sym kind) ∙ sym turn) (omega (arith, c.need.ensures, c.if-limit-at.true, c.loop-at.invariant.room)))

pub returns-clause-found : goal.returns-clause-found
returns-clause-found c = continues_at c.args.limit c.args.input.now (record { at = c.loop-at.at; place = c.loop-at.place }) c.requires.no_array c.loop-at.invariant c.loop-at-test.false
