use Rattle.std.proofs.Common.{ap, sym, ◌∙◌, List, Some, map}
use Rattle.std.specs.Cow.{cow_slice_items}
use Rattle.mr_data.specs.Meaning.{apply_all}
use Rattle.mr_effect.specs.declared.effect.Effect.{Effect}
use Rattle.mr_ask.specs.Carried.{AskFits}
use Rattle.mr_ask.specs.Spelled.{Spells}
use Rattle.mr_commands.specs.Requests.{left_by}
use Rattle.mr_commands.proofs.Leading.{with_fits}
use Rattle.mr_commands.proofs.Rooms.{room_of, ok_at, with_room}
use Rattle.mr_commands.proofs.requests.plan_words.Goals as goal

pub returns-in-Err-clause-leads : goal.returns-in-Err-clause-leads
returns-in-Err-clause-leads c = λ h.
    ap (λ (es : List Effect). apply_all es c.args.held.now) c.new.ensures.items
    ∙ ap (λ r. Some (left_by r c.args.replica c.args.given c.args.held.now)) (sym c.in-Err.is ∙ c.read.ensures.asked)

pub returns-in-Ok-clause-leads : goal.returns-in-Ok-clause-leads
returns-in-Ok-clause-leads c =
    let ask = c.in-Ok.ask in
    with_fits c.answer_to.result ask _ c.args.held.now _ _ (ap (λ r. left_by r c.args.replica c.args.given c.args.held.now) (sym c.in-Ok.is ∙ c.read.ensures.asked))
    (λ fit. ok_at AskFits c.read.result ask c.in-Ok.is (c.read.ensures.fits fit))
    c.answer_to.ensures.leads

pub returns-in-Ok-clause-texts : goal.returns-in-Ok-clause-texts
returns-in-Ok-clause-texts c =
    let words = map cow_slice_items c.args.words.now in
    let ask = c.in-Ok.ask in
    with_room _ ask _ _
    (λ fit. ok_at AskFits c.read.result ask c.in-Ok.is (c.read.ensures.fits fit))
    (room_of cow_slice_items c.args.words.now ask (ok_at (Spells words) c.read.result ask c.in-Ok.is c.read.ensures.spelled))
    c.answer_to.ensures.texts
