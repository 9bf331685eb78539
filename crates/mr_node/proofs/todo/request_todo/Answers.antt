use Rattle.std.proofs.Common.{map, refl, sym, ◌∙◌}
use Rattle.std.specs.Cow.{cow_slice_items}
use Rattle.mr_commands.proofs.Rooms.{room_of}
use Rattle.mr_node.proofs.Reading.{answer_done}
use Rattle.mr_node.proofs.todo.request_todo.Goals as goal

pub returns-in_ok-answer_to-in_default : goal.returns-in_ok-answer_to-in_default
returns-in_ok-answer_to-in_default c =
    let words = map cow_slice_items c.args.words.now in
    let ask = c.in-Ok.ask in
    let fit = c.in-Ok.ensures.fits c.requires.fit in
    let is = c.in_ok-answer_to-in_default.ensures in (
      refl,
      answer_done c.args.replica words c.args.given c.args.held.now ask c.in_ok-answer_to-in_default.field-0 (sym c.read.ensures.asked ∙ c.in-Ok.is) c.in_default.not-Node
          is.answer (is.leads fit) (is.texts fit (room_of cow_slice_items c.args.words.now ask c.in-Ok.ensures.spelled c.requires.few)),
    )
