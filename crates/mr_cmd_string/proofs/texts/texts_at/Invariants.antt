use Rattle.std.proofs.Common.{◌≡◌, map, take}
use Rattle.std.specs.Cow.{cow_slice_items}
use Rattle.mr_resp.specs.ReplyView.{view}
use Rattle.mr_cmd_string.specs.Texts.{texts_at}
use Rattle.mr_cmd_string.proofs.texts.texts_at.Given as goal

abbrev pub invariant-loop-word : goal.invariant-loop-word
invariant-loop-word l = map view l.replies.items ≡ texts_at l.fn.given.now (map cow_slice_items (take l.word-index l.words)) l.held
