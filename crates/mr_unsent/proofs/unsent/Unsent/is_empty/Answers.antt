use Rattle.std.proofs.Common.{sym, ◌∙◌}
use Rattle.mr_unsent.proofs.Pieces.{none_in_front}
use Rattle.mr_unsent.proofs.unsent.Unsent.is_empty.Goals as goal

pub returns : goal.returns
returns c = (
  λ is. c.front.ensures.some (c.is_nothing.ensures.0 is),
  λ none. c.is_nothing.ensures.1 (none_in_front c.front.result.now c.front.ensures.begins.0 (sym none ∙ c.front.ensures.begins.1)),
)
