use Rattle.mr_score.proofs.TextLemmas.{score_texts}
use Rattle.mr_score.proofs.laws.score_texts.Goals as goal

pub returns : goal.returns
returns c = score_texts
