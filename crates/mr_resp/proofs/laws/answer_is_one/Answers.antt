use Rattle.mr_resp.proofs.OneAnswer.{one_answer}
use Rattle.mr_resp.proofs.laws.answer_is_one.Goals as goal

pub returns : goal.returns
returns c = one_answer
