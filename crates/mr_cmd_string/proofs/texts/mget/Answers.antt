use Rattle.mr_cmd_shared.proofs.PlanLemmas.{if_ok}
use Rattle.mr_cmd_string.proofs.PlanLemmas.{texts_plans}
use Rattle.mr_cmd_string.proofs.texts.mget.Goals as goal

pub returns : goal.returns
returns c = if_ok c.texts_at.result (λ r shown. texts_plans _ _ _ _ _ _ c.in_ok-push_dels.ensures.dels shown) c.texts_at.ensures
