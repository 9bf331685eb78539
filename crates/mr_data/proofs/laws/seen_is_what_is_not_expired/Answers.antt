use Rattle.mr_data.proofs.Seeing.{get-seen}
use Rattle.mr_data.proofs.laws.seen_is_what_is_not_expired.Goals as goal

pub returns : goal.returns
returns c = get-seen
