use Rattle.mr_cmd_zset.proofs.PlaceLemmas.{stands_in}
use Rattle.mr_cmd_zset.proofs.place_law.members_stand_at_their_places.Goals as goal

pub returns : goal.returns
returns c = stands_in
