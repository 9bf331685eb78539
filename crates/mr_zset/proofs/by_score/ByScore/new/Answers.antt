use Rattle.std.proofs.Common.{ap}
use Rattle.mr_zset.specs.Stored.{scores_of}
use Rattle.mr_zset.proofs.ScanLemmas.{are_stored}
use Rattle.mr_zset.proofs.StoredChanges.{AreStored-empty}
use Rattle.mr_zset.proofs.by_score.ByScore.«new».Goals as goal

pub invariant_of-result : goal.invariant_of-result
invariant_of-result c = are_stored _ _ (AreStored-empty _ c.«new».ensures)

pub returns : goal.returns
returns c = ap scores_of c.«new».ensures
