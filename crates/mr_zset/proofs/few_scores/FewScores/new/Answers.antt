use Rattle.std.specs.FinMap.{entries}
use Rattle.mr_zset.specs.Stored.{scores_of}
use Rattle.mr_zset.proofs.ScanLemmas.{behind_none}
use Rattle.mr_zset.proofs.few_scores.FewScores.«new».Goals as goal

pub returns : goal.returns
returns c = behind_none (entries (scores_of c.args.pairs.now))
