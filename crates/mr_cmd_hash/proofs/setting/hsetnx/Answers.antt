use Rattle.std.proofs.Common.{rules}
use Rattle.mr_cmd_hash.proofs.Single.{new_set}
use Rattle.mr_cmd_hash.proofs.setting.hsetnx.Goals as goal

pub returns : goal.returns
returns c = new_set _ _ _ _ _ _ _ (search rules) (search rules) (search rules)
