use Rattle.mr_cmd_string.proofs.SettingAllLaws.{mset_few, msetnx_few}
use Rattle.mr_cmd_string.proofs.sequels.mset_has_an_effect_no_longer_than_it.Goals as goal

pub returns-clause-all : goal.returns-clause-all
returns-clause-all c = mset_few

pub returns-clause-new : goal.returns-clause-new
returns-clause-new c = msetnx_few
