use Rattle.std.proofs.Common.{◌∙◌}
use Rattle.mr_map.specs.Bytes.{lent}
use Rattle.mr_zset.proofs.NoMember.{none_out}
use Rattle.mr_zset.proofs.sorted_set.ZSet.remove_all.Goals as goal

pub returns : goal.returns
returns c = c.self.view_is ∙ none_out c.self.inside.ranked c.args.self.now c.self.view_is c.in_default.is (lent c.args.members.now)
