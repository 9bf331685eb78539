use Rattle.std.proofs.Common.{◌∙◌}
use Rattle.mr_map.proofs.Parted.{none_got, none_removed}
use Rattle.mr_zset.proofs.sorted_set.ZSet.remove.Goals as goal

pub returns-clause-before : goal.returns-clause-before
returns-clause-before c = none_got c.self.inside.ranked c.args.self.now c.self.view_is c.in_default.is c.args.member.now

pub returns-clause-removed : goal.returns-clause-removed
returns-clause-removed c = c.self.view_is ∙ none_removed c.self.inside.ranked c.args.self.now c.self.view_is c.in_default.is c.args.member.now
