use Rattle.mr_groups.proofs.Lone.{lone_not_open}
use Rattle.mr_follower.proofs.laws.more_is_wanted_in_frames.Goals as goal

pub returns : goal.returns
returns c = λ u room found alone opened. lone_not_open u found.front found.behind found.words found.command alone found.is opened
