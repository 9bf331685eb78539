use Rattle.mr_world_player.proofs.Rounds.{no_script}
use Rattle.mr_world_player.proofs.whole.world.Goals as goal

pub returns-in_default : goal.returns-in_default
returns-in_default g c = no_script c.args.backlog (g.R.Read.remaining c.args.input.now) (g.W.Write.contents c.args.output.now)

pub returns : goal.returns
returns g c = c.play_all.ensures c.args.backlog (record { backlog = c.new-stage.ensures.backlog; world = c.new-stage.ensures.world; line = c.new-stage.ensures.line })
