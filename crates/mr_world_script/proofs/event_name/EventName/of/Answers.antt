use Rattle.std.proofs.Common.{◌∙◌, ap}
use Rattle.std.specs.Prelude.{find}
use Rattle.mr_world_script.specs.Reading.{is_named, named}
use Rattle.mr_world_script.proofs.event_name.EventName.of.Goals as goal

pub returns : goal.returns
unfolding named
returns c = c.among.ensures ∙ ap (find (is_named c.args.word.now)) c.all.ensures
