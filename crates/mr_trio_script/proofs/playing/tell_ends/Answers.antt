use Rattle.mr_trio_script.proofs.EndsTold.{first_cut, second_cut, all_ends}
use Rattle.mr_trio_script.proofs.playing.tell_ends.Goals as goal

pub returns-in-Err : goal.returns-in-Err
returns-in-Err g c = first_cut g.N.Nodes.conduct c.args.nodes.now _ _ c.in-Err.fault c.in-Err.ensures

pub returns-in-Err-tell_end : goal.returns-in-Err-tell_end
returns-in-Err-tell_end g c = second_cut g.N.Nodes.conduct c.args.nodes.now _ _ _ c.in-Err-tell_end.fault c.in-Ok.ensures c.in-Err-tell_end.ensures

pub returns : goal.returns
returns g c = all_ends g.N.Nodes.conduct c.args.nodes.now _ _ _ _ c.tell_end-3.result c.in-Ok.ensures c.in-Ok-tell_end.ensures c.tell_end-3.ensures
