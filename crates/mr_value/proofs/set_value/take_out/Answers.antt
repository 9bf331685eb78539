use Rattle.mr_value.proofs.SetLemmas.{same_short, taken_by_same}
use Rattle.mr_value.proofs.set_value.take_out.Goals as goal

pub returns-in-Some : goal.returns-in-Some
returns-in-Some c =
    let same = same_short c.of.result c.in-Some.short c.args.member.now c.of.ensures.same c.in-Some.is in
    taken_by_same c.in-Some.short c.args.member.now c.args.members.now c.take.new.self c.take.result same c.take.ensures
