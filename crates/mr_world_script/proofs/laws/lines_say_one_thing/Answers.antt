use Rattle.std.proofs.Common.{◌≡◌, [], Some, refl, ap, sym, ◌∙◌}
use Rattle.mr_inline.proofs.LinesByRuns.{one_list}
use Rattle.mr_inline.specs.Limits.{line_limit}
use Rattle.mr_world_script.specs.Reading.{said_by}
use Rattle.mr_world_script.proofs.Spoken.{what_is_said}
use Rattle.mr_world_script.proofs.laws.lines_say_one_thing.Goals as goal

pub returns : goal.returns
returns c text one other p q =
    let same = one_list line_limit text text [] [] p.words q.words p.line q.line refl in
    let first = what_is_said p.words one p.says in
    let second = what_is_said q.words other q.says in
    let both : Some one ≡ Some other = sym first ∙ ap said_by same ∙ second in
    cc
