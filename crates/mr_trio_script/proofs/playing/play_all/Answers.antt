use Rattle.std.proofs.Common.{subst, ℕ, List, []}
use Rattle.std.specs.Prelude.{Ok, Err}
use Rattle.std.proofs.KnownBytes.{Appends-nil, Consumes-nil}
use Rattle.mr_trio_script.specs.Inputs.{Took}
use Rattle.mr_trio_script.specs.Scripts.{PlaysLine}
use Rattle.mr_trio_script.specs.declared.taking.NextLine.{NextLine}
use Rattle.mr_trio_script.proofs.LinesPlayed.{all_played, line_failed, none_played, played_more, stopped}
use Rattle.mr_trio_script.proofs.playing.play_all.Goals as goal

pub loop-line-init : goal.loop-line-init
loop-line-init g c = none_played g.N.Nodes.conduct _ _ _

pub returns-in-Ok-End : goal.returns-in-Ok-End
returns-in-Ok-End g c =
    let T : NextLine → Type 0 = λ next. Took next c.next_line.new.line.items (g.R.Read.remaining c.loop-line.input) (g.R.Read.remaining c.next_line.new.input) in
    all_played g.N.Nodes.conduct _ _ _ _ _ _ _ c.next_line.new.line.items c.loop-line.invariant (subst T c.in-Ok-End.field-0-is c.in-Ok-End.ensures.took)

pub returns-in-Err : goal.returns-in-Err
returns-in-Err g c =
    let T : NextLine → Type 0 = λ next. Took next c.next_line.new.line.items (g.R.Read.remaining c.loop-line.input) (g.R.Read.remaining c.next_line.new.input) in
    let L : List ℕ → Type 0 = λ line. PlaysLine g.N.Nodes.conduct c.loop-line.nodes line (g.W.Write.contents c.loop-line.output) (g.W.Write.contents c.play_line.new.output) c.play_line.new.nodes (Err c.in-Err.fault) in
    line_failed g.N.Nodes.conduct _ _ _ _ _ _ _ _ _ c.next_line.new.line.items c.loop-line.invariant c.in-Err.fault (subst T c.in-Ok-Line.field-0-is c.in-Ok-Line.ensures.took) (subst L c.as_slice.ensures.value c.in-Err.ensures)

pub returns-in-Err-Read : goal.returns-in-Err-Read
returns-in-Err-Read g c = stopped g.N.Nodes.conduct _ c.loop-line.nodes c.loop-line.nodes _ _ _ _ _ _ c.next_line.new.line.items c.loop-line.invariant c.in-Err-Read.ensures.failed.consumed (Appends-nil _)

pub returns-in-Err-Memory : goal.returns-in-Err-Memory
returns-in-Err-Memory g c = stopped g.N.Nodes.conduct _ c.loop-line.nodes c.loop-line.nodes _ _ _ _ _ _ c.next_line.new.line.items c.loop-line.invariant c.in-Err-Memory.ensures.failed.consumed (Appends-nil _)

pub loop-line-preserved : goal.loop-line-preserved
loop-line-preserved g c =
    let T : NextLine → Type 0 = λ next. Took next c.next_line.new.line.items (g.R.Read.remaining c.loop-line.input) (g.R.Read.remaining c.next_line.new.input) in
    let L : List ℕ → Type 0 = λ line. PlaysLine g.N.Nodes.conduct c.loop-line.nodes line (g.W.Write.contents c.loop-line.output) (g.W.Write.contents c.play_line.new.output) c.play_line.new.nodes (Ok tt) in
    played_more g.N.Nodes.conduct _ _ _ _ _ _ _ _ _ c.next_line.new.line.items c.loop-line.invariant (subst T c.in-Ok-Line.field-0-is c.in-Ok-Line.ensures.took) (subst L c.as_slice.ensures.value c.in-Ok.ensures)

pub returns : goal.returns
returns g c = stopped g.N.Nodes.conduct _ c.loop-line.nodes c.loop-line.nodes _ (g.R.Read.remaining c.loop-line.input) _ _ (g.W.Write.contents c.loop-line.output) _ [] c.loop-line.invariant (Consumes-nil _) (Appends-nil _)
