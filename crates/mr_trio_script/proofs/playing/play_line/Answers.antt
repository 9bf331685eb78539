use Rattle.std.proofs.Common.{subst, ◌∙◌, List, ℕ}
use Rattle.std.specs.Prelude.{OnOk, OnErr}
use Rattle.std.specs.Io.KnownBytes.{Appends}
use Rattle.mr_trio_script.specs.Asking.{IsAsked}
use Rattle.mr_file.specs.Outputs.{IsBegun}
use Rattle.mr_trio_script.specs.Scripts.{reply}
use Rattle.mr_trio_script.specs.declared.asking.Asked.{Asked}
use Rattle.mr_trio_script.proofs.LinesPlayed.{told_line}
use Rattle.mr_trio_script.proofs.playing.play_line.Goals as goal

pub returns-in-Ok : goal.returns-in-Ok
returns-in-Ok g c =
    let P : Asked → Type 0 = λ it. IsAsked c.args.line.now it in
    let asks = subst P c.in-Ok-Request.field-0-is c.in-Ok-Request.ensures in
    let said = c.in-Ok.ensures in
    let text = c.as_slice.ensures.value ∙ said.is in
    let W : List ℕ → Type 0 = λ bytes. OnOk c.tell-in-Ok.result (Appends (g.W.Write.contents c.args.output.now) (g.W.Write.contents c.tell-in-Ok.new.output) bytes) in
    let B : List ℕ → Type 0 = λ bytes. OnErr c.tell-in-Ok.result (IsBegun (g.W.Write.contents c.args.output.now) (g.W.Write.contents c.tell-in-Ok.new.output) bytes) in
    told_line g.N.Nodes.conduct _ _ c.args.line.now (reply said.reply) _ _ c.tell-in-Ok.result (record { place = _; words = _; asks = asks; answers = said.answers; is_reply = said.is_reply }) (subst W text c.tell-in-Ok.ensures.written) (subst B text c.tell-in-Ok.ensures.begun) c.tell-in-Ok.ensures.fault
