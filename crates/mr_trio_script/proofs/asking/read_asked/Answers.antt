use Rattle.std.proofs.Common.{subst}
use Rattle.mr_trio_script.specs.Lines.{Reads}
use Rattle.mr_trio_script.specs.declared.line.ScriptLine.{ScriptLine}
use Rattle.mr_trio_script.proofs.Asked.{asked_by}
use Rattle.mr_trio_script.proofs.asking.read_asked.Goals as goal

pub returns-in-Words : goal.returns-in-Words
returns-in-Words c =
    let P : ScriptLine → Type 0 = λ said. Reads c.args.line.now said in
    asked_by c.args.line.now _ c.request.result (subst P c.in-Words.is c.in_ok-script_line.ensures.read) c.request.ensures
