use Rattle.std.proofs.Common.{subst, inl, inr}
use Rattle.mr_inline.specs.Scans.{ReadsLine}
use Rattle.mr_inline.specs.declared.scan.LineScan.{LineScan}
use Rattle.mr_inline.specs.Limits.{line_limit}
use Rattle.mr_trio_script.proofs.LineReads.{longer, unfinished, failed}
use Rattle.mr_trio_script.proofs.line.script_line.Goals as goal

pub returns-else-used-line-clause-read : goal.returns-else-used-line-clause-read
returns-else-used-line-clause-read c =
    let P : LineScan → Type 0 = λ scan. ReadsLine line_limit c.args.line.now scan in
    let h = subst P c.in-Whole.is c.in_ok-words.ensures.found in
    longer line_limit c.args.line.now c.in-Whole.used h.0 c.if-used-line.false (inl (_, h.1))

pub returns-else-used-line-2-clause-read : goal.returns-else-used-line-2-clause-read
returns-else-used-line-2-clause-read c =
    let P : LineScan → Type 0 = λ scan. ReadsLine line_limit c.args.line.now scan in
    let h = subst P c.in-Skip.is c.in_ok-words.ensures.found in
    longer line_limit c.args.line.now c.in-Skip.used h.0 c.if-used-line-2.false (inr h.1)

pub returns-in-More-clause-read : goal.returns-in-More-clause-read
returns-in-More-clause-read c =
    let P : LineScan → Type 0 = λ scan. ReadsLine line_limit c.args.line.now scan in
    unfinished line_limit c.args.line.now (subst P c.in-More.is c.in_ok-words.ensures.found)

pub returns-in-Bad-clause-read : goal.returns-in-Bad-clause-read
returns-in-Bad-clause-read c =
    let P : LineScan → Type 0 = λ scan. ReadsLine line_limit c.args.line.now scan in
    failed line_limit c.in-Bad._fault c.args.line.now (subst P c.in-Bad.is c.in_ok-words.ensures.found)
