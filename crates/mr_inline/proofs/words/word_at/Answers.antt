use Rattle.std.proofs.Common.{arith}
use Rattle.mr_inline.proofs.CutSteps.{no_double, no_single}
use Rattle.mr_inline.proofs.words.word_at.Goals as goal

pub returns-in_ok-end-in-DoubleQuote-clause-borrowed : goal.returns-in_ok-end-in-DoubleQuote-clause-borrowed
returns-in_ok-end-in-DoubleQuote-clause-borrowed c = λ h. no_double c.args.line.now c.args.start c.plain_end-end.result c.plain_end-end.ensures (omega (arith, c.plain_end-end.ensures.inside, c.if-end-line.false)) c.in-DoubleQuote.ensures h

pub returns-in_ok-end-in-SingleQuote-clause-borrowed : goal.returns-in_ok-end-in-SingleQuote-clause-borrowed
returns-in_ok-end-in-SingleQuote-clause-borrowed c = λ h. no_single c.args.line.now c.args.start c.plain_end-end.result c.plain_end-end.ensures (omega (arith, c.plain_end-end.ensures.inside, c.if-end-line.false)) c.in-SingleQuote.ensures h
