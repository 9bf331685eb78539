use Rattle.std.proofs.Common.{arith}
use Rattle.mr_trio_script.proofs.Behinds.{denied, too_few, no_end, word_behind}
use Rattle.mr_trio_script.proofs.head.word_len.Goals as goal

pub returns-then-rest-lt2-clause-none : goal.returns-then-rest-lt2-clause-none
returns-then-rest-lt2-clause-none c =
    too_few c.args.text.now c.args.rest.now c.in-Some.count (denied _ c.is_none.ensures c.if-is_none.false) c.in-Some.ensures.some c.in-Some.ensures.within (omega (arith, c.if-rest-lt2.true))

pub returns-then-rest-count-clause-none : goal.returns-then-rest-count-clause-none
returns-then-rest-count-clause-none c =
    too_few c.args.text.now c.args.rest.now c.in-Some.count (denied _ c.is_none.ensures c.if-is_none.false) c.in-Some.ensures.some c.in-Some.ensures.within (omega (arith, c.if-rest-count.true, c.if-rest-lt2.false))

pub returns-then-not-is_line_end-clause-none : goal.returns-then-not-is_line_end-clause-none
returns-then-not-is_line_end-clause-none c =
    no_end c.args.text.now c.args.rest.now c.in-Some.count (denied _ c.is_none.ensures c.if-is_none.false) c.in-Some.ensures.some c.in-Some.ensures.within (denied _ c.is_line_end.ensures c.if-not-is_line_end.true)

pub returns-clause-some : goal.returns-clause-some
returns-clause-some c =
    word_behind c.args.text.now c.args.rest.now c.in-Some.count (denied _ c.is_none.ensures c.if-is_none.false) c.in-Some.ensures.some c.in-Some.ensures.within (omega (arith, c.if-rest-count.false, c.if-rest-lt2.false)) (c.is_line_end.ensures.0 c.if-not-is_line_end.false)
