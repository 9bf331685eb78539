use Rattle.std.proofs.Common.{subst}
use Rattle.mr_trio_script.specs.ReplyLines.{IsFeedOf}
use Rattle.mr_trio_script.proofs.Fronts.{no_line, none_before, one_before, other_before, line_before}
use Rattle.mr_trio_script.proofs.reply_line.first_line.Goals as goal

pub returns-in_default-clause-none : goal.returns-in_default-clause-none
returns-in_default-clause-none c = no_line c.args.bytes.now (subst (IsFeedOf c.args.bytes.now) c.in_default.is c.feed_of.ensures)

pub returns-in_default-split_first-clause-none : goal.returns-in_default-split_first-clause-none
returns-in_default-split_first-clause-none c =
    let at = subst (IsFeedOf c.args.bytes.now) c.in-Some.is c.feed_of.ensures in
    none_before c.args.bytes.now c.in-Some.feed at c.in_default-split_first.ensures.cases

pub returns-in_default-split_last-clause-none : goal.returns-in_default-split_last-clause-none
returns-in_default-split_last-clause-none c =
    let at = subst (IsFeedOf c.args.bytes.now) c.in-Some.is c.feed_of.ensures in
    let h = c.in-Some-split_first.ensures.cases in
    let k = c.in_default-split_last.ensures.cases in
    one_before c.args.bytes.now c.in-Some-split_first.behind.now c.in-Some.feed c.in-Some-split_first.form.now at h.0 k

pub returns-then-last-ne13-clause-none : goal.returns-then-last-ne13-clause-none
returns-then-last-ne13-clause-none c =
    let at = subst (IsFeedOf c.args.bytes.now) c.in-Some.is c.feed_of.ensures in
    let h = c.in-Some-split_first.ensures.cases in
    let k = c.in-Some-split_last.ensures.cases in
    let n = c.if-last-ne13.true in
    other_before c.args.bytes.now c.in-Some-split_first.behind.now c.in-Some-split_last.text.now c.in-Some.feed c.in-Some-split_first.form.now c.in-Some-split_last.last.now at h.0 k.0 n

pub returns-clause-some : goal.returns-clause-some
returns-clause-some c =
    let at = subst (IsFeedOf c.args.bytes.now) c.in-Some.is c.feed_of.ensures in
    let h = c.in-Some-split_first.ensures.cases in
    let k = c.in-Some-split_last.ensures.cases in
    let n = c.if-last-ne13.false in
    line_before c.args.bytes.now c.in-Some-split_first.behind.now c.in-Some-split_last.text.now c.in-Some.feed c.in-Some-split_first.form.now c.in-Some-split_last.last.now at h.0 k.0 n
