use Rattle.std.proofs.Common.{◌≡◌, ◌≢◌, ◌-◌, ◌++◌, ℕ, suc, List, Option, subst, sym, arith}
use Rattle.std.specs.Prelude.{IfNone}
use Rattle.mr_trio_script.specs.Heads.{IsFirst, NoneIsFirst}
use Rattle.mr_trio_script.specs.Replies.{IsReply}
use Rattle.mr_trio_script.proofs.Readings.{HasRead, behind_is, begun, is_read, none_reads, read_on, too_many}
use Rattle.mr_trio_script.proofs.reply.reply_end.Goals as goal

pub loop-left-init : goal.loop-left-init
loop-left-init c = begun c.args.bytes.now

pub returns-in_err-head-clause-none : goal.returns-in_err-head-clause-none
returns-in_err-head-clause-none c =
    let k : c.loop-left.left ≡ suc (c.loop-left.left - 1) = omega (arith, c.loop-left-test.true) in
    let h = subst (HasRead c.args.bytes.now c.loop-left.at) k c.loop-left.invariant in
    let P : Option ℕ → Type 0 = λ o. IfNone o ((text rest : List ℕ) → IsReply text → c.args.bytes.now ≢ text ++ rest) in
    subst P (sym c.from_residual.ensures) (none_reads c.args.bytes.now c.loop-left.at (c.loop-left.left - 1) h (subst NoneIsFirst (behind_is c.args.bytes.now c.loop-left.at) c.in_err-head.ensures.none))

pub returns-then-head-bytes-clause-none : goal.returns-then-head-bytes-clause-none
returns-then-head-bytes-clause-none c =
    let k : c.loop-left.left ≡ suc (c.loop-left.left - 1) = omega (arith, c.loop-left-test.true) in
    let h = subst (HasRead c.args.bytes.now c.loop-left.at) k c.loop-left.invariant in
    let on = read_on c.args.bytes.now c.loop-left.at (c.loop-left.left - 1) c.in_ok-head.head h (subst (λ (xs : List ℕ). IsFirst xs c.in_ok-head.head) (behind_is c.args.bytes.now c.loop-left.at) c.in_ok-head.ensures.some) in
    too_many c.args.bytes.now _ _ on (omega (arith, c.if-head-bytes.true))

pub returns-then-left-bytes-clause-none : goal.returns-then-left-bytes-clause-none
returns-then-left-bytes-clause-none c =
    let k : c.loop-left.left ≡ suc (c.loop-left.left - 1) = omega (arith, c.loop-left-test.true) in
    let h = subst (HasRead c.args.bytes.now c.loop-left.at) k c.loop-left.invariant in
    let on = read_on c.args.bytes.now c.loop-left.at (c.loop-left.left - 1) c.in_ok-head.head h (subst (λ (xs : List ℕ). IsFirst xs c.in_ok-head.head) (behind_is c.args.bytes.now c.loop-left.at) c.in_ok-head.ensures.some) in
    too_many c.args.bytes.now _ _ on (omega (arith, c.if-head-bytes.false, c.if-left-bytes.true))

pub loop-left-preserved : goal.loop-left-preserved
loop-left-preserved c =
    let k : c.loop-left.left ≡ suc (c.loop-left.left - 1) = omega (arith, c.loop-left-test.true) in
    let h = subst (HasRead c.args.bytes.now c.loop-left.at) k c.loop-left.invariant in
    read_on c.args.bytes.now c.loop-left.at (c.loop-left.left - 1) c.in_ok-head.head h (subst (λ (xs : List ℕ). IsFirst xs c.in_ok-head.head) (behind_is c.args.bytes.now c.loop-left.at) c.in_ok-head.ensures.some)

pub returns-clause-some : goal.returns-clause-some
returns-clause-some c =
    let none : c.loop-left.left ≡ 0 = omega (arith, c.loop-left-test.false) in
    is_read c.args.bytes.now c.loop-left.at (subst (HasRead c.args.bytes.now c.loop-left.at) none c.loop-left.invariant)
