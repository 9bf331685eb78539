use Rattle.std.proofs.Common.{rules, ◌≡◌, ◌≤◌, ◌++◌, Err, get_or, length, refl, sym, subst, take, arith}
use Rattle.mr_world_player.specs.Staging.{GoesOn}
use Rattle.mr_world_player.proofs.Going.{breaks_out, goes_out, one_came, one_failed, whole_came}
use Rattle.mr_world_player.proofs.stage.Stage.read_all.Goals as goal

pub returns-in_err-read : goal.returns-in_err-read
returns-in_err-read g c = λ size w read old v rest st h.
    let told = g.W.Write.contents in
    let bytes = c.args.bytes.now in let i = c.loop-byte.byte-index in
    let before = c.loop-byte.invariant size w read old v rest st h in
    let why = c.in_err-read.field-0.0 in
    let is : c.from_residual.result ≡ Err why = search rules in
    subst (λ r. GoesOn size w (read ++ bytes) old c.read.new.self (told c.read.new.output) r) (sym is)
    (one_failed size w read bytes old why (told c.read.new.output) i (get_or bytes i 0) c.loop-byte-test.true refl
    (c.in_err-read.ensures size w (read ++ take i bytes) old before.world before.rest before.stands before.goes))

pub loop-byte-preserved : goal.loop-byte-preserved
loop-byte-preserved g c = λ size w read old v rest st h.
    let told = g.W.Write.contents in
    let bytes = c.args.bytes.now in let i = c.loop-byte.byte-index in
    let before = c.loop-byte.invariant size w read old v rest st h in
    one_came size w read bytes old c.read.new.self (told c.read.new.output) i (get_or bytes i 0) c.loop-byte-test.true refl
    (c.in_ok-read.ensures size w (read ++ take i bytes) old before.world before.rest before.stands before.goes)

pub returns-in-Ok : goal.returns-in-Ok
returns-in-Ok g c = λ size w read old v rest st h.
    let told = g.W.Write.contents in
    let bytes = c.args.bytes.now in let i = c.loop-byte.byte-index in
    let over = c.loop-byte-test.false in
    let all : length bytes ≤ i = omega (arith, over) in
    goes_out size w (read ++ bytes) old c.loop-byte.self (told c.loop-byte.output) (told c.flush.new.self)
    (whole_came size w read bytes old c.loop-byte.self (told c.loop-byte.output) i all (c.loop-byte.invariant size w read old v rest st h)) c.flush.ensures.bytes

pub returns-in-Err : goal.returns-in-Err
returns-in-Err g c = λ size w read old v rest st h.
    let told = g.W.Write.contents in
    let bytes = c.args.bytes.now in let i = c.loop-byte.byte-index in
    let over = c.loop-byte-test.false in
    let all : length bytes ≤ i = omega (arith, over) in
    breaks_out size w (read ++ bytes) old c.loop-byte.self (told c.loop-byte.output) (told c.flush.new.self)
    (whole_came size w read bytes old c.loop-byte.self (told c.loop-byte.output) i all (c.loop-byte.invariant size w read old v rest st h)) c.flush.ensures.bytes
