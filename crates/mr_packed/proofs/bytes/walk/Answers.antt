use Rattle.std.proofs.Common.{◌+◌, ◌<◌, length, sym, ap₂, ◌∙◌, arith}
use Rattle.mr_packed.specs.Packing.{strings_of}
use Rattle.mr_packed.proofs.Packing.{size_at, next_start, ends_within, starts_within}
use Rattle.mr_packed.proofs.bytes.walk.Goals as goal

pub bounds-bytes-here : goal.bounds-bytes-here
bounds-bytes-here c =
    let strings = strings_of c.args.bytes.now in
    let place = c.loop.counter in
    let some : place < length strings = omega (arith, c.loop-test.true, c.requires.within) in
    starts_within _ strings place _ c.requires.packing c.loop.invariant some

pub overflow_add-here-in-loop : goal.overflow_add-here-in-loop
overflow_add-here-in-loop c =
    let strings = strings_of c.args.bytes.now in
    let place = c.loop.counter in
    let some : place < length strings = omega (arith, c.loop-test.true, c.requires.within) in
    omega (arith, size_at _ strings place _ c.requires.packing c.loop.invariant some, ends_within _ strings place _ c.requires.packing c.loop.invariant some)

pub loop-preserved : goal.loop-preserved
loop-preserved c =
    let strings = strings_of c.args.bytes.now in
    let place = c.loop.counter in
    let some : place < length strings = omega (arith, c.loop-test.true, c.requires.within) in
    ap₂ (λ m n. m + (n + 1)) c.loop.invariant (size_at _ strings place _ c.requires.packing c.loop.invariant some) ∙ sym (next_start strings place some)
