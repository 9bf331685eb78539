use Rattle.std.proofs.Common.{◌+◌, ◌<◌, length, sym, ap₂, ◌∙◌, arith}
use Rattle.mr_packed.specs.Packing.{strings_of}
use Rattle.mr_packed.proofs.Packing.{count_bound, ended, goes_on, size_at, next_start, ends_within, starts_within}
use Rattle.mr_packed.proofs.bytes.count.Goals as goal

pub returns-then-here-bytes : goal.returns-then-here-bytes
returns-then-here-bytes c = ended c.args.bytes.now (strings_of c.args.bytes.now) c.loop-at.at c.loop-at.here c.requires c.loop-at.invariant.here c.loop-at.invariant.within c.if-here-bytes.true

pub bounds-bytes-here : goal.bounds-bytes-here
bounds-bytes-here c =
    let strings = strings_of c.args.bytes.now in
    let some : c.loop-at.at < length strings = goes_on _ strings c.loop-at.at c.loop-at.here c.requires c.loop-at.invariant.here c.loop-at.invariant.within c.if-here-bytes.false in
    starts_within _ strings c.loop-at.at _ c.requires c.loop-at.invariant.here some

pub overflow_add-here-in-loop-at : goal.overflow_add-here-in-loop-at
overflow_add-here-in-loop-at c =
    let strings = strings_of c.args.bytes.now in
    let some : c.loop-at.at < length strings = goes_on _ strings c.loop-at.at c.loop-at.here c.requires c.loop-at.invariant.here c.loop-at.invariant.within c.if-here-bytes.false in
    omega (arith, size_at _ strings c.loop-at.at _ c.requires c.loop-at.invariant.here some, ends_within _ strings c.loop-at.at _ c.requires c.loop-at.invariant.here some)

pub loop-at-preserved : goal.loop-at-preserved
loop-at-preserved c =
    let strings = strings_of c.args.bytes.now in
    let some : c.loop-at.at < length strings = goes_on _ strings c.loop-at.at c.loop-at.here c.requires c.loop-at.invariant.here c.loop-at.invariant.within c.if-here-bytes.false in
    record {
      here = ap₂ (λ m n. m + (n + 1)) c.loop-at.invariant.here (size_at _ strings c.loop-at.at _ c.requires c.loop-at.invariant.here some) ∙ sym (next_start strings c.loop-at.at some);
      within = omega (arith, some);
    }

pub returns : goal.returns
returns c = omega (arith, c.loop-at-test.false, c.loop-at.invariant.within, count_bound _ (strings_of c.args.bytes.now) c.requires)
