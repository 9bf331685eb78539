use Rattle.std.proofs.Common.{length, ap, arith}
use Rattle.mr_packed.specs.Packing.{strings_of}
use Rattle.mr_packed.proofs.Packing.{count_bound}
use Rattle.mr_packed.proofs.packed.Packed.len.Goals as goal

pub returns-clause-small : goal.returns-clause-small
returns-clause-small c =
    let same = ap (λ l. length (strings_of l)) c.deref.ensures.value in
    omega (arith, same, c.count.ensures, count_bound _ (strings_of c.self.inside.bytes.items) c.self.invariant, c.self.inside.bytes.ok, c.self.inside.bytes.small)
