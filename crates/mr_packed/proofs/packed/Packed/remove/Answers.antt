use Rattle.std.proofs.Common.{length, ap, arith}
use Rattle.mr_packed.specs.Packing.{strings_of}
use Rattle.mr_packed.proofs.Packing.{count_bound}
use Rattle.mr_packed.proofs.packed.Packed.remove.Goals as goal

pub prove-unreachable-requires : goal.prove-unreachable-requires
prove-unreachable-requires c =
    omega (arith, c.if-prove.true, c.len.ensures, c.requires.within, ap length c.self.view_is, count_bound _ (strings_of c.self.inside.bytes.items) c.self.invariant, c.self.inside.bytes.ok)
