use Rattle.std.proofs.Common.{None, sym, subst}
use Rattle.mr_zset.specs.Few.{AreNamed}
use Rattle.mr_zset.proofs.NameLemmas.{named_none}
use Rattle.mr_zset.proofs.ranked.Ranked.«new».Goals as goal

pub invariant_of-result : goal.invariant_of-result
invariant_of-result c = subst (AreNamed None) (sym c.«new».ensures) named_none
