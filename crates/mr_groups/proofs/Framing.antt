-- A frame, written part by part.
use Rattle.std.proofs.Common.{ℕ, List}
use Rattle.mr_resp.specs.Appends.{Extends}
use Rattle.mr_resp.proofs.AppendsLemmas.{Extends-trans, Extends-append, Extends-same}

pub after : (a b c : List ℕ) → Extends a b → Extends b c → Extends a c
after a b c p q = Extends-trans a b c p q

pub ruleset steps = (after, Extends-append, Extends-same)
