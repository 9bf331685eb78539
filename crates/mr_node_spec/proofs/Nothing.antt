-- Where nothing was read, more bytes make a request.
use Rattle.std.proofs.Common.{rules, [], ◌∷◌, inl, inr, refl, lit<}
use Rattle.mr_node_spec.specs.Requests.{Waits}

pub waits_nothing : Waits []
waits_nothing = record { more = record { more = 42 ∷ 45 ∷ 49 ∷ 13 ∷ 10 ∷ []; some = lit< tt; are_bytes = search rules; whole = inr (inl (inr refl)) } }
