use Rattle.std.proofs.Common.{◌≡◌, true, false, nat_eq, inl, inr, ap, ◌∙◌}
use Rattle.std.specs.Net.Socket.{v4_ip}
use lib.Pointwise.{pointwise}
use Rattle.mr_wire.specs.Peer.{localhost}
use Rattle.mr_wire.proofs.peer.peer_named.Goals as goal

pub returns-in-Err-clause-none : goal.returns-in-Err-clause-none
returns-in-Err-clause-none c = λ _ peer named. elim named.0 [
  | inl text ↦ c.in-Err.ensures (v4_ip peer) text
  | inr name ↦ let other : false ≡ true = c.if-eq.ensures ∙ ap (λ h. pointwise nat_eq h localhost) name.0 in cc
]
