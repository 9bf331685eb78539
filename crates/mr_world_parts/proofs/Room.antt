-- When what comes is too much for an end.
use Rattle.std.proofs.Common.{◌≡◌, ◌+◌, ◌-◌, ◌<◌, ◌^◌, ℕ, Bool, true, false, Option, None, Some, length, refl, arith}
use Rattle.std.specs.Prelude.{if◌then◌else◌}
pub use Rattle.std.proofs.lemmas.Option.{none-some as no_some}
use Rattle.mr_links.specs.declared.link_id.LinkId.{LinkId}
use Rattle.mr_node_links.specs.State.{EndState, full, serves, unread_in}
use Rattle.mr_node_links.specs.State.EndState.{client, waiting, replica, upstream, shut}
use Rattle.mr_node_spec.specs.State.{NodeState, IsTooMuch, end_of, room_at, room_of}
use Rattle.law_refinement.proofs.Places.{some_is}

record IsOver (o : Option EndState) (count : ℕ) : Type 0 where
  pub end : EndState
  pub found : o ≡ Some end
  pub served : serves end ≡ true
  pub over : full < length (unread_in end) + count

over_room : (o : Option EndState) (room count : ℕ) → room_at o ≡ Some room → room < count → count < 2 ^ 64 → IsOver o count
over_room None room count e h few = absurd (no_some room e)
over_room (Some (client u)) room count e h few = let r = some_is (full - length u) room e in record { end = client u; found = refl; served = refl; over = omega (arith, r, h) }
over_room (Some (waiting t u)) room count e h few = let r = some_is (full - length u) room e in record { end = waiting t u; found = refl; served = refl; over = omega (arith, r, h) }
over_room (Some (replica u)) room count e h few = let r = some_is (full - length u) room e in record { end = replica u; found = refl; served = refl; over = omega (arith, r, h) }
over_room (Some upstream) room count e h few = let r = some_is (2 ^ 64 - 1) room e in absurd (omega (arith, r, h, few))
over_room (Some shut) room count e h few = let r = some_is (2 ^ 64 - 1) room e in absurd (omega (arith, r, h, few))

module _ (a : NodeState) (l : LinkId) (room count : ℕ) where
  here : (b : Bool) → (if b then room_at (end_of a l) else None) ≡ Some room → (b ≡ true) × (room_at (end_of a l) ≡ Some room)
  here true e = (refl, e)
  here false e = absurd (no_some room e)

  pub is_too_much : room_of a l ≡ Some room → room < count → count < 2 ^ 64 → IsTooMuch a l count
  is_too_much e h few = let p = here a.core.up e in let v = over_room (end_of a l) room count p.1 h few in record { up = p.0; end = v.end; found = v.found; served = v.served; over = v.over }
