-- A half that an event leaves alone is live in the World behind it.
use Rattle.std.proofs.Common.{◌≡◌, ℕ, Bool, true, false, Some, refl, sym, ap, ◌∙◌}
use Rattle.std.specs.Prelude.{slice_get}
use Rattle.mr_links.specs.declared.link_id.LinkId.{LinkId}
use Rattle.mr_connections.specs.State.{ConnectionState}
use Rattle.law_refinement.specs.State.{Link, Slot, WorldState}
use Rattle.law_refinement.specs.Carrying.{shut_if}
use Rattle.law_refinement.proofs.Places.{some_is}
use Rattle.mr_links.specs.declared.side.Side.{Side}
use Rattle.mr_links.specs.declared.side.Side.TheVariants as side
use Rattle.law_servers.specs.Worlds.{IsEndOf, IsServedAs}
use Rattle.law_systems.specs.System.{Connection}
use Rattle.law_systems.proofs.Mirrors.{IsLive, IsSide}

module _ (w v : WorldState) (m : ℕ) (s : Slot) (c : ℕ) (k : Connection) (l : Link) (held : ConnectionState) (found : slice_get w.links c ≡ Some l) where
  served_still : (name : LinkId) → slice_get v.links c ≡ Some l → IsServedAs w m name c → IsServedAs v m name c
  served_still name e h =
      let same : l ≡ h.link = some_is l h.link (sym found ∙ h.at.found) in record {
        link = l;
        at = record { found = e; serving = ap (λ (z : Link). z.serving) same ∙ h.at.serving };
        to = ap (λ (z : Link). z.to) same ∙ h.to;
        named = ap (λ (z : Link). z.name) same ∙ h.named;
      }

  end_still : (at : Side) (name : LinkId) → slice_get v.links c ≡ Some l → IsEndOf w m s name c at → IsEndOf v m s name c at
  end_still side.Server name e h = served_still name e h
  end_still side.Opener name e h = h

  side_still : (at : Side) → slice_get v.links c ≡ Some l → IsSide w m s c k l at held → IsSide v m s c k l at held
  side_still at e (IsSide.is_open name linked h taken) = IsSide.is_open name linked (end_still at name e h) taken
  side_still at e (IsSide.is_closed closed none) = IsSide.is_closed closed none

  -- the link stays as it is
  pub live_still : (at : Side) → slice_get v.links c ≡ Some l → IsLive w m s c k l at held → IsLive v m s c k l at held
  live_still at e h = record { sent = h.sent; side = side_still at e h.side }

  opener_side : (b : Bool) → IsSide w m s c k l side.Opener held → IsSide v m s c k (shut_if b l) side.Opener held
  opener_side true (IsSide.is_open name linked h taken) = IsSide.is_open name linked h taken
  opener_side true (IsSide.is_closed closed none) = IsSide.is_closed closed none
  opener_side false (IsSide.is_open name linked h taken) = IsSide.is_open name linked h taken
  opener_side false (IsSide.is_closed closed none) = IsSide.is_closed closed none

  opener_shut : (b : Bool) → IsLive w m s c k l side.Opener held → IsLive v m s c k (shut_if b l) side.Opener held
  opener_shut true h = record { sent = h.sent; side = opener_side true h.side }
  opener_shut false h = record { sent = h.sent; side = opener_side false h.side }

  -- its server's end closes, which is none of the half
  pub live_shut : (at : Side) (b : Bool) → (b ≡ true → at ≡ side.Opener) → slice_get v.links c ≡ Some (shut_if b l) → IsLive w m s c k l at held → IsLive v m s c k (shut_if b l) at held
  live_shut side.Opener b other e h = opener_shut b h
  live_shut side.Server false other e h = live_still side.Server e h
  live_shut side.Server true other e h = let wrong : side.Server ≡ side.Opener = other refl in absurd (cc)
