-- Moments of servers, and the Worlds beside them.
use Rattle.std.proofs.Common.{◌≡◌, ◌+◌, ◌++◌, ℕ, zero, suc, List, [], ◌∷◌, None, Some, length, refl, ap, subst, ◌∙◌, arith}
use Rattle.std.specs.Prelude.{slice_get}
use Rattle.law_refinement.specs.State.{WorldState}
use Rattle.law_refinement.proofs.Places.{some_is}
use Rattle.law_refinement.specs.Runs.{Run, last_of}
use Rattle.law_refinement.proofs.Moments.{runs_go_on}
use Rattle.law_systems.specs.System.{System}
use Rattle.law_systems.specs.Steps.{Course, Step}
use Rattle.law_systems.proofs.Mirrors.{Leads, Mirrors}

-- behind some Worlds stand those that come next
later_at : (w : WorldState) (us vs : List WorldState) (j : ℕ) → slice_get (w ∷ (us ++ vs)) (j + length us) ≡ slice_get (last_of w us ∷ vs) j
later_at w [] vs j = let same : j + 0 ≡ j = omega arith in ap (slice_get (w ∷ vs)) same
later_at w (u ∷ us) vs j = let next : j + length (u ∷ us) ≡ suc (j + length us) = omega arith in ap (slice_get (w ∷ (u ∷ (us ++ vs)))) next ∙ later_at u us vs j

-- one of these Worlds stands beside this moment
pub record Meets (w : WorldState) (worlds : List WorldState) (x : System) : Type 0 where
  pub number : ℕ
  pub world : WorldState
  pub there : slice_get (w ∷ worlds) number ≡ Some world
  pub mirrors : Mirrors x world

pub record Follows (w : WorldState) (x : System) (systems : List System) : Type 0 where
  pub worlds : List WorldState
  pub run : Run w worlds
  pub each : (k : ℕ) (z : System) → slice_get (x ∷ systems) k ≡ Some z → Meets w worlds z

-- Where something is known of servers at each moment, and each step leads from a World beside them to one beside them.
module _ (Known : System → Type 0) (steps_lead : (x y : System) (w : WorldState) → Known x → Mirrors x w → Step x y → Leads w y) (steps_known : (x y : System) → Step x y → Known x → Known y) where
  pub follows : (x : System) (systems : List System) (w : WorldState) → Known x → Mirrors x w → Course x systems → Follows w x systems
  follows x [] w known m c = record { worlds = []; run = tt; each = each }
    where
      each : (k : ℕ) (z : System) → slice_get (x ∷ []) k ≡ Some z → Meets w [] z
      each zero z e = record { number = 0; world = w; there = refl; mirrors = subst (λ q. Mirrors q w) (some_is x z e) m }
      each (suc k) z e = let none : None ≡ Some z = e in absurd (cc)
  follows x (y ∷ ys) w known m c =
      let l = steps_lead x y w known m c.0 in
      let f = follows y ys (last_of w l.worlds) (steps_known x y c.0 known) l.mirrors c.1 in
      record { worlds = l.worlds ++ f.worlds; run = (runs_go_on w l.worlds f.worlds l.run f.run).0; each = each l f }
    where
      each : (l : Leads w y) (f : Follows (last_of w l.worlds) y ys) (k : ℕ) (z : System) → slice_get (x ∷ (y ∷ ys)) k ≡ Some z → Meets w (l.worlds ++ f.worlds) z
      each l f zero z e = record { number = 0; world = w; there = refl; mirrors = subst (λ q. Mirrors q w) (some_is x z e) m }
      each l f (suc k) z e = let h = f.each k z e in record {
        number = h.number + length l.worlds;
        world = h.world;
        there = later_at w l.worlds f.worlds h.number ∙ h.there;
        mirrors = h.mirrors;
      }
