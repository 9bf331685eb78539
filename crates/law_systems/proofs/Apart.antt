-- What is never both, and what an equation of two of a kind says.
use Rattle.std.proofs.Common.{◌≡◌, Option, None, Some, refl, sym}
use Rattle.std.specs.Option.{option_map}
pub use Rattle.std.proofs.lemmas.Option.{none-some as no_some}
use Rattle.mr_loop.specs.Stage.{Stage}
use Rattle.law_refinement.specs.State.{Link}
use Rattle.law_refinement.proofs.Places.{some_is}
use Rattle.law_systems.specs.System.{gives_up, rests, runs}

-- what a map made of something
pub from_map : (f : Link → Link) (o : Option Link) (y : Link) → option_map f o ≡ Some y → (x : Link) × (o ≡ Some x) × (y ≡ f x)
from_map f None y e = absurd (cc)
from_map f (Some x) y e = (x, refl, sym (some_is (f x) y e))

-- ---- what a server does
pub runs_is : (s t : Stage) → runs s ≡ runs t → s ≡ t
runs_is s t e = cc

pub gives_up_is : (s t : Stage) → gives_up s ≡ gives_up t → s ≡ t
gives_up_is s t e = cc

pub not_both : (s t : Stage) → runs s ≡ gives_up t → ⊥
not_both s t e = cc

pub no_turns : (s t : Stage) → gives_up s ≡ runs t → ⊥
no_turns s t e = cc

pub rests_runs : (t : Stage) → rests ≡ runs t → ⊥
rests_runs t e = cc

pub rests_gives_up : (t : Stage) → rests ≡ gives_up t → ⊥
rests_gives_up t e = cc
