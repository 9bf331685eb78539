-- A node that starts where nothing has begun.
use Rattle.std.proofs.Common.{zero, suc, ◌≡◌, ℕ, List, [], ◌∷◌, Bool, None, Some, not, refl, sym, subst}
use Rattle.std.specs.Prelude.{slice_get}
use Rattle.std.specs.FinMap.{empty}
use Rattle.std.proofs.lemmas.Option.{none-some}
use Rattle.law_protocol.specs.Event as events
use Rattle.mr_node_spec.specs.State.{started}
use Rattle.mr_node_spec.specs.Sound.{IsSound}
use Rattle.law_refinement.specs.State.{Slot}
use Rattle.law_refinement.specs.Worlds.{IsWorld, no_world}
use Rattle.law_refinement.specs.Carrying.{begun_slot, started_with}
use Rattle.law_refinement.proofs.Beginning.{starts}
use Rattle.law_refinement.specs.Runs.{an_event}
use Rattle.law_refinement.specs.Headline.{StartsAreRuns}

only_one : {A : Type 0} (x : A) (n : ℕ) (y : A) → slice_get (x ∷ []) n ≡ Some y → x ≡ y
only_one x zero y e = cc
only_one x (suc n) y e = absurd (none-some y e)

one_node : (as_replica : Bool) (port backlog : ℕ) (id file : List ℕ) → IsSound (started as_replica port backlog id empty) → IsWorld (started_with no_world (begun_slot as_replica port backlog id empty file) id)
one_node as_replica port backlog id file sound = record {
  asks = λ l k e. absurd (none-some k e);
  tells = λ l k e. absurd (none-some k e);
  servers = λ l k e. absurd (none-some k e);
  untouched = λ l k e. absurd (none-some k e);
  names = λ i j k m e. absurd (none-some k e);
  nodes = λ n s e u. subst (λ (z : Slot). IsSound z.node) (only_one (begun_slot as_replica port backlog id empty file) n s e) sound;
  followers = λ n s name f e u q.
      let wrong : None ≡ Some (name, f) = subst (λ (z : Slot). z.node.follow ≡ Some (name, f)) (sym (only_one (begun_slot as_replica port backlog id empty file) n s e)) q in absurd (cc);
}

pub starts_are_runs : StartsAreRuns
starts_are_runs as_replica port backlog id file sound = (
  record {
    run = (an_event (events.Event.Start id (not as_replica)) (λ book holds. starts no_world book as_replica port backlog id file holds refl), one_node as_replica port backlog id file sound, tt);
    there = refl;
  },
  record { slot = begun_slot as_replica port backlog id empty file; found = refl; up = refl; id_is = refl; offset_is = refl; held_is = refl },
)
