-- A World as events happen, one after another.
use Rattle.std.specs.Prelude.{◌≡◌, ℕ, List, [], ◌∷◌, Bool, true, false, Option, None, Some, Result, Ok, Err, take, slice_get}
use Rattle.mr_data.specs.declared.given.Given.{Given}
use Rattle.law_refinement.specs.State.{Link, WorldState}
use Rattle.law_refinement.specs.Worlds.{IsWorld}
use Rattle.law_refinement.specs.Runs.{last_of}
use Rattle.mr_links.specs.declared.side.Side.{Side}
use Rattle.mr_links.specs.declared.side.Side.TheVariants as side
use Rattle.mr_world_parts.specs.AtLink.{by_node}
use Rattle.mr_world.specs.declared.refusal.Refusal.{Refusal}
use Rattle.mr_world.specs.declared.event.Event.{Event}
use Rattle.mr_world.specs.declared.event.Event.TheVariants as event
use Rattle.mr_world.specs.Calls.{BreakCall, ClientCall, CommandCall, LeaveCall, StartCall, TakeCall}
use Rattle.mr_world.specs.Linking.{DeliverCall, DropCall}
use Rattle.mr_world.specs.Hearing.{ListenCall}
use Rattle.mr_world.specs.Stepping.{TickCall}
use Rattle.mr_world.specs.Serving.{StepCall}
use Rattle.mr_world.specs.Following.{FollowCall}
use Rattle.mr_world.specs.Connecting.{DialCall}
use Rattle.mr_world.specs.Accepting.{AcceptCall, ConnectCall}
use Rattle.mr_world.specs.Restarting.{RestartCall}

abbrev pub Outcome : Type 0
Outcome = Result (Unit {0}) Refusal

abbrev pub is_between_nodes : Option Link → Bool
is_between_nodes None = false
is_between_nodes (Some k) = by_node k.caller

-- at the opener's end a client's row or a node's
abbrev pub by_opener : Bool → Type 0 → Type 0 → Type 0
by_opener true of_node of_client = of_node
by_opener false of_node of_client = of_client

abbrev pub BreakAt : WorldState → ℕ → Side → WorldState → Outcome → Type 0
BreakAt w l side.Server v r = BreakCall w l v r
BreakAt w l side.Opener v r = by_opener (is_between_nodes (slice_get w.links l)) (DropCall w l v r) (LeaveCall w l v r)

abbrev pub DeliverAt : WorldState → ℕ → Side → ℕ → WorldState → Outcome → Type 0
DeliverAt w l side.Server count v r = DeliverCall w l count v r
DeliverAt w l side.Opener count v r = by_opener (is_between_nodes (slice_get w.links l)) (ListenCall w l count v r) (TakeCall w l count v r)

abbrev pub StepAt : WorldState → ℕ → Side → Given → List ℕ → WorldState → Outcome → Type 0
StepAt w l side.Server given fresh v r = StepCall w l given fresh v r
StepAt w l side.Opener given fresh v r = FollowCall w l fresh v r

-- What an event comes to: each kind has its row.
abbrev pub EventCall : WorldState → Event → WorldState → Outcome → Type 0
EventCall w (event.Start id config) v r = StartCall w id config.replica config.port config.backlog v r
EventCall w (event.Client n) v r = ClientCall w n v r
EventCall w (event.Command l bytes) v r = CommandCall w l bytes.items v r
EventCall w (event.Deliver l at count) v r = DeliverAt w l at count v r
EventCall w (event.Step l at given fresh) v r = StepAt w l at given fresh v r
EventCall w (event.Tick n given) v r = TickCall w n given.now v r
EventCall w (event.Break l at) v r = BreakAt w l at v r
EventCall w (event.Dial n m) v r = DialCall w n m v r
EventCall w (event.Connect n) v r = ConnectCall w n v r
EventCall w (event.Accept l m) v r = AcceptCall w l m v r
EventCall w (event.Restart n kept id config) v r = RestartCall w n kept.items id config.port config.backlog v r

-- The Worlds behind these events, each of which was taken: one event between neighbours.
abbrev pub AreMoments : WorldState → List Event → List WorldState → Type 0
AreMoments w [] [] = Unit {0}
AreMoments w [] (v ∷ vs) = ⊥
AreMoments w (e ∷ es) [] = ⊥
AreMoments w (e ∷ es) (v ∷ vs) = EventCall w e v (Ok tt) × IsWorld v × AreMoments v es vs

-- All events were taken.
pub record TookAll (w : WorldState) (es : List Event) (v : WorldState) : Type 0 where
  pub moments : List WorldState
  pub are : AreMoments w es moments
  pub ends : last_of w moments ≡ v

-- The event of this number was refused, for this cause, once those before it were taken.
pub record RefusedOne (w : WorldState) (es : List Event) (number : ℕ) (cause : Refusal) (v : WorldState) : Type 0 where
  pub event : Event
  pub at : slice_get es number ≡ Some event
  pub before : WorldState
  pub took : TookAll w (take number es) before
  pub refused : EventCall before event v (Err cause)

abbrev pub RunCall : WorldState → List Event → WorldState → Result (Unit {0}) (ℕ × Refusal) → Type 0
RunCall w es v (Ok done) = TookAll w es v
RunCall w es v (Err p) = RefusedOne w es p.0 p.1 v
