-- What a source gives in a turn: to each call on the node a moment of its own, and to each step an id that no call took before.
use Rattle.std.specs.Prelude.{◌≡◌, ◌⊎◌, ◌≤ℤ◌, ℕ, ℤ, List, [], ◌∷◌, ◌++◌, Option, Some, None}
use Rattle.mr_source.specs.Drawn.{DrawnState, with_more}
use Rattle.mr_loop.specs.Causes.{Act, at_step, at_tick, at_dial, Stop, stops_at_step, stops_at_tick, stops_at_open, was_down}
use Rattle.mr_loop.specs.Rows.{Event, acts, idles, is_refused, misses_tick, spills, stops, tears, wakes}

-- ---- moments

abbrev pub moments_in_act : Act → List ℤ
moments_in_act (at_step socket link given fresh news) = given.now ∷ []
moments_in_act (at_tick given) = given.now ∷ []
moments_in_act (at_dial socket link) = []

abbrev pub moments_at_stop : Stop → List ℤ
moments_at_stop (stops_at_step link given fresh) = given.now ∷ []
moments_at_stop (stops_at_tick given) = given.now ∷ []
moments_at_stop stops_at_open = []
moments_at_stop was_down = []

-- The moment of an event: that of its step or its tick, whatever becomes of it, or the one at which the turn begins. Any other event has none.
abbrev pub moments_by : Event → List ℤ
moments_by (wakes now) = now ∷ []
moments_by (acts act outs) = moments_in_act act
moments_by (spills act outs) = moments_in_act act
moments_by (tears act outs) = moments_in_act act
moments_by (idles socket link given fresh) = given.now ∷ []
moments_by (is_refused socket link given fresh) = given.now ∷ []
moments_by (misses_tick given) = given.now ∷ []
moments_by (stops stop) = moments_at_stop stop
moments_by _ = []

-- .. of events one after another
abbrev pub moments_in : List Event → List ℤ
moments_in [] = []
moments_in (e ∷ es) = moments_by e ++ moments_in es

-- **None goes back**: from the one on these come one after another, each no earlier than the one before, up to the other.
abbrev pub Rises : ℤ → List ℤ → ℤ → Type 0
Rises from [] until = until ≡ from
Rises from (now ∷ later) until = (from ≤ℤ now) × Rises now later until

-- ---- ids

abbrev pub listed : {A : Type 0} → Option A → List A
listed None = []
listed (Some x) = x ∷ []

-- The first of these ids is given to a step; it takes that one or none, and those are left.
pub record IsGivenStep (ids : List (List ℕ)) (fresh : List ℕ) (used : Option (List ℕ)) (left : List (List ℕ)) : Type 0 where
  pub behind : List (List ℕ)
  pub first : ids ≡ fresh ∷ behind
  pub taken : ids ≡ listed used ++ left

-- .. and none to a tick, or a dial
abbrev pub IsGivenAct : List (List ℕ) → Act → Option (List ℕ) → List (List ℕ) → Type 0
IsGivenAct ids (at_step socket link given fresh news) used left = IsGivenStep ids fresh used left
IsGivenAct ids (at_tick given) used left = (used ≡ None) × (left ≡ ids)
IsGivenAct ids (at_dial socket link) used left = (used ≡ None) × (left ≡ ids)

abbrev pub IsGivenStop : List (List ℕ) → Stop → List (List ℕ) → Type 0
IsGivenStop ids (stops_at_step link given fresh) left = IsGivenStep ids fresh None left
IsGivenStop ids (stops_at_tick given) left = left ≡ ids
IsGivenStop ids stops_at_open left = left ≡ ids
IsGivenStop ids was_down left = left ≡ ids

-- .. in an event, whatever becomes of what the node gave out
abbrev pub IsGiven : List (List ℕ) → Event → List (List ℕ) → Type 0
IsGiven ids (acts act outs) left = IsGivenAct ids act outs.used left
IsGiven ids (spills act outs) left = IsGivenAct ids act outs.used left
IsGiven ids (tears act outs) left = IsGivenAct ids act outs.used left
IsGiven ids (idles socket link given fresh) left = IsGivenStep ids fresh None left
IsGiven ids (is_refused socket link given fresh) left = IsGivenStep ids fresh None left
IsGiven ids (stops stop) left = IsGivenStop ids stop left
IsGiven ids _ left = left ≡ ids

-- .. in each of these, one after another
abbrev pub AllGiven : List (List ℕ) → List Event → List (List ℕ) → Type 0
AllGiven ids [] left = left ≡ ids
AllGiven ids (e ∷ es) left = (mid : List (List ℕ)) × IsGiven ids e mid × AllGiven mid es left

-- ---- what a source gives

-- **The moments that a source tells are those of these events, each told for one of them, in their order, and none goes back. Each id that a call takes is one that the source
-- gave, none twice**: those that were drawn and not taken before, and those that the source gave meanwhile, are given one after another, and these are left.
pub record Supplies (unused : List (List ℕ)) (drawn : DrawnState) (events : List Event) (left : List (List ℕ)) (after : DrawnState) : Type 0 where
  pub tells : after.moments ≡ with_more (moments_in events) drawn.moments
  pub forward : Rises drawn.clock (moments_in events) after.clock
  pub ids : List (List ℕ)
  pub gives : after.ids ≡ with_more ids drawn.ids
  pub each : AllGiven (unused ++ ids) events left

-- ---- the ids that are taken
abbrev pub taken_by : Event → List (List ℕ)
taken_by (acts act outs) = listed outs.used
taken_by (spills act outs) = listed outs.used
taken_by (tears act outs) = listed outs.used
taken_by _ = []

-- .. by events one after another
abbrev pub ids_taken_in : List Event → List (List ℕ)
ids_taken_in [] = []
ids_taken_in (e ∷ es) = taken_by e ++ ids_taken_in es

-- they are some of those, in their order
abbrev pub AreAmong : List (List ℕ) → List (List ℕ) → Type 0
AreAmong ids [] = ids ≡ []
AreAmong ids (x ∷ xs) = AreAmong ids xs ⊎ ((rest : List (List ℕ)) × (ids ≡ x ∷ rest) × AreAmong rest xs)

-- **None is taken twice**: those that are taken, in their order, and those that are left, are those that there were.
abbrev pub TakesEachOnce : Type 0
TakesEachOnce = (ids left : List (List ℕ)) (events : List Event) → AllGiven ids events left → ids_taken_in events ++ left ≡ ids
