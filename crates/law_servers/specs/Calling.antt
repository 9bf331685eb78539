-- The calls that a turn makes on its node: each is one of those that are a World's events, by the same row.
use Rattle.std.specs.Prelude.{◌≡◌, ◌++◌, ◌⊎◌, ℕ, List, [], ◌∷◌, Bool, Result, Ok, Err, length}
use Rattle.mr_links.specs.declared.link_id.LinkId.{LinkId}
use Rattle.mr_data.specs.declared.given.Given.{Given}
use Rattle.mr_source.specs.Drawn.{DrawnState}
use Rattle.mr_file.specs.declared.sync_mode.SyncMode.{SyncMode}
use Rattle.mr_node_output.specs.Outs.{OutState, OutsState, grow, append, replace, send, close, use_id, follow, halt, outs_of}
use Rattle.mr_node_spec.specs.State.{NodeState}
use Rattle.mr_node_spec.specs.Sound.{IsSound}
use Rattle.mr_node_spec.specs.LinkRows.{Opens, Dials, Feeds, closed_at}
use Rattle.mr_node_spec.specs.TimeRows.{TickRow}
use Rattle.mr_node.specs.Steps.{Steps}
use Rattle.mr_node.specs.Calls.{FitsMore, OpensNoMore}
use Rattle.mr_node.specs.declared.fault.NodeFault.{NodeFault}
use Rattle.mr_node.specs.declared.fault.NodeFault.TheVariants as refusal
use Rattle.mr_node.specs.declared.step.Step.{Step}
use Rattle.mr_node.specs.declared.step.Step.TheVariants as answer
use Rattle.mr_loop.specs.declared.fault.LoopFault.{LoopFault}
use Rattle.mr_loop.specs.Stage.{Stage}
use Rattle.mr_loop.specs.Causes.{Act, Stop, at_dial, at_step, at_tick, stops_at_open, stops_at_step, stops_at_tick, was_down}
use Rattle.mr_loop.specs.Outcomes.{Broke}
use Rattle.mr_loop.specs.Rows.{Event, Run, acts, appends, breaks, closes, fails, finds_none, hears_end, idles, is_deaf, is_refused, joins, loses, misses, misses_dial, misses_tick, settles, spills, stops, takes, tears, turns_away, waits, wakes, writes}

-- a call on a node that may change it, and what it was answered
pub data NodeCall : Type 0 where
  -- a client's link comes
  client : (link : LinkId) → NodeCall
  -- a link would come, and the node, which has opened as many as it may, stops
  opens_no_more : NodeCall
  -- bytes come at an end
  deliver : (link : LinkId) (bytes : List ℕ) → NodeCall
  step : (link : LinkId) (given : Given) (fresh : List ℕ) (result : Result Step NodeFault) → NodeCall
  tick : (given : Given) (outs : OutsState) → NodeCall
  -- an end closes
  break : (link : LinkId) → NodeCall
  dial : (link : LinkId) (outs : OutsState) → NodeCall

-- The call led from the one state to the other. No more bytes come than the end takes.
abbrev pub IsCall : NodeState → NodeCall → NodeState → Type 0
IsCall a (client link) b = Opens a link b
IsCall a opens_no_more b = OpensNoMore a b
IsCall a (deliver link bytes) b = Feeds a link bytes b × FitsMore a link (length bytes)
IsCall a (step link given fresh result) b = Steps a link given fresh b result
IsCall a (tick given outs) b = TickRow a given.now b outs
IsCall a (break link) b = b ≡ closed_at link a
IsCall a (dial link outs) b = Dials a link b outs

-- .. these, one after another, behind each of which the node is sound where it was before
abbrev pub AreCalls : NodeState → List NodeCall → NodeState → Type 0
AreCalls a [] b = b ≡ a
AreCalls a (call ∷ calls) b = (mid : NodeState) × IsCall a call mid × (IsSound a → IsSound mid) × AreCalls mid calls b

-- ---- which calls each event of a turn makes

-- the ends that are closed as outs are carried out
abbrev pub closings : List OutState → List NodeCall
closings [] = []
closings (grow bytes ∷ outs) = closings outs
closings (append bytes ∷ outs) = closings outs
closings (replace bytes ∷ outs) = closings outs
closings (send link bytes ∷ outs) = closings outs
closings (close link ∷ outs) = break link ∷ closings outs
closings (use_id id ∷ outs) = closings outs
closings (follow address ∷ outs) = closings outs
closings (halt ∷ outs) = closings outs

abbrev pub call_of : Act → OutsState → NodeCall
call_of (at_step socket link given fresh news) outs = step link given fresh (Ok (answer.Done outs))
call_of (at_tick given) outs = tick given outs
call_of (at_dial socket link) outs = dial link outs

-- .. and of those outs some of the first were carried out
pub record MakesSome (act : Act) (outs : OutsState) (calls : List NodeCall) : Type 0 where
  pub done : List OutState
  pub rest : List OutState
  pub are : outs_of outs ≡ done ++ rest
  pub made : calls ≡ call_of act outs ∷ closings done

-- where the node answers that it is stopped
abbrev pub calls_at : Stop → List NodeCall
calls_at (stops_at_step link given fresh) = step link given fresh (Err refusal.Stopped) ∷ []
calls_at (stops_at_tick given) = []
calls_at stops_at_open = opens_no_more ∷ []
calls_at was_down = []

-- an end is closed
pub record Breaks (calls : List NodeCall) : Type 0 where
  pub link : LinkId
  pub are : calls ≡ break link ∷ []

-- nothing, or an end is opened, or the master dialled, and that end closed again
pub data OpensNone (calls : List NodeCall) : Type 0 where
  nothing : calls ≡ [] → OpensNone calls
  client_and_break : (link : LinkId) → calls ≡ client link ∷ break link ∷ [] → OpensNone calls
  dial_and_break : (link : LinkId) (outs : OutsState) → calls ≡ dial link outs ∷ break link ∷ [] → OpensNone calls

abbrev pub Makes : Event → List NodeCall → Type 0
Makes (wakes now) calls = calls ≡ []
Makes waits calls = calls ≡ []
Makes (joins socket link) calls = calls ≡ client link ∷ []
Makes turns_away calls = OpensNone calls
Makes (takes socket bytes) calls = (link : LinkId) × (calls ≡ deliver link bytes ∷ [])
Makes (finds_none socket) calls = calls ≡ []
Makes (hears_end socket link) calls = calls ≡ break link ∷ []
Makes (loses socket) calls = Breaks calls
Makes (misses socket) calls = Breaks calls
Makes (is_refused socket link given fresh) calls = calls ≡ step link given fresh (Err refusal.Memory) ∷ break link ∷ []
Makes (is_deaf socket link) calls = calls ≡ break link ∷ []
Makes (idles socket link given fresh) calls = calls ≡ step link given fresh (Ok answer.Idle) ∷ []
Makes (acts act outs) calls = calls ≡ call_of act outs ∷ closings (outs_of outs)
Makes (writes socket bytes) calls = calls ≡ []
Makes (breaks socket) calls = (calls ≡ []) ⊎ Breaks calls
Makes (closes socket) calls = calls ≡ []
Makes (appends texts) calls = calls ≡ []
Makes (misses_tick given) calls = calls ≡ []
Makes misses_dial calls = OpensNone calls
Makes (settles hurries) calls = calls ≡ []
-- behind these a turn doesn't go on
Makes (spills act outs) calls = MakesSome act outs calls
Makes (tears act outs) calls = MakesSome act outs calls
Makes fails calls = calls ≡ []
Makes (stops stop) calls = calls ≡ calls_at stop

-- those of some events, one event's behind another's
abbrev pub MakesAll : List Event → List NodeCall → Type 0
MakesAll [] calls = calls ≡ []
MakesAll (event ∷ events) calls = (now : List NodeCall) × (later : List NodeCall) × (calls ≡ now ++ later) × Makes event now × MakesAll events later

-- The node went from the one state to the other by calls alone, each by its row: those that its events make.
pub record IsByCalls (events : List Event) (a b : NodeState) : Type 0 where
  pub calls : List NodeCall
  pub are : AreCalls a calls b
  pub made : MakesAll events calls

-- **Each call that a turn makes on its node is one of a World's events**, in the order in which it makes them.
abbrev pub TurnsCall : Type 0
TurnsCall = (tells : Bool) (mode : SyncMode) (s t : Stage) (events : List Event) → Run tells mode s events t → IsByCalls events s.node t.node

-- .. also those of a turn that ends for a fault, the call of its last event among them
abbrev pub FaultsCall : Type 0
FaultsCall = (tells : Bool) (mode : SyncMode) (unused : List (List ℕ)) (drawn after : DrawnState) (why : LoopFault) (s t : Stage)
    → (broke : Broke tells mode unused drawn after why s t) → IsByCalls (broke.went.events ++ broke.last ∷ []) s.node t.node
