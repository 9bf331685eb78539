-- What the lines of a script are answered.
use Rattle.std.specs.Prelude.{◌≡◌, ℕ, nat_lt, if◌then◌else◌, List, [], ◌∷◌, Option, None, Some, Result, Ok, Err, length}
use Rattle.mr_node_spec.specs.State.{shown}
use Rattle.mr_world_script.specs.declared.answer.ScriptAnswer.{ScriptAnswer}
use Rattle.mr_world_script.specs.declared.answer.ScriptAnswer.TheVariants.{Node, Link, Done, Refused, Shows, Stopped, Bytes}
use Rattle.law_refinement.specs.State.{Caller, a_client, a_node, Link as LinkState, Slot, WorldState}
use Rattle.mr_world_parts.specs.Lending.{taken_in}
use Rattle.mr_world.specs.declared.refusal.Refusal.{Refusal}
use Rattle.mr_world.specs.declared.refusal.Refusal.TheVariants as refusal
use Rattle.mr_world.specs.declared.event.Event.{Event}
use Rattle.mr_world.specs.declared.event.Event.TheVariants as event
use Rattle.mr_world.specs.Running.{RunCall}

-- of several causes the least is answered, but for that of memory
abbrev pub cause_number : Refusal → ℕ
cause_number refusal.Drawn = 1
cause_number refusal.Nobody = 2
cause_number refusal.TooMuch = 3
cause_number refusal.Memory = 4
cause_number refusal.InputFull = 5

-- a link that came is told by its number, and that none came
abbrev pub link_answer : ℕ → ℕ → ScriptAnswer
link_answer links links_now = if nat_lt links links_now then Link links else Done

-- what an event is answered that was taken, where there were so many nodes and links before, and so many links since
abbrev pub taken_answer : Event → ℕ → ℕ → ℕ → ScriptAnswer
taken_answer (event.Start id config) nodes links links_now = Node nodes
taken_answer (event.Client n) nodes links links_now = link_answer links links_now
taken_answer (event.Command l bytes) nodes links links_now = Done
taken_answer (event.Deliver l at count) nodes links links_now = Done
taken_answer (event.Step l at given fresh) nodes links links_now = Done
taken_answer (event.Tick n given) nodes links links_now = Done
taken_answer (event.Break l at) nodes links links_now = Done
taken_answer (event.Dial n m) nodes links links_now = link_answer links links_now
taken_answer (event.Connect n) nodes links links_now = link_answer links links_now
taken_answer (event.Accept l n) nodes links links_now = Done
taken_answer (event.Restart n kept id config) nodes links links_now = Done

abbrev pub event_answer : Event → WorldState → WorldState → Result (Unit {0}) (ℕ × Refusal) → ScriptAnswer
event_answer e w v (Ok done) = taken_answer e (length w.slots) (length w.links) (length v.links)
event_answer e w v (Err p) = Refused (cause_number p.1)

-- A run of one event: what it comes to, and what it is answered.
pub record Happens (w : WorldState) (e : Event) (v : WorldState) (answer : ScriptAnswer) : Type 0 where
  pub result : Result (Unit {0}) (ℕ × Refusal)
  pub runs : RunCall w (e ∷ []) v result
  pub told : answer ≡ event_answer e w v result

abbrev pub state_answer : ℕ → Option (List ℕ × ℕ) → ScriptAnswer
state_answer n None = Stopped n
state_answer n (Some p) = Shows n p.0 p.1

-- a node that isn't there is refused as an event is
abbrev pub shown_at : ℕ → Option Slot → ScriptAnswer
shown_at n None = Refused (cause_number refusal.Nobody)
shown_at n (Some s) = state_answer n (shown s.node.core)

-- what the client of a link took; no node is asked that
abbrev pub got_by : Caller → List ℕ → ScriptAnswer → Type 0
got_by (a_client is_open) took (Bytes bytes) = bytes.now ≡ took
got_by (a_client is_open) took answer = ⊥
got_by (a_node n name) took answer = answer ≡ Refused (cause_number refusal.Nobody)

abbrev pub got_at : Option LinkState → ScriptAnswer → Type 0
got_at None answer = answer ≡ Refused (cause_number refusal.Nobody)
got_at (Some k) answer = got_by k.caller (taken_in k.tell) answer
