-- What a World shows.
use Rattle.std.specs.Prelude.{ℕ, List, take}
use Rattle.mr_node_spec.specs.State.{NodeState}
use Rattle.law_refinement.specs.Way.{WayState}
use Rattle.law_refinement.specs.State.{Link, Slot}
use Rattle.mr_links.specs.declared.side.Side.{Side}
use Rattle.mr_links.specs.declared.side.Side.TheVariants as side

abbrev pub node_in : Slot → NodeState
node_in s = s.node

abbrev pub file_in : Slot → List ℕ
file_in s = s.file

-- all bytes that were taken in this direction
abbrev pub taken_in : WayState → List ℕ
taken_in w = take w.taken w.sent

-- all bytes that the end at this side took
abbrev pub took_at : Side → Link → List ℕ
took_at side.Opener k = taken_in k.tell
took_at side.Server k = taken_in k.ask
