-- What an event of a World is among histories.
use Rattle.std.specs.Prelude.{ℕ, List}
use Rattle.mr_data.specs.declared.given.Given.{Given}
use Rattle.law_protocol.specs.History.{Book}
use Rattle.law_protocol.specs.Changing.{Still}
use Rattle.law_protocol.specs.Event as events
use Rattle.law_protocol.specs.Event.Side.{Dialler}
use Rattle.law_minired.specs.Minired.{minired}
use Rattle.law_refinement.specs.State.{WorldState}
use Rattle.law_refinement.specs.Seeing.{seen}
use Rattle.law_refinement.specs.Events.{Holds, IsEvent}
use Rattle.mr_world.specs.Following.{Follows, HasLacked}

-- A step of the node that follows by a link is one at the dialler's end.
abbrev pub FollowsAreEvents : Type 0
FollowsAreEvents = (w : WorldState) (book : Book minired) (l : ℕ) (given : Given) (fresh : List ℕ) (v : WorldState) → Holds w book → Follows w l v → IsEvent w book (events.Event.Step l Dialler given fresh) v

-- Where that node lacks memory nothing changes there.
abbrev pub LackedIsUnseen : Type 0
LackedIsUnseen = (w : WorldState) (book : Book minired) (l : ℕ) (v : WorldState) → Holds w book → HasLacked w l v → Still (seen w book) (seen v book)
