-- What goes over a link that a node serves, in a run, until PSYNC is answered there: what the steps at the server's end used of the bytes that it took, and
-- what they said, in order.
use Rattle.std.specs.Prelude.{◌≡◌, ◌-◌, ◌==◌, ℕ, List, [], ◌∷◌, ◌++◌, true, false, Option, None, Some, Ok, length, take, slice_get, if◌then◌else◌}
use Rattle.mr_data.specs.declared.given.Given.{Given}
use Rattle.mr_resp.specs.Request.{IsText}
use Rattle.mr_resp.specs.Usual.{usual}
use Rattle.mr_node_links.specs.State.{EndState, serves, unread_in}
use Rattle.mr_node_spec.specs.State.{end_of}
use Rattle.law_refinement.specs.Way.{unread}
use Rattle.law_refinement.specs.State.{Link, WorldState}
use Rattle.law_refinement.specs.Worlds.{IsWorld}
use Rattle.mr_links.specs.declared.side.Side.TheVariants as side
use Rattle.mr_world.specs.declared.event.Event.{Event}
use Rattle.mr_world.specs.declared.event.Event.TheVariants as event
use Rattle.mr_world.specs.Serving.{HasServed, ServesLink}
use Rattle.mr_world.specs.Running.{AreMoments, EventCall, TookAll}

-- a step used this of the unread bytes, in front, and said that
pub record Turn : Type 0 where
  pub used : List ℕ
  pub said : List ℕ

-- turns one behind another
abbrev pub all_used : List Turn → List ℕ
all_used [] = []
all_used (t ∷ ts) = t.used ++ all_used ts

abbrev pub all_said : List Turn → List ℕ
all_said [] = []
all_said (t ∷ ts) = t.said ++ all_said ts

-- of these bytes those in front of what is left at the end, and none where that is closed
abbrev pub used_at : Option EndState → List ℕ → List ℕ
used_at None u = []
used_at (Some e) u = if serves e then take (length u - length (unread_in e)) u else []

abbrev pub turn_of : (w : WorldState) (l : ℕ) (given : Given) (fresh : List ℕ) → HasServed w l given fresh → Turn
turn_of w l given fresh t = record { used = used_at (end_of t.node t.link.name) (unread t.link.ask); said = t.outs.reply }

-- the turn of a step, where what it gave out was carried
abbrev pub turns_in : (w : WorldState) (l : ℕ) (given : Given) (fresh : List ℕ) (v : WorldState) → ServesLink w l given fresh v → List Turn
turns_in w l given fresh v (ServesLink.carries t is) = turn_of w l given fresh t ∷ []
turns_in w l given fresh v (ServesLink.fails t takes is) = []
turns_in w l given fresh v (ServesLink.idles t is) = []
turns_in w l given fresh v (ServesLink.spends t is) = []
turns_in w l given fresh v (ServesLink.rests k at down is) = []

-- .. of an event that was taken, where it is a step at the server's end of the link l
abbrev pub turns_by : (l : ℕ) (w : WorldState) (e : Event) (v : WorldState) → EventCall w e v (Ok tt) → List Turn
turns_by l w (event.Step m side.Server given fresh) v c = if m == l then turns_in w m given fresh v c.1 else []
turns_by l w (event.Step m side.Opener given fresh) v c = []
turns_by l w (event.Start id config) v c = []
turns_by l w (event.Client n) v c = []
turns_by l w (event.Command m bytes) v c = []
turns_by l w (event.Deliver m at count) v c = []
turns_by l w (event.Tick n given) v c = []
turns_by l w (event.Break m at) v c = []
turns_by l w (event.Dial n m) v c = []
turns_by l w (event.Connect n) v c = []
turns_by l w (event.Accept k m) v c = []
turns_by l w (event.Restart n kept id config) v c = []

-- .. of a run of events that were taken
abbrev pub turns_of : (l : ℕ) (w : WorldState) (es : List Event) (vs : List WorldState) → AreMoments w es vs → List Turn
turns_of l w [] vs are = []
turns_of l w (e ∷ es) [] are = []
turns_of l w (e ∷ es) (v ∷ vs) are = turns_by l w e v are.0 ++ turns_of l v es vs are.2

-- From the one moment to the other what is said on the link is what the turns said, in order; and while the server's end is open, the bytes that it took are
-- those that were used before, those that the turns used, in order, and the unread ones.
pub record InOrder (k m : Link) (turns : List Turn) : Type 0 where
  pub said : m.tell.sent ≡ k.tell.sent ++ all_said turns
  pub took : m.serving ≡ true → take m.ask.taken m.ask.sent ≡ take k.ask.used k.ask.sent ++ (all_used turns ++ unread m.ask)

-- So it is in each run, of each link on which PSYNC isn't answered at its end.
abbrev pub LinksAreInOrder : Type 0
LinksAreInOrder = (w : WorldState) (es : List Event) (v : WorldState) → IsWorld w → (t : TookAll w es v) (l : ℕ) (k m : Link)
    → slice_get w.links l ≡ Some k → slice_get v.links l ≡ Some m → m.streams ≡ false → InOrder k m (turns_of l w es t.moments t.are)

-- What a turn uses is the text of one request, or of an empty one, unless the link is closed behind it.
abbrev pub TurnsUseTexts : Type 0
TurnsUseTexts = (w : WorldState) (l : ℕ) (given : Given) (fresh : List ℕ) (t : HasServed w l given fresh) → t.outs.closes ≡ false → IsText usual (turn_of w l given fresh t).used
