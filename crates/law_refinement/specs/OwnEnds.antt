-- What a client does at its own end of a link, where no node is, among the events of histories.
use Rattle.std.specs.Prelude.{◌≡◌, ◌≤◌, ◌+◌, ℕ, List, true, false, Some, length, slice_get, slice_set}
use Rattle.law_protocol.specs.History.{Book}
use Rattle.law_protocol.specs.Event as events
use Rattle.law_protocol.specs.Event.Side.{Dialler}
use Rattle.law_minired.specs.Minired.{minired}
use Rattle.law_refinement.specs.Way.{sent_on, taken_on}
use Rattle.law_refinement.specs.State.{a_client, Link, WorldState}
use Rattle.law_refinement.specs.Events.{IsEvent, Holds}

-- The link l is k, a client's, whose own end is open.
pub record IsAClients (w : WorldState) (l : ℕ) (k : Link) : Type 0 where
  pub found : slice_get w.links l ≡ Some k
  pub asking : k.caller ≡ a_client true

-- it sends bytes
abbrev pub CommandsAreRows : Type 0
CommandsAreRows = (w : WorldState) (book : Book minired) (l : ℕ) (k : Link) (bytes : List ℕ)
    → Holds w book → IsAClients w l k
    → IsEvent w book (events.Event.Command l bytes) (record w { links = slice_set w.links l (record k { ask = sent_on bytes k.ask }) })

-- .. takes some of those that it was sent
abbrev pub ClientFeedsAreRows : Type 0
ClientFeedsAreRows = (w : WorldState) (book : Book minired) (l : ℕ) (k : Link) (count : ℕ)
    → Holds w book → IsAClients w l k → k.tell.taken + count ≤ length k.tell.sent
    → IsEvent w book (events.Event.Deliver l Dialler count) (record w { links = slice_set w.links l (record k { tell = taken_on count k.tell }) })

-- .. and closes its end
abbrev pub ClientBreaksAreRows : Type 0
ClientBreaksAreRows = (w : WorldState) (book : Book minired) (l : ℕ) (k : Link)
    → Holds w book → IsAClients w l k
    → IsEvent w book (events.Event.Break l Dialler) (record w { links = slice_set w.links l (record k { caller = a_client false }) })
