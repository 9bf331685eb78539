-- A link among others: who asked for it, what its caller says, and how its server's end closes.
use Rattle.std.specs.Prelude.{◌≡◌, ◌==◌, ℕ, List, Bool, true, false, Option, None, Some}
use Rattle.law_refinement.specs.Way.{left_on, sent_on}
use Rattle.law_refinement.specs.State.{Caller, a_client, a_node, Link}
use Rattle.law_refinement.specs.Carrying.{shut_if}

-- whether a node asked for the link
abbrev pub by_node : Caller → Bool
by_node (a_client b) = false
by_node (a_node n name) = true

-- The link is a client's, whose end is open.
abbrev pub IsAsking : Link → Type 0
IsAsking k = k.caller ≡ a_client true

-- what the caller sends, and so many bytes that it leaves unread; nothing where it is there no more
abbrev pub heard_by : Option ℕ → List ℕ → Link → Link
heard_by None reply k = k
heard_by (Some left) reply k = record k { ask = sent_on reply k.ask; tell = left_on left k.tell }

-- the link, closed at its server where that is this node
abbrev pub shut_at : ℕ → Link → Link
shut_at n k = shut_if (k.to == n) k
