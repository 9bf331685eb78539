-- What is asked of an end before it changes, and what it becomes.
use Rattle.std.specs.Prelude.{◌≡◌, ◌≤◌, ℕ, List, Some, length, take, drop}
use Rattle.mr_links.specs.Links.{Links}
use Rattle.mr_links.specs.declared.link_id.LinkId.{LinkId}
use Rattle.mr_resp.specs.declared.progress.Progress.{Progress}
use Rattle.mr_node_links.specs.State.{EndState, Transaction, begun, with_text, as_marked, end_at, put_end}
use Rattle.mr_node_links.specs.State.EndState.{client, waiting, replica}
use Rattle.mr_node_links.specs.Ending.{HasUnread, Takes, AgreesAt, used_of, heard_of}

-- The node serves the link, with so many unread bytes or more.
pub record HasAhead (a : Links EndState) (l : LinkId) (count : ℕ) : Type 0 where
  pub end : EndState
  pub found : end_at a l ≡ Some end
  pub enough : HasUnread count end

-- .. and so many bytes more may be kept.
pub record HasRoom (a : Links EndState) (l : LinkId) (count : ℕ) : Type 0 where
  pub end : EndState
  pub found : end_at a l ≡ Some end
  pub enough : Takes count end

-- .. and the progress holds of its unread bytes.
pub record KeepsOn (a : Links EndState) (l : LinkId) (progress : Progress) : Type 0 where
  pub end : EndState
  pub found : end_at a l ≡ Some end
  pub agrees : AgreesAt progress end

-- The link is a client's, with so many unread bytes or more.
pub record IsClient (a : Links EndState) (l : LinkId) (count : ℕ) : Type 0 where
  pub unread : List ℕ
  pub found : end_at a l ≡ Some (client unread)
  pub enough : count ≤ length unread

-- so many bytes of the link are used, and nothing else has changed
abbrev pub UsesAt : Links EndState → LinkId → ℕ → Links EndState → Type 0
UsesAt a l count b = (end : EndState) → end_at a l ≡ Some end → b ≡ put_end a l (used_of count end)

-- bytes are put behind the unread ones of the link, and nothing else has changed
abbrev pub HearsAt : Links EndState → LinkId → List ℕ → Links EndState → Type 0
HearsAt a l bytes b = (end : EndState) → end_at a l ≡ Some end → b ≡ put_end a l (heard_of bytes end)

-- a client's end is a replica's now, with the rest behind so many bytes, and nothing else has changed
abbrev pub TurnsAt : Links EndState → LinkId → ℕ → Links EndState → Type 0
TurnsAt a l count b = (unread : List ℕ) → end_at a l ≡ Some (client unread) → b ≡ put_end a l (replica (drop count unread))

-- A transaction is open at the link, and so many bytes or more are unread there.
pub record HasOpen (a : Links EndState) (l : LinkId) (count : ℕ) : Type 0 where
  pub transaction : Transaction
  pub unread : List ℕ
  pub found : end_at a l ≡ Some (waiting transaction unread)
  pub enough : count ≤ length unread

-- so many bytes are used, with which a client begins a transaction
abbrev pub BeginsAt : Links EndState → LinkId → ℕ → Links EndState → Type 0
BeginsAt a l count b = (unread : List ℕ) → end_at a l ≡ Some (client unread) → b ≡ put_end a l (waiting begun (drop count unread))

-- so many bytes are used, and wait
abbrev pub WaitsAt : Links EndState → LinkId → ℕ → Links EndState → Type 0
WaitsAt a l count b = (t : Transaction) (unread : List ℕ) → end_at a l ≡ Some (waiting t unread) → b ≡ put_end a l (waiting (with_text (take count unread) t) (drop count unread))

-- so many bytes are used, which mark it
abbrev pub MarksAt : Links EndState → LinkId → ℕ → Links EndState → Type 0
MarksAt a l count b = (t : Transaction) (unread : List ℕ) → end_at a l ≡ Some (waiting t unread) → b ≡ put_end a l (waiting (as_marked t) (drop count unread))

-- The transaction that is open at the link is this one, and is taken out: none is open then.
pub record TakesOut (a : Links EndState) (l : LinkId) (t : Transaction) (b : Links EndState) : Type 0 where
  pub unread : List ℕ
  pub found : end_at a l ≡ Some (waiting t unread)
  pub left : b ≡ put_end a l (client unread)

-- it is put back, where none is open
abbrev pub PutsBack : Links EndState → LinkId → Transaction → Links EndState → Type 0
PutsBack a l t b = (unread : List ℕ) → end_at a l ≡ Some (client unread) → b ≡ put_end a l (waiting t unread)
