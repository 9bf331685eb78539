-- What a contract sees of a node's ends of its links.
use Rattle.std.specs.Prelude.{◌≡◌, ◌≢◌, ◌+◌, ◌++◌, ℕ, List, [], ◌∷◌, Bool, true, false, Option, None, Some, refl}
use Rattle.std.specs.Coded.{Coded, code_by, coded×, coded_ℕ, coded_bool, coded_list, coded_option}
use Rattle.mr_inline.specs.Limits.{text_limit}
use Rattle.mr_resp.specs.Request.{IsRequest}
use Rattle.mr_resp.specs.Usual.{usual}
use Rattle.std.specs.FinMap as map
use Rattle.mr_links.specs.Links.{Links}
use Rattle.mr_links.specs.declared.link_id.LinkId.{LinkId}

-- What a client has begun and not ended: the texts of the requests that wait for the end, and whether it does nothing then.
pub record Transaction : Type 0 where
  pub queued : List (List ℕ)
  pub marked : Bool

-- what waits is a request
abbrev pub CanWait : List ℕ → Type 0
CanWait text = (words : List (List ℕ)) × IsRequest usual text words

abbrev pub transaction_code : Coded Transaction
transaction_code = code_by (List (List ℕ) × Bool) (coded× (coded_list (coded_list coded_ℕ)) coded_bool) (λ t. (t.queued, t.marked)) (λ p. record { queued = p.0; marked = p.1 }) (λ _. refl)

-- none waits yet
abbrev pub begun : Transaction
begun = record { queued = []; marked = false }

-- one more waits
abbrev pub with_text : List ℕ → Transaction → Transaction
with_text text t = record t { queued = t.queued ++ text ∷ [] }

-- it does nothing at its end
abbrev pub as_marked : Transaction → Transaction
as_marked t = record t { marked = true }

-- A client's end, one where a transaction is open, and a replica's, with the bytes that were fed and that no step has used; the node's own
-- of the link to its master, whose bytes the follower has; and one that the node closed.
pub data EndState : Type 0 where
  client : List ℕ → EndState
  waiting : Transaction → List ℕ → EndState
  replica : List ℕ → EndState
  upstream : EndState
  shut : EndState

abbrev pub parts_of : EndState → Option (Option (Bool × (Option Transaction × List ℕ)))
parts_of (client unread) = Some (Some (true, (None, unread)))
parts_of (waiting t unread) = Some (Some (true, (Some t, unread)))
parts_of (replica unread) = Some (Some (false, (None, unread)))
parts_of upstream = Some None
parts_of shut = None

abbrev pub served_as : Bool → Option Transaction → List ℕ → EndState
served_as true None unread = client unread
served_as true (Some t) unread = waiting t unread
served_as false held unread = replica unread

abbrev pub of_parts : Option (Option (Bool × (Option Transaction × List ℕ))) → EndState
of_parts None = shut
of_parts (Some None) = upstream
of_parts (Some (Some p)) = served_as p.0 p.1.0 p.1.1

-- an end is told by its parts
abbrev pub parts_again : (e : EndState) → of_parts (parts_of e) ≡ e
parts_again (client unread) = refl
parts_again (waiting t unread) = refl
parts_again (replica unread) = refl
parts_again upstream = refl
parts_again shut = refl

abbrev pub end_code : Coded EndState
end_code = code_by (Option (Option (Bool × (Option Transaction × List ℕ)))) (coded_option (coded_option (coded× coded_bool (coded× (coded_option transaction_code) (coded_list coded_ℕ))))) parts_of of_parts parts_again

-- an end that is open and that the node serves
abbrev pub serves : EndState → Bool
serves (client unread) = true
serves (waiting t unread) = true
serves (replica unread) = true
serves upstream = false
serves shut = false

-- the stream is sent there
abbrev pub streams : Option EndState → Bool
streams None = false
streams (Some (client unread)) = false
streams (Some (waiting t unread)) = false
streams (Some (replica unread)) = true
streams (Some upstream) = false
streams (Some shut) = false

-- its unread bytes, none where the node doesn't serve it
abbrev pub unread_in : EndState → List ℕ
unread_in (client unread) = unread
unread_in (waiting t unread) = unread
unread_in (replica unread) = unread
unread_in upstream = []
unread_in shut = []

-- the transaction that is open there, if one is
abbrev pub transaction_in : EndState → Option Transaction
transaction_in (client unread) = None
transaction_in (waiting t unread) = Some t
transaction_in (replica unread) = None
transaction_in upstream = None
transaction_in shut = None

-- the most unread bytes of an end that the node serves
abbrev pub full : ℕ
full = text_limit

-- the node's end of a link
abbrev pub end_at : Links EndState → LinkId → Option EndState
end_at a l = map.get a.open_links l

-- another end in its place
abbrev pub put_end : Links EndState → LinkId → EndState → Links EndState
put_end a l e = record a { open_links = map.insert a.open_links l e }

-- without it
abbrev pub without : Links EndState → LinkId → Links EndState
without a l = record a { open_links = map.remove a.open_links l }

-- with a new one under this name
abbrev pub opened_as : Links EndState → LinkId → EndState → Links EndState
opened_as a l e = record { open_links = map.insert a.open_links l e; opened = a.opened + 1 }

-- The ends of the other links are what they were.
pub record OthersStay (a b : Links EndState) (l : LinkId) : Type 0 where
  pub stay : (x : LinkId) → x ≢ l → end_at b x ≡ end_at a x
  pub opened : b.opened ≡ a.opened
