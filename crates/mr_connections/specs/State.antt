-- What a contract sees of the connections of an event loop.
use Rattle.std.specs.Prelude.{◌≡◌, ◌≤◌, ℕ, List, [], ◌∷◌, ◌++◌, Bool, false, true, ◌||◌, cond, map, drop, Option, None, Some, refl}
use Rattle.std.specs.Coded.{Coded, code_by, coded×, coded_ℕ, coded_list, coded_option}
use Rattle.std.specs.FinMap.{FinMap, from_entries, entries, get, insert, len, remove}
use Rattle.std.specs.Ordering.{eq_by_cmp}
use Rattle.mr_links.specs.LinkId.{id_cmp, coded_id}
use Rattle.mr_links.specs.declared.link_id.LinkId.{LinkId}

-- a connection, by the name of its socket
pub record ConnectionState : Type 0 where
  pub link : Option LinkId  -- the node's, until its end is closed
  pub waiting : List ℕ  -- what was sent to it and no write has moved

abbrev pub connection_code : Coded ConnectionState
connection_code = code_by (Option LinkId × List ℕ) (coded× (coded_option coded_id) (coded_list coded_ℕ)) (λ c. (c.link, c.waiting)) (λ p. record { link = p.0; waiting = p.1 }) (λ _. refl)

-- so many bytes wait at most for a client of which more is read
abbrev pub most_kept : ℕ
most_kept = 15728640

-- what becomes of one connection

abbrev pub begun : LinkId → ConnectionState
begun link = record { link = Some link; waiting = [] }

abbrev pub left : ConnectionState → ConnectionState
left c = record c { link = None }

abbrev pub pushed : List ℕ → ConnectionState → ConnectionState
pushed bytes c = record c { waiting = c.waiting ++ bytes }

abbrev pub wrote : ℕ → ConnectionState → ConnectionState
wrote count c = record c { waiting = drop count c.waiting }

-- whether this is the node's link
abbrev pub is_link : LinkId → Option LinkId → Bool
is_link link None = false
is_link link (Some l) = eq_by_cmp id_cmp l link

-- this was made of it, where it has this link
abbrev pub where_linked : LinkId → (ConnectionState → ConnectionState) → ConnectionState → ConnectionState
where_linked link f c = cond (is_link link c.link) (f c) c

-- what becomes of all

abbrev pub Rows : Type 0
Rows = FinMap id_cmp ConnectionState

abbrev pub changed_by : Option ConnectionState → LinkId → (ConnectionState → ConnectionState) → Rows → Rows
changed_by None socket f m = m
changed_by (Some c) socket f m = insert m socket (f c)

-- this was made of the connection under this name, if there is one
abbrev pub changed : LinkId → (ConnectionState → ConnectionState) → Rows → Rows
changed socket f m = changed_by (get m socket) socket f m

-- this was made of every connection
abbrev pub with_each : (ConnectionState → ConnectionState) → Rows → Rows
with_each f m = from_entries (map (λ (e : LinkId × ConnectionState). (e.0, f e.1)) (entries m))

-- this was made of those that have this link
abbrev pub at_link : LinkId → (ConnectionState → ConnectionState) → Rows → Rows
at_link link f m = with_each (where_linked link f) m

-- these bytes go behind what waits where the node's link is this one
abbrev pub sent : LinkId → List ℕ → Rows → Rows
sent link bytes m = at_link link (pushed bytes) m

-- the node's end of this link is closed
abbrev pub parted : LinkId → Rows → Rows
parted link m = at_link link left m

-- who is done

-- the node's end is closed, and nothing waits any more
abbrev pub is_nothing : Option LinkId → List ℕ → Bool
is_nothing None [] = true
is_nothing None (b ∷ rest) = false
is_nothing (Some link) bytes = false

abbrev pub is_done_at : Option ConnectionState → Bool
is_done_at None = false
is_done_at (Some c) = is_nothing c.link c.waiting

-- **No connection is done**: of each of them the node has an end, or something waits.
pub record NoneDone (m : Rows) : Type 0 where
  pub none : (socket : LinkId) (c : ConnectionState) → get m socket ≡ Some c → c.link ≡ None → c.waiting ≡ [] → ⊥

abbrev pub is_among : LinkId → List LinkId → Bool
is_among socket [] = false
is_among socket (s ∷ rest) = eq_by_cmp id_cmp socket s || is_among socket rest

-- none of these stands there twice
abbrev pub AreOnce : List LinkId → Type 0
AreOnce [] = Unit {0}
AreOnce (s ∷ rest) = (is_among s rest ≡ false) × AreOnce rest

-- Those that are done are listed, each once, and nobody else is. There is room for all connections.
pub record IsListed (m : Rows) (list : List LinkId) (room : ℕ) : Type 0 where
  pub listed : (socket : LinkId) → is_among socket list ≡ is_done_at (get m socket)
  pub once : AreOnce list
  pub fits : len m ≤ room

-- a list with one more, where it is to be listed
abbrev pub listing : Bool → LinkId → List LinkId → List LinkId
listing is socket list = cond is (list ++ socket ∷ []) list

-- who has which link

-- a connection is there under this name, and this is the node's link
pub record HasLink (m : Rows) (socket link : LinkId) : Type 0 where
  pub connection : ConnectionState
  pub is : get m socket ≡ Some connection
  pub has : connection.link ≡ Some link

-- no connection has this link
pub record NoneHas (m : Rows) (link : LinkId) : Type 0 where
  pub none : (socket : LinkId) (c : ConnectionState) → get m socket ≡ Some c → c.link ≡ Some link → ⊥

-- no two connections have one link
pub record AreToldApart (m : Rows) : Type 0 where
  pub apart : (j k : LinkId) (b c : ConnectionState) (link : LinkId) → get m j ≡ Some b → get m k ≡ Some c → b.link ≡ Some link → c.link ≡ Some link → j ≡ k

-- each connection is found by its link, and they are so many
pub record IsIndexed (m : Rows) (sockets : FinMap id_cmp LinkId) (count : ℕ) : Type 0 where
  pub found : (socket : LinkId) (c : ConnectionState) (link : LinkId) → get m socket ≡ Some c → c.link ≡ Some link → get sockets link ≡ Some socket
  pub counted : count ≡ len m

-- the sockets of links without the link of this connection
abbrev pub without_link : Option LinkId → FinMap id_cmp LinkId → FinMap id_cmp LinkId
without_link None sockets = sockets
without_link (Some link) sockets = remove sockets link

abbrev pub without : Option ConnectionState → FinMap id_cmp LinkId → FinMap id_cmp LinkId
without None sockets = sockets
without (Some c) sockets = without_link c.link sockets
