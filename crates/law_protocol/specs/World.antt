-- Nodes, the links between them and to clients, and the book of histories.
use Rattle.std.specs.Prelude.{ℕ, List, [], ◌++◌, ◌≡◌, Option, None, Some, Bool, true, false, take, cond, ◌==◌, ◌&&◌}
use Rattle.law_protocol.specs.Language.{Language, Transaction}
use Rattle.law_protocol.specs.History.{Book}
use Rattle.law_protocol.specs.Node.{Node}

-- One direction of a link: what was sent and not used, and how many bytes of that were taken. Those taken are unread.
pub record Way : Type 0 where
  pub left : List ℕ
  pub taken : ℕ

abbrev pub unread : Way → List ℕ
unread way = take way.taken way.left

abbrev pub no_bytes : Way
no_bytes = record { left = []; taken = 0 }

-- who asked for a link
pub data Caller : Type 0 where
  Client : Bool → Caller  -- a client, whose end is open or not
  Peer : ℕ → Caller  -- a node, whose end is open while it follows this link

pub record Link : Type 0 where
  pub caller : Caller
  pub to : Option ℕ  -- the node that serves, none while the link waits for a node to accept it
  pub serving : Bool  -- the server's end is open
  pub streams : Bool  -- the server has answered PSYNC by CONTINUE or FULLRESYNC
  pub ask : Way  -- to the server
  pub tell : Way  -- from the server
  pub transaction : Option Transaction  -- what the requests that the server used have left open

pub record World (L : Language) : Type 0 where
  pub node : ℕ → Option (Node L)
  pub link : ℕ → Option Link
  pub book : Book L

-- The server hasn't answered PSYNC, and no transaction is open: what a handshake finds.
abbrev pub IsPlain : Link → Type 0
IsPlain k = (k.streams ≡ false) × (k.transaction ≡ None)

-- Nobody has accepted the link yet: of what was sent nothing was taken, and nothing was sent to who asked for it.
pub record IsUntouched (k : Link) : Type 0 where
  pub serving : k.serving ≡ false
  pub streams : k.streams ≡ false
  pub ask : k.ask.taken ≡ 0
  pub tell : k.tell ≡ no_bytes
  pub transaction : k.transaction ≡ None

-- whether it is node n that serves
abbrev pub is_to : ℕ → Option ℕ → Bool
is_to n None = false
is_to n (Some m) = m == n

-- the link carries the stream of node n
abbrev pub hears : ℕ → Link → Bool
hears n k = is_to n k.to && (k.serving && k.streams)

-- node n opens its end of a link that waits, and finds what was sent
abbrev pub accepted : ℕ → Link → Link
accepted n k = record k { to = Some n; serving = true }

-- what is open on the link is dropped
abbrev pub dropped : Bool → Link → Link
dropped b k = record k { transaction = cond b None k.transaction }

-- the server's end closes, and drops what is open
abbrev pub shut : Bool → Link → Link
shut b k = record (dropped b k) { serving = cond b false k.serving }

abbrev pub told : Link → List ℕ → Link
told k bytes = record k { tell = record k.tell { left = k.tell.left ++ bytes } }

abbrev pub told_if : Bool → Link → List ℕ → Link
told_if b k bytes = cond b (told k bytes) k

-- Node n shows this id and offset, and holds m.
pub record Shows {L : Language} (w : World L) (n : ℕ) (i : L.Id) (o : ℕ) (m : L.Dataset) : Type 0 where
  pub node : Node L
  pub found : w.node n ≡ Some node
  pub up : node.up ≡ true
  pub id : node.id ≡ i
  pub offset : node.offset ≡ o
  pub held : node.held ≡ m
