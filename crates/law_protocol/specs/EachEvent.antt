-- What every event keeps to, whichever it is: what the rows refuse to bodies that would be wrong.
use Rattle.std.specs.Prelude.{ℕ, List, [], ◌++◌, ◌+◌, ◌≤◌, ◌≡◌, ◌⊎◌, Option, None, Some, true, false, length}
use Rattle.law_protocol.specs.Language.{Language}
use Rattle.law_protocol.specs.Language.Line.{FullResync, Continue}
use Rattle.law_protocol.specs.Language.Request.{Psync}
use Rattle.law_protocol.specs.Changes.{Same}
use Rattle.law_protocol.specs.History.{Draws, Extends, Branches}
use Rattle.law_protocol.specs.Node.{Phase, Follow, Node, Continues, tail}
use Rattle.law_protocol.specs.Node.Phase.{Greet, Stream}
use Rattle.law_protocol.specs.World.{Link, World, unread, no_bytes}
use Rattle.law_protocol.specs.Event.{Event}
use Rattle.law_protocol.specs.ServerRows.{Uses, ServerRow}
use Rattle.law_protocol.specs.FollowerRows.{Usable, FollowerRow}
use Rattle.law_protocol.specs.Rows.{RestartRow, Connects, DialRow, ConnectRow, AcceptRow, Row}

-- The book stays, or a node that starts draws its id, or a running master extends its own id, or a replica that is promoted
-- branches at its offset. So neither a replica nor who follows it books anything.
pub data BookChange {L : Language} (w v : World L) : Type 0 where
  stays : Same w.book v.book → BookChange w v
  draws : (n : ℕ) (b : Node L) → v.node n ≡ Some b → b.offset ≡ 0 → Draws L w.book v.book b.id b.held → BookChange w v
  extends : (n : ℕ) (a : Node L) (effects : List L.Effect) → w.node n ≡ Some a → a.up ≡ true → a.master ≡ true
      → Extends L w.book v.book a.id effects → BookChange w v
  branches : (n : ℕ) (a b : Node L) → w.node n ≡ Some a → a.up ≡ true → a.master ≡ false → v.node n ≡ Some b → b.master ≡ true
      → Branches L w.book v.book b.id a.id a.offset → BookChange w v

abbrev pub BookChangesByThreeWays : Language → Type 0
BookChangesByThreeWays L = (w v : World L) (e : Event L) → Row w e v → BookChange w v

-- A master under an id that wasn't drawn before, which has something to continue where it becomes a replica, and follows no host.
pub record LeadsAnew {L : Language} (w : World L) (b : Node L) : Type 0 where
  pub new_id : w.book b.id ≡ None
  pub offers : b.offers ≡ true
  pub upstream : b.upstream ≡ []

-- A replica that becomes a master, at each promotion or by starting anew, leads anew.
abbrev pub MastersTakeNewIds : Language → Type 0
MastersTakeNewIds L = (w v : World L) (e : Event L) → Row w e v → (n : ℕ) (a b : Node L) → w.node n ≡ Some a → a.master ≡ false
    → v.node n ≡ Some b → b.up ≡ true → b.master ≡ true → LeadsAnew w b

-- A node that starts anew does so under an id that wasn't drawn before, at offset 0.
pub record StartsAnew {L : Language} (w : World L) (b : Node L) : Type 0 where
  pub new_id : w.book b.id ≡ None
  pub offset : b.offset ≡ 0
  pub second : b.second ≡ None
  pub follow : b.follow ≡ None

abbrev pub RestartsUnderNewIds : Language → Type 0
RestartsUnderNewIds L = (w v : World L) (n : ℕ) (file : List ℕ) (i : L.Id) → RestartRow w n file i v → (b : Node L) → v.node n ≡ Some b → StartsAnew w b

-- The id, the offset and the dataset are as they were.
pub record ShowsTheSame {L : Language} (a b : Node L) : Type 0 where
  pub id : b.id ≡ a.id
  pub offset : b.offset ≡ a.offset
  pub held : b.held ≡ a.held

-- Of a line, a snapshot or an effect that isn't whole a replica shows nothing.
abbrev pub PartsChangeNothing : Language → Type 0
PartsChangeNothing L = (w v : World L) (n l : ℕ) (a b : Node L) (p : Phase L.Id) (k : Link) → w.node n ≡ Some a → FollowerRow w v n l a p k
    → (Usable L p (unread k.tell) → ⊥) → v.node n ≡ Some b → b.up ≡ true → ShowsTheSame a b

-- What PSYNC is answered at a master: where the continue rule allows it, its id with its stream from the byte that was asked for, and
-- else its id and offset with a snapshot of the dataset that it holds at them.
pub data Answer {L : Language} (s : Node L) (query : Option (L.Id × ℕ)) (bytes : List ℕ) : Type 0 where
  resynchronizes : (line snapshot : List ℕ) → ((i : L.Id) (o : ℕ) → query ≡ Some (i, o) → Continues s i o → ⊥)
      → L.says line (FullResync s.id s.offset) → L.loads snapshot s.held → bytes ≡ line ++ snapshot → Answer s query bytes
  continues : (id : L.Id) (from : ℕ) (line : List ℕ) → query ≡ Some (id, from) → Continues s id from
      → L.says line (Continue s.id) → bytes ≡ line ++ tail s from → Answer s query bytes

pub record Answered {L : Language} (w v : World L) (s : Node L) (k k' : Link) : Type 0 where
  pub master : s.master ≡ true
  pub nodes : Same w.node v.node
  pub query : Option (L.Id × ℕ)
  pub uses : Uses L k (Psync query)
  pub bytes : List ℕ
  pub sent : k'.tell.left ≡ k.tell.left ++ bytes
  pub answer : Answer s query bytes

abbrev pub AnswersAreOfOneMoment : Language → Type 0
AnswersAreOfOneMoment L = (w v : World L) (n l : ℕ) (k k' : Link) (s : Node L) (given : L.Given) (fresh : L.Id) → w.link l ≡ Some k
    → ServerRow w v n l k s given fresh → k.streams ≡ false → v.link l ≡ Some k' → k'.streams ≡ true → Answered w v s k k'

-- A replica that has something to continue asks, by the last line of its handshake, for the byte after its last one.
abbrev pub AsksFromWhereItStands : Language → Type 0
AsksFromWhereItStands L = (w v : World L) (n l : ℕ) (a b : Node L) (k k' : Link) → w.node n ≡ Some a → FollowerRow w v n l a (Greet 2) k → a.offers ≡ true
    → v.node n ≡ Some b → b.up ≡ true → v.link l ≡ Some k' → w.link l ≡ Some k
    → (k' ≡ k) ⊎ ((request : List ℕ) × L.asks None request (Psync (Some (a.id, a.offset + 1))) × (k'.ask.left ≡ k.ask.left ++ request))

-- While what is unread may still become an effect that applies, a replica in its stream phase keeps its link.
abbrev pub StreamsAreFollowed : Language → Type 0
StreamsAreFollowed L = (w v : World L) (n l : ℕ) (a b : Node L) (k : Link) → w.node n ≡ Some a → a.follow ≡ Some (record { link = l; phase = Stream })
    → FollowerRow w v n l a Stream k → (e : L.Effect) (m : L.Dataset) (more rest : List ℕ) → L.IsGood e → L.apply e a.held ≡ Some m
    → a.offset + length (L.text e) ≤ L.limit → unread k.tell ++ more ≡ L.text e ++ rest
    → v.node n ≡ Some b → b.up ≡ true → b.follow ≡ Some (record { link = l; phase = Stream })

-- A replica opens its end of a link, which a node accepts at once or which waits for one.
pub data OpensAnEnd {L : Language} (w v : World L) (n : ℕ) : Type 0 where
  dials : (s : ℕ) → DialRow w n s v → OpensAnEnd w v n
  connects : ConnectRow w n v → OpensAnEnd w v n

-- On a link that a replica has just dialled nothing was sent to it: what an earlier link left unread is gone.
abbrev pub DialledLinksAreEmpty : Language → Type 0
DialledLinksAreEmpty L = (w v : World L) (n : ℕ) → OpensAnEnd w v n → (b : Node L) (f : Follow L.Id) (k : Link) → v.node n ≡ Some b → b.up ≡ true
    → b.follow ≡ Some f → v.link f.link ≡ Some k → k.tell ≡ no_bytes

-- Between the two worlds there is one in which the link of this number waits.
pub record InTwoEvents {L : Language} (w v : World L) (n s : ℕ) : Type 0 where
  pub between : World L
  pub link : ℕ
  pub connect : ConnectRow w n between
  pub accept : AcceptRow between link s v

-- A dial by which a link comes is a connect and then an accept: the replica's end opens first, and then that of the node dialled.
abbrev pub DialIsConnectAndAccept : Language → Type 0
DialIsConnectAndAccept L = (w v : World L) (n s : ℕ) (row : DialRow w n s v) → row.node.up ≡ true → row.server.up ≡ true
    → Connects w v n (Some s) row.node → InTwoEvents w v n s
