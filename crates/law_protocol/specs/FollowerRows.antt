-- What a step at a replica's end of the link to its master may do, one row for each.
use Rattle.std.specs.Prelude.{ℕ, List, [], ◌++◌, ◌+◌, ◌<◌, ◌≤◌, ◌≡◌, ◌≢◌, None, Some, true, false, length}
use Rattle.law_protocol.specs.Language.{Language, Line}
use Rattle.law_protocol.specs.Language.Line.{FullResync, Continue, Plain, Refusal}
use Rattle.law_protocol.specs.Language.Request.{Handshake, Psync}
use Rattle.law_protocol.specs.Changes.{SetAt, Same}
use Rattle.law_protocol.specs.Node.{Phase, Node, EndsAs, at_phase, continued, wanted}
use Rattle.law_protocol.specs.Node.Phase.{Greet, Asked, Loading, Stream}
use Rattle.law_protocol.specs.World.{Way, Link, World, unread}
use Rattle.law_protocol.specs.Changing.{Still, NodeBecomes, Stops, Reads}

-- The unread bytes begin with a line that says this, and it is used.
pub record Hears (L : Language) (k : Link) (line : Line L.Id) : Type 0 where
  pub text : List ℕ
  pub says : L.says text line
  pub left : Way
  pub reads : Reads k.tell text left

-- the follower used something, and says bytes
abbrev pub asked : Link → Way → List ℕ → Link
asked k left bytes = record k { ask = record k.ask { left = k.ask.left ++ bytes }; tell = left }

-- The replica and its link change.
pub record FollowerBecomes {L : Language} (w v : World L) (n l : ℕ) (a : Node L) (k : Link) : Type 0 where
  pub nodes : SetAt w.node v.node n a
  pub links : SetAt w.link v.link l k
  pub book : Same w.book v.book

-- bytes that begin with something that a replica in this phase uses
pub data Usable (L : Language) (p : Phase L.Id) (bytes : List ℕ) : Type 0 where
  a_reply : (j : ℕ) (text rest : List ℕ) (line : Line L.Id) → p ≡ Greet j → L.says text line → bytes ≡ text ++ rest → Usable L p bytes
  an_answer : (text rest : List ℕ) (line : Line L.Id) → p ≡ Asked → L.says text line → bytes ≡ text ++ rest → Usable L p bytes
  a_snapshot : (i : L.Id) (o : ℕ) (text rest : List ℕ) (m : L.Dataset) → p ≡ Loading i o → L.loads text m → bytes ≡ text ++ rest → Usable L p bytes
  an_effect : (e : L.Effect) (rest : List ℕ) → p ≡ Stream → L.IsGood e → bytes ≡ L.text e ++ rest → Usable L p bytes

-- Nothing whole is there.
pub record FollowerIdles {L : Language} (w v : World L) (p : Phase L.Id) (k : Link) : Type 0 where
  pub nothing : Usable L p (unread k.tell) → ⊥
  pub still : Still w v

-- no continuation of the bytes begins with a line, a snapshot
abbrev pub NoLine : (L : Language) → List ℕ → Type 0
NoLine L bytes = (more text rest : List ℕ) (line : Line L.Id) → L.says text line → bytes ++ more ≡ text ++ rest → ⊥

abbrev pub NoSnapshot : (L : Language) → List ℕ → Type 0
NoSnapshot L bytes = (more text rest : List ℕ) (m : L.Dataset) → L.loads text m → bytes ++ more ≡ text ++ rest → ⊥

-- .. with an effect that the replica can apply: one that applies to its dataset, and whose text doesn't pass the limit
abbrev pub IsStuckAt : {L : Language} → Node L → List ℕ → Type 0
IsStuckAt {L} a bytes = (more rest : List ℕ) (e : L.Effect) (held : L.Dataset) → L.IsGood e → L.apply e a.held ≡ Some held
    → a.offset + length (L.text e) ≤ L.limit → bytes ++ more ≡ L.text e ++ rest → ⊥

-- the line answers no PSYNC, or not the one that was sent
abbrev pub IsNoAnswer : {L : Language} → Node L → Line L.Id → Type 0
IsNoAnswer a (FullResync i o) = ⊥
IsNoAnswer a (Continue i) = a.offers ≡ false
IsNoAnswer a Plain = Unit {0}
IsNoAnswer a Refusal = Unit {0}

-- What is refused before the stream: a line that is none, a refusal, a line that is no answer, a snapshot that is none.
pub data BadAnswer {L : Language} (a : Node L) (p : Phase L.Id) (bytes : List ℕ) : Type 0 where
  no_reply : (j : ℕ) → p ≡ Greet j → NoLine L bytes → BadAnswer a p bytes
  refused : (j : ℕ) (text rest : List ℕ) → p ≡ Greet j → L.says text Refusal → bytes ≡ text ++ rest → BadAnswer a p bytes
  no_line : p ≡ Asked → NoLine L bytes → BadAnswer a p bytes
  no_answer : (text rest : List ℕ) (line : Line L.Id) → p ≡ Asked → L.says text line → bytes ≡ text ++ rest → IsNoAnswer a line → BadAnswer a p bytes
  no_snapshot : (i : L.Id) (o : ℕ) → p ≡ Loading i o → NoSnapshot L bytes → BadAnswer a p bytes

-- What is refused as undecodable: bytes that become no snapshot, and bytes that become no effect which the replica can apply. Whether
-- they are no effect's, or those of one that doesn't apply or passes the limit, is not told apart.
pub data BadStream {L : Language} (a : Node L) (p : Phase L.Id) (bytes : List ℕ) : Type 0 where
  no_snapshot : (i : L.Id) (o : ℕ) → p ≡ Loading i o → NoSnapshot L bytes → BadStream a p bytes
  stuck : p ≡ Stream → IsStuckAt a bytes → BadStream a p bytes

-- The replica refuses what its master sent and closes its end. After what is undecodable it has nothing to continue.
pub data Leaves {L : Language} (w v : World L) (n : ℕ) (a : Node L) (p : Phase L.Id) (k : Link) : Type 0 where
  at_an_answer : BadAnswer a p (unread k.tell) → NodeBecomes w v n (record a { follow = None }) → Leaves w v n a p k
  at_the_stream : BadStream a p (unread k.tell) → NodeBecomes w v n (record a { follow = None; offers = false }) → Leaves w v n a p k

-- Any line that begins with + answers a line of the handshake, and the next one is sent; this is where that is not the last.
pub record HearsReply {L : Language} (w v : World L) (n l : ℕ) (a : Node L) (p : Phase L.Id) (k : Link) : Type 0 where
  pub number : ℕ
  pub phase : p ≡ Greet number
  pub not_last : number < 2
  pub line : Line L.Id
  pub plus : line ≢ Refusal
  pub hears : Hears L k line
  pub request : List ℕ
  pub asks : L.asks None request Handshake
  pub becomes : FollowerBecomes w v n l (at_phase a l (Greet (number + 1))) (asked k hears.left request)

-- .. and this is where it is: PSYNC with the node's id and the byte after its last, or with neither
-- where it has nothing to continue.
pub record HearsLastReply {L : Language} (w v : World L) (n l : ℕ) (a : Node L) (p : Phase L.Id) (k : Link) : Type 0 where
  pub phase : p ≡ Greet 2
  pub line : Line L.Id
  pub plus : line ≢ Refusal
  pub hears : Hears L k line
  pub request : List ℕ
  pub asks : L.asks None request (Psync (wanted a))
  pub becomes : FollowerBecomes w v n l (at_phase a l Asked) (asked k hears.left request)

-- A snapshot is announced. All stays until its last byte.
pub record HearsFullResync {L : Language} (w v : World L) (n l : ℕ) (a : Node L) (p : Phase L.Id) (k : Link) : Type 0 where
  pub phase : p ≡ Asked
  pub id : L.Id
  pub offset : ℕ
  pub hears : Hears L k (FullResync id offset)
  pub becomes : FollowerBecomes w v n l (at_phase a l (Loading id offset)) (asked k hears.left [])

-- The stream goes on from where the replica stands, under an id that may be another.
pub record HearsContinue {L : Language} (w v : World L) (n l : ℕ) (a : Node L) (p : Phase L.Id) (k : Link) : Type 0 where
  pub phase : p ≡ Asked
  pub offered : a.offers ≡ true
  pub id : L.Id
  pub hears : Hears L k (Continue id)
  pub becomes : FollowerBecomes w v n l (at_phase (continued a id) l Stream) (asked k hears.left [])

-- A whole snapshot sets dataset, id and offset at once; the second id is cleared, and the backlog is empty.
pub record Loads {L : Language} (w v : World L) (n l : ℕ) (a : Node L) (p : Phase L.Id) (k : Link) : Type 0 where
  pub id : L.Id
  pub offset : ℕ
  pub phase : p ≡ Loading id offset
  pub text : List ℕ
  pub held : L.Dataset
  pub loads : L.loads text held
  pub left : Way
  pub reads : Reads k.tell text left
  pub becomes : FollowerBecomes w v n l
      (at_phase (record a { id = id; offset = offset; second = None; backlog = []; held = held; offers = true }) l Stream) (asked k left [])

-- One effect of the stream is applied, counted, and put behind the backlog.
pub record Applies {L : Language} (w v : World L) (n l : ℕ) (a : Node L) (p : Phase L.Id) (k : Link) : Type 0 where
  pub phase : p ≡ Stream
  pub effect : L.Effect
  pub good : L.IsGood effect
  pub left : Way
  pub reads : Reads k.tell (L.text effect) left
  pub held : L.Dataset
  pub applies : L.apply effect a.held ≡ Some held
  pub within : a.offset + length (L.text effect) ≤ L.limit
  pub backlog : List ℕ
  pub last_bytes : EndsAs a.backlog (L.text effect) backlog
  pub becomes : FollowerBecomes w v n l (record a { held = held; offset = a.offset + length (L.text effect); backlog = backlog }) (asked k left [])

-- a step of the replica n, which is a, in phase p of the link l, which is k
pub data FollowerRow {L : Language} (w v : World L) (n l : ℕ) (a : Node L) (p : Phase L.Id) (k : Link) : Type 0 where
  idles : FollowerIdles w v p k → FollowerRow w v n l a p k
  stops : Stops w v n a → FollowerRow w v n l a p k
  leaves : Leaves w v n a p k → FollowerRow w v n l a p k
  hears_reply : HearsReply w v n l a p k → FollowerRow w v n l a p k
  hears_last_reply : HearsLastReply w v n l a p k → FollowerRow w v n l a p k
  hears_full_resync : HearsFullResync w v n l a p k → FollowerRow w v n l a p k
  hears_continue : HearsContinue w v n l a p k → FollowerRow w v n l a p k
  loads : Loads w v n l a p k → FollowerRow w v n l a p k
  applies : Applies w v n l a p k → FollowerRow w v n l a p k
