-- What a step at the server's end of a link may do, one row for each.
use Rattle.std.specs.Prelude.{ℕ, List, [], ◌++◌, ◌+◌, ◌-◌, ◌<◌, ◌≡◌, ◌≢◌, Option, None, Some, true, false, length}
use Rattle.law_protocol.specs.Language.{Language, Transaction, Request}
use Rattle.law_protocol.specs.Language.Line.{FullResync, Continue, Plain, Refusal}
use Rattle.law_protocol.specs.Language.Request.{Handshake, Psync, Ack, Command, ReplicaOfNoOne, ReplicaOf, Empty, Quit}
use Rattle.law_protocol.specs.Changes.{SetAt, Same}
use Rattle.law_protocol.specs.History.{Branches, texts}
use Rattle.law_protocol.specs.Node.{Node, Continues, tail}
use Rattle.law_protocol.specs.World.{Way, Link, World, unread, hears, shut, told, told_if}
use Rattle.law_protocol.specs.Changing.{Still, LinkBecomes, Stops, Reads, Grown}

-- The unread bytes begin with a request that asks this, and it is used.
pub record Uses (L : Language) (k : Link) (request : Request L.Id) : Type 0 where
  pub text : List ℕ
  pub asks : L.asks k.transaction text request
  pub left : Way
  pub reads : Reads k.ask text left

-- the server used a request, and says bytes
abbrev pub answered : Link → Way → List ℕ → Link
answered k left bytes = record k { ask = left; tell = record k.tell { left = k.tell.left ++ bytes } }

-- the server used a command, says bytes, and has this open from now on
abbrev pub concluded : Link → Way → List ℕ → Option Transaction → Link
concluded k left bytes transaction = record (answered k left bytes) { transaction = transaction }

-- the server's answer to PSYNC: the link is in its stream phase from now on
abbrev pub joined : Link → Way → List ℕ → Link
joined k left bytes = record (answered k left bytes) { streams = true }

-- Nothing whole is there.
pub record Idles {L : Language} (w v : World L) (k : Link) : Type 0 where
  pub none : (text rest : List ℕ) (request : Request L.Id) → L.asks k.transaction text request → unread k.ask ≡ text ++ rest → ⊥
  pub hopeful : L.doomed (unread k.ask) → ⊥
  pub still : Still w v

-- Of a link in its stream phase: an acknowledgement is noted without a reply.
pub record Notes {L : Language} (w v : World L) (l : ℕ) (k : Link) : Type 0 where
  pub streams : k.streams ≡ true
  pub uses : Uses L k Ack
  pub becomes : LinkBecomes w v l (record k { ask = uses.left })

-- what a replica has no business to send
pub data Unwanted (L : Language) (k : Link) : Type 0 where
  doomed : L.doomed (unread k.ask) → Unwanted L k
  other : (request : Request L.Id) → Uses L k request → request ≢ Ack → request ≢ Empty → Unwanted L k

-- Of a link in its stream phase: anything else closes it without a reply.
pub record Shuts {L : Language} (w v : World L) (l : ℕ) (k : Link) : Type 0 where
  pub streams : k.streams ≡ true
  pub unwanted : Unwanted L k
  pub becomes : LinkBecomes w v l (shut true k)

-- An empty request, before the answer to PSYNC or after it, is used and nothing is sent.
pub record Skips {L : Language} (w v : World L) (l : ℕ) (k : Link) : Type 0 where
  pub uses : Uses L k Empty
  pub becomes : LinkBecomes w v l (record k { ask = uses.left })

-- Doomed bytes: the fault is told, and the end closes.
pub record Faults {L : Language} (w v : World L) (l : ℕ) (k : Link) : Type 0 where
  pub client : k.streams ≡ false
  pub doomed : L.doomed (unread k.ask)
  pub reply : List ℕ
  pub becomes : LinkBecomes w v l (shut true (told k reply))

-- A line of the handshake before its last.
pub record Greets {L : Language} (w v : World L) (l : ℕ) (k : Link) : Type 0 where
  pub client : k.streams ≡ false
  pub uses : Uses L k Handshake
  pub reply : List ℕ
  pub plain : L.says reply Plain
  pub becomes : LinkBecomes w v l (answered k uses.left reply)

-- A replica is asked for its stream.
pub record Refuses {L : Language} (w v : World L) (l : ℕ) (k : Link) (s : Node L) : Type 0 where
  pub client : k.streams ≡ false
  pub replica : s.master ≡ false
  pub query : Option (L.Id × ℕ)
  pub uses : Uses L k (Psync query)
  pub reply : List ℕ
  pub refusal : L.says reply Refusal
  pub becomes : LinkBecomes w v l (answered k uses.left reply)

-- A master answers by its id, its offset and a snapshot of its dataset, where it can't be continued as was asked.
pub record Resynchronizes {L : Language} (w v : World L) (l : ℕ) (k : Link) (s : Node L) : Type 0 where
  pub client : k.streams ≡ false
  pub master : s.master ≡ true
  pub query : Option (L.Id × ℕ)
  pub uses : Uses L k (Psync query)
  pub apart : (i : L.Id) (o : ℕ) → query ≡ Some (i, o) → Continues s i o → ⊥
  pub line : List ℕ
  pub says : L.says line (FullResync s.id s.offset)
  pub snapshot : List ℕ
  pub loads : L.loads snapshot s.held
  pub becomes : LinkBecomes w v l (joined k uses.left (line ++ snapshot))

-- A master answers by its id and the bytes of its stream from the one that was asked for.
pub record GoesOn {L : Language} (w v : World L) (l : ℕ) (k : Link) (s : Node L) : Type 0 where
  pub client : k.streams ≡ false
  pub master : s.master ≡ true
  pub id : L.Id
  pub from : ℕ
  pub uses : Uses L k (Psync (Some (id, from)))
  pub continues : Continues s id from
  pub line : List ℕ
  pub says : L.says line (Continue s.id)
  pub becomes : LinkBecomes w v l (joined k uses.left (line ++ tail s from))

-- the requests other than commands that are answered and change nothing
abbrev pub IsQuiet : {L : Language} → Node L → Request L.Id → Type 0
IsQuiet s Command = ⊥
IsQuiet s ReplicaOfNoOne = s.master ≡ true
IsQuiet s (ReplicaOf host) = (s.master ≡ false) × (s.upstream ≡ host)
IsQuiet s Ack = Unit {0}
IsQuiet s Handshake = ⊥
IsQuiet s (Psync query) = ⊥
IsQuiet s Empty = ⊥
IsQuiet s Quit = ⊥

pub record Replies {L : Language} (w v : World L) (l : ℕ) (k : Link) (s : Node L) : Type 0 where
  pub client : k.streams ≡ false
  pub request : Request L.Id
  pub uses : Uses L k request
  pub quiet : IsQuiet s request
  pub reply : List ℕ
  pub becomes : LinkBecomes w v l (answered k uses.left reply)

-- A replica answers a command and changes nothing, or puts it aside for the end of its transaction.
pub record Answers {L : Language} (w v : World L) (l : ℕ) (k : Link) (s : Node L) : Type 0 where
  pub client : k.streams ≡ false
  pub replica : s.master ≡ false
  pub uses : Uses L k Command
  pub transaction : Option Transaction
  pub leads : L.leads false k.transaction uses.text transaction
  pub reply : List ℕ
  pub becomes : LinkBecomes w v l (concluded k uses.left reply transaction)

-- A command whose effects would carry the offset past its limit is told so, and changes nothing.
pub record PassesLimit {L : Language} (w v : World L) (l : ℕ) (k : Link) (s : Node L) (given : L.Given) : Type 0 where
  pub client : k.streams ≡ false
  pub master : s.master ≡ true
  pub uses : Uses L k Command
  pub effects : List L.Effect
  pub of_request : L.effects (L.limit - s.offset) k.transaction uses.text s.held given effects
  pub beyond : L.limit < s.offset + length (texts L effects)
  pub transaction : Option Transaction
  pub leads : L.leads true k.transaction uses.text transaction
  pub reply : List ℕ
  pub becomes : LinkBecomes w v l (concluded k uses.left reply transaction)

-- A master applies a command's effects, puts them behind its stream, and sends them to every replica in its stream phase. One
-- that waits for the end of its transaction has none, and the end has those of all that waited.
pub record Runs {L : Language} (w v : World L) (n l : ℕ) (k : Link) (s : Node L) (given : L.Given) : Type 0 where
  pub client : k.streams ≡ false
  pub master : s.master ≡ true
  pub uses : Uses L k Command
  pub effects : List L.Effect
  pub of_request : L.effects (L.limit - s.offset) k.transaction uses.text s.held given effects
  pub grown : Grown w v n s effects
  pub transaction : Option Transaction
  pub leads : L.leads true k.transaction uses.text transaction
  pub reply : List ℕ
  pub link : v.link l ≡ Some (concluded k uses.left reply transaction)
  pub no_links : (j : ℕ) → j ≢ l → w.link j ≡ None → v.link j ≡ None
  pub links : (j : ℕ) (x : Link) → j ≢ l → w.link j ≡ Some x → v.link j ≡ Some (told_if (hears n x) x (texts L effects))

-- A client that asks for it is told so, and the end closes.
pub record Quits {L : Language} (w v : World L) (l : ℕ) (k : Link) : Type 0 where
  pub client : k.streams ≡ false
  pub uses : Uses L k Quit
  pub reply : List ℕ
  pub becomes : LinkBecomes w v l (shut true (told k reply))

-- REPLICAOF NO ONE on a replica: it leaves its master and follows no host, and its stream goes on under the fresh id.
pub record Promotes {L : Language} (w v : World L) (n l : ℕ) (k : Link) (s : Node L) (fresh : L.Id) : Type 0 where
  pub client : k.streams ≡ false
  pub replica : s.master ≡ false
  pub uses : Uses L k ReplicaOfNoOne
  pub nodes : SetAt w.node v.node n (record s { follow = None; offers = true; upstream = []; master = true; id = fresh; second = Some (s.id, s.offset + 1) })
  pub reply : List ℕ
  pub links : SetAt w.link v.link l (answered k uses.left reply)
  pub book : Branches L w.book v.book fresh s.id s.offset

-- REPLICAOF a host on a master: it closes the links of its replicas, and offers its own id and offset.
pub record Demotes {L : Language} (w v : World L) (n l : ℕ) (k : Link) (s : Node L) : Type 0 where
  pub client : k.streams ≡ false
  pub master : s.master ≡ true
  pub host : List ℕ
  pub uses : Uses L k (ReplicaOf host)
  pub nodes : SetAt w.node v.node n (record s { master = false; offers = true; upstream = host })
  pub reply : List ℕ
  pub link : v.link l ≡ Some (answered k uses.left reply)
  pub no_links : (j : ℕ) → j ≢ l → w.link j ≡ None → v.link j ≡ None
  pub links : (j : ℕ) (x : Link) → j ≢ l → w.link j ≡ Some x → v.link j ≡ Some (shut (hears n x) x)
  pub book : Same w.book v.book

-- REPLICAOF another host on a replica: it leaves its master.
pub record Turns {L : Language} (w v : World L) (n l : ℕ) (k : Link) (s : Node L) : Type 0 where
  pub client : k.streams ≡ false
  pub replica : s.master ≡ false
  pub host : List ℕ
  pub another : s.upstream ≢ host
  pub uses : Uses L k (ReplicaOf host)
  pub nodes : SetAt w.node v.node n (record s { follow = None; upstream = host })
  pub reply : List ℕ
  pub links : SetAt w.link v.link l (answered k uses.left reply)
  pub book : Same w.book v.book

-- a step of the node n, which is s, at its end of the link l, which is k
pub data ServerRow {L : Language} (w v : World L) (n l : ℕ) (k : Link) (s : Node L) (given : L.Given) (fresh : L.Id) : Type 0 where
  idles : Idles w v k → ServerRow w v n l k s given fresh
  stops : Stops w v n s → ServerRow w v n l k s given fresh
  notes : Notes w v l k → ServerRow w v n l k s given fresh
  shuts : Shuts w v l k → ServerRow w v n l k s given fresh
  skips : Skips w v l k → ServerRow w v n l k s given fresh
  faults : Faults w v l k → ServerRow w v n l k s given fresh
  greets : Greets w v l k → ServerRow w v n l k s given fresh
  refuses : Refuses w v l k s → ServerRow w v n l k s given fresh
  resynchronizes : Resynchronizes w v l k s → ServerRow w v n l k s given fresh
  goes_on : GoesOn w v l k s → ServerRow w v n l k s given fresh
  replies : Replies w v l k s → ServerRow w v n l k s given fresh
  answers : Answers w v l k s → ServerRow w v n l k s given fresh
  passes_limit : PassesLimit w v l k s given → ServerRow w v n l k s given fresh
  runs : Runs w v n l k s given → ServerRow w v n l k s given fresh
  quits : Quits w v l k → ServerRow w v n l k s given fresh
  promotes : Promotes w v n l k s fresh → ServerRow w v n l k s given fresh
  demotes : Demotes w v n l k s → ServerRow w v n l k s given fresh
  turns : Turns w v n l k s → ServerRow w v n l k s given fresh
