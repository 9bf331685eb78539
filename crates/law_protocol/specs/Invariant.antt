-- What holds at every moment of a run.
use Rattle.std.specs.Prelude.{ℕ, List, [], ◌++◌, ◌≡◌, ◌+◌, ◌-◌, None, Some, true, All}
use Rattle.law_protocol.specs.Language.{Language}
use Rattle.law_protocol.specs.Language.Line.{Plain, Refusal, FullResync, Continue}
use Rattle.law_protocol.specs.Language.Request.{Handshake, Psync}
use Rattle.law_protocol.specs.History.{Book, History, IsAt, Front, Agree, texts, fold}
use Rattle.law_protocol.specs.Node.{Phase, Follow, Node}
use Rattle.law_protocol.specs.Node.Phase.{Greet, Asked, Loading, Stream}
use Rattle.law_protocol.specs.World.{Link, World, IsPlain, IsUntouched}
use Rattle.law_protocol.specs.World.Caller.{Peer}

-- one snapshot, and what it loads
pub record Snapshot (L : Language) : Type 0 where
  pub text : List ℕ
  pub held : L.Dataset
  pub loads : L.loads text held

-- a whole answer FULLRESYNC: its line and its snapshot
pub record FullAnswer (L : Language) (i : L.Id) (o : ℕ) : Type 0 where
  pub line : List ℕ
  pub says : L.says line (FullResync i o)
  pub text : List ℕ
  pub held : L.Dataset
  pub loads : L.loads text held

-- the line of an answer CONTINUE
pub record ContinueAnswer (L : Language) : Type 0 where
  pub id : L.Id
  pub line : List ℕ
  pub says : L.says line (Continue id)

-- What holds of a node that isn't stopped.
pub record NodeIsSound {L : Language} (book : Book L) (a : Node L) : Type 0 where
  pub start : L.Dataset
  pub earlier : List L.Effect
  pub later : List L.Effect
  pub front : Front L book a.id a.offset start earlier later
  -- its dataset is the history of its id up to its offset
  pub folds : fold L earlier start ≡ Some a.held
  -- its backlog is the last bytes of that
  pub before : List ℕ
  pub backlog : texts L earlier ≡ before ++ a.backlog
  -- a master stands at the end of its id's history, and follows nobody
  pub tip : a.master ≡ true → later ≡ []
  pub alone : a.master ≡ true → a.follow ≡ None
  -- the history of its second id is that of its id, below the second offset
  pub second : (i : L.Id) (o : ℕ) → a.second ≡ Some (i, o) → Agree L book i a.id (o - 1)

-- While the server streams to this link, it is the one that may extend i, and what it sent ends where i ends.
abbrev pub AtTip : {L : Language} → World L → Link → L.Id → List L.Effect → Type 0
AtTip {L} w k i post = (n : ℕ) (s : Node L) → k.to ≡ Some n → w.node n ≡ Some s → s.up ≡ true → k.serving ≡ true → (s.master ≡ true) × (s.id ≡ i) × (post ≡ [])

-- These bytes on the link are the stream of i from o.
pub record Flow {L : Language} (w : World L) (k : Link) (i : L.Id) (o : ℕ) (bytes : List ℕ) : Type 0 where
  pub start : L.Dataset
  pub earlier : List L.Effect
  pub mid : List L.Effect
  pub post : List L.Effect
  pub front : Front L w.book i o start earlier (mid ++ post)
  pub bytes_are : bytes ≡ texts L mid
  pub tip : AtTip w k i post
  pub streams : k.streams ≡ true

-- What was sent on a follower's link and not used, by the stages of the handshake.
pub data Talk {L : Language} (w : World L) (a : Node L) (p : Phase L.Id) (k : Link) : Type 0 where
  greeting : (n : ℕ) → p ≡ Greet n → IsPlain k → L.asks k.transaction k.ask.left Handshake → k.tell.left ≡ [] → Talk w a p k
  greeted : (n : ℕ) (t : List ℕ) → p ≡ Greet n → IsPlain k → k.ask.left ≡ [] → k.tell.left ≡ t → L.says t Plain → Talk w a p k
  asking : p ≡ Asked → IsPlain k → L.asks k.transaction k.ask.left (Psync None) → k.tell.left ≡ [] → Talk w a p k
  asking_for : p ≡ Asked → IsPlain k → L.asks k.transaction k.ask.left (Psync (Some (a.id, a.offset + 1))) → k.tell.left ≡ [] → Talk w a p k
  refused : (t : List ℕ) → p ≡ Asked → IsPlain k → k.ask.left ≡ [] → k.tell.left ≡ t → L.says t Refusal → Talk w a p k
  answered_full : (i : L.Id) (o : ℕ) (m : FullAnswer L i o) (bytes : List ℕ) → p ≡ Asked → k.tell.left ≡ m.line ++ (m.text ++ bytes)
      → IsAt L w.book i o m.held → Flow w k i o bytes → Talk w a p k
  answered_cont : (m : ContinueAnswer L) (bytes : List ℕ) → p ≡ Asked → k.tell.left ≡ m.line ++ bytes
      → Agree L w.book a.id m.id a.offset → Flow w k m.id a.offset bytes → Talk w a p k
  loading : (i : L.Id) (o : ℕ) (m : Snapshot L) (bytes : List ℕ) → p ≡ Loading i o → k.tell.left ≡ m.text ++ bytes
      → IsAt L w.book i o m.held → Flow w k i o bytes → Talk w a p k
  streaming : (bytes : List ℕ) → p ≡ Stream → k.tell.left ≡ bytes → Flow w k a.id a.offset bytes → Talk w a p k

-- a follower's link: it is there, this node dialled it, and it carries what the stage says
pub record LinkIsSound {L : Language} (w : World L) (n : ℕ) (a : Node L) (f : Follow L.Id) : Type 0 where
  pub link : Link
  pub found : w.link f.link ≡ Some link
  pub mine : link.caller ≡ Peer n
  pub talk : Talk w a f.phase link

-- Each effect of a history is good.
abbrev pub IsGoodBook : (L : Language) → Book L → Type 0
IsGoodBook L book = (i : L.Id) (h : History L) → book i ≡ Some h → All L.IsGood h.effects

pub record Invariant {L : Language} (w : World L) : Type 0 where
  pub nodes : (n : ℕ) (a : Node L) → w.node n ≡ Some a → a.up ≡ true → NodeIsSound w.book a
  pub good : IsGoodBook L w.book
  -- each id has at most one node that may extend it
  pub masters : (n m : ℕ) (a b : Node L) → w.node n ≡ Some a → w.node m ≡ Some b → a.up ≡ true → b.up ≡ true
      → a.master ≡ true → b.master ≡ true → a.id ≡ b.id → n ≡ m
  pub links : (n : ℕ) (a : Node L) (f : Follow L.Id) → w.node n ≡ Some a → a.up ≡ true → a.follow ≡ Some f → LinkIsSound w n a f
  -- a link that nobody has accepted is as who asked for it made it
  pub waiting : (l : ℕ) (k : Link) → w.link l ≡ Some k → k.to ≡ None → IsUntouched k
