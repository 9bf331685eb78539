-- The moves of a world. Each event's row is a few of these, one after another; the invariant is proved of each.
use Rattle.std.specs.Prelude.{ℕ, List, [], ◌∷◌, ◌++◌, ◌+◌, ◌≡◌, Option, None, Some, Bool, true, false, length, All}
use Rattle.law_protocol.specs.Language.{Language, Line}
use Rattle.law_protocol.specs.Language.Line.{FullResync, Continue, Plain, Refusal}
use Rattle.law_protocol.specs.Language.Request.{Handshake, Psync}
use Rattle.law_protocol.specs.Changes.{SetAt, Same}
use Rattle.law_protocol.specs.History.{History, Front, texts, fold}
use Rattle.law_protocol.specs.Node.{Phase, Node, Continues, tail, continued, at_phase, EndsAs}
use Rattle.law_protocol.specs.Node.Phase.{Greet, Asked, Loading, Stream}
use Rattle.law_protocol.specs.World.{Link, World, IsUntouched, dropped, hears, accepted, shut, told_if}
use Rattle.law_protocol.specs.World.Caller.{Peer}
use Rattle.law_protocol.specs.Rows.{fresh_link}

-- the server used one request, of which rest is left, and says bytes
abbrev pub used : Link → List ℕ → List ℕ → Link
used k rest bytes = record k { ask = record k.ask { left = rest }; tell = record k.tell { left = k.tell.left ++ bytes } }

-- the follower used one text, of which rest is left, and says bytes
abbrev pub heard : Link → List ℕ → List ℕ → Link
heard k rest bytes = record k { ask = record k.ask { left = k.ask.left ++ bytes }; tell = record k.tell { left = rest } }

-- a replica's end of its open link
pub record Follows {L : Language} (w : World L) (n : ℕ) (a : Node L) (l : ℕ) (p : Phase L.Id) (k : Link) : Type 0 where
  pub node : w.node n ≡ Some a
  pub up : a.up ≡ true
  pub follow : a.follow ≡ Some (record { link = l; phase = p })
  pub link : w.link l ≡ Some k

-- a node's end of an open link that it serves
pub record HasServingEnd {L : Language} (w : World L) (s : Node L) (l : ℕ) (k : Link) : Type 0 where
  pub link : w.link l ≡ Some k
  pub n : ℕ
  pub to : k.to ≡ Some n
  pub node : w.node n ≡ Some s
  pub up : s.up ≡ true
  pub serving : k.serving ≡ true

-- where the link waits nothing was done on it
abbrev pub WaitsUntouched : Link → Type 0
WaitsUntouched k = k.to ≡ None → IsUntouched k

-- no link comes
abbrev pub NoneComes : {L : Language} → World L → World L → Type 0
NoneComes w v = (l : ℕ) → w.link l ≡ None → v.link l ≡ None

pub data Move {L : Language} (w v : World L) : Type 0 where
  -- nothing changes
  still : Same w.node v.node → Same w.link v.link → Same w.book v.book → Move w v
  -- the node shows nothing from now on, whatever is left of it
  stop : (n : ℕ) (b : Node L) → b.up ≡ false → SetAt w.node v.node n b → Same w.link v.link → Same w.book v.book → Move w v
  -- the replica's end of its link closes
  leave : (n : ℕ) (a : Node L) (x : Bool) (h : List ℕ) → w.node n ≡ Some a → SetAt w.node v.node n (record a { follow = None; offers = x; upstream = h }) → Same w.link v.link → Same w.book v.book → Move w v
  -- the server's end of some links closes
  close : (f : ℕ → Link → Bool) → Same w.node v.node → NoneComes w v → ((l : ℕ) (k : Link) → w.link l ≡ Some k → v.link l ≡ Some (shut (f l k) k)) → Same w.book v.book → Move w v
  -- the server's end of some links drops what is open
  drop_open : (f : ℕ → Link → Bool) → Same w.node v.node → NoneComes w v → ((l : ℕ) (k : Link) → w.link l ≡ Some k → v.link l ≡ Some (dropped (f l k) k)) → Same w.book v.book → Move w v
  -- bytes are delivered
  carry : (l x y : ℕ) (k : Link) → w.link l ≡ Some k → WaitsUntouched (record k { ask = record k.ask { taken = x }; tell = record k.tell { taken = y } }) → Same w.node v.node
      → SetAt w.link v.link l (record k { ask = record k.ask { taken = x }; tell = record k.tell { taken = y } }) → Same w.book v.book → Move w v
  -- anything on a link that no running node follows, as a client's
  loose : (l : ℕ) (k : Link) → ((n : ℕ) (a : Node L) (p : Phase L.Id) → w.node n ≡ Some a → a.up ≡ true → a.follow ≡ Some (record { link = l; phase = p }) → ⊥)
      → WaitsUntouched k → Same w.node v.node → SetAt w.link v.link l k → Same w.book v.book → Move w v
  -- a node starts, or starts anew, under a new id
  draw : (n : ℕ) (b : Node L) → w.book b.id ≡ None → b.offset ≡ 0 → b.second ≡ None → b.backlog ≡ [] → b.follow ≡ None
      → ((l : ℕ) (k : Link) → w.link l ≡ Some k → k.to ≡ Some n → k.serving ≡ false)
      → SetAt w.node v.node n b → Same w.link v.link → SetAt w.book v.book b.id (record { start = b.held; effects = [] }) → Move w v
  -- a master applies effects
  extend : (n : ℕ) (a : Node L) (es : List L.Effect) (m : L.Dataset) (backlog : List ℕ) (h : History L)
      → w.node n ≡ Some a → a.up ≡ true → a.master ≡ true → All L.IsGood es → fold L es a.held ≡ Some m → EndsAs a.backlog (texts L es) backlog
      → SetAt w.node v.node n (record a { held = m; offset = a.offset + length (texts L es); backlog = backlog })
      → NoneComes w v → ((l : ℕ) (k : Link) → w.link l ≡ Some k → v.link l ≡ Some (told_if (hears n k) k (texts L es)))
      → w.book a.id ≡ Some h → SetAt w.book v.book a.id (record h { effects = h.effects ++ es }) → Move w v
  -- REPLICAOF NO ONE on a replica that has left its master
  promote : (n : ℕ) (i : L.Id) (a : Node L) (start : L.Dataset) (earlier later : List L.Effect)
      → w.node n ≡ Some a → a.up ≡ true → a.master ≡ false → a.follow ≡ None → w.book i ≡ None
      → SetAt w.node v.node n (record a { master = true; id = i; second = Some (a.id, a.offset + 1) })
      → Same w.link v.link
      → Front L w.book a.id a.offset start earlier later → SetAt w.book v.book i (record { start = start; effects = earlier }) → Move w v
  -- REPLICAOF on a master that has closed its replicas' links
  demote : (n : ℕ) (a : Node L) (h : List ℕ) → w.node n ≡ Some a → a.follow ≡ None
      → ((l : ℕ) (k : Link) → w.link l ≡ Some k → k.to ≡ Some n → k.serving ≡ true → k.streams ≡ false)
      → SetAt w.node v.node n (record a { master = false; offers = true; upstream = h }) → Same w.link v.link → Same w.book v.book → Move w v
  -- a replica opens its end of a link
  connect : (n l : ℕ) (to : Option ℕ) (a : Node L) (h : List ℕ) → L.asks None h Handshake → w.node n ≡ Some a → a.master ≡ false → a.follow ≡ None → w.link l ≡ None
      → SetAt w.node v.node n (at_phase a l (Greet 0)) → SetAt w.link v.link l (fresh_link (Peer n) to h) → Same w.book v.book → Move w v
  -- a node accepts a link that waits
  accept : (l m : ℕ) (k : Link) → w.link l ≡ Some k → k.to ≡ None → Same w.node v.node → SetAt w.link v.link l (accepted m k) → Same w.book v.book → Move w v
  -- the server reads a line of the handshake
  greet : (l : ℕ) (k : Link) (s : Node L) (t rest r : List ℕ) → HasServingEnd w s l k → k.streams ≡ false → L.asks k.transaction t Handshake → L.says r Plain
      → k.ask.left ≡ t ++ rest → Same w.node v.node → SetAt w.link v.link l (used k rest r) → Same w.book v.book → Move w v
  -- a replica is asked for its stream
  refuse : (l : ℕ) (k : Link) (s : Node L) (q : Option (L.Id × ℕ)) (t rest r : List ℕ) → HasServingEnd w s l k → k.streams ≡ false → L.asks k.transaction t (Psync q) → L.says r Refusal
      → k.ask.left ≡ t ++ rest → Same w.node v.node → SetAt w.link v.link l (used k rest r) → Same w.book v.book → Move w v
  -- a master answers by a snapshot
  answer_full : (l : ℕ) (k : Link) (s : Node L) (q : Option (L.Id × ℕ)) (t rest x y : List ℕ) → L.loads x s.held → L.says y (FullResync s.id s.offset) → HasServingEnd w s l k → k.streams ≡ false → s.master ≡ true → L.asks k.transaction t (Psync q)
      → k.ask.left ≡ t ++ rest → Same w.node v.node
      → SetAt w.link v.link l (record (used k rest (y ++ x)) { streams = true }) → Same w.book v.book → Move w v
  -- a master continues
  answer_cont : (l : ℕ) (i : L.Id) (o : ℕ) (k : Link) (s : Node L) (t rest y : List ℕ) → L.says y (Continue s.id) → HasServingEnd w s l k → k.streams ≡ false → s.master ≡ true → L.asks k.transaction t (Psync (Some (i, o)))
      → k.ask.left ≡ t ++ rest → Continues s i o → Same w.node v.node
      → SetAt w.link v.link l (record (used k rest (y ++ tail s o)) { streams = true }) → Same w.book v.book → Move w v
  -- the server reads on a link that it streams to, or the follower of such a link says something
  noted : (l : ℕ) (k : Link) (bytes : List ℕ) → w.link l ≡ Some k → k.streams ≡ true → Same w.node v.node
      → SetAt w.link v.link l (record k { ask = record k.ask { left = bytes } }) → Same w.book v.book → Move w v
  -- a replica reads a line before the answer, and sends the next one
  go_on : (n l j : ℕ) (said : Line L.Id) (a : Node L) (k : Link) (t rest h : List ℕ) → L.asks None h Handshake → Follows w n a l (Greet j) k → L.says t said → k.tell.left ≡ t ++ rest
      → SetAt w.node v.node n (at_phase a l (Greet (j + 1))) → SetAt w.link v.link l (heard k rest h) → Same w.book v.book → Move w v
  ask_all : (n l j : ℕ) (said : Line L.Id) (a : Node L) (k : Link) (t rest h : List ℕ) → L.asks None h (Psync None) → Follows w n a l (Greet j) k → L.says t said → k.tell.left ≡ t ++ rest
      → SetAt w.node v.node n (at_phase a l Asked) → SetAt w.link v.link l (heard k rest h) → Same w.book v.book → Move w v
  ask_on : (n l j : ℕ) (said : Line L.Id) (a : Node L) (k : Link) (t rest h : List ℕ) → L.asks None h (Psync (Some (a.id, a.offset + 1))) → Follows w n a l (Greet j) k → L.says t said → k.tell.left ≡ t ++ rest
      → SetAt w.node v.node n (at_phase a l Asked) → SetAt w.link v.link l (heard k rest h) → Same w.book v.book → Move w v
  -- a replica reads the answer
  take_full : (n l : ℕ) (i : L.Id) (o : ℕ) (a : Node L) (k : Link) (t rest : List ℕ) → Follows w n a l Asked k → L.says t (FullResync i o) → k.tell.left ≡ t ++ rest
      → SetAt w.node v.node n (at_phase a l (Loading i o)) → SetAt w.link v.link l (heard k rest []) → Same w.book v.book → Move w v
  take_cont : (n l : ℕ) (i : L.Id) (a : Node L) (k : Link) (t rest : List ℕ) → Follows w n a l Asked k → L.says t (Continue i) → k.tell.left ≡ t ++ rest
      → SetAt w.node v.node n (at_phase (continued a i) l Stream) → SetAt w.link v.link l (heard k rest []) → Same w.book v.book → Move w v
  -- a replica reads the whole snapshot
  load : (n l : ℕ) (i : L.Id) (o : ℕ) (a : Node L) (m : L.Dataset) (k : Link) (t rest : List ℕ) → Follows w n a l (Loading i o) k → L.loads t m → k.tell.left ≡ t ++ rest
      → SetAt w.node v.node n (at_phase (record a { id = i; offset = o; second = None; backlog = []; held = m; offers = true }) l Stream)
      → SetAt w.link v.link l (heard k rest []) → Same w.book v.book → Move w v
  -- a replica reads one effect
  follow : (n l : ℕ) (a : Node L) (e : L.Effect) (m : L.Dataset) (k : Link) (rest backlog : List ℕ) → Follows w n a l Stream k → k.tell.left ≡ L.text e ++ rest
      → L.IsGood e → L.apply e a.held ≡ Some m → EndsAs a.backlog (L.text e) backlog
      → SetAt w.node v.node n (record a { held = m; offset = a.offset + length (L.text e); backlog = backlog })
      → SetAt w.link v.link l (heard k rest []) → Same w.book v.book → Move w v

-- a few moves, one after another
abbrev pub Chain : {L : Language} → World L → List (World L) → World L → Type 0
Chain w [] v = Move w v
Chain w (u ∷ us) v = Move w u × Chain u us v

-- v comes from w by moves
pub data Reaches {L : Language} (w : World L) (v : World L) : Type 0 where
  by_moves : (us : List (World L)) → Chain w us v → Reaches w v
