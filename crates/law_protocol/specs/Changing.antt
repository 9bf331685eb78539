-- The changes that the rows of several events share.
use Rattle.std.specs.Prelude.{ℕ, List, ◌++◌, ◌+◌, ◌-◌, ◌≤◌, ◌≡◌, None, Some, true, false, length, drop, All}
use Rattle.law_protocol.specs.Language.{Language}
use Rattle.law_protocol.specs.Changes.{SetAt, Same}
use Rattle.law_protocol.specs.History.{Extends, texts, fold}
use Rattle.law_protocol.specs.Node.{Node, EndsAs}
use Rattle.law_protocol.specs.World.{Way, Link, World, unread, is_to, dropped}

-- nothing changes
pub record Still {L : Language} (w v : World L) : Type 0 where
  pub nodes : Same w.node v.node
  pub links : Same w.link v.link
  pub book : Same w.book v.book

-- one link changes, or is there from now on
pub record LinkBecomes {L : Language} (w v : World L) (l : ℕ) (k : Link) : Type 0 where
  pub nodes : Same w.node v.node
  pub links : SetAt w.link v.link l k
  pub book : Same w.book v.book

-- one node changes
pub record NodeBecomes {L : Language} (w v : World L) (n : ℕ) (a : Node L) : Type 0 where
  pub nodes : SetAt w.node v.node n a
  pub links : Same w.link v.link
  pub book : Same w.book v.book

-- The node stops, shows nothing from now on, and drops what is open at its ends. What is left of it may be anything: some
-- effects may have been applied.
pub record Stops {L : Language} (w v : World L) (n : ℕ) (a : Node L) : Type 0 where
  pub wreck : Node L
  pub down : wreck.up ≡ false
  pub role : wreck.starts_as_master ≡ a.starts_as_master
  pub nodes : SetAt w.node v.node n wreck
  pub no_links : (l : ℕ) → w.link l ≡ None → v.link l ≡ None
  pub links : (l : ℕ) (k : Link) → w.link l ≡ Some k → v.link l ≡ Some (dropped (is_to n k.to) k)
  pub book : Same w.book v.book

-- At a node that runs the event acts; at one that stopped nothing changes.
pub data Unless {L : Language} (w v : World L) (a : Node L) (Act : Type 0) : Type 0 where
  acts : a.up ≡ true → Act → Unless w v a Act
  stopped : a.up ≡ false → Still w v → Unless w v a Act

-- The unread bytes begin with these, which are used.
pub record Reads (old : Way) (text : List ℕ) (new : Way) : Type 0 where
  pub rest : List ℕ
  pub begins : unread old ≡ text ++ rest
  pub new_is : new ≡ record { left = drop (length text) old.left; taken = old.taken - length text }

-- The dataset, the offset and the backlog of a master after these effects, and its history in the book.
pub record Grown {L : Language} (w v : World L) (n : ℕ) (a : Node L) (effects : List L.Effect) : Type 0 where
  pub good : All L.IsGood effects
  pub within : a.offset + length (texts L effects) ≤ L.limit
  pub held : L.Dataset
  pub folds : fold L effects a.held ≡ Some held
  pub backlog : List ℕ
  pub last_bytes : EndsAs a.backlog (texts L effects) backlog
  pub nodes : SetAt w.node v.node n (record a { held = held; offset = a.offset + length (texts L effects); backlog = backlog })
  pub book : Extends L w.book v.book a.id effects
