-- The history of a replication id, the book of histories, and the dataset of an id at an offset.
use Rattle.std.specs.Prelude.{ℕ, List, [], ◌∷◌, ◌++◌, ◌≡◌, Option, None, Some, length}
use Rattle.std.specs.List.{flat_map}
use Rattle.law_protocol.specs.Language.{Language}
use Rattle.law_protocol.specs.Changes.{SetAt}

-- the texts of effects, one after another
abbrev pub texts : (L : Language) → List L.Effect → List ℕ
texts L es = flat_map L.text es

abbrev pub then_fold : {A : Type 0} → Option A → (A → Option A) → Option A
then_fold None f = None
then_fold (Some a) f = f a

-- effects applied one after another, undefined where one of them is
abbrev pub fold : (L : Language) → List L.Effect → L.Dataset → Option L.Dataset
fold L [] m = Some m
fold L (e ∷ es) m = then_fold (L.apply e m) (fold L es)

-- The dataset that an id began with, and the effects since. The first byte of their texts has the number 1.
pub record History (L : Language) : Type 0 where
  pub start : L.Dataset
  pub effects : List L.Effect

-- each id that was drawn, with its history
abbrev pub Book : Language → Type 0
Book L = L.Id → Option (History L)

-- The history of i is the earlier effects and then the later ones, and the texts of the earlier ones have o bytes.
pub record Front (L : Language) (book : Book L) (i : L.Id) (o : ℕ) (start : L.Dataset) (earlier later : List L.Effect) : Type 0 where
  pub found : book i ≡ Some (record { start = start; effects = earlier ++ later })
  pub place : length (texts L earlier) ≡ o

-- The effects of i whose texts end at or before o come to m: o is an end of one of them, or 0, and each applies.
pub record IsAt (L : Language) (book : Book L) (i : L.Id) (o : ℕ) (m : L.Dataset) : Type 0 where
  pub start : L.Dataset
  pub earlier : List L.Effect
  pub later : List L.Effect
  pub front : Front L book i o start earlier later
  pub folds : fold L earlier start ≡ Some m

-- The histories of i and j are one up to o.
pub record Agree (L : Language) (book : Book L) (i j : L.Id) (o : ℕ) : Type 0 where
  pub start : L.Dataset
  pub earlier : List L.Effect
  pub later : List L.Effect
  pub other : List L.Effect
  pub one : Front L book i o start earlier later
  pub two : Front L book j o start earlier other

-- Each id keeps its history, which may have grown at its end.
abbrev pub Grows : (L : Language) → Book L → Book L → Type 0
Grows L old new = (i : L.Id) (start : L.Dataset) (es : List L.Effect) → old i ≡ Some (record { start = start; effects = es })
    → (more : List L.Effect) × (new i ≡ Some (record { start = start; effects = es ++ more }))

-- a new id, which begins with this dataset
pub record Draws (L : Language) (old new : Book L) (i : L.Id) (m : L.Dataset) : Type 0 where
  pub new_id : old i ≡ None  -- a node that starts draws what no node has drawn
  pub book : SetAt old new i (record { start = m; effects = [] })

-- effects at the end of an id's history
pub record Extends (L : Language) (old new : Book L) (i : L.Id) (es : List L.Effect) : Type 0 where
  pub history : History L
  pub found : old i ≡ Some history
  pub book : SetAt old new i (record history { effects = history.effects ++ es })

-- a new id, whose history is that of another cut at an offset
pub record Branches (L : Language) (old new : Book L) (i : L.Id) (from : L.Id) (o : ℕ) : Type 0 where
  pub new_id : old i ≡ None  -- a node that becomes a master draws what no node has drawn
  pub start : L.Dataset
  pub earlier : List L.Effect
  pub later : List L.Effect
  pub front : Front L old from o start earlier later
  pub book : SetAt old new i (record { start = start; effects = earlier })
