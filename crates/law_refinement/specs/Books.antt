-- What a World knows of each id, as a book of histories; and how that grows and branches.
use Rattle.std.specs.Prelude.{ℕ, List, [], ◌∷◌, ◌++◌, ◌≡◌, Option, None, Some, bytes_eq, take, if◌then◌else◌}
use Rattle.law_protocol.specs.History.{Book, History, texts}
use Rattle.law_minired.specs.Minired.{minired}
use Rattle.mr_groups.specs.Folding.{MakesByGroups}
use Rattle.law_refinement.specs.State.{BookEntry}

-- The commands make the dataset that the history starts with, group by group, and the texts are those of its groups.
pub record IsKept (e : BookEntry) (h : History minired) : Type 0 where
  pub start : MakesByGroups e.start h.start
  pub texts_are : e.texts ≡ texts minired h.effects

abbrev pub entry_of : List BookEntry → List ℕ → Option BookEntry
entry_of [] i = None
entry_of (e ∷ es) i = if bytes_eq e.id i then Some e else entry_of es i

abbrev pub IsKeptAs : Option BookEntry → Option (History minired) → Type 0
IsKeptAs None None = Unit {0}
IsKeptAs None (Some h) = ⊥
IsKeptAs (Some e) None = ⊥
IsKeptAs (Some e) (Some h) = IsKept e h

-- An id has an entry where the book has its history, and that is the history.
pub record IsBook (entries : List BookEntry) (book : Book minired) : Type 0 where
  pub each : (i : List ℕ) → IsKeptAs (entry_of entries i) (book i)

-- more texts behind those of an id
abbrev pub extended : List BookEntry → List ℕ → List ℕ → List BookEntry
extended [] id bytes = []
extended (e ∷ es) id bytes = if bytes_eq e.id id then record e { texts = e.texts ++ bytes } ∷ es else e ∷ extended es id bytes

-- a new id, whose texts are those of another up to an offset
abbrev pub cut_of : Option BookEntry → List ℕ → ℕ → List BookEntry
cut_of None fresh offset = []
cut_of (Some e) fresh offset = record { id = fresh; start = e.start; texts = take offset e.texts } ∷ []

abbrev pub branched : List BookEntry → List ℕ → ℕ → List ℕ → List BookEntry
branched es id offset fresh = es ++ cut_of (entry_of es id) fresh offset

-- a new id, whose dataset these commands make
abbrev pub begun : List BookEntry → List ℕ → List ℕ → List BookEntry
begun es id start = es ++ record { id = id; start = start; texts = [] } ∷ []
