-- Two lists of entries in order as one, and two maps as one. No public clause cites this module.
use Rattle.std.specs.Prelude.{◌≡◌, ℕ, ◌≤◌, ◌<◌, ◌^◌, Bool, true, false, cond, Option, Some, None, List, [], ◌∷◌, ◌++◌, length}
use Rattle.std.specs.Borrow.{Bor}
use Rattle.std.specs.Global.{Box}
use Rattle.std.specs.Ordering.{is_lt}
use Rattle.std.specs.FinMap.{contains_key, empty, entries, from_entries, len}
use Rattle.mr_map.specs.Bytes.{bytes_cmp, deref_pair, map_by, ByteMap}
use Rattle.mr_map.specs.Short.{room}

-- keys with their values
abbrev pub Entries : Type 0 → Type 0
Entries X = List (List ℕ × X)

-- e among fs, and what is behind e among those behind it
abbrev pub merged_from : {X : Type 0} → List ℕ × X → (Entries X → Entries X) → Entries X → Entries X
merged_from e behind [] = e ∷ behind []
merged_from e behind (f ∷ fs) = cond (is_lt (bytes_cmp e.0 f.0)) (e ∷ behind (f ∷ fs)) (f ∷ merged_from e behind fs)

-- the lesser of the two first ones, and then the others
abbrev pub merged : {X : Type 0} → Entries X → Entries X → Entries X
merged [] = λ fs. fs
merged (e ∷ es) = λ fs. merged_from e (merged es) fs

-- a first one and those behind it; no first one, and nothing
abbrev pub led_by : {X : Type 0} → Option (Bor (List ℕ) × Bor X) → Entries X → Entries X
led_by None es = []
led_by (Some p) es = deref_pair p ∷ es

-- whether the first of the one list comes before that of the other
abbrev pub comes_first : {X : Type 0} → Option (Bor (List ℕ) × Bor X) → Option (Bor (List ℕ) × Bor X) → Bool
comes_first None l = false
comes_first (Some p) None = true
comes_first (Some p) (Some l) = is_lt (bytes_cmp p.0.now l.0.now)

-- the pairs that are there, if any are
abbrev pub listed : {A : Type 0} → Option (List A) → List A
listed None = []
listed (Some es) = es

-- the trees that are there, or none
abbrev pub held : {X : Type 0} → Option (Box (ByteMap X)) → ByteMap X
held None = empty
held (Some b) = b.value

-- what the entries of a tree say whose keys are their own texts
abbrev pub map_of_short : {X : Type 0} → Entries X → ByteMap X
map_of_short es = map_by (λ k. k) es

-- the entries of both
abbrev pub joined : {X : Type 0} → ByteMap X → ByteMap X → ByteMap X
joined m n = from_entries (entries m ++ entries n)

-- The one has short keys alone, and the other longer ones, and they are so few that their number fits an isize.
pub record AreParted {X : Type 0} (m n : ByteMap X) : Type 0 where
  pub short : (q : List ℕ) → contains_key m q ≡ true → length q ≤ room
  pub long : (q : List ℕ) → contains_key n q ≡ true → room < length q
  pub few : len (joined m n) < 2 ^ 63
