-- Notes: lines of a file that stand between its groups.
use Rattle.std.specs.Prelude.{◌≡◌, ◌≢◌, ℕ, ◌<◌, ◌≤◌, List, [], ◌∷◌, ◌++◌, length, take, All}
use Rattle.mr_inline.specs.Bytes.{line_feed}
use Rattle.mr_groups.specs.declared.note.Note.{Note}
use Rattle.mr_groups.specs.declared.note.Note.TheVariants as note

-- the byte that begins a note, '#'
abbrev pub mark : ℕ
mark = 35

-- the most bytes of a note between its mark and its line feed
abbrev pub note_limit : ℕ
note_limit = 65536

abbrev pub IsNoFeed : ℕ → Type 0
IsNoFeed b = b ≢ line_feed

-- what can stand between them
pub record IsNoteLine (line : List ℕ) : Type 0 where
  pub no_feed : All IsNoFeed line
  pub short : length line ≤ note_limit

abbrev pub note_text : List ℕ → List ℕ
note_text line = mark ∷ (line ++ line_feed ∷ [])

-- the first bytes are a note's text
pub record IsFirstNote (bytes : List ℕ) (used : ℕ) : Type 0 where
  pub within : used ≤ length bytes
  pub line : List ℕ
  pub good : IsNoteLine line
  pub is_text : take used bytes ≡ note_text line

-- a note's text begins the bytes
pub record BeginsWithNote (bytes : List ℕ) : Type 0 where
  pub line : List ℕ
  pub good : IsNoteLine line
  pub behind : List ℕ
  pub is : bytes ≡ note_text line ++ behind

-- the bytes are a beginning of a note's text, and not all of it
pub record IsOpenNote (bytes : List ℕ) : Type 0 where
  pub line : List ℕ
  pub good : IsNoteLine line
  pub more : List ℕ
  pub some : 0 < length more
  pub is : bytes ++ more ≡ note_text line

-- no note's text begins the bytes, however they go on
abbrev pub HasNoNote : List ℕ → Type 0
HasNoNote bytes = (more : List ℕ) → BeginsWithNote (bytes ++ more) → ⊥

abbrev pub ReadsNote : List ℕ → Note → Type 0
ReadsNote bytes (note.Whole used) = IsFirstNote bytes used
ReadsNote bytes note.Open = IsOpenNote bytes
ReadsNote bytes note.No = HasNoNote bytes
