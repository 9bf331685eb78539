-- Lines at the front of bytes.
use Rattle.std.specs.Prelude.{◌≡◌, ◌≢◌, ℕ, List, [], ◌∷◌, ◌++◌, Option, None, Some, length}
use Rattle.mr_resp.specs.Spelling.{line_end}

-- no line feed is among the bytes
abbrev pub HasNoFeed : List ℕ → Type 0
HasNoFeed [] = Unit {0}
HasNoFeed (b ∷ bytes) = (b ≢ 10) × HasNoFeed bytes

-- The bytes begin with a line, of this byte and this text, and these follow.
pub record BeginsWith (bytes : List ℕ) (form : ℕ) (text rest : List ℕ) : Type 0 where
  pub is : bytes ≡ (form ∷ text ++ line_end) ++ rest
  pub no_feed : form ≢ 10
  pub none : HasNoFeed text

-- The first line feed is there.
pub record IsFeedAt (bytes : List ℕ) (place : ℕ) : Type 0 where
  pub front : List ℕ
  pub rest : List ℕ
  pub is : bytes ≡ front ++ 10 ∷ rest
  pub none : HasNoFeed front
  pub place_is : place ≡ length front

-- .. or there is none
abbrev pub IsFeedOf : List ℕ → Option ℕ → Type 0
IsFeedOf bytes None = HasNoFeed bytes
IsFeedOf bytes (Some place) = IsFeedAt bytes place
