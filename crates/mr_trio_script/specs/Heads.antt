-- What stands at the front of bytes that may be a reply.
use Rattle.std.specs.Prelude.{◌≡◌, ◌≢◌, ◌≤◌, ◌<◌, ◌^◌, ◌⊎◌, ℕ, Bool, ◌||◌, ◌==◌, List, [], ◌∷◌, ◌++◌, length, take, decimal}
use Rattle.mr_resp.specs.Spelling.{line_end}
use Rattle.mr_trio_script.specs.Replies.{Part, IsPart, part_text, opens}
use Rattle.mr_trio_script.specs.declared.head.Head.{Head}

-- This part begins the bytes.
pub record IsFirst (bytes : List ℕ) (head : Head) : Type 0 where
  pub part : Part
  pub is_part : IsPart part
  pub within : head.len ≤ length bytes
  pub text : take head.len bytes ≡ part_text part
  pub opened : head.opens ≡ opens part

-- no part begins them
abbrev pub NoneIsFirst : List ℕ → Type 0
NoneIsFirst bytes = (part : Part) (rest : List ℕ) → IsPart part → bytes ≢ part_text part ++ rest

-- a line of this form is a reply by itself
abbrev pub is_text_form : ℕ → Bool
is_text_form form = form == 43 || (form == 45 || form == 58)

-- the number that stands for no word and no list
abbrev pub none_text : List ℕ
none_text = 45 ∷ 49 ∷ []

-- So many of the bytes behind the line of a length are of its word: none where there is no word.
pub record IsWord (text rest : List ℕ) (count : ℕ) : Type 0 where
  pub word : List ℕ
  pub small : length word < 2 ^ 63
  pub length_is : text ≡ decimal (length word)
  pub within : count ≤ length rest
  pub is : take count rest ≡ word ++ line_end

abbrev pub IsWordBehind : List ℕ → List ℕ → ℕ → Type 0
IsWordBehind text rest count = ((text ≡ none_text) × (count ≡ 0)) ⊎ IsWord text rest count

-- .. and neither no word nor a whole one is there
pub record NoWordBehind (text rest : List ℕ) : Type 0 where
  pub some : text ≢ none_text
  pub none : (word more : List ℕ) → length word < 2 ^ 63 → text ≡ decimal (length word) → rest ≢ (word ++ line_end) ++ more

-- The text stands for no list, or counts one.
abbrev pub IsListHead : List ℕ → ℕ → Type 0
IsListHead text count = ((text ≡ none_text) × (count ≡ 0)) ⊎ ((text ≡ decimal count) × (count < 2 ^ 63))

pub record NoListHead (text : List ℕ) : Type 0 where
  pub some : text ≢ none_text
  pub none : (count : ℕ) → count < 2 ^ 63 → text ≢ decimal count
