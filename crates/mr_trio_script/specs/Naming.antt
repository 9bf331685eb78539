-- Requests that name a node of the three.
use Rattle.std.specs.Prelude.{◌≡◌, ℕ, Bool, true, ◌||◌, List, [], ◌∷◌, codes}
use Rattle.std.specs.Str.{str_eq_ignore_ascii_case}
use Rattle.mr_trio_script.specs.Places.{digit_of}
use Rattle.mr_trio_script.specs.declared.place.Place.{Place}

-- the host of all three
abbrev pub host : List ℕ
host = codes "127.0.0.1"

abbrev pub node_word : List ℕ
node_word = codes "node"

-- a command's word that names a master, in letters of either case
abbrev pub is_follow : List ℕ → Bool
is_follow word = str_eq_ignore_ascii_case word (codes "REPLICAOF") || str_eq_ignore_ascii_case word (codes "SLAVEOF")

-- the words name this node in place of an address
pub record NamesNode (words : List (List ℕ)) (place : Place) : Type 0 where
  pub name : List ℕ
  pub follows : is_follow name ≡ true
  pub is : words ≡ name ∷ node_word ∷ (digit_of place ∷ []) ∷ []
