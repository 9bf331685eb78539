-- Lists that are kept in parts.
use Rattle.std.specs.Prelude.{◌≡◌, ℕ, ◌<◌, ◌≤◌, ◌^◌, List, length}
use Rattle.std.specs.List.{All, flat_map}

-- no list has more items
abbrev pub length_limit : ℕ
length_limit = 2 ^ 62

module _ {P A : Type 0} (items : P → List A) (is_kept : P → Type 0) where
  -- a part that may stand among others
  pub record IsSound (part : P) : Type 0 where
    pub kept : is_kept part
    pub some : 0 < length (items part)

  -- parts in a row, and how many items they have together
  pub record AreCounted (parts : List P) (len : ℕ) : Type 0 where
    pub sound : All IsSound parts
    pub counted : len ≡ length (flat_map items parts)
    pub small : len ≤ length_limit

  -- so many parts as one level may have
  pub record IsLevel (parts : List P) (len : ℕ) : Type 0 where
    pub counted : AreCounted parts len
    pub few : length parts ≤ 32
