-- What makes a dataset again: a snapshot, and a file.
use Rattle.std.specs.Prelude.{◌≡◌, ℕ, List, ◌++◌, length}
use Rattle.mr_peer_lines.specs.Lines.{size, IsPeerLine}
use Rattle.mr_groups.specs.Effects.{Makes}
use Rattle.mr_groups.specs.Folding.{LoadsGroups}
use Rattle.mr_keyspace.specs.Dataset.{Dataset}

-- The text is a length on a line of its own, and so many bytes of commands that make this dataset.
pub record IsSnapshot (text : List ℕ) (m : Dataset) : Type 0 where
  pub line : List ℕ
  pub commands : List ℕ
  pub is : text ≡ line ++ commands
  pub says : IsPeerLine line (size (length commands))
  pub made : Makes commands m

-- The longest beginning of a file that makes a dataset by groups, each done as a whole, makes this one.
abbrev pub IsReadAs : List ℕ → Dataset → Type 0
IsReadAs file m = (used : ℕ) × LoadsGroups file used m
