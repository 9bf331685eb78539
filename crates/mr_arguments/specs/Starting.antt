-- How the names of the commands begin.
use Rattle.std.specs.Prelude.{ℕ, List, [], ◌∷◌, Bool, false, ◌==◌, ◌&&◌, length}
use Rattle.mr_arguments.specs.Names.{text_of}
use Rattle.mr_arguments.specs.declared.name.Name.{Name}

-- whether a text has so many letters, of which this is the first
abbrev pub starts : ℕ → ℕ → List ℕ → Bool
starts len letter [] = false
starts len letter (first ∷ rest) = (length (first ∷ rest) == len) && (first == letter)

-- whether a name has so many letters, of which this is the first
abbrev pub starts_as : ℕ → ℕ → Name → Bool
starts_as len letter name = starts len letter (text_of name)
