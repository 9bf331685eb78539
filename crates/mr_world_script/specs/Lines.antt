-- What the bytes of a line say.
use Rattle.std.specs.Prelude.{ℕ, List, Option, MatchOption}
use Rattle.mr_inline.specs.Limits.{line_limit}
use Rattle.mr_inline.specs.Line.{IsLineOf}
use Rattle.mr_world_script.specs.Said.{Said, Says}
use Rattle.mr_world_script.specs.Reading.{said_of}
use Rattle.mr_world_script.specs.declared.line.Line.{Line}

-- The bytes, a line feed at their end, are a line of words that say this.
pub record LineSays (text : List ℕ) (said : Said) : Type 0 where
  pub words : List (List ℕ)
  pub line : IsLineOf line_limit text words
  pub says : Says words said

-- The bytes say what was read; where nothing was read they say nothing.
abbrev pub Reads : List ℕ → Option Line → Type 0
Reads text read = MatchOption read ((said : Said) → LineSays text said → ⊥) (λ line. LineSays text (said_of line))
