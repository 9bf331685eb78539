-- The first value of an option, as the parser finds it.
use Rattle.std.proofs.Common.{◌≡◌, ◌∙◌, Option, Some, sym, subst}
use Rattle.clap.specs.Words.{Text, first_of, first_value, rows_of}
use Rattle.clap.specs.declared.parser.matches.Found.{Found}
use Rattle.clap.proofs.WalkLemmas.{first_value-rows}

-- what is so of it, is so of the value that the line names
pub first_is : (P : Option Text → Type 0) (f : Found) (name : Text) (o : Option Text) → o ≡ first_value f name → P o → P (first_of name (rows_of f))
first_is P f name o e h = subst P (e ∙ first_value-rows f name) h

-- the line names it
pub first_named : (f : Found) (name text : Text) → Some text ≡ first_value f name → first_of name (rows_of f) ≡ Some text
first_named f name text e = sym (e ∙ first_value-rows f name)
