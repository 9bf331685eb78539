-- Which lines ask about the program, and for no run of it.
use Rattle.std.specs.Prelude.{List, Bool, ◌||◌, Option, None, Some, codes, if◌then◌else◌}
use Rattle.std.specs.List.{list_any}
use Rattle.std.specs.Str.{bytes_eq}
use Rattle.clap.specs.Words.{Text}
use Rattle.mr_options.specs.declared.asking.Question.{Question}
use Rattle.mr_options.specs.declared.asking.Question.TheVariants.{Help, Version}

-- the one text is the other
abbrev pub same_text : Text → Text → Bool
same_text a b = bytes_eq b a

-- one of the words is this
abbrev pub names : Text → List Text → Bool
names word words = list_any (same_text word) words

-- the help wherever it is asked for, and else the version where that is
abbrev pub question_of : List Text → Option Question
question_of words =
    if names (codes "--help") words || names (codes "-h") words then Some Help else (if names (codes "--version") words then Some Version else None)
