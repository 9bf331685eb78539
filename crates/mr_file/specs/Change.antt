-- What became of a file that its writer didn't do.
use Rattle.std.specs.Prelude.{ℕ, Bool, ◌==◌, ◌&&◌, Option, None, Some, if◌then◌else◌}
use Rattle.mr_file.specs.declared.change.Sight.{Sight}
use Rattle.mr_file.specs.declared.change.Change.{Change}
use Rattle.mr_file.specs.declared.change.Change.TheVariants.{Removed, Replaced, Resized}

-- both are the same file
abbrev pub is_same : Sight → Sight → Bool
is_same a b = (a.device == b.device) && (a.number == b.number)

-- what became of an open file, to which so many bytes were written, where this is what its name leads to, or nothing
abbrev pub change_of : Sight → Option Sight → ℕ → Option Change
change_of held None written = Some Removed
change_of held (Some named) written =
    if is_same held named then (if held.length == written then None else Some (Resized held.length written)) else Some Replaced
