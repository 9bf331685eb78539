-- What kind of file a path leads to, by what the system says of it.
use Rattle.std.specs.Prelude.{ℕ, ◌==◌, Option, None, Some, bit_and, if◌then◌else◌}
use Rattle.mr_file.specs.declared.kind.OtherKind.{OtherKind}
use Rattle.mr_file.specs.declared.kind.OtherKind.TheVariants.{Folder, Link, CharacterDevice, BlockDevice, NamedPipe, Socket, Unknown}

-- the kind that these bits of a mode stand for, or none for a regular file
abbrev pub kind_at : ℕ → Option OtherKind
kind_at bits =
    if bits == 0o100000 then None
    else (if bits == 0o040000 then Some Folder
    else (if bits == 0o120000 then Some Link
    else (if bits == 0o020000 then Some CharacterDevice
    else (if bits == 0o060000 then Some BlockDevice
    else (if bits == 0o010000 then Some NamedPipe
    else (if bits == 0o140000 then Some Socket
    else Some Unknown))))))

-- the kind of a file with this mode, or none for a regular file
abbrev pub kind_of : ℕ → Option OtherKind
kind_of mode = kind_at (bit_and mode 0o170000)
