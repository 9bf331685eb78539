-- What a contract sees of a lineage, and what may become of it.
use Rattle.std.specs.Prelude.{ℕ, ◌+◌, ◌≤◌, List, Option, Some, None, IfSome, if◌then◌else◌}
use Rattle.std.specs.Str.{bytes_eq}
use Rattle.mr_repl.specs.Backlog.{Window, empty_at, after_bytes, first_of}
use Rattle.mr_repl.specs.declared.standing.Standing.{Standing}

-- The id of a stream; the id that it had before, with the offset of the first byte that is no longer that one's; and the last
-- bytes of the stream.
pub record LineageState : Type 0 where
  pub id : List ℕ
  pub second : Option (List ℕ × ℕ)
  pub stream : Window

-- nothing is held, and the stream never had another id
abbrev pub begun : List ℕ → ℕ → ℕ → LineageState
begun id capacity offset = record { id = id; second = None; stream = empty_at capacity offset }

-- the same stream with its next bytes
abbrev pub grown : LineageState → List ℕ → LineageState
grown a bytes = record a { stream = after_bytes a.stream bytes }

-- The same stream, which goes on under another id: what it has had so far is known by the old one too.
abbrev pub renamed : List ℕ → LineageState → LineageState
renamed id a = record { id = id; second = Some (a.id, a.stream.offset + 1); stream = a.stream }

-- the same stream, under an id that may be its own
abbrev pub continued : List ℕ → LineageState → LineageState
continued id a = if bytes_eq a.id id then a else renamed id a

-- from where it can be continued
abbrev pub standing_of : LineageState → Standing
standing_of a = record { id = a.id; offset = a.stream.offset; second = a.second; first = first_of a.stream }

-- what is true of each lineage: the change of ids isn't ahead of the stream
abbrev pub IsLineage : LineageState → Type 0
IsLineage a = IfSome a.second (λ second. second.1 ≤ a.stream.offset + 1)
