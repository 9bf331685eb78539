-- What a contract sees of a backlog.
use Rattle.std.specs.Prelude.{ℕ, ◌+◌, ◌-◌, ◌≤◌, ◌<◌, ◌^◌, List, [], ◌++◌, length, drop}

-- no offset of a stream is greater
abbrev pub offset_limit : ℕ
offset_limit = 2 ^ 62

-- so many bytes a backlog holds where nothing else is said
abbrev pub usual_backlog : ℕ
usual_backlog = 1048576

-- the last n items, or all where there are fewer
abbrev pub last_of : {X : Type 0} → ℕ → List X → List X
last_of n xs = drop (length xs - n) xs

-- The last bytes of a stream, the oldest first; the most bytes that may be held; and the offset of the stream's last byte,
-- which is how many bytes the stream had.
pub record Window : Type 0 where
  pub held : List ℕ
  pub capacity : ℕ
  pub offset : ℕ

-- nothing is held, and the next byte follows this offset
abbrev pub empty_at : ℕ → ℕ → Window
empty_at capacity offset = record { held = []; capacity = capacity; offset = offset }

-- the window after the stream's next bytes
abbrev pub after_bytes : Window → List ℕ → Window
after_bytes w bytes = record {
  held = last_of w.capacity (w.held ++ bytes);
  capacity = w.capacity;
  offset = w.offset + length bytes;
}

-- the offset of the first byte held, or of the next byte where none is held
abbrev pub first_of : Window → ℕ
first_of w = w.offset + 1 - length w.held

-- the bytes held from this offset on
abbrev pub bytes_from : Window → ℕ → List ℕ
bytes_from w from = drop (from - first_of w) w.held

-- what is true of the window of each backlog
pub record IsWindow (w : Window) : Type 0 where
  pub within : length w.held ≤ w.capacity
  pub counted : length w.held ≤ w.offset
  pub some_room : 0 < w.capacity
  pub limited : w.capacity ≤ 2 ^ 30
  pub countable : w.offset ≤ offset_limit
