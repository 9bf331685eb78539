-- What a backlog holds after a piece of the stream, in the words of lists.
use Rattle.std.specs.Prelude.{◌≡◌, ℕ, List, ◌++◌, length, min}
use Rattle.mr_repl.specs.Backlog.{Window, after_bytes}

-- the list ends in these items, which are n, or all where there are fewer
pub record IsEndOf {X : Type 0} (n : ℕ) (whole end : List X) : Type 0 where
  pub gone : List X
  pub split : whole ≡ gone ++ end
  pub size : length end ≡ min n (length whole)

-- after a piece the window holds the last bytes of what it held followed by the piece
abbrev pub HeldIsTheEnd : Type 0
HeldIsTheEnd = (w : Window) (piece : List ℕ) → IsEndOf w.capacity (w.held ++ piece) (after_bytes w piece).held

-- pieces that come one after another leave what one piece of all their bytes leaves
abbrev pub CutsDoNotMatter : Type 0
CutsDoNotMatter = (w : Window) (first second : List ℕ) → after_bytes (after_bytes w first) second ≡ after_bytes w (first ++ second)
