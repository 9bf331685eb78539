-- Where the first line of an input ends.
use Rattle.std.specs.Prelude.{ℕ, ◌+◌, ◌≤◌, List, length, take}
use Rattle.mr_inline.specs.Language.{Continues, IsDoomed}
use Rattle.mr_peer_lines.specs.Lines.{IsLine, IsLineText}
use Rattle.mr_peer_lines.specs.declared.line.Front.{Front}
use Rattle.mr_peer_lines.specs.declared.line.Front.TheVariants.{Ends, More, Bad}

-- the first line ends behind so many bytes; its end may come; or no continuation begins with a line
abbrev pub FindsFront : List ℕ → Front → Type 0
FindsFront input (Ends end) = (end + 2 ≤ length input) × IsLine (take (end + 2) input) (take end input)
FindsFront input More = Continues IsLineText input
FindsFront input Bad = IsDoomed IsLineText input
