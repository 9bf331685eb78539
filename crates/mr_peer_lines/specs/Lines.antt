-- The lines that one node sends to another: an answer, a refusal, or the length of a snapshot.
use Rattle.std.specs.Prelude.{◌≡◌, ℕ, ◌≤◌, ◌⊎◌, true, not, List, [], ◌∷◌, ◌++◌, length, take}
use Rattle.std.specs.List.{AllPass}
use Rattle.std.specs.Fmt.{decimal}
use Rattle.mr_inline.specs.Language.{Continues, IsDoomed}
use Rattle.mr_resp.specs.Spelling.{line_end}
use Rattle.mr_repl.specs.Backlog.{offset_limit}
use Rattle.mr_peer_lines.specs.Bytes.{plus, minus, dollar, ends_line, is_mark}
use Rattle.mr_peer_lines.specs.declared.line.PeerLine.{PeerLine}
use Rattle.mr_peer_lines.specs.declared.line.PeerLine.TheVariants as shown
use Rattle.mr_peer_lines.specs.declared.line.PeerLineScan.{PeerLineScan}
use Rattle.mr_peer_lines.specs.declared.line.PeerLineScan.TheVariants.{Whole, More, Bad}

-- the most bytes before a line's end
abbrev pub most : ℕ
most = 1024

-- one of the marks stands first
abbrev pub IsMarked : List ℕ → Type 0
IsMarked [] = ⊥
IsMarked (b ∷ rest) = is_mark b ≡ true

-- the text is these bytes and a line end, which stands nowhere in them
pub record IsLine (text front : List ℕ) : Type 0 where
  pub ended : text ≡ front ++ line_end
  pub marked : IsMarked front
  pub plain : AllPass (λ b. not (ends_line b)) front
  pub short : length front ≤ most

abbrev pub IsLineText : List ℕ → Type 0
IsLineText text = (front : List ℕ) × IsLine text front

-- what a line says
pub data Line : Type 0 where
  status : List ℕ → Line
  refusal : List ℕ → Line
  size : ℕ → Line

-- What stands before the end of a line that says this: a length goes no further than an offset.
abbrev pub Says : List ℕ → Line → Type 0
Says front (status text) = front ≡ plus ∷ text
Says front (refusal text) = front ≡ minus ∷ text
Says front (size n) = (front ≡ dollar ∷ decimal n) × (n ≤ offset_limit)

-- a line that says this
pub record IsPeerLine (text : List ℕ) (line : Line) : Type 0 where
  pub front : List ℕ
  pub whole : IsLine text front
  pub says : Says front line

-- The bytes begin with a line that says nothing: it has the mark of a length, and no length follows.
pub record SaysNothing (input : List ℕ) : Type 0 where
  pub text : List ℕ
  pub rest : List ℕ
  pub front : List ℕ
  pub begins : input ≡ text ++ rest
  pub whole : IsLine text front
  pub nothing : (line : Line) → Says front line → ⊥

-- what was read, wherever its bytes lie
abbrev pub line_of : PeerLine → Line
line_of (shown.Status text) = status text.now
line_of (shown.Refusal text) = refusal text.now
line_of (shown.Length n) = size n

-- The answer for this input: the line that begins it, with its length; the line's end isn't there, and may come; or no
-- continuation begins with a line, or the one that begins it says nothing.
abbrev pub ReadsLine : List ℕ → PeerLineScan → Type 0
ReadsLine input (Whole line used) = (used ≤ length input) × IsPeerLine (take used input) (line_of line)
ReadsLine input More = Continues IsLineText input
ReadsLine input Bad = IsDoomed IsLineText input ⊎ SaysNothing input

-- what an answer says
pub data Outcome : Type 0 where
  read : Line → ℕ → Outcome
  unfinished : Outcome
  senseless : Outcome

abbrev pub outcome_of : PeerLineScan → Outcome
outcome_of (Whole line used) = read (line_of line) used
outcome_of More = unfinished
outcome_of Bad = senseless
