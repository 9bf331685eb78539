-- Scores with their members.
use Rattle.std.specs.Prelude.{ℕ, ℤ, pos, List, Bool, if◌then◌else◌, Option, Some, None, map}
use Rattle.std.specs.Borrow.{Bor}
use Rattle.std.specs.List.{list_all}
use Rattle.std.specs.Option.{is_some}
use Rattle.mr_score.specs.Score.{is_score}
use Rattle.mr_score.specs.Texts.{score_of}

-- the text is read as a score
abbrev pub has_score : List ℕ → Bool
has_score text = is_some (score_of text)

-- the first of each pair is
abbrev pub have_scores : List (List ℕ × List ℕ) → Bool
have_scores pairs = list_all (λ p. has_score p.0) pairs

abbrev pub or_0 : Option ℤ → ℤ
or_0 None = pos 0
or_0 (Some n) = n

-- a pair of words, with its score as a number
abbrev pub scored : List ℕ × List ℕ → ℤ × List ℕ
scored p = (or_0 (score_of p.0), p.1)

-- the scores with their members, if each score is read
abbrev pub scored_of : List (List ℕ × List ℕ) → Option (List (ℤ × List ℕ))
scored_of pairs = if have_scores pairs then Some (map scored pairs) else None

-- what a score with a reference points to
abbrev pub read_scored : ℤ × Bor (List ℕ) → ℤ × List ℕ
read_scored pair = (pair.0, pair.1.now)

-- the number is a score
abbrev pub is_scored : ℤ × List ℕ → Bool
is_scored pair = is_score pair.0
