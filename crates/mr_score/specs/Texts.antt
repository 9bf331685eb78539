-- How scores are spelled.
use Rattle.std.specs.Prelude.{◌≡◌, ℕ, ◌+◌, ◌<◌, ◌==◌, ◌⊎◌, ◌&&◌, ℤ, List, ◌∷◌, ◌++◌, length, take, drop, replicate, position, Bool, IsTrue, nat_lt, if◌then◌else◌, Option, Some, None, option_and_then}
use Rattle.std.specs.Fmt.{signed_decimal}
use Rattle.std.specs.List.{list_all}
use Rattle.mr_bytes.specs.Number.{number_of}
use Rattle.mr_score.specs.Score.{is_score}

-- The score that a text spells: the number's one spelling, after which a point and zeros may stand.
abbrev pub IsScoreText : List ℕ → ℤ → Type 0
IsScoreText text n = IsTrue (is_score n) × ((text ≡ signed_decimal n) ⊎ ((k : ℕ) × (0 < k) × (text ≡ signed_decimal n ++ 46 ∷ replicate k 48)))

-- zeros, and at least one
abbrev pub are_zeros : List ℕ → Bool
are_zeros ds = nat_lt 0 (length ds) && list_all (λ d. d == 48) ds

-- the text in front of its first point, if only zeros stand behind that
abbrev pub whole_before : Option ℕ → List ℕ → Option (List ℕ)
whole_before None text = Some text
whole_before (Some point) text = if are_zeros (drop (point + 1) text) then Some (take point text) else None

unfoldable pub whole_part : List ℕ → Option (List ℕ)
whole_part text = whole_before (position (λ b. b == 46) text) text

-- the number, if it is a score
abbrev pub within_limit : ℤ → Option ℤ
within_limit n = if is_score n then Some n else None

-- the score that a text spells, if it spells one
unfoldable pub score_of : List ℕ → Option ℤ
score_of text = option_and_then (λ whole. option_and_then within_limit (number_of whole)) (whole_part text)
