-- Limits are what their three numbers are.
use Rattle.std.proofs.Common.{◌≡◌, ◌<◌, ◌≤◌, ◌+◌, ◌*◌, ◌^◌, ℕ, zero, suc, List, [], ◌∷◌, length, replicate, refl, ap, arith}
use Rattle.std.specs.Fmt.{decimal}
use Rattle.std.specs.List.{flat_map}
use Rattle.std.proofs.lemmas.List.{length-append, length-replicate}
use Rattle.std.proofs.Props.{props}
use Rattle.mr_resp.specs.Spelling.{line_end, number_line, bulk, array}
use Rattle.mr_resp.specs.declared.limits.Limits.{Limits}
use Rattle.mr_resp.proofs.Lines.{decimal_0}
use Rattle.mr_resp.proofs.Words.{length-bulk}

abbrev limits_of : (word words text : ℕ) → 0 < word → 0 < words → 3 + length (decimal words) + 6 * words ≤ text → text < 2 ^ 64 → word < 2 ^ 64 → Limits
limits_of word words text a b c d e = record { word = word; words = words; text = text; some_word = a; some_words = b; room = c; small = d; small_word = e }

lt_prop : (m n : ℕ) → IsProp (m < n)
lt_prop m n = hlevel props

le_prop : (m n : ℕ) → IsProp (m ≤ n)
le_prop m n = hlevel props

pub same_limits : (word words text : ℕ) (a a' : 0 < word) (b b' : 0 < words) (c c' : 3 + length (decimal words) + 6 * words ≤ text) (d d' : text < 2 ^ 64) (e e' : word < 2 ^ 64)
    → limits_of word words text a b c d e ≡ limits_of word words text a' b' c' d' e'
same_limits word words text a a' b b' c c' d d' e e' = λ i. limits_of word words text (lt_prop _ _ a a' i) (lt_prop _ _ b b' i) (le_prop _ _ c c' i) (lt_prop _ _ d d' i) (lt_prop _ _ e e' i)

-- the length of a request of empty words
pub length-empties : (k : ℕ) → length (flat_map bulk (replicate k [])) ≡ 6 * k
length-empties zero = refl
length-empties (suc k) = omega (arith, length-append (bulk []) (flat_map bulk (replicate k [])), length-bulk [], ap length decimal_0, length-empties k)

pub least_text : (words : ℕ) → length (array (replicate words [])) ≡ 3 + length (decimal words) + 6 * words
least_text words =
    let count : length (replicate {A = List ℕ} words []) ≡ words = length-replicate {A = List ℕ} words [] in
    let line = ap (λ (n : ℕ). length (42 ∷ number_line n)) count in
    omega (arith, length-append (42 ∷ number_line (length (replicate {A = List ℕ} words []))) (flat_map bulk (replicate words [])), line, length-append (decimal words) line_end, length-empties words)
