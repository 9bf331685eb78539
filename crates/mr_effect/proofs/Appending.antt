-- Writers one after the other.
use Rattle.std.proofs.Common.{◌≡◌, ℕ, ℤ, ◌+◌, List, [], ◌∷◌, ◌++◌, length, refl, ap, ◌∙◌, append_assoc, arith}
use Rattle.std.specs.List.{flat_map}
use Rattle.mr_map.specs.Bytes.{Bytes}
use Rattle.mr_resp.specs.Appends.{Extends}
use Rattle.mr_resp.specs.Spelling.{number_line, bulk, array}
use Rattle.mr_resp.proofs.AppendsLemmas.{Extends-trans}
use Rattle.mr_effect.specs.Parts.{head}
use Rattle.mr_effect.specs.Spelling.{pair_words, score_words}

pub after : (a b c : List ℕ) → Extends a b → Extends b c → Extends a c
after a b c p q = Extends-trans a b c p q

pub ruleset steps = (after)

-- a name, a key, and the words behind them
pub whole : (old name key : List ℕ) (ws : List Bytes) (n : ℕ) → n ≡ length ws → (old ++ head name key n) ++ flat_map bulk ws ≡ old ++ array (name ∷ key ∷ ws)
unfolding head
whole old name key ws n is =
    append_assoc old _ (flat_map bulk ws)
    ∙ ap (λ (t : List ℕ). old ++ (42 ∷ t)) (
    append_assoc (number_line (n + 2)) (bulk name ++ bulk key) (flat_map bulk ws)
    ∙ ap (λ (t : List ℕ). number_line (n + 2) ++ t) (append_assoc (bulk name) (bulk key) (flat_map bulk ws))
    ∙ ap (λ (m : ℕ). number_line m ++ flat_map bulk (name ∷ key ∷ ws)) (omega (arith, is)))

-- a name, and the words behind it
pub whole_alone : (old name : List ℕ) (ws : List Bytes) (n : ℕ) → n ≡ length ws → ((old ++ 42 ∷ number_line (n + 1)) ++ bulk name) ++ flat_map bulk ws ≡ old ++ array (name ∷ ws)
whole_alone old name ws n is =
    append_assoc (old ++ 42 ∷ number_line (n + 1)) (bulk name) (flat_map bulk ws)
    ∙ append_assoc old (42 ∷ number_line (n + 1)) (bulk name ++ flat_map bulk ws)
    ∙ ap (λ (m : ℕ). old ++ (42 ∷ number_line m ++ flat_map bulk (name ∷ ws))) (omega (arith, is))

pub length-pairs : (ps : List (Bytes × Bytes)) → length (flat_map pair_words ps) ≡ length ps + length ps
length-pairs [] = refl
length-pairs (p ∷ ps) = omega (arith, length-pairs ps)

pub length-scores : (ps : List (Bytes × ℤ)) → length (flat_map score_words ps) ≡ length ps + length ps
length-scores [] = refl
length-scores (p ∷ ps) = omega (arith, length-scores ps)
