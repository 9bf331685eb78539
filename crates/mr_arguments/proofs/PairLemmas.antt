-- Words taken two by two.
use Rattle.std.proofs.Common.{arith, ℕ, suc, ◌≡◌, ◌/◌, ◌%◌, List, [], ◌∷◌, length, true, refl, ◌∙◌, ap}
use Rattle.std.specs.Prelude.{◌==◌}
use Rattle.mr_arguments.specs.Pairing.{paired, unpaired, are_pairs}

pub are_pairs-even : (words : List (List ℕ)) → are_pairs words ≡ (length words % 2 == 0)
are_pairs-even [] = refl
are_pairs-even (word ∷ []) = refl
are_pairs-even (field ∷ value ∷ words) = let same : length words % 2 ≡ suc (suc (length words)) % 2 = omega arith in are_pairs-even words ∙ ap (λ (n : ℕ). n == 0) same

pub length-paired : (words : List (List ℕ)) → length (paired words) ≡ length words / 2
length-paired [] = refl
length-paired (word ∷ []) = refl
length-paired (field ∷ value ∷ words) = let rest : length (paired words) ≡ length words / 2 = length-paired words in omega arith

-- nothing is lost
pub unpaired-paired : (words : List (List ℕ)) → are_pairs words ≡ true → unpaired (paired words) ≡ words
unpaired-paired [] h = refl
unpaired-paired (word ∷ []) h = cc
unpaired-paired (field ∷ value ∷ words) h = ap (λ (ws : List (List ℕ)). field ∷ value ∷ ws) (unpaired-paired words h)

pub are_pairs-unpaired : (ps : List (List ℕ × List ℕ)) → are_pairs (unpaired ps) ≡ true
are_pairs-unpaired [] = refl
are_pairs-unpaired (p ∷ ps) = are_pairs-unpaired ps

pub paired-unpaired : (ps : List (List ℕ × List ℕ)) → paired (unpaired ps) ≡ ps
paired-unpaired [] = refl
paired-unpaired (p ∷ ps) = ap (λ (qs : List (List ℕ × List ℕ)). p ∷ qs) (paired-unpaired ps)
