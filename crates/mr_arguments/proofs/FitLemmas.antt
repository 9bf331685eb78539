-- The words that arguments carry are within the word limit where all words are.
use Rattle.std.proofs.Common.{ℕ, ◌≡◌, List, [], ◌∷◌, ◌++◌, map, Bool, true, false, ◌&&◌, refl, ◌∙◌, ap, subst}
use Rattle.std.specs.Prelude.{IsTrue, IsPermutation}
use Rattle.std.specs.List.{list_all, AllByRecursion}
use Rattle.std.proofs.lemmas.List.Elements.{All-from_recursion, recursion_from_All}
use Rattle.std.proofs.lemmas.List.Folds.{list_all-append}
use Rattle.std.proofs.lemmas.List.Sorted.{All-permutation, IsPermutation-sym}
use Rattle.mr_bytes.specs.Words.{fits}
use Rattle.mr_bytes.proofs.Both.{first, second}
use Rattle.mr_arguments.specs.Spelling.{Part, Word, Number, Keyword, Positive, Score, ScoreBound, AreParts, in_a_row}

pub all_words : (ws : List (List ℕ)) → AreParts ws (map Word ws)
all_words [] = tt
all_words (w ∷ ws) = (refl, all_words ws)

-- the words among the arguments
unfoldable pub carried : List Part → List (List ℕ)
carried [] = []
carried (Word w ∷ ps) = w ∷ carried ps
carried (Number n ∷ ps) = carried ps
carried (Keyword w ∷ ps) = carried ps
carried (Positive ∷ ps) = carried ps
carried (Score n ∷ ps) = carried ps
carried (ScoreBound b ∷ ps) = carried ps

pub carried-words : (ws : List (List ℕ)) → carried (map Word ws) ≡ ws
unfolding carried
carried-words [] = refl
carried-words (w ∷ ws) = ap (λ (xs : List (List ℕ)). w ∷ xs) (carried-words ws)

pub both : (a b : Bool) → IsTrue a → IsTrue b → IsTrue (a && b)
both true b g h = h
both false b g h = g

pub parts_fit : (ws : List (List ℕ)) (ps : List Part) → AreParts ws ps → IsTrue (list_all fits ws) → IsTrue (list_all fits (carried ps))
unfolding carried
parts_fit [] [] a h = refl
parts_fit [] (p ∷ ps) a h = absurd a
parts_fit (w ∷ ws) [] a h = absurd a
parts_fit (w ∷ ws) (Word t ∷ ps) a h = both _ _ (subst (λ (x : List ℕ). IsTrue (fits x)) a.0 (first _ _ h)) (parts_fit ws ps a.1 (second _ _ h))
parts_fit (w ∷ ws) (Number n ∷ ps) a h = parts_fit ws ps a.1 (second _ _ h)
parts_fit (w ∷ ws) (Keyword t ∷ ps) a h = parts_fit ws ps a.1 (second _ _ h)
parts_fit (w ∷ ws) (Positive ∷ ps) a h = parts_fit ws ps a.1 (second _ _ h)
parts_fit (w ∷ ws) (Score n ∷ ps) a h = parts_fit ws ps a.1 (second _ _ h)
parts_fit (w ∷ ws) (ScoreBound b ∷ ps) a h = parts_fit ws ps a.1 (second _ _ h)

pub carried-joined : (ps qs : List Part) → carried (ps ++ qs) ≡ carried ps ++ carried qs
unfolding carried
carried-joined [] qs = refl
carried-joined (Word w ∷ ps) qs = ap (λ (xs : List (List ℕ)). w ∷ xs) (carried-joined ps qs)
carried-joined (Number n ∷ ps) qs = carried-joined ps qs
carried-joined (Keyword w ∷ ps) qs = carried-joined ps qs
carried-joined (Positive ∷ ps) qs = carried-joined ps qs
carried-joined (Score n ∷ ps) qs = carried-joined ps qs
carried-joined (ScoreBound b ∷ ps) qs = carried-joined ps qs

unfoldable pub OptionFits : List Part → Type 0
OptionFits option = IsTrue (list_all fits (carried option))

pub options_fit : (order : List (List Part)) → IsTrue (list_all fits (carried (in_a_row order))) → AllByRecursion OptionFits order
unfolding OptionFits
options_fit [] h = tt
options_fit (o ∷ order) h =
    let both = subst IsTrue (ap (list_all fits) (carried-joined o (in_a_row order)) ∙ list_all-append fits (carried o) (carried (in_a_row order))) h in
    (first _ _ both, options_fit order (second _ _ both))

-- in another order too
pub others_fit : (options order : List (List Part)) → IsPermutation options order → IsTrue (list_all fits (carried (in_a_row order))) → AllByRecursion OptionFits options
others_fit options order p h =
    let all = All-from_recursion OptionFits order (options_fit order h) in
    recursion_from_All OptionFits options (All-permutation OptionFits order options (IsPermutation-sym options order p) all)

pub of_parts_fit : (ws : List (List ℕ)) (ps : List Part) (xs : List (List ℕ)) → carried ps ≡ xs → AreParts ws ps → IsTrue (list_all fits ws) → IsTrue (list_all fits xs)
of_parts_fit ws ps xs e s h = subst (λ (ys : List (List ℕ)). IsTrue (list_all fits ys)) e (parts_fit ws ps s h)
