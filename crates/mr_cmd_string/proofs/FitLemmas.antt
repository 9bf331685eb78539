-- The words that a command on strings carries are within the word limit where all words are.
use Rattle.std.proofs.Common.{ℕ, pos, List, [], ◌∷◌, map, refl, subst}
use Rattle.std.specs.Prelude.{neg_ℤ, IsTrue}
use Rattle.std.specs.List.{list_all}
use Rattle.mr_bytes.specs.Words.{fits}
use Rattle.mr_bytes.proofs.Both.{first, second}
use Rattle.mr_cmd_string.specs.Carried.{text_words}
use Rattle.mr_arguments.specs.Spelling.{Word, Number, in_a_row}
use Rattle.mr_cmd_string.specs.Spelled.{AreOfTexts}
use Rattle.mr_arguments.proofs.FitLemmas.{carried, carried-words, both, parts_fit}
use Rattle.mr_cmd_string.specs.declared.text_ask.TextAsk.{TextAsk}
use Rattle.mr_cmd_string.specs.declared.text_ask.TextAsk.TheVariants as text
use Rattle.mr_cmd_string.specs.declared.text_ask.Amount.TheVariants as amount

pub texts_fit : (ws : List (List ℕ)) (a : TextAsk) → AreOfTexts ws a → IsTrue (list_all fits ws) → IsTrue (list_all fits (text_words a))
unfolding carried
texts_fit ws (text.Set k v condition reply lifetime) s h =
    let all = parts_fit ws (Word k ∷ Word v ∷ in_a_row s.0) s.1.1 h in
    both _ _ (first _ _ all) (both _ _ (first _ _ (second _ _ all)) refl)
texts_fit ws (text.SetEx k n v) s h = parts_fit ws (Word k ∷ Number n ∷ Word v ∷ []) s h
texts_fit ws (text.PSetEx k n v) s h = parts_fit ws (Word k ∷ Number n ∷ Word v ∷ []) s h
texts_fit ws (text.GetRange k a b) s h = parts_fit ws (Word k ∷ Number a ∷ Number b ∷ []) s h
texts_fit ws (text.SetRange k o v) s h = parts_fit ws (Word k ∷ Number (pos o) ∷ Word v ∷ []) s h
texts_fit ws (text.Increase k amount.One) s h = parts_fit ws (Word k ∷ []) s h
texts_fit ws (text.Increase k amount.MinusOne) s h = parts_fit ws (Word k ∷ []) s h
texts_fit ws (text.Increase k (amount.Number n)) s h = parts_fit ws (Word k ∷ Number n ∷ []) s h
texts_fit ws (text.Increase k (amount.Opposite n)) s h = parts_fit ws (Word k ∷ Number (neg_ℤ n) ∷ []) s h
texts_fit ws a s h = subst (λ (xs : List (List ℕ)). IsTrue (list_all fits xs)) (carried-words (text_words a)) (parts_fit ws (map Word (text_words a)) s h)
