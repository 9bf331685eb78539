-- The words that a command on keys carries are within the word limit where all words are.
use Rattle.std.proofs.Common.{ℕ, ◌≡◌, List, ◌∷◌, ◌++◌, map, Option, Some, None, refl, subst}
use Rattle.std.specs.Prelude.{IsTrue}
use Rattle.std.specs.List.{list_all, AllByRecursion}
use Rattle.mr_bytes.specs.Words.{fits}
use Rattle.mr_bytes.proofs.Both.{first}
use Rattle.mr_cmd_key.specs.Carried.{key_words}
use Rattle.mr_arguments.specs.Spelling.{Part, Word, Number, in_a_row}
use Rattle.mr_arguments.specs.Expiry.{number_said}
use Rattle.mr_cmd_key.specs.Spelled.{cursor_part, expire_part, scan_option, AreOfKeys}
use Rattle.mr_arguments.proofs.FitLemmas.{carried, carried-words, both, parts_fit, OptionFits, others_fit}
use Rattle.mr_cmd_key.specs.declared.options.ScanOption.TheVariants as scans
use Rattle.mr_cmd_key.specs.declared.key_ask.Cursor.{Cursor}
use Rattle.mr_cmd_key.specs.declared.key_ask.Cursor.TheVariants.{Start, Behind}
use Rattle.mr_cmd_key.specs.declared.key_ask.KindName.{KindName}
use Rattle.mr_cmd_key.specs.declared.key_ask.KeyAsk.{KeyAsk}
use Rattle.mr_cmd_key.specs.declared.key_ask.KeyAsk.TheVariants as key

without_cursor : (c : Cursor) (ps : List Part) → carried (cursor_part c ∷ ps) ≡ carried ps
unfolding carried
without_cursor Start ps = refl
without_cursor Behind ps = refl

pattern_fits : (cursor : Cursor) (pattern : Option (List ℕ)) (kind : Option KindName) (counts kinds : List (List Part)) → AllByRecursion OptionFits (scan_option scans.Pattern pattern ++ counts ++ kinds) → IsTrue (list_all fits (key_words (key.Scan cursor pattern kind)))
unfolding carried OptionFits
pattern_fits cursor None kind counts kinds h = refl
pattern_fits cursor (Some p) kind counts kinds h = h.0

pub keys_fit : (ws : List (List ℕ)) (a : KeyAsk) → AreOfKeys ws a → IsTrue (list_all fits ws) → IsTrue (list_all fits (key_words a))
unfolding carried
keys_fit ws (key.Scan cursor pattern kind) s h =
    let all = parts_fit ws (cursor_part cursor ∷ in_a_row s.are.0) s.are.1.1 h in
    let options = subst (λ (xs : List (List ℕ)). IsTrue (list_all fits xs)) (without_cursor cursor (in_a_row s.are.0)) all in
    pattern_fits cursor pattern kind _ _ (others_fit _ s.are.0 s.are.1.0 options)
keys_fit ws (key.Clear d t) s h = refl
keys_fit ws (key.Expire k e c) s h = both _ _ (first _ _ (parts_fit ws (Word k ∷ Number (number_said e) ∷ expire_part c) s h)) refl
keys_fit ws a s h = subst (λ (xs : List (List ℕ)). IsTrue (list_all fits xs)) (carried-words (key_words a)) (parts_fit ws (map Word (key_words a)) s h)
