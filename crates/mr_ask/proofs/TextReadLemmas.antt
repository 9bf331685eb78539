-- Words that spell a command on strings are read as it.
use Rattle.std.proofs.Common.{ℕ, pos, ◌≡◌, List, [], ◌∷◌, map, refl, ◌∙◌, ap, subst}
use Rattle.std.specs.Prelude.{neg_ℤ, Ok}
use Rattle.std.specs.Option.{ok_or}
use Rattle.std.proofs.Math.IntN.{neg_ℤ-neg_ℤ}
use Rattle.mr_bytes.proofs.Numbers.{number_of-signed_decimal}
use Rattle.mr_arguments.specs.Parts.{with}
use Rattle.mr_arguments.specs.Spelling.{Word, Number, AreParts}
use Rattle.mr_arguments.proofs.ReadLemmas.{from_one, literals, pairs_itself, words_are}
use Rattle.mr_cmd_string.proofs.ReadLemmas.{set_is_read}
use Rattle.mr_arguments.specs.declared.name.Name.TheVariants as name
use Rattle.mr_arguments.specs.declared.fault.AskFault.TheVariants.{Arity}
use Rattle.mr_cmd_string.specs.Askable.{TextIsAskable}
use Rattle.mr_ask.specs.Asks.{of_kind, reading}
use Rattle.mr_cmd_string.specs.Called.{text_name}
use Rattle.mr_cmd_string.specs.Carried.{text_words}
use Rattle.mr_cmd_string.specs.Spelled.{text_parts, AreOfTexts}
use Rattle.mr_cmd_string.specs.declared.text_ask.Amount.TheVariants as amount
use Rattle.mr_cmd_string.specs.declared.text_ask.TextAsk.{TextAsk}
use Rattle.mr_cmd_string.specs.declared.text_ask.TextAsk.TheVariants as text
use Rattle.mr_ask.specs.declared.ask.Ask.TheVariants as ask

plain_read : (ws : List (List ℕ)) (a : TextAsk) → text_parts a ≡ map Word (text_words a) → AreParts ws (text_parts a) → reading (text_name a) ws ≡ reading (text_name a) (text_words a)
plain_read ws a e s = ap (reading (text_name a)) (words_are ws (text_words a) (subst (AreParts ws) e s))

pub text_read : (ws : List (List ℕ)) (a : TextAsk) → TextIsAskable a → AreOfTexts ws a → reading (text_name a) ws ≡ Ok (ask.Texts a)
text_read ws (text.Get key) h s = plain_read ws (text.Get key) refl s
text_read ws (text.Set k v c r l) h s = ap (of_kind ask.Texts) (set_is_read k v c r l ws h s)
text_read ws (text.SetEx key n value) h s =
    ap (reading name.SetEx) (literals ws (Word key ∷ Number n ∷ Word value ∷ []) refl s) ∙ rw (number_of-signed_decimal n h.0.0, from_one n h.1, h.0.1) refl
text_read ws (text.PSetEx key n value) h s =
    ap (reading name.PSetEx) (literals ws (Word key ∷ Number n ∷ Word value ∷ []) refl s) ∙ rw (number_of-signed_decimal n h.0.0, from_one n h.1, h.0.1) refl
text_read ws (text.StrLen key) h s = plain_read ws (text.StrLen key) refl s
text_read ws (text.GetRange key first last) h s =
    ap (reading name.GetRange) (literals ws (Word key ∷ Number first ∷ Number last ∷ []) refl s) ∙ rw (number_of-signed_decimal first h.0, number_of-signed_decimal last h.1) refl
text_read ws (text.MGet []) h s = absurd (h refl)
text_read ws (text.MGet (k ∷ ks)) h s = plain_read ws (text.MGet (k ∷ ks)) refl s
text_read ws (text.SetNx key value) h s = plain_read ws (text.SetNx key value) refl s
text_read ws (text.GetSet key value) h s = plain_read ws (text.GetSet key value) refl s
text_read ws (text.GetDel key) h s = plain_read ws (text.GetDel key) refl s
text_read ws (text.MSet []) h s = absurd (h refl)
text_read ws (text.MSet (p ∷ ps)) h s =
    plain_read ws (text.MSet (p ∷ ps)) refl s ∙ ap (λ o. of_kind ask.Texts (with (ok_or o (Arity name.MSet)) (λ pairs. Ok (text.MSet pairs)))) (pairs_itself (p ∷ ps))
text_read ws (text.MSetNx []) h s = absurd (h refl)
text_read ws (text.MSetNx (p ∷ ps)) h s =
    plain_read ws (text.MSetNx (p ∷ ps)) refl s ∙ ap (λ o. of_kind ask.Texts (with (ok_or o (Arity name.MSetNx)) (λ pairs. Ok (text.MSetNx pairs)))) (pairs_itself (p ∷ ps))
text_read ws (text.Append key value) h s = plain_read ws (text.Append key value) refl s
text_read ws (text.SetRange key offset value) h s =
    ap (reading name.SetRange) (literals ws (Word key ∷ Number (pos offset) ∷ Word value ∷ []) refl s) ∙ rw (number_of-signed_decimal (pos offset) h) refl
text_read ws (text.Increase key amount.One) h s = ap (reading name.Incr) (literals ws (Word key ∷ []) refl s)
text_read ws (text.Increase key amount.MinusOne) h s = ap (reading name.Decr) (literals ws (Word key ∷ []) refl s)
text_read ws (text.Increase key (amount.Number n)) h s = ap (reading name.IncrBy) (literals ws (Word key ∷ Number n ∷ []) refl s) ∙ rw (number_of-signed_decimal n h) refl
text_read ws (text.Increase key (amount.Opposite n)) h s =
    ap (reading name.DecrBy) (literals ws (Word key ∷ Number (neg_ℤ n) ∷ []) refl s) ∙ rw (number_of-signed_decimal (neg_ℤ n) h.1, neg_ℤ-neg_ℤ n, h.0) refl
