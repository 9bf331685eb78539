-- An id and an offset as a text.
use Rattle.std.proofs.Common.{◌≡◌, ◌≢◌, ℕ, ◌+◌, ◌≤◌, ℤ, pos, true, List, ◌∷◌, ◌++◌, length, take, drop, get_or, Some, None, Result, Ok, Err, refl, sym, ap, ◌∙◌, arith, length-append, length-drop, drop-cons, take_all, ◌-◌, to_z, of_z, w64}
use Rattle.std.specs.Fmt.{decimal}
use Rattle.std.specs.Prelude.{codes}
use Rattle.std.specs.Result.{OkIff, result_ok}
use Rattle.std.proofs.lemmas.Bool.Decides.{nat_tests}
use Rattle.std.proofs.lemmas.Int.{to_z-of_z}
use Rattle.std.proofs.lemmas.List.{take-append-drop}
use Rattle.std.proofs.Math.Seq.{take-append_seam, drop-append-add, get_or-append_seam}
use Rattle.mr_repl.specs.ReplId.{IsId, digits_of}
use Rattle.mr_repl.proofs.IdTexts.{texts_are_forty}
use Rattle.mr_bytes.specs.Number.{is_i64, number_of}
use Rattle.mr_bytes.proofs.Numbers.{number_of-signed_decimal}
use Rattle.mr_repl.specs.Backlog.{offset_limit}
use Rattle.mr_peer_lines.specs.Replies.{place_text, IsPlaceText, IsReplyText}
use Rattle.mr_peer_lines.specs.declared.psync.PsyncReply.{PsyncReply}
use Rattle.mr_peer_lines.specs.declared.psync.PsyncReply.TheVariants.{FullResync, Continue}

-- ---- numbers
pub small : (n : ℕ) → n ≤ offset_limit → is_i64 (pos n) ≡ true
small n few = grind (arith, nat_tests, few)

-- a text that is a number's, and that of a number from 0 on, is of one number
pub one_number : (text : List ℕ) (z : ℤ) (n : ℕ) → n ≤ offset_limit → number_of text ≡ Some z → text ≡ decimal n → z ≡ pos n
one_number text z n few found is =
    let same : Some z ≡ Some (pos n) = sym found ∙ ap number_of is ∙ number_of-signed_decimal (pos n) (small n few) in
    cc

-- what was made of a number from 0 on
pub fits_count : (z : ℤ) (n : ℕ) → z ≡ pos n → n ≤ offset_limit → to_z w64 (of_z w64 z) ≡ pos n
fits_count z n e few = ap (λ (y : ℤ). to_z w64 (of_z w64 y)) e ∙ to_z-of_z w64 (pos n) (record { sfits = omega arith })

pub not_none : {E : Type 0} (r : Result ℕ E) (P : Type 0) (v : ℕ) → OkIff r P v → P → result_ok r ≡ None → ⊥
not_none (Ok x) P v h p e = cc
not_none (Err x) P v h p e = h p

pub is_value : {E : Type 0} (r : Result ℕ E) (P : Type 0) (v k : ℕ) → OkIff r P v → result_ok r ≡ Some k → k ≡ v
is_value (Ok x) P v k h e = let same : x ≡ k = cc in sym same ∙ h.1
is_value (Err x) P v k h e = cc

-- ---- places
pub rest_from : (text : List ℕ) (n : ℕ) → take (length text - n) (drop n text) ≡ drop n text
rest_from text n = take_all (length text - n) (drop n text) (omega (arith, length-drop n text))

-- no answer has a text that begins with neither word
pub no_reply : (text : List ℕ) → ((rest : List ℕ) → text ≢ codes "CONTINUE " ++ rest) → ((rest : List ℕ) → text ≢ codes "FULLRESYNC " ++ rest) → (r : PsyncReply) → IsReplyText text r → ⊥
no_reply text other none (FullResync id offset) h = none (place_text id offset) h.1
no_reply text other none (Continue id) h = other (digits_of id) h.1

pub digits_long : (id : List ℕ) → IsId id → length (digits_of id) ≡ 40
digits_long id h = ((texts_are_forty (digits_of id)).1 (id, h, refl)).long

pub record HasPlace (text id : List ℕ) (offset : ℕ) : Type 0 where
  pub front : take 40 text ≡ digits_of id
  pub space : get_or text 40 0 ≡ 32
  pub back : drop 41 text ≡ decimal offset
  pub long : 41 ≤ length text

pub place_parts : (text id : List ℕ) (offset : ℕ) → IsPlaceText text id offset → HasPlace text id offset
place_parts text id offset h =
    let digits = digits_of id in let back = decimal offset in
    let size = digits_long id h.0.0 in
    let is : text ≡ digits ++ 32 ∷ back = h.1 in
    record {
      front = ap (λ (t : List ℕ). take 40 t) is ∙ ap (λ (n : ℕ). take n (digits ++ 32 ∷ back)) (sym size) ∙ take-append_seam digits (32 ∷ back);
      space = ap (λ (t : List ℕ). get_or t 40 0) is ∙ ap (λ (n : ℕ). get_or (digits ++ 32 ∷ back) n 0) (sym size) ∙ get_or-append_seam digits 32 back 0;
      back = ap (λ (t : List ℕ). drop 41 t) is ∙ ap (λ (n : ℕ). drop (n + 1) (digits ++ 32 ∷ back)) (sym size) ∙ drop-append-add digits (32 ∷ back) 1;
      long = omega (arith, ap length is, length-append digits (32 ∷ back), size);
    }

pub place_whole : (text id : List ℕ) (offset : ℕ) → HasPlace text id offset → text ≡ place_text id offset
place_whole text id offset h =
    let space = h.space in let front = h.front in let back = h.back in let long = h.long in
    sym (take-append-drop 40 text) ∙ ap (λ (l : List ℕ). take 40 text ++ l) (drop-cons text 40 0 (omega arith)) ∙ (λ i. front i ++ space i ∷ back i)
