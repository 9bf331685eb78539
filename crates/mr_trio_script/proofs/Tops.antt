-- What the line that begins some bytes says of their first part.
use Rattle.std.proofs.Common.{◌≡◌, ◌≢◌, ◌∙◌, ℕ, ◌+◌, ◌-◌, ◌==◌, ◌||◌, true, false, Bool, List, ◌∷◌, ◌++◌, length, take, sym, ap, refl, arith, eqb-true, inl, inr, length-append}
use Rattle.std.proofs.Math.Seq.{take-append_seam, take-append-add}
use Rattle.mr_resp.specs.Spelling.{line_end}
use Rattle.mr_trio_script.specs.ReplyLines.{BeginsWith}
use Rattle.mr_trio_script.specs.Replies.{Part, line, word, no_word, no_list, list, IsForm, IsPart, part_text}
use Rattle.mr_trio_script.specs.Heads.{IsFirst, IsListHead, IsWordBehind, NoListHead, NoWordBehind, NoneIsFirst, is_text_form}
use Rattle.mr_trio_script.proofs.Fronts.{one_line}
use Rattle.mr_trio_script.proofs.Parts.{form_of, head_text, tail_of, part_begins, form_apart, form_apart_list}

-- ---- no part
either : {X : Type 0} (a b c : Bool) → (a ≡ true → X) → (b ≡ true → X) → (c ≡ true → X) → a || (b || c) ≡ true → X
either true b c f g h e = f refl
either false true c f g h e = g refl
either false false true f g h e = h refl
either false false false f g h e = let wrong : false ≡ true = e in cc

of_form : (form : ℕ) → is_text_form form ≡ true → IsForm form
of_form form e = either (form == 43) (form == 45) (form == 58) (λ i. inl (eqb-true form 43 i)) (λ i. inr (inl (eqb-true form 45 i))) (λ i. inr (inr (eqb-true form 58 i))) e

form_found : (form : ℕ) → IsForm form → is_text_form form ≡ false → ⊥
form_found form (inl is) e = let wrong : true ≡ false = sym (ap is_text_form is) ∙ e in cc
form_found form (inr (inl is)) e = let wrong : true ≡ false = sym (ap is_text_form is) ∙ e in cc
form_found form (inr (inr is)) e = let wrong : true ≡ false = sym (ap is_text_form is) ∙ e in cc

module _ (bytes : List ℕ) (form : ℕ) (text rest : List ℕ) (b : BeginsWith bytes form text rest) where
  same : (p : Part) (more : List ℕ) (is : IsPart p) (e : bytes ≡ part_text p ++ more) → (form ≡ form_of p) × (text ≡ head_text p) × (rest ≡ tail_of p ++ more)
  same p more is e =
      let one = one_line bytes form (form_of p) text (head_text p) rest (tail_of p ++ more) b (part_begins p bytes more is e) in
      (one.form, one.text, one.rest)

  word_none : (p : Part) (more : List ℕ) → IsPart p → form ≡ 36 → NoWordBehind text rest → form ≡ form_of p → text ≡ head_text p → rest ≡ tail_of p ++ more → ⊥
  word_none (line f t) more is e none a h r = form_apart f form is.0 (sym a) e
  word_none (word w) more is e none a h r = none.none w more is h r
  word_none no_word more is e none a h r = none.some h
  word_none no_list more is e none a h r = omega (arith, e, a)
  word_none (list n) more is e none a h r = omega (arith, e, a)

  list_none : (p : Part) → IsPart p → form ≡ 42 → NoListHead text → form ≡ form_of p → text ≡ head_text p → ⊥
  list_none (line f t) is e none a h = form_apart_list f form is.0 (sym a) e
  list_none (word w) is e none a h = omega (arith, e, a)
  list_none no_word is e none a h = omega (arith, e, a)
  list_none no_list is e none a h = none.some h
  list_none (list n) is e none a h = none.none n is h

  other_none : (p : Part) → IsPart p → is_text_form form ≡ false → form ≢ 36 → form ≢ 42 → form ≡ form_of p → ⊥
  other_none (line f t) is plain a b e = form_found f is.0 (sym (ap is_text_form e) ∙ plain)
  other_none (word w) is plain a b e = a e
  other_none no_word is plain a b e = a e
  other_none no_list is plain a b e = b e
  other_none (list n) is plain a b e = b e

  pub no_word_first : form ≡ 36 → NoWordBehind text rest → NoneIsFirst bytes
  no_word_first e none p more is begins = let s = same p more is begins in word_none p more is e none s.0 s.1 s.2

  pub no_list_first : form ≡ 42 → NoListHead text → NoneIsFirst bytes
  no_list_first e none p more is begins = let s = same p more is begins in list_none p is e none s.0 s.1

  pub no_other_first : is_text_form form ≡ false → form ≢ 36 → form ≢ 42 → NoneIsFirst bytes
  no_other_first a w l p more is begins = let s = same p more is begins in other_none p is a w l s.0

-- ---- a part
module _ (bytes : List ℕ) (form : ℕ) (text rest : List ℕ) (b : BeginsWith bytes form text rest) where
  whole : bytes ≡ (form ∷ text ++ line_end) ++ rest
  whole = b.is

  line_len : length (form ∷ text ++ line_end) ≡ length bytes - length rest
  line_len = omega (arith, ap length whole, length-append (form ∷ text ++ line_end) rest)

  line_taken : take (length bytes - length rest) bytes ≡ form ∷ text ++ line_end
  line_taken = (λ i. take (sym line_len i) (whole i)) ∙ take-append_seam (form ∷ text ++ line_end) rest

  pub first_of_form : is_text_form form ≡ true → IsFirst bytes (record { len = length bytes - length rest; opens = 0 })
  first_of_form e = record { part = line form text; is_part = (of_form form e, b.none); within = omega arith; text = line_taken; opened = refl }

  list_of : (count : ℕ) → form ≡ 42 → IsListHead text count → IsFirst bytes (record { len = length bytes - length rest; opens = count })
  list_of count e (inl is) = record { part = no_list; is_part = tt; within = omega arith; text = line_taken ∙ (λ i. e i ∷ is.0 i ++ line_end); opened = is.1 }
  list_of count e (inr is) = record { part = list count; is_part = is.1; within = omega arith; text = line_taken ∙ (λ i. e i ∷ is.0 i ++ line_end); opened = refl }

  pub first_of_list : (count : ℕ) → form ≡ 42 → IsListHead text count → IsFirst bytes (record { len = length bytes - length rest; opens = count })
  first_of_list = list_of

  word_of : (more : ℕ) → form ≡ 36 → IsWordBehind text rest more → IsFirst bytes (record { len = length bytes - length rest + more; opens = 0 })
  word_of more e (inl is) = record {
    part = no_word;
    is_part = tt;
    within = omega (arith, is.1);
    text = (let len : length bytes - length rest + more ≡ length bytes - length rest = omega (arith, is.1) in ap (λ n. take n bytes) len) ∙ line_taken ∙ (λ i. e i ∷ is.0 i ++ line_end);
    opened = refl;
  }
  word_of more e (inr w) =
      let len : length bytes - length rest + more ≡ length (form ∷ text ++ line_end) + more = omega (arith, line_len) in
      record {
        part = word w.word;
        is_part = w.small;
        within = omega (arith, w.within, line_len, ap length whole, length-append (form ∷ text ++ line_end) rest);
        text = (λ i. take (len i) (whole i)) ∙ take-append-add (form ∷ text ++ line_end) rest more ∙ (λ i. (e i ∷ w.length_is i ++ line_end) ++ w.is i);
        opened = refl;
      }

  pub first_of_word : (more : ℕ) → form ≡ 36 → IsWordBehind text rest more → IsFirst bytes (record { len = length bytes - length rest + more; opens = 0 })
  first_of_word = word_of
