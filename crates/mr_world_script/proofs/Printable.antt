-- Answers are printable.
use Rattle.std.proofs.Common.{◌≡◌, ℕ, zero, suc, ◌+◌, ◌/◌, ◌%◌, ◌<◌, ◌≤◌, ◌^◌, List, [], ◌∷◌, ◌++◌, decimal, Bool, true, false, ◌&&◌, cond, inl, inr, refl, subst, arith}
use Rattle.std.specs.Prelude.{All, codes, slice_index}
use Rattle.std.specs.List.{AllPass, flat_map, list_all}
use Rattle.std.proofs.lemmas.Bool.{and_parts, cases_lt}
use Rattle.std.proofs.lemmas.Bool.Decides.{nat_tests}
use Rattle.std.proofs.lemmas.Fmt.{decimal_by_steps}
use Rattle.std.proofs.lemmas.List.Elements.{All-append, All-cons, All-head, All-nil, All-tail, All-weaker}
use Rattle.std.proofs.lemmas.List.Sums.{AllPass-from_list_all}
use Rattle.mr_bytes.proofs.Both.{first}
use Rattle.hex.specs.Hex.{encode_lower, encode_with, lower_digits}
use Rattle.mr_repl.specs.ReplId.{IsId, digits_of, is_lower_digit}
use Rattle.mr_repl.proofs.IdTexts.{texts_are_forty}
use Rattle.mr_world_script.specs.Answers.{answer_text, is_plain, is_printable, IsAnswer, numbered, printed, printed_byte}
use Rattle.mr_world_script.specs.declared.answer.ScriptAnswer.{ScriptAnswer}
use Rattle.mr_world_script.specs.declared.answer.ScriptAnswer.TheVariants.{Node, Link, Done, Refused, Bad, Shows, Stopped, Bytes}

abbrev IsShown : ℕ → Type 0
IsShown b = is_printable b ≡ true

in_range : (b : ℕ) → 32 ≤ b → b ≤ 126 → IsShown b
in_range b low high = grind (arith, nat_tests)

both : (xs ys : List ℕ) → AllPass is_printable xs → AllPass is_printable ys → AllPass is_printable (xs ++ ys)
both xs ys p q = All-append IsShown xs ys p q

one : (b : ℕ) → IsShown b → AllPass is_printable (b ∷ [])
one b h = All-cons IsShown b [] h (All-nil IsShown)

decimal_printable : (n : ℕ) → n < 2 ^ 64 → AllPass is_printable (decimal n)
decimal_printable = decimal_by_steps (λ n ds. AllPass is_printable ds) (λ n small. one (48 + n) (in_range (48 + n) (omega arith) (omega arith)))
    (λ n ds more h. both ds ((48 + n % 10) ∷ []) h (one (48 + n % 10) (in_range (48 + n % 10) (omega arith) (omega arith))))

lower_printable : (c : ℕ) → is_lower_digit c ≡ true → IsShown c
lower_printable c h = grind (arith, nat_tests)

digits_printable : (id : List ℕ) → IsId id → AllPass is_printable (digits_of id)
digits_printable id h = All-weaker (λ c. is_lower_digit c ≡ true) IsShown lower_printable (digits_of id) ((texts_are_forty (digits_of id)).1 (id, h, refl)).digits

abbrev all_shown : ℕ → Bool
all_shown zero = true
all_shown (suc n) = is_printable (slice_index lower_digits n) && all_shown n

all_shown-at : (n k : ℕ) → all_shown n ≡ true → k < n → IsShown (slice_index lower_digits k)
all_shown-at zero k h less = absurd (omega arith)
all_shown-at (suc n) k h less =
    let parts = and_parts (is_printable (slice_index lower_digits n)) (all_shown n) h in
    elim (cases_lt k n) [
      | inl below ↦ all_shown-at n k parts.1 below
      | inr top ↦
          let e : n ≡ k = omega arith in
          subst (λ (j : ℕ). IsShown (slice_index lower_digits j)) e parts.0
    ]

pair_printable : (b : ℕ) → b < 256 → AllPass is_printable (encode_lower (b ∷ []))
unfolding encode_with
pair_printable b small =
    let high : b / 16 < 16 = omega arith in
    let low : b % 16 < 16 = omega arith in
    both (slice_index lower_digits (b / 16) ∷ []) (slice_index lower_digits (b % 16) ∷ []) (one _ (all_shown-at 16 (b / 16) refl high)) (one _ (all_shown-at 16 (b % 16) refl low))

byte_printable : (b : ℕ) → b < 256 → AllPass is_printable (printed_byte b)
byte_printable b small = elim (is_plain b) as (λ p. is_plain b ≡ p → AllPass is_printable (cond p (b ∷ []) (92 ∷ 120 ∷ encode_lower (b ∷ [])))) [
  | true ↦ λ e. one b (first _ _ e)
  | false ↦ λ e. both (92 ∷ 120 ∷ []) (encode_lower (b ∷ [])) (AllPass-from_list_all is_printable (92 ∷ 120 ∷ []) refl) (pair_printable b small)
] refl

abbrev IsByte : ℕ → Type 0
IsByte b = b < 256

bytes_printable : (bytes : List ℕ) → All IsByte bytes → AllPass is_printable (printed bytes)
unfolding printed
bytes_printable [] h = All-nil IsShown
bytes_printable (b ∷ bytes) h = both (printed_byte b) (flat_map printed_byte bytes) (byte_printable b (All-head IsByte b bytes h)) (bytes_printable bytes (All-tail IsByte b bytes h))

text_printable : (text : List ℕ) → list_all is_printable text ≡ true → AllPass is_printable text
text_printable text h = AllPass-from_list_all is_printable text h

numbered_printable : (word : List ℕ) (n : ℕ) → list_all is_printable word ≡ true → n < 2 ^ 64 → AllPass is_printable (numbered word n)
numbered_printable word n h small = both word (32 ∷ decimal n) (text_printable word h) (both (32 ∷ []) (decimal n) (text_printable (32 ∷ []) refl) (decimal_printable n small))

pub answer_printable : (answer : ScriptAnswer) → IsAnswer answer → AllPass is_printable (answer_text answer)
answer_printable (Node n) h = numbered_printable (codes "node") n refl h
answer_printable (Link l) h = numbered_printable (codes "link") l refl h
answer_printable Done h = text_printable (codes "ok") refl
answer_printable (Refused k) h = numbered_printable (codes "refused") k refl h
answer_printable Bad h = text_printable (codes "bad line") refl
answer_printable (Shows n id offset) h =
    both (decimal n) (32 ∷ (digits_of id ++ 32 ∷ decimal offset)) (decimal_printable n h.0)
    (both (32 ∷ []) (digits_of id ++ 32 ∷ decimal offset) (text_printable (32 ∷ []) refl)
    (both (digits_of id) (32 ∷ decimal offset) (digits_printable id h.1) (both (32 ∷ []) (decimal offset) (text_printable (32 ∷ []) refl) (decimal_printable offset h.2))))
answer_printable (Stopped n) h = both (decimal n) (codes " stopped") (decimal_printable n h) (text_printable (codes " stopped") refl)
answer_printable (Bytes bytes) h = bytes_printable bytes.now h
