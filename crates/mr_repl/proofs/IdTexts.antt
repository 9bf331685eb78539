-- The texts of ids are forty lower-case hexadecimal digits.
use Rattle.std.proofs.Common.{◌≡◌, ℕ, zero, suc, ◌+◌, ◌-◌, ◌*◌, ◌/◌, ◌%◌, ◌<◌, Bool, true, false, cond, not, ◌&&◌, ◌||◌, List, [], ◌∷◌, length, slice_index, inl, inr, refl, ap, ◌∙◌, subst, arith}
use Rattle.std.specs.Prelude.{◌==◌, nat_le, nat_lt}
use Rattle.std.specs.List.{AllPass}
use Rattle.std.proofs.lemmas.Bool.{and_parts, cases_lt, eqb-true, ltb-true}
use Rattle.std.proofs.lemmas.List.Elements.{All-cons, All-head, All-nil, All-tail}
use Rattle.hex.specs.Hex.{IsBytes, encode_with, lower_digits}
use Rattle.hex.proofs.HexLemmas.{length-encode_with}
use Rattle.mr_repl.specs.ReplId.{IsId, IsIdText, TextsAreForty, digits_of, is_lower_digit}

-- what a lower-case digit counts
abbrev count_of : ℕ → ℕ
count_of c = cond (nat_le 97 c) (c - 87) (c - 48)

implied : (a x : Bool) → (not a || x) ≡ true → a ≡ true → x ≡ true
implied true x h e = h
implied false x h e = cc

-- c is no lower-case digit, or stands in the table where it counts
abbrev stands : ℕ → Bool
stands c = not (is_lower_digit c) || ((slice_index lower_digits (count_of c) == c) && nat_lt (count_of c) 16)

abbrev all_stand : ℕ → Bool
all_stand zero = true
all_stand (suc n) = stands n && all_stand n

all_stand-at : (n k : ℕ) → all_stand n ≡ true → k < n → stands k ≡ true
all_stand-at zero k h less = absurd (omega arith)
all_stand-at (suc n) k h less =
    let parts = and_parts (stands n) (all_stand n) h in
    elim (cases_lt k n) [
      | inl below ↦ all_stand-at n k parts.1 below
      | inr top ↦
          let e : n ≡ k = omega arith in
          subst (λ (j : ℕ). stands j ≡ true) e parts.0
    ]

lower-small : (c : ℕ) → is_lower_digit c ≡ true → c < 128
lower-small c h = grind arith

-- a lower-case digit stands in the table where it counts
digit_stands : (c : ℕ) → is_lower_digit c ≡ true → (slice_index lower_digits (count_of c) ≡ c) × (count_of c < 16)
digit_stands c h =
    let both = implied (is_lower_digit c) _ (all_stand-at 128 c refl (lower-small c h)) h in
    let parts = and_parts (slice_index lower_digits (count_of c) == c) (nat_lt (count_of c) 16) both in
    (eqb-true (slice_index lower_digits (count_of c)) c parts.0, ltb-true (count_of c) 16 parts.1)

abbrev all_lower : ℕ → Bool
all_lower zero = true
all_lower (suc n) = is_lower_digit (slice_index lower_digits n) && all_lower n

all_lower-at : (n k : ℕ) → all_lower n ≡ true → k < n → is_lower_digit (slice_index lower_digits k) ≡ true
all_lower-at zero k h less = absurd (omega arith)
all_lower-at (suc n) k h less =
    let parts = and_parts (is_lower_digit (slice_index lower_digits n)) (all_lower n) h in
    elim (cases_lt k n) [
      | inl below ↦ all_lower-at n k parts.1 below
      | inr top ↦
          let e : n ≡ k = omega arith in
          subst (λ (j : ℕ). is_lower_digit (slice_index lower_digits j) ≡ true) e parts.0
    ]

abbrev IsLower : ℕ → Type 0
IsLower c = is_lower_digit c ≡ true

-- the digits of bytes are lower-case
digits-lower : (bytes : List ℕ) → IsBytes bytes → AllPass is_lower_digit (encode_with lower_digits bytes)
unfolding encode_with
digits-lower [] h = All-nil IsLower
digits-lower (b ∷ rest) h =
    let fits : b < 256 = h 0 in
    let high : b / 16 < 16 = omega arith in
    let low : b % 16 < 16 = omega arith in
    All-cons IsLower (slice_index lower_digits (b / 16)) (slice_index lower_digits (b % 16) ∷ encode_with lower_digits rest) (all_lower-at 16 (b / 16) refl high)
    (All-cons IsLower (slice_index lower_digits (b % 16)) (encode_with lower_digits rest) (all_lower-at 16 (b % 16) refl low) (digits-lower rest (λ k. h (suc k))))

-- the bytes that pairs of digits count
abbrev bytes_of : List ℕ → List ℕ
bytes_of [] = []
bytes_of (c ∷ []) = []
bytes_of (a ∷ b ∷ rest) = (count_of a * 16 + count_of b) ∷ bytes_of rest

high_of : (h l : ℕ) → l < 16 → (h * 16 + l) / 16 ≡ h
high_of h l small = omega arith

low_of : (h l : ℕ) → l < 16 → (h * 16 + l) % 16 ≡ l
low_of h l small = omega arith

byte_fits : (h l : ℕ) → h < 16 → l < 16 → h * 16 + l < 256
byte_fits h l high low = omega arith

digits-bytes_of : (text : List ℕ) → length text % 2 ≡ 0 → AllPass is_lower_digit text → encode_with lower_digits (bytes_of text) ≡ text
unfolding encode_with
digits-bytes_of [] even h = refl
digits-bytes_of (c ∷ []) even h = absurd (omega arith)
digits-bytes_of (a ∷ b ∷ rest) even h =
    let tail = All-tail IsLower a (b ∷ rest) h in
    let high = digit_stands a (All-head IsLower a (b ∷ rest) h) in
    let low = digit_stands b (All-head IsLower b rest tail) in
    let first = ap (slice_index lower_digits) (high_of (count_of a) (count_of b) low.1) ∙ high.0 in
    let second = ap (slice_index lower_digits) (low_of (count_of a) (count_of b) low.1) ∙ low.0 in
    let others = digits-bytes_of rest (omega arith) (All-tail IsLower b rest tail) in
    λ i. first i ∷ second i ∷ others i

bytes_of-IsBytes : (text : List ℕ) → AllPass is_lower_digit text → IsBytes (bytes_of text)
bytes_of-IsBytes [] h i = omega arith
bytes_of-IsBytes (c ∷ []) h i = omega arith
bytes_of-IsBytes (a ∷ b ∷ rest) h zero =
    let tail = All-tail IsLower a (b ∷ rest) h in
    byte_fits (count_of a) (count_of b) (digit_stands a (All-head IsLower a (b ∷ rest) h)).1 (digit_stands b (All-head IsLower b rest tail)).1
bytes_of-IsBytes (a ∷ b ∷ rest) h (suc i) = bytes_of-IsBytes rest (All-tail IsLower b rest (All-tail IsLower a (b ∷ rest) h)) i

some_id : (text : List ℕ) → IsIdText text → (id : List ℕ) × IsId id × (digits_of id ≡ text)
some_id text h =
    let long = h.long in
    let same = digits-bytes_of text (omega arith) h.digits in
    let sizes = length-encode_with lower_digits (bytes_of text) in
    let whole = ap length same in
    (bytes_of text, record { long = omega (arith, sizes, whole); bytes = bytes_of-IsBytes text h.digits }, same)

is_text : (text : List ℕ) → (id : List ℕ) × IsId id × (digits_of id ≡ text) → IsIdText text
is_text text (id, is, same) =
    let sizes = length-encode_with lower_digits id in
    let whole = ap length same in
    let long = is.long in
    record { long = omega (arith, sizes, whole); digits = subst (AllPass is_lower_digit) same (digits-lower id is.bytes) }

pub texts_are_forty : TextsAreForty
texts_are_forty text = (some_id text, is_text text)
