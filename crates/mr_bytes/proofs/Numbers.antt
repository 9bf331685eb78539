-- Digits, and the numbers that they spell.
use Rattle.std.proofs.Common.{◌≡◌, ◌≢◌, ℕ, suc, ℤ, pos, negsuc, ◌+◌, ◌-◌, ◌*◌, ◌<◌, ◌≤◌, ◌^◌, List, [], ◌∷◌, length, get_or, take, drop, decimal, true, false, ◌&&◌, cond, Option, Some, None, IsTrue, inl, inr, refl, sym, ap, subst, ◌∙◌, arith, rules, lit<, ne_eqb}
use Rattle.std.specs.Prelude.{neg_ℤ, SomeIff, IfSome, IfNone, Result, Ok, Err}
use Rattle.std.specs.Result.{OkIff, result_ok}
use Rattle.std.proofs.Common.{FitsSigned, w64}
use Rattle.std.specs.Fmt.{signed_decimal}
use Rattle.std.specs.Str.{bytes_eq}
use Rattle.std.specs.Str.Parse.{starts_with_minus}
use Rattle.std.proofs.lemmas.Bool.{ltb-true, lt-ltb}
use Rattle.std.proofs.lemmas.Slice.Eq.{bytes_eq-Decides}
use Rattle.std.proofs.lemmas.List.{length-take-le, take_all}
use Rattle.std.proofs.Math.Seq.{take-length}
use Rattle.std.proofs.Math.Nat.{pow-le-pow_right}
use Rattle.mr_bytes.specs.Number.{is_i64, value_of, number_of}
use Rattle.mr_bytes.proofs.Both.{first, second}
use Rattle.std.specs.Char.{digit_value, is_ascii_digit}
use Rattle.std.specs.Str.Parse.{AllDigits, digits_value}
use Rattle.std.proofs.lemmas.Bool.{cases_lt}
use Rattle.std.proofs.lemmas.Bool.Decides.{nat_tests, Decides-int_eq}
use Rattle.std.proofs.lemmas.Fmt.{decimal_is_IsNumeral, decimal_digit, first_decimal, length-decimal-le, decimal-digits_value, decimal_injective}
use Rattle.std.proofs.lemmas.Int.Digits.{digits_more, digits_value_more, digits_value-lt}
use Rattle.std.proofs.lemmas.Str.Parse.{numerals_by_value, tells_digits, digit_at}
use Rattle.std.specs.Ordering.{int_eq}

-- what is known of a text of digits as it is read
pub record IsRead (text : List ℕ) (value count : ℕ) : Type 0 where
  pub digits : AllDigits 10 (take count text)
  pub value_is : value ≡ digits_value 10 (take count text)

pub bounds : (n : ℕ) → n < 10 ^ 19 → (0 < length (decimal n)) × (length (decimal n) ≤ 19)
bounds n small = ((decimal_is_IsNumeral n (omega arith)).0.0, length-decimal-le 19 n (lit< tt) small (omega arith))

pub no_leading_zero : (n : ℕ) → n < 10 ^ 19 → get_or (decimal n) 0 0 ≡ 48 → 1 < length (decimal n) → ⊥
no_leading_zero n small zero_first more =
    elim (cases_lt n 1) [
      | inl none ↦ omega (arith, ap length (decimal_digit n (omega arith)))
      | inr some ↦ omega (arith, first_decimal n some (omega arith))
    ]

pub each_is_digit : (n k : ℕ) → n < 10 ^ 19 → k < length (decimal n) → is_ascii_digit (get_or (decimal n) k 0) ≡ true
each_is_digit n k small here =
    let place = digit_at (decimal n) k (decimal_is_IsNumeral n (omega arith)).0.1 here in
    grind (arith, nat_tests, place)

-- a byte that is a digit, as `parse` values it
pub digit : (b : ℕ) → is_ascii_digit b ≡ true → (digit_value b ≡ b - 48) × (48 ≤ b) × (b ≤ 57)
digit b h = grind (arith, nat_tests, h)

-- one more digit is read
pub read_more : (text : List ℕ) (value i : ℕ) → i < length text → IsRead text value i → is_ascii_digit (get_or text i 0) ≡ true → IsRead text (value * 10 + (get_or text i 0 - 48)) (i + 1)
read_more text value i here h d =
    let b = digit (get_or text i 0) d in
    let below : digit_value (get_or text i 0) < 10 = omega (arith, b) in
    record {
      digits = digits_more 10 text i here h.digits below;
      value_is = ap (λ n. n * 10 + (get_or text i 0 - 48)) h.value_is ∙ ap (λ n. digits_value 10 (take i text) * 10 + n) (sym b.0) ∙ sym (digits_value_more 10 text i here);
    }

pub read_small : (text : List ℕ) (value i k : ℕ) → i ≤ k → i ≤ length text → IsRead text value i → value < 10 ^ k
read_small text value i k le here h = omega (arith, digits_value-lt 10 (take i text) h.digits, pow-le-pow_right {n = 10} (lit< tt) le, ap (λ n. 10 ^ n) (length-take-le i text here), h.value_is)

-- all digits are read
pub read_all : (text : List ℕ) (value : ℕ) → 0 < length text → length text ≤ 19 → (get_or text 0 0 ≡ 48 → length text ≡ 1) → IsRead text value (length text) → text ≡ decimal value
read_all text value some few lead h =
    let whole : take (length text) text ≡ text = take-length text in
    let value_is : value ≡ digits_value 10 text = h.value_is ∙ ap (digits_value 10) whole in
    let small = read_small text value (length text) 19 few (omega arith) h in
    sym (decimal-digits_value (numerals_by_value _ tells_digits) text (subst (AllDigits 10) whole h.digits) some lead (omega (arith, value_is, small))) ∙ ap decimal (sym value_is)

minus_is_no_digit : (n : ℕ) (ds : List ℕ) → n < 10 ^ 19 → decimal n ≡ 45 ∷ ds → ⊥
minus_is_no_digit n ds small e = omega (arith, digit_at (decimal n) 0 (decimal_is_IsNumeral n (omega arith)).0.1 (bounds n small).0, ap (λ bs. get_or bs 0 0) e)

pub spelled_below : (ds : List ℕ) (m : ℕ) → ds ≡ decimal m → 0 < m → 45 ∷ ds ≡ signed_decimal (negsuc (m - 1))
spelled_below ds m e some = ap (λ bs. 45 ∷ bs) (e ∙ ap decimal (omega arith))

pub other_below : (ds : List ℕ) (m : ℕ) → m < 10 ^ 19 → ds ≡ decimal m → ¬ ((0 < m) × (m ≤ 2 ^ 63)) → (n : ℤ) → IsTrue (is_i64 n) → 45 ∷ ds ≡ signed_decimal n → ⊥
other_below ds m small e outside (pos k) fits same = minus_is_no_digit k ds (omega (arith, ltb-true _ _ fits)) (sym same)
other_below ds m small e outside (negsuc k) fits same =
    let k_small : k < 2 ^ 63 = ltb-true _ _ fits in
    let is : m ≡ suc k = decimal_injective m (suc k) (omega arith) (omega arith) (sym e ∙ ap (drop 1) same) in
    outside (omega arith, omega arith)

pub none_below : (ds : List ℕ) → ((n : ℕ) → n < 10 ^ 19 → ds ≡ decimal n → ⊥) → (n : ℤ) → IsTrue (is_i64 n) → 45 ∷ ds ≡ signed_decimal n → ⊥
none_below ds none (pos k) fits same = minus_is_no_digit k ds (omega (arith, ltb-true _ _ fits)) (sym same)
none_below ds none (negsuc k) fits same = let k_small : k < 2 ^ 63 = ltb-true _ _ fits in none (suc k) (omega arith) (ap (drop 1) same)

-- a text without a minus is no number below zero
pub no_minus : (bs : List ℕ) → get_or bs 0 0 ≢ 45 → ((n : ℕ) → n < 2 ^ 63 → bs ≡ decimal n → ⊥) → (n : ℤ) → IsTrue (is_i64 n) → bs ≡ signed_decimal n → ⊥
no_minus bs front none (pos k) fits same = none k (ltb-true _ _ fits) same
no_minus bs front none (negsuc k) fits same = front (ap (λ cs. get_or cs 0 0) same)

pub same_bytes : (xs ys : List ℕ) → bytes_eq xs ys ≡ true → xs ≡ ys
same_bytes xs ys h = search (rules, bytes_eq-Decides)

pub equal_bytes : (xs : List ℕ) → bytes_eq xs xs ≡ true
equal_bytes xs = search (rules, bytes_eq-Decides)

pub bytes_agree : (xs ys : List ℕ) → xs ≡ ys → bytes_eq xs ys ≡ true
bytes_agree xs ys h = search (rules, bytes_eq-Decides)

pub same_number : (m n : ℤ) → int_eq m n ≡ true → m ≡ n
same_number m n h = search (rules, Decides-int_eq)

pub is_i64-fits : (n : ℤ) → FitsSigned w64 n → is_i64 n ≡ true
is_i64-fits n h = lt-ltb _ _ h.sfits

pub is_i64-pos : (n : ℕ) → n < 2 ^ 63 → is_i64 (pos n) ≡ true
is_i64-pos n h = lt-ltb n (2 ^ 63) h

-- what a number's own text says
value_of-signed_decimal : (n : ℤ) → is_i64 n ≡ true → value_of (signed_decimal n) ≡ n
value_of-signed_decimal (pos n) fits =
    let small : n < 2 ^ 63 = ltb-true _ _ fits in
    let place = digit_at (decimal n) 0 (decimal_is_IsNumeral n (omega arith)).0.1 (decimal_is_IsNumeral n (omega arith)).0.0 in
    let plain : starts_with_minus (decimal n) ≡ false = ne_eqb (get_or (decimal n) 0 0) 45 (omega arith) in
    rw plain (ap pos (decimal_is_IsNumeral n (omega arith)).1)
value_of-signed_decimal (negsuc n) fits =
    let small : n < 2 ^ 63 = ltb-true _ _ fits in
    ap (λ m. neg_ℤ (pos m)) (decimal_is_IsNumeral (suc n) (omega arith)).1

-- A number's own text reads as that number.
pub number_of-signed_decimal : (n : ℤ) → IsTrue (is_i64 n) → number_of (signed_decimal n) ≡ Some n
unfolding number_of
number_of-signed_decimal n fits = rw (value_of-signed_decimal n fits, fits, equal_bytes (signed_decimal n)) refl

pub number_is : (bs : List ℕ) (n : ℤ) → IsTrue (is_i64 n) → bs ≡ signed_decimal n → number_of bs ≡ Some n
number_is bs n fits e = ap number_of e ∙ number_of-signed_decimal n fits

-- Only the text of a number of 64 bits reads as one.
pub number_text : (bs : List ℕ) (n : ℤ) → number_of bs ≡ Some n → (bs ≡ signed_decimal n) × IsTrue (is_i64 n)
unfolding number_of
number_text bs n h =
    let v = value_of bs in
    elim (is_i64 v && bytes_eq (signed_decimal v) bs) as (λ b. is_i64 v && bytes_eq (signed_decimal v) bs ≡ b → cond b (Some v) None ≡ Some n → (bs ≡ signed_decimal n) × IsTrue (is_i64 n)) [
      | true ↦ λ t e. let same : v ≡ n = cc in (sym (same_bytes _ _ (second _ _ t)) ∙ ap signed_decimal same, subst (λ x. is_i64 x ≡ true) same (first _ _ t))
      | false ↦ λ t e. cc
    ] refl h

-- A text that isn't that of a number of 64 bits reads as none.
pub no_number : (bs : List ℕ) → ((n : ℤ) → IsTrue (is_i64 n) → bs ≡ signed_decimal n → ⊥) → number_of bs ≡ None
unfolding number_of
no_number bs none =
    let v = value_of bs in
    elim (is_i64 v && bytes_eq (signed_decimal v) bs) as (λ b. is_i64 v && bytes_eq (signed_decimal v) bs ≡ b → cond b (Some v) None ≡ None) [
      | true ↦ λ t. absurd (none v (first _ _ t) (sym (same_bytes _ _ (second _ _ t))))
      | false ↦ λ t. refl
    ] refl

-- the same for what a call answered
pub found_below : (ds : List ℕ) (m : ℕ) (r : Option ℤ) → m < 10 ^ 19 → ds ≡ decimal m → SomeIff r ((0 < m) × (m ≤ 2 ^ 63)) (negsuc (m - 1)) → IfNone r ((n : ℤ) → IsTrue (is_i64 n) → 45 ∷ ds ≢ signed_decimal n)
found_below ds m None small e h = other_below ds m small e h
found_below ds m (Some x) small e h = tt

pub below_spelled : (ds : List ℕ) (m : ℕ) (r : Option ℤ) → ds ≡ decimal m → SomeIff r ((0 < m) × (m ≤ 2 ^ 63)) (negsuc (m - 1)) → IfSome r (λ n. IsTrue (is_i64 n) × (45 ∷ ds ≡ signed_decimal n))
below_spelled ds m None e h = tt
below_spelled ds m (Some x) e h =
    let small : m - 1 < 2 ^ 63 = omega (arith, h.0.0, h.0.1) in
    (ap is_i64 h.1 ∙ lt-ltb _ _ small, spelled_below ds m e h.0.0 ∙ ap signed_decimal (sym h.1))

pub found_natural : {E : Type 0} (text : List ℕ) (m : ℕ) (r : Result ℤ E) (o : Option ℤ) → m < 10 ^ 19 → text ≡ decimal m → OkIff r (FitsSigned w64 (pos m)) (pos m) → o ≡ result_ok r → IfNone o ((n : ℕ) → n < 2 ^ 63 → text ≢ decimal n)
found_natural text m (Ok x) (Some y) small e h same = tt
found_natural text m (Ok x) None small e h same = cc
found_natural text m (Err x) (Some y) small e h same = tt
found_natural text m (Err x) None small e h same = λ n n_small is.
    let equal : m ≡ n = decimal_injective m n (omega arith) (omega arith) (sym e ∙ is) in
    h (record { sfits = omega arith })

pub number_found : (bs : List ℕ) (r : Option ℤ) → IfSome r (λ n. IsTrue (is_i64 n) × (bs ≡ signed_decimal n)) → IfNone r ((n : ℤ) → IsTrue (is_i64 n) → bs ≢ signed_decimal n) → r ≡ number_of bs
number_found bs None some none = sym (no_number bs none)
number_found bs (Some n) some none = sym (number_is bs n some.0 some.1)

pub natural_found : (bs : List ℕ) (r : Option ℤ) → get_or bs 0 0 ≢ 45 → IfSome r (λ n. IsTrue (is_i64 n) × (bs ≡ signed_decimal n)) → IfNone r ((n : ℕ) → n < 2 ^ 63 → bs ≢ decimal n) → r ≡ number_of bs
natural_found bs None front some none = sym (no_number bs (no_minus bs front none))
natural_found bs (Some n) front some none = sym (number_is bs n some.0 some.1)

pub begins : (bs : List ℕ) (b : ℕ) → 1 ≤ length bs → get_or bs 0 0 ≡ b → b ∷ take (length bs - 1) (drop 1 bs) ≡ bs
begins [] b some e = absurd (omega arith)
begins (c ∷ bs) b some e = (λ i. sym e i ∷ take_all (suc (length bs) - 1) bs (omega arith) i)

pub past : (bs : List ℕ) → length bs < 1 → get_or bs 0 0 ≢ 45
past [] none e = omega arith
past (b ∷ bs) none e = omega arith
