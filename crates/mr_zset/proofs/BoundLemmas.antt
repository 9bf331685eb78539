-- Texts of bounds: which of them are bounds on a score.
use Rattle.std.proofs.Common.{◌≡◌, ◌≢◌, ℕ, suc, ℤ, pos, negsuc, ◌<◌, ◌≤◌, ◌^◌, List, [], ◌∷◌, ◌++◌, length, get_or, drop, decimal, Bool, true, false, ◌||◌, cond, Option, Some, None, IsTrue, ◌⊎◌, inl, inr, refl, sym, ap, subst, ◌∙◌, arith}
use Rattle.std.specs.Prelude.{◌==◌, ◌↔◌, option_map, replicate}
use Rattle.std.specs.Fmt.{signed_decimal}
use Rattle.std.specs.Str.{bytes_eq, str_to_ascii_lowercase}
use Rattle.std.specs.Char.{to_ascii_lowercase}
use Rattle.std.proofs.lemmas.List.{append-nil}
use Rattle.std.proofs.lemmas.Bool.{eqb-true, ltb-true, ne_eqb}
use Rattle.std.proofs.lemmas.Bool.Decides.{nat_tests}
use Rattle.mr_bytes.proofs.Numbers.{bounds, digit, each_is_digit, equal_bytes, same_bytes}
use Rattle.mr_bytes.specs.Number.{is_i64}
use Rattle.mr_score.specs.Texts.{IsScoreText, score_of}
use Rattle.mr_score.proofs.TextLemmas.{read_spelled, score_fits, spelled_read}
use Rattle.mr_zset.specs.declared.bound.Bound.{Bound}
use Rattle.mr_zset.specs.declared.bound.Bound.TheVariants.{NegativeInfinity, Included, Excluded, PositiveInfinity}
use Rattle.mr_zset.specs.Texts.{bound_of, excluding, in_parenthesis, is_one_of, IsNamed, IsOneOf, limit_of, negative_names, positive_names}

-- The calls' results, as the definitions have them.

pub bound_excluding : (text rest : List ℕ) (o : Option Bound) → 40 ∷ rest ≡ text → o ≡ limit_of rest → option_map excluding o ≡ bound_of text
unfolding bound_of
bound_excluding text rest o same e = ap (option_map excluding) e ∙ ap bound_of same

pub bound_plain : (text : List ℕ) → get_or text 0 0 ≢ 40 → limit_of text ≡ bound_of text
unfolding bound_of
bound_plain text front = sym (ap (λ b. cond b (option_map excluding (limit_of (drop 1 text))) (limit_of text)) (ne_eqb (get_or text 0 0) 40 front))

pub no_byte : (text : List ℕ) → length text < 1 → get_or text 0 0 ≢ 40
no_byte [] none e = omega arith
no_byte (b ∷ bs) none e = omega arith

front_of_append : (xs ys : List ℕ) → 0 < length xs → get_or (xs ++ ys) 0 0 ≡ get_or xs 0 0
front_of_append [] ys some = absurd (omega arith)
front_of_append (x ∷ xs) ys some = refl

abbrev IsDigit : ℕ → Type 0
IsDigit b = (48 ≤ b) × (b ≤ 57)

-- a number begins with a digit, or with a minus and a digit
abbrev BeginsNumber : List ℕ → Type 0
BeginsNumber text = IsDigit (get_or text 0 0) ⊎ ((get_or text 0 0 ≡ 45) × IsDigit (get_or text 1 0))

first_digit : (n : ℕ) (rest : List ℕ) → n < 10 ^ 19 → IsDigit (get_or (decimal n ++ rest) 0 0)
first_digit n rest small =
    let some = (bounds n small).0 in
    let d = digit (get_or (decimal n) 0 0) (each_is_digit n 0 small some) in
    subst IsDigit (sym (front_of_append (decimal n) rest some)) (d.1, d.2)

number_begins : (n : ℤ) (rest : List ℕ) → IsTrue (is_i64 n) → BeginsNumber (signed_decimal n ++ rest)
number_begins (pos n) rest fits = let small : n < 2 ^ 63 = ltb-true _ _ fits in inl (first_digit n rest (omega arith))
number_begins (negsuc n) rest fits = let small : n < 2 ^ 63 = ltb-true _ _ fits in inr (refl, first_digit (suc n) rest (omega arith))

score_begins : (text : List ℕ) (n : ℤ) → IsScoreText text n → BeginsNumber text
score_begins text n h =
    elim h.1 [
      | inl plain ↦ subst BeginsNumber (append-nil (signed_decimal n) ∙ sym plain) (number_begins n [] (score_fits n h.0))
      | inr zeros ↦ subst BeginsNumber (sym zeros.2) (number_begins n (46 ∷ replicate zeros.0 48) (score_fits n h.0))
    ]

no_parenthesis : (text : List ℕ) (n : ℤ) → IsScoreText text n → get_or text 0 0 ≢ 40
no_parenthesis text n h e =
    elim (score_begins text n h) [
      | inl d ↦ omega (arith, d.0)
      | inr m ↦ omega (arith, m.0)
    ]

-- a digit and a minus have no other case

digit_lowered : (b : ℕ) → IsDigit b → to_ascii_lowercase b ≡ b
digit_lowered b d = grind (arith, nat_tests, d.0, d.1)

first_lowered : (text : List ℕ) → get_or (str_to_ascii_lowercase text) 0 0 ≡ to_ascii_lowercase (get_or text 0 0)
first_lowered [] = refl
first_lowered (b ∷ bs) = refl

second_lowered : (text : List ℕ) → get_or (str_to_ascii_lowercase text) 1 0 ≡ to_ascii_lowercase (get_or text 1 0)
second_lowered [] = refl
second_lowered (b ∷ bs) = first_lowered bs

begins_lowered : (text : List ℕ) → BeginsNumber text → BeginsNumber (str_to_ascii_lowercase text)
begins_lowered text (inl d) = inl (subst IsDigit (sym (first_lowered text ∙ digit_lowered (get_or text 0 0) d)) d)
begins_lowered text (inr m) = inr (first_lowered text ∙ ap to_ascii_lowercase m.0, subst IsDigit (sym (second_lowered text ∙ digit_lowered (get_or text 1 0) m.1)) m.1)

-- ---- names

read_name : (names : List (List ℕ)) (word : List ℕ) → is_one_of names word ≡ true → IsOneOf names word
read_name [] word h = cc
read_name (name ∷ names) word h = elim (bytes_eq word name) as (λ b. bytes_eq word name ≡ b → (b || is_one_of names word) ≡ true → IsOneOf (name ∷ names) word) [
  | true ↦ λ t p. inl (same_bytes word name t)
  | false ↦ λ t p. inr (read_name names word p)
] refl h

either_one : (a b : Bool) → b ≡ true → (a || b) ≡ true
either_one true b h = refl
either_one false b h = h

spelled_name : (names : List (List ℕ)) (word : List ℕ) → IsOneOf names word → is_one_of names word ≡ true
spelled_name [] word h = absurd h
spelled_name (name ∷ names) word (inl e) = ap (λ b. b || is_one_of names word) (ap (λ w. bytes_eq w name) e ∙ equal_bytes name)
spelled_name (name ∷ names) word (inr h) = either_one (bytes_eq word name) (is_one_of names word) (spelled_name names word h)

into_parenthesis : (names : List (List ℕ)) (word : List ℕ) → IsOneOf names word → IsOneOf (in_parenthesis names) (40 ∷ word)
into_parenthesis [] word h = absurd h
into_parenthesis (name ∷ names) word (inl e) = inl (ap (λ w. 40 ∷ w) e)
into_parenthesis (name ∷ names) word (inr h) = inr (into_parenthesis names word h)

out_of_parenthesis : (names : List (List ℕ)) (word : List ℕ) → IsOneOf (in_parenthesis names) word → (rest : List ℕ) × (word ≡ 40 ∷ rest) × IsOneOf names rest
out_of_parenthesis [] word h = absurd h
out_of_parenthesis (name ∷ names) word (inl e) = (name, e, inl refl)
out_of_parenthesis (name ∷ names) word (inr h) = let more = out_of_parenthesis names word h in (more.0, more.1, inr more.2)

-- a name begins with a letter, or with a plus or a minus and a letter: no number does, and no `(` is there
data BeginsName (word : List ℕ) : Type 0 where
  letter : get_or word 0 0 ≡ 105 → BeginsName word
  plus : get_or word 0 0 ≡ 43 → BeginsName word
  minus : get_or word 0 0 ≡ 45 → get_or word 1 0 ≡ 105 → BeginsName word

no_number : (word : List ℕ) → BeginsName word → BeginsNumber word → ⊥
no_number word (letter e) (inl d) = omega (arith, e, d.1)
no_number word (letter e) (inr m) = omega (arith, e, m.0)
no_number word (plus e) (inl d) = omega (arith, e, d.0)
no_number word (plus e) (inr m) = omega (arith, e, m.0)
no_number word (minus e f) (inl d) = omega (arith, e, d.0)
no_number word (minus e f) (inr m) = omega (arith, f, m.1.1)

no_front : (word : List ℕ) → BeginsName word → get_or word 0 0 ≢ 40
no_front word (letter e) is = omega (arith, e, is)
no_front word (plus e) is = omega (arith, e, is)
no_front word (minus e f) is = omega (arith, e, is)

positive_begins : (word : List ℕ) → IsOneOf positive_names word → BeginsName word
positive_begins word (inl e) = letter (ap (λ w. get_or w 0 0) e)
positive_begins word (inr (inl e)) = plus (ap (λ w. get_or w 0 0) e)
positive_begins word (inr (inr (inl e))) = letter (ap (λ w. get_or w 0 0) e)
positive_begins word (inr (inr (inr (inl e)))) = plus (ap (λ w. get_or w 0 0) e)
positive_begins word (inr (inr (inr (inr none)))) = absurd none

negative_begins : (word : List ℕ) → IsOneOf negative_names word → BeginsName word
negative_begins word (inl e) = minus (ap (λ w. get_or w 0 0) e) (ap (λ w. get_or w 1 0) e)
negative_begins word (inr (inl e)) = minus (ap (λ w. get_or w 0 0) e) (ap (λ w. get_or w 1 0) e)
negative_begins word (inr (inr none)) = absurd none

-- no name of the one infinity is one of the other
not_positive : (word : List ℕ) → IsOneOf negative_names word → is_one_of positive_names word ≡ false
not_positive word (inl e) = ap (is_one_of positive_names) e
not_positive word (inr (inl e)) = ap (is_one_of positive_names) e
not_positive word (inr (inr none)) = absurd none

no_name : (names : List (List ℕ)) (text : List ℕ) (n : ℤ) → ((word : List ℕ) → IsOneOf names word → BeginsName word) → score_of text ≡ Some n → is_one_of names (str_to_ascii_lowercase text) ≡ false
no_name names text n begins some = elim (is_one_of names (str_to_ascii_lowercase text)) as (λ b. is_one_of names (str_to_ascii_lowercase text) ≡ b → b ≡ false) [
  | true ↦ λ e. absurd (no_number (str_to_ascii_lowercase text) (begins (str_to_ascii_lowercase text) (read_name names (str_to_ascii_lowercase text) e)) (begins_lowered text (score_begins text n (read_spelled text n some))))
  | false ↦ λ e. refl
] refl

-- the limit, by which names the text is
abbrev by_names : Bool → Bool → List ℕ → Option Bound
by_names up down text = cond up (Some PositiveInfinity) (cond down (Some NegativeInfinity) (option_map Included (score_of text)))

limit_is : (text : List ℕ) (up down : Bool) → is_one_of positive_names (str_to_ascii_lowercase text) ≡ up → is_one_of negative_names (str_to_ascii_lowercase text) ≡ down → limit_of text ≡ by_names up down text
unfolding limit_of
limit_is text up down u d = ap (λ b. by_names b (is_one_of negative_names (str_to_ascii_lowercase text)) text) u ∙ ap (λ b. by_names up b text) d

score_limit : (text : List ℕ) (n : ℤ) → score_of text ≡ Some n → limit_of text ≡ Some (Included n)
score_limit text n h =
    limit_is text false false (no_name positive_names text n positive_begins h) (no_name negative_names text n negative_begins h) ∙ ap (option_map Included) h

-- what a limit says of the text

scored : (o : Option ℤ) (b : Bound) (n : ℤ) → excluding b ≡ Excluded n → option_map Included o ≡ Some b → o ≡ Some n
scored None b n e p = cc
scored (Some m) b n e p =
    let same : Included m ≡ b = cc in
    let out : Excluded m ≡ Excluded n = ap excluding same ∙ e in
    let equal : m ≡ n = cc in
    ap (λ k. Some k) equal

-- what a limit is, by the tests that it passes
by_tests : (text : List ℕ) (P : Option Bound → Type 0)
    → (IsOneOf positive_names (str_to_ascii_lowercase text) → P (Some PositiveInfinity)) → (IsOneOf negative_names (str_to_ascii_lowercase text) → P (Some NegativeInfinity)) → P (option_map Included (score_of text)) → P (limit_of text)
by_tests text P up down other = go (is_one_of positive_names (str_to_ascii_lowercase text)) (is_one_of negative_names (str_to_ascii_lowercase text)) refl refl
  where
    go : (t u : Bool) → is_one_of positive_names (str_to_ascii_lowercase text) ≡ t → is_one_of negative_names (str_to_ascii_lowercase text) ≡ u → P (limit_of text)
    go true u e f = subst P (sym (limit_is text true u e f)) (up (read_name positive_names (str_to_ascii_lowercase text) e))
    go false true e f = subst P (sym (limit_is text false true e f)) (down (read_name negative_names (str_to_ascii_lowercase text) f))
    go false false e f = subst P (sym (limit_is text false false e f)) other

limit_score : (text : List ℕ) (b : Bound) (n : ℤ) → excluding b ≡ Excluded n → limit_of text ≡ Some b → score_of text ≡ Some n
limit_score text b n e h = by_tests text (λ o. o ≡ Some b → score_of text ≡ Some n)
    (λ is p. (let same : PositiveInfinity ≡ b = cc in let other : PositiveInfinity ≡ Excluded n = ap excluding same ∙ e in cc))
    (λ is p. (let same : NegativeInfinity ≡ b = cc in let other : NegativeInfinity ≡ Excluded n = ap excluding same ∙ e in cc))
    (λ p. scored (score_of text) b n e p)
    h

included_alone : (o : Option ℤ) (n : ℤ) → option_map Included o ≡ Some (Excluded n) → ⊥
included_alone None n p = cc
included_alone (Some m) n p = cc

not_excluded : (text : List ℕ) (n : ℤ) → limit_of text ≡ Some (Excluded n) → ⊥
not_excluded text n h = by_tests text (λ o. o ≡ Some (Excluded n) → ⊥) (λ is p. cc) (λ is p. cc) (λ p. included_alone (score_of text) n p) h

never_included : (o : Option Bound) (n : ℤ) → option_map excluding o ≡ Some (Included n) → ⊥
never_included None n p = cc
never_included (Some NegativeInfinity) n p = cc
never_included (Some (Included m)) n p = cc
never_included (Some (Excluded m)) n p = cc
never_included (Some PositiveInfinity) n p = cc

some_limit : (o : Option Bound) (n : ℤ) → option_map excluding o ≡ Some (Excluded n) → (b : Bound) × (o ≡ Some b) × (excluding b ≡ Excluded n)
some_limit None n p = cc
some_limit (Some b) n p = (b, refl, cc)

parenthesis : (text : List ℕ) → get_or text 0 0 ≡ 40 → text ≡ 40 ∷ drop 1 text
parenthesis [] e = absurd (omega arith)
parenthesis (c ∷ cs) e = ap (λ b. b ∷ cs) e

read_included : (text : List ℕ) (n : ℤ) → bound_of text ≡ Some (Included n) → IsScoreText text n
unfolding bound_of
read_included text n h = elim (get_or text 0 0 == 40) as (λ t. cond t (option_map excluding (limit_of (drop 1 text))) (limit_of text) ≡ Some (Included n) → IsScoreText text n) [
  | true ↦ λ p. absurd (never_included (limit_of (drop 1 text)) n p)
  | false ↦ λ p. read_spelled text n (limit_score text (Included n) n refl p)
] h

read_excluded : (text : List ℕ) (n : ℤ) → bound_of text ≡ Some (Excluded n) → (rest : List ℕ) × (text ≡ 40 ∷ rest) × IsScoreText rest n
unfolding bound_of
read_excluded text n h = elim (get_or text 0 0 == 40) as (λ t. (get_or text 0 0 == 40) ≡ t → cond t (option_map excluding (limit_of (drop 1 text))) (limit_of text) ≡ Some (Excluded n) → (rest : List ℕ) × (text ≡ 40 ∷ rest) × IsScoreText rest n) [
  | true ↦ λ t p. (let found = some_limit (limit_of (drop 1 text)) n p in (drop 1 text, parenthesis text (eqb-true _ _ t), read_spelled (drop 1 text) n (limit_score (drop 1 text) found.0 n found.2 found.1)))
  | false ↦ λ t p. absurd (not_excluded text n p)
] refl h

spelled_included : (text : List ℕ) (n : ℤ) → IsScoreText text n → bound_of text ≡ Some (Included n)
spelled_included text n h = sym (bound_plain text (no_parenthesis text n h)) ∙ score_limit text n (spelled_read text n h)

spelled_excluded : (text : List ℕ) (n : ℤ) → (rest : List ℕ) × (text ≡ 40 ∷ rest) × IsScoreText rest n → bound_of text ≡ Some (Excluded n)
spelled_excluded text n h = sym (bound_excluding text h.0 (Some (Included n)) (sym h.1) (sym (score_limit h.0 n (spelled_read h.0 n h.2))))

pub included_texts : (text : List ℕ) (n : ℤ) → (bound_of text ≡ Some (Included n)) ↔ IsScoreText text n
included_texts text n = (read_included text n, spelled_included text n)

pub excluded_texts : (text : List ℕ) (n : ℤ) → (bound_of text ≡ Some (Excluded n)) ↔ ((rest : List ℕ) × (text ≡ 40 ∷ rest) × IsScoreText rest n)
excluded_texts text n = (read_excluded text n, spelled_excluded text n)

-- which texts are infinite bounds

never_infinite : (o : Option ℤ) (b : Bound) → excluding b ≡ b → option_map Included o ≡ Some b → ⊥
never_infinite None b e p = cc
never_infinite (Some n) b e p =
    let same : Included n ≡ b = cc in
    let out : Excluded n ≡ Included n = ap excluding same ∙ e ∙ sym same in
    cc

limit_positive : (text : List ℕ) → limit_of text ≡ Some PositiveInfinity → IsOneOf positive_names (str_to_ascii_lowercase text)
limit_positive text h = by_tests text (λ o. o ≡ Some PositiveInfinity → IsOneOf positive_names (str_to_ascii_lowercase text))
    (λ is p. is) (λ is p. cc) (λ p. absurd (never_infinite (score_of text) PositiveInfinity refl p)) h

limit_negative : (text : List ℕ) → limit_of text ≡ Some NegativeInfinity → IsOneOf negative_names (str_to_ascii_lowercase text)
limit_negative text h = by_tests text (λ o. o ≡ Some NegativeInfinity → IsOneOf negative_names (str_to_ascii_lowercase text))
    (λ is p. cc) (λ is p. is) (λ p. absurd (never_infinite (score_of text) NegativeInfinity refl p)) h

excluded_positive : (o : Option Bound) → option_map excluding o ≡ Some PositiveInfinity → o ≡ Some PositiveInfinity
excluded_positive None p = cc
excluded_positive (Some NegativeInfinity) p = cc
excluded_positive (Some (Included n)) p = cc
excluded_positive (Some (Excluded n)) p = cc
excluded_positive (Some PositiveInfinity) p = refl

excluded_negative : (o : Option Bound) → option_map excluding o ≡ Some NegativeInfinity → o ≡ Some NegativeInfinity
excluded_negative None p = cc
excluded_negative (Some NegativeInfinity) p = refl
excluded_negative (Some (Included n)) p = cc
excluded_negative (Some (Excluded n)) p = cc
excluded_negative (Some PositiveInfinity) p = cc

-- a name behind a parenthesis
behind_front : (names : List (List ℕ)) (text : List ℕ) → get_or text 0 0 ≡ 40 → IsOneOf names (str_to_ascii_lowercase (drop 1 text)) → IsOneOf (in_parenthesis names) (str_to_ascii_lowercase text)
behind_front names text at h =
    subst (IsOneOf (in_parenthesis names)) (sym (ap str_to_ascii_lowercase (parenthesis text at))) (into_parenthesis names (str_to_ascii_lowercase (drop 1 text)) h)

read_positive : (text : List ℕ) → bound_of text ≡ Some PositiveInfinity → IsNamed positive_names text
unfolding bound_of
read_positive text h = elim (get_or text 0 0 == 40) as (λ t. (get_or text 0 0 == 40) ≡ t → cond t (option_map excluding (limit_of (drop 1 text))) (limit_of text) ≡ Some PositiveInfinity → IsNamed positive_names text) [
  | true ↦ λ t p. inr (behind_front positive_names text (eqb-true _ _ t) (limit_positive (drop 1 text) (excluded_positive (limit_of (drop 1 text)) p)))
  | false ↦ λ t p. inl (limit_positive text p)
] refl h

read_negative : (text : List ℕ) → bound_of text ≡ Some NegativeInfinity → IsNamed negative_names text
unfolding bound_of
read_negative text h = elim (get_or text 0 0 == 40) as (λ t. (get_or text 0 0 == 40) ≡ t → cond t (option_map excluding (limit_of (drop 1 text))) (limit_of text) ≡ Some NegativeInfinity → IsNamed negative_names text) [
  | true ↦ λ t p. inr (behind_front negative_names text (eqb-true _ _ t) (limit_negative (drop 1 text) (excluded_negative (limit_of (drop 1 text)) p)))
  | false ↦ λ t p. inl (limit_negative text p)
] refl h

-- a text that in lower case is an infinity's name is that bound

parenthesis_lowered : (b : ℕ) → to_ascii_lowercase b ≡ 40 → b ≡ 40
parenthesis_lowered b e = grind (arith, nat_tests, e)

unlowered : (text name : List ℕ) → str_to_ascii_lowercase text ≡ 40 ∷ name → (rest : List ℕ) × (text ≡ 40 ∷ rest) × (str_to_ascii_lowercase rest ≡ name)
unlowered [] name e = cc
unlowered (b ∷ bs) name e =
    let first : to_ascii_lowercase b ≡ 40 = cc in
    let rest : str_to_ascii_lowercase bs ≡ name = cc in
    (bs, ap (λ c. c ∷ bs) (parenthesis_lowered b first), rest)

positive_limit : (text : List ℕ) → IsOneOf positive_names (str_to_ascii_lowercase text) → limit_of text ≡ Some PositiveInfinity
positive_limit text h = limit_is text true _ (spelled_name positive_names (str_to_ascii_lowercase text) h) refl

negative_limit : (text : List ℕ) → IsOneOf negative_names (str_to_ascii_lowercase text) → limit_of text ≡ Some NegativeInfinity
negative_limit text h = limit_is text false true (not_positive (str_to_ascii_lowercase text) h) (spelled_name negative_names (str_to_ascii_lowercase text) h)

-- a bound that a `(` before it doesn't change
plainly : (text : List ℕ) (b : Bound) → BeginsName (str_to_ascii_lowercase text) → limit_of text ≡ Some b → bound_of text ≡ Some b
plainly text b begins limit =
    let other : get_or text 0 0 ≢ 40 = λ at. no_front (str_to_ascii_lowercase text) begins (first_lowered text ∙ ap to_ascii_lowercase at) in
    sym (bound_plain text other) ∙ limit

behind_parenthesis : (names : List (List ℕ)) (text : List ℕ) (b : Bound) → excluding b ≡ b → IsOneOf (in_parenthesis names) (str_to_ascii_lowercase text)
    → ((rest : List ℕ) → IsOneOf names (str_to_ascii_lowercase rest) → limit_of rest ≡ Some b) → bound_of text ≡ Some b
behind_parenthesis names text b same h limit =
    let name = out_of_parenthesis names (str_to_ascii_lowercase text) h in
    let found = unlowered text name.0 name.1 in
    sym (bound_excluding text found.0 (Some b) (sym found.1) (sym (limit found.0 (subst (IsOneOf names) (sym found.2) name.2)))) ∙ ap (λ x. Some x) same

spelled_positive : (text : List ℕ) → IsNamed positive_names text → bound_of text ≡ Some PositiveInfinity
spelled_positive text (inl h) = plainly text PositiveInfinity (positive_begins (str_to_ascii_lowercase text) h) (positive_limit text h)
spelled_positive text (inr h) = behind_parenthesis positive_names text PositiveInfinity refl h positive_limit

spelled_negative : (text : List ℕ) → IsNamed negative_names text → bound_of text ≡ Some NegativeInfinity
spelled_negative text (inl h) = plainly text NegativeInfinity (negative_begins (str_to_ascii_lowercase text) h) (negative_limit text h)
spelled_negative text (inr h) = behind_parenthesis negative_names text NegativeInfinity refl h negative_limit

pub positive_texts : (text : List ℕ) → (bound_of text ≡ Some PositiveInfinity) ↔ IsNamed positive_names text
positive_texts text = (read_positive text, spelled_positive text)

pub negative_texts : (text : List ℕ) → (bound_of text ≡ Some NegativeInfinity) ↔ IsNamed negative_names text
negative_texts text = (read_negative text, spelled_negative text)
