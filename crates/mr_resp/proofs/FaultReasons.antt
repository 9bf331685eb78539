-- Why a byte has its fault.
use Rattle.std.proofs.Common.{◌≡◌, ℕ, ◌+◌, ◌-◌, ◌*◌, ◌<◌, ◌≤◌, ◌^◌, inl, inr, List, [], ◌∷◌, ◌++◌, length, replicate, lit<, refl, sym, ap, ◌∙◌, subst, append_assoc, arith}
use Rattle.std.specs.Fmt.{decimal}
use Rattle.std.specs.List.{flat_map}
use Rattle.std.proofs.lemmas.Bool.{cases_lt}
use Rattle.std.proofs.lemmas.Fmt.{decimal_digit}
use Rattle.std.proofs.lemmas.List.{append-nil, length-append, length-replicate, nil_from_length}
use Rattle.std.proofs.lemmas.List.Elements.{All-nil, All-cons, All-head, All-tail}
use Rattle.mr_inline.specs.Language.{Continues, IsDoomed, Fails}
use Rattle.mr_inline.specs.Line.{IsLineText}
use Rattle.mr_inline.specs.declared.place.Place.TheVariants.{Between}
use Rattle.mr_inline.proofs.FaultReasons.{all_front, unbalanced_behind}
use Rattle.mr_inline.proofs.LinesByRuns.{split, continues}
use Rattle.mr_resp.specs.Array.{IsArray, IsArrayText, IsStrict, IsNumber, IsCountLine, IsBulk, IsInWord, IsWordFault, IsCountFault}
use Rattle.mr_resp.specs.Reasons.{IsSomeCount, CountsTooMany, LacksMark, word_takes, IsTooLong, BreaksWord, IsReason}
use Rattle.mr_inline.specs.Limits.{line_limit}
use Rattle.mr_resp.specs.Request.{IsText, IsInArray, HasInlineFault, HasFault}
use Rattle.mr_resp.specs.Spelling.{line_end, number_line, bulk, array, minus_one}
use Rattle.mr_resp.specs.declared.fault.Fault.{Fault}
use Rattle.mr_resp.specs.declared.fault.Fault.TheVariants.{MultibulkLength, BulkLength, ExpectedDollar, UnbalancedQuotes, TooBigInline, WordTooBig, TooManyWords}
use Rattle.mr_resp.specs.declared.limits.Limits.{Limits}
use Rattle.mr_resp.proofs.Digits.{AreDigits, IsDigitByte, value_after, value_after-push, value_after-append, value_after-le, is_of, front_le, front_of_digits, no_digit_13, decimal_digits}
use Rattle.mr_resp.proofs.Forms.{star_on, array_star, array_text, line_text, line_no_star, form_of}
use Rattle.mr_resp.proofs.LimitsLemmas.{length-empties}
use Rattle.mr_resp.proofs.Lines.{decimal_0, strict_decimal, decimal_more}
use Rattle.mr_resp.proofs.OneFault.{opened, no_whole_word}
use Rattle.mr_resp.proofs.Requests.{next_word, line_head, array_parts, decimal_longer, six_each, completes, counted_text, few}
use Rattle.mr_resp.proofs.Words.{length-bulk, line_unique, bulk_parts}

-- Strict digits are a number's.
spelled_after : (v : ℕ) (ds : List ℕ) → 0 < v → AreDigits ds → value_after v ds < 2 ^ 68 → decimal (value_after v ds) ≡ decimal v ++ ds
spelled_after v [] pos h small = sym (append-nil (decimal v))
spelled_after v (d ∷ ds) pos h small =
    let digit = All-head (λ d. (48 ≤ d) × (d ≤ 57)) d ds h in
    let next : ℕ = 10 * v + (d - 48) in
    let swap : v * 10 + (d - 48) ≡ next = omega arith in
    let le = value_after-le next ds in
    let fits : value_after next ds < 2 ^ 68 = small in
    let one : decimal next ≡ decimal v ++ d ∷ [] = ap decimal (sym swap) ∙ decimal_more v d pos (omega (arith, le, fits)) digit in
    spelled_after next ds (omega (arith, pos)) (All-tail (λ d. (48 ≤ d) × (d ≤ 57)) d ds h) fits ∙ ap (λ (x : List ℕ). x ++ ds) one ∙ append_assoc (decimal v) (d ∷ []) ds

strict_spelled : (ds : List ℕ) → IsStrict ds → value_after 0 ds < 2 ^ 68 → decimal (value_after 0 ds) ≡ ds
strict_spelled [] s small = absurd (omega (arith, s.some))
strict_spelled (d ∷ ds) s small =
    let digit = All-head (λ d. (48 ≤ d) × (d ≤ 57)) d ds s.each in
    elim (cases_lt 48 d) [
      | inl lt ↦
          let start : 10 * 0 + (d - 48) ≡ d - 48 = omega arith in
          let one : decimal (d - 48) ≡ d ∷ [] = decimal_digit (d - 48) (omega (arith, digit.1)) ∙ ap (λ (x : ℕ). x ∷ []) (omega (arith, digit.0)) in
          let fits : value_after (d - 48) ds < 2 ^ 68 = subst (λ (n : ℕ). value_after n ds < 2 ^ 68) start small in
          ap (λ (n : ℕ). decimal (value_after n ds)) start ∙ spelled_after (d - 48) ds (omega arith) (All-tail (λ d. (48 ≤ d) × (d ≤ 57)) d ds s.each) fits ∙ ap (λ (x : List ℕ). x ++ ds) one
      | inr ge ↦
          let is : d ≡ 48 = omega (arith, digit.0, ge) in
          let none : ds ≡ [] = nil_from_length ds (omega (arith, s.no_zero is)) in
          let start : 10 * 0 + (d - 48) ≡ 0 = omega arith in
          ap (λ (n : ℕ). decimal (value_after n ds)) start ∙ ap (λ (x : List ℕ). decimal (value_after 0 x)) none ∙ decimal_0 ∙ ap (λ (n : ℕ). n ∷ []) (sym is) ∙ ap (λ (x : List ℕ). d ∷ x) (sym none)
    ]

-- A digit behind a beginning of a number leaves it small.
digits_small : (m : ℕ) (ds z : List ℕ) (b : ℕ) → m < 2 ^ 64 → decimal m ≡ ds ++ z → b ≤ 57 → value_after 0 (ds ++ b ∷ []) < 2 ^ 68
digits_small m ds z b small e digit =
    let front : value_after 0 (decimal m) ≡ value_after (value_after 0 ds) z = ap (value_after 0) e ∙ value_after-append 0 ds z in
    omega (arith, value_after-push 0 ds b, front, value_after-le (value_after 0 ds) z, (is_of m (omega arith)).value, small, digit)

strict_front : (ds zs : List ℕ) → 0 < length ds → IsStrict (ds ++ zs) → IsStrict ds
strict_front [] zs some s = absurd (omega (arith, some))
strict_front (d ∷ ds) zs some s = record { some = some; each = all_front (λ d. (48 ≤ d) × (d ≤ 57)) (d ∷ ds) zs s.each; no_zero = λ h. omega (arith, s.no_zero h, length-append ds zs) }

-- a beginning of a number and its next byte are a number
begins_strict : (n b : ℕ) (ds z : List ℕ) → n < 2 ^ 64 → decimal n ≡ ds ++ b ∷ z → IsStrict (ds ++ b ∷ [])
begins_strict n b ds z small e =
    let whole : decimal n ≡ (ds ++ b ∷ []) ++ z = e ∙ sym (append_assoc ds (b ∷ []) z) in
    strict_front (ds ++ b ∷ []) z (omega (arith, length-append ds (b ∷ []))) (subst IsStrict whole (strict_decimal n (omega (arith, small))))

-- Behind a beginning of a number's line stands a byte that isn't one of its digits: then all of its digits are there, and whatever number's line goes on from there is of no less.
no_less : (ds x y : List ℕ) (b n m : ℕ) → n < 2 ^ 64 → m < 2 ^ 64 → (IsStrict (ds ++ b ∷ []) → ⊥) → ds ++ b ∷ x ≡ decimal n ++ 13 ∷ y → (more rest : List ℕ) → ds ++ more ≡ decimal m ++ 13 ∷ rest → n ≤ m
no_less ds x y b n m n_small m_small unstrict e more rest k = elim (split ds (b ∷ x) (decimal n) (13 ∷ y) e) [
  | inl p ↦ all_digits p.0 p.1 p.2
  | inr p ↦ behind p.0 p.1
]
  where
    behind : (z : List ℕ) → ds ≡ decimal n ++ z → n ≤ m
    behind z is =
        let both : decimal n ++ (z ++ more) ≡ decimal m ++ 13 ∷ rest = sym (append_assoc (decimal n) z more) ∙ ap (λ (x : List ℕ). x ++ more) (sym is) ∙ k in
        let front = front_of_digits (decimal n) (decimal m) (z ++ more) rest 13 (decimal_digits n (omega (arith, n_small))) no_digit_13 both in
        front_le n m front.0 (omega (arith, n_small)) (omega (arith, m_small)) front.1

    all_digits : (z : List ℕ) → decimal n ≡ ds ++ z → b ∷ x ≡ z ++ 13 ∷ y → n ≤ m
    all_digits [] is tail = behind [] (sym (is ∙ append-nil ds) ∙ sym (append-nil (decimal n)))
    all_digits (c ∷ z) is tail =
        let same : c ≡ b = cc in
        absurd (unstrict (begins_strict n b ds z n_small (is ∙ ap (λ (k : ℕ). ds ++ k ∷ z) same)))

-- What goes on from a word's length and isn't one more of its digits leaves the word no longer than another that goes on from there.
word_no_less : (part : List ℕ) (byte : ℕ) (word z other more rest : List ℕ) → length word < 2 ^ 64 → length other < 2 ^ 64 → 0 < length part → (IsNumber 36 (part ++ byte ∷ []) → ⊥) → bulk word ≡ part ++ byte ∷ z → part ++ more ≡ bulk other ++ rest → length word ≤ length other
word_no_less [] byte word z other more rest small other_small some unstrict e k = absurd (omega (arith, some))
word_no_less (mark ∷ ds) byte word z other more rest small other_small some unstrict e k =
    let begins : 36 ∷ (number_line (length word) ++ (word ++ line_end)) ≡ mark ∷ (ds ++ byte ∷ z) = e in
    let first : mark ≡ 36 = cc begins in
    let inner : ds ++ byte ∷ z ≡ number_line (length word) ++ (word ++ line_end) = cc begins in
    let both : mark ∷ (ds ++ more) ≡ 36 ∷ (number_line (length other) ++ (other ++ (line_end ++ rest))) = k ∙ bulk_parts other rest in
    let later : ds ++ more ≡ number_line (length other) ++ (other ++ (line_end ++ rest)) = cc both in
    let strict : IsStrict (ds ++ byte ∷ []) → ⊥ = λ s. unstrict (ds ++ byte ∷ [], ap (λ (x : ℕ). x ∷ (ds ++ byte ∷ [])) first, s) in
    no_less ds z (10 ∷ (word ++ line_end)) byte (length word) (length other) small other_small strict (inner ∙ append_assoc (decimal (length word)) line_end (word ++ line_end)) more (10 ∷ (other ++ (line_end ++ rest)))
    (later ∙ append_assoc (decimal (length other)) line_end (other ++ (line_end ++ rest)))

last_digit : (ds : List ℕ) (byte : ℕ) → AreDigits (ds ++ byte ∷ []) → byte ≤ 57
last_digit [] byte all = (All-head (λ d. (48 ≤ d) × (d ≤ 57)) byte [] all).1
last_digit (d ∷ ds) byte all = last_digit ds byte (All-tail (λ d. (48 ≤ d) × (d ≤ 57)) d (ds ++ byte ∷ []) all)

one_digit : (byte : ℕ) → IsDigitByte byte → AreDigits (byte ∷ [])
one_digit byte h = All-cons (λ d. (48 ≤ d) × (d ≤ 57)) byte [] h (All-nil (λ d. (48 ≤ d) × (d ≤ 57)))

module _ (limits : Limits) where
  -- the count
  count_small : (mark : ℕ) (ds : List ℕ) (byte : ℕ) → Continues (IsCountLine limits) (mark ∷ ds) → AreDigits (ds ++ byte ∷ []) → value_after 0 (ds ++ byte ∷ []) < 2 ^ 68
  count_small mark [] byte h all = omega (arith, (All-head (λ d. (48 ≤ d) × (d ≤ 57)) byte [] all).1)
  count_small mark (d ∷ ds) byte h all = elim h.whole [
    | inl n ↦
        let whole : mark ∷ (d ∷ (ds ++ h.more)) ≡ 42 ∷ number_line n.0 = n.2 in
        let tails : d ∷ (ds ++ h.more) ≡ number_line n.0 = cc whole in
        let front = front_of_digits (d ∷ ds) (decimal n.0) h.more (10 ∷ []) 13 (all_front (λ d. (48 ≤ d) × (d ≤ 57)) (d ∷ ds) (byte ∷ []) all) no_digit_13 tails in
        digits_small n.0 (d ∷ ds) front.0 byte (few limits n.0 n.1) front.1 (last_digit (d ∷ ds) byte all)
    | inr minus ↦ (let whole : mark ∷ (d ∷ (ds ++ h.more)) ≡ 42 ∷ (45 ∷ (49 ∷ (13 ∷ (10 ∷ [])))) = minus in let head : d ≡ 45 = cc whole in absurd (omega (arith, (All-head (λ d. (48 ≤ d) × (d ≤ 57)) d (ds ++ byte ∷ []) all).0, head)))
  ]

  too_many : (front : List ℕ) (byte : ℕ) → Continues (IsCountLine limits) front → IsDoomed (IsArrayText limits) (front ++ byte ∷ []) → IsNumber 42 (front ++ byte ∷ []) → CountsTooMany limits front byte
  too_many [] byte h d n = (let none : [] ≡ n.0 = cc (n.1) in absurd (omega (arith, ap length none, n.2.some)))
  too_many (mark ∷ ds) byte h d n =
      let is : ds ++ byte ∷ [] ≡ n.0 = cc (n.1) in
      let strict : IsStrict (ds ++ byte ∷ []) = subst IsStrict (sym is) n.2 in
      let v : ℕ = value_after 0 (ds ++ byte ∷ []) in
      let spelled : decimal v ≡ ds ++ byte ∷ [] = strict_spelled (ds ++ byte ∷ []) strict (count_small mark ds byte h strict.each) in
      let whole : (mark ∷ ds) ++ byte ∷ [] ≡ 42 ∷ decimal v = n.1 ∙ ap (λ (x : List ℕ). 42 ∷ x) (sym is ∙ sym spelled) in
      elim (cases_lt limits.words v) [
        | inl past ↦ record { count = v; is = whole; past = past }
        | inr le ↦
            let empties : List ℕ = flat_map bulk (replicate v []) in
            absurd (d.never (line_end ++ empties) (42 ∷ number_line v ++ empties) [] (counted_text limits v le)
            (ap (λ (x : List ℕ). x ++ (line_end ++ empties)) whole ∙ ap (λ (x : List ℕ). 42 ∷ x) (sym (append_assoc (decimal v) line_end empties)) ∙ sym (append-nil (42 ∷ number_line v ++ empties))))
      ]

  -- a whole line of a count isn't begun
  no_whole_count : (front z : List ℕ) (n : ℕ) → n < 2 ^ 64 → front ≡ 42 ∷ number_line n ++ z → Continues (IsCountLine limits) front → ⊥
  no_whole_count front z n small e h =
      let is : front ++ h.more ≡ 42 ∷ (number_line n ++ (z ++ h.more)) = ap (λ (x : List ℕ). x ++ h.more) e ∙ ap (λ (x : List ℕ). 42 ∷ x) (append_assoc (number_line n) z h.more) in
      elim h.whole [
        | inl m ↦
            let both : 42 ∷ (number_line n ++ (z ++ h.more)) ≡ 42 ∷ (number_line m.0 ++ []) = sym is ∙ m.2 ∙ ap (λ (x : List ℕ). 42 ∷ x) (sym (append-nil (number_line m.0))) in
            let inner : number_line n ++ (z ++ h.more) ≡ number_line m.0 ++ [] = cc both in
            let none = (line_unique n m.0 (z ++ h.more) [] small (few limits m.0 m.1) inner).1 in
            omega (arith, ap length none, length-append z h.more, h.some)
        | inr minus ↦
            let both : 42 ∷ (number_line n ++ (z ++ h.more)) ≡ 42 ∷ (45 ∷ (49 ∷ (13 ∷ (10 ∷ [])))) = sym is ∙ minus in
            let inner : number_line n ++ (z ++ h.more) ≡ 45 ∷ (49 ∷ (13 ∷ (10 ∷ []))) = cc both in
            omega (arith, (line_head n 45 (z ++ h.more) (49 ∷ (13 ∷ (10 ∷ []))) small inner).0)
      ]

  no_whole_minus : (front z : List ℕ) → front ≡ minus_one ++ z → Continues (IsCountLine limits) front → ⊥
  no_whole_minus front z e h =
      let is : front ++ h.more ≡ 42 ∷ (45 ∷ (49 ∷ (13 ∷ (10 ∷ (z ++ h.more))))) = ap (λ (x : List ℕ). x ++ h.more) e in
      elim h.whole [
        | inl m ↦
            let both : 42 ∷ (number_line m.0 ++ []) ≡ 42 ∷ (45 ∷ (49 ∷ (13 ∷ (10 ∷ (z ++ h.more))))) = ap (λ (x : List ℕ). 42 ∷ x) (append-nil (number_line m.0)) ∙ sym m.2 ∙ is in
            let inner : number_line m.0 ++ [] ≡ 45 ∷ (49 ∷ (13 ∷ (10 ∷ (z ++ h.more)))) = cc both in
            omega (arith, (line_head m.0 45 [] (49 ∷ (13 ∷ (10 ∷ (z ++ h.more)))) (few limits m.0 m.1) inner).0)
        | inr minus ↦ omega (arith, ap length is, ap length minus, length-append z h.more, h.some)
      ]

  -- A count of any size that goes on with the byte is within the limit, so that the byte wouldn't be doomed.
  count_goes_on : (front : List ℕ) (byte : ℕ) (z : List ℕ) (n : ℕ) → n < 2 ^ 64 → Continues (IsCountLine limits) front → IsDoomed (IsArrayText limits) (front ++ byte ∷ []) → (IsNumber 42 (front ++ byte ∷ []) → ⊥) → 42 ∷ number_line n ≡ front ++ byte ∷ z → ⊥
  count_goes_on [] byte z n small h d unstrict e =
      let whole : 42 ∷ number_line n ≡ byte ∷ z = e in
      let is : byte ≡ 42 = cc whole in
      d.never (45 ∷ 49 ∷ line_end) minus_one [] (inr (inr refl)) (ap (λ (x : ℕ). x ∷ 45 ∷ 49 ∷ line_end) is)
  count_goes_on (mark ∷ ds) byte z n small h d unstrict e =
      let whole : 42 ∷ number_line n ≡ mark ∷ (ds ++ byte ∷ z) = e in
      let first : mark ≡ 42 = cc whole in
      let inner : ds ++ byte ∷ z ≡ number_line n = cc whole in
      let strict : IsStrict (ds ++ byte ∷ []) → ⊥ = λ s. unstrict (ds ++ byte ∷ [], ap (λ (x : ℕ). x ∷ (ds ++ byte ∷ [])) first, s) in
      let le : n ≤ limits.words = elim h.whole [
        | inl m ↦ (let line : mark ∷ (ds ++ h.more) ≡ 42 ∷ number_line m.0 = m.2 in let tails : ds ++ h.more ≡ number_line m.0 = cc line in omega (arith, m.1, no_less ds z (10 ∷ []) byte n m.0 small (few limits m.0 m.1) strict inner h.more (10 ∷ []) tails))
        | inr minus ↦ absurd (no_minus ds byte z n h.more small inner (let line : mark ∷ (ds ++ h.more) ≡ 42 ∷ (45 ∷ (49 ∷ (13 ∷ (10 ∷ [])))) = minus in let tails : ds ++ h.more ≡ 45 ∷ (49 ∷ (13 ∷ (10 ∷ []))) = cc line in tails) strict)
      ] in
      let empties : List ℕ = flat_map bulk (replicate n []) in
      d.never (z ++ empties) (42 ∷ number_line n ++ empties) [] (counted_text limits n le)
      (append_assoc (mark ∷ ds) (byte ∷ []) (z ++ empties) ∙ sym (append_assoc (mark ∷ ds) (byte ∷ z) empties) ∙ ap (λ (x : List ℕ). x ++ empties) (sym e) ∙ sym (append-nil (42 ∷ number_line n ++ empties)))
    where
      no_minus : (ds : List ℕ) (byte : ℕ) (z : List ℕ) (n : ℕ) (more : List ℕ) → n < 2 ^ 64 → ds ++ byte ∷ z ≡ decimal n ++ 13 ∷ (10 ∷ []) → ds ++ more ≡ 45 ∷ (49 ∷ (13 ∷ (10 ∷ []))) → (IsStrict (ds ++ byte ∷ []) → ⊥) → ⊥
      no_minus [] byte z n more small e k strict =
          let digit = line_head n byte [] z small (append-nil (number_line n) ∙ sym e) in
          strict (record { some = lit< tt; each = one_digit byte digit; no_zero = λ h. refl })
      no_minus (d ∷ ds) byte z n more small e k strict =
          let head : d ≡ 45 = cc (k) in
          omega (arith, (line_head n d [] (ds ++ byte ∷ z) small (append-nil (number_line n) ∙ sym e)).0, head)

  bad_count : (front : List ℕ) (byte : ℕ) → Continues (IsCountLine limits) front → IsDoomed (IsArrayText limits) (front ++ byte ∷ []) → (IsNumber 42 (front ++ byte ∷ []) → ⊥) → IsDoomed IsSomeCount (front ++ byte ∷ [])
  bad_count front byte h d unstrict = record {
    never = λ more text rest t e.
        let is : front ++ byte ∷ more ≡ text ++ rest = sym (append_assoc front (byte ∷ []) more) ∙ e in
        elim t [
          | inl n ↦ some_count more rest n.0 n.1 (is ∙ ap (λ (x : List ℕ). x ++ rest) n.2)
          | inr minus ↦ null_count more rest (is ∙ ap (λ (x : List ℕ). x ++ rest) minus)
        ];
  }
    where
      some_count : (more rest : List ℕ) (n : ℕ) → n < 2 ^ 64 → front ++ byte ∷ more ≡ (42 ∷ number_line n) ++ rest → ⊥
      some_count more rest n small e = elim (split front (byte ∷ more) (42 ∷ number_line n) rest e) [
        | inl p ↦ by_rest p.0 p.1 p.2
        | inr p ↦ no_whole_count front p.0 n small p.1 h
      ]
        where
          by_rest : (z : List ℕ) → 42 ∷ number_line n ≡ front ++ z → byte ∷ more ≡ z ++ rest → ⊥
          by_rest [] k t = no_whole_count front [] n small (sym (k ∙ append-nil front) ∙ ap (λ (x : List ℕ). 42 ∷ x) (sym (append-nil (number_line n)))) h
          by_rest (c ∷ z) k t = (let same : c ≡ byte = cc in count_goes_on front byte z n small h d unstrict (k ∙ ap (λ (x : ℕ). front ++ x ∷ z) same))

      null_count : (more rest : List ℕ) → front ++ byte ∷ more ≡ minus_one ++ rest → ⊥
      null_count more rest e = elim (split front (byte ∷ more) minus_one rest e) [
        | inl p ↦ by_minus p.0 p.1 p.2
        | inr p ↦ no_whole_minus front p.0 p.1 h
      ]
        where
          by_minus : (z : List ℕ) → minus_one ≡ front ++ z → byte ∷ more ≡ z ++ rest → ⊥
          by_minus [] k t = no_whole_minus front [] (sym (k ∙ append-nil front)) h
          by_minus (c ∷ z) k t =
              let same : c ≡ byte = cc in
              d.never z minus_one [] (inr (inr refl)) (append_assoc front (byte ∷ []) z ∙ ap (λ (x : ℕ). front ++ x ∷ z) (sym same) ∙ sym k ∙ sym (append-nil minus_one))

  -- The word that comes next in a text that goes on from here.
  record Coming (count : ℕ) (words : List (List ℕ)) (part more : List ℕ) : Type 0 where
    word : List ℕ
    rest : List ℕ
    is : part ++ more ≡ bulk word ++ rest
    within : length word ≤ limits.word
    size : length (42 ∷ number_line count ++ flat_map bulk words) + length (bulk word) + 6 * (count - length words - 1) ≤ limits.text

  coming : (front part more : List ℕ) (w : IsInWord limits front part) (vs : List (List ℕ)) → IsArray limits (front ++ more) vs → Coming w.count w.words part more
  coming front part more w vs r =
      let begun : List ℕ = 42 ∷ number_line w.count ++ flat_map bulk w.words in
      let apart : front ++ more ≡ begun ++ (part ++ more) = ap (λ (x : List ℕ). x ++ more) w.is ∙ append_assoc begun part more in
      let both : 42 ∷ (number_line w.count ++ (flat_map bulk w.words ++ (part ++ more))) ≡ 42 ∷ (number_line (length vs) ++ (flat_map bulk vs ++ [])) =
      sym (opened limits w.count w.words (part ++ more)) ∙ sym apart ∙ r.spelled ∙ sym (append-nil (array vs)) ∙ array_parts vs [] in
      let inner : number_line w.count ++ (flat_map bulk w.words ++ (part ++ more)) ≡ number_line (length vs) ++ (flat_map bulk vs ++ []) = cc both in
      let parts = line_unique w.count (length vs) (flat_map bulk w.words ++ (part ++ more)) (flat_map bulk vs ++ []) (few limits w.count w.within) (few limits (length vs) r.count) inner in
      let n = next_word limits w.words vs (part ++ more) [] limits.small_word w.each r.each (omega (arith, w.another, parts.0)) parts.1 in
      let later : length n.later ≡ w.count - length w.words - 1 = omega (arith, ap length n.is, length-append w.words (n.word ∷ n.later), parts.0) in
      record {
        word = n.word;
        rest = flat_map bulk n.later ++ [];
        is = n.text;
        within = n.within;
        size = omega (
          arith,
          r.size,
          ap length apart,
          length-append begun (part ++ more),
          ap length n.text,
          length-append (bulk n.word) (flat_map bulk n.later ++ []),
          length-append (flat_map bulk n.later) [],
          six_each limits n.later limits.small_word n.each,
          later,
        );
      }

  -- a text that goes on from a word is a request
  some_array : (front part more : List ℕ) (w : IsInWord limits front part) → IsArrayText limits (front ++ more) → (vs : List (List ℕ)) × IsArray limits (front ++ more) vs
  some_array front part more w (inl r) = r
  some_array front part more w (inr e) =
      let after : List ℕ = flat_map bulk w.words ++ (part ++ more) in
      let is : front ++ more ≡ 42 ∷ (number_line w.count ++ after) = ap (λ (x : List ℕ). x ++ more) w.is ∙ append_assoc (42 ∷ number_line w.count ++ flat_map bulk w.words) part more ∙ opened limits w.count w.words (part ++ more) in
      elim e [
        | inl none ↦
            let both : 42 ∷ (number_line w.count ++ after) ≡ 42 ∷ (number_line 0 ++ []) = sym is ∙ none in
            let inner : number_line w.count ++ after ≡ number_line 0 ++ [] = cc both in
            absurd (omega (arith, (line_unique w.count 0 after [] (few limits w.count w.within) (lit< tt) inner).0, w.another))
        | inr minus ↦
            let both : 42 ∷ (number_line w.count ++ after) ≡ 42 ∷ (45 ∷ (49 ∷ (13 ∷ (10 ∷ [])))) = sym is ∙ minus in
            let inner : number_line w.count ++ after ≡ 45 ∷ (49 ∷ (13 ∷ (10 ∷ []))) = cc both in
            absurd (omega (arith, (line_head w.count 45 after (49 ∷ (13 ∷ (10 ∷ []))) (few limits w.count w.within) inner).0))
      ]

  -- the number that a word's length and its next digit are
  size_of : (part : List ℕ) (byte : ℕ) → Continues (IsBulk limits) part → IsNumber 36 (part ++ byte ∷ []) → (size : ℕ) × (part ++ byte ∷ [] ≡ 36 ∷ decimal size)
  size_of [] byte h n = (let none : [] ≡ n.0 = cc (n.1) in absurd (omega (arith, ap length none, n.2.some)))
  size_of (mark ∷ ds) byte h n =
      let is : ds ++ byte ∷ [] ≡ n.0 = cc (n.1) in
      let strict : IsStrict (ds ++ byte ∷ []) = subst IsStrict (sym is) n.2 in
      let word : List ℕ = h.whole.0 in
      let whole : mark ∷ (ds ++ h.more) ≡ 36 ∷ (number_line (length word) ++ (word ++ line_end)) = h.whole.2 in
      let tails : ds ++ h.more ≡ number_line (length word) ++ (word ++ line_end) = cc whole in
      let front = front_of_digits ds (decimal (length word)) h.more (10 ∷ (word ++ line_end)) 13 (all_front (λ d. (48 ≤ d) × (d ≤ 57)) ds (byte ∷ []) strict.each) no_digit_13 (tails ∙ append_assoc (decimal (length word)) line_end (word ++ line_end)) in
      let small = digits_small (length word) ds front.0 byte (omega (arith, h.whole.1, limits.small_word)) front.1 (last_digit ds byte strict.each) in
      (value_after 0 (ds ++ byte ∷ []), n.1 ∙ ap (λ (x : List ℕ). 36 ∷ x) (sym is ∙ sym (strict_spelled (ds ++ byte ∷ []) strict small)))

  module _ (front part : List ℕ) (byte : ℕ) (w : IsInWord limits front part) (h : Continues (IsArrayText limits) front) (d : IsDoomed (IsArrayText limits) (front ++ byte ∷ [])) where
    next : Coming w.count w.words part h.more
    next = (let r = some_array front part h.more w h.whole in coming front part h.more w r.0 r.1)

    -- no word that fits goes on with the byte
    no_fit : (word z : List ℕ) → bulk word ≡ part ++ byte ∷ z → length word ≤ limits.word → length (42 ∷ number_line w.count ++ flat_map bulk w.words) + length (bulk word) + 6 * (w.count - length w.words - 1) ≤ limits.text → ⊥
    no_fit word z e within size =
        let begun : List ℕ = 42 ∷ number_line w.count ++ flat_map bulk w.words in
        let k : ℕ = w.count - length w.words - 1 in
        let empties : List ℕ = flat_map bulk (replicate k []) in
        let text : List ℕ = begun ++ (bulk word ++ empties) in
        let whole = completes limits w.count k w.words word w.each within (omega (arith, w.another)) (omega (arith, w.another)) w.within (omega (arith, size, length-append begun (bulk word ++ empties), length-append (bulk word) empties, length-empties k)) in
        d.never (z ++ empties) text [] whole
        (append_assoc front (byte ∷ []) (z ++ empties) ∙ ap (λ (x : List ℕ). x ++ byte ∷ (z ++ empties)) w.is ∙ append_assoc begun part (byte ∷ (z ++ empties))
        ∙ ap (λ (x : List ℕ). begun ++ x) (sym (append_assoc part (byte ∷ z) empties) ∙ ap (λ (x : List ℕ). x ++ empties) (sym e)) ∙ sym (append-nil text))

    lacks_mark : part ≡ [] → LacksMark limits front byte
    lacks_mark none =
        let begun : List ℕ = 42 ∷ number_line w.count ++ flat_map bulk w.words in
        record {
          place = record { count = w.count; words = w.words; is = w.is ∙ ap (λ (x : List ℕ). begun ++ x) none ∙ append-nil begun; within = w.within; each = w.each; another = w.another };
          no_mark = λ is.
              let rest : List ℕ = number_line (length next.word) ++ (next.word ++ line_end) in
              no_fit next.word rest (ap (λ (x : ℕ). x ∷ rest) (sym is) ∙ ap (λ (x : List ℕ). x ++ byte ∷ rest) (sym none)) next.within next.size;
        }

    too_long : IsNumber 36 (part ++ byte ∷ []) → IsTooLong limits front byte
    too_long n =
        let s = size_of part byte w.inside n in
        let size : ℕ = s.0 in
        let begun : List ℕ = 42 ∷ number_line w.count ++ flat_map bulk w.words in
        record {
          before = begun;
          place = record { count = w.count; words = w.words; is = refl; within = w.within; each = w.each; another = w.another };
          size = size;
          is = ap (λ (x : List ℕ). x ++ byte ∷ []) w.is ∙ append_assoc begun part (byte ∷ []) ∙ ap (λ (x : List ℕ). begun ++ x) s.1;
          past = elim (cases_lt limits.word size) [
            | inl past ↦ inl past
            | inr le ↦ elim (cases_lt limits.text (length begun + word_takes size + 6 * (w.count - length w.words - 1))) [
              | inl past ↦ inr past
              | inr fits ↦
                  let word : List ℕ = replicate size 0 in
                  let len : length word ≡ size = length-replicate {A = ℕ} size 0 in
                  let digits : length (decimal (length word)) ≡ length (decimal size) = ap (λ k. length (decimal k)) len in
                  let z : List ℕ = line_end ++ (word ++ line_end) in
                  absurd (no_fit word z
                  (ap (λ (k : ℕ). 36 ∷ (number_line k ++ (word ++ line_end))) len ∙ ap (λ (x : List ℕ). 36 ∷ x) (append_assoc (decimal size) line_end (word ++ line_end)) ∙ ap (λ (x : List ℕ). x ++ z) (sym s.1) ∙ append_assoc part (byte ∷ []) z)
                  (omega (arith, len, le)) (omega (arith, fits, length-bulk word, len, digits)))
            ]
          ];
        }

    breaks_word : 0 < length part → (IsNumber 36 (part ++ byte ∷ []) → ⊥) → BreaksWord limits front byte
    breaks_word some unstrict = record {
      before = 42 ∷ number_line w.count ++ flat_map bulk w.words;
      place = record { count = w.count; words = w.words; is = refl; within = w.within; each = w.each; another = w.another };
      part = part;
      is = w.is;
      some = some;
      doomed = record { never = λ more text rest t e. no_word more rest t.0 t.1 (sym (append_assoc part (byte ∷ []) more) ∙ e ∙ ap (λ (x : List ℕ). x ++ rest) t.2) };
    }
      where
        no_word : (more rest word : List ℕ) → length word < 2 ^ 64 → part ++ byte ∷ more ≡ bulk word ++ rest → ⊥
        no_word more rest word small e = elim (split part (byte ∷ more) (bulk word) rest e) [
          | inl p ↦ by_word p.0 p.1 p.2
          | inr p ↦ no_whole_word limits part word p.0 small p.1 w.inside
        ]
          where
            by_word : (z : List ℕ) → bulk word ≡ part ++ z → byte ∷ more ≡ z ++ rest → ⊥
            by_word [] k t = no_whole_word limits part word [] small (sym (k ∙ append-nil part) ∙ sym (append-nil (bulk word))) w.inside
            by_word (c ∷ z) k t =
                let same : c ≡ byte = cc in
                let begins : bulk word ≡ part ++ byte ∷ z = k ∙ ap (λ (x : ℕ). part ++ x ∷ z) same in
                let coming_small : length next.word < 2 ^ 64 = omega (arith, next.within, limits.small_word) in
                let le = word_no_less part byte word z next.word h.more next.rest small coming_small some unstrict begins next.is in
                no_fit word z begins (omega (arith, le, next.within))
                (omega (arith, next.size, length-bulk word, length-bulk next.word, le, decimal_longer (length next.word) (length word) coming_small le))

  -- the two forms
  doomed_array : (x : List ℕ) → IsDoomed (IsText limits) x → IsDoomed (IsArrayText limits) x
  doomed_array x d = record { never = λ more text rest t e. d.never more text rest (array_text limits text t) e }

  doomed_line : (x : List ℕ) → IsDoomed (IsText limits) x → IsDoomed (IsLineText line_limit) x
  doomed_line x d = record { never = λ more text rest t e. d.never more text rest (line_text limits text t) e }

  array_front : (front : List ℕ) → IsInArray front → Continues (IsText limits) front → Continues (IsArrayText limits) front
  array_front front begun h = elim (form_of limits (front ++ h.more) h.whole) [
    | inl a ↦ record { more = h.more; some = h.some; are_bytes = h.are_bytes; whole = a }
    | inr l ↦ absurd (line_no_star line_limit (front ++ h.more) l (star_on front h.more begun))
  ]

  line_front : (front : List ℕ) → (IsInArray front → ⊥) → Continues (IsText limits) front → Continues (IsLineText line_limit) front
  line_front [] none h = continues line_limit Between [] (record { leads = refl; room = omega arith; no_array = none })
  line_front (b ∷ front) none h = elim (form_of limits ((b ∷ front) ++ h.more) h.whole) [
    | inl a ↦ absurd (none (array_star limits ((b ∷ front) ++ h.more) a))
    | inr l ↦ record { more = h.more; some = h.some; are_bytes = h.are_bytes; whole = l }
  ]

  pub count_reason : (f : Fault) (front : List ℕ) (byte : ℕ) → Continues (IsCountLine limits) front → IsDoomed (IsArrayText limits) (front ++ byte ∷ []) → IsCountFault f front byte → IsReason limits f front byte
  count_reason MultibulkLength front byte h d k = bad_count front byte h d k
  count_reason TooManyWords front byte h d k = too_many front byte h d k
  count_reason BulkLength front byte h d k = absurd k
  count_reason (ExpectedDollar x) front byte h d k = absurd k
  count_reason UnbalancedQuotes front byte h d k = absurd k
  count_reason TooBigInline front byte h d k = absurd k
  count_reason WordTooBig front byte h d k = absurd k

  pub word_reason : (f : Fault) (front part : List ℕ) (byte : ℕ) → IsInWord limits front part → Continues (IsArrayText limits) front → IsDoomed (IsArrayText limits) (front ++ byte ∷ []) → IsWordFault f part byte → IsReason limits f front byte
  word_reason (ExpectedDollar x) front part byte w h d k = (k.1, lacks_mark front part byte w h d k.0)
  word_reason WordTooBig front part byte w h d k = too_long front part byte w h d k
  word_reason BulkLength front part byte w h d k = breaks_word front part byte w h d k.0 k.1
  word_reason MultibulkLength front part byte w h d k = absurd k
  word_reason TooManyWords front part byte w h d k = absurd k
  word_reason UnbalancedQuotes front part byte w h d k = absurd k
  word_reason TooBigInline front part byte w h d k = absurd k

  inline_reason : (f : Fault) (front : List ℕ) (byte : ℕ) → (IsInArray (front ++ byte ∷ []) → ⊥) → Continues (IsLineText line_limit) front → IsDoomed (IsLineText line_limit) (front ++ byte ∷ []) → HasInlineFault f front byte → IsReason limits f front byte
  inline_reason UnbalancedQuotes front byte none h d k = unbalanced_behind line_limit front byte h none d k
  inline_reason TooBigInline front byte none h d k = k
  inline_reason MultibulkLength front byte none h d k = absurd k
  inline_reason BulkLength front byte none h d k = absurd k
  inline_reason (ExpectedDollar x) front byte none h d k = absurd k
  inline_reason WordTooBig front byte none h d k = absurd k
  inline_reason TooManyWords front byte none h d k = absurd k

  pub says_why : (input : List ℕ) (f : Fault) (p : Fails (IsText limits) (HasFault limits f) input) → IsReason limits f p.front p.byte
  says_why input f p = elim p.fault [
    | inl a ↦
        let d = doomed_array (p.front ++ p.byte ∷ []) p.doomed in
        elim a.1 [
          | inl c ↦ count_reason f p.front p.byte c.0 d c.1
          | inr c ↦ word_reason f p.front c.0 p.byte c.1 (array_front p.front (subst (λ (x : List ℕ). IsInArray x) (sym c.1.is) refl) p.before) d c.2
        ]
    | inr a ↦ inline_reason f p.front p.byte a.0 (line_front p.front (λ begun. a.0 (star_on p.front (p.byte ∷ []) begun)) p.before) (doomed_line (p.front ++ p.byte ∷ []) p.doomed) a.1
  ]
