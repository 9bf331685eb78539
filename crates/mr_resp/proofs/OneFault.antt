-- A byte of a request in array form has one fault.
use Rattle.std.proofs.Common.{◌≡◌, ℕ, ◌<◌, ◌^◌, ◌⊎◌, inl, inr, List, [], ◌∷◌, ◌++◌, length, refl, sym, ap, ◌∙◌, subst, append_assoc, arith}
use Rattle.std.specs.List.{flat_map}
use Rattle.std.proofs.lemmas.Bool.{cases_lt}
use Rattle.std.proofs.lemmas.List.{append-nil, length-append, length_push}
use Rattle.mr_inline.specs.Language.{Continues, IsDoomed, Fails}
use Rattle.mr_resp.specs.Array.{IsNumber, IsWordFault, IsCountFault, IsCountLine, IsBulk, IsInWord, HasArrayFault}
use Rattle.mr_resp.specs.Spelling.{number_line, bulk}
use Rattle.mr_resp.specs.declared.limits.Limits.{Limits}
use Rattle.mr_resp.specs.declared.fault.Fault.{Fault}
use Rattle.mr_resp.specs.declared.fault.Fault.TheVariants.{MultibulkLength, BulkLength, ExpectedDollar, UnbalancedQuotes, TooBigInline, WordTooBig, TooManyWords}
use Rattle.mr_resp.proofs.Words.{split_same, line_unique, bulk_unique}
use Rattle.mr_resp.proofs.Requests.{next_word, same_words, line_head, few}

-- a list that ends further on begins with the shorter one and its next item
longer_front : (a x b y : List ℕ) (c : ℕ) → a ++ c ∷ x ≡ b ++ y → length a < length b → (z : List ℕ) × (b ≡ (a ++ c ∷ []) ++ z)
longer_front a x [] y c e lt = absurd (omega arith)
longer_front [] x (d ∷ b) y c e lt = let same : d ≡ c = cc in (b, ap (λ (n : ℕ). n ∷ b) same)
longer_front (f ∷ a) x (d ∷ b) y c e lt =
    let same : d ≡ f = cc in
    let tails : a ++ c ∷ x ≡ b ++ y = cc in
    let r = longer_front a x b y c tails (omega arith) in
    let is : b ≡ (a ++ c ∷ []) ++ r.0 = r.1 in
    (r.0, cc)

module _ (P : List ℕ → Type 0) where
  pub doomed_no_more : (input : List ℕ) → IsDoomed P input → Continues P input → ⊥
  doomed_no_more input d h = d.never h.more (input ++ h.more) [] h.whole (sym (append-nil (input ++ h.more)))

  pub doomed_no_text : (text rest : List ℕ) → P text → IsDoomed P (text ++ rest) → ⊥
  doomed_no_text text rest p d = d.never [] text rest p (append-nil (text ++ rest))

  pub fails_doomed : (T : List ℕ → ℕ → Type 0) (input : List ℕ) → Fails P T input → IsDoomed P input
  fails_doomed T input f = record {
    never = λ more text rest p e. f.doomed.never (f.rest ++ more) text rest p
        (append_assoc f.front (f.byte ∷ []) (f.rest ++ more) ∙ sym (append_assoc f.front (f.byte ∷ f.rest) more) ∙ ap (λ (x : List ℕ). x ++ more) (sym f.is) ∙ e);
  }

  -- no doomed beginning is shorter than the shortest
  not_shorter : (T U : List ℕ → ℕ → Type 0) (input : List ℕ) (p : Fails P T input) (q : Fails P U input) → length p.front < length q.front → ⊥
  not_shorter T U input p q lt =
      let z = longer_front p.front p.rest q.front (q.byte ∷ q.rest) p.byte (sym p.is ∙ q.is) lt in
      doomed_no_more q.front (record {
        never = λ more text rest t e. p.doomed.never (z.0 ++ more) text rest t (sym (append_assoc (p.front ++ p.byte ∷ []) z.0 more) ∙ ap (λ (x : List ℕ). x ++ more) (sym z.1) ∙ e);
      }) q.before

  -- there is one shortest doomed beginning
  pub same_front : (T U : List ℕ → ℕ → Type 0) (input : List ℕ) (p : Fails P T input) (q : Fails P U input) → (p.front ≡ q.front) × (p.byte ≡ q.byte)
  same_front T U input p q = elim (cases_lt (length p.front) (length q.front)) [
    | inl lt ↦ absurd (not_shorter T U input p q lt)
    | inr ge ↦ elim (cases_lt (length q.front) (length p.front)) [
      | inl lt ↦ absurd (not_shorter U T input q p lt)
      | inr le ↦
          let both = split_same p.front q.front (p.byte ∷ p.rest) (q.byte ∷ q.rest) (omega (arith, ge, le)) (sym p.is ∙ q.is) in
          let tails : p.byte ∷ p.rest ≡ q.byte ∷ q.rest = both.1 in
          (both.0, cc tails)
    ]
  ]

-- the two faults of a byte in the line of the count
pub count_cases : (f : Fault) (front : List ℕ) (byte : ℕ) → IsCountFault f front byte → ((f ≡ TooManyWords) × IsNumber 42 (front ++ byte ∷ [])) ⊎ ((f ≡ MultibulkLength) × (IsNumber 42 (front ++ byte ∷ []) → ⊥))
count_cases TooManyWords front byte h = inl (refl, h)
count_cases MultibulkLength front byte h = inr (refl, h)
count_cases BulkLength front byte h = absurd h
count_cases (ExpectedDollar x) front byte h = absurd h
count_cases UnbalancedQuotes front byte h = absurd h
count_cases TooBigInline front byte h = absurd h
count_cases WordTooBig front byte h = absurd h

one_count_fault : (f g : Fault) (front : List ℕ) (byte : ℕ) → IsCountFault f front byte → IsCountFault g front byte → f ≡ g
one_count_fault f g front byte a b = elim (count_cases f front byte a) [
  | inl x ↦ elim (count_cases g front byte b) [ inl y ↦ x.0 ∙ sym y.0 | inr y ↦ absurd (y.1 x.1) ]
  | inr x ↦ elim (count_cases g front byte b) [ inl y ↦ absurd (x.1 y.1) | inr y ↦ x.0 ∙ sym y.0 ]
]

-- the three faults of a byte in a word with its length
abbrev IsNoMark : Fault → List ℕ → ℕ → Type 0
IsNoMark f part byte = (f ≡ ExpectedDollar byte) × (part ≡ [])

abbrev IsBigWord : Fault → List ℕ → ℕ → Type 0
IsBigWord f part byte = (f ≡ WordTooBig) × IsNumber 36 (part ++ byte ∷ [])

abbrev IsBadLength : Fault → List ℕ → ℕ → Type 0
IsBadLength f part byte = (f ≡ BulkLength) × (0 < length part) × (IsNumber 36 (part ++ byte ∷ []) → ⊥)

word_cases : (f : Fault) (part : List ℕ) (byte : ℕ) → IsWordFault f part byte → IsNoMark f part byte ⊎ (IsBigWord f part byte ⊎ IsBadLength f part byte)
word_cases (ExpectedDollar x) part byte h = inl (ap ExpectedDollar h.1, h.0)
word_cases WordTooBig part byte h = inr (inl (refl, h))
word_cases BulkLength part byte h = inr (inr (refl, h.0, h.1))
word_cases MultibulkLength part byte h = absurd h
word_cases TooManyWords part byte h = absurd h
word_cases UnbalancedQuotes part byte h = absurd h
word_cases TooBigInline part byte h = absurd h

mark_first : (f g : Fault) (part : List ℕ) (byte : ℕ) → IsNoMark f part byte → IsBigWord g part byte → ⊥
mark_first f g part byte x y = omega (arith, ap length x.1, ap length y.1.1, length_push part byte, y.1.2.some)

mark_length : (f g : Fault) (part : List ℕ) (byte : ℕ) → IsNoMark f part byte → IsBadLength g part byte → ⊥
mark_length f g part byte x y = omega (arith, ap length x.1, y.1)

one_word_fault : (f g : Fault) (part : List ℕ) (byte : ℕ) → IsWordFault f part byte → IsWordFault g part byte → f ≡ g
one_word_fault f g part byte a b = elim (word_cases f part byte a) [
  | inl x ↦ elim (word_cases g part byte b) [
    | inl y ↦ x.0 ∙ sym y.0
    | inr y ↦ elim y [ inl z ↦ absurd (mark_first f g part byte x z) | inr z ↦ absurd (mark_length f g part byte x z) ]
  ]
  | inr x ↦ elim x [
    | inl v ↦ elim (word_cases g part byte b) [
      | inl y ↦ absurd (mark_first g f part byte y v)
      | inr y ↦ elim y [ inl z ↦ v.0 ∙ sym z.0 | inr z ↦ absurd (z.2 v.1) ]
    ]
    | inr v ↦ elim (word_cases g part byte b) [
      | inl y ↦ absurd (mark_length g f part byte y v)
      | inr y ↦ elim y [ inl z ↦ absurd (v.2 z.1) | inr z ↦ v.0 ∙ sym z.0 ]
    ]
  ]
]

module _ (limits : Limits) where
  -- what can still become a word begins with no word of any size
  pub no_whole_word : (part w tail : List ℕ) → length w < 2 ^ 64 → part ≡ bulk w ++ tail → Continues (IsBulk limits) part → ⊥
  no_whole_word part w tail small e h =
      let both : bulk w ++ (tail ++ h.more) ≡ bulk h.whole.0 ++ [] = sym (append_assoc (bulk w) tail h.more) ∙ ap (λ (x : List ℕ). x ++ h.more) (sym e) ∙ h.whole.2 ∙ sym (append-nil (bulk h.whole.0)) in
      let parts = bulk_unique w h.whole.0 (tail ++ h.more) [] small (omega (arith, h.whole.1, limits.small_word)) both in
      omega (arith, ap length parts.1, length-append tail h.more, h.some)

  -- the line of the count and all behind it
  pub opened : (count : ℕ) (ws : List (List ℕ)) (part : List ℕ) → (42 ∷ number_line count ++ flat_map bulk ws) ++ part ≡ 42 ∷ (number_line count ++ (flat_map bulk ws ++ part))
  opened count ws part = ap (λ (x : List ℕ). 42 ∷ x) (append_assoc (number_line count) (flat_map bulk ws) part)

  part_of_fewer : (front part other : List ℕ) (w : IsInWord limits front part) (v : IsInWord limits front other) → flat_map bulk w.words ++ part ≡ flat_map bulk v.words ++ other → length w.words < length v.words → ⊥
  part_of_fewer front part other w v e lt =
      let n = next_word limits w.words v.words part other limits.small_word w.each v.each lt e in
      no_whole_word part n.word (flat_map bulk n.later ++ other) (omega (arith, n.within, limits.small_word)) n.text w.inside

  same_part : (front part other : List ℕ) → IsInWord limits front part → IsInWord limits front other → part ≡ other
  same_part front part other w v =
      let both : 42 ∷ (number_line w.count ++ (flat_map bulk w.words ++ part)) ≡ 42 ∷ (number_line v.count ++ (flat_map bulk v.words ++ other)) = sym (opened w.count w.words part) ∙ sym w.is ∙ v.is ∙ opened v.count v.words other in
      let inner : number_line w.count ++ (flat_map bulk w.words ++ part) ≡ number_line v.count ++ (flat_map bulk v.words ++ other) = cc both in
      let tails = (line_unique w.count v.count (flat_map bulk w.words ++ part) (flat_map bulk v.words ++ other) (few limits w.count w.within) (few limits v.count v.within) inner).1 in
      elim (cases_lt (length w.words) (length v.words)) [
        | inl lt ↦ absurd (part_of_fewer front part other w v tails lt)
        | inr ge ↦ elim (cases_lt (length v.words) (length w.words)) [
          | inl lt ↦ absurd (part_of_fewer front other part v w (sym tails) lt)
          | inr le ↦ (same_words limits w.words v.words part other limits.small_word w.each v.each (omega (arith, ge, le)) tails).1
        ]
      ]

  -- a place in the line of the count is in no word
  no_word_in_line : (front part : List ℕ) → Continues (IsCountLine limits) front → IsInWord limits front part → ⊥
  no_word_in_line front part h w =
      let after : List ℕ = flat_map bulk w.words ++ (part ++ h.more) in
      let is : front ++ h.more ≡ 42 ∷ (number_line w.count ++ after) =
      ap (λ (x : List ℕ). x ++ h.more) w.is ∙ append_assoc (42 ∷ number_line w.count ++ flat_map bulk w.words) part h.more ∙ opened w.count w.words (part ++ h.more) in
      elim h.whole [
        | inl n ↦
            let both : 42 ∷ (number_line w.count ++ after) ≡ 42 ∷ (number_line n.0 ++ []) = sym is ∙ n.2 ∙ ap (λ (x : List ℕ). 42 ∷ x) (sym (append-nil (number_line n.0))) in
            let inner : number_line w.count ++ after ≡ number_line n.0 ++ [] = cc both in
            let none = (line_unique w.count n.0 after [] (few limits w.count w.within) (few limits n.0 n.1) inner).1 in
            omega (arith, ap length none, length-append (flat_map bulk w.words) (part ++ h.more), length-append part h.more, h.some)
        | inr minus ↦
            let both : 42 ∷ (number_line w.count ++ after) ≡ 42 ∷ (45 ∷ (49 ∷ (13 ∷ (10 ∷ [])))) = sym is ∙ minus in
            let inner : number_line w.count ++ after ≡ 45 ∷ (49 ∷ (13 ∷ (10 ∷ []))) = cc both in
            omega (arith, (line_head w.count 45 after (49 ∷ (13 ∷ (10 ∷ []))) (few limits w.count w.within) inner).0)
      ]

  pub one_fault_at : (f g : Fault) (front : List ℕ) (byte : ℕ) → HasArrayFault limits f front byte → HasArrayFault limits g front byte → f ≡ g
  one_fault_at f g front byte (inl a) (inl b) = one_count_fault f g front byte a.1 b.1
  one_fault_at f g front byte (inl a) (inr b) = absurd (no_word_in_line front b.0 a.0 b.1)
  one_fault_at f g front byte (inr a) (inl b) = absurd (no_word_in_line front a.0 b.0 a.1)
  one_fault_at f g front byte (inr a) (inr b) =
      let same = same_part front a.0 b.0 a.1 b.1 in
      one_word_fault f g b.0 byte (subst (λ (x : List ℕ). IsWordFault f x byte) same a.2) b.2
