-- Why a byte of a command text has its fault.
use Rattle.std.proofs.Common.{◌≡◌, ℕ, ◌+◌, ◌-◌, ◌*◌, ◌<◌, ◌≤◌, inl, inr, List, [], ◌∷◌, ◌++◌, length, take, drop, map, lit<, sym, ap, ◌∙◌, subst, arith}
use Rattle.std.specs.Fmt.{decimal}
use Rattle.std.specs.Cow.{cow_slice_items}
use Rattle.std.specs.List.{flat_map}
use Rattle.std.proofs.lemmas.Bool.{cases_lt, cases_eq}
use Rattle.std.proofs.lemmas.Fmt.{length-decimal-le}
use Rattle.std.proofs.lemmas.List.{append-nil, length-append, take-append-drop}
use Rattle.mr_inline.specs.Language.{Continues, IsDoomed, Fails}
use Rattle.mr_inline.specs.Limits.{word_limit, words_limit}
use Rattle.mr_resp.specs.Array.{IsArrayText, IsInWord, HasArrayFault}
use Rattle.mr_resp.specs.Command.{IsCommandText, BeginsZero, HasCommandFault, ReadsCommand}
use Rattle.mr_resp.specs.Reasons.{IsSomeCount, IsSomeWordCount, word_takes, IsTooLong, PassesWordLimit, IsReason, IsCommandReason}
use Rattle.mr_resp.specs.Scans.{IsBad}
use Rattle.mr_resp.specs.Spelling.{line_end, number_line, bulk, array}
use Rattle.mr_resp.specs.Usual.{commands, commands-word, commands-words, commands-text}
use Rattle.mr_resp.specs.declared.fault.Fault.{Fault}
use Rattle.mr_resp.specs.declared.fault.Fault.TheVariants.{MultibulkLength, BulkLength, ExpectedDollar, UnbalancedQuotes, TooBigInline, WordTooBig, TooManyWords}
use Rattle.mr_resp.specs.declared.limits.Limits.{Limits}
use Rattle.mr_resp.specs.declared.request.Scan.{Scan}
use Rattle.mr_resp.specs.declared.request.Scan.TheVariants.{Whole, Skip, More, Bad}
use Rattle.mr_resp.proofs.Commands as texts
use Rattle.mr_resp.proofs.Commands.{IsClear, first_digit}
use Rattle.mr_resp.proofs.FaultReasons.{count_reason, word_reason}
use Rattle.mr_resp.proofs.OneFault.{count_cases, doomed_no_more, same_front, one_fault_at}
use Rattle.mr_resp.proofs.Requests.{text_star}

-- no count of a word begins with such a byte
no_count : (x : List ℕ) (b : ℕ) → b ≤ 48 → x ≡ 42 ∷ b ∷ [] → IsDoomed IsSomeWordCount x
no_count x b low e = record {
  never = λ more text rest c k.
      let both : 42 ∷ b ∷ more ≡ 42 ∷ (number_line c.0 ++ rest) = ap (λ (y : List ℕ). y ++ more) (sym e) ∙ k ∙ ap (λ (y : List ℕ). y ++ rest) c.3 in
      let inner : number_line c.0 ++ rest ≡ b ∷ more = cc both in
      omega (arith, low, first_digit c.0 b rest more c.1 c.2 inner);
}

-- a count of at least one word is a count
some_count : (x : List ℕ) → IsDoomed IsSomeCount x → IsDoomed IsSomeWordCount x
some_count x d = record { never = λ more text rest c e. d.never more text rest (inl (c.0, c.2, c.3)) e }

module _ (limits : Limits) where
  -- doomed input is told so, with one fault
  one_command_fault : (f g : Fault) (front : List ℕ) (byte : ℕ) → HasCommandFault limits f front byte → HasCommandFault limits g front byte → f ≡ g
  one_command_fault f g front byte (inl a) (inl b) = a.1 ∙ sym b.1
  one_command_fault f g front byte (inl a) (inr b) = absurd (b.0 a.0)
  one_command_fault f g front byte (inr a) (inl b) = absurd (a.0 b.0)
  one_command_fault f g front byte (inr a) (inr b) = one_fault_at limits f g front byte a.1 b.1

  pub command_fault : (input : List ℕ) (f g : Fault) (p : Fails (IsCommandText limits) (HasCommandFault limits f) input) (q : Fails (IsCommandText limits) (HasCommandFault limits g) input) → (p.front ≡ q.front) × (p.byte ≡ q.byte) × (f ≡ g)
  command_fault input f g p q =
      let same = same_front (IsCommandText limits) (HasCommandFault limits f) (HasCommandFault limits g) input p q in
      (same.0, same.1, one_command_fault f g q.front q.byte (subst (λ (b : ℕ). HasCommandFault limits f q.front b) same.1 (subst (λ (x : List ℕ). HasCommandFault limits f x p.byte) same.0 p.fault)) q.fault)

  pub doomed_command_bad : (input : List ℕ) (scan : Scan) → IsDoomed (IsCommandText limits) input → ReadsCommand limits input scan → IsBad scan
  doomed_command_bad input (Whole ws used) d p = absurd (d.never [] (take used input) (drop used input) (map cow_slice_items ws.items, p.1) (append-nil input ∙ sym (take-append-drop used input)))
  doomed_command_bad input (Skip used) d p = absurd p
  doomed_command_bad input More d p = absurd (doomed_no_more (IsCommandText limits) input d p)
  doomed_command_bad input (Bad fault) d p = tt

module _ (limits : Limits) (word : limits.word ≡ word_limit) (words : limits.words ≡ words_limit) (text : limits.text ≡ 18446744073709551615) where
  one_word : IsCommandText limits (array ([] ∷ []))
  one_word = ([] ∷ [], texts.one_command limits word words text)

  array_goes_on : (x : List ℕ) → Continues (IsCommandText limits) x → Continues (IsArrayText limits) x
  array_goes_on x h = record { more = h.more; some = h.some; are_bytes = h.are_bytes; whole = inl (h.whole.0, texts.request_of limits word words text (x ++ h.more) h.whole.0 h.whole.1) }

  -- What begins no empty request and is doomed as a command text, is so as a request.
  doomed_array : (x : List ℕ) → IsClear x → IsDoomed (IsCommandText limits) x → IsDoomed (IsArrayText limits) x
  doomed_array [] clear d = absurd (d.never (array ([] ∷ [])) (array ([] ∷ [])) [] one_word (sym (append-nil (array ([] ∷ [])))))
  doomed_array (a ∷ []) clear d = record {
    never = λ more t rest p e.
        let star = text_star limits t p in
        let both : a ∷ more ≡ 42 ∷ (star.0 ++ rest) = e ∙ ap (λ (x : List ℕ). x ++ rest) star.1 in
        let is : a ≡ 42 = cc both in
        let tail : List ℕ = number_line 1 ++ flat_map bulk ([] ∷ []) in
        d.never tail (array ([] ∷ [])) [] one_word (ap (λ (x : ℕ). x ∷ tail) is ∙ sym (append-nil (array ([] ∷ []))));
  }
  doomed_array (a ∷ b ∷ r) clear d = record {
    never = λ more t rest p e.
        d.never more t rest (texts.text_command limits word words text t rest (subst (λ (x : List ℕ). IsClear x) e (texts.clear_more limits word words text a b r more clear)) p) e;
  }

  -- A word within its limit is within the text.
  past_word : (front : List ℕ) (byte : ℕ) → IsTooLong limits front byte → PassesWordLimit limits front byte
  past_word front byte r = record { before = r.before; place = r.place; size = r.size; is = r.is; past = elim (cases_lt limits.word r.size) [ inl past ↦ past | inr le ↦ absurd (elim r.past [ inl past ↦ omega (arith, past, le) | inr past ↦ fits le past ]) ] }
    where
      fits : r.size ≤ limits.word → limits.text < length r.before + word_takes r.size + 6 * (r.place.count - length r.place.words - 1) → ⊥
      fits le past = omega (
        arith,
        le,
        past,
        word,
        words,
        text,
        ap length r.place.is,
        length-append (42 ∷ number_line r.place.count) (flat_map bulk r.place.words),
        length-append (decimal r.place.count) line_end,
        length-decimal-le 20 r.place.count (lit< tt) (omega (arith, r.place.within, words)) (omega (arith, r.place.within, words)),
        length-decimal-le 20 r.size (lit< tt) (omega (arith, le, word)) (omega (arith, le, word)),
        texts.words_size limits word words text r.place.words r.place.each,
        r.place.another,
        r.place.within,
      )

  of_request : (f : Fault) (front : List ℕ) (byte : ℕ) → HasArrayFault limits f front byte → IsReason limits f front byte → IsCommandReason limits f front byte
  of_request MultibulkLength front byte k r = some_count (front ++ byte ∷ []) r
  of_request BulkLength front byte k r = r
  of_request (ExpectedDollar x) front byte k r = r
  of_request UnbalancedQuotes front byte k r = elim k [ inl c ↦ c.1 | inr c ↦ c.2 ]
  of_request TooBigInline front byte k r = elim k [ inl c ↦ c.1 | inr c ↦ c.2 ]
  of_request WordTooBig front byte k r = past_word front byte r
  of_request TooManyWords front byte k r = r

  -- where no empty request is begun, the reasons are those of requests
  clear_reason : (f : Fault) (front : List ℕ) (byte : ℕ) → IsClear (front ++ byte ∷ []) → Continues (IsCommandText limits) front → IsDoomed (IsCommandText limits) (front ++ byte ∷ []) → HasArrayFault limits f front byte → IsCommandReason limits f front byte
  clear_reason f front byte clear h d k =
      let doomed = doomed_array (front ++ byte ∷ []) clear d in
      of_request f front byte k (elim k [
        | inl c ↦ count_reason limits f front byte c.0 doomed c.1
        | inr c ↦ word_reason limits f front c.0 byte c.1 (array_goes_on front h) doomed c.2
      ])

  -- a `-` behind the star is no count
  minus_fault : (f : Fault) → HasArrayFault limits f (42 ∷ []) 45 → f ≡ MultibulkLength
  minus_fault f (inl c) = elim (count_cases f (42 ∷ []) 45 c.1) [ inl x ↦ absurd (texts.no_number limits word words text x.1) | inr x ↦ x.0 ]
  minus_fault f (inr c) =
      let w : IsInWord limits (42 ∷ []) c.0 = c.1 in
      absurd (omega (
        arith,
        ap length w.is,
        length-append (42 ∷ number_line w.count ++ flat_map bulk w.words) c.0,
        length-append (42 ∷ number_line w.count) (flat_map bulk w.words),
        length-append (decimal w.count) line_end,
      ))

  -- a command text begins with a star, and behind it with no 0 and no `-`
  begins : (a : ℕ) (r : List ℕ) → Continues (IsCommandText limits) (a ∷ r) → a ≡ 42
  begins a r h = (let both : a ∷ (r ++ h.more) ≡ 42 ∷ (number_line (length h.whole.0) ++ flat_map bulk h.whole.0) = h.whole.1.spelled in cc both)

  clear_behind : (a b : ℕ) (r : List ℕ) (byte : ℕ) → Continues (IsCommandText limits) (a ∷ b ∷ r) → IsClear ((a ∷ b ∷ r) ++ byte ∷ [])
  clear_behind a b r byte h = λ c rest e.
      let both : a ∷ b ∷ (r ++ byte ∷ []) ≡ 42 ∷ c ∷ rest = e in
      let same : b ≡ c = cc both in
      let text_is : 42 ∷ b ∷ (r ++ h.more) ≡ ((a ∷ b ∷ r) ++ h.more) ++ [] = ap (λ (x : ℕ). x ∷ b ∷ (r ++ h.more)) (sym (begins a (b ∷ r) h)) ∙ sym (append-nil ((a ∷ b ∷ r) ++ h.more)) in
      let above = texts.second_byte limits word words text b (r ++ h.more) ((a ∷ b ∷ r) ++ h.more) [] h.whole text_is in
      (λ zero. omega (arith, above, same, zero), λ minus. omega (arith, above, same, minus))

  reason_behind : (f : Fault) (front : List ℕ) (byte : ℕ) → Continues (IsCommandText limits) front → IsDoomed (IsCommandText limits) (front ++ byte ∷ []) → (BeginsZero front byte → ⊥) → HasArrayFault limits f front byte → IsCommandReason limits f front byte
  reason_behind f [] byte h d some k = clear_reason f [] byte (λ b rest e. absurd (omega (arith, ap length e))) h d k
  reason_behind f (a ∷ []) byte h d some k = elim (cases_eq byte 45) [
    | inl minus ↦
        let star = begins a [] h in
        let at : HasArrayFault limits f (42 ∷ []) 45 = subst (λ (x : ℕ). HasArrayFault limits f (42 ∷ []) x) minus (subst (λ (x : ℕ). HasArrayFault limits f (x ∷ []) byte) star k) in
        let is : a ∷ byte ∷ [] ≡ 42 ∷ byte ∷ [] = ap (λ (x : ℕ). x ∷ byte ∷ []) star in
        subst (λ (g : Fault). IsCommandReason limits g (a ∷ []) byte) (sym (minus_fault f at)) (no_count (a ∷ byte ∷ []) byte (omega (arith, minus)) is)
    | inr other ↦
        let clear : IsClear (a ∷ byte ∷ []) = λ b rest e.
        let both : a ∷ byte ∷ [] ≡ 42 ∷ b ∷ rest = e in
        let first : a ≡ 42 = cc both in
        let same : byte ≡ b = cc both in
        (λ zero. some (ap (λ (x : ℕ). x ∷ byte ∷ []) first ∙ ap (λ (x : ℕ). 42 ∷ x ∷ []) (same ∙ zero)), λ minus. other (same ∙ minus)) in
        clear_reason f (a ∷ []) byte clear h d k
  ]
  reason_behind f (a ∷ b ∷ r) byte h d some k = clear_reason f (a ∷ b ∷ r) byte (clear_behind a b r byte h) h d k

  command_reason : (input : List ℕ) (f : Fault) (p : Fails (IsCommandText limits) (HasCommandFault limits f) input) → IsCommandReason limits f p.front p.byte
  command_reason input f p = elim p.fault [
    | inl zero ↦ subst (λ (g : Fault). IsCommandReason limits g p.front p.byte) (sym zero.1) (no_count (p.front ++ p.byte ∷ []) 48 (omega arith) zero.0)
    | inr k ↦ reason_behind f p.front p.byte p.before p.doomed k.0 k.1
  ]

pub command_says_why : (input : List ℕ) (f : Fault) (p : Fails (IsCommandText commands) (HasCommandFault commands f) input) → IsCommandReason commands f p.front p.byte
command_says_why = command_reason commands commands-word commands-words commands-text
