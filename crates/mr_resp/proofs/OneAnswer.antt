-- Each input has one answer.
use Rattle.std.proofs.Common.{◌≡◌, ℕ, ◌<◌, ◌≤◌, ◌+◌, ◌⊎◌, inl, inr, List, [], ◌∷◌, ◌++◌, length, take, drop, map, All, refl, sym, ap, ◌∙◌, subst, append_assoc, arith}
use Rattle.std.specs.Cow.{cow_slice_items}
use Rattle.std.proofs.lemmas.List.{append-nil, length-append, length-drop, take-append-drop}
use Rattle.mr_inline.specs.Language.{Continues, IsDoomed, Fails}
use Rattle.mr_inline.specs.Line.{IsLineOf, IsLineText}
use Rattle.mr_inline.specs.Quoted.{quoted_line}
use Rattle.mr_inline.proofs.LinesByRuns.{apart, one_list}
use Rattle.mr_inline.proofs.QuotedLines.{quoted_is_read}
use Rattle.mr_inline.proofs.WordLengths as line_words
use Rattle.mr_resp.specs.Array.{IsArray}
use Rattle.mr_inline.specs.Limits.{line_limit}
use Rattle.mr_resp.specs.Request.{IsRequest, IsEmptyRequest, IsText, HasInlineFault, HasFault}
use Rattle.mr_resp.specs.Spelling.{array}
use Rattle.mr_resp.specs.Scans.{Reads, request, nothing, faulty, outcome_of, IsBad}
use Rattle.mr_resp.specs.Usual.{usual, usual-word, usual-words}
use Rattle.mr_resp.specs.declared.limits.Limits.{Limits}
use Rattle.mr_resp.specs.declared.fault.Fault.{Fault}
use Rattle.mr_resp.specs.declared.fault.Fault.TheVariants.{MultibulkLength, BulkLength, ExpectedDollar, UnbalancedQuotes, TooBigInline, WordTooBig, TooManyWords}
use Rattle.mr_resp.specs.declared.request.Scan.{Scan}
use Rattle.mr_resp.specs.declared.request.Scan.TheVariants.{Whole, Skip, More, Bad}
use Rattle.mr_resp.proofs.Words.{split_same}
use Rattle.mr_resp.proofs.Requests as arrays
use Rattle.mr_resp.proofs.OneFault.{doomed_no_more, doomed_no_text, fails_doomed, same_front, one_fault_at}
use Rattle.mr_resp.proofs.Forms.{not_both, line_some, line_no_star, array_star, form_of}

-- the two faults of a byte in a line
inline_cases : (f : Fault) (front : List ℕ) (byte : ℕ) → HasInlineFault f front byte → ((f ≡ UnbalancedQuotes) × HasInlineFault UnbalancedQuotes front byte) ⊎ ((f ≡ TooBigInline) × HasInlineFault TooBigInline front byte)
inline_cases UnbalancedQuotes front byte h = inl (refl, h)
inline_cases TooBigInline front byte h = inr (refl, h)
inline_cases MultibulkLength front byte h = absurd h
inline_cases BulkLength front byte h = absurd h
inline_cases (ExpectedDollar x) front byte h = absurd h
inline_cases WordTooBig front byte h = absurd h
inline_cases TooManyWords front byte h = absurd h

one_inline_fault : (f g : Fault) (front : List ℕ) (byte : ℕ) → HasInlineFault f front byte → HasInlineFault g front byte → f ≡ g
one_inline_fault f g front byte a b = elim (inline_cases f front byte a) [
  | inl x ↦ elim (inline_cases g front byte b) [ inl y ↦ x.0 ∙ sym y.0 | inr y ↦ absurd (x.1 y.1) ]
  | inr x ↦ elim (inline_cases g front byte b) [ inl y ↦ absurd (y.1 x.1) | inr y ↦ x.0 ∙ sym y.0 ]
]

line_length : (text : List ℕ) (words : List (List ℕ)) → IsLineOf line_limit text words → 0 < length text
line_length text [] l = line_some line_limit text (inr l)
line_length text (w ∷ ws) l = line_some line_limit text (inl (w ∷ ws, (omega arith, l)))

line_size : (text : List ℕ) → IsLineText line_limit text → length text ≤ line_limit + 1
line_size text (inl l) = l.1.1.size
line_size text (inr l) = l.size

module _ (limits : Limits) where
  -- no array and no line begin the same bytes
  array_or_line : (a b x y : List ℕ) (ws vs : List (List ℕ)) → IsArray limits a ws → IsLineOf line_limit b vs → a ++ x ≡ b ++ y → ⊥
  array_or_line a b x y ws vs r l e = not_both a b x y (array_star limits a (inl (ws, r))) l.no_array (line_length b vs l) e

  pub same_requests : (a b x y : List ℕ) (ws vs : List (List ℕ)) → IsRequest limits a ws → IsRequest limits b vs → a ++ x ≡ b ++ y → (ws ≡ vs) × (x ≡ y)
  same_requests a b x y ws vs (inl r) (inl q) e = arrays.same_requests limits a b x y ws vs r q e
  same_requests a b x y ws vs (inl r) (inr q) e = absurd (array_or_line a b x y ws vs r q.1 e)
  same_requests a b x y ws vs (inr r) (inl q) e = absurd (array_or_line b a y x vs ws q r.1 (sym e))
  same_requests a b x y ws vs (inr r) (inr q) e = (one_list line_limit a b x y ws vs r.1 q.1 e, apart line_limit a b x y (inl (ws, r)) (inl (vs, q)) e)

  pub not_empty : (a b x y : List ℕ) (ws : List (List ℕ)) → IsRequest limits a ws → IsEmptyRequest b → a ++ x ≡ b ++ y → ⊥
  not_empty a b x y ws (inl r) (inl q) e = arrays.not_empty limits a b x y ws r q e
  not_empty a b x y ws (inl r) (inr q) e = array_or_line a b x y ws [] r q e
  not_empty a b x y ws (inr r) (inl q) e = not_both b a y x (array_star limits b (inr q)) r.1.no_array (line_length a ws r.1) (sym e)
  not_empty a b x y ws (inr r) (inr q) e = omega (arith, r.0, ap length (one_list line_limit a b x y ws [] r.1 q e))

  -- no text begins another
  pub one_text : (a b x y : List ℕ) → IsText limits a → IsText limits b → a ++ x ≡ b ++ y → x ≡ y
  one_text a b x y p q e = elim (form_of limits a p) [
    | inl r ↦ elim (form_of limits b q) [
      | inl s ↦ arrays.one_text limits a b x y r s e
      | inr s ↦ absurd (not_both a b x y (array_star limits a r) (line_no_star line_limit b s) (line_some line_limit b s) e)
    ]
    | inr r ↦ elim (form_of limits b q) [
      | inl s ↦ absurd (not_both b a y x (array_star limits b s) (line_no_star line_limit a r) (line_some line_limit a r) (sym e))
      | inr s ↦ apart line_limit a b x y r s e
    ]
  ]

  -- what begins with a text wants no more
  pub text_wants_no_more : (text rest : List ℕ) → IsText limits text → Continues (IsText limits) (text ++ rest) → ⊥
  text_wants_no_more text rest t h =
      let both : text ++ (rest ++ h.more) ≡ ((text ++ rest) ++ h.more) ++ [] = sym (append_assoc text rest h.more) ∙ sym (append-nil ((text ++ rest) ++ h.more)) in
      let none : rest ++ h.more ≡ [] = one_text text ((text ++ rest) ++ h.more) (rest ++ h.more) [] t h.whole both in
      omega (arith, ap length none, length-append rest h.more, h.some)

  -- An input as long as the longest text of either form wants no more.
  pub full_input : (input : List ℕ) → limits.text ≤ length input → line_limit < length input → Continues (IsText limits) input → ⊥
  full_input input le lt h = elim (form_of limits (input ++ h.more) h.whole) [
    | inl a ↦ omega (arith, arrays.text_size limits (input ++ h.more) a, length-append input h.more, h.some, le)
    | inr l ↦ omega (arith, line_size (input ++ h.more) l, length-append input h.more, h.some, lt)
  ]

  pub same_texts : (a b x y : List ℕ) → IsText limits a → IsText limits b → a ++ x ≡ b ++ y → a ≡ b
  same_texts a b x y p q e =
      let rest = one_text a b x y p q e in
      (split_same a b x y (omega (arith, ap length e, ap length rest, length-append a x, length-append b y)) e).0

  pub one_words : (text : List ℕ) (ws vs : List (List ℕ)) → IsRequest limits text ws → IsRequest limits text vs → ws ≡ vs
  one_words text ws vs r q = (same_requests text text [] [] ws vs r q refl).0

  one_place_fault : (f g : Fault) (front : List ℕ) (byte : ℕ) → HasFault limits f front byte → HasFault limits g front byte → f ≡ g
  one_place_fault f g front byte (inl a) (inl b) = one_fault_at limits f g front byte a.1 b.1
  one_place_fault f g front byte (inl a) (inr b) = absurd (b.0 a.0)
  one_place_fault f g front byte (inr a) (inl b) = absurd (a.0 b.0)
  one_place_fault f g front byte (inr a) (inr b) = one_inline_fault f g front byte a.1 b.1

  pub one_fault : (input : List ℕ) (f g : Fault) (p : Fails (IsText limits) (HasFault limits f) input) (q : Fails (IsText limits) (HasFault limits g) input) → (p.front ≡ q.front) × (p.byte ≡ q.byte) × (f ≡ g)
  one_fault input f g p q =
      let same = same_front (IsText limits) (HasFault limits f) (HasFault limits g) input p q in (
        same.0,
        same.1,
        one_place_fault f g q.front q.byte (subst (λ (x : List ℕ). HasFault limits f x q.byte) same.0 (subst (λ (n : ℕ). HasFault limits f p.front n) same.1 p.fault)) q.fault,
      )

  -- a beginning that is a text leaves no other answer
  text_no_more : (input : List ℕ) (used : ℕ) → IsText limits (take used input) → Continues (IsText limits) input → ⊥
  text_no_more input used t h = text_wants_no_more (take used input) (drop used input) t (subst (λ (x : List ℕ). Continues (IsText limits) x) (sym (take-append-drop used input)) h)

  text_no_fault : (input : List ℕ) (used : ℕ) → IsText limits (take used input) → IsDoomed (IsText limits) input → ⊥
  text_no_fault input used t d = doomed_no_text (IsText limits) (take used input) (drop used input) t (subst (λ (x : List ℕ). IsDoomed (IsText limits) x) (sym (take-append-drop used input)) d)

  halves : (input : List ℕ) (m n : ℕ) → take m input ++ drop m input ≡ take n input ++ drop n input
  halves input m n = take-append-drop m input ∙ sym (take-append-drop n input)

  same_used : (input : List ℕ) (m n : ℕ) → m ≤ length input → n ≤ length input → drop m input ≡ drop n input → m ≡ n
  same_used input m n a b e = omega (arith, ap length e, length-drop m input, length-drop n input, a, b)

  pub one_answer : (input : List ℕ) (s t : Scan) → Reads limits input s → Reads limits input t → outcome_of s ≡ outcome_of t
  one_answer input (Whole ws m) (Whole vs n) p q =
      let both = same_requests (take m input) (take n input) (drop m input) (drop n input) (map cow_slice_items ws.items) (map cow_slice_items vs.items) p.1 q.1 (halves input m n) in
      let same : m ≡ n = same_used input m n p.0 q.0 both.1 in
      ap (λ (x : List (List ℕ)). request x m) both.0 ∙ ap (λ (k : ℕ). request (map cow_slice_items vs.items) k) same
  one_answer input (Whole ws m) (Skip n) p q = absurd (not_empty (take m input) (take n input) (drop m input) (drop n input) (map cow_slice_items ws.items) p.1 q.1 (halves input m n))
  one_answer input (Whole ws m) More p q = absurd (text_no_more input m (inl (map cow_slice_items ws.items, p.1)) q)
  one_answer input (Whole ws m) (Bad f) p q = absurd (text_no_fault input m (inl (map cow_slice_items ws.items, p.1)) (fails_doomed (IsText limits) (HasFault limits f) input q))
  one_answer input (Skip m) (Whole vs n) p q = absurd (not_empty (take n input) (take m input) (drop n input) (drop m input) (map cow_slice_items vs.items) q.1 p.1 (halves input n m))
  one_answer input (Skip m) (Skip n) p q = ap nothing (same_used input m n p.0 q.0 (one_text (take m input) (take n input) (drop m input) (drop n input) (inr p.1) (inr q.1) (halves input m n)))
  one_answer input (Skip m) More p q = absurd (text_no_more input m (inr p.1) q)
  one_answer input (Skip m) (Bad f) p q = absurd (text_no_fault input m (inr p.1) (fails_doomed (IsText limits) (HasFault limits f) input q))
  one_answer input More (Whole vs n) p q = absurd (text_no_more input n (inl (map cow_slice_items vs.items, q.1)) p)
  one_answer input More (Skip n) p q = absurd (text_no_more input n (inr q.1) p)
  one_answer input More More p q = refl
  one_answer input More (Bad f) p q = absurd (doomed_no_more (IsText limits) input (fails_doomed (IsText limits) (HasFault limits f) input q) p)
  one_answer input (Bad f) (Whole vs n) p q = absurd (text_no_fault input n (inl (map cow_slice_items vs.items, q.1)) (fails_doomed (IsText limits) (HasFault limits f) input p))
  one_answer input (Bad f) (Skip n) p q = absurd (text_no_fault input n (inr q.1) (fails_doomed (IsText limits) (HasFault limits f) input p))
  one_answer input (Bad f) More p q = absurd (doomed_no_more (IsText limits) input (fails_doomed (IsText limits) (HasFault limits f) input p) q)
  one_answer input (Bad f) (Bad g) p q = ap faulty (one_fault input f g p q).2

  -- A request at the front is the answer.
  pub front_read : (text : List ℕ) (words : List (List ℕ)) (rest : List ℕ) (scan : Scan) → IsRequest limits text words → Reads limits (text ++ rest) scan → outcome_of scan ≡ request words (length text)
  front_read text words rest (Whole ws n) r p =
      let both = same_requests (take n (text ++ rest)) text (drop n (text ++ rest)) rest (map cow_slice_items ws.items) words p.1 r (take-append-drop n (text ++ rest)) in
      let same : n ≡ length text = omega (arith, ap length both.1, length-drop n (text ++ rest), length-append text rest, p.0) in
      ap (λ (x : List (List ℕ)). request x n) both.0 ∙ ap (λ (k : ℕ). request words k) same
  front_read text words rest (Skip n) r p = absurd (not_empty text (take n (text ++ rest)) rest (drop n (text ++ rest)) words r p.1 (sym (take-append-drop n (text ++ rest))))
  front_read text words rest More r p = absurd (text_wants_no_more text rest (inl (words, r)) p)
  front_read text words rest (Bad f) r p = absurd (doomed_no_text (IsText limits) text rest (inl (words, r)) (fails_doomed (IsText limits) (HasFault limits f) (text ++ rest) p))

  pub written_read : (words : List (List ℕ)) (rest : List ℕ) (scan : Scan) → IsArray limits (array words) words → Reads limits (array words ++ rest) scan → outcome_of scan ≡ request words (length (array words))
  written_read words rest scan r p = front_read (array words) words rest scan (inl r) p

  pub quoted_read : (words : List (List ℕ)) (rest : List ℕ) (scan : Scan) → 0 < length words → length (quoted_line words) ≤ line_limit + 1 → Reads limits (quoted_line words ++ rest) scan
      → outcome_of scan ≡ request words (length (quoted_line words))
  quoted_read words rest scan some size p = front_read (quoted_line words) words rest scan (inr (some, quoted_is_read line_limit words size)) p

  pub doomed_bad : (input : List ℕ) (scan : Scan) → IsDoomed (IsText limits) input → Reads limits input scan → IsBad scan
  doomed_bad input (Whole ws n) d p = absurd (text_no_fault input n (inl (map cow_slice_items ws.items, p.1)) d)
  doomed_bad input (Skip n) d p = absurd (text_no_fault input n (inr p.1) d)
  doomed_bad input More d p = absurd (doomed_no_more (IsText limits) input d p)
  doomed_bad input (Bad f) d p = tt

-- a server's limit on words is above that on lines
pub words_fit : (text : List ℕ) (words : List (List ℕ)) → IsRequest usual text words → All (λ word. length word ≤ usual.word) words
words_fit text words (inl r) = r.each
words_fit text words (inr r) = (let each = line_words.words_within line_limit text words r.1 in λ k d lt. omega (arith, each k d lt, usual-word))

-- .. and its limit on their number above the bytes of a line
pub words_few : (text : List ℕ) (words : List (List ℕ)) → IsRequest usual text words → length words ≤ usual.words
words_few text words (inl r) = r.count
words_few text words (inr r) = omega (arith, line_words.words_few line_limit text words r.1, usual-words)
