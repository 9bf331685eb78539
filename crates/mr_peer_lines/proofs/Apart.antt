-- No line begins another, and an input has one answer.
use Rattle.std.proofs.Common.{◌≡◌, ℕ, ◌<◌, inl, inr, List, [], ◌∷◌, ◌++◌, length, take, drop, refl, sym, ap, ◌∙◌, append_assoc, arith, length-append}
use Rattle.std.specs.Fmt.{decimal}
use Rattle.std.proofs.lemmas.Fmt.{decimal_injective}
use Rattle.std.proofs.lemmas.List.{length-take-le, take-append-drop, append-nil}
use Rattle.mr_inline.specs.Language.{Continues}
use Rattle.mr_resp.specs.Spelling.{line_end}
use Rattle.mr_resp.proofs.OneFault.{doomed_no_more, doomed_no_text}
use Rattle.mr_peer_lines.specs.Lines.{Line, status, refusal, size, Says, IsLine, IsLineText, IsPeerLine, SaysNothing, ReadsLine, read, unfinished, outcome_of, line_of}
use Rattle.mr_peer_lines.specs.declared.line.PeerLine.{PeerLine}
use Rattle.mr_peer_lines.specs.declared.line.PeerLineScan.{PeerLineScan}
use Rattle.mr_peer_lines.specs.declared.line.PeerLineScan.TheVariants.{Whole, More, Bad}
use Rattle.mr_peer_lines.proofs.Plain.{meet}
use Rattle.mr_peer_lines.proofs.Ends.{is_plain, lined}

same_front : (a b x y front body : List ℕ) → IsLine a front → IsLine b body → a ++ x ≡ b ++ y → front ≡ body
same_front a b x y front body l m e =
    let begins : front ++ 13 ∷ 10 ∷ x ≡ body ++ 13 ∷ 10 ∷ y = sym (lined a front x l) ∙ e ∙ lined b body y m in
    (meet is_plain front body (10 ∷ x) (10 ∷ y) 13 13 l.plain m.plain refl refl begins).0

pub apart : (a b x y : List ℕ) → IsLineText a → IsLineText b → a ++ x ≡ b ++ y → a ≡ b
apart a b x y p q e = p.1.ended ∙ ap (λ (f : List ℕ). f ++ line_end) (same_front a b x y p.0 q.0 p.1 q.1 e) ∙ sym q.1.ended

heads : (a b : ℕ) (x y : List ℕ) → a ∷ x ≡ b ∷ y → a ≡ b
heads a b x y e = cc

tails : (a b : ℕ) (x y : List ℕ) → a ∷ x ≡ b ∷ y → x ≡ y
tails a b x y e = cc

-- what stands before the end says one thing
one_says : (front : List ℕ) (l m : Line) → Says front l → Says front m → l ≡ m
one_says front (status a) (status b) p q = ap status (tails 43 43 (a) (b) (sym p ∙ q))
one_says front (status a) (refusal b) p q = absurd (omega (arith, heads 43 45 (a) (b) (sym p ∙ q)))
one_says front (status a) (size n) p q = absurd (omega (arith, heads 43 36 (a) (decimal n) (sym p ∙ q.0)))
one_says front (refusal a) (status b) p q = absurd (omega (arith, heads 45 43 (a) (b) (sym p ∙ q)))
one_says front (refusal a) (refusal b) p q = ap refusal (tails 45 45 (a) (b) (sym p ∙ q))
one_says front (refusal a) (size n) p q = absurd (omega (arith, heads 45 36 (a) (decimal n) (sym p ∙ q.0)))
one_says front (size n) (status b) p q = absurd (omega (arith, heads 36 43 (decimal n) (b) (sym p.0 ∙ q)))
one_says front (size n) (refusal b) p q = absurd (omega (arith, heads 36 45 (decimal n) (b) (sym p.0 ∙ q)))
one_says front (size n) (size k) p q =
    let digits = tails 36 36 (decimal n) (decimal k) (sym p.0 ∙ q.0) in
    let few = p.1 in let few' = q.1 in
    ap size (decimal_injective n k (omega arith) (omega arith) digits)

same_line : (a b x y : List ℕ) (l m : Line) → IsPeerLine a l → IsPeerLine b m → a ++ x ≡ b ++ y → l ≡ m
same_line a b x y l m p q e =
    let fronts = same_front a b x y p.front q.front p.whole q.whole e in
    one_says q.front l m (rw fronts at p.says) q.says

pub one_line : (text : List ℕ) (l m : Line) → IsPeerLine text l → IsPeerLine text m → l ≡ m
one_line text l m p q = same_line text text [] [] l m p q refl

-- where a line's end is there, it isn't waited for
no_more : (text rest : List ℕ) → IsLineText text → Continues IsLineText (text ++ rest) → ⊥
no_more text rest p h =
    let same = apart text ((text ++ rest) ++ h.more) (rest ++ h.more) [] p h.whole (sym (append_assoc text rest h.more) ∙ sym (append-nil ((text ++ rest) ++ h.more))) in
    let some = h.some in
    omega (arith, ap length same, length-append (text ++ rest) h.more, length-append text rest)

line_text : (text : List ℕ) (l : Line) → IsPeerLine text l → IsLineText text
line_text text l p = (p.front, p.whole)

-- a line that begins the input says something, or it doesn't
not_nothing : (text rest input : List ℕ) (l : Line) → IsPeerLine text l → input ≡ text ++ rest → SaysNothing input → ⊥
not_nothing text rest input l p e n =
    let fronts = same_front text n.text rest n.rest p.front n.front p.whole n.whole (sym e ∙ n.begins) in
    n.nothing l (rw fronts at p.says)

-- a line that begins the input is what is answered
pub front_read : (text rest : List ℕ) (l : Line) (scan : PeerLineScan) → IsPeerLine text l → ReadsLine (text ++ rest) scan → outcome_of scan ≡ read l (length text)
front_read text rest l (Whole line used) p r =
    let input = text ++ rest in
    let other = take used input in
    let halves : text ++ rest ≡ other ++ drop used input = sym (take-append-drop used input) in
    let same = apart text other rest (drop used input) (line_text text l p) (line_text other (line_of line) r.1) halves in
    let says = same_line other text (drop used input) rest (line_of line) l r.1 p (sym halves) in
    let sizes : used ≡ length text = sym (length-take-le used input r.0) ∙ ap length (sym same) in
    λ i. read (says i) (sizes i)
front_read text rest l More p r = absurd (no_more text rest (line_text text l p) r)
front_read text rest l Bad p (inl r) = absurd (doomed_no_text IsLineText text rest (line_text text l p) r)
front_read text rest l Bad p (inr r) = absurd (not_nothing text rest (text ++ rest) l p refl r)

-- before the end of a line nothing is answered
pub beginning_waits : (input rest : List ℕ) (scan : PeerLineScan) → IsLineText (input ++ rest) → 0 < length rest → ReadsLine input scan → outcome_of scan ≡ unfinished
beginning_waits input rest (Whole line used) p some r =
    let text = take used input in
    let all : text ++ (drop used input ++ rest) ≡ (input ++ rest) ++ [] = sym (append_assoc text (drop used input) rest) ∙ ap (λ (l : List ℕ). l ++ rest) (take-append-drop used input) ∙ sym (append-nil (input ++ rest)) in
    let same = apart text (input ++ rest) (drop used input ++ rest) [] (line_text text (line_of line) r.1) p all in
    absurd (omega (arith, ap length same, length-append input rest, length-take-le used input r.0, r.0))
beginning_waits input rest More p some r = refl
beginning_waits input rest Bad p some (inl r) = absurd (r.never rest (input ++ rest) [] p (sym (append-nil (input ++ rest))))
beginning_waits input rest Bad p some (inr r) =
    let all : r.text ++ (r.rest ++ rest) ≡ (input ++ rest) ++ [] = sym (append_assoc r.text r.rest rest) ∙ ap (λ (l : List ℕ). l ++ rest) (sym r.begins) ∙ sym (append-nil (input ++ rest)) in
    let same = apart r.text (input ++ rest) (r.rest ++ rest) [] (r.front, r.whole) p all in
    absurd (omega (arith, ap length same, length-append input rest, ap length r.begins, length-append r.text r.rest))

whole_only : (input : List ℕ) (line : PeerLine) (used : ℕ) (scan : PeerLineScan) → ReadsLine input (Whole line used) → ReadsLine input scan → outcome_of (Whole line used) ≡ outcome_of scan
whole_only input line used scan r s =
    let text = take used input in
    let halves : text ++ drop used input ≡ input = take-append-drop used input in
    let found = front_read text (drop used input) (line_of line) scan r.1 (rw halves s) in
    let sizes = length-take-le used input r.0 in
    sym (found ∙ ap (λ (n : ℕ). read (line_of line) n) sizes)

more_or_bad : (input : List ℕ) → ReadsLine input More → ReadsLine input Bad → ⊥
more_or_bad input r (inl s) = doomed_no_more IsLineText input s r
more_or_bad input r (inr s) = no_more s.text s.rest (s.front, s.whole) (rw s.begins at r)

pub one_answer : (input : List ℕ) (s t : PeerLineScan) → ReadsLine input s → ReadsLine input t → outcome_of s ≡ outcome_of t
one_answer input (Whole line used) t r q = whole_only input line used t r q
one_answer input More (Whole line used) r q = sym (whole_only input line used More q r)
one_answer input More More r q = refl
one_answer input More Bad r q = absurd (more_or_bad input r q)
one_answer input Bad (Whole line used) r q = sym (whole_only input line used Bad q r)
one_answer input Bad More r q = absurd (more_or_bad input q r)
one_answer input Bad Bad r q = refl
