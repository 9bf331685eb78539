-- Lines, their beginnings and what begins none, by where the bytes lead.
use Rattle.std.proofs.Common.{◌≡◌, ◌≢◌, ℕ, ◌+◌, ◌<◌, ◌≤◌, ◌⊎◌, inl, inr, Bool, true, false, cond, ◌==◌, List, [], ◌∷◌, ◌++◌, length, map, refl, sym, ap, ◌∙◌, subst, append_assoc, arith}
use Rattle.std.specs.List.{flat_map, AllZip}
use Rattle.std.proofs.lemmas.Bool.{eqb-true, eqb-false}
use Rattle.std.proofs.lemmas.List.{append-nil, length-append, append_cancel_right, same_from_push}
use Rattle.mr_inline.specs.Bytes.{line_feed, star}
use Rattle.mr_inline.specs.Language.{Continues, IsDoomed, Fails}
use Rattle.mr_inline.specs.Line.{IsNext, part_text, part_value, IsLineOf, IsLineText, HasLineFault}
use Rattle.mr_inline.specs.Places.{kind_of, turn_at, turn_of, need_of, starts_from, words_from}
use Rattle.mr_inline.specs.declared.fault.LineFault.{LineFault}
use Rattle.mr_inline.specs.declared.fault.LineFault.TheVariants.{UnbalancedQuotes, TooBig}
use Rattle.mr_inline.specs.declared.place.Kind.TheVariants.{LineFeed}
use Rattle.mr_inline.specs.declared.place.Place.{Place}
use Rattle.mr_inline.specs.declared.place.Place.TheVariants.{Between, Plain, Double, DoubleEscape, Single, SingleEscape, Closed}
use Rattle.mr_inline.specs.declared.place.Turn.{Turn}
use Rattle.mr_inline.specs.declared.place.Turn.TheVariants.{Goes, Ends, Breaks}
use Rattle.mr_inline.proofs.ByteKinds.{kind-line_feed}
use Rattle.mr_inline.proofs.Runs.{run, run-append, never_ends, ended, goes_no_more, rank_run, closing, run-closing, length-closing, bytes_closing}
use Rattle.mr_inline.proofs.ParseTrees.{tree}
use Rattle.mr_inline.proofs.LineTexts.{IsStartOf, ends_line, values_are}

pub turn_of-line : (limit : ℕ) (text : List ℕ) (words : List (List ℕ)) → IsLineOf limit text words → turn_of text ≡ Ends
turn_of-line limit text words t =
    let l = ends_line t.parts t.after t.are_parts t.separators in
    ap (run (Goes Between)) t.spelled ∙ l.run_is

pub words_of_line : (limit : ℕ) (text line : List ℕ) (words : List (List ℕ)) → IsLineOf limit text words → text ≡ line ++ line_feed ∷ [] → words ≡ words_from Between line
words_of_line limit text line words t e =
    let l = ends_line t.parts t.after t.are_parts t.separators in
    let same : line ≡ flat_map part_text t.parts ++ t.after = append_cancel_right line (flat_map part_text t.parts ++ t.after) (line_feed ∷ []) (sym e ∙ t.spelled) in
    t.means ∙ sym (ap (words_from Between) same ∙ values_are t.parts (starts_from Between (flat_map part_text t.parts ++ t.after)) l.starts)

-- the words of a line begin where those of its parse do
pub starts_of_line : (limit : ℕ) (text line : List ℕ) (words : List (List ℕ)) (last : ℕ) (t : IsLineOf limit text words) → text ≡ line ++ last ∷ [] → AllZip IsStartOf t.parts (starts_from Between line)
starts_of_line limit text line words last t e =
    let body : List ℕ = flat_map part_text t.parts ++ t.after in
    let same = same_from_push line body last line_feed (sym e ∙ t.spelled) in
    subst (λ (x : List ℕ). AllZip IsStartOf t.parts (starts_from Between x)) (sym same.0) (ends_line t.parts t.after t.are_parts t.separators).starts

pub record SomeLine (limit : ℕ) (text : List ℕ) : Type 0 where
  pub words : List (List ℕ)
  pub line : IsLineOf limit text words

pub some_line : (limit : ℕ) (text : List ℕ) → turn_of text ≡ Ends → length text ≤ limit + 1 → (IsNext star text → ⊥) → SomeLine limit text
some_line limit text e size none =
    let t = tree text Between e in
    record { words = map part_value t.parts; line = record { parts = t.parts; after = t.after; spelled = t.spelled; are_parts = t.are_parts; separators = t.separators; means = refl; size = size; no_array = none } }

-- what leads to the end of a line is the line of the words that begin in it
pub line_of_run : (limit : ℕ) (text line : List ℕ) (last : ℕ) → turn_of text ≡ Ends → length text ≤ limit + 1 → (IsNext star text → ⊥) → text ≡ line ++ last ∷ [] → IsLineOf limit text (words_from Between line)
line_of_run limit text line last e size none is =
    let l = some_line limit text e size none in
    let body : List ℕ = flat_map part_text l.line.parts ++ l.line.after in
    let same = same_from_push line body last line_feed (sym is ∙ l.line.spelled) in
    subst (IsLineOf limit text) (words_of_line limit text line l.words l.line (l.line.spelled ∙ ap (λ (x : List ℕ). x ++ line_feed ∷ []) (sym same.0))) l.line

pub to_text : (limit : ℕ) (text : List ℕ) (words : List (List ℕ)) → IsLineOf limit text words → IsLineText limit text
to_text limit text [] l = inr l
to_text limit text (word ∷ words) l = inl (word ∷ words, (omega arith, l))

pub from_text : (limit : ℕ) (text : List ℕ) → IsLineText limit text → SomeLine limit text
from_text limit text (inl l) = record { words = l.0; line = l.1.1 }
from_text limit text (inr l) = record { words = []; line = l }

-- The bytes are a beginning of a line that lead to this place, and there is room for its end.
pub record IsOpen (limit : ℕ) (place : Place) (bytes : List ℕ) : Type 0 where
  pub leads : turn_of bytes ≡ Goes place
  pub room : length bytes + need_of place ≤ limit
  pub no_array : IsNext star bytes → ⊥

no_star : (xs ys : List ℕ) → (IsNext star xs → ⊥) → (IsNext star ys → ⊥) → IsNext star (xs ++ ys) → ⊥
no_star [] ys f g h = g h
no_star (x ∷ xs) ys f g h = f h

closing_no_star : (place : Place) → IsNext star (closing place) → ⊥
closing_no_star Between h = omega (arith, h)
closing_no_star Plain h = omega (arith, h)
closing_no_star Double h = omega (arith, h)
closing_no_star DoubleEscape h = omega (arith, h)
closing_no_star Single h = omega (arith, h)
closing_no_star SingleEscape h = omega (arith, h)
closing_no_star Closed h = omega (arith, h)

pub continues : (limit : ℕ) (place : Place) (bytes : List ℕ) → IsOpen limit place bytes → Continues (IsLineText limit) bytes
continues limit place bytes o =
    let more = closing place in
    let ends : turn_of (bytes ++ more) ≡ Ends = run-append (Goes Between) bytes more ∙ ap (λ t. run t more) o.leads ∙ run-closing place in
    let size : length (bytes ++ more) ≤ limit + 1 = omega (arith, length-append bytes more, length-closing place, o.room) in
    let l = some_line limit (bytes ++ more) ends size (no_star bytes more o.no_array (closing_no_star place)) in
    record { more = more; some = omega (arith, length-closing place); are_bytes = bytes_closing place; whole = to_text limit (bytes ++ more) l.words l.line }

-- of two beginnings of one list, one begins the other
pub split : (xs ys cs bs : List ℕ) → xs ++ ys ≡ cs ++ bs → ((z : List ℕ) × (cs ≡ xs ++ z) × (ys ≡ z ++ bs)) ⊎ ((z : List ℕ) × (xs ≡ cs ++ z) × (bs ≡ z ++ ys))
split [] ys cs bs e = inl (cs, refl, e)
split (x ∷ xs) ys [] bs e = inr (x ∷ xs, refl, sym e)
split (x ∷ xs) ys (a ∷ cs) bs e =
    let head : x ≡ a = cc in
    let tails : xs ++ ys ≡ cs ++ bs = cc in
    elim (split xs ys cs bs tails) [
      | inl p ↦ (let front : cs ≡ xs ++ p.0 = p.1 in inl (p.0, (cc), p.2))
      | inr p ↦ (let front : xs ≡ cs ++ p.0 = p.1 in inr (p.0, (cc), p.2))
    ]

-- A line that has so many bytes and one more, and then goes on like this, has no end or is too long.
abbrev pub Dead : ℕ → ℕ → Turn → Type 0
Dead limit n (Goes place) = limit < n + 1 + need_of place
Dead limit n Ends = ⊥
Dead limit n Breaks = Unit {0}

dead_turn : (limit n : ℕ) (turn : Turn) (xs : List ℕ) → Dead limit n turn → run turn xs ≡ Ends → n + 1 + length xs ≤ limit + 1 → ⊥
dead_turn limit n (Goes place) xs d e size = omega (arith, rank_run xs (Goes place) e, d)
dead_turn limit n Ends xs d e size = d
dead_turn limit n Breaks xs d e size = never_ends xs e

run_front : (turn : Turn) (xs ys cs : List ℕ) → cs ≡ xs ++ ys → run turn cs ≡ run (run turn xs) ys
run_front turn xs ys cs e = ap (run turn) e ∙ run-append turn xs ys

doomed_more : (limit : ℕ) (place : Place) (front : List ℕ) (b : ℕ) → IsOpen limit place front → Dead limit (length front) (turn_at place (kind_of b)) → (more text rest z : List ℕ) → turn_of text ≡ Ends → length text ≤ limit + 1 → text ≡ front ++ z → b ∷ more ≡ z ++ rest → ⊥
doomed_more limit place front b o d more text rest [] ends size e f =
    let same : turn_of text ≡ Goes place = run_front (Goes Between) front [] text e ∙ o.leads in
    let both : Goes place ≡ Ends = sym same ∙ ends in cc
doomed_more limit place front b o d more text rest (c ∷ z) ends size e f =
    let head : c ≡ b = cc in
    let all : run (turn_at place (kind_of c)) z ≡ Ends = sym (run_front (Goes Between) front (c ∷ z) text e ∙ ap (λ t. run t (c ∷ z)) o.leads) ∙ ends in
    let long : length text ≡ length front + (length z + 1) = ap length e ∙ omega (arith, length-append front (c ∷ z)) in
    dead_turn limit (length front) (turn_at place (kind_of b)) z d (subst (λ (x : ℕ). run (turn_at place (kind_of x)) z ≡ Ends) head all) (omega arith)

pub doomed : (limit : ℕ) (place : Place) (front : List ℕ) (b : ℕ) → IsOpen limit place front → Dead limit (length front) (turn_at place (kind_of b)) → IsDoomed (IsLineText limit) (front ++ b ∷ [])
doomed limit place front b o d = record {
  never = λ more text rest t e.
      let l = from_text limit text t in
      let ends = turn_of-line limit text l.words l.line in
      let both : front ++ b ∷ more ≡ text ++ rest = sym (append_assoc front (b ∷ []) more) ∙ e in
      elim (split front (b ∷ more) text rest both) [
        | inl p ↦ doomed_more limit place front b o d more text rest p.0 ends l.line.size p.1 p.2
        | inr p ↦ goes_no_more p.0 place (sym (run_front (Goes Between) text p.0 front p.1 ∙ ap (λ t. run t p.0) ends) ∙ o.leads)
      ];
}

feed_ends : (place : Place) → need_of place ≡ 0 → turn_at place LineFeed ≡ Ends
feed_ends Between e = refl
feed_ends Plain e = refl
feed_ends Double e = absurd (omega (arith, e))
feed_ends DoubleEscape e = absurd (omega (arith, e))
feed_ends Single e = absurd (omega (arith, e))
feed_ends SingleEscape e = absurd (omega (arith, e))
feed_ends Closed e = refl

no_feed : (limit : ℕ) (place : Place) (front : List ℕ) (b : ℕ) → IsOpen limit place front → length front ≡ limit → Dead limit (length front) (turn_at place (kind_of b)) → b ≢ line_feed
no_feed limit place front b o full d e =
    let ends : turn_at place (kind_of b) ≡ Ends = ap (turn_at place) (ap kind_of e ∙ kind-line_feed) ∙ feed_ends place (omega (arith, o.room)) in
    subst (Dead limit (length front)) ends d

abbrev pub fault_of : ℕ → ℕ → LineFault
fault_of limit n = cond (n == limit) TooBig UnbalancedQuotes

fault_by : (t : Bool) (limit : ℕ) (place : Place) (front : List ℕ) (b : ℕ) → (length front == limit) ≡ t → IsOpen limit place front → Dead limit (length front) (turn_at place (kind_of b)) → HasLineFault limit (cond t TooBig UnbalancedQuotes) front b
fault_by true limit place front b e o d = let full = eqb-true (length front) limit e in (full, no_feed limit place front b o full d)
fault_by false limit place front b e o d = λ h. eqb-false (length front) limit e h.0

pub fails : (limit : ℕ) (place : Place) (bytes front rest : List ℕ) (b : ℕ) → IsOpen limit place front → bytes ≡ front ++ b ∷ rest → Dead limit (length front) (turn_at place (kind_of b)) → Fails (IsLineText limit) (HasLineFault limit (fault_of limit (length front))) bytes
fails limit place bytes front rest b o e d = record {
  front = front;
  byte = b;
  rest = rest;
  is = e;
  before = continues limit place front o;
  doomed = doomed limit place front b o d;
  fault = fault_by (length front == limit) limit place front b refl o d;
}

-- laws

record Same (a b x y : List ℕ) : Type 0 where
  text : a ≡ b
  rest : x ≡ y

ended_same : (a b z : List ℕ) → turn_of a ≡ Ends → turn_of b ≡ Ends → b ≡ a ++ z → z ≡ []
ended_same a b z ea eb e = ended z (sym (run_front (Goes Between) a z b e ∙ ap (λ t. run t z) ea) ∙ eb)

same_line : (a b x y : List ℕ) → turn_of a ≡ Ends → turn_of b ≡ Ends → a ++ x ≡ b ++ y → Same a b x y
same_line a b x y ea eb e =
    elim (split a x b y e) [
      | inl p ↦ (let nil = ended_same a b p.0 ea eb p.1 in record { text = sym (p.1 ∙ ap (λ (z : List ℕ). a ++ z) nil ∙ append-nil a); rest = p.2 ∙ ap (λ (z : List ℕ). z ++ y) nil })
      | inr p ↦ (let nil = ended_same b a p.0 eb ea p.1 in record { text = p.1 ∙ ap (λ (z : List ℕ). b ++ z) nil ∙ append-nil b; rest = sym (p.2 ∙ ap (λ (z : List ℕ). z ++ x) nil) })
    ]

ends_text : (limit : ℕ) (text : List ℕ) → IsLineText limit text → turn_of text ≡ Ends
ends_text limit text t = let l = from_text limit text t in turn_of-line limit text l.words l.line

pub apart : (limit : ℕ) (a b x y : List ℕ) → IsLineText limit a → IsLineText limit b → a ++ x ≡ b ++ y → x ≡ y
apart limit a b x y ta tb e = (same_line a b x y (ends_text limit a ta) (ends_text limit b tb) e).rest

pub one_list : (limit : ℕ) (a b x y : List ℕ) (ws vs : List (List ℕ)) → IsLineOf limit a ws → IsLineOf limit b vs → a ++ x ≡ b ++ y → ws ≡ vs
one_list limit a b x y ws vs la lb e =
    let same = (same_line a b x y (turn_of-line limit a ws la) (turn_of-line limit b vs lb) e).text in
    let line : List ℕ = flat_map part_text la.parts ++ la.after in
    words_of_line limit a line ws la la.spelled ∙ sym (words_of_line limit b line vs lb (sym same ∙ la.spelled))

pub wants_no_more : (limit : ℕ) (text rest : List ℕ) → IsLineText limit text → Continues (IsLineText limit) (text ++ rest) → ⊥
wants_no_more limit text rest t c =
    let all : List ℕ = (text ++ rest) ++ c.more in
    let e : text ++ (rest ++ c.more) ≡ all ++ [] = sym (append_assoc text rest c.more) ∙ sym (append-nil all) in
    let nil : rest ++ c.more ≡ [] = apart limit text all (rest ++ c.more) [] t c.whole e in
    omega (arith, ap length nil, length-append rest c.more, c.some)

module _ (limit : ℕ) (bytes : List ℕ) where
  record SamePlace (f g : LineFault) (p : Fails (IsLineText limit) (HasLineFault limit f) bytes) (q : Fails (IsLineText limit) (HasLineFault limit g) bytes) : Type 0 where
    front : p.front ≡ q.front
    byte : p.byte ≡ q.byte

  same_place : (f g : LineFault) (p : Fails (IsLineText limit) (HasLineFault limit f) bytes) (q : Fails (IsLineText limit) (HasLineFault limit g) bytes) (z : List ℕ) → q.front ≡ p.front ++ z → p.byte ∷ p.rest ≡ z ++ (q.byte ∷ q.rest) → SamePlace f g p q
  same_place f g p q [] e is = record { front = sym (e ∙ append-nil p.front); byte = let both : p.byte ∷ p.rest ≡ q.byte ∷ q.rest = is in cc }
  same_place f g p q (c ∷ z) e is =
      let head : c ≡ p.byte = cc in
      let front : q.front ≡ p.front ++ p.byte ∷ z = e ∙ ap (λ (x : ℕ). p.front ++ x ∷ z) head in
      let more : List ℕ = q.before.more in
      let all : (p.front ++ p.byte ∷ []) ++ (z ++ more) ≡ (q.front ++ more) ++ [] =
      append_assoc p.front (p.byte ∷ []) (z ++ more) ∙ sym (append_assoc p.front (p.byte ∷ z) more) ∙ ap (λ (x : List ℕ). x ++ more) (sym front) ∙ sym (append-nil (q.front ++ more)) in
      absurd (p.doomed.never (z ++ more) (q.front ++ more) [] q.before.whole all)

has_one_fault : (limit : ℕ) (front : List ℕ) (b : ℕ) (f g : LineFault) → HasLineFault limit f front b → HasLineFault limit g front b → f ≡ g
has_one_fault limit front b UnbalancedQuotes UnbalancedQuotes h k = refl
has_one_fault limit front b UnbalancedQuotes TooBig h k = absurd (h k)
has_one_fault limit front b TooBig UnbalancedQuotes h k = absurd (k h)
has_one_fault limit front b TooBig TooBig h k = refl

same_fault : (limit : ℕ) (x y : List ℕ) (b c : ℕ) (f g : LineFault) → x ≡ y → b ≡ c → HasLineFault limit f x b → HasLineFault limit g y c → f ≡ g
same_fault limit x y b c f g e d h k = has_one_fault limit y c f g (subst (λ (n : ℕ). HasLineFault limit f y n) d (subst (λ (l : List ℕ). HasLineFault limit f l b) e h)) k

pub only_fault : (limit : ℕ) (f g : LineFault) (bytes : List ℕ) → Fails (IsLineText limit) (HasLineFault limit f) bytes → Fails (IsLineText limit) (HasLineFault limit g) bytes → f ≡ g
only_fault limit f g bytes p q =
    elim (split p.front (p.byte ∷ p.rest) q.front (q.byte ∷ q.rest) (sym p.is ∙ q.is)) [
      | inl z ↦ (let s = same_place limit bytes f g p q z.0 z.1 z.2 in same_fault limit p.front q.front p.byte q.byte f g s.front s.byte p.fault q.fault)
      | inr z ↦ (let s = same_place limit bytes g f q p z.0 z.1 z.2 in sym (same_fault limit q.front p.front q.byte p.byte g f s.front s.byte q.fault p.fault))
    ]
