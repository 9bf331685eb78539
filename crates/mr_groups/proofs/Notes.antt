-- Notes at the front of bytes.
use Rattle.std.proofs.Common.{◌≡◌, ◌≢◌, ℕ, ◌+◌, ◌<◌, ◌≤◌, List, [], ◌∷◌, ◌++◌, inl, inr, length, take, drop, get_or, min, refl, sym, ap, subst, ◌∙◌, append_assoc, arith, All, take-add}
use Rattle.std.proofs.lemmas.Bool.{cases_lt}
use Rattle.std.proofs.lemmas.List.{append-nil, get_or-take, take_more, length-append, length-take, length-take-le, take-append-drop, take-take, take_all}
use Rattle.std.proofs.lemmas.List.Elements.{All-nil, All-head, All-tail}
use Rattle.mr_inline.specs.Bytes.{line_feed}
use Rattle.mr_groups.specs.Notes.{mark, note_limit, IsNoFeed, IsNoteLine, note_text, IsFirstNote, BeginsWithNote, IsOpenNote, HasNoNote}

pub head_is : (a b : ℕ) (xs ys : List ℕ) → a ∷ xs ≡ b ∷ ys → a ≡ b
head_is a b xs ys e = cc

pub tail_is : (a b : ℕ) (xs ys : List ℕ) → a ∷ xs ≡ b ∷ ys → xs ≡ ys
tail_is a b xs ys e = cc

-- ---- lines

both_heads : (a b : ℕ) (xs ys : List ℕ) → a ≡ b → xs ≡ ys → a ∷ xs ≡ b ∷ ys
both_heads a b xs ys p q = cc

one_line : (l k x y : List ℕ) → All IsNoFeed l → All IsNoFeed k → l ++ line_feed ∷ x ≡ k ++ line_feed ∷ y → (l ≡ k) × (x ≡ y)
one_line [] [] x y p q e = (refl, tail_is line_feed line_feed x y e)
one_line [] (b ∷ k) x y p q e = absurd (All-head IsNoFeed b k q (sym (head_is line_feed b x (k ++ line_feed ∷ y) e)))
one_line (a ∷ l) [] x y p q e = absurd (All-head IsNoFeed a l p (head_is a line_feed (l ++ line_feed ∷ x) y e))
one_line (a ∷ l) (b ∷ k) x y p q e =
    let rest = one_line l k x y (All-tail IsNoFeed a l p) (All-tail IsNoFeed b k q) (tail_is a b (l ++ line_feed ∷ x) (k ++ line_feed ∷ y) e) in
    (both_heads a b l k (head_is a b (l ++ line_feed ∷ x) (k ++ line_feed ∷ y) e) rest.0, rest.1)

-- the first line feed comes behind what has none
feed_behind : (l k z y : List ℕ) → All IsNoFeed l → l ++ z ≡ k ++ line_feed ∷ y → length l ≤ length k
feed_behind [] k z y p e = omega arith
feed_behind (a ∷ l) [] z y p e = absurd (All-head IsNoFeed a l p (head_is a line_feed (l ++ z) y e))
feed_behind (a ∷ l) (b ∷ k) z y p e =
    let rest = feed_behind l k z y (All-tail IsNoFeed a l p) (tail_is a b (l ++ z) (k ++ line_feed ∷ y) e) in
    omega (arith, rest)

-- ---- a note's text determines the note, and where it ends

inner : (line x : List ℕ) → note_text line ++ x ≡ mark ∷ (line ++ line_feed ∷ x)
inner line x = ap (λ (t : List ℕ). mark ∷ t) (append_assoc line (line_feed ∷ []) x)

pub one_note : (l k x y : List ℕ) → IsNoteLine l → IsNoteLine k → note_text l ++ x ≡ note_text k ++ y → (l ≡ k) × (x ≡ y)
one_note l k x y p q e =
    one_line l k x y p.no_feed q.no_feed (tail_is mark mark (l ++ line_feed ∷ x) (k ++ line_feed ∷ y) (sym (inner l x) ∙ (e ∙ inner k y)))

abbrev pub begins_note : (bytes : List ℕ) (n : ℕ) → IsFirstNote bytes n → BeginsWithNote bytes
begins_note bytes n f = record { line = f.line; good = f.good; behind = drop n bytes; is = sym (take-append-drop n bytes) ∙ ap (λ (t : List ℕ). t ++ drop n bytes) f.is_text }

-- an open note isn't whole
pub open_not_whole : (bytes : List ℕ) → IsOpenNote bytes → BeginsWithNote bytes → ⊥
open_not_whole bytes o b =
    let whole : note_text b.line ++ (b.behind ++ o.more) ≡ note_text o.line ++ [] =
    sym (append_assoc (note_text b.line) b.behind o.more) ∙ (ap (λ (t : List ℕ). t ++ o.more) (sym b.is) ∙ (o.is ∙ sym (append-nil (note_text o.line)))) in
    let none : b.behind ++ o.more ≡ [] = (one_note b.line o.line (b.behind ++ o.more) [] b.good o.good whole).1 in
    omega (arith, ap length none, length-append b.behind o.more, o.some)

-- no more than so many bytes, however many there are
pub cut_is : (bytes : List ℕ) (k m : ℕ) → k ≡ min (length bytes) m → take k bytes ≡ take m bytes
cut_is bytes k m is = elim (cases_lt (length bytes) m) [
  | inl less ↦ take_all k bytes (omega (arith, is, less)) ∙ sym (take_all m bytes (omega (arith, less)))
  | inr least ↦ ap (λ n. take n bytes) (omega (arith, is, least))
]

-- ---- what a note is at the front of bytes

pub nothing_open : IsOpenNote []
nothing_open = record { line = []; good = record { no_feed = All-nil IsNoFeed; short = omega arith }; more = note_text []; some = omega arith; is = refl }

pub none_open : (bytes : List ℕ) → length bytes ≡ 0 → IsOpenNote bytes
none_open [] none = nothing_open
none_open (b ∷ bytes) none = absurd (omega (arith, none))

pub unmarked : (b : ℕ) (bytes : List ℕ) → b ≢ mark → HasNoNote (b ∷ bytes)
unmarked b bytes other more note = other (head_is b mark (bytes ++ more) (note.line ++ line_feed ∷ note.behind) (note.is ∙ inner note.line note.behind))

-- the line in front of so many bytes
pub record IsCutAt (bytes head : List ℕ) (n : ℕ) : Type 0 where
  pub cut : head ≡ take (note_limit + 1) bytes
  pub within : n ≤ length head
  pub none : All IsNoFeed (take n head)
  pub feed : n < length head → get_or head n 0 ≡ line_feed

front_is : (bytes head : List ℕ) (n : ℕ) → IsCutAt bytes head n → take n head ≡ take n bytes
front_is bytes head n c =
    let small : n ≤ note_limit + 1 = omega (arith, c.within, ap length c.cut, length-take (note_limit + 1) bytes) in
    ap (take n) c.cut ∙ take-take n (note_limit + 1) bytes small

none_before : (bytes head : List ℕ) (n : ℕ) → IsCutAt bytes head n → All IsNoFeed (take n bytes)
none_before bytes head n c = subst (λ (t : List ℕ). All IsNoFeed t) (front_is bytes head n c) c.none

fits : (bytes head : List ℕ) (n : ℕ) → IsCutAt bytes head n → n ≤ length bytes
fits bytes head n c = omega (arith, c.within, ap length c.cut, length-take (note_limit + 1) bytes)

pub too_long : (bytes head : List ℕ) (n : ℕ) → IsCutAt bytes head n → note_limit < n → HasNoNote (mark ∷ bytes)
too_long bytes head n c long more note =
    let front = take n bytes in
    let behind = drop n bytes ++ more in
    let is : front ++ behind ≡ note.line ++ line_feed ∷ note.behind =
    sym (append_assoc front (drop n bytes) more) ∙ (ap (λ (t : List ℕ). t ++ more) (take-append-drop n bytes)
    ∙ tail_is mark mark (bytes ++ more) (note.line ++ line_feed ∷ note.behind) (note.is ∙ inner note.line note.behind)) in
    let far = feed_behind front note.line behind note.behind (none_before bytes head n c) is in
    omega (arith, far, length-take-le n bytes (fits bytes head n c), note.good.short, long)

pub goes_on : (bytes head : List ℕ) (n : ℕ) → IsCutAt bytes head n → n ≤ note_limit → n ≡ length bytes → IsOpenNote (mark ∷ bytes)
goes_on bytes head n c few all = record {
  line = bytes;
  good = record { no_feed = subst (λ (t : List ℕ). All IsNoFeed t) (take_all n bytes (omega (arith, all))) (none_before bytes head n c); short = omega (arith, all, few) };
  more = line_feed ∷ [];
  some = omega arith;
  is = refl;
}

feed_there : (bytes head : List ℕ) (n : ℕ) → IsCutAt bytes head n → n ≤ note_limit → n < length bytes → get_or bytes n 0 ≡ line_feed
feed_there bytes head n c few some =
    let there : n < length head = omega (arith, ap length c.cut, length-take (note_limit + 1) bytes, few, some) in
    sym (get_or-take (note_limit + 1) bytes n 0 (omega (arith, few))) ∙ (ap (λ (t : List ℕ). get_or t n 0) (sym c.cut) ∙ c.feed there)

pub ends : (bytes head : List ℕ) (n : ℕ) → IsCutAt bytes head n → n ≤ note_limit → n < length bytes → IsFirstNote (mark ∷ bytes) (n + 2)
ends bytes head n c few some = record {
  within = omega (arith, some);
  line = take n bytes;
  good = record { no_feed = none_before bytes head n c; short = omega (arith, length-take-le n bytes (fits bytes head n c), few) };
  is_text = text_is;
}
  where
    text_is : take (n + 2) (mark ∷ bytes) ≡ note_text (take n bytes)
    text_is =
        let more : n + 2 ≡ 1 + (n + 1) = omega arith in
        ap (λ k. take k (mark ∷ bytes)) more
        ∙ (take-add 1 (n + 1) (mark ∷ bytes)
        ∙ ap (λ (t : List ℕ). mark ∷ t) (take_more bytes n 0 some ∙ ap (λ b. take n bytes ++ b ∷ []) (feed_there bytes head n c few some)))
