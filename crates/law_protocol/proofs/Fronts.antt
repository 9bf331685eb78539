-- What two fronts, two books and an answer to PSYNC have to do with one another.
use Rattle.std.proofs.Common.{ℕ, List, [], ◌++◌, ◌≡◌, ◌+◌, ◌-◌, ◌≤◌, ◌⊎◌, Some, true, length, drop, sym, ◌∙◌, ap, subst, inl, inr, arith, append_assoc, length-append}
use Rattle.std.proofs.Math.Seq.{drop-append_seam, drop-append-add}
pub use Rattle.std.proofs.lemmas.Option.{same_Some as some_is}
use Rattle.law_protocol.specs.Language.{Language, Laws}
use Rattle.law_protocol.specs.History.{Book, History, IsAt, Front, Agree, Grows, texts, fold}
use Rattle.law_protocol.specs.Node.{Node, Continues, tail}
use Rattle.law_protocol.specs.Invariant.{NodeIsSound}
use Rattle.law_protocol.proofs.Histories.{append_nil, texts_append, shorter, same_front}

-- each id keeps its history
abbrev pub Keeps : (L : Language) → Book L → Book L → Type 0
Keeps L old new = (i : L.Id) (h : History L) → old i ≡ Some h → new i ≡ Some h

pub history_is : (L : Language) (b : Book L) (i : L.Id) (h g : History L) → b i ≡ Some h → b i ≡ Some g → (h.start ≡ g.start) × (h.effects ≡ g.effects)
history_is L b i h g p q =
    let e = some_is h g (sym p ∙ q) in
    (ap (λ x. x.start) e, ap (λ x. x.effects) e)

pub front_part : (L : Language) (laws : Laws L) (b : Book L) (i : L.Id) (o p : ℕ) (st st' : L.Dataset) (earlier later earlier' later' : List L.Effect)
    → Front L b i o st earlier later → Front L b i p st' earlier' later' → o ≤ p
    → (mid : List L.Effect) × (st ≡ st') × (earlier' ≡ earlier ++ mid) × (later ≡ mid ++ later')
front_part L laws b i o p st st' earlier later earlier' later' f g h =
    let e = history_is L b i _ _ f.found g.found in
    let fp = f.place in
    let gp = g.place in
    let s = shorter L laws earlier later earlier' later' e.1 (omega arith) in
    (s.0, e.0, s.1, s.2)

pub front_same : (L : Language) (laws : Laws L) (b : Book L) (i : L.Id) (o : ℕ) (st st' : L.Dataset) (earlier later earlier' later' : List L.Effect)
    → Front L b i o st earlier later → Front L b i o st' earlier' later' → (st ≡ st') × (earlier ≡ earlier') × (later ≡ later')
front_same L laws b i o st st' earlier later earlier' later' f g =
    let e = history_is L b i _ _ f.found g.found in
    let s = same_front L laws earlier later earlier' later' e.1 (f.place ∙ sym g.place) in
    (e.0, s.0, s.1)

-- the dataset of an id at an offset is one
pub at_unique : (L : Language) (laws : Laws L) (b : Book L) (i : L.Id) (o : ℕ) (m n : L.Dataset) → IsAt L b i o m → IsAt L b i o n → m ≡ n
at_unique L laws b i o m n p q =
    let e = front_same L laws b i o _ _ _ _ _ _ p.front q.front in
    some_is m n (sym p.folds ∙ (ap (λ x. fold L x p.start) e.1 ∙ (ap (λ x. fold L q.earlier x) e.0 ∙ q.folds)))

pub front_grows : (L : Language) (b c : Book L) (i : L.Id) (o : ℕ) (st : L.Dataset) (earlier later : List L.Effect) → Grows L b c → Front L b i o st earlier later
    → (more : List L.Effect) × Front L c i o st earlier (later ++ more)
front_grows L b c i o st earlier later g f =
    let h = g i st (earlier ++ later) f.found in
    (h.0, record { found = h.1 ∙ ap (λ es. Some (record { start = st; effects = es })) (append_assoc earlier later h.0); place = f.place })

pub at_grows : (L : Language) (b c : Book L) (i : L.Id) (o : ℕ) (m : L.Dataset) → Grows L b c → IsAt L b i o m → IsAt L c i o m
at_grows L b c i o m g p =
    let f = front_grows L b c i o _ _ _ g p.front in
    record { start = p.start; earlier = p.earlier; later = p.later ++ f.0; front = f.1; folds = p.folds }

pub agree_grows : (L : Language) (b c : Book L) (i j : L.Id) (o : ℕ) → Grows L b c → Agree L b i j o → Agree L c i j o
agree_grows L b c i j o g p =
    let f = front_grows L b c i o _ _ _ g p.one in
    let h = front_grows L b c j o _ _ _ g p.two in
    record { start = p.start; earlier = p.earlier; later = p.later ++ f.0; other = p.other ++ h.0; one = f.1; two = h.1 }

pub front_keeps : (L : Language) (b c : Book L) (i : L.Id) (o : ℕ) (st : L.Dataset) (earlier later : List L.Effect) → Keeps L b c → Front L b i o st earlier later → Front L c i o st earlier later
front_keeps L b c i o st earlier later k f = record { found = k i _ f.found; place = f.place }

pub keeps_grows : (L : Language) (b c : Book L) → Keeps L b c → Grows L b c
keeps_grows L b c k i st es h = ([], k i _ h ∙ ap (λ x. Some (record { start = st; effects = x })) (sym (append_nil es)))

-- histories that agree up to o have each front up to there in common
pub agree_front : (L : Language) (laws : Laws L) (b : Book L) (i j : L.Id) (o p : ℕ) (st : L.Dataset) (earlier later : List L.Effect) → Agree L b i j o → Front L b i p st earlier later → p ≤ o
    → (other : List L.Effect) × Front L b j p st earlier other
agree_front L laws b i j o p st earlier later a f h =
    let e = front_part L laws b i p o st a.start earlier later a.earlier a.later f a.one h in (
      e.0 ++ a.other,
      record {
        found = a.two.found ∙ ap (λ x. Some x) (record_is L _ _ _ _ (sym e.1) (ap (λ x. x ++ a.other) e.2 ∙ append_assoc earlier e.0 a.other));
        place = f.place;
      },
    )
  where
    record_is : (L : Language) (s t : L.Dataset) (xs ys : List L.Effect) → s ≡ t → xs ≡ ys
        → let h : History L = record { start = s; effects = xs } in let g : History L = record { start = t; effects = ys } in h ≡ g
    record_is L s t xs ys p q = cc

-- a list in two parts, twice
part_of : (x y b r : List ℕ) → x ++ y ≡ b ++ r → length b ≤ length x → drop (length x - length b) r ≡ y
part_of x y b r e h =
    let n : length b + (length x - length b) ≡ length x = omega arith in
    sym (drop-append-add b r (length x - length b)) ∙ (ap (λ k. drop k (b ++ r)) n ∙ (ap (λ z. drop (length x) z) (sym e) ∙ drop-append_seam x y))

-- what a master that answers CONTINUE says: the histories are one up to the replica's offset, and the bytes are the rest of its own
pub record Continuing (L : Language) (book : Book L) (s a : Node L) (bytes : List ℕ) : Type 0 where
  pub agree : Agree L book a.id s.id a.offset
  pub start : L.Dataset
  pub earlier : List L.Effect
  pub mid : List L.Effect
  pub front : Front L book s.id a.offset start earlier mid
  pub bytes_are : bytes ≡ texts L mid

known_agrees : {L : Language} (laws : Laws L) (book : Book L) (s a : Node L) → NodeIsSound book s → NodeIsSound book a → Continues s a.id (a.offset + 1) → Agree L book a.id s.id a.offset
known_agrees {L} laws book s a os oa c = go c.known
  where
    go : (a.id ≡ s.id) ⊎ ((o : ℕ) × (s.second ≡ Some (a.id, o)) × (a.offset + 1 ≤ o)) → Agree L book a.id s.id a.offset
    go (inl e) = record {
      start = oa.start;
      earlier = oa.earlier;
      later = oa.later;
      other = oa.later;
      one = oa.front;
      two = subst (λ i. Front L book i a.offset oa.start oa.earlier oa.later) e oa.front;
    }
    go (inr x) =
        let f = agree_front L laws book a.id s.id (x.0 - 1) a.offset oa.start oa.earlier oa.later (os.second a.id x.0 x.1) oa.front (let h = x.2 in omega arith) in
        record { start = oa.start; earlier = oa.earlier; later = oa.later; other = f.0; one = oa.front; two = f.1 }

pub continues : {L : Language} (laws : Laws L) (book : Book L) (s a : Node L) → NodeIsSound book s → NodeIsSound book a → s.master ≡ true → Continues s a.id (a.offset + 1)
    → Continuing L book s a (tail s (a.offset + 1))
continues {L} laws book s a os oa m c =
    let g = known_agrees laws book s a os oa c in
    let le : a.offset ≤ s.offset = let h = c.to_end in omega arith in
    let e = front_part L laws book s.id a.offset s.offset g.start os.start g.earlier g.other os.earlier os.later g.two os.front le in
    let none : g.other ≡ e.0 = e.3 ∙ (ap (λ x. e.0 ++ x) (os.tip m) ∙ append_nil e.0) in
    let whole : texts L g.earlier ++ texts L e.0 ≡ os.before ++ s.backlog = sym (texts_append L g.earlier e.0) ∙ (ap (λ x. texts L x) (sym e.2) ∙ os.backlog) in
    let len = length-append os.before s.backlog in
    let all = ap (λ x. length x) os.backlog in
    let place = os.front.place in
    let here = g.two.place in
    let low = c.from_first in
    let short : length os.before ≤ length (texts L g.earlier) = omega arith in
    let skip : a.offset + 1 + length s.backlog - (s.offset + 1) ≡ length (texts L g.earlier) - length os.before = omega arith in
    record {
      agree = g;
      start = g.start;
      earlier = g.earlier;
      mid = e.0;
      front = subst (λ x. Front L book s.id a.offset g.start g.earlier x) none g.two;
      bytes_are = ap (λ n. drop n s.backlog) skip ∙ part_of (texts L g.earlier) (texts L e.0) os.before s.backlog whole short;
    }
