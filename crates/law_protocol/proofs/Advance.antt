-- A node that applies effects of its id's history.
use Rattle.std.proofs.Common.{ℕ, List, [], ◌∷◌, ◌++◌, ◌≡◌, ◌+◌, ◌-◌, None, Some, true, length, sym, ◌∙◌, ap, arith, append_assoc, length-append}
use Rattle.law_protocol.specs.Language.{Language}
use Rattle.law_protocol.specs.History.{Book, Front, Agree, texts, fold, then_fold}
use Rattle.law_protocol.specs.Node.{Node, EndsAs}
use Rattle.law_protocol.specs.Invariant.{NodeIsSound}
use Rattle.law_protocol.proofs.Histories.{append_nil, texts_append, fold_append}

pub texts_one : (L : Language) (e : L.Effect) → texts L (e ∷ []) ≡ L.text e
texts_one L e = append_nil (L.text e)

pub fold_one : (L : Language) (e : L.Effect) (m n : L.Dataset) → L.apply e m ≡ Some n → fold L (e ∷ []) m ≡ Some n
fold_one L e m n h = ap (λ o. then_fold o (fold L [])) h

pub front_on : (L : Language) (b : Book L) (i : L.Id) (o : ℕ) (st : L.Dataset) (earlier xs later : List L.Effect) → Front L b i o st earlier (xs ++ later)
    → Front L b i (o + length (texts L xs)) st (earlier ++ xs) later
front_on L b i o st earlier xs later f = record {
  found = f.found ∙ ap (λ es. Some (record { start = st; effects = es })) (sym (append_assoc earlier xs later));
  place = (let p = f.place in let q = ap (λ z. length z) (texts_append L earlier xs) in let r = length-append (texts L earlier) (texts L xs) in omega arith);
}

pub advanced : {L : Language} (book : Book L) (a : Node L) (m : L.Dataset) (backlog : List ℕ) (st : L.Dataset) (earlier xs later : List L.Effect) (before : List ℕ)
    → Front L book a.id a.offset st earlier (xs ++ later) → fold L earlier st ≡ Some a.held → texts L earlier ≡ before ++ a.backlog
    → fold L xs a.held ≡ Some m → EndsAs a.backlog (texts L xs) backlog → (a.master ≡ true → later ≡ []) → (a.master ≡ true → a.follow ≡ None)
    → ((i : L.Id) (o : ℕ) → a.second ≡ Some (i, o) → Agree L book i a.id (o - 1))
    → NodeIsSound book (record a { held = m; offset = a.offset + length (texts L xs); backlog = backlog })
advanced {L} book a m backlog st earlier xs later before f folds er fx ex tip alone second = record {
  start = st;
  earlier = earlier ++ xs;
  later = later;
  front = front_on L book a.id a.offset st earlier xs later f;
  folds = fold_append L earlier xs st a.held folds ∙ fx;
  before = before ++ ex.0;
  backlog = texts_append L earlier xs ∙ (ap (λ z. z ++ texts L xs) er ∙ (append_assoc before a.backlog (texts L xs) ∙ (ap (λ z. before ++ z) ex.1 ∙ sym (append_assoc before ex.0 backlog))));
  tip = tip;
  alone = alone;
  second = second;
}
