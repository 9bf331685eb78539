-- Histories: fronts, folds, agreement, growth.
use Rattle.std.proofs.Common.{ℕ, List, [], ◌∷◌, ◌++◌, ◌≡◌, ◌≢◌, ◌+◌, ◌≤◌, ◌<◌, Option, None, Some, length, refl, ap, arith, length-append, All}
use Rattle.std.proofs.lemmas.Grind.{flat_map-append}
use Rattle.std.proofs.lemmas.List.Elements.{All-tail}
pub use Rattle.std.proofs.lemmas.List.{append-nil as append_nil}
use Rattle.law_protocol.specs.Language.{Language, Laws}
use Rattle.law_protocol.specs.History.{texts, fold, then_fold}

pub all_back : {X : Type 0} (P : X → Type 0) (xs ys : List X) → All P (xs ++ ys) → All P ys
all_back P [] ys h = h
all_back P (x ∷ xs) ys h = all_back P xs ys (All-tail P x (xs ++ ys) h)

pub texts_append : (L : Language) (xs ys : List L.Effect) → texts L (xs ++ ys) ≡ texts L xs ++ texts L ys
texts_append L xs ys = flat_map-append L.text xs ys

pub some_length : {A : Type 0} (xs : List A) → xs ≢ [] → 0 < length xs
some_length [] h = absurd (h refl)
some_length (x ∷ xs) h = omega arith

pub effect_length : (L : Language) (laws : Laws L) (e : L.Effect) → 0 < length (L.text e)
effect_length L laws e = some_length (L.text e) (laws.text_some e)

pub length_cons : (L : Language) (e : L.Effect) (es : List L.Effect) → length (texts L (e ∷ es)) ≡ length (L.text e) + length (texts L es)
length_cons L e es = length-append (L.text e) (texts L es)

-- what fold gives over two lists
fold_step : (L : Language) (o : Option L.Dataset) (f g : L.Dataset → Option L.Dataset) (r : Option L.Dataset) (n : L.Dataset)
    → ((k : L.Dataset) → f k ≡ Some n → g k ≡ r) → then_fold o f ≡ Some n → then_fold o g ≡ r
fold_step L None f g r n ih e = absurd (cc)
fold_step L (Some k) f g r n ih e = ih k e

pub fold_append : (L : Language) (xs ys : List L.Effect) (m n : L.Dataset) → fold L xs m ≡ Some n → fold L (xs ++ ys) m ≡ fold L ys n
fold_append L [] ys m n h = ap (λ o. then_fold o (fold L ys)) h
fold_append L (x ∷ xs) ys m n h = fold_step L (L.apply x m) (fold L xs) (fold L (xs ++ ys)) (fold L ys n) n (λ k e. fold_append L xs ys k n e) h

-- of two fronts of one list the one with fewer bytes is a front of the other
pub shorter : (L : Language) (laws : Laws L) (earlier later earlier' later' : List L.Effect) → earlier ++ later ≡ earlier' ++ later' → length (texts L earlier) ≤ length (texts L earlier')
    → (mid : List L.Effect) × (earlier' ≡ earlier ++ mid) × (later ≡ mid ++ later')
shorter L laws [] later earlier' later' e h = (earlier', refl, e)
shorter L laws (x ∷ earlier) later [] later' e h =
    absurd (let p = effect_length L laws x in let q = length_cons L x earlier in omega arith)
shorter L laws (x ∷ earlier) later (y ∷ earlier') later' e h =
    let same : x ≡ y = cc in
    let rest : earlier ++ later ≡ earlier' ++ later' = cc in
    let p = length_cons L x earlier in
    let q = length_cons L y earlier' in
    let r = ap (λ z. length (L.text z)) same in
    let s = shorter L laws earlier later earlier' later' rest (omega arith) in
    (s.0, cc, s.2)

-- two fronts of one list with as many bytes are one
pub same_front : (L : Language) (laws : Laws L) (earlier later earlier' later' : List L.Effect) → earlier ++ later ≡ earlier' ++ later' → length (texts L earlier) ≡ length (texts L earlier')
    → (earlier ≡ earlier') × (later ≡ later')
same_front L laws [] later [] later' e h = (refl, e)
same_front L laws [] later (y ∷ earlier') later' e h =
    absurd (let p = effect_length L laws y in let q = length_cons L y earlier' in omega arith)
same_front L laws (x ∷ earlier) later [] later' e h =
    absurd (let p = effect_length L laws x in let q = length_cons L x earlier in omega arith)
same_front L laws (x ∷ earlier) later (y ∷ earlier') later' e h =
    let same : x ≡ y = cc in
    let rest : earlier ++ later ≡ earlier' ++ later' = cc in
    let p = length_cons L x earlier in
    let q = length_cons L y earlier' in
    let r = ap (λ z. length (L.text z)) same in
    let s = same_front L laws earlier later earlier' later' rest (omega arith) in
    (cc, s.1)

pub same_length : (h k x y : List ℕ) → length h ≡ length k → h ++ x ≡ k ++ y → h ≡ k
same_length [] [] x y n e = refl
same_length [] (b ∷ k) x y n e = absurd (omega (arith, n))
same_length (a ∷ h) [] x y n e = absurd (omega (arith, n))
same_length (a ∷ h) (b ∷ k) x y n e =
    let f : a ≡ b = cc in let g : h ++ x ≡ k ++ y = cc in let t = same_length h k x y (omega (arith, n)) g in cc
