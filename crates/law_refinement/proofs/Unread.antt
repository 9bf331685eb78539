-- What is unread of a direction of a link.
use Rattle.std.proofs.Common.{zero, suc, ◌≡◌, ◌+◌, ◌-◌, ◌≤◌, ℕ, List, [], ◌∷◌, ◌++◌, length, length-append, take, drop, refl, sym, ap, ◌∙◌, arith}
use Rattle.std.proofs.Math.Seq.{take-add, drop-append_seam}
use Rattle.std.proofs.lemmas.List.{drop-drop, length-drop, length-take}
use Rattle.law_refinement.specs.Way.{WayState, IsWay, unread, sent_on, taken_on, used_on, left_on}

pub drop_front : (n : ℕ) (xs ys : List ℕ) → n ≤ length xs → drop n (xs ++ ys) ≡ drop n xs ++ ys
drop_front zero xs ys h = refl
drop_front (suc n) [] ys h = absurd (omega (arith, h))
drop_front (suc n) (x ∷ xs) ys h = drop_front n xs ys (omega (arith, h))

pub take_front : (n : ℕ) (xs ys : List ℕ) → n ≤ length xs → take n (xs ++ ys) ≡ take n xs
take_front zero xs ys h = refl
take_front (suc n) [] ys h = absurd (omega (arith, h))
take_front (suc n) (x ∷ xs) ys h = ap (λ z. x ∷ z) (take_front n xs ys (omega (arith, h)))

-- what is sent later is not unread yet
pub unread_sent : (w : WayState) (bytes : List ℕ) → IsWay w → unread (sent_on bytes w) ≡ unread w
unread_sent w bytes way =
    ap (take (w.taken - w.used)) (drop_front w.used w.sent bytes (omega (arith, way.used_within, way.taken_within)))
    ∙ take_front (w.taken - w.used) (drop w.used w.sent) bytes (let e = length-drop w.used w.sent in omega (arith, way.used_within, way.taken_within, e))

-- what is taken is unread from now on
pub unread_taken : (w : WayState) (n : ℕ) → IsWay w → unread (taken_on n w) ≡ unread w ++ take n (drop w.taken w.sent)
unread_taken w n way =
    let e : w.taken + n - w.used ≡ (w.taken - w.used) + n = omega (arith, way.used_within) in
    let g : w.used + (w.taken - w.used) ≡ w.taken = omega (arith, way.used_within) in
    ap (λ z. take z (drop w.used w.sent)) e ∙ (take-add (w.taken - w.used) n (drop w.used w.sent)
    ∙ ap (λ z. take (w.taken - w.used) (drop w.used w.sent) ++ z) (ap (take n) (drop-drop (w.taken - w.used) w.used w.sent ∙ ap (λ z. drop z w.sent) g)))

pub sent_way : (w : WayState) (bytes : List ℕ) → IsWay w → IsWay (sent_on bytes w)
sent_way w bytes way = record { used_within = way.used_within; taken_within = grow w.taken w.sent bytes way.taken_within }
  where
    grow : (n : ℕ) (xs ys : List ℕ) → n ≤ length xs → n ≤ length (xs ++ ys)
    grow n xs ys h = let e = length-append xs ys in omega (arith, h, e)

pub taken_way : (w : WayState) (n : ℕ) → IsWay w → w.taken + n ≤ length w.sent → IsWay (taken_on n w)
taken_way w n way h = record { used_within = omega (arith, way.used_within); taken_within = h }

-- ---- what is left of a way
drop_take : (n a : ℕ) (xs : List ℕ) → drop n (take a xs) ≡ take (a - n) (drop n xs)
drop_take zero a xs = ap (λ k. take k xs) (less a)
  where
    less : (a : ℕ) → a ≡ a - 0
    less a = omega arith
drop_take (suc n) zero xs = ap (λ k. take k (drop (suc n) xs)) (none n)
  where
    none : (n : ℕ) → 0 ≡ 0 - suc n
    none n = omega arith
drop_take (suc n) (suc a) [] = nothing (suc a - suc n)
  where
    nothing : (k : ℕ) → ◌≡◌ {A = List ℕ} [] (take k [])
    nothing zero = refl
    nothing (suc k) = refl
drop_take (suc n) (suc a) (x ∷ xs) = drop_take n a xs ∙ ap (λ k. take k (drop n xs)) (down a n)
  where
    down : (a n : ℕ) → a - n ≡ suc a - suc n
    down a n = omega arith

pub rest_of : (w : WayState) (text rest : List ℕ) → unread w ≡ text ++ rest → unread (used_on (length text) w) ≡ rest
rest_of w text rest e =
    let t : w.taken - (w.used + length text) ≡ (w.taken - w.used) - length text = omega arith in
    ap (λ k. take k (drop (w.used + length text) w.sent)) t
    ∙ (ap (take ((w.taken - w.used) - length text)) (sym (drop-drop (length text) w.used w.sent))
    ∙ (sym (drop_take (length text) (w.taken - w.used) (drop w.used w.sent)) ∙ (ap (drop (length text)) e ∙ drop-append_seam text rest)))

-- where the rest is left, the text is used
pub left_used : (w : WayState) (text rest : List ℕ) (n : ℕ) → IsWay w → unread w ≡ text ++ rest → n ≡ length rest → left_on n w ≡ used_on (length text) w
left_used w text rest n way e count =
    let size : length (unread w) ≡ length text + length rest = ap length e ∙ length-append text rest in
    let a = length-take (w.taken - w.used) (drop w.used w.sent) in
    let d = length-drop w.used w.sent in
    let place : w.taken - n ≡ w.used + length text = omega (arith, way.used_within, way.taken_within, size, a, d, count) in
    ap (λ z. record w { used = z }) place
