-- What strings are, taken two by two.
use Rattle.std.proofs.Common.{◌%◌, ◌*◌, ◌/◌, ◌≡◌, ℕ, zero, suc, ◌+◌, ◌-◌, ◌<◌, ◌≤◌, List, [], ◌∷◌, ◌++◌, length, get_or, set, take, drop, refl, sym, ap, ap₂, ◌∙◌, arith, length-append}
use Rattle.std.specs.Cmp.Lexicographic.{slice_cmp}
use Rattle.std.specs.List.{insert, remove, remove_range}
use Rattle.std.specs.Ordering.{nat_cmp}
use Rattle.std.proofs.lemmas.List.{append_assoc, take_at, take_all}
use Rattle.std.proofs.lemmas.Grind.{flat_map-append, take_at_read}
use Rattle.mr_packed.specs.Packing.{AreBelow, IsFirst, IsNowhere, IsPassed, IsReached}
use Rattle.mr_packed.specs.Pairs.{AreLess, ArePairs, IsAt, IsBefore, IsFirstAt, IsNone, both, pair_at, pairs_in, spread}
use Rattle.mr_packed.proofs.Packing.{two_in}

-- what is spread is taken together again
pub taken_again : (pairs : List (List ℕ × List ℕ)) → pairs_in (spread pairs) ≡ pairs
taken_again [] = refl
taken_again (p ∷ pairs) = ap (λ l. p ∷ l) (taken_again pairs)

pub pairs_are : (strings : List (List ℕ)) (pairs : List (List ℕ × List ℕ)) → strings ≡ spread pairs → pairs_in strings ≡ pairs
pairs_are strings pairs e = ap pairs_in e ∙ taken_again pairs

pub paired : (strings : List (List ℕ)) (pairs : List (List ℕ × List ℕ)) → strings ≡ spread pairs → ArePairs strings
paired strings pairs e = e ∙ ap spread (sym (pairs_are strings pairs e))

pub length-spread : (pairs : List (List ℕ × List ℕ)) → length (spread pairs) ≡ 2 * length pairs
length-spread [] = refl
length-spread (p ∷ pairs) = omega (arith, length-spread pairs)

pub length-strings : (strings : List (List ℕ)) (pairs : List (List ℕ × List ℕ)) → ArePairs strings → pairs_in strings ≡ pairs → length strings ≡ 2 * length pairs
length-strings strings pairs e v = ap length e ∙ length-spread (pairs_in strings) ∙ ap (λ l. 2 * length l) v

-- strings seen as these pairs are their strings
pub spread_is : (strings : List (List ℕ)) (pairs : List (List ℕ × List ℕ)) → ArePairs strings → pairs_in strings ≡ pairs → strings ≡ spread pairs
spread_is strings pairs e v = e ∙ ap spread v

two_more : (n : ℕ) → 2 * suc n ≡ suc (suc (2 * n))
two_more n = omega arith

three_more : (n : ℕ) → 2 * suc n + 1 ≡ suc (suc (2 * n + 1))
three_more n = omega arith

-- firsts stand at even places, seconds behind them
pub first_of : (pairs : List (List ℕ × List ℕ)) (at : ℕ) → get_or (spread pairs) (2 * at) [] ≡ (pair_at pairs at).0
first_of [] at = refl
first_of (p ∷ pairs) zero = refl
first_of (p ∷ pairs) (suc at) = rw (two_more at) (first_of pairs at)

pub second_of : (pairs : List (List ℕ × List ℕ)) (at : ℕ) → get_or (spread pairs) (2 * at + 1) [] ≡ (pair_at pairs at).1
second_of [] at = refl
second_of (p ∷ pairs) zero = refl
second_of (p ∷ pairs) (suc at) = rw (three_more at) (second_of pairs at)

pub take_spread : (pairs : List (List ℕ × List ℕ)) (at : ℕ) → take (2 * at) (spread pairs) ≡ spread (take at pairs)
take_spread pairs zero = refl
take_spread [] (suc at) = rw (two_more at) refl
take_spread (p ∷ pairs) (suc at) = rw (two_more at) (ap (λ l. p.0 ∷ (p.1 ∷ l)) (take_spread pairs at))

pub drop_spread : (pairs : List (List ℕ × List ℕ)) (at : ℕ) → drop (2 * at) (spread pairs) ≡ spread (drop at pairs)
drop_spread pairs zero = refl
drop_spread [] (suc at) = rw (two_more at) refl
drop_spread (p ∷ pairs) (suc at) = rw (two_more at) (drop_spread pairs at)

-- a pair put at a place
pub pair_in : (strings : List (List ℕ)) (pairs : List (List ℕ × List ℕ)) (at place : ℕ) (first second : List ℕ) → strings ≡ spread pairs → place ≡ 2 * at → at ≤ length pairs
    → insert (insert strings place second) place first ≡ spread (insert pairs at (first, second))
pair_in strings pairs at place first second e p within = rw e (rw p (
    two_in (spread pairs) (2 * at) first second (omega (arith, within, length-spread pairs))
    ∙ ap₂ (λ x y. x ++ first ∷ (second ∷ y)) (take_spread pairs at) (drop_spread pairs at)
    ∙ sym (flat_map-append both (take at pairs) ((first, second) ∷ drop at pairs))))

-- a pair taken out
pub pair_out : (strings : List (List ℕ)) (pairs : List (List ℕ × List ℕ)) (at place : ℕ) → strings ≡ spread pairs → place ≡ 2 * at
    → remove_range strings place (place + 2) ≡ spread (remove pairs at)
pair_out strings pairs at place e p = rw e (rw p (
    ap₂ (λ x y. x ++ y) (take_spread pairs at) (ap (λ n. drop n (spread pairs)) (omega arith) ∙ drop_spread pairs (suc at))
    ∙ sym (flat_map-append both (take at pairs) (drop (suc at) pairs))))

-- another second
second_put : (pairs : List (List ℕ × List ℕ)) (at : ℕ) (second : List ℕ) → set (spread pairs) (2 * at + 1) second ≡ spread (set pairs at ((pair_at pairs at).0, second))
second_put [] at second = refl
second_put (p ∷ pairs) zero second = refl
second_put (p ∷ pairs) (suc at) second = rw (three_more at) (ap (λ l. p.0 ∷ (p.1 ∷ l)) (second_put pairs at second))

pub second_in : (strings : List (List ℕ)) (pairs : List (List ℕ × List ℕ)) (at place : ℕ) (second : List ℕ) → strings ≡ spread pairs → place ≡ 2 * at + 1
    → set strings place second ≡ spread (set pairs at ((pair_at pairs at).0, second))
second_in strings pairs at place second e p = rw e (rw p (second_put pairs at second))

-- the strings at the places of pairs
pub first_at : (strings : List (List ℕ)) (pairs : List (List ℕ × List ℕ)) (at place : ℕ) → strings ≡ spread pairs → place ≡ 2 * at → get_or strings place [] ≡ (pair_at pairs at).0
first_at strings pairs at place e p = rw e (rw p (first_of pairs at))

pub second_at : (strings : List (List ℕ)) (pairs : List (List ℕ × List ℕ)) (at place : ℕ) → strings ≡ spread pairs → place ≡ 2 * at + 1 → get_or strings place [] ≡ (pair_at pairs at).1
second_at strings pairs at place e p = rw e (rw p (second_of pairs at))

-- an even place is that of a pair
even_place : (n : ℕ) → n % 2 ≡ 0 → n ≡ 2 * (n / 2)
even_place n even = omega (arith, even)

pub is_even : (n : ℕ) → (2 * n) % 2 ≡ 0
is_even n = omega arith

-- what is found among strings is found among pairs
pub none_of : (strings : List (List ℕ)) (pairs : List (List ℕ × List ℕ)) (first : List ℕ) (end last : ℕ) → strings ≡ spread pairs → 2 * last ≤ end → IsNowhere strings 2 first end → IsNone pairs first last
none_of strings pairs first end last e within none i less same =
    none (2 * i) (omega (arith, less, within)) (is_even i) (first_at strings pairs i (2 * i) e refl ∙ same)

pub found_at : (strings : List (List ℕ)) (pairs : List (List ℕ × List ℕ)) (first : List ℕ) (place : ℕ) → strings ≡ spread pairs → IsFirst strings 2 first place → IsFirstAt pairs first (place / 2)
found_at strings pairs first place e found =
    let p : place ≡ 2 * (place / 2) = even_place place found.step_is in
    record {
      within = omega (arith, found.within, p, ap length e, length-spread pairs);
      first_is = sym (first_at strings pairs (place / 2) place e p) ∙ found.string_is;
      no_other = none_of strings pairs first place (place / 2) e (omega (arith, p)) found.first;
    }

less_of : (strings : List (List ℕ)) (pairs : List (List ℕ × List ℕ)) (first : List ℕ) (end last : ℕ) → strings ≡ spread pairs → 2 * last ≤ end → AreBelow strings first end → AreLess pairs first last
less_of strings pairs first end last e within below i less =
    ap (λ s. slice_cmp nat_cmp s first) (sym (first_at strings pairs i (2 * i) e refl)) ∙ below (2 * i) (omega (arith, less, within)) (is_even i)

pub reached_at : (strings : List (List ℕ)) (pairs : List (List ℕ × List ℕ)) (first : List ℕ) (place : ℕ) → strings ≡ spread pairs → IsReached strings first place → IsAt pairs first (place / 2)
reached_at strings pairs first place e reached =
    let p : place ≡ 2 * (place / 2) = even_place place reached.even in
    record {
      within = omega (arith, reached.within, p, ap length e, length-spread pairs);
      first_is = sym (first_at strings pairs (place / 2) place e p) ∙ reached.string_is;
      less = less_of strings pairs first place (place / 2) e (omega (arith, p)) reached.below;
    }

pub passed_at : (strings : List (List ℕ)) (pairs : List (List ℕ × List ℕ)) (first : List ℕ) (place : ℕ) → strings ≡ spread pairs → IsPassed strings first place → IsBefore pairs first (place / 2)
passed_at strings pairs first place e passed =
    let size : length strings ≡ 2 * length pairs = ap length e ∙ length-spread pairs in
    record {
      within = omega (arith, passed.within, size);
      less = less_of strings pairs first place (place / 2) e (omega arith) passed.below;
      greater = λ within.
          let some : place < length strings = omega (arith, within, size) in
          let p : place ≡ 2 * (place / 2) = even_place place (passed.above some).0 in
          ap (λ s. slice_cmp nat_cmp s first) (sym (first_at strings pairs (place / 2) place e p)) ∙ (passed.above some).1;
    }

-- without the first pair
pub first_gone : (first second : List ℕ) (strings : List (List ℕ)) → ArePairs (first ∷ (second ∷ strings)) → ArePairs strings
first_gone first second strings e = ap (drop 2) e

-- one string alone is no pair
pub not_one : (one : List ℕ) → ArePairs (one ∷ []) → ⊥
not_one one e = let none : 1 ≡ 0 = ap length e in omega (arith, none)

-- what stands behind others
pub behind : (others : List (List ℕ)) (first second : List ℕ) (place : ℕ) → place ≡ length others → get_or (others ++ (first ∷ (second ∷ []))) place [] ≡ first
behind [] first second place p = rw p refl
behind (o ∷ others) first second place p = rw p (behind others first second (length others) refl)

pub behind_that : (others : List (List ℕ)) (first second : List ℕ) (place : ℕ) → place ≡ length others + 1 → get_or (others ++ (first ∷ (second ∷ []))) place [] ≡ second
behind_that [] first second place p = rw p refl
behind_that (o ∷ others) first second place p = let next : place ≡ suc (length others + 1) = omega (arith, p) in rw next (behind_that others first second (length others + 1) refl)

-- without the last pair
pub last_gone : (strings others : List (List ℕ)) (first second : List ℕ) → ArePairs strings → strings ≡ others ++ first ∷ [] ++ second ∷ []
    → ArePairs others × (pairs_in strings ≡ pairs_in others ++ (first, second) ∷ [])
last_gone strings others first second e s =
    let pairs = pairs_in strings in
    let whole : strings ≡ others ++ (first ∷ (second ∷ [])) = s ∙ append_assoc others (first ∷ []) (second ∷ []) in
    let size : length others + 2 ≡ 2 * length pairs = omega (arith, ap length whole, length-append others (first ∷ (second ∷ [])), ap length e, length-spread pairs) in
    let last = length pairs - 1 in
    let some : last < length pairs = omega (arith, size) in
    let front : others ≡ spread (take last pairs) = sym (take_at others (first ∷ (second ∷ [])) (2 * last) (omega (arith, size))) ∙ ap (take (2 * last)) (sym whole ∙ e) ∙ take_spread pairs last in
    let at_first : (pair_at pairs last).0 ≡ first = sym (first_at strings pairs last (2 * last) e refl) ∙ ap (λ l. get_or l (2 * last) []) whole ∙ behind others first second (2 * last) (omega (arith, size)) in
    let at_second : (pair_at pairs last).1 ≡ second = sym (second_at strings pairs last (2 * last + 1) e refl) ∙ ap (λ l. get_or l (2 * last + 1) []) whole ∙ behind_that others first second (2 * last + 1) (omega (arith, size)) in (
      paired others (take last pairs) front,
      sym (take_all (last + 1) pairs (omega arith)) ∙ (take_at_read pairs last ([], []) some).1
          ∙ ap₂ (λ l p. l ++ p ∷ []) (sym (pairs_are others (take last pairs) front)) (ap₂ (λ x y. (x, y)) at_first at_second),
    )
