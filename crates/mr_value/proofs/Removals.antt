-- The removal of items that equal one.
use Rattle.std.proofs.Common.{◌≡◌, ℕ, zero, suc, reverse, ◌⊎◌, ◌+◌, ◌-◌, ◌<◌, ◌≤◌, min, List, [], ◌∷◌, ◌++◌, length, take, drop, Bool, true, false, cond, not, refl, sym, ap, ◌∙◌, arith, inl, inr}
use Rattle.std.specs.Prelude.{ℤ, pos, negsuc}
use Rattle.std.specs.Str.{bytes_eq}
use Rattle.std.proofs.lemmas.Bool.{cases_lt, lt-ltb, le-ltb}
use Rattle.std.proofs.lemmas.List.{drop-take, length-reverse, reverse-append}
use Rattle.std.proofs.lemmas.List.Sums.{sum_by_push, sum_by-cons, count_by-le-length}
use Rattle.mr_value.specs.Lists.{count_of, without_first, without_last, without_all, without, removed_count}

pub count_of-push : (w : List ℕ) (xs : List (List ℕ)) (x : List ℕ) → count_of w (xs ++ x ∷ []) ≡ count_of w xs + cond (bytes_eq x w) 1 0
count_of-push w xs x = sum_by_push (λ y. cond (bytes_eq y w) 1 0) xs x

pub count_of-cons : (w x : List ℕ) (xs : List (List ℕ)) → count_of w (x ∷ xs) ≡ cond (bytes_eq x w) 1 0 + count_of w xs
count_of-cons w x xs = sum_by-cons (λ y. cond (bytes_eq y w) 1 0) x xs

-- one that goes, and one that stays
pub first_goes : (n : ℕ) (w x : List ℕ) (xs : List (List ℕ)) → 0 < n → bytes_eq x w ≡ true → without_first n w (x ∷ xs) ≡ without_first (n - 1) w xs
first_goes n w x xs some same = rw (lt-ltb 0 n some, same) refl

pub first_stays : (n : ℕ) (w x : List ℕ) (xs : List (List ℕ)) → (0 < n → bytes_eq x w ≡ false) → without_first n w (x ∷ xs) ≡ x ∷ without_first n w xs
first_stays n w x xs other =
    elim (cases_lt 0 n) [
      | inl some ↦ rw (lt-ltb 0 n some, other some) refl
      | inr none ↦ rw (le-ltb 0 n none) refl
    ]

-- with as many to go as there are items, all that equal w go
pub all_go : (n : ℕ) (w : List ℕ) (xs : List (List ℕ)) → length xs ≤ n → without_first n w xs ≡ without_all w xs
all_go n w [] le = refl
all_go n w (x ∷ xs) le =
    elim (bytes_eq x w) as (λ b. bytes_eq x w ≡ b → without_first n w (x ∷ xs) ≡ cond (not b) (x ∷ without_all w xs) (without_all w xs)) [
      | true ↦ λ same. first_goes n w x xs (omega arith) same ∙ all_go (n - 1) w xs (omega arith)
      | false ↦ λ other. first_stays n w x xs (λ _. other) ∙ ap (λ zs. x ∷ zs) (all_go n w xs (omega arith))
    ] refl

-- what lies from a first place to a last one
pub kept_part : (first last : ℕ) (xs : List (List ℕ)) → first ≤ last → drop first (take (last + 1) xs) ≡ take (last + 1 - first) (drop first xs)
kept_part first last xs le = let sum : last + 1 ≡ first + (last + 1 - first) = omega arith in ap (λ n. drop first (take n xs)) sum ∙ drop-take first (last + 1 - first) xs

-- from the front, one more item at the back
first_goes_behind : (n : ℕ) (w : List ℕ) (xs : List (List ℕ)) (x : List ℕ) → count_of w xs < n → bytes_eq x w ≡ true → without_first n w (xs ++ x ∷ []) ≡ without_first n w xs
first_goes_behind n w [] x more same = first_goes n w x [] (omega arith) same
first_goes_behind n w (y ∷ xs) x more same = go (λ m h. first_goes_behind m w xs x h same) (bytes_eq y w) refl
  where
    go : ((m : ℕ) → count_of w xs < m → without_first m w (xs ++ x ∷ []) ≡ without_first m w xs) → (b : Bool) → bytes_eq y w ≡ b → without_first n w (y ∷ (xs ++ x ∷ [])) ≡ without_first n w (y ∷ xs)
    go less true e =
        let counted = count_of-cons w y xs ∙ ap (λ c. cond c 1 0 + count_of w xs) e in
        first_goes n w y (xs ++ x ∷ []) (omega arith) e ∙ less (n - 1) (omega arith) ∙ sym (first_goes n w y xs (omega arith) e)
    go less false e =
        let counted = count_of-cons w y xs ∙ ap (λ c. cond c 1 0 + count_of w xs) e in
        first_stays n w y (xs ++ x ∷ []) (λ _. e) ∙ ap (λ zs. y ∷ zs) (less n (omega arith)) ∙ sym (first_stays n w y xs (λ _. e))

first_stays_behind : (n : ℕ) (w : List ℕ) (xs : List (List ℕ)) (x : List ℕ) → (count_of w xs < n → bytes_eq x w ≡ false) → without_first n w (xs ++ x ∷ []) ≡ without_first n w xs ++ x ∷ []
first_stays_behind n w [] x other = first_stays n w x [] other
first_stays_behind n w (y ∷ xs) x other = go (λ m h. first_stays_behind m w xs x h) (bytes_eq y w) refl (cases_lt 0 n)
  where
    go : ((m : ℕ) → (count_of w xs < m → bytes_eq x w ≡ false) → without_first m w (xs ++ x ∷ []) ≡ without_first m w xs ++ x ∷ []) → (b : Bool) → bytes_eq y w ≡ b → (0 < n) ⊎ (n ≤ 0) → without_first n w (y ∷ (xs ++ x ∷ [])) ≡ without_first n w (y ∷ xs) ++ x ∷ []
    go less true e (inl some) =
        let counted = count_of-cons w y xs ∙ ap (λ c. cond c 1 0 + count_of w xs) e in
        first_goes n w y (xs ++ x ∷ []) some e ∙ less (n - 1) (λ h. other (omega arith)) ∙ ap (λ zs. zs ++ x ∷ []) (sym (first_goes n w y xs some e))
    go less true e (inr none) =
        first_stays n w y (xs ++ x ∷ []) (λ h. absurd (omega arith)) ∙ ap (λ zs. y ∷ zs) (less n (λ h. absurd (omega arith))) ∙ ap (λ zs. zs ++ x ∷ []) (sym (first_stays n w y xs (λ h. absurd (omega arith))))
    go less false e c =
        let counted = count_of-cons w y xs ∙ ap (λ b. cond b 1 0 + count_of w xs) e in
        first_stays n w y (xs ++ x ∷ []) (λ _. e) ∙ ap (λ zs. y ∷ zs) (less n (λ h. other (omega arith))) ∙ ap (λ zs. zs ++ x ∷ []) (sym (first_stays n w y xs (λ _. e)))

reverse-cons : (x : List ℕ) (xs : List (List ℕ)) → reverse (x ∷ xs) ≡ reverse xs ++ x ∷ []
reverse-cons x xs = reverse-append (x ∷ []) xs

pub count_of-reverse : (w : List ℕ) (xs : List (List ℕ)) → count_of w (reverse xs) ≡ count_of w xs
count_of-reverse w [] = refl
count_of-reverse w (x ∷ xs) = ap (count_of w) (reverse-cons x xs) ∙ count_of-push w (reverse xs) x ∙ omega (arith, count_of-reverse w xs, count_of-cons w x xs)

-- The removal from the back is the removal from the front of the list turned round.
pub turned : (n : ℕ) (w : List ℕ) (xs : List (List ℕ)) → reverse (without_last n w xs) ≡ without_first n w (reverse xs)
turned n w [] = refl
turned n w (x ∷ xs) = go (turned n w xs) (bytes_eq x w) refl (cases_lt (count_of w xs) n)
  where
    front : without_first n w (reverse xs ++ x ∷ []) ≡ without_first n w (reverse (x ∷ xs))
    front = ap (without_first n w) (sym (reverse-cons x xs))

    stays : reverse (without_last n w xs) ≡ without_first n w (reverse xs) → without_last n w (x ∷ xs) ≡ x ∷ without_last n w xs → (count_of w (reverse xs) < n → bytes_eq x w ≡ false) → reverse (without_last n w (x ∷ xs)) ≡ without_first n w (reverse (x ∷ xs))
    stays before e other = ap reverse e ∙ reverse-cons x (without_last n w xs) ∙ ap (λ zs. zs ++ x ∷ []) before ∙ sym (first_stays_behind n w (reverse xs) x other) ∙ front

    go : reverse (without_last n w xs) ≡ without_first n w (reverse xs) → (b : Bool) → bytes_eq x w ≡ b → (count_of w xs < n) ⊎ (n ≤ count_of w xs) → reverse (without_last n w (x ∷ xs)) ≡ without_first n w (reverse (x ∷ xs))
    go before true e (inl few) =
        let goes : without_last n w (x ∷ xs) ≡ without_last n w xs = rw (lt-ltb _ _ few, e) refl in
        let counted = count_of-reverse w xs in
        ap reverse goes ∙ before ∙ sym (first_goes_behind n w (reverse xs) x (omega arith) e) ∙ front
    go before true e (inr many) =
        let counted = count_of-reverse w xs in
        stays before (rw (le-ltb _ _ many) refl) (λ h. absurd (omega arith))
    go before false e (inl few) = stays before (rw (lt-ltb _ _ few, e) refl) (λ _. e)
    go before false e (inr many) = stays before (rw (le-ltb _ _ many) refl) (λ _. e)

length-first : (n : ℕ) (w : List ℕ) (xs : List (List ℕ)) → length (without_first n w xs) + min n (count_of w xs) ≡ length xs
length-first n w [] = omega arith
length-first n w (x ∷ xs) = go (λ m. length-first m w xs) (bytes_eq x w) refl (cases_lt 0 n)
  where
    go : ((m : ℕ) → length (without_first m w xs) + min m (count_of w xs) ≡ length xs) → (b : Bool) → bytes_eq x w ≡ b → (0 < n) ⊎ (n ≤ 0) → length (without_first n w (x ∷ xs)) + min n (count_of w (x ∷ xs)) ≡ length (x ∷ xs)
    go less true e (inl some) = let counted = count_of-cons w x xs ∙ ap (λ c. cond c 1 0 + count_of w xs) e in omega (arith, ap length (first_goes n w x xs some e), less (n - 1))
    go less true e (inr none) = let counted = count_of-cons w x xs ∙ ap (λ c. cond c 1 0 + count_of w xs) e in omega (arith, ap length (first_stays n w x xs (λ h. absurd (omega arith))), less n)
    go less false e c = let counted = count_of-cons w x xs ∙ ap (λ b. cond b 1 0 + count_of w xs) e in omega (arith, ap length (first_stays n w x xs (λ _. e)), less n)

length-last : (n : ℕ) (w : List ℕ) (xs : List (List ℕ)) → length (without_last n w xs) + min n (count_of w xs) ≡ length xs
length-last n w xs = omega (arith, sym (length-reverse (without_last n w xs)), ap length (turned n w xs), length-first n w (reverse xs), count_of-reverse w xs, length-reverse xs)

-- What stays and what goes are all.
pub length-without : (count : ℤ) (w : List ℕ) (xs : List (List ℕ)) → length (without count w xs) + removed_count count (count_of w xs) ≡ length xs
length-without (pos zero) w xs = omega (arith, ap length (all_go (length xs) w xs (omega arith)), length-first (length xs) w xs, count_by-le-length (λ x. bytes_eq x w) xs)
length-without (pos (suc n)) w xs = length-first (suc n) w xs
length-without (negsuc n) w xs = length-last (suc n) w xs
