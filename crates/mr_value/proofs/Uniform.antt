-- Lists whose items equal one another.
use Rattle.std.proofs.Common.{◌≡◌, ℕ, suc, ◌-◌, List, [], ◌∷◌, ◌++◌, length, get_or, take, drop, true, ◌&&◌, IsTrue, refl, sym, ap, ◌∙◌, arith}
use Rattle.std.specs.Prelude.{◌↔◌}
use Rattle.std.specs.List.{list_all}
use Rattle.std.specs.Str.{bytes_eq}
use Rattle.std.proofs.lemmas.List.{length-append, take-append-drop}
use Rattle.std.proofs.Math.ListN.{drop_of_length-le}
use Rattle.std.proofs.Math.Seq.{drop-cons, drop-append_seam, take-append_seam}
use Rattle.mr_value.specs.Lists.{are_equal}
use Rattle.mr_bytes.proofs.Numbers.{same_bytes, equal_bytes}
use Rattle.mr_bytes.proofs.Both.{first, second}

-- a list turned by one place, either way
abbrev to_left : List (List ℕ) → List (List ℕ)
to_left xs = drop 1 xs ++ take 1 xs

abbrev to_right : List (List ℕ) → List (List ℕ)
to_right xs = drop (length xs - 1) xs ++ take (length xs - 1) xs

all_same : (x : List ℕ) (ys : List (List ℕ)) → list_all (λ y. bytes_eq y x) ys ≡ true → ys ++ x ∷ [] ≡ x ∷ ys
all_same x [] h = refl
all_same x (y ∷ ys) h =
    let same : y ≡ x = same_bytes y x (first _ _ h) in
    let rest : ys ++ x ∷ [] ≡ x ∷ ys = all_same x ys (second _ _ h) in
    ap (λ zs. y ∷ zs) rest ∙ ap (λ z. z ∷ x ∷ ys) same ∙ ap (λ z. x ∷ z ∷ ys) (sym same)

same_all : (x : List ℕ) (ys : List (List ℕ)) → ys ++ x ∷ [] ≡ x ∷ ys → list_all (λ y. bytes_eq y x) ys ≡ true
same_all x [] h = refl
same_all x (y ∷ ys) h =
    let same : y ≡ x = cc in
    let rest : ys ++ x ∷ [] ≡ y ∷ ys = cc in
    let turned : ys ++ x ∷ [] ≡ x ∷ ys = rest ∙ ap (λ z. z ∷ ys) same in
    let equal : bytes_eq y x ≡ true = ap (λ z. bytes_eq z x) same ∙ equal_bytes x in
    ap (λ b. b && list_all (λ z. bytes_eq z x) ys) equal ∙ same_all x ys turned

left_same : (xs : List (List ℕ)) → are_equal xs ≡ true → to_left xs ≡ xs
unfolding are_equal
left_same [] h = refl
left_same (x ∷ ys) h = all_same x ys (second _ _ h)

left_equal : (xs : List (List ℕ)) → to_left xs ≡ xs → are_equal xs ≡ true
unfolding are_equal
left_equal [] h = refl
left_equal (x ∷ ys) h = ap (λ b. b && list_all (λ z. bytes_eq z x) ys) (equal_bytes x) ∙ same_all x ys h

turned_back : (x : List ℕ) (ys : List (List ℕ)) → to_right (ys ++ x ∷ []) ≡ x ∷ ys
turned_back x ys =
    let all = ys ++ x ∷ [] in
    let front : length all - 1 ≡ length ys = omega (arith, length-append ys (x ∷ [])) in
    ap (λ k. drop k all ++ take k all) front ∙ ap (λ zs. zs ++ take (length ys) all) (drop-append_seam ys (x ∷ [])) ∙ ap (λ zs. x ∷ zs) (take-append_seam ys (x ∷ []))

right_from_left : (xs : List (List ℕ)) → to_left xs ≡ xs → to_right xs ≡ xs
right_from_left [] h = refl
right_from_left (x ∷ ys) h = ap to_right (sym h) ∙ turned_back x ys

left_from_right : (xs : List (List ℕ)) → to_right xs ≡ xs → to_left xs ≡ xs
left_from_right [] h = refl
left_from_right (x ∷ ys) h =
    let xs : List (List ℕ) = x ∷ ys in
    let k : ℕ = length ys in
    let z : List ℕ = get_or xs k [] in
    let front : length xs - 1 ≡ k = omega arith in
    let none : drop (suc k) xs ≡ [] = drop_of_length-le xs {i = suc k} (omega arith) in
    let last : drop k xs ≡ z ∷ [] = drop-cons xs k [] (omega arith) ∙ ap (λ zs. z ∷ zs) none in
    let shown : to_right xs ≡ z ∷ take k xs = ap (λ j. drop j xs ++ take j xs) front ∙ ap (λ zs. zs ++ take k xs) last in
    ap to_left (sym h) ∙ ap to_left shown ∙ ap (λ zs. take k xs ++ zs) (sym last) ∙ take-append-drop k xs

pub turns_left : (xs : List (List ℕ)) → IsTrue (are_equal xs) ↔ (drop 1 xs ++ take 1 xs ≡ xs)
turns_left xs = (left_same xs, left_equal xs)

pub turns_right : (xs : List (List ℕ)) → IsTrue (are_equal xs) ↔ (drop (length xs - 1) xs ++ take (length xs - 1) xs ≡ xs)
turns_right xs = ((λ h. right_from_left xs (left_same xs h)), (λ h. left_equal xs (left_from_right xs h)))
