-- Edits of one part of a list of parts, as edits of the joined list.
use Rattle.std.proofs.Common.{◌≡◌, ℕ, zero, suc, ◌+◌, ◌-◌, ◌<◌, ◌≤◌, List, [], ◌∷◌, ◌++◌, length, get_or, set, take, drop, refl, sym, ap, ap₂, ◌∙◌, arith, append_assoc, length-append, add-one, inl, inr}
use Rattle.std.specs.List.{flat_map, insert, remove}
use Rattle.std.proofs.lemmas.List.{set-append_left, set-append_right, take_all}
use Rattle.std.proofs.lemmas.List.Concat.{get_or-flat_map}
use Rattle.std.proofs.lemmas.Bool.{cases_lt}
use Rattle.std.proofs.lemmas.List.Edits.{insert-append_left, insert-append_right, length-remove, remove-append_left, remove-append_right}
use Rattle.std.specs.Prelude.{OnErr, OnOk, Result, Ok, Err}

pub on_err : {T E P : Type 0} (r : Result T E) → P → OnErr r P
on_err (Ok x) p = tt
on_err (Err y) p = p

-- what follows at Ok, and at Err
pub on_ok_map : {T E P Q : Type 0} (r : Result T E) → (P → Q) → OnOk r P → OnOk r Q
on_ok_map (Ok x) f p = f p
on_ok_map (Err y) f p = tt

pub on_err_map : {T E P Q : Type 0} (r : Result T E) → (P → Q) → OnErr r P → OnErr r Q
on_err_map (Ok x) f p = tt
on_err_map (Err y) f p = f p

pub none_of : {A : Type 0} (xs : List A) → length xs ≡ 0 → xs ≡ []
none_of [] e = refl
none_of (x ∷ xs) e = absurd (omega arith)

module _ {X A : Type 0} (f : X → List A) where
  -- the joined list, cut at the part c
  pub flat_at : (xs : List X) (c : ℕ) (d : X) → c < length xs → flat_map f xs ≡ flat_map f (take c xs) ++ (f (get_or xs c d) ++ flat_map f (drop (suc c) xs))
  flat_at [] c d within = absurd (omega arith)
  flat_at (x ∷ xs) zero d within = refl
  flat_at (x ∷ xs) (suc c) d within = ap (λ l. f x ++ l) (flat_at xs c d (omega arith)) ∙ sym (append_assoc (f x) _ _)

  -- the same where the part c is another one
  pub flat_set : (xs : List X) (c : ℕ) (v : X) → c < length xs → flat_map f (set xs c v) ≡ flat_map f (take c xs) ++ (f v ++ flat_map f (drop (suc c) xs))
  flat_set [] c v within = absurd (omega arith)
  flat_set (x ∷ xs) zero v within = refl
  flat_set (x ∷ xs) (suc c) v within = ap (λ l. f x ++ l) (flat_set xs c v (omega arith)) ∙ sym (append_assoc (f x) _ _)

  -- a further part behind the part c
  pub flat_two : (xs : List X) (c : ℕ) (v w : X) → c < length xs → flat_map f (insert (set xs c v) (suc c) w) ≡ flat_map f (take c xs) ++ ((f v ++ f w) ++ flat_map f (drop (suc c) xs))
  flat_two [] c v w within = absurd (omega arith)
  flat_two (x ∷ xs) zero v w within = ap (λ l. f v ++ l) refl ∙ sym (append_assoc (f v) (f w) _)
  flat_two (x ∷ xs) (suc c) v w within = ap (λ l. f x ++ l) (flat_two xs c v w (omega arith)) ∙ sym (append_assoc (f x) _ _)

  pub flat_without : (xs : List X) (c : ℕ) → c < length xs → flat_map f (remove xs c) ≡ flat_map f (take c xs) ++ flat_map f (drop (suc c) xs)
  flat_without [] c within = absurd (omega arith)
  flat_without (x ∷ xs) zero within = refl
  flat_without (x ∷ xs) (suc c) within = ap (λ l. f x ++ l) (flat_without xs c (omega arith)) ∙ sym (append_assoc (f x) _ _)

  -- an item put into the part c
  pub flat_insert : (xs : List X) (c o k : ℕ) (v d : X) (y : A) → c < length xs → length (flat_map f (take c xs)) + o ≡ k → o ≤ length (f (get_or xs c d)) → f v ≡ insert (f (get_or xs c d)) o y
      → flat_map f (set xs c v) ≡ insert (flat_map f xs) k y
  flat_insert xs c o k v d y within place inside is =
      let front = flat_map f (take c xs) in
      let back = flat_map f (drop (suc c) xs) in
      let part = f (get_or xs c d) in
      let rest : k - length front ≡ o = omega arith in
      flat_set xs c v within ∙ ap (λ l. front ++ (l ++ back)) is ∙ ap (λ l. front ++ l) (sym (insert-append_left part back o y inside))
      ∙ ap (λ n. front ++ insert (part ++ back) n y) (sym rest) ∙ sym (insert-append_right front (part ++ back) (length front) k y refl (omega arith))
      ∙ ap (λ l. insert l k y) (sym (flat_at xs c d within))

  -- an item of the part c, in whose place another comes
  pub flat_replace : (xs : List X) (c o k : ℕ) (v d : X) (y : A) → c < length xs → length (flat_map f (take c xs)) + o ≡ k → o < length (f (get_or xs c d)) → f v ≡ set (f (get_or xs c d)) o y
      → flat_map f (set xs c v) ≡ set (flat_map f xs) k y
  flat_replace xs c o k v d y within place inside is =
      let front = flat_map f (take c xs) in
      let back = flat_map f (drop (suc c) xs) in
      let part = f (get_or xs c d) in
      let rest : k - length front ≡ o = omega arith in
      flat_set xs c v within ∙ ap (λ l. front ++ (l ++ back)) is ∙ ap (λ l. front ++ l) (sym (set-append_left part back o y inside))
      ∙ ap (λ n. front ++ set (part ++ back) n y) (sym rest) ∙ sym (set-append_right front (part ++ back) (length front) k y refl (omega arith))
      ∙ ap (λ l. set l k y) (sym (flat_at xs c d within))

  -- an item taken from the part c
  pub flat_remove : (xs : List X) (c o k : ℕ) (v d : X) → c < length xs → length (flat_map f (take c xs)) + o ≡ k → o < length (f (get_or xs c d)) → f v ≡ remove (f (get_or xs c d)) o
      → flat_map f (set xs c v) ≡ remove (flat_map f xs) k
  flat_remove xs c o k v d within place inside is =
      let front = flat_map f (take c xs) in
      let back = flat_map f (drop (suc c) xs) in
      let part = f (get_or xs c d) in
      let rest : k - length front ≡ o = omega arith in
      flat_set xs c v within ∙ ap (λ l. front ++ (l ++ back)) is ∙ ap (λ l. front ++ l) (sym (remove-append_left part back o inside))
      ∙ ap (λ n. front ++ remove (part ++ back) n) (sym rest) ∙ sym (remove-append_right front (part ++ back) (length front) k refl (omega arith))
      ∙ ap (λ l. remove l k) (sym (flat_at xs c d within))

  -- an item put into one of the halves of the part c
  pub flat_insert_two : (xs : List X) (c o k : ℕ) (v w d : X) (y : A) → c < length xs → length (flat_map f (take c xs)) + o ≡ k → o ≤ length (f (get_or xs c d)) → f v ++ f w ≡ insert (f (get_or xs c d)) o y
      → flat_map f (insert (set xs c v) (c + 1) w) ≡ insert (flat_map f xs) k y
  flat_insert_two xs c o k v w d y within place inside is =
      let front = flat_map f (take c xs) in
      let back = flat_map f (drop (suc c) xs) in
      let part = f (get_or xs c d) in
      let rest : k - length front ≡ o = omega arith in
      ap (λ n. flat_map f (insert (set xs c v) n w)) (add-one c) ∙ flat_two xs c v w within ∙ ap (λ l. front ++ (l ++ back)) is
      ∙ ap (λ l. front ++ l) (sym (insert-append_left part back o y inside))
      ∙ ap (λ n. front ++ insert (part ++ back) n y) (sym rest) ∙ sym (insert-append_right front (part ++ back) (length front) k y refl (omega arith))
      ∙ ap (λ l. insert l k y) (sym (flat_at xs c d within))

  -- a part cut in two
  pub flat_split : (xs : List X) (c : ℕ) (v w d : X) → c < length xs → f v ++ f w ≡ f (get_or xs c d) → flat_map f (insert (set xs c v) (c + 1) w) ≡ flat_map f xs
  flat_split xs c v w d within is = ap (λ n. flat_map f (insert (set xs c v) n w)) (add-one c) ∙ flat_two xs c v w within ∙ ap (λ l. flat_map f (take c xs) ++ (l ++ flat_map f (drop (suc c) xs))) is ∙ sym (flat_at xs c d within)

  -- the only item of the part c taken, with the part
  pub flat_take_single : (xs : List X) (c : ℕ) (d : X) → c < length xs → length (f (get_or xs c d)) ≡ 1 → flat_map f (remove xs c) ≡ remove (flat_map f xs) (length (flat_map f (take c xs)))
  flat_take_single xs c d within single =
      let front = flat_map f (take c xs) in
      let back = flat_map f (drop (suc c) xs) in
      let part = f (get_or xs c d) in
      let inside : 0 < length part = omega arith in
      let none : remove part 0 ≡ [] = none_of (remove part 0) (let l = length-remove part 0 inside in omega arith) in
      let rest : length front - length front ≡ 0 = omega arith in
      flat_without xs c within ∙ ap (λ l. front ++ (l ++ back)) (sym none) ∙ ap (λ l. front ++ l) (sym (remove-append_left part back 0 inside))
      ∙ ap (λ n. front ++ remove (part ++ back) n) (sym rest) ∙ sym (remove-append_right front (part ++ back) (length front) (length front) refl (omega arith))
      ∙ ap (λ l. remove l (length front)) (sym (flat_at xs c d within))

  joined : (xs : List X) (c : ℕ) (v d : X) → suc c < length xs → f v ≡ f (get_or xs c d) ++ f (get_or xs (suc c) d) → flat_map f (set (remove xs (suc c)) c v) ≡ flat_map f xs
  joined [] c v d within is = absurd (omega arith)
  joined (x ∷ []) c v d within is = absurd (omega arith)
  joined (x ∷ y ∷ zs) zero v d within is = ap (λ l. l ++ flat_map f zs) is ∙ append_assoc (f x) (f y) _
  joined (x ∷ y ∷ zs) (suc c) v d within is = ap (λ l. f x ++ l) (joined (y ∷ zs) c v d (omega arith) is)

  put_back : (xs : List X) (c : ℕ) (v w d : X) → suc c < length xs → f v ≡ f (get_or xs c d) → f w ≡ f (get_or xs (suc c) d) → flat_map f (insert (set (remove xs (suc c)) c v) (suc c) w) ≡ flat_map f xs
  put_back [] c v w d within is also = absurd (omega arith)
  put_back (x ∷ []) c v w d within is also = absurd (omega arith)
  put_back (x ∷ y ∷ zs) zero v w d within is also = ap₂ (λ k l. k ++ (l ++ flat_map f zs)) is also
  put_back (x ∷ y ∷ zs) (suc c) v w d within is also = ap (λ l. f x ++ l) (put_back (y ∷ zs) c v w d (omega arith) is also)

  -- the part behind the part c joined to it
  pub flat_joined : (xs ys : List X) (c : ℕ) (v d : X) → ys ≡ remove xs (c + 1) → c + 1 < length xs → f v ≡ f (get_or xs c d) ++ f (get_or xs (c + 1) d) → flat_map f (set ys c v) ≡ flat_map f xs
  flat_joined xs ys c v d taken within is =
      ap (λ l. flat_map f (set l c v)) (taken ∙ ap (λ n. remove xs n) (add-one c)) ∙ joined xs c v d (omega arith) (is ∙ ap (λ n. f (get_or xs c d) ++ f (get_or xs n d)) (add-one c))

  -- the part behind the part c taken and put back
  pub flat_put_back : (xs ys : List X) (c : ℕ) (v w d : X) → ys ≡ remove xs (c + 1) → c + 1 < length xs → f v ≡ f (get_or xs c d) → f w ≡ f (get_or xs (c + 1) d) → flat_map f (insert (set ys c v) (c + 1) w) ≡ flat_map f xs
  flat_put_back xs ys c v w d taken within is also =
      ap (λ n. flat_map f (insert (set ys c v) n w)) (add-one c) ∙ ap (λ l. flat_map f (insert (set l c v) (suc c) w)) (taken ∙ ap (λ n. remove xs n) (add-one c))
      ∙ put_back xs c v w d (omega arith) is (also ∙ ap (λ n. f (get_or xs n d)) (add-one c))

  flat_take_suc : (xs : List X) (c : ℕ) (d : X) → c < length xs → length (flat_map f (take (suc c) xs)) ≡ length (flat_map f (take c xs)) + length (f (get_or xs c d))
  flat_take_suc [] c d within = absurd (omega arith)
  flat_take_suc (x ∷ xs) zero d within = let l = length-append (f x) (flat_map f (take zero xs)) in omega arith
  flat_take_suc (x ∷ xs) (suc c) d within =
      let one = length-append (f x) (flat_map f (take (suc c) xs)) in
      let two = length-append (f x) (flat_map f (take c xs)) in
      let h = flat_take_suc xs c d (omega arith) in
      omega arith

  -- one part more in front
  pub flat_take : (xs : List X) (c : ℕ) (d : X) → c < length xs → length (flat_map f (take (c + 1) xs)) ≡ length (flat_map f (take c xs)) + length (f (get_or xs c d))
  flat_take xs c d within = ap (λ n. length (flat_map f (take n xs))) (add-one c) ∙ flat_take_suc xs c d within

  -- there is a part c + 1 where a place is still behind the part c
  pub flat_more : (xs : List X) (c o k : ℕ) (d : X) → c < length xs → k < length (flat_map f xs) → length (flat_map f (take c xs)) + o ≡ k → length (f (get_or xs c d)) ≤ o → c + 1 < length xs
  flat_more xs c o k d within inside place behind = elim (cases_lt (c + 1) (length xs)) [
    | inl lt ↦ lt
    | inr ge ↦ (
        let all = ap (λ l. length (flat_map f l)) (take_all (c + 1) xs ge) in
        let one = flat_take xs c d within in
        absurd (omega arith))
  ]

  -- a part replaced by one with the same items
  pub flat_same : (xs : List X) (c : ℕ) (v d : X) → c < length xs → f v ≡ f (get_or xs c d) → flat_map f (set xs c v) ≡ flat_map f xs
  flat_same xs c v d within is = flat_set xs c v within ∙ ap (λ l. flat_map f (take c xs) ++ (l ++ flat_map f (drop (suc c) xs))) is ∙ sym (flat_at xs c d within)

  -- what stands in front and in a part is no more than all
  pub flat_bound : (xs : List X) (c : ℕ) (d : X) → c < length xs → length (flat_map f (take c xs)) + length (f (get_or xs c d)) ≤ length (flat_map f xs)
  flat_bound xs c d within =
      let front = flat_map f (take c xs) in
      let back = flat_map f (drop (suc c) xs) in
      let part = f (get_or xs c d) in
      let all = ap length (flat_at xs c d within) in
      let one = length-append front (part ++ back) in
      let two = length-append part back in
      omega arith

pub flat_cut : {X A : Type 0} (f : X → List A) (xs : List X) (h : ℕ) → flat_map f (take h xs) ++ flat_map f (drop h xs) ≡ flat_map f xs
flat_cut f xs zero = refl
flat_cut f [] (suc h) = refl
flat_cut f (x ∷ xs) (suc h) = append_assoc (f x) _ _ ∙ ap (λ l. f x ++ l) (flat_cut f xs h)

-- what stands at a place in a part
pub flat_item : {X A : Type 0} (f : X → List A) (xs : List X) (i j k : ℕ) (e : X) (d : A) → i < length xs → length (flat_map f (take i xs)) + j ≡ k → j < length (f (get_or xs i e)) → e ≡ get_or xs i e → d ≡ get_or (f e) j d → d ≡ get_or (flat_map f xs) k d
flat_item f xs i j k e d within place inside is here =
    here ∙ ap (λ p. get_or (f p) j d) is ∙ sym (get_or-flat_map f xs i j e d within inside) ∙ ap (λ n. get_or (flat_map f xs) n d) place
