-- Items that are written a group at a time.
use Rattle.std.proofs.Common.{ℕ, ◌≡◌, ◌<◌, ◌≤◌, ◌+◌, List, [], ◌∷◌, ◌++◌, map, length, take, drop, refl, sym, ◌∙◌, ap, append_assoc, append-nil, length-append, arith}
use Rattle.std.specs.Prelude.{◌≢◌, ◌==◌, true, false, Result, Ok, Err, OnOk}
use Rattle.std.proofs.Math.Seq.{take-append_seam, drop-append_seam}
use Rattle.std.proofs.Math.ListN.{drop_of_length-le}
use Rattle.std.proofs.lemmas.Bool.{eqb-true, eqb-false}
use Rattle.std.proofs.lemmas.List.{take_all}
use Rattle.mr_effect.specs.Spelling.{text, texts}
use Rattle.mr_effect.specs.declared.effect.Effect.{Effect}
use Rattle.mr_keyspace.specs.Cuts.{most_items, cut}
use Rattle.mr_keyspace.proofs.Cutting.{cut_more}

less : (n m : ℕ) → m ≡ n + 1 → n < most_items → m ≢ most_items → m < most_items
less n m grown room other = le-ne (omega (arith, grown, room)) other
  where
    le-ne : m ≤ most_items → m ≢ most_items → m < most_items
    le-ne h k = elim (m == most_items) as (λ b. (m == most_items) ≡ b → m < most_items) [
      | true ↦ λ e. absurd (k (eqb-true m most_items e))
      | false ↦ λ e. omega (arith, h, eqb-false m most_items e)
    ] refl

never : (n : ℕ) → n ≡ 0 → n ≡ most_items → ⊥
never n a b = omega (arith, a, b)

module _ {X : Type 0} where
  -- a full group in front is the first of all
  cut_full : (g rest : List X) → length g ≡ most_items → cut (g ++ rest) ≡ g ∷ cut rest
  cut_full [] rest h = absurd (never (length {A = X} []) refl h)
  cut_full (x ∷ xs) rest h =
      cut_more x (xs ++ rest)
      ∙ ap (λ a. a ∷ cut (drop most_items (x ∷ xs ++ rest))) (ap (λ n. take n (x ∷ xs ++ rest)) (sym h) ∙ take-append_seam (x ∷ xs) rest)
      ∙ ap (λ b. (x ∷ xs) ∷ cut b) (ap (λ n. drop n (x ∷ xs ++ rest)) (sym h) ∙ drop-append_seam (x ∷ xs) rest)

  -- few items are one group
  one_group : (x : X) (xs : List X) → length (x ∷ xs) ≤ most_items → cut (x ∷ xs) ≡ (x ∷ xs) ∷ []
  one_group x xs h =
      cut_more x xs
      ∙ ap (λ a. a ∷ cut (drop most_items (x ∷ xs))) (take_all most_items (x ∷ xs) h)
      ∙ ap (λ b. (x ∷ xs) ∷ cut b) (drop_of_length-le (x ∷ xs) h)

module _ {X : Type 0} (effect : List X → Effect) where
  -- the texts of the effects of groups
  abbrev pub written : List X → List ℕ
  written xs = texts (map effect (cut xs))

  -- the text of a last group
  last_written : (g : List X) → (length g == 0) ≡ false → length g ≤ most_items → text (effect g) ≡ written g
  last_written [] some room = cc
  last_written (x ∷ xs) some room = sym (append-nil (text (effect (x ∷ xs)))) ∙ ap (λ gs. texts (map effect gs)) (sym (one_group x xs room))

  pub last_put : {E : Type 0} (r : Result (Unit {0}) E) (g : List X) (e : Effect) (old new : List ℕ) → e ≡ effect g → (length g == 0) ≡ false → length g ≤ most_items → OnOk r (new ≡ old ++ text e) → OnOk r (new ≡ old ++ written g)
  last_put (Ok x) g e old new is some room put = put ∙ ap (λ f. old ++ text f) is ∙ ap (λ t. old ++ t) (last_written g some room)
  last_put (Err x) g e old new is some room put = tt

  full_written : (g rest : List X) → length g ≡ most_items → written (g ++ rest) ≡ written g ++ written rest
  full_written g rest full =
      ap (λ gs. texts (map effect gs)) (cut_full g rest full)
      ∙ ap (λ t. t ++ written rest) (sym (append-nil (text (effect g))) ∙ ap (λ gs. texts (map effect gs)) (sym (ap cut (sym (append-nil g)) ∙ cut_full g [] full)))

  -- the text so far, and that of the group and of what is left, is that of all
  pub record IsWriting (old new : List ℕ) (group left all : List X) : Type 0 where
    pub text : new ++ written (group ++ left) ≡ old ++ written all
    pub room : length group < most_items

  pub writing_starts : (old : List ℕ) (group left all : List X) → group ≡ [] → left ≡ all → IsWriting old old group left all
  writing_starts old group left all none whole = record {
    text = ap (λ g. old ++ written (g ++ left)) none ∙ ap (λ xs. old ++ written xs) whole;
    room = omega (arith, ap length none);
  }

  module _ (old new : List ℕ) (group left later all group2 : List X) (x : X) (before : IsWriting old new group left all) (is : left ≡ x ∷ later) (more : group2 ≡ group ++ x ∷ []) where
    taken : new ++ written (group2 ++ later) ≡ old ++ written all
    taken = ap (λ g. new ++ written (g ++ later)) more ∙ ap (λ xs. new ++ written xs) (append_assoc group (x ∷ []) later ∙ ap (λ xs. group ++ xs) (sym is)) ∙ before.text

    grown : length group2 ≡ length group + 1
    grown = ap length more ∙ length-append group (x ∷ [])

    -- the group has room still
    pub writing_goes : length group2 ≢ most_items → IsWriting old new group2 later all
    writing_goes room = record { text = taken; room = less (length group) (length group2) grown before.room room }

    -- the group is full
    pub writing_flushes : (new2 : List ℕ) (group3 : List X) → length group2 ≡ most_items → new2 ≡ new ++ written group2 → group3 ≡ [] → IsWriting old new2 group3 later all
    writing_flushes new2 group3 full put none = record {
      text = ap (λ g. new2 ++ written (g ++ later)) none ∙ ap (λ t. t ++ written later) put ∙ append_assoc new (written group2) (written later) ∙ ap (λ t. new ++ t) (sym (full_written group2 later full)) ∙ taken;
      room = omega (arith, ap length none);
    }

  pub writing_ends : (old new new2 : List ℕ) (group left all : List X) → IsWriting old new group left all → left ≡ [] → new2 ≡ new ++ written group → new2 ≡ old ++ written all
  writing_ends old new new2 group left all before none put = put ∙ ap (λ g. new ++ written g) (sym (append-nil group) ∙ ap (λ xs. group ++ xs) (sym none)) ∙ before.text
