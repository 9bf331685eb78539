-- Items pushed in groups.
use Rattle.std.proofs.Common.{ℕ, ◌+◌, ◌-◌, ◌<◌, ◌≤◌, ◌≡◌, min, List, [], ◌∷◌, ◌++◌, length, take, drop, sym, ◌∙◌, ap, arith, append_assoc, ⊎_elim}
use Rattle.std.specs.Prelude.{map, slice_range}
use Rattle.std.proofs.lemmas.List.{length-drop, length-map, take_all, drop-drop, take-map, drop-map}
use Rattle.std.proofs.lemmas.Bool.{cases_lt}
use Rattle.std.proofs.Math.ListN.{drop_of_length-le}
use Rattle.mr_map.specs.Bytes.{Bytes}
use Rattle.mr_effect.specs.declared.effect.Effect.{Effect}
use Rattle.mr_effect.specs.declared.effect.Effect.TheVariants as effect
use Rattle.mr_bytes.specs.declared.ends.End.{End}
use Rattle.mr_keyspace.specs.Cuts.{most_items, cut}
use Rattle.mr_keyspace.proofs.Cutting.{cut_more}
use Rattle.mr_cmd_list.specs.Pushes.{push_effects}

-- the first group, and those of the rest
cut_some : {X : Type 0} (xs : List X) → 0 < length xs → cut xs ≡ take most_items xs ∷ cut (drop most_items xs)
cut_some [] h = absurd (omega (arith, h))
cut_some (x ∷ xs) h = cut_more x xs

module _ {A : Type 0} (items : List A) (start : ℕ) (below : start < length items) where
  few : (n : ℕ) → length (drop start items) ≤ n → take n (drop start items) ≡ take (length items - start) (drop start items)
  few n h = take_all n (drop start items) h ∙ sym (take_all (length items - start) (drop start items) (omega (arith, length-drop start items)))

  module _ (next : ℕ) (is : next ≡ min (length items) (start + most_items)) where
    whole : start + most_items < length items → next ≡ start + most_items
    whole h = omega (arith, is, h)

    last : length items ≤ start + most_items → next ≡ length items
    last h = omega (arith, is, h)

    pub group_is : take most_items (drop start items) ≡ slice_range items start next
    group_is = ⊎_elim
        (λ (h : start + most_items < length items). let more : most_items ≡ next - start = omega (arith, whole h) in ap (λ n. take n (drop start items)) more)
        (λ (h : length items ≤ start + most_items). few most_items (omega (arith, length-drop start items)) ∙ ap (λ n. take (n - start) (drop start items)) (sym (last h)))
        (cases_lt (start + most_items) (length items))

    pub later_is : drop most_items (drop start items) ≡ drop next items
    later_is = drop-drop most_items start items ∙ ⊎_elim
        (λ (h : start + most_items < length items). ap (λ n. drop n items) (sym (whole h)))
        (λ (h : length items ≤ start + most_items). drop_of_length-le items h ∙ sym (drop_of_length-le items (omega (arith, last h))))
        (cases_lt (start + most_items) (length items))

module _ {A : Type 0} (k : Bytes) (end : End) (f : A → Bytes) (items : List A) where
  -- the effects of the items from a place on are still to come
  pub record HasPushed (start : ℕ) (old new : List Effect) : Type 0 where
    pub within : start ≤ length items
    pub rest : new ++ push_effects k end (cut (map f (drop start items))) ≡ old ++ push_effects k end (cut (map f items))

  -- one group more
  pub pushed_more : (start next : ℕ) (old mid new : List Effect) (group : List A) (key : Bytes) (words : List Bytes) → HasPushed start old mid → start < length items → next ≡ min (length items) (start + most_items) → group ≡ slice_range items start next
      → key ≡ k → words ≡ map f group → new ≡ mid ++ effect.Push key end words ∷ [] → HasPushed next old new
  pushed_more start next old mid new group key words h below is g named carried more = record {
    within = omega (arith, is);
    rest =
        ap (λ es. es ++ push_effects k end (cut (map f (drop next items)))) (more ∙ ap (λ (q : Bytes). mid ++ effect.Push q end words ∷ []) named ∙ ap (λ (ws : List Bytes). mid ++ effect.Push k end ws ∷ []) carried)
        ∙ append_assoc mid (effect.Push k end (map f group) ∷ []) (push_effects k end (cut (map f (drop next items))))
        ∙ ap (λ gs. mid ++ push_effects k end gs) (sym parts)
        ∙ h.rest;
  }
    where
      parts : cut (map f (drop start items)) ≡ map f group ∷ cut (map f (drop next items))
      parts =
          cut_some (map f (drop start items)) (omega (arith, length-map (drop start items) f, length-drop start items))
          ∙ ap (λ xs. xs ∷ cut (drop most_items (map f (drop start items)))) (take-map f most_items (drop start items) ∙ ap (map f) (group_is items start below next is ∙ sym g))
          ∙ ap (λ xs. map f group ∷ cut xs) (drop-map f most_items (drop start items) ∙ ap (map f) (later_is items start below next is))
