-- Where steps are defined.
use Rattle.std.proofs.Common.{◌≡◌, ℤ, ◌<◌, ◌-◌, [], ◌∷◌, length, get_or, Bool, true, false, Option, Some, None, refl, sym, ◌∙◌, ap, arith}
use Rattle.std.specs.Prelude.{is_some, pos, List, if◌then◌else◌}
use Rattle.std.specs.Option.{option_map, option_and_then}
use Rattle.std.specs.FinMap.{get}
use Rattle.std.specs.Str.{bytes_eq}
use Rattle.std.proofs.lemmas.Option.{slice_get-get_or}
use Rattle.mr_map.specs.Bytes.{Bytes}
use Rattle.mr_bytes.specs.declared.ends.End.{End}
use Rattle.mr_bytes.specs.declared.ends.End.TheVariants.{Left, Right}
use Rattle.mr_keyspace.specs.Dataset.{Dataset, put_at}
use Rattle.mr_keyspace.specs.Collections.{end_item, may_take, popped, pushed, with_members}
use Rattle.mr_keyspace.specs.Steps.{Kind, held, on, entry_of, deadline_of, lists, list_of, sets, push_step, pop_step, turn_step, add_members_step, remove_members_step}
use Rattle.mr_keyspace.specs.Changes.{at_key, item_at, has_member, move_item, carry_item, move_member, carry_member}
use Rattle.mr_keyspace.specs.declared.value.Entry.{Entry}
use Rattle.mr_keyspace.proofs.Ends.{may_take_one}
use Rattle.mr_keyspace.proofs.Moving.{kept_at_other, taken_out}

module _ {X : Type 0} (kind : Kind X) (m : Dataset) (k : Bytes) where
  -- a step that is defined wherever the kind is
  total : (g : X → X) → is_some (held kind (get m k)) ≡ is_some (at_key (on kind (λ x. Some (g x))) k m)
  total g = go (held kind (get m k))
    where
      go : (o : Option X) → is_some o ≡ is_some (option_map (put_at m k) (option_and_then (λ x. Some (entry_of kind (deadline_of (get m k)) (g x))) o))
      go None = refl
      go (Some x) = refl

  defined : (d : Option ℤ) (o : Option X) → is_some o ≡ is_some (option_map (put_at m k) (option_map (entry_of kind d) o))
  defined d None = refl
  defined d (Some x) = refl

-- where the key holds no list, a step that is undefined at the empty one
pub no_list : (f : List Bytes → Option (List Bytes)) (m : Dataset) (k : Bytes) → f [] ≡ None → None ≡ option_and_then (λ e. list_of e.value) (get m k) → false ≡ is_some (at_key (on lists f) k m)
no_list f m k none h = go (get m k) h
  where
    go : (b : Option Entry) → None ≡ option_and_then (λ e. list_of e.value) b → false ≡ is_some (option_map (put_at m k) (on lists f b))
    go None at = ap (λ o. is_some (option_map (put_at m k) (option_map (entry_of lists None) o))) (sym none)
    go (Some e) at = ap (λ o. is_some (option_map (put_at m k) (option_and_then (λ x. option_map (entry_of lists e.deadline) (f x)) o))) at

-- the list that a key holds
list_held : (xs : List Bytes) (b : Option Entry) → Some xs ≡ option_and_then (λ e. list_of e.value) b → held lists b ≡ Some xs
list_held xs None h = cc
list_held xs (Some e) h = sym h

some_of : {X : Type 0} (o : Option X) → true ≡ is_some o → (x : X) × (o ≡ Some x)
some_of None h = cc
some_of (Some x) h = (x, refl)

end_of : (end : End) (xs : List Bytes) → 0 < length xs → (x : Bytes) × (end_item end xs ≡ Some x)
end_of Left xs some = (get_or xs 0 [], slice_get-get_or xs 0 [] some)
end_of Right xs some = (get_or xs (length xs - 1) [], slice_get-get_or xs (length xs - 1) [] (omega (arith, some)))

module _ (from to : Bytes) (m : Dataset) (apart : bytes_eq from to ≡ false) where
  -- the first item of a list can be taken
  one_taken : (taken : End) (xs : List Bytes) → held lists (get m from) ≡ Some xs → 0 < length xs → true ≡ is_some (at_key (pop_step taken (pos 1)) from m)
  one_taken taken xs is some =
      let f : List Bytes → Option (List Bytes) = λ items. if may_take (pos 1) (length items) then Some (popped taken 1 items) else None in
      ap (λ b. is_some (if b then Some (popped taken 1 xs) else None)) (sym (may_take_one (length xs) some))
      ∙ (defined lists m from (deadline_of (get m from)) (f xs) ∙ ap (λ o. is_some (option_map (put_at m from) (option_and_then (λ x. option_map (entry_of lists (deadline_of (get m from))) (f x)) o))) (sym is))

  pub item_carried : (taken put : End) (xs : List Bytes) → Some xs ≡ option_and_then (λ e. list_of e.value) (get m from) → 0 < length xs → is_some (held lists (get m to)) ≡ is_some (move_item from to taken put m)
  item_carried taken put xs h some =
      let is = list_held xs (get m from) h in
      let x = end_of taken xs some in
      let n = some_of (at_key (pop_step taken (pos 1)) from m) (one_taken taken xs is some) in
      let there : item_at taken (get m from) ≡ Some x.0 = ap (option_and_then (end_item taken)) is ∙ x.1 in
      let carried : carry_item from to taken put m ≡ at_key (push_step put (x.0 ∷ [])) to n.0 =
      ap (option_and_then (λ y. option_and_then (at_key (push_step put (y ∷ [])) to) (at_key (pop_step taken (pos 1)) from m))) there
      ∙ ap (option_and_then (at_key (push_step put (x.0 ∷ [])) to)) n.1 in
      ap (λ b. is_some (held lists b)) (sym (kept_at_other (pop_step taken (pos 1)) from to m n.0 apart n.1))
      ∙ (total lists n.0 to (pushed put (x.0 ∷ [])) ∙ (ap is_some (sym carried) ∙ ap (λ b. is_some (if b then turned_here taken put else carry_item from to taken put m)) (sym apart)))
    where
      turned_here : End → End → Option Dataset
      turned_here t p = at_key (turn_step t p) from m

  pub member_carried : (x : Bytes) → has_member x (get m from) ≡ true → is_some (held sets (get m to)) ≡ is_some (move_member from to x m)
  member_carried x there =
      let n = some_of (at_key (remove_members_step (x ∷ [])) from m) (removed (at_key (remove_members_step (x ∷ [])) from m) (taken_out from to x m apart there)) in
      let carried : carry_member from to x m ≡ at_key (add_members_step (x ∷ [])) to n.0 = ap (option_and_then (at_key (add_members_step (x ∷ [])) to)) n.1 in
      ap (λ b. is_some (held sets b)) (sym (kept_at_other (remove_members_step (x ∷ [])) from to m n.0 apart n.1))
      ∙ (total sets n.0 to (with_members (x ∷ [])) ∙ (ap is_some (sym carried)
      ∙ (ap (λ b. is_some (if b then Some m else carry_member from to x m)) (sym apart)
      ∙ ap (λ b. is_some (if b then (if bytes_eq from to then Some m else carry_member from to x m) else None)) (sym there))))
    where
      removed : (o : Option Dataset) → (o ≡ None → ⊥) → true ≡ is_some o
      removed None some = absurd (some refl)
      removed (Some n) some = refl
