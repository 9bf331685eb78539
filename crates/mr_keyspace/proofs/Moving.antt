-- What goes from one key to another.
use Rattle.std.proofs.Common.{rules, ◌≡◌, [], ◌∷◌, true, false, cond, Option, Some, None, Result, Ok, Err, refl, sym, ◌∙◌, ap, subst}
use Rattle.std.specs.Prelude.{is_some, pos}
use Rattle.std.specs.Option.{option_map, option_and_then}
use Rattle.std.specs.Ordering.{eq_by_cmp}
use Rattle.std.specs.Str.{bytes_eq}
use Rattle.std.specs.FinMap.{get, insert, get-insert, get-remove}
use Rattle.std.proofs.lemmas.Cmp.{nat_list_cmp_total}
use Rattle.std.proofs.lemmas.Slice.Eq.{bytes_eq-Decides}
use Rattle.mr_map.specs.Bytes.{Bytes, bytes_cmp}
use Rattle.mr_bytes.specs.declared.ends.End.{End}
use Rattle.mr_keyspace.specs.Dataset.{Dataset, put_at}
use Rattle.mr_keyspace.specs.Collections.{end_item, pushed, with_members, without_members}
use Rattle.mr_keyspace.specs.Steps.{Step, Kind, lists, sets, held, on, entry_of, deadline_of, push_step, pop_step, add_members_step, remove_members_step}
use Rattle.mr_keyspace.specs.Changes.{at_key, item_at, carry_item, carry_member, has_member, is_member}
use Rattle.mr_keyspace.specs.Outcome.{Applies}
use Rattle.mr_keyspace.specs.declared.value.Value.{Value}
use Rattle.mr_keyspace.specs.declared.value.Value.TheVariants as value
use Rattle.mr_keyspace.specs.declared.value.Entry.{Entry}
use Rattle.mr_keyspace.specs.declared.fault.ApplyFault.{ApplyFault}
use Rattle.mr_keyspace.specs.declared.fault.ApplyFault.TheVariants.{Refused, Memory}
use Rattle.mr_keyspace.proofs.Maps.{insert_same, same_key}

-- what is done is the change
pub done : (o : Option Dataset) (m r : Dataset) → Applies o m (Ok tt) r → o ≡ Some r
done None m r h = let wrong = h.0 in cc
done (Some n) m r h = ap Some (sym h.1)

-- no item is there
pub no_item : (end : End) {n m : Dataset} → n ≡ m → (k : Bytes) (e : Entry) → Some e ≡ get n k → option_and_then (end_item end) (lists.of e.value) ≡ None → (item_at end (get m k) ≡ None) × (insert n k e ≡ m)
no_item end {n} {m} same k e h none = subst (λ (x : Dataset). (item_at end (get x k) ≡ None) × (insert n k e ≡ x)) same (rw (sym h) none, insert_same n k e (sym h))

equal : (xs ys : Bytes) → xs ≡ ys → bytes_eq xs ys ≡ true
equal xs ys h = search (rules, bytes_eq-Decides)

-- another key has what it had
other_key : (m : Dataset) (k : Bytes) (o : Option Entry) (q : Bytes) → bytes_eq k q ≡ false → get (put_at m k o) q ≡ get m q
other_key m k o q apart =
    let differ : eq_by_cmp bytes_cmp q k ≡ false = elim (eq_by_cmp bytes_cmp q k) as (λ b. eq_by_cmp bytes_cmp q k ≡ b → b ≡ false) [
      | true ↦ λ t. let both : false ≡ true = sym apart ∙ equal k q (sym (same_key q k t)) in cc
      | false ↦ λ t. refl
    ] refl in
    put_get o ∙ ap (λ b. cond b o (get m q)) differ
  where
    put_get : (p : Option Entry) → get (put_at m k p) q ≡ cond (eq_by_cmp bytes_cmp q k) p (get m q)
    put_get None = get-remove nat_list_cmp_total m k q
    put_get (Some e) = get-insert nat_list_cmp_total m k e q

pub kept_at_other : (step : Step) (k q : Bytes) (m n : Dataset) → bytes_eq k q ≡ false → at_key step k m ≡ Some n → get n q ≡ get m q
kept_at_other step k q m n apart h =
    elim (step (get m k)) as (λ o. option_map (put_at m k) o ≡ Some n → get n q ≡ get m q) [
      | None ↦ λ i. cc
      | Some o ↦ λ i. let same : put_at m k o ≡ n = cc in ap (λ (x : Dataset). get x q) (sym same) ∙ other_key m k o q apart
    ] h

module _ {X : Type 0} (kind : Kind X) where
  -- another kind of value is there
  pub undefined_there : (f : X → Option X) (k : Bytes) (n : Dataset) (b : Option Entry) → get n k ≡ b → is_some (held kind b) ≡ false → at_key (on kind f) k n ≡ None
  undefined_there f k n b h none =
      ap (λ o. option_map (put_at n k) (on kind f o)) h ∙ elim (held kind b) as (λ o. is_some o ≡ false → option_map (put_at n k) (option_and_then (λ x. option_map (entry_of kind (deadline_of b)) (f x)) o) ≡ None) [
        | None ↦ λ t. refl
        | Some x ↦ λ t. cc
      ] none

  -- this kind of value is there, or none
  pub defined_there : (g : X → X) (k : Bytes) (n : Dataset) (b : Option Entry) → get n k ≡ b → is_some (held kind b) ≡ true → at_key (on kind (λ x. Some (g x))) k n ≡ None → ⊥
  defined_there g k n b h some none =
      elim (held kind b) as (λ o. is_some o ≡ true → option_map (put_at n k) (option_and_then (λ x. Some (entry_of kind (deadline_of b) (g x))) o) ≡ None → ⊥) [
        | None ↦ λ t i. cc
        | Some x ↦ λ t i. cc
      ] some (sym (ap (λ o. option_map (put_at n k) (on kind (λ x. Some (g x)) o)) h) ∙ none)

-- where memory ran out nothing more is owed
pub lacks_memory : (o : Option Dataset) (m new : Dataset) → (o ≡ None → ⊥) → Applies o m (Err Memory) new
lacks_memory None m new some = absurd (some refl)
lacks_memory (Some n) m new some = ((λ f. cc), tt)

module _ {X : Type 0} (kind : Kind X) (k : Bytes) (m : Dataset) where
  pub refused_there : (f : X → Option X) → is_some (held kind (get m k)) ≡ false → Applies (at_key (on kind f) k m) m (Err Refused) m
  refused_there f none = subst (λ o. Applies o m (Err Refused) m) (sym (undefined_there kind f k m (get m k) refl none)) (refl, refl)

  pub lacks_there : (g : X → X) (new : Dataset) → is_some (held kind (get m k)) ≡ true → Applies (at_key (on kind (λ x. Some (g x))) k m) m (Err Memory) new
  lacks_there g new some = lacks_memory (at_key (on kind (λ x. Some (g x))) k m) m new (defined_there kind g k m (get m k) refl some)

-- what is defined applies whatever was there before
from_other : (o : Option Dataset) (a b : Dataset) (r : Result (Unit {0}) ApplyFault) (new : Dataset) → (o ≡ None → ⊥) → Applies o a r new → Applies o b r new
from_other None a b r new some h = absurd (some refl)
from_other (Some n) a b r new some h = h

-- ---- items

module _ (from to : Bytes) (taken put : End) (m : Dataset) (apart : bytes_eq from to ≡ false) where
  pub carry_item_refused : is_some (held lists (get m to)) ≡ false → carry_item from to taken put m ≡ None
  carry_item_refused none =
      elim (item_at taken (get m from)) as (λ o. option_and_then (λ item. option_and_then (at_key (push_step put (item ∷ [])) to) (at_key (pop_step taken (pos 1)) from m)) o ≡ None) [
        | None ↦ refl
        | Some item ↦ elim (at_key (pop_step taken (pos 1)) from m) as (λ o. at_key (pop_step taken (pos 1)) from m ≡ o → option_and_then (at_key (push_step put (item ∷ [])) to) o ≡ None) [
          | None ↦ λ t. refl
          | Some n ↦ λ t. undefined_there lists (λ items. Some (pushed put (item ∷ []) items)) to n (get m to) (kept_at_other (pop_step taken (pos 1)) from to m n apart t) none
        ] refl
      ]

  pub carry_item_done : (item : Bytes) (n : Dataset) (r : Result (Unit {0}) ApplyFault) (new : Dataset) → is_some (held lists (get m to)) ≡ true → item_at taken (get m from) ≡ Some item → at_key (pop_step taken (pos 1)) from m ≡ Some n
      → Applies (at_key (push_step put (item ∷ [])) to n) n r new → Applies (carry_item from to taken put m) m r new
  carry_item_done item n r new some there first second =
      let is : carry_item from to taken put m ≡ at_key (push_step put (item ∷ [])) to n =
      ap (option_and_then (λ x. option_and_then (at_key (push_step put (x ∷ [])) to) (at_key (pop_step taken (pos 1)) from m))) there
      ∙ ap (option_and_then (at_key (push_step put (item ∷ [])) to)) first in
      subst (λ o. Applies o m r new) (sym is)
      (from_other (at_key (push_step put (item ∷ [])) to n) n m r new (defined_there lists (pushed put (item ∷ [])) to n (get m to) (kept_at_other (pop_step taken (pos 1)) from to m n apart first) some) second)

-- ---- members

member_held : (x : Bytes) (b : Option Entry) → has_member x b ≡ true → is_some (held sets b) ≡ true
member_held x None h = cc
member_held x (Some e) h = held_by e.value h
  where
    held_by : (v : Value) → is_member x v ≡ true → is_some (sets.of v) ≡ true
    held_by (value.Text s) i = cc
    held_by (value.Hash s) i = cc
    held_by (value.List s) i = cc
    held_by (value.Set s) i = refl
    held_by (value.SortedSet s) i = cc

module _ (from to x : Bytes) (m : Dataset) (apart : bytes_eq from to ≡ false) where
  pub carry_member_refused : is_some (held sets (get m to)) ≡ false → carry_member from to x m ≡ None
  carry_member_refused none =
      elim (at_key (remove_members_step (x ∷ [])) from m) as (λ o. at_key (remove_members_step (x ∷ [])) from m ≡ o → option_and_then (at_key (add_members_step (x ∷ [])) to) o ≡ None) [
        | None ↦ λ t. refl
        | Some n ↦ λ t. undefined_there sets (λ s. Some (with_members (x ∷ []) s)) to n (get m to) (kept_at_other (remove_members_step (x ∷ [])) from to m n apart t) none
      ] refl

  -- the member can be taken out
  pub taken_out : has_member x (get m from) ≡ true → at_key (remove_members_step (x ∷ [])) from m ≡ None → ⊥
  taken_out there = defined_there sets (without_members (x ∷ [])) from m (get m from) refl (member_held x (get m from) there)

  pub carry_member_done : (n : Dataset) (r : Result (Unit {0}) ApplyFault) (new : Dataset) → is_some (held sets (get m to)) ≡ true → at_key (remove_members_step (x ∷ [])) from m ≡ Some n
      → Applies (at_key (add_members_step (x ∷ [])) to n) n r new → Applies (carry_member from to x m) m r new
  carry_member_done n r new some removed added =
      let is : carry_member from to x m ≡ at_key (add_members_step (x ∷ [])) to n = ap (option_and_then (at_key (add_members_step (x ∷ [])) to)) removed in
      subst (λ o. Applies o m r new) (sym is)
      (from_other (at_key (add_members_step (x ∷ [])) to n) n m r new (defined_there sets (with_members (x ∷ [])) to n (get m to) (kept_at_other (remove_members_step (x ∷ [])) from to m n apart removed) some) added)

  pub carry_member_lacks_memory : (new : Dataset) → is_some (held sets (get m to)) ≡ true → has_member x (get m from) ≡ true → Applies (carry_member from to x m) m (Err Memory) new
  carry_member_lacks_memory new some there =
      elim (at_key (remove_members_step (x ∷ [])) from m) as (λ o. at_key (remove_members_step (x ∷ [])) from m ≡ o → Applies (option_and_then (at_key (add_members_step (x ∷ [])) to) o) m (Err Memory) new) [
        | None ↦ λ t. absurd (taken_out there t)
        | Some n ↦ λ t. lacks_memory (at_key (add_members_step (x ∷ [])) to n) m new (defined_there sets (with_members (x ∷ [])) to n (get m to) (kept_at_other (remove_members_step (x ∷ [])) from to m n apart t) some)
      ] refl
