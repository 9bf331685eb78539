-- The effects of commands on sets are faithful.
use Rattle.std.proofs.Common.{◌≡◌, ℕ, zero, suc, List, [], ◌∷◌, take, drop, length, Bool, true, false, ◌&&◌, Option, Some, None, refl, sym, ◌∙◌, ap}
use Rattle.std.specs.Prelude.{IsTrue, ℤ, ◌||◌, ◌%◌, not}
use Rattle.std.specs.List.{list_all}
use Rattle.std.specs.FinMap.{get, empty, keys, contains_key}
use Rattle.std.proofs.lemmas.Bool.{and_from}
use Rattle.mr_map.specs.Bytes.{Bytes}
use Rattle.mr_bytes.specs.Words.{fits}
use Rattle.mr_bytes.proofs.Both.{first, second}
use Rattle.mr_keyspace.specs.Dataset.{Dataset}
use Rattle.mr_data.specs.Dataset.{IsDataset, IsValue}
use Rattle.mr_keyspace.specs.Collections.{with_members, without_members}
use Rattle.mr_keyspace.specs.Steps.{sets, held, set_of}
use Rattle.mr_keyspace.specs.declared.value.Value.{Value}
use Rattle.mr_keyspace.specs.declared.value.Value.TheVariants as value
use Rattle.mr_keyspace.specs.declared.value.Entry.{Entry}
use Rattle.mr_cmd_shared.specs.Taken.{is_key, has}
use Rattle.mr_cmd_shared.specs.Collections.{Change, changing}
use Rattle.mr_cmd_shared.specs.Commands.{on_key, before}
use Rattle.mr_keyspace.proofs.Maps.{same_key}
use Rattle.mr_keyspace.proofs.Puts.{is_key_itself}
use Rattle.mr_cmd_shared.proofs.KeyLists.{purged_kept}
use Rattle.mr_cmd_shared.proofs.Laws.{faithful, at_key_faithful, IsLawful}
use Rattle.mr_data.proofs.KindLaws.{sets_are, sets_kept}
use Rattle.mr_cmd_shared.proofs.Changing.{IsFaithfulChange, changing_faithful}
use Rattle.mr_cmd_shared.specs.Numbers.{count_or_one}
use Rattle.mr_cmd_shared.proofs.TakenLemmas.{has_append}
use Rattle.mr_cmd_set.specs.Members.{Members, as_set, from_place}
use Rattle.mr_cmd_set.specs.Sets.{added, removed, taken}
use Rattle.mr_cmd_set.proofs.Sets.{same_set, contains_empty, contains_with, contains_without, contains_retain, contains_as_set, has_keys}

-- the members of a set in a dataset are within the word limit
set_of_fits : (v : Value) (s : Members) (x : Bytes) → IsValue v → set_of v ≡ Some s → contains_key s x ≡ true → IsTrue (fits x)
set_of_fits (value.Set t) s x i h c = let same : t ≡ s = cc in i.fit x (ap (λ (u : Members). contains_key u x) same ∙ c)
set_of_fits (value.Text t) s x i h c = cc
set_of_fits (value.Hash t) s x i h c = cc
set_of_fits (value.List t) s x i h c = cc
set_of_fits (value.SortedSet t) s x i h c = cc

pub held_fits : (m : Dataset) (k : Bytes) (o : Option Entry) (s : Members) (x : Bytes) → IsDataset m → get m k ≡ o → held sets o ≡ Some s → contains_key s x ≡ true → IsTrue (fits x)
held_fits m k None s x i g h c = let same : empty ≡ s = cc in let wrong : false ≡ true = sym (contains_empty x) ∙ ap (λ (u : Members). contains_key u x) same ∙ c in absurd (cc)
held_fits m k (Some e) s x i g h c = set_of_fits e.value s x (i.entries k e g).value h c

-- ---- words among words
has_fits : (xs : List Bytes) (q : Bytes) → IsTrue (list_all fits xs) → has xs q ≡ true → IsTrue (fits q)
has_fits [] q h i = cc
has_fits (x ∷ xs) q h i = elim (is_key q x) as (λ b. is_key q x ≡ b → (b || has xs q) ≡ true → IsTrue (fits q)) [
  | true ↦ λ t j. ap fits (same_key q x t) ∙ first _ _ h
  | false ↦ λ t j. has_fits xs q (second _ _ h) j
] refl i

or_right : (a b : Bool) → b ≡ true → (a || b) ≡ true
or_right true b h = refl
or_right false b h = h

all_fit : (xs : List Bytes) → ((q : Bytes) → has xs q ≡ true → IsTrue (fits q)) → IsTrue (list_all fits xs)
all_fit [] h = refl
all_fit (x ∷ xs) h = and_from _ _ (h x (ap (λ b. b || has xs x) (is_key_itself x))) (all_fit xs (λ q i. h q (or_right (is_key q x) (has xs q) i)))

keys_fit : (t : Members) → ((q : Bytes) → contains_key t q ≡ true → IsTrue (fits q)) → IsTrue (list_all fits (keys t))
keys_fit t h = all_fit (keys t) (λ q i. h q (sym (has_keys t q) ∙ i))

has_take : (n : ℕ) (xs : List Bytes) (q : Bytes) → has (take n xs) q ≡ true → has xs q ≡ true
has_take zero xs q h = cc
has_take (suc n) [] q h = h
has_take (suc n) (x ∷ xs) q h = elim (is_key q x) as (λ b. (b || has (take n xs) q) ≡ true → (b || has xs q) ≡ true) [ true ↦ λ i. refl | false ↦ λ i. has_take n xs q i ] h

has_drop : (n : ℕ) (xs : List Bytes) (q : Bytes) → has (drop n xs) q ≡ true → has xs q ≡ true
has_drop zero xs q h = h
has_drop (suc n) [] q h = h
has_drop (suc n) (x ∷ xs) q h = or_right (is_key q x) (has xs q) (has_drop n xs q h)

has_turned : (p : ℕ) (xs : List Bytes) (q : Bytes) → has (from_place p xs) q ≡ true → has xs q ≡ true
has_turned p xs q h = elim (has (drop p xs) q) as (λ b. has (drop p xs) q ≡ b → (b || has (take p xs) q) ≡ true → has xs q ≡ true) [
  | true ↦ λ t i. has_drop p xs q t
  | false ↦ λ t i. has_take p xs q i
] refl (sym (has_append (drop p xs) (take p xs) q) ∙ h)

pub taken_there : (count : Option ℕ) (word : ℕ) (s : Members) (q : Bytes) → has (taken count word s) q ≡ true → contains_key s q ≡ true
taken_there count word s q h = sym (has_keys s q) ∙ has_turned (word % length (keys s)) (keys s) q (has_take (count_or_one count) (from_place (word % length (keys s)) (keys s)) q h)

-- ---- no member
none_there : (t : Members) → ((q : Bytes) → contains_key t q ≡ true → ⊥) → t ≡ empty
none_there t h = same_set t empty (λ q. never (contains_key t q) (h q) ∙ sym (contains_empty q))
  where
    never : (b : Bool) → (b ≡ true → ⊥) → b ≡ false
    never true n = absurd (n refl)
    never false n = refl

opposite : (b : Bool) → not b ≡ true → b ≡ true → ⊥
opposite true h i = cc
opposite false h i = cc

-- ---- SADD
module _ (xs : List Bytes) (s : Members) where
  added_is : (q : Bytes) → contains_key (added xs s) q ≡ (has xs q && not (contains_key s q))
  added_is q = contains_retain (as_set xs) (λ x. not (contains_key s x)) q ∙ ap (λ b. b && not (contains_key s q)) (contains_as_set xs q)

  pub with_added : with_members (keys (added xs s)) s ≡ with_members xs s
  with_added = same_set _ _ (λ q.
      contains_with (keys (added xs s)) s q ∙ ap (λ b. b || contains_key s q) (has_keys (added xs s) q ∙ added_is q)
      ∙ joint (has xs q) (contains_key s q) ∙ sym (contains_with xs s q))
    where
      joint : (a b : Bool) → ((a && not b) || b) ≡ (a || b)
      joint true true = refl
      joint true false = refl
      joint false b = refl

  pub added_none : with_members xs s ≡ s → added xs s ≡ empty
  added_none h = none_there (added xs s) (λ q i.
      let there = sym (added_is q) ∙ i in
      let in_words = first (has xs q) (not (contains_key s q)) there in
      opposite (contains_key s q) (second (has xs q) (not (contains_key s q)) there)
      (ap (λ (t : Members). contains_key t q) (sym h) ∙ contains_with xs s q ∙ ap (λ b. b || contains_key s q) in_words))

  pub added_fit : IsTrue (list_all fits xs) → IsTrue (list_all fits (keys (added xs s)))
  added_fit h = keys_fit (added xs s) (λ q i. has_fits xs q h (first (has xs q) (not (contains_key s q)) (sym (added_is q) ∙ i)))

  -- ---- SREM
  removed_is : (q : Bytes) → contains_key (removed xs s) q ≡ (has xs q && contains_key s q)
  removed_is q = contains_retain (as_set xs) (contains_key s) q ∙ ap (λ b. b && contains_key s q) (contains_as_set xs q)

  pub without_removed : without_members (keys (removed xs s)) s ≡ without_members xs s
  without_removed = same_set _ _ (λ q.
      contains_without (keys (removed xs s)) s q ∙ ap (λ b. not b && contains_key s q) (has_keys (removed xs s) q ∙ removed_is q)
      ∙ joint (has xs q) (contains_key s q) ∙ sym (contains_without xs s q))
    where
      joint : (a b : Bool) → (not (a && b) && b) ≡ (not a && b)
      joint true true = refl
      joint true false = refl
      joint false b = refl

  pub removed_none : without_members xs s ≡ s → removed xs s ≡ empty
  removed_none h = none_there (removed xs s) (λ q i.
      let there = sym (removed_is q) ∙ i in
      let is_removed : contains_key s q ≡ false = ap (λ (t : Members). contains_key t q) (sym h) ∙ contains_without xs s q ∙ ap (λ b. not b && contains_key s q) (first (has xs q) (contains_key s q) there) in
      let wrong : false ≡ true = sym is_removed ∙ second (has xs q) (contains_key s q) there in absurd (cc))

  pub removed_fit : IsTrue (list_all fits xs) → IsTrue (list_all fits (keys (removed xs s)))
  removed_fit h = keys_fit (removed xs s) (λ q i. has_fits xs q h (first (has xs q) (contains_key s q) (sym (removed_is q) ∙ i)))

-- ---- SPOP
module _ (xs : List Bytes) (s : Members) where
  pub without_set : without_members (keys (as_set xs)) s ≡ without_members xs s
  without_set = same_set _ _ (λ q. contains_without (keys (as_set xs)) s q ∙ ap (λ b. not b && contains_key s q) (has_keys (as_set xs) q ∙ contains_as_set xs q) ∙ sym (contains_without xs s q))

  pub set_none : ((q : Bytes) → has xs q ≡ true → contains_key s q ≡ true) → without_members xs s ≡ s → as_set xs ≡ empty
  set_none there h = none_there (as_set xs) (λ q i.
      let named = sym (contains_as_set xs q) ∙ i in
      let is_removed : contains_key s q ≡ false = ap (λ (t : Members). contains_key t q) (sym h) ∙ contains_without xs s q ∙ ap (λ b. not b && contains_key s q) named in
      let wrong : false ≡ true = sym is_removed ∙ there q named in absurd (cc))

  pub set_fits : ((q : Bytes) → has xs q ≡ true → IsTrue (fits q)) → IsTrue (list_all fits (keys (as_set xs)))
  set_fits h = keys_fit (as_set xs) (λ q i. h q (sym (contains_as_set xs q) ∙ i))

-- ---- commands that change one set
module _ (k : Bytes) (change : Members → Change Members) (now : ℤ) (m : Dataset) (kept : IsDataset m) where
  pub changing_set : IsTrue (fits k) → ((n : Dataset) (s : Members) → IsDataset n → held sets (get n k) ≡ Some s → IsFaithfulChange sets (change s) s k (get n k)) → IsLawful (on_key k (changing sets change)) now m
  changing_set h f =
      let c = on_key k (changing sets change) in
      let n = before c now m in
      let n_kept = purged_kept now (k ∷ []) m kept in
      faithful c now m (and_from (fits k) true h refl) (at_key_faithful k (changing sets change) n (changing_faithful sets sets_are change k n (sets_kept n k n_kept) (λ s is. f n s n_kept is)))
