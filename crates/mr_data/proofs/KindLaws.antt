-- What each kind of collection keeps.
use Rattle.std.proofs.Common.{◌≡◌, ℕ, ℤ, suc, List, [], ◌∷◌, length, true, false, Some, None, refl, sym, ◌∙◌, ap, arith}
use Rattle.std.specs.Prelude.{◌==◌}
use Rattle.std.specs.FinMap.{get, len, empty_of_len}
use Rattle.std.proofs.lemmas.Bool.{eqb-true}
use Rattle.std.proofs.lemmas.Option.{same_Some}
use Rattle.mr_map.specs.Bytes.{Bytes, ByteMap}
use Rattle.mr_keyspace.specs.Dataset.{Dataset}
use Rattle.mr_data.specs.Dataset.{IsDataset, IsValue}
use Rattle.mr_keyspace.specs.Steps.{hashes, lists, sets, sorted_sets, hash_of, list_of, set_of, sorted_set_of}
use Rattle.mr_keyspace.specs.declared.value.Value.{Value}
use Rattle.mr_keyspace.specs.declared.value.Value.TheVariants as value
use Rattle.mr_keyspace.proofs.Nonempty.{no_elements, positive}
use Rattle.mr_data.proofs.Running.{IsKind, IsKept}

not_none : {X : Type 0} {x : X} → None ≡ Some x → ⊥
not_none h = cc

hash_value : (v : Value) (x : ByteMap Bytes) → hash_of v ≡ Some x → value.Hash x ≡ v
hash_value (value.Hash y) x h = ap value.Hash (sym (same_Some _ _ h))
hash_value (value.Text y) x h = absurd (not_none h)
hash_value (value.List y) x h = absurd (not_none h)
hash_value (value.Set y) x h = absurd (not_none h)
hash_value (value.SortedSet y) x h = absurd (not_none h)

list_value : (v : Value) (x : List Bytes) → list_of v ≡ Some x → value.List x ≡ v
list_value (value.List y) x h = ap value.List (sym (same_Some _ _ h))
list_value (value.Text y) x h = absurd (not_none h)
list_value (value.Hash y) x h = absurd (not_none h)
list_value (value.Set y) x h = absurd (not_none h)
list_value (value.SortedSet y) x h = absurd (not_none h)

set_value : (v : Value) (x : ByteMap (Unit {0})) → set_of v ≡ Some x → value.Set x ≡ v
set_value (value.Set y) x h = ap value.Set (sym (same_Some _ _ h))
set_value (value.Text y) x h = absurd (not_none h)
set_value (value.Hash y) x h = absurd (not_none h)
set_value (value.List y) x h = absurd (not_none h)
set_value (value.SortedSet y) x h = absurd (not_none h)

sorted_set_value : (v : Value) (x : ByteMap ℤ) → sorted_set_of v ≡ Some x → value.SortedSet x ≡ v
sorted_set_value (value.SortedSet y) x h = ap value.SortedSet (sym (same_Some _ _ h))
sorted_set_value (value.Text y) x h = absurd (not_none h)
sorted_set_value (value.Hash y) x h = absurd (not_none h)
sorted_set_value (value.List y) x h = absurd (not_none h)
sorted_set_value (value.Set y) x h = absurd (not_none h)

never : (n : ℕ) → suc n ≡ 0 → ⊥
never n h = omega (arith, h)

no_items : (xs : List Bytes) → (length xs == 0) ≡ true → xs ≡ []
no_items [] h = refl
no_items (x ∷ xs) h = absurd (never (length xs) (eqb-true (length (x ∷ xs)) 0 h))

pub hashes_are : IsKind hashes
hashes_are = record {
  of_value = λ x. refl;
  value_of = hash_value;
  none_is = λ x h. empty_of_len x (eqb-true (len x) 0 h);
  is_none = no_elements Bytes;
}

pub lists_are : IsKind lists
lists_are = record {
  of_value = λ x. refl;
  value_of = list_value;
  none_is = no_items;
  is_none = refl;
}

pub sets_are : IsKind sets
sets_are = record {
  of_value = λ x. refl;
  value_of = set_value;
  none_is = λ x h. empty_of_len x (eqb-true (len x) 0 h);
  is_none = no_elements (Unit {0});
}

pub sorted_sets_are : IsKind sorted_sets
sorted_sets_are = record {
  of_value = λ x. refl;
  value_of = sorted_set_value;
  none_is = λ x h. empty_of_len x (eqb-true (len x) 0 h);
  is_none = no_elements ℤ;
}

-- ---- a collection in a dataset has an element
hash_some : (v : Value) (x : ByteMap Bytes) → IsValue v → hash_of v ≡ Some x → (len x == 0) ≡ false
hash_some (value.Hash y) x i h = ap (λ (z : ByteMap Bytes). len z == 0) (sym (same_Some _ _ h)) ∙ positive (len y) i.some
hash_some (value.Text y) x i h = absurd (not_none h)
hash_some (value.List y) x i h = absurd (not_none h)
hash_some (value.Set y) x i h = absurd (not_none h)
hash_some (value.SortedSet y) x i h = absurd (not_none h)

list_some : (v : Value) (x : List Bytes) → IsValue v → list_of v ≡ Some x → (length x == 0) ≡ false
list_some (value.List y) x i h = ap (λ (z : List Bytes). length z == 0) (sym (same_Some _ _ h)) ∙ positive (length y) i.some
list_some (value.Text y) x i h = absurd (not_none h)
list_some (value.Hash y) x i h = absurd (not_none h)
list_some (value.Set y) x i h = absurd (not_none h)
list_some (value.SortedSet y) x i h = absurd (not_none h)

set_some : (v : Value) (x : ByteMap (Unit {0})) → IsValue v → set_of v ≡ Some x → (len x == 0) ≡ false
set_some (value.Set y) x i h = ap (λ (z : ByteMap (Unit {0})). len z == 0) (sym (same_Some _ _ h)) ∙ positive (len y) i.some
set_some (value.Text y) x i h = absurd (not_none h)
set_some (value.Hash y) x i h = absurd (not_none h)
set_some (value.List y) x i h = absurd (not_none h)
set_some (value.SortedSet y) x i h = absurd (not_none h)

sorted_set_some : (v : Value) (x : ByteMap ℤ) → IsValue v → sorted_set_of v ≡ Some x → (len x == 0) ≡ false
sorted_set_some (value.SortedSet y) x i h = ap (λ (z : ByteMap ℤ). len z == 0) (sym (same_Some _ _ h)) ∙ positive (len y) i.some
sorted_set_some (value.Text y) x i h = absurd (not_none h)
sorted_set_some (value.Hash y) x i h = absurd (not_none h)
sorted_set_some (value.List y) x i h = absurd (not_none h)
sorted_set_some (value.Set y) x i h = absurd (not_none h)

pub hashes_kept : (m : Dataset) (k : Bytes) → IsDataset m → IsKept hashes (get m k)
hashes_kept m k h e is x held = hash_some e.value x (h.entries k e is).value held

pub lists_kept : (m : Dataset) (k : Bytes) → IsDataset m → IsKept lists (get m k)
lists_kept m k h e is x held = list_some e.value x (h.entries k e is).value held

pub sets_kept : (m : Dataset) (k : Bytes) → IsDataset m → IsKept sets (get m k)
sets_kept m k h e is x held = set_some e.value x (h.entries k e is).value held

pub sorted_sets_kept : (m : Dataset) (k : Bytes) → IsDataset m → IsKept sorted_sets (get m k)
sorted_sets_kept m k h e is x held = sorted_set_some e.value x (h.entries k e is).value held
