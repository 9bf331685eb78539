-- What is left of fields that get values one after another.
use Rattle.std.proofs.Common.{◌≡◌, List, [], ◌∷◌, Bool, true, false, not, cond, Option, Some, None, refl, sym, ◌∙◌, ap}
use Rattle.std.specs.Prelude.{filter}
use Rattle.std.specs.List.{AllByRecursion}
use Rattle.std.specs.FinMap.{empty, get, insert, entries, find, get-entries, get-empty, get-insert, same_map}
use Rattle.std.proofs.lemmas.Cmp.{nat_list_cmp_total}
use Rattle.std.proofs.lemmas.Map.Lookups.{exact_bytes}
use Rattle.mr_data.proofs.Entries.{all_map, AreApart, entries_apart, own_entries}
use Rattle.mr_bytes.proofs.Numbers.{same_bytes, equal_bytes}
use Rattle.mr_map.specs.Bytes.{Bytes, bytes_cmp}
use Rattle.mr_keyspace.specs.Collections.{with_fields}
use Rattle.mr_keyspace.proofs.Maps.{insert_same, same_key}
use Rattle.mr_cmd_shared.specs.Taken.{is_key}
use Rattle.mr_keyspace.proofs.Puts.{is_key_symm}
use Rattle.mr_cmd_hash.specs.Hashes.{Hash, last_values, is_value, changed}

abbrev pub Pair : Type 0
Pair = Bytes × Bytes

-- ---- the last value of a field
or_else : {X : Type 0} → Option X → Option X → Option X
or_else None y = y
or_else (Some x) y = Some x

abbrev hit : Bytes → Pair → Option Bytes
hit q p = cond (is_key q p.0) (Some p.1) None

last : List Pair → Bytes → Option Bytes
last [] q = None
last (p ∷ ps) q = or_else (last ps q) (hit q p)

put_last : (o : Option Bytes) (b : Bool) (v : Bytes) (g : Option Bytes) → or_else o (cond b (Some v) g) ≡ or_else (or_else o (cond b (Some v) None)) g
unfolding or_else
put_last None true v g = refl
put_last None false v g = refl
put_last (Some x) b v g = refl

or_none : (o : Option Bytes) → or_else o None ≡ o
unfolding or_else
or_none None = refl
or_none (Some x) = refl

get_with : (ps : List Pair) (h : Hash) (q : Bytes) → get (with_fields ps h) q ≡ or_else (last ps q) (get h q)
unfolding last or_else
get_with [] h q = refl
get_with (p ∷ ps) h q = get_with ps (insert h p.0 p.1) q ∙ ap (or_else (last ps q)) (get-insert nat_list_cmp_total h p.0 p.1 q) ∙ put_last (last ps q) (is_key q p.0) p.1 (get h q)

get_last : (ps : List Pair) (q : Bytes) → get (last_values ps) q ≡ last ps q
get_last ps q = get_with ps empty q ∙ ap (or_else (last ps q)) (get-empty bytes_cmp q) ∙ or_none (last ps q)

-- ---- pairs whose fields are apart
missing : (es : List Pair) (k : Bytes) → AllByRecursion (λ (x : Pair). is_key x.0 k ≡ false) es → last es k ≡ None
unfolding last or_else
missing [] k h = refl
missing (x ∷ xs) k h = ap (λ o. or_else o (hit k x)) (missing xs k h.1) ∙ ap (λ b. cond b (Some x.1) None) (is_key_symm k x.0 ∙ h.0)

last_find : (es : List Pair) (q : Bytes) → AreApart es → last es q ≡ find bytes_cmp q es
unfolding last or_else
last_find [] q a = refl
last_find (e ∷ es) q a = elim (is_key q e.0) as (λ b. is_key q e.0 ≡ b → or_else (last es q) (cond b (Some e.1) None) ≡ cond b (Some e.1) (find bytes_cmp q es)) [
  | true ↦ λ t. ap (λ o. or_else o (Some e.1)) (ap (last es) (same_key q e.0 t) ∙ missing es e.0 a.0)
  | false ↦ λ t. or_none (last es q) ∙ last_find es q a.1
] refl

last_entries : (h : Hash) (q : Bytes) → last (entries h) q ≡ get h q
last_entries h q = last_find (entries h) q (entries_apart h) ∙ sym (get-entries h q)

-- the fields of a map get its values
pub with_entries : (ps : List Pair) (h : Hash) → with_fields (entries (last_values ps)) h ≡ with_fields ps h
with_entries ps h = same_map nat_list_cmp_total exact_bytes _ _ (λ q.
    get_with (entries (last_values ps)) h q ∙ ap (λ o. or_else o (get h q)) (last_entries (last_values ps) q ∙ get_last ps q) ∙ sym (get_with ps h q))

-- ---- the fields that change
value_is : (v : Bytes) (o : Option Bytes) → is_value v o ≡ true → o ≡ Some v
value_is v None h = cc
value_is v (Some w) h = ap Some (same_bytes w v h)

abbrev holds : Hash → Pair → Bool
holds h p = is_value p.1 (get h p.0)

still : (e : Pair) (h h2 : Hash) (es : List Pair) → AllByRecursion (λ (x : Pair). is_key x.0 e.0 ≡ false) es → AllByRecursion (λ (x : Pair). get h2 x.0 ≡ get h x.0) es → AllByRecursion (λ (x : Pair). get (insert h2 e.0 e.1) x.0 ≡ get h x.0) es
still e h h2 [] a same = tt
still e h h2 (x ∷ xs) a same = (get-insert nat_list_cmp_total h2 e.0 e.1 x.0 ∙ ap (λ b. cond b (Some e.1) (get h2 x.0)) a.0 ∙ same.0, still e h h2 xs a.1 same.1)

-- a field that has its value already needs no change
skipped : (es : List Pair) (h h2 : Hash) → AreApart es → AllByRecursion (λ (x : Pair). get h2 x.0 ≡ get h x.0) es → with_fields (filter (λ p. not (holds h p)) es) h2 ≡ with_fields es h2
skipped [] h h2 a same = refl
skipped (e ∷ es) h h2 a same = elim (holds h e) as (λ b. holds h e ≡ b → with_fields (cond (not b) (e ∷ filter (λ p. not (holds h p)) es) (filter (λ p. not (holds h p)) es)) h2 ≡ with_fields es (insert h2 e.0 e.1)) [
  | true ↦ λ t. skipped es h h2 a.1 same.1 ∙ ap (with_fields es) (sym (insert_same h2 e.0 e.1 (same.0 ∙ value_is e.1 _ t)))
  | false ↦ λ t. skipped es h (insert h2 e.0 e.1) a.1 (still e h h2 es a.0 same.1)
] refl

itself : (h : Hash) (es : List Pair) → AllByRecursion (λ (x : Pair). get h x.0 ≡ get h x.0) es
itself h [] = tt
itself h (e ∷ es) = (refl, itself h es)

-- the fields that change are all that need to be set
pub with_changed : (ps : List Pair) (h : Hash) → with_fields ps h ≡ with_fields (changed ps h) h
with_changed ps h = sym (skipped (entries (last_values ps)) h h (entries_apart (last_values ps)) (itself h (entries (last_values ps))) ∙ with_entries ps h)

none_left : (h : Hash) (es : List Pair) → AllByRecursion (λ (x : Pair). get h x.0 ≡ Some x.1) es → filter (λ p. not (holds h p)) es ≡ []
none_left h [] a = refl
none_left h (e ∷ es) a = ap (λ b. cond (not b) (e ∷ filter (λ p. not (holds h p)) es) (filter (λ p. not (holds h p)) es)) (ap (is_value e.1) a.0 ∙ equal_bytes e.1) ∙ none_left h es a.1

-- a field's last value is what it has then
set_value : (ps : List Pair) (h : Hash) (f v : Bytes) → get (last_values ps) f ≡ Some v → get (with_fields ps h) f ≡ Some v
unfolding or_else
set_value ps h f v is = get_with ps h f ∙ ap (λ o. or_else o (get h f)) (sym (get_last ps f) ∙ is)

-- where nothing becomes another, no field changes
pub none_changed : (ps : List Pair) (h : Hash) → with_fields ps h ≡ h → changed ps h ≡ []
none_changed ps h same = none_left h (entries (last_values ps)) (all_map _ _ (λ x is. ap (λ (m : Hash). get m x.0) (sym same) ∙ set_value ps h x.0 x.1 is) (entries (last_values ps)) (own_entries (last_values ps)))
