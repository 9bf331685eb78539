-- What a dataset keeps, after a step at one key.
use Rattle.std.proofs.Common.{◌≡◌, ◌<◌, ℕ, ℤ, List, length, true, false, cond, Option, Some, None, refl, sym, ◌∙◌, subst, arith}
use Rattle.std.specs.Prelude.{◌==◌, if◌then◌else◌}
use Rattle.std.specs.Option.{option_map, option_and_then}
use Rattle.std.specs.Ordering.{eq_by_cmp}
use Rattle.std.specs.FinMap.{get, empty, len, get-empty, get-insert, get-remove}
use Rattle.std.proofs.lemmas.Cmp.{nat_list_cmp_total}
use Rattle.std.proofs.lemmas.List.Elements.{All-nil}
use Rattle.std.proofs.lemmas.Bool.{eqb-false}
use Rattle.mr_map.specs.Bytes.{Bytes, ByteMap, bytes_cmp}
use Rattle.mr_keyspace.specs.Dataset.{Dataset, put_at}
use Rattle.mr_data.specs.Dataset.{IsWord, IsDataset, IsEntry, IsValue, IsLifetime}
use Rattle.mr_keyspace.specs.Steps.{Step, Kind, hashes, lists, sets, sorted_sets, on, held, entry_of, deadline_of}
use Rattle.mr_keyspace.specs.Changes.{at_key}
use Rattle.mr_keyspace.specs.declared.value.Value.{Value}
use Rattle.mr_keyspace.specs.declared.value.Value.TheVariants as value
use Rattle.mr_keyspace.specs.declared.value.Entry.{Entry}
use Rattle.mr_keyspace.proofs.Maps.{same_key}
use Rattle.mr_data.proofs.Fitting.{FieldsFit, no_fields, ItemsFit, MembersFit, no_members, ScoresFit, no_scores}

-- what one key has was set to o
updated : (m n : Dataset) (k : Bytes) (o : Option Entry) → ((q : Bytes) → get n q ≡ cond (eq_by_cmp bytes_cmp q k) o (get m q)) → ((e : Entry) → o ≡ Some e → IsEntry k e) → IsDataset m → IsDataset n
updated m n k o is written old = record {
  entries = λ q e h.
      elim (eq_by_cmp bytes_cmp q k) as (λ b. eq_by_cmp bytes_cmp q k ≡ b → get n q ≡ cond b o (get m q) → IsEntry q e) [
        | true ↦ λ t g. subst (λ (x : Bytes). IsEntry x e) (sym (same_key q k t)) (written e (sym g ∙ h))
        | false ↦ λ t g. old.entries q e (sym g ∙ h)
      ] refl (is q);
}

nothing : (e : Entry) → None ≡ Some e → ⊥
nothing e h = cc

pub IsDataset-empty : IsDataset empty
IsDataset-empty = record { entries = λ k e h. absurd (nothing e (sym (get-empty bytes_cmp k) ∙ h)) }

-- an entry, if there is one, is one that may stand in a dataset
abbrev pub Stands : Option Entry → Type 0
Stands None = Unit {0}
Stands (Some e) = IsValue e.value × IsLifetime e.deadline

pub put_keeps : (m : Dataset) (k : Bytes) (o : Option Entry) → IsDataset m → IsWord k → Stands o → IsDataset (put_at m k o)
put_keeps m k None old fit new = updated m _ k None (get-remove nat_list_cmp_total m k) (λ e h. absurd (nothing e h)) old
put_keeps m k (Some e) old fit new = updated m _ k (Some e) (get-insert nat_list_cmp_total m k e) (λ f h. let same : e ≡ f = cc in subst (IsEntry k) same (record { key = fit; value = new.0; deadline = new.1 })) old

-- a step makes of such an entry such an entry
abbrev pub Keeps : Step → Type 0
Keeps step = (before after : Option Entry) → Stands before → step before ≡ Some after → Stands after

pub entry_at : (m : Dataset) (k : Bytes) (o : Option Entry) → get m k ≡ o → IsDataset m → Stands o
entry_at m k None h old = tt
entry_at m k (Some e) h old = ((old.entries k e h).value, (old.entries k e h).deadline)

pub at_key_keeps : (step : Step) → Keeps step → (k : Bytes) (m n : Dataset) → IsDataset m → IsWord k → at_key step k m ≡ Some n → IsDataset n
at_key_keeps step keeps k m n old fit h =
    elim (step (get m k)) as (λ o. step (get m k) ≡ o → option_map (put_at m k) o ≡ Some n → IsDataset n) [
      | None ↦ λ s i. cc
      | Some after ↦ λ s i. let same : put_at m k after ≡ n = cc in subst IsDataset same (put_keeps m k after old fit (keeps (get m k) after (entry_at m k (get m k) refl old) s))
    ] refl h

-- ---- collections

-- what P says of a collection is what a dataset keeps of it, beside that it has an element
pub record Suits {X : Type 0} (kind : Kind X) (P : X → Type 0) : Type 0 where
  pub none : P kind.none
  pub taken : (v : Value) (x : X) → kind.of v ≡ Some x → IsValue v → P x
  pub put : (x : X) → kind.is_none x ≡ false → P x → IsValue (kind.value x)

pub held_suits : {X : Type 0} (kind : Kind X) (P : X → Type 0) → Suits kind P → (before : Option Entry) (x : X) → Stands before → held kind before ≡ Some x → P x
held_suits kind P suits None x has h = let same : kind.none ≡ x = cc in subst P same suits.none
held_suits kind P suits (Some e) x has h = suits.taken e.value x h has.0

pub lifetime : (e : Option Entry) → Stands e → IsLifetime (deadline_of e)
lifetime None has = tt
lifetime (Some e) has = has.1

entry_suits : {X : Type 0} (kind : Kind X) (P : X → Type 0) → Suits kind P → (d : Option ℤ) (y : X) → IsLifetime d → P y → Stands (entry_of kind d y)
entry_suits kind P suits d y is fit =
    elim (kind.is_none y) as (λ b. kind.is_none y ≡ b → Stands (if b then None else Some (record { value = kind.value y; deadline = d }))) [
      | true ↦ λ t. tt
      | false ↦ λ t. (suits.put y t fit, is)
    ] refl

pub on_keeps : {X : Type 0} (kind : Kind X) (P : X → Type 0) → Suits kind P → (f : X → Option X) → ((x y : X) → P x → f x ≡ Some y → P y) → Keeps (on kind f)
on_keeps kind P suits f keeps before after has h =
    elim (held kind before) as (λ o. held kind before ≡ o → option_and_then (λ x. option_map (entry_of kind (deadline_of before)) (f x)) o ≡ Some after → Stands after) [
      | None ↦ λ s i. cc
      | Some x ↦ λ s i. elim (f x) as (λ o. f x ≡ o → option_map (entry_of kind (deadline_of before)) o ≡ Some after → Stands after) [
        | None ↦ λ t j. cc
        | Some y ↦ λ t j. let same : entry_of kind (deadline_of before) y ≡ after = cc in subst Stands same (entry_suits kind P suits (deadline_of before) y (lifetime before has) (keeps x y (held_suits kind P suits before x has s) t))
      ] refl i
    ] refl h

not_none : (n : ℕ) → (n == 0) ≡ false → 0 < n
not_none n h = omega (arith, eqb-false n 0 h)

pub hashes_suit : Suits hashes FieldsFit
hashes_suit = record { none = no_fields; taken = taken_hash; put = λ x some fit. record { some = not_none (len x) some; fit = fit } }
  where
    taken_hash : (v : Value) (x : ByteMap Bytes) → hashes.of v ≡ Some x → IsValue v → FieldsFit x
    taken_hash (value.Text s) x h is = cc
    taken_hash (value.Hash s) x h is = let same : s ≡ x = cc in subst FieldsFit same is.fit
    taken_hash (value.List s) x h is = cc
    taken_hash (value.Set s) x h is = cc
    taken_hash (value.SortedSet s) x h is = cc

pub lists_suit : Suits lists ItemsFit
lists_suit = record { none = All-nil IsWord; taken = taken_list; put = λ x some fit. record { some = not_none (length x) some; fit = fit } }
  where
    taken_list : (v : Value) (x : List Bytes) → lists.of v ≡ Some x → IsValue v → ItemsFit x
    taken_list (value.Text s) x h is = cc
    taken_list (value.Hash s) x h is = cc
    taken_list (value.List s) x h is = let same : s ≡ x = cc in subst ItemsFit same is.fit
    taken_list (value.Set s) x h is = cc
    taken_list (value.SortedSet s) x h is = cc

pub sets_suit : Suits sets MembersFit
sets_suit = record { none = no_members; taken = taken_set; put = λ x some fit. record { some = not_none (len x) some; fit = fit } }
  where
    taken_set : (v : Value) (x : ByteMap (Unit {0})) → sets.of v ≡ Some x → IsValue v → MembersFit x
    taken_set (value.Text s) x h is = cc
    taken_set (value.Hash s) x h is = cc
    taken_set (value.List s) x h is = cc
    taken_set (value.Set s) x h is = let same : s ≡ x = cc in subst MembersFit same is.fit
    taken_set (value.SortedSet s) x h is = cc

pub sorted_sets_suit : Suits sorted_sets ScoresFit
sorted_sets_suit = record { none = no_scores; taken = taken_scores; put = λ x some fit. record { some = not_none (len x) some; fit = fit } }
  where
    taken_scores : (v : Value) (x : ByteMap ℤ) → sorted_sets.of v ≡ Some x → IsValue v → ScoresFit x
    taken_scores (value.Text s) x h is = cc
    taken_scores (value.Hash s) x h is = cc
    taken_scores (value.List s) x h is = cc
    taken_scores (value.Set s) x h is = cc
    taken_scores (value.SortedSet s) x h is = let same : s ≡ x = cc in subst ScoresFit same is.fit
