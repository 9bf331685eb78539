-- A step at one key, as a call leaves it in the map.
use Rattle.std.proofs.Common.{◌≡◌, ℤ, List, Option, Some, None, Result, Ok, Err, Bool, true, false, refl, sym, ◌∙◌, ap, subst}
use Rattle.std.specs.Prelude.{OnOk, if◌then◌else◌}
use Rattle.std.specs.Option.{option_map, option_and_then}
use Rattle.std.specs.FinMap.{get, insert, remove}
use Rattle.mr_map.specs.Bytes.{Bytes, ByteMap}
use Rattle.mr_keyspace.specs.Dataset.{Dataset}
use Rattle.mr_keyspace.specs.Steps.{Step, Kind, without_deadline, deadline_of, hashes, lists, sets, sorted_sets, on, entry_of}
use Rattle.mr_keyspace.specs.Changes.{at_key}
use Rattle.mr_keyspace.specs.Outcome.{Applies}
use Rattle.mr_keyspace.specs.declared.value.Value.{Value}
use Rattle.mr_keyspace.specs.declared.value.Value.TheVariants as value
use Rattle.mr_keyspace.specs.declared.value.Entry.{Entry}
use Rattle.mr_keyspace.specs.declared.fault.ApplyFault.{ApplyFault}
use Rattle.mr_keyspace.specs.declared.fault.ApplyFault.TheVariants.{Refused}
use Rattle.mr_keyspace.proofs.Maps.{insert_same, remove_insert, remove_absent}

-- the step is undefined, and the entry was written back
pub refuses : (step : Step) {n m : Dataset} → n ≡ m → (k : Bytes) (e : Entry) → Some e ≡ get n k → step (Some e) ≡ None → Applies (at_key step k m) m (Err Refused) (insert n k e)
refuses step {n} {m} same k e h s = subst (λ (x : Dataset). Applies (at_key step k x) x (Err Refused) (insert n k e)) same (rw (sym h, s) (refl, insert_same n k e (sym h)))

pub refuses_at : (step : Step) {n m : Dataset} → n ≡ m → (k k' : Bytes) → k' ≡ k → (e : Entry) → Some e ≡ get n k' → step (Some e) ≡ None → Applies (at_key step k m) m (Err Refused) (insert n k' e)
refuses_at step {n} {m} same k k' is e h s = subst (λ (q : Bytes). Applies (at_key step q m) m (Err Refused) (insert n k' e)) is (refuses step same k' e h s)

-- the step is undefined where there is no entry
pub refuses_absent : (step : Step) {n m : Dataset} → n ≡ m → (k : Bytes) → None ≡ get n k → step None ≡ None → Applies (at_key step k m) m (Err Refused) n
refuses_absent step {n} {m} same k h s = subst (λ (x : Dataset). Applies (at_key step k x) x (Err Refused) n) same (rw (sym h, s) (refl, refl))

-- the step is done
pub does : (step : Step) {n m : Dataset} → n ≡ m → (k : Bytes) (e e' : Entry) → Some e ≡ get n k → step (Some e) ≡ Some (Some e') → Applies (at_key step k m) m (Ok tt) (insert n k e')
does step {n} {m} same k e e' h s = subst (λ (x : Dataset). Applies (at_key step k x) x (Ok tt) (insert n k e')) same (rw (sym h, s) ((λ f. cc), refl))

pub does_at : (step : Step) {n m : Dataset} → n ≡ m → (k k' : Bytes) → k' ≡ k → (e e' : Entry) → Some e ≡ get n k' → step (Some e) ≡ Some (Some e') → Applies (at_key step k m) m (Ok tt) (insert n k' e')
does_at step {n} {m} same k k' is e e' h s = subst (λ (q : Bytes). Applies (at_key step q m) m (Ok tt) (insert n k' e')) is (does step same k' e e' h s)

-- the step is done, and the key goes
pub goes : (step : Step) {n m : Dataset} → n ≡ m → (k : Bytes) (e : Entry) (r : Dataset) → Some e ≡ get n k → step (Some e) ≡ Some None → (e' : Entry) → r ≡ remove (insert n k e') k → Applies (at_key step k m) m (Ok tt) r
goes step {n} {m} same k e r h s e' is = subst (λ (x : Dataset). Applies (at_key step k x) x (Ok tt) r) same (rw (sym h, s) ((λ f. cc), is ∙ remove_insert n k e'))

-- the key isn't there, and stays away
pub stays_away : (step : Step) {n m : Dataset} → n ≡ m → (k : Bytes) (r : Dataset) → None ≡ get n k → step None ≡ Some None → r ≡ n → Applies (at_key step k m) m (Ok tt) r
stays_away step {n} {m} same k r h s is = subst (λ (x : Dataset). Applies (at_key step k x) x (Ok tt) r) same (rw (sym h, s) ((λ f. cc), is ∙ sym (remove_absent n k (sym h))))

-- what a key has, by its value
abbrev pub entry_at : Dataset → Bytes → Value → Entry
entry_at m k v = record { value = v; deadline = deadline_of (get m k) }

pub is_there : (m : Dataset) (k : Bytes) (v : Value) → Some v ≡ option_map (λ e. e.value) (get m k) → Some (entry_at m k v) ≡ get m k
is_there m k v h = elim (get m k) as (λ (o : Option Entry). Some v ≡ option_map (λ e. e.value) o → Some (record { value = v; deadline = deadline_of o }) ≡ o) [
  | None ↦ λ p. cc
  | Some e ↦ λ p. (let same : v ≡ e.value = cc in ap (λ (w : Value). let f : Entry = record { value = w; deadline = e.deadline } in Some f) same)
] h

pub is_absent : (o : Option Entry) → None ≡ option_map (λ e. e.value) o → None ≡ o
is_absent None h = refl
is_absent (Some e) h = cc

-- a key is made
pub creates : (step : Step) (m : Dataset) (k : Bytes) (e : Entry) (r : Result (Unit {0}) ApplyFault) (new : Dataset) → None ≡ get m k → step None ≡ Some (Some e) → OnOk r (new ≡ insert m k e) → (r ≡ Err Refused → ⊥) → Applies (at_key step k m) m r new
creates step m k e r new h s ok refused = rw (sym h, s) (refused, ok)

-- ---- steps on collections

abbrev pub with_value : Value → Option ℤ → Entry
with_value v d = record { value = v; deadline = d }

module _ {X : Type 0} (kind : Kind X) (f : X → Option X) (e : Entry) where
  -- another kind of value
  pub other_kind : kind.of e.value ≡ None → on kind f (Some e) ≡ None
  other_kind h = ap (option_and_then (λ x. option_map (entry_of kind e.deadline) (f x))) h

  pub becomes : (x : X) (o : Option X) → kind.of e.value ≡ Some x → f x ≡ o → on kind f (Some e) ≡ option_map (entry_of kind e.deadline) o
  becomes x o h s = ap (option_and_then (λ x. option_map (entry_of kind e.deadline) (f x))) h ∙ ap (option_map (entry_of kind e.deadline)) s

  pub is_undefined : (x : X) → kind.of e.value ≡ Some x → f x ≡ None → on kind f (Some e) ≡ None
  is_undefined x h s = becomes x None h s

  -- elements are left
  pub is_left : (x y : X) → kind.of e.value ≡ Some x → f x ≡ Some y → kind.is_none y ≡ false → on kind f (Some e) ≡ Some (Some (with_value (kind.value y) e.deadline))
  is_left x y h s some = becomes x (Some y) h s ∙ ap (λ b. Some (if b then None else Some (with_value (kind.value y) e.deadline))) some

  -- no element is left
  pub is_deleted : (x y : X) → kind.of e.value ≡ Some x → f x ≡ Some y → kind.is_none y ≡ true → on kind f (Some e) ≡ Some None
  is_deleted x y h s none = becomes x (Some y) h s ∙ ap (λ b. Some (if b then None else Some (with_value (kind.value y) e.deadline))) none

-- what the one without elements becomes has none
pub stays_none : {X : Type 0} (kind : Kind X) (g : X → X) → g kind.none ≡ kind.none → kind.is_none kind.none ≡ true → on kind (λ x. Some (g x)) None ≡ Some None
stays_none kind g same none = ap (λ y. Some (entry_of kind None y)) same ∙ ap (λ b. Some (if b then None else Some (with_value (kind.value kind.none) None))) none

-- what is made where there is no entry
pub is_made : {X : Type 0} (kind : Kind X) (g : X → X) (y : X) → y ≡ g kind.none → kind.is_none y ≡ false → on kind (λ x. Some (g x)) None ≡ Some (Some (without_deadline (kind.value y)))
is_made kind g y same some = ap (λ z. Some (entry_of kind None z)) (sym same) ∙ ap (λ b. Some (if b then None else Some (with_value (kind.value y) None))) some

-- what is done under a test
pub done_if : {X : Type 0} (b : Bool) (y z : X) → b ≡ true → y ≡ z → (if b then Some y else None) ≡ Some z
done_if true y z t same = ap Some same
done_if false y z t same = cc

pub refused_if : {X : Type 0} (b : Bool) (y : X) → b ≡ false → (if b then Some y else None) ≡ None
refused_if true y t = cc
refused_if false y t = refl

pub not_a_hash : (v : Value) → ((h : ByteMap Bytes) → v ≡ value.Hash h → ⊥) → hashes.of v ≡ None
not_a_hash (value.Text s) n = refl
not_a_hash (value.Hash s) n = absurd (n s refl)
not_a_hash (value.List s) n = refl
not_a_hash (value.Set s) n = refl
not_a_hash (value.SortedSet s) n = refl

pub not_a_list : (v : Value) → ((xs : List Bytes) → v ≡ value.List xs → ⊥) → lists.of v ≡ None
not_a_list (value.Text s) n = refl
not_a_list (value.Hash s) n = refl
not_a_list (value.List s) n = absurd (n s refl)
not_a_list (value.Set s) n = refl
not_a_list (value.SortedSet s) n = refl

pub not_a_set : (v : Value) → ((s : ByteMap (Unit {0})) → v ≡ value.Set s → ⊥) → sets.of v ≡ None
not_a_set (value.Text s) n = refl
not_a_set (value.Hash s) n = refl
not_a_set (value.List s) n = refl
not_a_set (value.Set s) n = absurd (n s refl)
not_a_set (value.SortedSet s) n = refl

pub not_a_sorted_set : (v : Value) → ((s : ByteMap ℤ) → v ≡ value.SortedSet s → ⊥) → sorted_sets.of v ≡ None
not_a_sorted_set (value.Text s) n = refl
not_a_sorted_set (value.Hash s) n = refl
not_a_sorted_set (value.List s) n = refl
not_a_sorted_set (value.Set s) n = refl
not_a_sorted_set (value.SortedSet s) n = absurd (n s refl)
