-- Effects on one key, one after another.
use Rattle.std.proofs.Common.{ℤ, ◌≡◌, List, [], ◌∷◌, ◌++◌, map, Bool, true, false, ◌&&◌, Option, Some, None, refl, sym, ◌∙◌, ap}
use Rattle.std.specs.Prelude.{if◌then◌else◌, ◌≢◌, All}
use Rattle.std.specs.List.{AllByRecursion, flat_map}
use Rattle.std.specs.Option.{option_map, option_and_then}
use Rattle.std.specs.FinMap.{get}
use Rattle.std.proofs.lemmas.List.Elements.{All-nil, All-cons}
use Rattle.mr_map.specs.Bytes.{Bytes}
use Rattle.mr_keyspace.specs.Dataset.{Dataset, put_at}
use Rattle.mr_keyspace.specs.Steps.{Step, Kind, held, entry_of, deadline_of, on}
use Rattle.mr_keyspace.specs.Changes.{change, at_key}
use Rattle.mr_data.specs.Meaning.{apply, apply_all}
use Rattle.mr_keyspace.specs.declared.value.Entry.{Entry}
use Rattle.mr_keyspace.specs.declared.value.Value.{Value}
use Rattle.mr_effect.specs.Effects.{words_fit, has_spelling}
use Rattle.mr_effect.specs.Spelling.{IsShort}
use Rattle.mr_effect.specs.declared.effect.Effect.{Effect}
use Rattle.mr_keyspace.proofs.Puts.{get_put, put_same, put_put}

-- steps at one key, one after another
abbrev pub run : List Step → Step
run [] before = Some before
run (step ∷ steps) before = option_and_then (run steps) (step before)

-- the effect is possible and short, and this is its step at the key
pub record IsStep (k : Bytes) (e : Effect) (step : Step) : Type 0 where
  pub possible : has_spelling e && words_fit e ≡ true
  pub short : IsShort e
  pub is : (m : Dataset) → change e m ≡ at_key step k m

pub one_step : (k : Bytes) (e : Effect) (step : Step) (m : Dataset) → IsStep k e step → apply e m ≡ option_map (put_at m k) (step (get m k))
unfolding apply
one_step k e step m h = ap (λ b. if b then change e m else None) h.possible ∙ h.is m

-- Each effect of a list is a step.
abbrev pub AreSteps : Bytes → List Effect → List Step → Type 0
AreSteps k [] [] = Unit {0}
AreSteps k (e ∷ es) (s ∷ ss) = IsStep k e s × AreSteps k es ss
AreSteps k _ _ = ⊥

pub steps_short : (k : Bytes) (es : List Effect) (ss : List Step) → AreSteps k es ss → All IsShort es
steps_short k [] [] h = All-nil IsShort
steps_short k (e ∷ es) (s ∷ ss) h = All-cons IsShort e es h.0.short (steps_short k es ss h.1)
steps_short k [] (s ∷ ss) h = absurd h
steps_short k (e ∷ es) [] h = absurd h

put_later : (m : Dataset) (k : Bytes) (o : Option Entry) (later : Option (Option Entry)) → option_map (put_at (put_at m k o) k) later ≡ option_map (put_at m k) later
put_later m k o None = refl
put_later m k o (Some p) = ap Some (put_put m k o p)

pub run_leads : (k : Bytes) (es : List Effect) (ss : List Step) (m : Dataset) → AreSteps k es ss → apply_all es m ≡ option_map (put_at m k) (run ss (get m k))
run_leads k [] [] m h = ap Some (sym (put_same m k (get m k) refl))
run_leads k (e ∷ es) (s ∷ ss) m h = ap (option_and_then (apply_all es)) (one_step k e s m h.0) ∙ elim (s (get m k)) as (λ o. option_and_then (apply_all es) (option_map (put_at m k) o) ≡ option_map (put_at m k) (option_and_then (run ss) o)) [
  | None ↦ refl
  | Some o ↦ run_leads k es ss (put_at m k o) h.1 ∙ ap (λ x. option_map (put_at (put_at m k o) k) (run ss x)) (get_put m k o) ∙ put_later m k o (run ss o)
]
run_leads k [] (s ∷ ss) m h = absurd h
run_leads k (e ∷ es) [] m h = absurd h

-- ---- groups of items, each of which goes into one effect
module _ {A : Type 0} (k : Bytes) (effect : List A → Effect) (step : List A → Step) where
  pub steps_of : (gs : List (List A)) → AllByRecursion (λ g. IsStep k (effect g) (step g)) gs → AreSteps k (map effect gs) (map step gs)
  steps_of [] h = tt
  steps_of (g ∷ gs) h = (h.0, steps_of gs h.1)

module _ {X : Type 0} (kind : Kind X) where
  -- what each kind of collection keeps
  pub record IsKind : Type 0 where
    pub of_value : (x : X) → kind.of (kind.value x) ≡ Some x
    pub value_of : (v : Value) (x : X) → kind.of v ≡ Some x → kind.value x ≡ v
    pub none_is : (x : X) → kind.is_none x ≡ true → x ≡ kind.none
    pub is_none : kind.is_none kind.none ≡ true

  -- a collection at a key has an element
  abbrev pub IsKept : Option Entry → Type 0
  IsKept o = (e : Entry) → o ≡ Some e → (x : X) → kind.of e.value ≡ Some x → kind.is_none x ≡ false

module _ {X : Type 0} (kind : Kind X) (laws : IsKind kind) where
  -- the entry of the collection that is there
  pub same_entry : (o : Option Entry) (x : X) → IsKept kind o → held kind o ≡ Some x → entry_of kind (deadline_of o) x ≡ o
  same_entry None x h is = ap (λ b. let none : Option Entry = None in if b then none else Some (record { value = kind.value x; deadline = None })) (ap kind.is_none (sym (some_is is)) ∙ laws.is_none)
    where
      some_is : {x y : X} → Some x ≡ Some y → x ≡ y
      some_is h = cc
  same_entry (Some e) x h is =
      ap (λ b. let none : Option Entry = None in if b then none else Some (record { value = kind.value x; deadline = e.deadline })) (h e refl x is)
      ∙ ap (λ v. let f : Entry = record { value = v; deadline = e.deadline } in Some f) (laws.value_of e.value x is)

  -- only that collection has this entry
  entry_is : (d : Option ℤ) (y : X) (b : Bool) → kind.is_none y ≡ b → (o : Option Entry) → (if b then None else Some (record { value = kind.value y; deadline = d })) ≡ o → held kind o ≡ Some y
  entry_is d y true n None e = ap Some (sym (laws.none_is y n))
  entry_is d y true n (Some f) e = cc
  entry_is d y false n None e = cc
  entry_is d y false n (Some f) e = ap kind.of (sym (value_is e)) ∙ laws.of_value y
    where
      value_is : {f g : Entry} → Some f ≡ Some g → f.value ≡ g.value
      value_is h = cc

  pub held_entry : (d : Option ℤ) (y : X) (o : Option Entry) → entry_of kind d y ≡ o → held kind o ≡ Some y
  held_entry d y o e = entry_is d y (kind.is_none y) refl o e

  some_is : {x y : X} → Some x ≡ Some y → x ≡ y
  some_is h = cc

  pub same_collection : (o : Option Entry) (x y : X) → held kind o ≡ Some x → entry_of kind (deadline_of o) y ≡ o → y ≡ x
  same_collection o x y is e = some_is (sym (held_entry (deadline_of o) y o e) ∙ is)

-- ---- groups of items, each of which goes into one effect
module _ {X : Type 0} (kind : Kind X) where
  -- once nothing is left, nothing more is left either
  abbrev pub StaysNone : {A : Type 0} → (List A → X → X) → X → Type 0
  StaysNone {A} f x = kind.is_none x ≡ true → (xs : List A) → kind.is_none (f xs kind.none) ≡ true

  -- what items do to a collection, one after another
  pub record IsFold {A : Type 0} (f : List A → X → X) : Type 0 where
    pub nothing : (x : X) → f [] x ≡ x
    pub more : (xs ys : List A) (x : X) → f (xs ++ ys) x ≡ f ys (f xs x)
    pub deleted : (xs : List A) (x : X) → xs ≢ [] → StaysNone f (f xs x)

module _ {A X : Type 0} (kind : Kind X) (laws : IsKind kind) (f : List A → X → X) (fold : IsFold kind f) where
  -- the step of a group
  abbrev pub group_step : List A → Step
  group_step xs = on kind (λ x. Some (f xs x))

  no_entry : (d : Option ℤ) (x : X) → kind.is_none x ≡ true → entry_of kind d x ≡ None
  no_entry d x h = ap (λ b. let none : Option Entry = None in if b then none else Some (record { value = kind.value x; deadline = d })) h

  some_entry : (d : Option ℤ) (x : X) → kind.is_none x ≡ false → entry_of kind d x ≡ Some (record { value = kind.value x; deadline = d })
  some_entry d x h = ap (λ b. let none : Option Entry = None in if b then none else Some (record { value = kind.value x; deadline = d })) h

  -- a group on what another group left
  next_step : (d : Option ℤ) (x : X) (xs : List A) (b : Bool) → kind.is_none x ≡ b → StaysNone kind f x → group_step xs (entry_of kind d x) ≡ Some (entry_of kind d (f xs x))
  next_step d x xs true none stays =
      ap (group_step xs) (no_entry d x none)
      ∙ ap Some (no_entry None (f xs kind.none) (stays none xs) ∙ sym (no_entry d (f xs x) (ap (λ y. kind.is_none (f xs y)) (laws.none_is x none) ∙ stays none xs)))
  next_step d x xs false some stays =
      ap (group_step xs) (some_entry d x some)
      ∙ ap (option_and_then (λ y. option_map (entry_of kind d) (Some (f xs y)))) (laws.of_value x)

  rest_runs : (d : Option ℤ) (x : X) (gs : List (List A)) → StaysNone kind f x → AllByRecursion (λ (g : List A). g ≢ []) gs → run (map group_step gs) (entry_of kind d x) ≡ Some (entry_of kind d (f (flat_map (λ g. g) gs) x))
  rest_runs d x [] stays h = ap (λ y. Some (entry_of kind d y)) (sym (fold.nothing x))
  rest_runs d x (g ∷ gs) stays h =
      ap (option_and_then (run (map group_step gs))) (next_step d x g (kind.is_none x) refl stays)
      ∙ rest_runs d (f g x) gs (fold.deleted g x h.0) h.1
      ∙ ap (λ y. Some (entry_of kind d y)) (sym (fold.more g (flat_map (λ g. g) gs) x))

  -- The groups do what all items do.
  pub groups_run : (o : Option Entry) (x : X) (gs : List (List A)) → held kind o ≡ Some x → gs ≢ [] → AllByRecursion (λ (g : List A). g ≢ []) gs → run (map group_step gs) o ≡ Some (entry_of kind (deadline_of o) (f (flat_map (λ g. g) gs) x))
  groups_run o x [] is some h = absurd (some refl)
  groups_run o x (g ∷ gs) is some h =
      ap (λ y. option_and_then (run (map group_step gs)) (option_and_then (λ z. option_map (entry_of kind (deadline_of o)) (Some (f g z))) y)) is
      ∙ rest_runs (deadline_of o) (f g x) gs (fold.deleted g x h.0) h.1
      ∙ ap (λ y. Some (entry_of kind (deadline_of o) y)) (sym (fold.more g (flat_map (λ g. g) gs) x))
