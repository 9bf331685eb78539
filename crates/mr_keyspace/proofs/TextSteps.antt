-- A step on the text at a key, as a call leaves it in the map.
use Rattle.std.proofs.Common.{◌≡◌, ℤ, Option, Some, None, Result, Ok, Err, true, false, refl, sym, ◌∙◌, ap, subst}
use Rattle.std.specs.Prelude.{OnOk, ◌↔◌, is_some}
use Rattle.std.specs.Option.{option_map}
use Rattle.std.specs.FinMap.{get, insert}
use Rattle.mr_map.specs.Bytes.{Bytes}
use Rattle.mr_keyspace.specs.Dataset.{Dataset, put_at}
use Rattle.mr_keyspace.specs.Steps.{strings, text_of, on, same, held, entry_of}
use Rattle.mr_keyspace.specs.Changes.{at_key}
use Rattle.mr_keyspace.specs.Outcome.{Applies}
use Rattle.mr_keyspace.specs.declared.value.Value.{Value}
use Rattle.mr_keyspace.specs.declared.value.Value.TheVariants as value
use Rattle.mr_keyspace.specs.declared.value.Entry.{Entry}
use Rattle.mr_keyspace.specs.declared.fault.ApplyFault.{ApplyFault}
use Rattle.mr_keyspace.specs.declared.fault.ApplyFault.TheVariants.{Refused}
use Rattle.mr_keyspace.proofs.Maps.{insert_same, remove_absent}
use Rattle.mr_keyspace.proofs.Stepping.{refuses_at, other_kind, with_value}

not_a_text : (v : Value) → ((s : Bytes) → v ≡ value.Text s → ⊥) → text_of v ≡ None
not_a_text (value.Text s) n = absurd (n s refl)
not_a_text (value.Hash s) n = refl
not_a_text (value.List s) n = refl
not_a_text (value.Set s) n = refl
not_a_text (value.SortedSet s) n = refl

-- another kind of value
pub refuses_other : (absent : Bytes) (f : Bytes → Option Bytes) {n m : Dataset} → n ≡ m → (k q : Bytes) → q ≡ k → (e : Entry) → Some e ≡ get n q → ((s : Bytes) → e.value ≡ value.Text s → ⊥) → Applies (at_key (on (strings absent) f) k m) m (Err Refused) (insert n q e)
refuses_other absent f same k q is e there other = refuses_at (on (strings absent) f) same k q is e there (other_kind (strings absent) f e (not_a_text e.value other))

step_there : (absent : Bytes) (f : Bytes → Option Bytes) (k : Bytes) (m : Dataset) (d : Option ℤ) (t : Bytes) → get m k ≡ Some (with_value (value.Text t) d) → at_key (on (strings absent) f) k m ≡ option_map (λ y. insert m k (with_value (value.Text y) d)) (f t)
step_there absent f k m d t there =
    ap (λ b. option_map (put_at m k) (on (strings absent) f b)) there
    ∙ elim (f t) as (λ o. option_map (put_at m k) (option_map (entry_of (strings absent) d) o) ≡ option_map (λ y. insert m k (with_value (value.Text y) d)) o) [
      | None ↦ refl
      | Some y ↦ refl
    ]

written : (g : Bytes → Dataset) (o : Option Bytes) (t u : Bytes) (m new : Dataset) (r : Result (Unit {0}) ApplyFault) → OnOk r (o ≡ Some u) → ((r ≡ Err Refused) ↔ (o ≡ None)) → (r ≡ Err Refused → u ≡ t) → g t ≡ m → new ≡ g u → Applies (option_map g o) m r new
written g None t u m new r ok refused kept same is = let no : r ≡ Err Refused = refused.1 refl in (no, is ∙ ap g (kept no) ∙ same)
written g (Some y) t u m new r ok refused kept same is = ((λ e. let none : Some y ≡ None = refused.0 e in cc), done r ok)
  where
    done : (q : Result (Unit {0}) ApplyFault) → OnOk q (Some y ≡ Some u) → OnOk q (new ≡ g y)
    done (Ok x) h = let one : y ≡ u = cc in is ∙ ap g (sym one)
    done (Err e) h = tt

-- what was done to the text in its place
pub changes : (absent : Bytes) (f : Bytes → Option Bytes) {n m : Dataset} → n ≡ m → (k q : Bytes) → q ≡ k → (d : Option ℤ) (v : Value) (t u : Bytes) (r : Result (Unit {0}) ApplyFault) → Some (with_value v d) ≡ get n q → v ≡ value.Text t → OnOk r (f t ≡ Some u) → ((r ≡ Err Refused) ↔ (f t ≡ None)) → (r ≡ Err Refused → u ≡ t) → Applies (at_key (on (strings absent) f) k m) m r (insert n q (with_value (value.Text u) d))
changes absent f {n} {m} same k q is d v t u r there text ok refused kept =
    let held_text : get n q ≡ Some (with_value (value.Text t) d) = sym there ∙ ap (λ x. Some (with_value x d)) text in
    subst (λ (x : Dataset). Applies (at_key (on (strings absent) f) k x) x r (insert n q (with_value (value.Text u) d))) same
    (subst (λ (x : Bytes). Applies (at_key (on (strings absent) f) x n) n r (insert n q (with_value (value.Text u) d))) is
    (subst (λ o. Applies o n r (insert n q (with_value (value.Text u) d))) (sym (step_there absent f q n d t held_text))
    (written (λ y. insert n q (with_value (value.Text y) d)) (f t) t u n _ r ok refused kept (insert_same n q (with_value (value.Text t) d) held_text) refl)))

-- what would have taken its place wasn't made
pub fails : (absent : Bytes) (f : Bytes → Option Bytes) {n m : Dataset} → n ≡ m → (k q : Bytes) → q ≡ k → (d : Option ℤ) (v : Value) (t : Bytes) (made : Result Bytes ApplyFault) (e : ApplyFault) (r : Result (Unit {0}) ApplyFault) → Some (with_value v d) ≡ get n q → v ≡ value.Text t → made ≡ Err e → r ≡ Err e → ((made ≡ Err Refused) ↔ (f t ≡ None)) → Applies (at_key (on (strings absent) f) k m) m r (insert n q (with_value (value.Text t) d))
fails absent f same k q is d v t made e r there text not_made told refused =
    changes absent f same k q is d v t t r there text (subst (λ (x : Result (Unit {0}) ApplyFault). OnOk x (f t ≡ Some t)) (sym told) tt)
    ((λ h. refused.0 (let one : e ≡ Refused = cc in not_made ∙ ap Err one)), (λ h. let one : e ≡ Refused = (let both : made ≡ Err Refused = refused.1 h in cc) in told ∙ ap Err one))
    (λ h. refl)

-- ---- no change

put_same : (m : Dataset) (k : Bytes) (b : Option Entry) → get m k ≡ b → put_at m k b ≡ m
put_same m k None h = remove_absent m k h
put_same m k (Some e) h = insert_same m k e h

pub same_done : (absent : Bytes) (k : Bytes) (m : Dataset) → is_some (held (strings absent) (get m k)) ≡ true → Applies (at_key (same (strings absent)) k m) m (Ok tt) m
same_done absent k m some =
    elim (held (strings absent) (get m k)) as (λ o. is_some o ≡ true → Applies (option_map (put_at m k) (option_map (λ x. get m k) o)) m (Ok tt) m) [
      | None ↦ λ t. cc
      | Some x ↦ λ t. ((λ f. cc), sym (put_same m k (get m k) refl))
    ] some

pub same_refused : (absent : Bytes) (k : Bytes) (m : Dataset) → is_some (held (strings absent) (get m k)) ≡ false → Applies (at_key (same (strings absent)) k m) m (Err Refused) m
same_refused absent k m other =
    elim (held (strings absent) (get m k)) as (λ o. is_some o ≡ false → Applies (option_map (put_at m k) (option_map (λ x. get m k) o)) m (Err Refused) m) [
      | None ↦ λ t. (refl, refl)
      | Some x ↦ λ t. cc
    ] other
