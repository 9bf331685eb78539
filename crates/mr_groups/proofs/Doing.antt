-- The effects of a group one after another, and where one isn't done.
use Rattle.std.proofs.Common.{◌≡◌, ℕ, suc, ◌+◌, ◌<◌, List, [], ◌∷◌, ◌++◌, length, get_or, take, drop, Bool, true, false, ◌≢◌, ◌↔◌, Some, None, Result, Err, refl, sym, ap, subst, ◌∙◌}
use Rattle.std.specs.List.{AllByRecursion}
use Rattle.std.specs.FinMap.{empty}
use Rattle.std.proofs.lemmas.List.{take_more, take-append-drop}
use Rattle.std.proofs.Common.{drop-cons}
use Rattle.std.proofs.lemmas.Option.{same_Some}
use Rattle.mr_effect.specs.declared.effect.Effect.{Effect}
use Rattle.mr_keyspace.specs.Changes.{NeedsNoMemory}
use Rattle.mr_keyspace.specs.Dataset.{Dataset}
use Rattle.mr_keyspace.specs.declared.fault.ApplyFault.{ApplyFault}
use Rattle.mr_keyspace.specs.declared.fault.ApplyFault.TheVariants as undone
use Rattle.mr_data.specs.Meaning.{apply, apply_all}
use Rattle.mr_data.proofs.Folding.{apply_all_more}
use Rattle.mr_groups.specs.Folding.{IsRefused, AppliesGroup, fault_of}
use Rattle.mr_groups.specs.declared.applying.GroupFault.{GroupFault}
use Rattle.mr_groups.proofs.Runs.{first_done}

refused_first : (before behind es : List Effect) (e : Effect) (m mid : Dataset) → before ++ (e ∷ behind) ≡ es → apply_all before m ≡ Some mid → before ≡ [] → apply e mid ≡ None → IsRefused es m
refused_first before behind es e m mid each begun none undefined =
    let whole : e ∷ behind ≡ es = ap (λ (xs : List Effect). xs ++ (e ∷ behind)) (sym none) ∙ each in
    let same : m ≡ mid = same_Some m mid (ap (λ (xs : List Effect). apply_all xs m) (sym none) ∙ begun) in
    subst (λ (xs : List Effect). IsRefused xs m) whole (subst (λ x. apply e x ≡ None) (sym same) undefined)

not_refused : (before behind es : List Effect) (e : Effect) (m mid : Dataset) → before ++ (e ∷ behind) ≡ es → apply_all before m ≡ Some mid → (apply e mid ≡ None → ⊥) → IsRefused es m → ⊥
not_refused [] behind es e m mid each begun can refused = can (subst (λ x. apply e x ≡ None) (same_Some m mid begun) (subst (λ (xs : List Effect). IsRefused xs m) (sym each) refused))
not_refused (b ∷ bs) behind es e m mid each begun can refused =
    let one = first_done (apply_all bs) (apply b m) mid begun in
    let none : apply b m ≡ None = subst (λ (xs : List Effect). IsRefused xs m) (sym each) refused in
    let wrong : None ≡ Some one.0 = sym none ∙ one.1 in
    cc

light_at : (before behind : List Effect) (e : Effect) → AllByRecursion NeedsNoMemory (before ++ (e ∷ behind)) → NeedsNoMemory e
light_at [] behind e h = h.0
light_at (b ∷ bs) behind e h = light_at bs behind e h.1

not_both : (o : Result (Unit {0}) ApplyFault) → o ≡ Err undone.Memory → o ≡ Err undone.Refused → ⊥
not_both o p q = let wrong = sym p ∙ q in cc

-- ---- the effects of a slice

pub around : (es : List Effect) (i : ℕ) (e : Effect) → i < length es → e ≡ get_or es i e → take i es ++ (e ∷ drop (suc i) es) ≡ es
around es i e here is = ap (λ (xs : List Effect). take i es ++ xs) (ap (λ (x : Effect). x ∷ drop (suc i) es) is ∙ sym (drop-cons es i e here)) ∙ take-append-drop i es

pub done_more : (es : List Effect) (i : ℕ) (e : Effect) (m mid new : Dataset) → i < length es → e ≡ get_or es i e → apply_all (take i es) m ≡ Some mid → apply e mid ≡ Some new → apply_all (take (i + 1) es) m ≡ Some new
done_more es i e m mid new here is begun one =
    let longer : take (i + 1) es ≡ take i es ++ (e ∷ []) = take_more es i e here ∙ ap (λ (x : Effect). take i es ++ (x ∷ [])) (sym is) in
    ap (λ (xs : List Effect). apply_all xs m) longer ∙ apply_all_more (take i es) e m mid new begun one

-- ---- where one isn't done

-- the effects before were done, and the one behind them isn't: why the group isn't, by why that one isn't
pub stops_at : (before behind es : List Effect) (e : Effect) (m mid new : Dataset) (is_first : Bool) (f : ApplyFault) (r : GroupFault) (o : Result (Unit {0}) ApplyFault)
    → before ++ (e ∷ behind) ≡ es → apply_all before m ≡ Some mid → (is_first ≡ true → before ≡ []) → (is_first ≡ false → 0 < length before)
    → o ≡ Err f → ((o ≡ Err undone.Refused) ↔ (apply e mid ≡ None)) → (o ≡ Err undone.Refused → new ≡ mid) → (o ≡ Err undone.Memory → new ≡ empty)
    → (NeedsNoMemory e → o ≢ Err undone.Memory) → r ≡ fault_of f is_first → AppliesGroup es m (Err r) new
stops_at before behind es e m mid new is_first undone.Memory r o each begun none some is refused kept emptied light told =
    subst (λ x. AppliesGroup es m (Err x) new) (sym told) (
      not_refused before behind es e m mid each begun (λ undefined. not_both o is (refused.1 undefined)),
      λ all. light (light_at before behind e (subst (AllByRecursion NeedsNoMemory) (sym each) all)) is,
      emptied is,
    )
stops_at before behind es e m mid new true undone.Refused r o each begun none some is refused kept emptied light told =
    let undefined : apply e mid ≡ None = refused.0 is in
    let same : m ≡ mid = same_Some m mid (ap (λ (xs : List Effect). apply_all xs m) (sym (none refl)) ∙ begun) in
    subst (λ x. AppliesGroup es m (Err x) new) (sym told) (refused_first before behind es e m mid each begun (none refl) undefined, kept is ∙ sym same)
stops_at before behind es e m mid new false undone.Refused r o each begun none some is refused kept emptied light told =
    subst (λ x. AppliesGroup es m (Err x) new) (sym told) (record {
      stops = record {
        before = before;
        at = e;
        behind = behind;
        each = each;
        done = begun ∙ ap Some (sym (kept is));
        undefined = subst (λ x. apply e x ≡ None) (sym (kept is)) (refused.0 is);
      };
      begun = some refl;
    })
