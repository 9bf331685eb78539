-- What a call that applies an effect answers.
use Rattle.std.proofs.Common.{◌≡◌, true, ◌&&◌, Option, Some, None, Result, Ok, Err, ◌⊎◌, inl, inr, refl, sym, ◌∙◌, ap, subst}
use Rattle.std.specs.Prelude.{OnOk, ◌↔◌, if◌then◌else◌}
use Rattle.mr_effect.specs.Effects.{words_fit, has_spelling}
use Rattle.mr_effect.specs.declared.effect.Effect.{Effect}
use Rattle.std.specs.FinMap.{empty}
use Rattle.mr_bytes.proofs.Both.{first, second}
use Rattle.mr_keyspace.specs.Dataset.{Dataset}
use Rattle.mr_data.specs.Dataset.{IsDataset}
use Rattle.mr_keyspace.specs.Changes.{change}
use Rattle.mr_data.specs.Meaning.{apply}
use Rattle.mr_keyspace.specs.Outcome.{Applies}
use Rattle.mr_keyspace.specs.declared.fault.ApplyFault.{ApplyFault}
use Rattle.mr_keyspace.specs.declared.fault.ApplyFault.TheVariants.{Refused, Memory}
use Rattle.mr_data.proofs.Datasets.{IsDataset-empty}
use Rattle.mr_data.proofs.Changes.{applied_keeps}

-- an effect that has a spelling, with words within the limit, is its change
pub is_change : (e : Effect) (m : Dataset) → has_spelling e && words_fit e ≡ true → change e m ≡ apply e m
unfolding apply
is_change e m h = sym (ap (λ b. if b then change e m else None) h)

ok_of : (o : Option Dataset) (m : Dataset) (r : Result (Unit {0}) ApplyFault) (new : Dataset) → Applies o m r new → OnOk r (o ≡ Some new)
ok_of None m (Ok u) new h = let wrong = h.0 in cc
ok_of (Some n) m (Ok u) new h = ap Some (sym h.1)
ok_of o m (Err f) new h = tt

refused_of : (o : Option Dataset) (m : Dataset) (r : Result (Unit {0}) ApplyFault) (new : Dataset) → Applies o m r new → (r ≡ Err Refused) ↔ (o ≡ None)
refused_of None m r new h = ((λ e. refl), (λ e. h.0))
refused_of (Some n) m r new h = ((λ e. absurd (h.0 e)), (λ e. cc))

unchanged_of : (o : Option Dataset) (m : Dataset) (r : Result (Unit {0}) ApplyFault) (new : Dataset) → Applies o m r new → r ≡ Err Refused → new ≡ m
unchanged_of None m r new h e = h.1
unchanged_of (Some n) m r new h e = absurd (h.0 e)

-- memory ran out, or it didn't
ran_out : (r : Result (Unit {0}) ApplyFault) → (r ≡ Err Memory) ⊎ (r ≡ Err Memory → ⊥)
ran_out (Ok u) = inr (λ e. cc)
ran_out (Err Refused) = inr (λ e. cc)
ran_out (Err Memory) = inl refl

settled_ok : (o : Option Dataset) (r : Result (Unit {0}) ApplyFault) (new last : Dataset) → ((r ≡ Err Memory → ⊥) → last ≡ new) → OnOk r (o ≡ Some new) → OnOk r (o ≡ Some last)
settled_ok o (Ok u) new last kept h = h ∙ ap Some (sym (kept (λ e. cc)))
settled_ok o (Err f) new last kept h = tt

module _ (e : Effect) (m : Dataset) (r : Result (Unit {0}) ApplyFault) (new : Dataset) (possible : has_spelling e && words_fit e ≡ true) (h : Applies (change e m) m r new) (last : Dataset) (spent : r ≡ Err Memory → last ≡ empty) (kept : (r ≡ Err Memory → ⊥) → last ≡ new) where
  pub is_ok : OnOk r (apply e m ≡ Some last)
  is_ok = settled_ok (apply e m) r new last kept (subst (λ o. OnOk r (o ≡ Some new)) (is_change e m possible) (ok_of (change e m) m r new h))

  pub is_refused : (r ≡ Err Refused) ↔ (apply e m ≡ None)
  is_refused = subst (λ o. (r ≡ Err Refused) ↔ (o ≡ None)) (is_change e m possible) (refused_of (change e m) m r new h)

  pub is_unchanged : r ≡ Err Refused → last ≡ m
  is_unchanged t = kept (λ u. let both : Err Refused ≡ Err Memory = sym t ∙ u in cc) ∙ unchanged_of (change e m) m r new h t

  pub is_dataset : IsDataset m → IsDataset last
  is_dataset old = elim (ran_out r) [
    | inl out ↦ subst IsDataset (sym (spent out)) IsDataset-empty
    | inr left ↦ subst IsDataset (sym (kept left)) (applied_keeps e m new r old (first (has_spelling e) (words_fit e) possible) (second (has_spelling e) (words_fit e) possible) h left)
  ]
