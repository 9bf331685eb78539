-- Commands with one effect at most.
use Rattle.std.proofs.Common.{◌≡◌, List, [], ◌∷◌, Bool, true, false, Option, Some, None, refl, sym, ◌∙◌, ap, subst}
use Rattle.std.specs.Prelude.{◌≢◌}
use Rattle.std.specs.Option.{option_map, option_and_then}
use Rattle.std.specs.FinMap.{get}
use Rattle.mr_map.specs.Bytes.{Bytes}
use Rattle.mr_resp.specs.Replies.{Tree}
use Rattle.mr_keyspace.specs.Dataset.{Dataset}
use Rattle.mr_data.specs.Dataset.{IsDataset}
use Rattle.mr_keyspace.specs.Steps.{Step, lists, held, entry_of, deadline_of, on}
use Rattle.mr_keyspace.specs.declared.value.Entry.{Entry}
use Rattle.mr_effect.specs.declared.effect.Effect.{Effect}
use Rattle.mr_cmd_shared.specs.Collections.{Change, telling, changing}
use Rattle.mr_cmd_shared.proofs.Laws.{IsFaithfulAnswer, kept_faithful}
use Rattle.mr_data.proofs.Running.{AreSteps, IsStep, run}
use Rattle.mr_data.proofs.KindLaws.{lists_are, lists_kept}
use Rattle.mr_cmd_shared.proofs.Changing.{IsFaithfulChange, changing_faithful, telling_faithful}
use Rattle.mr_cmd_list.specs.Lists.{of_list, on_list, unless}

-- ---- a list, or an absent key
pub of_list_faithful : (absent : Tree) (answer : List Bytes → Tree) (k : Bytes) (m : Dataset) → IsFaithfulAnswer (of_list absent answer (get m k)) k m
of_list_faithful absent answer k m = elim (get m k) as (λ o. get m k ≡ o → IsFaithfulAnswer (of_list absent answer o) k m) [
  | None ↦ λ is. kept_faithful _ k m (sym is) refl
  | Some e ↦ λ is. subst (λ o. IsFaithfulAnswer (telling lists answer o) k m) is (telling_faithful lists answer k m)
] refl

module _ (change : List Bytes → Change (List Bytes)) (k : Bytes) (m : Dataset) (kept : IsDataset m) where
  pub changing_list : ((xs : List Bytes) → held lists (get m k) ≡ Some xs → IsFaithfulChange lists (change xs) xs k (get m k)) → IsFaithfulAnswer (changing lists change (get m k)) k m
  changing_list f = changing_faithful lists lists_are change k m (lists_kept m k kept) f

  pub on_list_faithful : (absent : Tree) → ((e : Entry) → get m k ≡ Some e → (xs : List Bytes) → held lists (get m k) ≡ Some xs → IsFaithfulChange lists (change xs) xs k (get m k)) → IsFaithfulAnswer (on_list absent change (get m k)) k m
  on_list_faithful absent f = elim (get m k) as (λ o. get m k ≡ o → IsFaithfulAnswer (on_list absent change o) k m) [
    | None ↦ λ is. kept_faithful _ k m (sym is) refl
    | Some e ↦ λ is. subst (λ o. IsFaithfulAnswer (changing lists change o) k m) is (changing_list (f e is))
  ] refl

-- ---- no effect, or one
some_effect : {e : Effect} → e ∷ [] ≡ [] → ⊥
some_effect h = cc

module _ (change : Change (List Bytes)) (x : List Bytes) (k : Bytes) (o : Option Entry) where
  pub no_effect : change.effects ≡ [] → change.value ≡ x → IsFaithfulChange lists change x k o
  no_effect none same = record {
    steps = [];
    are = subst (λ (es : List Effect). AreSteps k es []) (sym none) tt;
    runs = λ some. absurd (some none);
    none = λ _. same;
    some = λ _. none;
  }

  -- by the step of any effect
  pub by_step : (e : Effect) (step : Step) → IsStep k e step → change.effects ≡ e ∷ [] → step o ≡ Some (entry_of lists (deadline_of o) change.value) → change.value ≢ x → IsFaithfulChange lists change x k o
  by_step e step is one runs other = record {
    steps = step ∷ [];
    are = subst (λ (es : List Effect). AreSteps k es (step ∷ [])) (sym one) (is, tt);
    runs = λ some. ap (option_and_then (run [])) runs;
    none = λ h. absurd (some_effect (sym one ∙ h));
    some = λ h. absurd (other h);
  }

  -- what the effect makes of the list
  module _ (f : List Bytes → Option (List Bytes)) (there : held lists o ≡ Some x) where
    on_step : f x ≡ Some change.value → on lists f o ≡ Some (entry_of lists (deadline_of o) change.value)
    on_step made = ap (option_and_then (λ xs. option_map (entry_of lists (deadline_of o)) (f xs))) there ∙ ap (option_map (entry_of lists (deadline_of o))) made

    pub one_effect : (e : Effect) → IsStep k e (on lists f) → change.effects ≡ e ∷ [] → f x ≡ Some change.value → change.value ≢ x → IsFaithfulChange lists change x k o
    one_effect e is one made other = by_step e (on lists f) is one (on_step made) other

    -- an effect unless the list is the same
    pub unless_same : (e : Effect) (b : Bool) → change.effects ≡ unless b e → IsStep k e (on lists f) → (b ≡ true → change.value ≡ x) → (b ≡ false → f x ≡ Some change.value) → (b ≡ false → change.value ≢ x) → IsFaithfulChange lists change x k o
    unless_same e true is step same made other = no_effect is (same refl)
    unless_same e false is step same made other = one_effect e step is (made refl) (other refl)
