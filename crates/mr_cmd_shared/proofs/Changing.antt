-- Commands that change a collection: their effects are faithful.
use Rattle.std.proofs.Common.{◌≡◌, List, [], ◌∷◌, Option, Some, None, refl, sym, ◌∙◌, ap}
use Rattle.std.specs.Prelude.{◌≢◌}
use Rattle.std.specs.Option.{option_map}
use Rattle.std.specs.FinMap.{get}
use Rattle.mr_map.specs.Bytes.{Bytes}
use Rattle.mr_resp.specs.Replies.{Tree}
use Rattle.mr_keyspace.specs.Dataset.{Dataset, put_at}
use Rattle.mr_keyspace.specs.Steps.{Step, Kind, held, entry_of, deadline_of}
use Rattle.mr_data.specs.Meaning.{apply_all}
use Rattle.mr_keyspace.specs.declared.value.Entry.{Entry}
use Rattle.mr_effect.specs.declared.effect.Effect.{Effect}
use Rattle.mr_cmd_shared.specs.Collections.{Change, replied, telling, changed, changing}
use Rattle.mr_keyspace.proofs.Puts.{put_same}
use Rattle.mr_cmd_shared.proofs.Laws.{IsFaithfulAnswer, kept_faithful}
use Rattle.mr_data.proofs.Running.{AreSteps, steps_short, run, run_leads, IsKind, IsKept, same_entry, same_collection}

-- The effects are steps that lead to the new collection, and are there exactly where it is another.
pub record IsFaithfulChange {X : Type 0} (kind : Kind X) (change : Change X) (x : X) (k : Bytes) (o : Option Entry) : Type 0 where
  pub steps : List Step
  pub are : AreSteps k change.effects steps
  pub runs : change.effects ≢ [] → run steps o ≡ Some (entry_of kind (deadline_of o) change.value)
  pub none : change.effects ≡ [] → change.value ≡ x
  pub some : change.value ≡ x → change.effects ≡ []

module _ {X : Type 0} (kind : Kind X) where
  pub telling_faithful : (answer : X → Tree) (k : Bytes) (m : Dataset) → IsFaithfulAnswer (telling kind answer (get m k)) k m
  telling_faithful answer k m = elim (held kind (get m k)) as (λ h. IsFaithfulAnswer (replied kind answer h (get m k)) k m) [
    | None ↦ kept_faithful _ k m refl refl
    | Some x ↦ kept_faithful _ k m refl refl
  ]

module _ {X : Type 0} (kind : Kind X) (laws : IsKind kind) where
  leads : (c : Change X) (x : X) (k : Bytes) (m : Dataset) (es : List Effect) → c.effects ≡ es → IsKept kind (get m k) → held kind (get m k) ≡ Some x → IsFaithfulChange kind c x k (get m k) → apply_all c.effects m ≡ Some (put_at m k (entry_of kind (deadline_of (get m k)) c.value))
  leads c x k m [] e kept is f =
      ap (λ (xs : List Effect). apply_all xs m) e
      ∙ ap Some (sym (put_same m k _ (sym (ap (entry_of kind (deadline_of (get m k))) (f.none e) ∙ same_entry kind laws (get m k) x kept is))))
  leads c x k m (y ∷ ys) e kept is f =
      run_leads k c.effects f.steps m f.are
      ∙ ap (option_map (put_at m k)) (f.runs (λ n. let wrong : y ∷ ys ≡ [] = sym e ∙ n in cc))

  pub changing_faithful : (change : X → Change X) (k : Bytes) (m : Dataset) → IsKept kind (get m k) → ((x : X) → held kind (get m k) ≡ Some x → IsFaithfulChange kind (change x) x k (get m k)) → IsFaithfulAnswer (changing kind change (get m k)) k m
  changing_faithful change k m kept f = elim (held kind (get m k)) as (λ h. held kind (get m k) ≡ h → IsFaithfulAnswer (changed kind change h (get m k)) k m) [
    | None ↦ λ is. kept_faithful _ k m refl refl
    | Some x ↦ λ is. record {
      leads = leads (change x) x k m (change x).effects refl kept is (f x is);
      short = steps_short k (change x).effects (f x is).steps (f x is).are;
      none = λ e. ap (entry_of kind (deadline_of (get m k))) ((f x is).none e) ∙ same_entry kind laws (get m k) x kept is;
      some = λ e. (f x is).some (same_collection kind laws (get m k) x (change x).value is e);
    }
  ] refl
