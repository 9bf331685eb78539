-- Pushes have faithful effects.
use Rattle.std.proofs.Common.{◌+◌, ◌≡◌, List, [], ◌∷◌, length, Option, Some, refl, ◌∙◌, ap, arith, length-append}
use Rattle.std.specs.Prelude.{IsTrue, map}
use Rattle.std.specs.List.{AllByRecursion, list_all}
use Rattle.mr_map.specs.Bytes.{Bytes}
use Rattle.mr_bytes.specs.Words.{fits}
use Rattle.mr_bytes.specs.declared.ends.End.{End}
use Rattle.mr_bytes.specs.declared.ends.End.TheVariants.{Left, Right}
use Rattle.mr_keyspace.specs.Collections.{put_item, pushed}
use Rattle.mr_keyspace.specs.Steps.{lists, held, entry_of, deadline_of, push_step}
use Rattle.mr_keyspace.specs.declared.value.Entry.{Entry}
use Rattle.mr_effect.specs.declared.effect.Effect.TheVariants as effect
use Rattle.mr_keyspace.specs.Cuts.{cut}
use Rattle.mr_keyspace.proofs.Cutting.{cut_groups, cut_whole, no_cut}
use Rattle.mr_data.proofs.Folds.{pushing, push_is_step}
use Rattle.mr_data.proofs.Running.{steps_of, groups_run}
use Rattle.mr_data.proofs.KindLaws.{lists_are}
use Rattle.mr_cmd_shared.proofs.Changing.{IsFaithfulChange}
use Rattle.mr_cmd_list.specs.Pushes.{push_effects, push_change}

-- ---- one after another
length-put_item : (end : End) (x : Bytes) (xs : List Bytes) → length (put_item end x xs) ≡ length xs + 1
length-put_item Left x xs = omega arith
length-put_item Right x xs = length-append xs (x ∷ [])

length-pushed : (end : End) (new xs : List Bytes) → length (pushed end new xs) ≡ length xs + length new
length-pushed end [] xs = omega arith
length-pushed end (x ∷ new) xs = length-pushed end new (put_item end x xs) ∙ omega (arith, length-put_item end x xs)

-- ---- groups
each : {X : Type 0} {P Q : X → Type 0} → ((x : X) → P x → Q x) → (xs : List X) → AllByRecursion P xs → AllByRecursion Q xs
each f [] h = tt
each f (x ∷ xs) h = (f x h.0, each f xs h.1)

no_groups : (k : Bytes) (end : End) (gs : List (List Bytes)) → push_effects k end gs ≡ [] → gs ≡ []
no_groups k end [] h = refl
no_groups k end (g ∷ gs) h = cc

none_new : (end : End) (items xs : List Bytes) → pushed end items xs ≡ xs → items ≡ []
none_new end [] xs h = refl
none_new end (x ∷ items) xs h = absurd (omega (arith, ap length h, length-pushed end (x ∷ items) xs))

pub push_faithful : (k : Bytes) (end : End) (items : List Bytes) (x : List Bytes) (o : Option Entry) → IsTrue (fits k) → IsTrue (list_all fits items) → held lists o ≡ Some x → IsFaithfulChange lists (push_change k end items x) x k o
push_faithful k end items x o named fit there = record {
  steps = map (push_step end) (cut items);
  are = steps_of k (effect.Push k end) (push_step end) (cut items) (each (push_is_step k end named) (cut items) (cut_groups fits items fit));
  runs = λ some.
      groups_run lists lists_are (pushed end) (pushing end) o x (cut items) there (λ none. some (ap (push_effects k end) none)) (each (λ g h. h.some) (cut items) (cut_groups fits items fit))
      ∙ ap (λ ys. Some (entry_of lists (deadline_of o) (pushed end ys x))) (cut_whole items);
  none = λ h. ap (λ ys. pushed end ys x) (no_cut items (no_groups k end (cut items) h));
  some = λ h. ap (λ ys. push_effects k end (cut ys)) (none_new end items x h);
}
