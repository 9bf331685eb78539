-- The effects of commands that change a sorted set are faithful.
use Rattle.std.proofs.Common.{◌≡◌, ◌≢◌, ℤ, List, [], ◌∷◌, ◌++◌, map, Bool, true, false, cond, Option, Some, None, refl, sym, ◌∙◌, ap, arith}
use Rattle.std.specs.Prelude.{IsTrue, ◌==◌, is_some}
use Rattle.std.specs.List.{list_all}
use Rattle.std.specs.FinMap.{get, empty, insert, len, get-empty, get-insert}
use Rattle.std.proofs.lemmas.Cmp.{nat_list_cmp_total}
use Rattle.std.proofs.lemmas.Bool.{and_from}
use Rattle.mr_map.specs.Bytes.{Bytes, bytes_cmp}
use Rattle.mr_bytes.specs.Words.{fits}
use Rattle.mr_bytes.proofs.Both.{first}
use Rattle.mr_resp.specs.Replies.{Tree}
use Rattle.mr_effect.specs.Effects.{is_some_of}
use Rattle.mr_effect.specs.declared.effect.Effect.{Effect}
use Rattle.mr_effect.specs.declared.effect.Effect.TheVariants as effect
use Rattle.mr_keyspace.specs.Dataset.{Dataset}
use Rattle.mr_data.specs.Dataset.{IsDataset, IsValue}
use Rattle.mr_keyspace.specs.Collections.{with_scores, without_scores}
use Rattle.mr_keyspace.specs.Steps.{sorted_sets, held, sorted_set_of, entry_of, deadline_of, on}
use Rattle.mr_keyspace.specs.Changes.{change}
use Rattle.mr_keyspace.specs.declared.value.Value.{Value}
use Rattle.mr_keyspace.specs.declared.value.Value.TheVariants as value
use Rattle.mr_keyspace.specs.declared.value.Entry.{Entry}
use Rattle.mr_keyspace.proofs.Nonempty.{without_scores_none, no_elements}
use Rattle.mr_keyspace.specs.Cuts.{cut}
use Rattle.mr_cmd_shared.specs.Taken.{is_key, has}
use Rattle.mr_cmd_shared.specs.Collections.{Change, changing}
use Rattle.mr_cmd_shared.specs.Commands.{on_key, before}
use Rattle.mr_keyspace.proofs.Cutting.{IsGroup, cut_groups, cut_whole, no_cut}
use Rattle.mr_data.proofs.Entries.{all_map}
use Rattle.mr_data.proofs.Folds.{setting_scores, is_kept, set_scores_is_step, some_of}
use Rattle.mr_data.proofs.Running.{IsStep, steps_of, IsFold, groups_run}
use Rattle.mr_data.proofs.KindLaws.{sorted_sets_are, sorted_sets_kept}
use Rattle.mr_keyspace.proofs.Maps.{same_key}
use Rattle.mr_cmd_shared.proofs.KeyLists.{purged_kept}
use Rattle.mr_cmd_shared.proofs.Laws.{faithful, at_key_faithful, IsLawful}
use Rattle.mr_cmd_shared.proofs.Changing.{IsFaithfulChange, changing_faithful}
use Rattle.mr_cmd_shared.proofs.GroupLemmas.{no_map}
use Rattle.mr_cmd_zset.specs.Scores.{Scores, changed, lost, unchanged, set_to, reduced_to}
use Rattle.mr_cmd_zset.proofs.Maps.{get_without}
use Rattle.mr_cmd_zset.proofs.Differences.{with_changed, none_changed, changed_all, without_lost, none_lost, lost_all}
use Rattle.mr_effect.proofs.Texts.{short_effect}

-- ---- items in groups, each of which goes into one effect
module _ {A : Type 0} (k : Bytes) (make : List A → Effect) (f : List A → Scores → Scores) (fold : IsFold sorted_sets f) (p : A → Bool) (step : (g : List A) → IsGroup p g → IsStep k (make g) (on sorted_sets (λ x. Some (f g x)))) where
  cut_faithful : (reply : Tree) (value s : Scores) (o : Option Entry) (items : List A) → IsTrue (list_all p items) → held sorted_sets o ≡ Some s → f items s ≡ value → (value ≡ s → items ≡ []) → IsFaithfulChange sorted_sets (record { reply = reply; value = value; effects = map make (cut items) }) s k o
  cut_faithful reply value s o items fit is value_is some = record {
    steps = map (λ g. on sorted_sets (λ x. Some (f g x))) (cut items);
    are = steps_of k make (λ g. on sorted_sets (λ x. Some (f g x))) (cut items) (all_map (IsGroup p) (λ g. IsStep k (make g) (on sorted_sets (λ x. Some (f g x)))) step (cut items) (cut_groups p items fit));
    runs = λ n. groups_run sorted_sets sorted_sets_are f fold o s (cut items) is (λ e. n (ap (map make) e)) (all_map (IsGroup p) (λ g. g ≢ []) (λ g i. i.some) (cut items) (cut_groups p items fit))
        ∙ ap (λ (x : Scores). Some (entry_of sorted_sets (deadline_of o) x)) (ap (λ ys. f ys s) (cut_whole items) ∙ value_is);
    none = λ e. sym value_is ∙ ap (λ ys. f ys s) (no_cut items (no_map make (cut items) e)) ∙ fold.nothing s;
    some = λ e. ap (λ ys. map make (cut ys)) (some e);
  }

without_append : (xs ys : List Bytes) (s : Scores) → without_scores (xs ++ ys) s ≡ without_scores ys (without_scores xs s)
without_append [] ys s = refl
without_append (x ∷ xs) ys s = without_append xs ys _

removing : IsFold sorted_sets without_scores
removing = record {
  nothing = λ s. refl;
  more = without_append;
  deleted = λ xs s some none ys. ap (λ (m : Scores). len m == 0) (without_scores_none ys) ∙ no_elements ℤ;
}

remove_step : (k : Bytes) → fits k ≡ true → (g : List Bytes) → IsGroup fits g → IsStep k (effect.RemoveScores k g) (on sorted_sets (λ x. Some (without_scores g x)))
unfolding change
remove_step k fit g i = record {
  possible = and_from (is_some_of g) _ (some_of g i.some) (and_from (fits k) _ fit i.all);
  short = short_effect (effect.RemoveScores k g) (omega (arith, i.few));
  is = λ m. refl;
}

-- ---- what a set has is within the limits
abbrev pub AreKept : Scores → Type 0
AreKept s = (q : Bytes) (z : ℤ) → get s q ≡ Some z → is_kept (q, z) ≡ true

-- no member of the one is lost in the other
abbrev pub IsGrown : Scores → Scores → Type 0
IsGrown s t = (q : Bytes) → is_some (get s q) ≡ true → is_some (get t q) ≡ true

pub set_faithful : (k : Bytes) (reply : Tree) (s t : Scores) (o : Option Entry) → fits k ≡ true → AreKept t → IsGrown s t → held sorted_sets o ≡ Some s → IsFaithfulChange sorted_sets (set_to k reply s t) s k o
set_faithful k reply s t o fit kept grown is = cut_faithful k (effect.SetScores k) with_scores setting_scores is_kept (set_scores_is_step k fit) reply t s o (changed s t) (changed_all is_kept s t kept) is (with_changed s t grown) (none_changed s t)

pub reduced_faithful : (k : Bytes) (reply : Tree) (xs : List Bytes) (s : Scores) (o : Option Entry) → fits k ≡ true → AreKept s → held sorted_sets o ≡ Some s → IsFaithfulChange sorted_sets (reduced_to k reply s (without_scores xs s)) s k o
reduced_faithful k reply xs s o fit kept is =
    let t = without_scores xs s in
    cut_faithful k (effect.RemoveScores k) without_scores removing fits (remove_step k fit) reply t s o (lost s t) (lost_all fits s t (λ q z h. first (fits q) _ (kept q z h))) is
    (without_lost s t (λ q there. get_without xs s q ∙ stays (has xs q) (get s q) (ap is_some (sym (get_without xs s q)) ∙ there)))
    (none_lost s t)
  where
    stays : (b : Bool) (a : Option ℤ) → is_some (cond b None a) ≡ true → cond b None a ≡ a
    stays true a h = cc
    stays false a h = refl

pub unchanged_faithful : (reply : Tree) (s : Scores) (k : Bytes) (o : Option Entry) → IsFaithfulChange sorted_sets (unchanged reply s) s k o
unchanged_faithful reply s k o = record {
  steps = [];
  are = tt;
  runs = λ n. absurd (n refl);
  none = λ e. refl;
  some = λ e. refl;
}

-- ---- what a dataset keeps, it keeps without expired keys
value_kept : (v : Value) (s : Scores) → IsValue v → sorted_set_of v ≡ Some s → AreKept s
value_kept (value.SortedSet t) s i h q z g =
    let same : t ≡ s = cc in
    let kept = i.fit q z (ap (λ (u : Scores). get u q) same ∙ g) in
    and_from (fits q) _ kept.0 kept.1
value_kept (value.Text t) s i h q z g = cc
value_kept (value.Hash t) s i h q z g = cc
value_kept (value.List t) s i h q z g = cc
value_kept (value.Set t) s i h q z g = cc

held_kept : (m : Dataset) (k : Bytes) (o : Option Entry) (s : Scores) → IsDataset m → get m k ≡ o → held sorted_sets o ≡ Some s → AreKept s
held_kept m k None s i e h q z g = let same : empty ≡ s = cc in let wrong : None ≡ Some z = sym (get-empty bytes_cmp q) ∙ ap (λ (u : Scores). get u q) same ∙ g in cc
held_kept m k (Some e) s i is h q z g = value_kept e.value s (i.entries k e is).value h q z g

-- ---- commands that change one set
module _ (k : Bytes) (change : Scores → Change Scores) (now : ℤ) (m : Dataset) (kept : IsDataset m) where
  pub changing_set : IsTrue (fits k) → ((s : Scores) (o : Option Entry) → AreKept s → held sorted_sets o ≡ Some s → IsFaithfulChange sorted_sets (change s) s k o) → IsLawful (on_key k (changing sorted_sets change)) now m
  changing_set h f =
      let c = on_key k (changing sorted_sets change) in
      let n = before c now m in
      let n_kept = purged_kept now (k ∷ []) m kept in
      faithful c now m (and_from (fits k) true h refl) (at_key_faithful k (changing sorted_sets change) n (changing_faithful sorted_sets sorted_sets_are change k n (sorted_sets_kept n k n_kept) (λ s is. f s (get n k) (held_kept n k (get n k) s n_kept refl is) is)))

-- ---- sets with one score more
pub insert_kept : (s : Scores) (x : Bytes) (z : ℤ) → AreKept s → is_kept (x, z) ≡ true → AreKept (insert s x z)
insert_kept s x z kept new q y g = elim (is_key q x) as (λ b. is_key q x ≡ b → cond b (Some z) (get s q) ≡ Some y → is_kept (q, y) ≡ true) [
  | true ↦ λ t e. let same : z ≡ y = cc in ap (λ (n : Bytes). is_kept (n, y)) (same_key q x t) ∙ ap (λ (v : ℤ). is_kept (x, v)) (sym same) ∙ new
  | false ↦ λ t e. kept q y e
] refl (sym (get-insert nat_list_cmp_total s x z q) ∙ g)

pub insert_grown : (s : Scores) (x : Bytes) (z : ℤ) → IsGrown s (insert s x z)
insert_grown s x z q h = ap is_some (get-insert nat_list_cmp_total s x z q) ∙ elim (is_key q x) as (λ b. is_some (cond b (Some z) (get s q)) ≡ true) [ true ↦ refl | false ↦ h ]
