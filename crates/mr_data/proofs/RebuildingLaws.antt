-- The effects that make a dataset again do so.
use Rattle.std.proofs.Common.{ℕ, ℤ, ◌≡◌, ◌<◌, List, [], ◌∷◌, ◌++◌, map, length, Bool, true, false, IsTrue, Option, Some, None, refl, sym, ◌∙◌, ap, subst, cond, append_assoc, append-nil, arith}
use Rattle.std.specs.Prelude.{◌≢◌, if◌then◌else◌, is_some}
use Rattle.std.specs.List.{All, AllByRecursion, flat_map, list_all}
use Rattle.std.specs.Option.{option_map, option_and_then}
use Rattle.std.specs.Ordering.{eq_by_cmp}
use Rattle.std.specs.FinMap.{get, empty, insert, entries, keys, len, len-entries, get-empty, get-insert}
use Rattle.std.proofs.lemmas.Bool.{and_from}
use Rattle.std.proofs.lemmas.Cmp.{nat_list_cmp_total}
use Rattle.std.proofs.lemmas.List.Elements.{recursion_from_All, All-from_recursion}
use Rattle.mr_map.specs.Bytes.{Bytes, bytes_cmp}
use Rattle.mr_bytes.specs.Words.{fits}
use Rattle.mr_bytes.specs.declared.ends.End.TheVariants.{Right}
use Rattle.mr_bytes.proofs.Both.{first, second}
use Rattle.mr_effect.specs.Effects.{pair_fits, has_spelling, words_fit}
use Rattle.mr_effect.specs.Spelling.{IsShort}
use Rattle.mr_effect.specs.declared.effect.Effect.{Effect}
use Rattle.mr_effect.specs.declared.effect.Effect.TheVariants as effect
use Rattle.mr_effect.proofs.Texts.{short_effect}
use Rattle.mr_keyspace.specs.Cuts.{cut}
use Rattle.mr_keyspace.specs.Dataset.{Dataset, put_at}
use Rattle.mr_keyspace.specs.Collections.{with_fields, with_members, with_scores, pushed}
use Rattle.mr_keyspace.specs.Steps.{Step, Kind, hashes, lists, sets, sorted_sets, on, entry_of, without_deadline, set_step, expire_step}
use Rattle.mr_keyspace.specs.Changes.{change}
use Rattle.mr_keyspace.specs.declared.value.Value.{Value}
use Rattle.mr_keyspace.specs.declared.value.Value.TheVariants as value
use Rattle.mr_keyspace.specs.declared.value.Entry.{Entry}
use Rattle.mr_keyspace.proofs.Cutting.{IsGroup, cut_whole, no_cut, cut_groups}
use Rattle.mr_keyspace.proofs.Nonempty.{positive}
use Rattle.mr_data.specs.Dataset.{IsWord, IsDataset, IsEntry, IsValue, IsLifetime}
use Rattle.mr_data.specs.Meaning.{apply_all}
use Rattle.mr_data.specs.Rebuilding.{rebuilt_value, rebuilt_deadline, rebuilt, rebuilding}
use Rattle.mr_data.proofs.Entries.{AreApart, entries_apart, own_entries, all_map, all_true, put_all, put_entries, fields_put, members_put, scores_put}
use Rattle.mr_data.proofs.Folding.{apply_all-append}
use Rattle.mr_data.proofs.Folds.{setting_fields, set_fields_is_step, pushing, push_is_step, adding_members, add_members_is_step, setting_scores, is_kept, set_scores_is_step}
use Rattle.mr_data.proofs.KindLaws.{hashes_are, lists_are, sets_are, sorted_sets_are}
use Rattle.mr_data.proofs.Running.{run, IsStep, AreSteps, run_leads, steps_of, IsKind, IsFold, groups_run}

-- ---- effects that make of the one entry at a key the other
pub record Makes (k : Bytes) (es : List Effect) (before after : Option Entry) : Type 0 where
  pub steps : List Step
  pub are : AreSteps k es steps
  pub runs : run steps before ≡ Some after

steps-append : (k : Bytes) (es fs : List Effect) (ss ts : List Step) → AreSteps k es ss → AreSteps k fs ts → AreSteps k (es ++ fs) (ss ++ ts)
steps-append k [] fs [] ts a b = b
steps-append k (e ∷ es) fs (s ∷ ss) ts a b = (a.0, steps-append k es fs ss ts a.1 b)
steps-append k [] fs (s ∷ ss) ts a b = absurd a
steps-append k (e ∷ es) fs [] ts a b = absurd a

run-append : (ss ts : List Step) (before : Option Entry) → run (ss ++ ts) before ≡ option_and_then (run ts) (run ss before)
run-append [] ts before = refl
run-append (s ∷ ss) ts before = elim (s before) as (λ o. option_and_then (run (ss ++ ts)) o ≡ option_and_then (run ts) (option_and_then (run ss) o)) [
  | None ↦ refl
  | Some o ↦ run-append ss ts o
]

one_after_another : (k : Bytes) (es fs : List Effect) (a b c : Option Entry) → Makes k es a b → Makes k fs b c → Makes k (es ++ fs) a c
one_after_another k es fs a b c one other = record {
  steps = one.steps ++ other.steps;
  are = steps-append k es fs one.steps other.steps one.are other.are;
  runs = run-append one.steps other.steps a ∙ ap (option_and_then (run other.steps)) one.runs ∙ other.runs;
}

-- ---- the groups of a collection make it, where nothing was
module _ {A X : Type 0} (kind : Kind X) (laws : IsKind kind) (k : Bytes) (make : List A → Effect) (f : List A → X → X) (fold : IsFold kind f) (p : A → Bool) (step : (g : List A) → IsGroup p g → IsStep k (make g) (on kind (λ x. Some (f g x)))) where
  groups_make : (items : List A) (x : X) → IsTrue (list_all p items) → items ≢ [] → f items kind.none ≡ x → kind.is_none x ≡ false → Makes k (map make (cut items)) None (Some (without_deadline (kind.value x)))
  groups_make items x fit some makes is =
      let groups = cut_groups p items fit in
      record {
        steps = map (λ g. on kind (λ y. Some (f g y))) (cut items);
        are = steps_of k make (λ g. on kind (λ y. Some (f g y))) (cut items) (all_map (IsGroup p) (λ g. IsStep k (make g) (on kind (λ y. Some (f g y)))) step (cut items) groups);
        runs = groups_run kind laws f fold None kind.none (cut items) refl (λ e. some (no_cut items e)) (all_map (IsGroup p) (λ g. g ≢ []) (λ g i. i.some) (cut items) groups)
            ∙ ap (λ ys. Some (entry_of kind None (f ys kind.none))) (cut_whole items)
            ∙ ap (λ y. Some (entry_of kind None y)) makes
            ∙ ap (λ b. let none : Option Entry = None in Some (if b then none else Some (without_deadline (kind.value x)))) is;
      }

-- ---- what a dataset keeps of a collection, item by item

some_items : {X : Type 0} (xs : List X) (n : ℕ) → n ≡ length xs → 0 < n → xs ≢ []
some_items xs n is some none = omega (arith, is, some, ap length none)

some_names : {X : Type 0} (es : List (Bytes × X)) → es ≢ [] → map (λ e. e.0) es ≢ []
some_names [] some none = some refl
some_names (e ∷ es) some none = cc

all_names : {X : Type 0} (es : List (Bytes × X)) → AllByRecursion (λ e. fits e.0 ≡ true) es → list_all fits (map (λ e. e.0) es) ≡ true
all_names [] h = refl
all_names (e ∷ es) h = and_from (fits e.0) _ h.0 (all_names es h.1)

pushed_behind : (xs ys : List Bytes) → pushed Right ys xs ≡ xs ++ ys
pushed_behind xs [] = sym (append-nil xs)
pushed_behind xs (y ∷ ys) = pushed_behind (xs ++ y ∷ []) ys ∙ append_assoc xs (y ∷ []) ys

-- ---- each kind of value
value_made : (k : Bytes) (v : Value) → IsWord k → IsValue v → Makes k (rebuilt_value k v) None (Some (without_deadline v))
unfolding change
value_made k (value.Text text) named fit = record {
  steps = set_step text ∷ [];
  are = (record { possible = and_from (fits k) (fits text) named fit; short = short_effect (effect.Set k text) (omega arith); is = λ m. refl }, tt);
  runs = refl;
}
value_made k (value.Hash fields) named fit =
    groups_make hashes hashes_are k (effect.SetFields k) with_fields setting_fields pair_fits (set_fields_is_step k named) (entries fields) fields
    (all_true pair_fits (entries fields) (all_map _ _ (λ x is. and_from (fits x.0) (fits x.1) (fit.fit x.0 x.1 is).0 (fit.fit x.0 x.1 is).1) (entries fields) (own_entries fields)))
    (some_items (entries fields) (len fields) (len-entries fields) fit.some) (fields_put (entries fields) empty ∙ put_entries fields) (positive (len fields) fit.some)
value_made k (value.List items) named fit =
    groups_make lists lists_are k (effect.Push k Right) (pushed Right) (pushing Right) fits (push_is_step k Right named) items items
    (all_true fits items (recursion_from_All IsWord items fit.fit))
    (some_items items (length items) refl fit.some) (pushed_behind [] items) (positive (length items) fit.some)
value_made k (value.Set members) named fit =
    groups_make sets sets_are k (effect.AddMembers k) with_members adding_members fits (add_members_is_step k named) (keys members) members
    (all_names (entries members) (all_map _ _ (λ x is. fit.fit x.0 (ap is_some is)) (entries members) (own_entries members)))
    (some_names (entries members) (some_items (entries members) (len members) (len-entries members) fit.some)) (members_put (entries members) empty ∙ put_entries members) (positive (len members) fit.some)
value_made k (value.SortedSet scores) named fit =
    groups_make sorted_sets sorted_sets_are k (effect.SetScores k) with_scores setting_scores is_kept (set_scores_is_step k named) (entries scores) scores
    (all_true is_kept (entries scores) (all_map _ _ (λ x is. and_from (fits x.0) _ (fit.fit x.0 x.1 is).0 (fit.fit x.0 x.1 is).1) (entries scores) (own_entries scores)))
    (some_items (entries scores) (len scores) (len-entries scores) fit.some) (scores_put (entries scores) empty ∙ put_entries scores) (positive (len scores) fit.some)

deadline_made : (k : Bytes) (v : Value) (d : Option ℤ) → IsWord k → IsLifetime d → Makes k (rebuilt_deadline k d) (Some (without_deadline v)) (Some (record { value = v; deadline = d }))
unfolding change
deadline_made k v None named is = record { steps = []; are = tt; runs = refl }
deadline_made k v (Some d) named is = record {
  steps = expire_step d ∷ [];
  are = (record { possible = and_from _ (fits k) is named; short = short_effect (effect.Expire k d) (omega arith); is = λ m. refl }, tt);
  runs = refl;
}

entry_made : (k : Bytes) (e : Entry) → IsEntry k e → Makes k (rebuilt k (Some e)) None (Some e)
entry_made k e is = one_after_another k (rebuilt_value k e.value) (rebuilt_deadline k e.deadline) None (Some (without_deadline e.value)) (Some e) (value_made k e.value is.key is.value) (deadline_made k e.value e.deadline is.key is.deadline)

-- ---- one key after another
key_made : (k : Bytes) (e : Entry) (acc : Dataset) → IsEntry k e → get acc k ≡ None → apply_all (rebuilt k (Some e)) acc ≡ Some (insert acc k e)
key_made k e acc is absent =
    let made = entry_made k e is in
    run_leads k (rebuilt k (Some e)) made.steps acc made.are ∙ ap (λ o. option_map (put_at acc k) (run made.steps o)) absent ∙ ap (option_map (put_at acc k)) made.runs

still_absent : (e : Bytes × Entry) (acc : Dataset) (es : List (Bytes × Entry)) → AllByRecursion (λ (x : Bytes × Entry). eq_by_cmp bytes_cmp x.0 e.0 ≡ false) es → AllByRecursion (λ (x : Bytes × Entry). get acc x.0 ≡ None) es → AllByRecursion (λ (x : Bytes × Entry). get (insert acc e.0 e.1) x.0 ≡ None) es
still_absent e acc [] apart absent = tt
still_absent e acc (x ∷ xs) apart absent = (get-insert nat_list_cmp_total acc e.0 e.1 x.0 ∙ ap (λ b. cond b (Some e.1) (get acc x.0)) apart.0 ∙ absent.0, still_absent e acc xs apart.1 absent.1)

keys_made : (m : Dataset) (es : List (Bytes × Entry)) (acc : Dataset) → AreApart es → AllByRecursion (λ (x : Bytes × Entry). get m x.0 ≡ Some x.1) es → AllByRecursion (λ (x : Bytes × Entry). IsEntry x.0 x.1) es → AllByRecursion (λ (x : Bytes × Entry). get acc x.0 ≡ None) es
    → apply_all (flat_map (λ k. rebuilt k (get m k)) (map (λ x. x.0) es)) acc ≡ Some (put_all es acc)
keys_made m [] acc apart own are absent = refl
keys_made m (e ∷ es) acc apart own are absent =
    let rest = flat_map (λ k. rebuilt k (get m k)) (map (λ x. x.0) es) in
    apply_all-append (rebuilt e.0 (get m e.0)) rest acc
    ∙ ap (option_and_then (apply_all rest)) (ap (λ o. apply_all (rebuilt e.0 o) acc) own.0 ∙ key_made e.0 e.1 acc are.0 absent.0)
    ∙ keys_made m es (insert acc e.0 e.1) apart.1 own.1 are.1 (still_absent e acc es apart.0 absent.1)

none_there : (es : List (Bytes × Entry)) → AllByRecursion (λ (x : Bytes × Entry). get {X = Entry} (empty {R = bytes_cmp}) x.0 ≡ None) es
none_there [] = tt
none_there (e ∷ es) = (get-empty bytes_cmp e.0, none_there es)

entries_are : (m : Dataset) → IsDataset m → AllByRecursion (λ (x : Bytes × Entry). IsEntry x.0 x.1) (entries m)
entries_are m is = all_map _ _ (λ x h. is.entries x.0 x.1 h) (entries m) (own_entries m)

pub dataset_made : (m : Dataset) → IsDataset m → apply_all (rebuilding m) empty ≡ Some m
dataset_made m is = keys_made m (entries m) empty (entries_apart m) (own_entries m) (entries_are m is) (none_there (entries m)) ∙ ap Some (put_entries m)

-- where there is no key, each entry is as it should be
no_entries : (es : List (Bytes × Entry)) → map (λ x. x.0) es ≡ [] → es ≡ []
no_entries [] none = refl
no_entries (e ∷ es) none = cc

pub kept_by_none : (m : Dataset) → keys m ≡ [] → IsDataset m
kept_by_none m none =
    let same : empty ≡ m = sym (ap (λ es. put_all es empty) (no_entries (entries m) none)) ∙ put_entries m in
    record { entries = λ k e here. (let lie : None ≡ Some e = sym (get-empty bytes_cmp k) ∙ ap (λ (d : Dataset). get d k) same ∙ here in cc) }

-- ---- each effect is possible and short
pub record IsPossible (e : Effect) : Type 0 where
  pub spelled : IsTrue (has_spelling e)
  pub fit : IsTrue (words_fit e)
  pub short : IsShort e

steps_possible : (k : Bytes) (es : List Effect) (ss : List Step) → AreSteps k es ss → AllByRecursion IsPossible es
steps_possible k [] [] h = tt
steps_possible k (e ∷ es) (s ∷ ss) h = (record { spelled = first (has_spelling e) (words_fit e) h.0.possible; fit = second (has_spelling e) (words_fit e) h.0.possible; short = h.0.short }, steps_possible k es ss h.1)
steps_possible k [] (s ∷ ss) h = absurd h
steps_possible k (e ∷ es) [] h = absurd h

possible-append : (es fs : List Effect) → AllByRecursion IsPossible es → AllByRecursion IsPossible fs → AllByRecursion IsPossible (es ++ fs)
possible-append [] fs a b = b
possible-append (e ∷ es) fs a b = (a.0, possible-append es fs a.1 b)

keys_possible : (m : Dataset) (es : List (Bytes × Entry)) → AllByRecursion (λ (x : Bytes × Entry). get m x.0 ≡ Some x.1) es → AllByRecursion (λ (x : Bytes × Entry). IsEntry x.0 x.1) es → AllByRecursion IsPossible (flat_map (λ k. rebuilt k (get m k)) (map (λ x. x.0) es))
keys_possible m [] own are = tt
keys_possible m (e ∷ es) own are =
    let made = entry_made e.0 e.1 are.0 in
    possible-append (rebuilt e.0 (get m e.0)) _ (subst (λ (o : Option Entry). AllByRecursion IsPossible (rebuilt e.0 o)) (sym own.0) (steps_possible e.0 (rebuilt e.0 (Some e.1)) made.steps made.are)) (keys_possible m es own.1 are.1)

rebuilding_possible : (m : Dataset) → IsDataset m → AllByRecursion IsPossible (rebuilding m)
rebuilding_possible m is = keys_possible m (entries m) (own_entries m) (entries_are m is)

pub rebuilding_spelled : (m : Dataset) → IsDataset m → All (λ e. IsTrue (has_spelling e)) (rebuilding m)
rebuilding_spelled m is = All-from_recursion (λ e. IsTrue (has_spelling e)) (rebuilding m) (all_map IsPossible (λ e. IsTrue (has_spelling e)) (λ e h. h.spelled) (rebuilding m) (rebuilding_possible m is))

pub rebuilding_fits : (m : Dataset) → IsDataset m → All (λ e. IsTrue (words_fit e)) (rebuilding m)
rebuilding_fits m is = All-from_recursion (λ e. IsTrue (words_fit e)) (rebuilding m) (all_map IsPossible (λ e. IsTrue (words_fit e)) (λ e h. h.fit) (rebuilding m) (rebuilding_possible m is))

pub rebuilding_short : (m : Dataset) → IsDataset m → All IsShort (rebuilding m)
rebuilding_short m is = All-from_recursion IsShort (rebuilding m) (all_map IsPossible IsShort (λ e h. h.short) (rebuilding m) (rebuilding_possible m is))
