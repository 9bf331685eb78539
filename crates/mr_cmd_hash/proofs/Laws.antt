-- The law of faithful effects for the commands on hashes.
use Rattle.std.proofs.Common.{suc, ℤ, ◌≡◌, ◌<◌, ◌^◌, List, [], ◌∷◌, ◌++◌, map, length, Bool, true, false, ◌&&◌, cond, Option, Some, None, IsTrue, refl, sym, ◌∙◌, ap, subst, arith}
use Rattle.std.specs.Prelude.{◌≢◌, ◌==◌, pos, negsuc, ◌+ℤ◌, filter, if◌then◌else◌}
use Rattle.std.specs.List.{AllByRecursion, list_all}
use Rattle.std.specs.FinMap.{empty, get, len, entries, contains_key}
use Rattle.std.specs.Fmt.{signed_decimal}
use Rattle.std.proofs.lemmas.Bool.{ltb-true, le-leb, and_from}
use Rattle.mr_map.specs.Bytes.{Bytes}
use Rattle.mr_bytes.specs.Words.{fits}
use Rattle.mr_bytes.specs.Number.{is_i64}
use Rattle.mr_bytes.proofs.Numbers.{bounds}
use Rattle.mr_bytes.proofs.Both.{first, second}
use Rattle.mr_resp.specs.Replies as reply
use Rattle.mr_resp.specs.Replies.{Tree}
use Rattle.mr_effect.specs.Effects.{pair_fits, is_some_of}
use Rattle.mr_effect.specs.declared.effect.Effect.{Effect}
use Rattle.mr_effect.specs.declared.effect.Effect.TheVariants as effect
use Rattle.mr_keyspace.specs.Dataset.{Dataset}
use Rattle.mr_data.specs.Dataset.{IsDataset, live, is_expired}
use Rattle.mr_keyspace.specs.Collections.{with_fields, without_fields}
use Rattle.mr_keyspace.specs.Steps.{hashes, held, entry_of, deadline_of, on}
use Rattle.mr_keyspace.specs.Changes.{change as made}
use Rattle.mr_keyspace.specs.declared.value.Entry.{Entry}
use Rattle.mr_data.proofs.Fitting.{no_fields, with_fields_fit}
use Rattle.mr_keyspace.proofs.Nonempty.{without_fields_none, no_elements}
use Rattle.mr_arguments.specs.Pairing.{unpaired}
use Rattle.mr_cmd_hash.specs.Carried.{hash_words}
use Rattle.mr_cmd_hash.specs.declared.hash_ask.HashAsk.{HashAsk}
use Rattle.mr_cmd_hash.specs.declared.hash_ask.HashAsk.TheVariants as ask
use Rattle.mr_keyspace.specs.Cuts.{cut}
use Rattle.mr_cmd_shared.specs.Keys.{purged}
use Rattle.mr_keyspace.proofs.Cutting.{cut_whole, no_cut, IsGroup, cut_groups}
use Rattle.mr_data.proofs.Folds.{setting_fields, set_fields_is_step, some_of}
use Rattle.mr_data.proofs.Running.{IsStep, steps_of, IsKept, IsFold, groups_run}
use Rattle.mr_data.proofs.KindLaws.{hashes_are, hashes_kept}
use Rattle.mr_data.proofs.Entries.{all_map, own_entries}
use Rattle.mr_cmd_shared.proofs.Laws.{faithful, at_key_faithful, IsLawful}
use Rattle.mr_cmd_shared.proofs.Changing.{IsFaithfulChange, changing_faithful}
use Rattle.mr_cmd_shared.proofs.PlanLemmas.{purged_at}
use Rattle.mr_cmd_shared.specs.Answered.{overflow}
use Rattle.mr_cmd_shared.proofs.GroupLemmas.{no_map}
use Rattle.mr_cmd_hash.specs.Hashes.{Hash, unchanged, last_values, changed, set_pairs, count_reply, hsetnx, number_at, no_integer, set_number, increase_from, hincrby, removed, hdel, fields_reply, count_new}
use Rattle.mr_cmd_hash.specs.Commands.{key_of, change, answer_of, command}
use Rattle.mr_cmd_hash.proofs.Fields.{with_changed, none_changed}
use Rattle.mr_cmd_hash.proofs.Removed.{without_removed, none_removed, removed_fit}
use Rattle.mr_effect.proofs.Texts.{short_effect}

-- ---- items in groups, each of which goes into one effect
module _ {A : Type 0} (k : Bytes) (make : List A → Effect) (f : List A → Hash → Hash) (fold : IsFold hashes f) (p : A → Bool) (step : (g : List A) → IsGroup p g → IsStep k (make g) (on hashes (λ x. Some (f g x)))) where
  cut_faithful : (reply : Tree) (value h : Hash) (o : Option Entry) (items : List A) → IsTrue (list_all p items) → held hashes o ≡ Some h → value ≡ f items h → (value ≡ h → items ≡ []) → IsFaithfulChange hashes (record { reply = reply; value = value; effects = map make (cut items) }) h k o
  cut_faithful reply value h o items fit is value_is some = record {
    steps = map (λ g. on hashes (λ x. Some (f g x))) (cut items);
    are = steps_of k make (λ g. on hashes (λ x. Some (f g x))) (cut items) (all_map (IsGroup p) (λ g. IsStep k (make g) (on hashes (λ x. Some (f g x)))) step (cut items) (cut_groups p items fit));
    runs = λ n. groups_run hashes hashes_are f fold o h (cut items) is (λ e. n (ap (map make) e)) (all_map (IsGroup p) (λ g. g ≢ []) (λ g i. i.some) (cut items) (cut_groups p items fit))
        ∙ ap (λ (x : Hash). Some (entry_of hashes (deadline_of o) x)) (ap (λ ys. f ys h) (cut_whole items) ∙ sym value_is);
    none = λ e. value_is ∙ ap (λ ys. f ys h) (no_cut items (no_map make (cut items) e)) ∙ fold.nothing h;
    some = λ e. ap (λ ys. map make (cut ys)) (some e);
  }

without_append : (fs gs : List Bytes) (h : Hash) → without_fields (fs ++ gs) h ≡ without_fields gs (without_fields fs h)
without_append [] gs h = refl
without_append (f ∷ fs) gs h = without_append fs gs _

removing : IsFold hashes without_fields
removing = record {
  nothing = λ h. refl;
  more = without_append;
  deleted = λ fs h some none gs. ap (λ (m : Hash). len m == 0) (without_fields_none gs) ∙ no_elements Bytes;
}

remove_step : (k : Bytes) → fits k ≡ true → (g : List Bytes) → IsGroup fits g → IsStep k (effect.RemoveFields k g) (on hashes (λ x. Some (without_fields g x)))
unfolding made
remove_step k fit g i = record {
  possible = and_from (is_some_of g) _ (some_of g i.some) (and_from (fits k) _ fit i.all);
  short = short_effect (effect.RemoveFields k g) (omega (arith, i.few));
  is = λ m. refl;
}

-- ---- words within the limit
all_pairs : (es : List (Bytes × Bytes)) → AllByRecursion (λ (x : Bytes × Bytes). IsTrue (fits x.0) × IsTrue (fits x.1)) es → list_all pair_fits es ≡ true
all_pairs [] h = refl
all_pairs (e ∷ es) h = and_from (pair_fits e) _ (and_from (fits e.0) (fits e.1) h.0.0 h.0.1) (all_pairs es h.1)

all_filter : {X : Type 0} (p q : X → Bool) (xs : List X) → list_all p xs ≡ true → list_all p (filter q xs) ≡ true
all_filter p q [] h = refl
all_filter p q (x ∷ xs) h = elim (q x) as (λ b. list_all p (cond b (x ∷ filter q xs) (filter q xs)) ≡ true) [
  | true ↦ and_from (p x) _ (first (p x) _ h) (all_filter p q xs (second (p x) _ h))
  | false ↦ all_filter p q xs (second (p x) _ h)
]

changed_fit : (ps : List (Bytes × Bytes)) (h : Hash) → list_all pair_fits ps ≡ true → list_all pair_fits (changed ps h) ≡ true
changed_fit ps h fit = all_filter pair_fits _ (entries (last_values ps)) (all_pairs (entries (last_values ps)) (all_map _ _ (λ x is. with_fields_fit ps empty fit no_fields x.0 x.1 is) (entries (last_values ps)) (own_entries (last_values ps))))

pairs_fit : (ps : List (Bytes × Bytes)) → list_all fits (unpaired ps) ≡ true → list_all pair_fits ps ≡ true
pairs_fit [] h = refl
pairs_fit (p ∷ ps) h = and_from (pair_fits p) _ (and_from (fits p.0) (fits p.1) (first (fits p.0) _ h) (first (fits p.1) _ (second (fits p.0) _ h))) (pairs_fit ps (second (fits p.1) _ (second (fits p.0) _ h)))

number_fits : (n : ℤ) → is_i64 n ≡ true → fits (signed_decimal n) ≡ true
number_fits (pos n) h = let small : n < 2 ^ 63 = ltb-true _ _ h in le-leb _ _ (omega (arith, (bounds n (omega arith)).1))
number_fits (negsuc n) h = let small : n < 2 ^ 63 = ltb-true _ _ h in le-leb _ _ (omega (arith, (bounds (suc n) (omega arith)).1))

-- ---- each command
unchanged_faithful : (reply : Tree) (h : Hash) (k : Bytes) (o : Option Entry) → IsFaithfulChange hashes (unchanged reply h) h k o
unchanged_faithful reply h k o = record {
  steps = [];
  are = tt;
  runs = λ n. absurd (n refl);
  none = λ e. refl;
  some = λ e. refl;
}

set_faithful : (k : Bytes) (reply : Tree) (ps : List (Bytes × Bytes)) (h : Hash) (o : Option Entry) → fits k ≡ true → list_all pair_fits ps ≡ true → held hashes o ≡ Some h → IsFaithfulChange hashes (set_pairs k reply ps h) h k o
set_faithful k reply ps h o fit all is = cut_faithful k (effect.SetFields k) with_fields setting_fields pair_fits (set_fields_is_step k fit) reply (with_fields ps h) h o (changed ps h) (changed_fit ps h all) is (with_changed ps h) (none_changed ps h)

one_pair : (f v : Bytes) → fits f ≡ true → fits v ≡ true → list_all pair_fits ((f, v) ∷ []) ≡ true
one_pair f v a b = and_from (fits f && fits v) true (and_from (fits f) (fits v) a b) refl

new_faithful : (k f v : Bytes) (h : Hash) (o : Option Entry) → fits k ≡ true → fits f ≡ true → fits v ≡ true → held hashes o ≡ Some h → IsFaithfulChange hashes (hsetnx k f v h) h k o
new_faithful k f v h o a b c is = elim (contains_key h f) as (λ t. IsFaithfulChange hashes (if t then unchanged (count_reply 0) h else set_pairs k (count_reply 1) ((f, v) ∷ []) h) h k o) [
  | true ↦ unchanged_faithful (count_reply 0) h k o
  | false ↦ set_faithful k (count_reply 1) ((f, v) ∷ []) h o a (one_pair f v b c) is
]

number_faithful : (k f : Bytes) (n : ℤ) (h : Hash) (o : Option Entry) → fits k ≡ true → fits f ≡ true → held hashes o ≡ Some h → IsFaithfulChange hashes (set_number k f n h) h k o
number_faithful k f n h o a b is = elim (is_i64 n) as (λ t. is_i64 n ≡ t → IsFaithfulChange hashes (if t then set_pairs k (reply.int n) ((f, signed_decimal n) ∷ []) h else unchanged overflow h) h k o) [
  | true ↦ λ t. set_faithful k (reply.int n) ((f, signed_decimal n) ∷ []) h o a (one_pair f (signed_decimal n) b (number_fits n t)) is
  | false ↦ λ t. unchanged_faithful overflow h k o
] refl

increase_faithful : (k f : Bytes) (by : ℤ) (h : Hash) (o : Option Entry) → fits k ≡ true → fits f ≡ true → held hashes o ≡ Some h → IsFaithfulChange hashes (hincrby k f by h) h k o
increase_faithful k f by h o a b is = elim (number_at (get h f)) as (λ n. IsFaithfulChange hashes (increase_from k f by n h) h k o) [
  | None ↦ unchanged_faithful no_integer h k o
  | Some n ↦ number_faithful k f (n +ℤ by) h o a b is
]

remove_faithful : (k : Bytes) (fs : List Bytes) (h : Hash) (o : Option Entry) → fits k ≡ true → list_all fits fs ≡ true → held hashes o ≡ Some h → IsFaithfulChange hashes (hdel k fs h) h k o
remove_faithful k fs h o fit all is = cut_faithful k (effect.RemoveFields k) without_fields removing fits (remove_step k fit) (count_reply (length (removed fs h))) (without_fields fs h) h o (removed fs h) (removed_fit fs h all) is (without_removed fs h) (none_removed fs h)

change_faithful : (c : HashAsk) (h : Hash) (o : Option Entry) → IsTrue (list_all fits (hash_words c)) → held hashes o ≡ Some h → IsFaithfulChange hashes (change c h) h (key_of c) o
change_faithful (ask.HSet k ps reply) h o fit is = set_faithful k (fields_reply reply (count_new ps h)) ps h o (first (fits k) _ fit) (pairs_fit ps (second (fits k) _ fit)) is
change_faithful (ask.HSetNx k f v) h o fit is = new_faithful k f v h o (first (fits k) _ fit) (first (fits f) _ (second (fits k) _ fit)) (first (fits v) _ (second (fits f) _ (second (fits k) _ fit))) is
change_faithful (ask.HGet k f) h o fit is = unchanged_faithful _ h k o
change_faithful (ask.HMGet k fs) h o fit is = unchanged_faithful _ h k o
change_faithful (ask.ListHash k part) h o fit is = unchanged_faithful _ h k o
change_faithful (ask.HDel k fs) h o fit is = remove_faithful k fs h o (first (fits k) _ fit) (second (fits k) _ fit) is
change_faithful (ask.HExists k f) h o fit is = unchanged_faithful _ h k o
change_faithful (ask.HLen k) h o fit is = unchanged_faithful _ h k o
change_faithful (ask.HStrLen k f) h o fit is = unchanged_faithful _ h k o
change_faithful (ask.HIncrBy k f by) h o fit is = increase_faithful k f by h o (first (fits k) _ fit) (first (fits f) _ (second (fits k) _ fit)) is

-- ---- what is seen of a hash has a field
live_kept : (now : ℤ) (o : Option Entry) → IsKept hashes o → IsKept hashes (live now o)
live_kept now None kept = kept
live_kept now (Some e) kept = elim (is_expired now e.deadline) as (λ b. IsKept hashes (if b then None else Some e)) [
  | true ↦ λ f is. absurd (no_entry f is)
  | false ↦ kept
]
  where
    no_entry : (f : Entry) → None ≡ Some f → ⊥
    no_entry f h = cc

key_fits : (c : HashAsk) → IsTrue (list_all fits (hash_words c)) → fits (key_of c) ≡ true
key_fits (ask.HSet k ps reply) fit = first (fits k) _ fit
key_fits (ask.HSetNx k f v) fit = first (fits k) _ fit
key_fits (ask.HGet k f) fit = first (fits k) _ fit
key_fits (ask.HMGet k fs) fit = first (fits k) _ fit
key_fits (ask.ListHash k part) fit = first (fits k) _ fit
key_fits (ask.HDel k fs) fit = first (fits k) _ fit
key_fits (ask.HExists k f) fit = first (fits k) _ fit
key_fits (ask.HLen k) fit = first (fits k) _ fit
key_fits (ask.HStrLen k f) fit = first (fits k) _ fit
key_fits (ask.HIncrBy k f by) fit = first (fits k) _ fit

pub hash_faithful : (c : HashAsk) (now : ℤ) (m : Dataset) → IsDataset m → IsTrue (list_all fits (hash_words c)) → IsLawful (command c) now m
hash_faithful c now m kept fit =
    let k = key_of c in
    let n = purged now (k ∷ []) m in
    let purged_kept : IsKept hashes (get n k) = subst (IsKept hashes) (sym (purged_at now k m)) (live_kept now (get m k) (hashes_kept m k kept)) in
    faithful (command c) now m (and_from (fits k) true (key_fits c fit) refl)
    (at_key_faithful k (answer_of c) n (changing_faithful hashes hashes_are (change c) k n purged_kept (λ h is. change_faithful c h (get n k) fit is)))
