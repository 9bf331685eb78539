-- A sorted set that goes with its members.
use Rattle.std.proofs.Common.{ℕ, ℤ, ◌≡◌, ◌<◌, ◌≤◌, ◌+◌, ◌-◌, List, [], ◌∷◌, ◌++◌, map, length, take, drop, get_or, Bool, true, false, ◌&&◌, cond, Option, Some, None, Result, Ok, Err, refl, sym, ◌∙◌, ap, subst, append_assoc, append-nil, length-append, arith, T}
use Rattle.std.specs.Bool.{MatchBool}
use Rattle.std.specs.Result.{is_ok}
use Rattle.std.specs.Prelude.{◌==◌, ◌↔◌, IsTrue, OnOk, if◌then◌else◌}
use Rattle.std.specs.Ordering.{eq_by_cmp}
use Rattle.std.specs.Option.{option_map, option_and_then}
use Rattle.std.specs.FinMap.{get, insert, remove, keys, len, entries, find, contains_key, is_sorted, entries_sorted, from_sorted, get-entries, get-insert, get-remove, get-from_sorted, entries-from_sorted, len-entries, len-remove, same_map}
use Rattle.std.specs.FinMap.Entries.{below_all}
use Rattle.std.proofs.lemmas.Bool.{ne_eqb}
use Rattle.std.proofs.lemmas.Cmp.{nat_list_cmp_total}
use Rattle.std.proofs.lemmas.List.{length-map, take_more, drop_more}
use Rattle.std.proofs.lemmas.Map.Lookups.{exact_bytes}
use Rattle.mr_map.specs.Bytes.{Bytes, ByteMap, bytes_cmp}
use Rattle.mr_map.proofs.Conditions.{second_holds}
use Rattle.mr_bytes.specs.Words.{fits}
use Rattle.mr_bytes.proofs.Both.{first}
use Rattle.mr_effect.specs.Effects.{words_fit, has_spelling, is_some_of}
use Rattle.mr_effect.specs.declared.effect.Effect.{Effect}
use Rattle.mr_effect.specs.declared.effect.Effect.TheVariants as effect
use Rattle.mr_keyspace.specs.Dataset.{Dataset, put_at}
use Rattle.mr_keyspace.specs.Collections.{without_scores}
use Rattle.mr_keyspace.specs.Steps.{sorted_sets, sorted_set_of, entry_of, remove_scores_step}
use Rattle.mr_keyspace.specs.Changes.{at_key, change}
use Rattle.mr_keyspace.specs.Outcome.{Applies}
use Rattle.mr_keyspace.specs.declared.value.Value.TheVariants as value
use Rattle.mr_keyspace.specs.declared.value.Entry.{Entry}
use Rattle.mr_keyspace.specs.declared.fault.ApplyFault.{ApplyFault}
use Rattle.mr_keyspace.specs.declared.fault.ApplyFault.TheVariants.{Refused, Memory}
use Rattle.mr_keyspace.proofs.Maps.{same_key, got, remove_insert}
use Rattle.mr_data.specs.Dataset.{IsDataset}
use Rattle.mr_data.specs.Meaning.{apply, apply_all}
use Rattle.mr_data.specs.Whole.{names, TakesFirst, TakesMore, TakeAll}
use Rattle.mr_data.proofs.Answering.{is_change}
use Rattle.mr_data.proofs.Changes.{remove_scores_keeps}
use Rattle.mr_data.proofs.Datasets.{at_key_keeps}
use Rattle.mr_data.proofs.Entries.{AreApart, entries_apart, missing}
use Rattle.mr_data.proofs.KindLaws.{sorted_sets_are, sorted_sets_kept}

-- ---- the members that are left
module _ {X : Type 0} where
  entries_left : (m : ByteMap X) (p : Bytes × X) (es : List (Bytes × X)) → entries m ≡ p ∷ es → entries (remove m p.0) ≡ es
  entries_left m p es is =
      let apart : AreApart (p ∷ es) = subst AreApart is (entries_apart m) in
      let sorted : T (is_sorted bytes_cmp (p ∷ es)) = subst (λ (xs : List (Bytes × X)). T (is_sorted bytes_cmp xs)) is (entries_sorted m) in
      let behind : T (is_sorted bytes_cmp es) = second_holds (below_all bytes_cmp p.0 es) _ sorted in
      ap entries (same_map nat_list_cmp_total exact_bytes (remove m p.0) (from_sorted es) (λ q.
      get-remove nat_list_cmp_total m p.0 q
      ∙ ap (cond (eq_by_cmp bytes_cmp q p.0) None) (get-entries m q ∙ ap (find bytes_cmp q) is)
      ∙ elim (eq_by_cmp bytes_cmp q p.0) as (λ b. eq_by_cmp bytes_cmp q p.0 ≡ b → cond b None (cond b (Some p.1) (find bytes_cmp q es)) ≡ find bytes_cmp q es) [
        | true ↦ λ t. sym (ap (λ (k : Bytes). find bytes_cmp k es) (same_key q p.0 t) ∙ missing es p.0 apart.0)
        | false ↦ λ t. refl
      ] refl
      ∙ sym (get-from_sorted bytes_cmp es q behind)))
      ∙ entries-from_sorted bytes_cmp es behind

  -- once the first key goes
  keys_left : (m : ByteMap X) (x : Bytes) (ks : List Bytes) → keys m ≡ x ∷ ks → keys (remove m x) ≡ ks
  keys_left m x ks is = by_entries (entries m) refl is
    where
      by_entries : (es : List (Bytes × X)) → entries m ≡ es → map (λ (e : Bytes × X). e.0) es ≡ x ∷ ks → keys (remove m x) ≡ ks
      by_entries [] e h = cc
      by_entries (p ∷ es) e h =
          let front : p.0 ≡ x = cc in
          let others : map (λ (e : Bytes × X). e.0) es ≡ ks = cc in
          subst (λ (y : Bytes). keys (remove m y) ≡ ks) front (ap (map (λ (e : Bytes × X). e.0)) (entries_left m p es e) ∙ others)

  len_keys : (m : ByteMap X) → len m ≡ length (keys m)
  len_keys m = len-entries m ∙ sym (length-map (entries m) (λ e. e.0))

  no_key : (m : ByteMap X) → keys m ≡ [] → (len m == 0) ≡ true
  no_key m h = ap (λ n. n == 0) (len_keys m ∙ ap length h)

  some_key : (m : ByteMap X) (x : Bytes) (ks : List Bytes) → keys m ≡ x ∷ ks → (len m == 0) ≡ false
  some_key m x ks h =
      let long : len m ≡ length (x ∷ ks) = len_keys m ∙ ap length h in
      ne_eqb (len m) 0 (λ e. omega (arith, e, long))

-- .. and once the first ones go
members_left : (ms : List Bytes) (s : ByteMap ℤ) (rest : List Bytes) → keys s ≡ ms ++ rest → keys (without_scores ms s) ≡ rest
members_left [] s rest h = h
members_left (x ∷ ms) s rest h = members_left ms (remove s x) rest (keys_left s x (ms ++ rest) h)

some_first : (ms after : List Bytes) (s : ByteMap ℤ) → IsTrue (is_some_of ms) → keys s ≡ ms ++ after → (len s == 0) ≡ false
some_first [] after s some h = cc
some_first (x ∷ ms) after s some h = some_key s x (ms ++ after) h

-- ---- effects that take members out
abbrev set_at : ByteMap ℤ → Option ℤ → Entry
set_at s d = record { value = value.SortedSet s; deadline = d }

module _ (k : Bytes) (ms : List Bytes) (m : Dataset) (s : ByteMap ℤ) (d : Option ℤ) (is : get m k ≡ Some (set_at s d)) (possible : IsTrue (has_spelling (effect.RemoveScores k ms) && words_fit (effect.RemoveScores k ms))) where
  takes_out : apply (effect.RemoveScores k ms) m ≡ Some (put_at m k (entry_of sorted_sets d (without_scores ms s)))
  unfolding change
  takes_out = sym (is_change (effect.RemoveScores k ms) m possible) ∙ ap (λ o. option_map (put_at m k) (remove_scores_step ms o)) is

  -- the last ones
  takes_key : (len (without_scores ms s) == 0) ≡ true → apply (effect.RemoveScores k ms) m ≡ Some (remove m k)
  takes_key none = takes_out ∙ ap (λ b. let no : Option Entry = None in Some (put_at m k (if b then no else Some (set_at (without_scores ms s) d)))) none

  leaves_set : (len (without_scores ms s) == 0) ≡ false → apply (effect.RemoveScores k ms) m ≡ Some (insert m k (set_at (without_scores ms s) d))
  leaves_set some = takes_out ∙ ap (λ b. let no : Option Entry = None in Some (put_at m k (if b then no else Some (set_at (without_scores ms s) d)))) some

-- the effect by its members
by_members : (k : Bytes) (e : Effect) (before after : List Bytes) (t : TakesFirst k e before after) → IsTrue (has_spelling (effect.RemoveScores k t.members) && words_fit (effect.RemoveScores k t.members))
by_members k e before after t = subst (λ (x : Effect). IsTrue (has_spelling x && words_fit x)) t.is t.possible

-- The key goes with all members.
all_gone : (k : Bytes) (e : Effect) (es : List Effect) (m : Dataset) (s : ByteMap ℤ) (d : Option ℤ) → get m k ≡ Some (set_at s d) → TakeAll k (e ∷ es) (keys s) → apply_all (e ∷ es) m ≡ Some (remove m k)
all_gone k e [] m s d is h =
    let t = h.1 in
    let left : keys (without_scores t.members s) ≡ [] = members_left t.members s h.0 t.first ∙ h.2 in
    ap (option_and_then (apply_all [])) (ap (λ (x : Effect). apply x m) t.is ∙ takes_key k t.members m s d is (by_members k e (keys s) h.0 t) (no_key _ left))
all_gone k e (f ∷ es) m s d is h =
    let t = h.1 in
    let u = h.2.1 in
    let s' = without_scores t.members s in
    let left : keys s' ≡ h.0 = members_left t.members s h.0 t.first in
    let more : (len s' == 0) ≡ false = some_first u.members h.2.0 s' (first (is_some_of u.members) _ (by_members k f h.0 h.2.0 u)) (left ∙ u.first) in
    ap (option_and_then (apply_all (f ∷ es))) (ap (λ (x : Effect). apply x m) t.is ∙ leaves_set k t.members m s d is (by_members k e (keys s) h.0 t) more)
    ∙ all_gone k f es (insert m k (set_at s' d)) s' d (got m k (set_at s' d)) (subst (TakeAll k (f ∷ es)) (sym left) h.2)
    ∙ ap Some (remove_insert m k (set_at s' d))

-- ---- the set that a key holds
held_there : (s : ByteMap ℤ) (o : Option Entry) → Some s ≡ option_and_then (λ (e : Entry). sorted_set_of e.value) o → (d : Option ℤ) × (o ≡ Some (set_at s d))
held_there s None h = cc
held_there s (Some e) h = (e.deadline, ap (λ v. let f : Entry = record { value = v; deadline = e.deadline } in Some f) (sym (sorted_sets_are.value_of e.value s (sym h))))

module _ (m : Dataset) (k : Bytes) (s : ByteMap ℤ) (kept : IsDataset m) (there : Some s ≡ option_and_then (λ (e : Entry). sorted_set_of e.value) (get m k)) where
  pub whole_goes : (es : List Effect) → TakeAll k es (keys s) → apply_all es m ≡ Some (remove m k)
  whole_goes [] h =
      let found = held_there s (get m k) there in
      let wrong : false ≡ true = sym (sorted_sets_kept m k kept (set_at s found.0) found.1 s refl) ∙ no_key s h in
      cc
  whole_goes (e ∷ es) h =
      let found = held_there s (get m k) there in
      all_gone k e es m s found.0 found.1 h

  pub key_fits : IsTrue (fits k)
  key_fits = let found = held_there s (get m k) there in (kept.entries k (set_at s found.0) found.1).key

-- ---- a key that goes
key_goes : (k : Bytes) (m : Dataset) → IsTrue (fits k) → apply (effect.Del k) m ≡ Some (remove m k)
unfolding change
key_goes k m fit = sym (is_change (effect.Del k) m fit)

gone : (k : Bytes) (m new : Dataset) (r : Result (Unit {0}) ApplyFault) → IsTrue (fits k) → OnOk r (apply (effect.Del k) m ≡ Some new) → ((r ≡ Err Refused) ↔ (apply (effect.Del k) m ≡ None)) → (r ≡ Err Memory → ⊥) → new ≡ remove m k
gone k m new (Ok u) fit ok refused memory = let same : Some (remove m k) ≡ Some new = sym (key_goes k m fit) ∙ ok in cc
gone k m new (Err Refused) fit ok refused memory = let wrong : None ≡ Some (remove m k) = sym (refused.0 refl) ∙ key_goes k m fit in cc
gone k m new (Err Memory) fit ok refused memory = absurd (memory refl)

pub removed : (k q : Bytes) (m new : Dataset) (r : Result (Unit {0}) ApplyFault) → q ≡ k → IsTrue (fits k) → OnOk r (apply (effect.Del q) m ≡ Some new) → ((r ≡ Err Refused) ↔ (apply (effect.Del q) m ≡ None)) → (r ≡ Err Memory → ⊥) → new ≡ remove m k
removed k q m new r same fit ok refused memory = gone q m new r (subst (λ (x : Bytes). IsTrue (fits x)) (sym same) fit) ok refused memory ∙ ap (remove m) same

-- ---- loops over members and effects
-- one member more is among the first
pub first_more : (ws : List Bytes) (i : ℕ) (w : Bytes) (ps qs : List (Bytes × ℤ)) (p : Bytes × ℤ) (all : List Bytes) → i < length ws → w ≡ get_or ws i w → ps ≡ p ∷ qs → p.0 ≡ w → all ≡ take i ws ++ names ps → all ≡ take (i + 1) ws ++ names qs
first_more ws i w ps qs p all here is one same before =
    before
    ∙ ap (λ (xs : List (Bytes × ℤ)). take i ws ++ names xs) one
    ∙ ap (λ (x : Bytes). take i ws ++ x ∷ names qs) (same ∙ is)
    ∙ sym (append_assoc (take i ws) (get_or ws i w ∷ []) (names qs))
    ∙ ap (λ xs. xs ++ names qs) (sym (take_more ws i w here))

-- one effect more
pub one_more : (k : Bytes) (es : List Effect) (i : ℕ) (e : Effect) (before after : List Bytes) → i < length es → e ≡ get_or es i e → TakesFirst k e before after → TakeAll k (drop (i + 1) es) after → TakeAll k (drop i es) before
one_more k es i e before after here is takes rest =
    subst (λ (xs : List Effect). TakeAll k xs before) (sym (drop_more es i e here ∙ ap (λ (x : Effect). x ∷ drop (i + 1) es) (sym is))) (after, takes, rest)

-- ---- some members go, and others stay
-- .. no more than so many
less_by_one : (s : ByteMap ℤ) (x : Bytes) → len s ≤ len (remove s x) + 1
less_by_one s x = by (contains_key s x) (len-remove nat_list_cmp_total s x) where
  by : (b : Bool) → len (remove s x) ≡ cond b (len s - 1) (len s) → len s ≤ len (remove s x) + 1
  by true e = omega (arith, e)
  by false e = omega (arith, e)

less_by : (ms : List Bytes) (s : ByteMap ℤ) → len s ≤ len (without_scores ms s) + length ms
less_by [] s = omega arith
less_by (x ∷ ms) s =
    let one = less_by_one s x in
    let rest = less_by ms (remove s x) in
    omega arith

some_left : (ms : List Bytes) (s : ByteMap ℤ) → length ms < len s → (len (without_scores ms s) == 0) ≡ false
some_left ms s more = let less = less_by ms s in ne_eqb _ 0 (λ e. omega (arith, e, less, more))

without_both : (ms ns : List Bytes) (s : ByteMap ℤ) → without_scores (ms ++ ns) s ≡ without_scores ns (without_scores ms s)
without_both [] ns s = refl
without_both (x ∷ ms) ns s = without_both ms ns (remove s x)

insert_again : (m : Dataset) (k : Bytes) (a b : Entry) → insert (insert m k a) k b ≡ insert m k b
insert_again m k a b = same_map nat_list_cmp_total exact_bytes _ _ (λ q.
    get-insert nat_list_cmp_total (insert m k a) k b q
    ∙ elim (eq_by_cmp bytes_cmp q k) as (λ t. eq_by_cmp bytes_cmp q k ≡ t → cond t (Some b) (get (insert m k a) q) ≡ cond t (Some b) (get m q)) [
      | true ↦ λ e. refl
      | false ↦ λ e. get-insert nat_list_cmp_total m k a q ∙ ap (λ t. cond t (Some a) (get m q)) e
    ] refl
    ∙ sym (get-insert nat_list_cmp_total m k b q))

-- at one key, all at once
others_stay : (k : Bytes) (ms : List Bytes) (m : Dataset) (s : ByteMap ℤ) (d : Option ℤ) → get m k ≡ Some (set_at s d) → length ms < len s → at_key (remove_scores_step ms) k m ≡ Some (insert m k (set_at (without_scores ms s) d))
others_stay k ms m s d is more =
    ap (λ o. option_map (put_at m k) (remove_scores_step ms o)) is
    ∙ ap (λ b. let no : Option Entry = None in Some (put_at m k (if b then no else Some (set_at (without_scores ms s) d)))) (some_left ms s more)

-- .. and by effects, one after another
members_go : (k : Bytes) (e : Effect) (es : List Effect) (ms : List Bytes) (m : Dataset) (s : ByteMap ℤ) (d : Option ℤ) → get m k ≡ Some (set_at s d) → TakeAll k (e ∷ es) ms → length ms < len s
    → apply_all (e ∷ es) m ≡ Some (insert m k (set_at (without_scores ms s) d))
members_go k e [] ms m s d is h more =
    let t = h.1 in
    let all : ms ≡ t.members = t.first ∙ ap (λ (r : List Bytes). t.members ++ r) h.2 ∙ append-nil t.members in
    ap (option_and_then (apply_all [])) (ap (λ (x : Effect). apply x m) t.is ∙ leaves_set k t.members m s d is (by_members k e ms h.0 t) (some_left t.members s (omega (arith, ap length all, more))))
    ∙ ap (λ (l : List Bytes). Some (insert m k (set_at (without_scores l s) d))) (sym all)
members_go k e (f ∷ es) ms m s d is h more =
    let t = h.1 in
    let s' = without_scores t.members s in
    let long = length-append t.members h.0 in
    let less = less_by t.members s in
    let few : length t.members < len s = omega (arith, ap length t.first, more, long) in
    let fewer : length h.0 < len s' = omega (arith, ap length t.first, more, long, less) in
    ap (option_and_then (apply_all (f ∷ es))) (ap (λ (x : Effect). apply x m) t.is ∙ leaves_set k t.members m s d is (by_members k e ms h.0 t) (some_left t.members s few))
    ∙ members_go k f es h.0 (insert m k (set_at s' d)) s' d (got m k (set_at s' d)) h.2 fewer
    ∙ ap Some (insert_again m k (set_at s' d) (set_at (without_scores h.0 s') d))
    ∙ ap (λ (x : ByteMap ℤ). Some (insert m k (set_at x d))) (sym (without_both t.members h.0 s) ∙ ap (λ (l : List Bytes). without_scores l s) (sym t.first))

pub goes_together : (k : Bytes) (es : List Effect) (ms : List Bytes) (m : Dataset) (s : ByteMap ℤ) → 0 < length es → Some s ≡ option_and_then (λ (e : Entry). sorted_set_of e.value) (get m k) → TakeAll k es ms → length ms < len s
    → apply_all es m ≡ at_key (remove_scores_step ms) k m
goes_together k [] ms m s some there h more = absurd (omega arith)
goes_together k (e ∷ es) ms m s some there h more =
    let found = held_there s (get m k) there in
    members_go k e es ms m s found.0 found.1 h more ∙ sym (others_stay k ms m s found.0 found.1 more)

-- one effect more whose members come behind those before
pub more_named : (k : Bytes) (es : List Effect) (i : ℕ) (e : Effect) (before after : List Bytes) → i < length es → e ≡ get_or es i e → TakesMore k e before after
    → ((rest : List Bytes) → TakeAll k (drop i es) rest → TakeAll k es (before ++ rest)) → (rest : List Bytes) → TakeAll k (drop (i + 1) es) rest → TakeAll k es (after ++ rest)
more_named k es i e before after here is t all rest h =
    subst (TakeAll k es) (sym (ap (λ (l : List Bytes). l ++ rest) t.behind ∙ append_assoc before t.members rest))
    (all (t.members ++ rest) (one_more k es i e (t.members ++ rest) rest here is (record { members = t.members; is = t.is; possible = t.possible; first = refl }) h))

-- what a call leaves that takes them out at once
pub gone_together : (k : Bytes) (ms : List Bytes) (es : List Effect) (m new : Dataset) (r : Result (Unit {0}) ApplyFault) → apply_all es m ≡ at_key (remove_scores_step ms) k m → Applies (at_key (remove_scores_step ms) k m) m r new → (r ≡ Err Memory → ⊥)
    → MatchBool (is_ok r) (apply_all es m ≡ Some new) (new ≡ m)
gone_together k ms es m new r same applies memory = by (at_key (remove_scores_step ms) k m) r same applies memory where
  by : (o : Option Dataset) (r : Result (Unit {0}) ApplyFault) → apply_all es m ≡ o → Applies o m r new → (r ≡ Err Memory → ⊥) → MatchBool (is_ok r) (apply_all es m ≡ Some new) (new ≡ m)
  by None (Ok u) e a never = let wrong = a.0 in cc
  by None (Err f) e a never = a.1
  by (Some x) (Ok u) e a never = e ∙ ap Some (sym a.1)
  by (Some x) (Err Refused) e a never = absurd (a.0 refl)
  by (Some x) (Err Memory) e a never = absurd (never refl)

pub kept_together : (k : Bytes) (ms : List Bytes) (m new : Dataset) (r : Result (Unit {0}) ApplyFault) → IsDataset m → IsTrue (fits k) → Applies (at_key (remove_scores_step ms) k m) m r new → (r ≡ Err Memory → ⊥) → IsDataset new
kept_together k ms m new r kept fit applies memory = by (at_key (remove_scores_step ms) k m) refl r applies memory where
  by : (o : Option Dataset) → at_key (remove_scores_step ms) k m ≡ o → (r : Result (Unit {0}) ApplyFault) → Applies o m r new → (r ≡ Err Memory → ⊥) → IsDataset new
  by None e r a never = subst IsDataset (sym a.1) kept
  by (Some x) e (Ok u) a never = at_key_keeps (remove_scores_step ms) (remove_scores_keeps ms) k m new kept fit (e ∙ ap Some (sym a.1))
  by (Some x) e (Err Refused) a never = absurd (a.0 refl)
  by (Some x) e (Err Memory) a never = absurd (never refl)
