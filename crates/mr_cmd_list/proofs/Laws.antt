-- The effects of commands on lists are faithful.
use Rattle.std.proofs.Common.{ℕ, ℤ, ◌<◌, ◌^◌, ◌≡◌, List, [], ◌∷◌, length, min, Bool, true, false, cond, Option, Some, None, refl, sym, ◌∙◌, ap, subst, arith}
use Rattle.std.specs.Prelude.{IsTrue, if◌then◌else◌}
use Rattle.std.specs.List.{list_all}
use Rattle.std.specs.FinMap.{get}
use Rattle.std.specs.Str.{bytes_eq}
use Rattle.std.proofs.Math.Nat.{min-le_right}
use Rattle.mr_map.specs.Bytes.{Bytes}
use Rattle.mr_bytes.specs.Words.{fits}
use Rattle.mr_bytes.specs.declared.ends.End.{End}
use Rattle.mr_bytes.specs.declared.ends.End.TheVariants.{Left, Right}
use Rattle.mr_bytes.proofs.Both.{first, second}
use Rattle.mr_keyspace.specs.Dataset.{Dataset}
use Rattle.mr_data.specs.Dataset.{IsDataset, is_expired, live}
use Rattle.mr_keyspace.specs.Steps.{lists, held, list_of}
use Rattle.mr_keyspace.specs.declared.value.Value.{Value}
use Rattle.mr_keyspace.specs.declared.value.Value.TheVariants as value
use Rattle.mr_keyspace.specs.declared.value.Entry.{Entry}
use Rattle.mr_cmd_list.specs.Carried.{list_words}
use Rattle.mr_cmd_list.specs.declared.list_ask.ListAsk.{ListAsk}
use Rattle.mr_cmd_list.specs.declared.list_ask.ListAsk.TheVariants as ask
use Rattle.mr_cmd_list.specs.declared.list_ask.PushTo.{PushTo}
use Rattle.mr_cmd_list.specs.declared.list_ask.PushTo.TheVariants.{AnyKey, ExistingKey}
use Rattle.mr_cmd_shared.specs.Taken.{has}
use Rattle.mr_cmd_shared.specs.Keys.{purged}
use Rattle.mr_cmd_shared.specs.Answered.{Answered}
use Rattle.mr_cmd_shared.specs.Outcomes.{at_key}
use Rattle.mr_cmd_shared.specs.Commands.{on_key}
use Rattle.mr_cmd_shared.proofs.KeyLists.{get_purged}
use Rattle.mr_cmd_shared.proofs.PlanLemmas.{purged_at}
use Rattle.mr_cmd_shared.proofs.Laws.{faithful, IsFaithfulAt, IsFaithfulAnswer, at_key_faithful, IsLawful}
use Rattle.mr_data.proofs.KindLaws.{lists_kept}
use Rattle.mr_cmd_list.specs.Numbers.{HasFewItems, IsShort, IsShortFor, IsNumberFor, HasNumbersIn}
use Rattle.mr_cmd_list.specs.Pushes.{push_change, push_answer}
use Rattle.mr_cmd_list.specs.Pops.{pop_answer}
use Rattle.mr_cmd_list.specs.Moves.{rotate_answer, carry, carried, moving}
use Rattle.mr_cmd_list.specs.Commands.{answer_of, command}
use Rattle.mr_cmd_list.proofs.Sizes.{both}
use Rattle.mr_cmd_list.proofs.OneEffect.{of_list_faithful, changing_list, on_list_faithful}
use Rattle.mr_cmd_list.proofs.PushLaws.{push_faithful}
use Rattle.mr_cmd_list.proofs.PopLaws.{pop_one_faithful, pop_some_faithful}
use Rattle.mr_cmd_list.proofs.EditLaws.{set_faithful, insert_faithful, remove_faithful, trim_faithful}
use Rattle.mr_cmd_list.proofs.MoveLaws.{turn_faithful, carry_faithful}

-- ---- what is known of the list at a key
few_items : (v : Value) (xs : List Bytes) → HasFewItems v → list_of v ≡ Some xs → length xs < 2 ^ 63
few_items (value.List ys) xs h is = let same : ys ≡ xs = cc in subst (λ (zs : List Bytes). length zs < 2 ^ 63) same h
few_items (value.Text y) xs h is = cc
few_items (value.Hash y) xs h is = cc
few_items (value.Set y) xs h is = cc
few_items (value.SortedSet y) xs h is = cc

is_short : (o : Option Entry) (xs : List Bytes) → IsShort o → held lists o ≡ Some xs → length xs < 2 ^ 63
is_short None xs h is = let none : [] ≡ xs = cc in subst (λ (zs : List Bytes). length zs < 2 ^ 63) none (omega arith)
is_short (Some e) xs h is = few_items e.value xs h is

-- what is left once expired keys are deleted is a dataset
live_is : (now : ℤ) (o : Option Entry) (e : Entry) → live now o ≡ Some e → o ≡ Some e
live_is now None e h = h
live_is now (Some f) e h = elim (is_expired now f.deadline) as (λ b. (if b then None else Some f) ≡ Some e → Some f ≡ Some e) [ true ↦ λ i. cc | false ↦ λ i. i ] h

kept_purged : (now : ℤ) (ks : List Bytes) (m : Dataset) → IsDataset m → IsDataset (purged now ks m)
kept_purged now ks m kept = record { entries = λ q e is. kept.entries q e (was q e (has ks q) (sym (get_purged now ks m q) ∙ is)) }
  where
    was : (q : Bytes) (e : Entry) (b : Bool) → cond b (live now (get m q)) (get m q) ≡ Some e → get m q ≡ Some e
    was q e true h = live_is now (get m q) e h
    was q e false h = h

-- ---- commands on one key
pushes : (k : Bytes) (end : End) (to : PushTo) (items : List Bytes) (m : Dataset) → IsDataset m → IsTrue (fits k) → IsTrue (list_all fits items) → IsFaithfulAnswer (push_answer k end to items (get m k)) k m
pushes k end AnyKey items m kept named fit = changing_list (push_change k end items) k m kept (λ xs there. push_faithful k end items xs (get m k) named fit there)
pushes k end ExistingKey items m kept named fit = on_list_faithful (push_change k end items) k m kept _ (λ e is xs there. push_faithful k end items xs (get m k) named fit there)

pops : (k : Bytes) (end : End) (count : Option ℕ) (m : Dataset) → IsDataset m → IsTrue (fits k) → IsShortFor count (get m k) → IsFaithfulAnswer (pop_answer k end count (get m k)) k m
pops k end None m kept named short = on_list_faithful _ k m kept _ (λ e is xs there. pop_one_faithful k end xs (get m k) named there)
pops k end (Some most) m kept named short = on_list_faithful _ k m kept _ (λ e is xs there. pop_some_faithful k end xs (get m k) named there (min most (length xs)) (min-le_right most (length xs)) (is_short (get m k) xs short there))

turned_in_place : (k : Bytes) (taken put : End) (m : Dataset) → IsDataset m → IsTrue (fits k) → IsFaithfulAnswer (rotate_answer k taken put (get m k)) k m
turned_in_place k taken put m kept named = on_list_faithful _ k m kept _ (λ e is xs there. turn_faithful k xs (get m k) named there taken put)

all_words : (k : Bytes) (words : List Bytes) → IsTrue (list_all fits (k ∷ words)) → IsTrue (fits k) × IsTrue (list_all fits words)
all_words k words h = (first (fits k) (list_all fits words) h, second (fits k) (list_all fits words) h)

one_fits : (k : Bytes) → IsTrue (fits k) → IsTrue (list_all fits (k ∷ []))
one_fits k h = both (fits k) true h refl

-- by what is left once expired keys are deleted
at_one : (k : Bytes) (t : Option Entry → Answered) (now : ℤ) (m : Dataset) → IsTrue (fits k) → ((n : Dataset) → get n k ≡ live now (get m k) → IsDataset n → IsFaithfulAnswer (t (get n k)) k n) → IsDataset m → IsLawful (on_key k t) now m
at_one k t now m named f kept =
    let n = purged now (k ∷ []) m in
    faithful (on_key k t) now m (one_fits k named) (at_key_faithful k t n (f n (purged_at now k m) (kept_purged now (k ∷ []) m kept)))

moves_in : (s d : Bytes) (taken put : End) (n : Dataset) → IsDataset n → IsTrue (fits s) → IsTrue (fits d) → (b : Bool) → bytes_eq s d ≡ b
    → IsFaithfulAt (if b then at_key s (rotate_answer s taken put) n else carried s d (carry s d taken put (get n s) (get n d)) n) n
moves_in s d taken put n kept named_s named_d true h = at_key_faithful s (rotate_answer s taken put) n (turned_in_place s taken put n kept named_s)
moves_in s d taken put n kept named_s named_d false h = carry_faithful s d taken put h n named_s named_d

moves : (s d : Bytes) (taken put : End) (now : ℤ) (m : Dataset) → IsDataset m → IsTrue (list_all fits (s ∷ d ∷ [])) → IsLawful (moving s d taken put) now m
moves s d taken put now m kept fit =
    let n = purged now (s ∷ d ∷ []) m in
    let words = all_words s (d ∷ []) fit in
    faithful (moving s d taken put) now m fit (moves_in s d taken put n (kept_purged now (s ∷ d ∷ []) m kept) words.0 (all_words d [] words.1).0 (bytes_eq s d) refl)

-- ---- every command
pub lists_faithful : (a : ListAsk) (now : ℤ) (m : Dataset) → IsDataset m → HasNumbersIn a now m → IsTrue (list_all fits (list_words a)) → IsLawful (command a) now m
lists_faithful (ask.Push k end to items) now m kept numbers fit =
    let words = all_words k items fit in
    at_one k (answer_of (ask.Push k end to items)) now m words.0 (λ n is is_kept. pushes k end to items n is_kept words.0 words.1) kept
lists_faithful (ask.Pop k end count) now m kept numbers fit =
    let named = (all_words k [] fit).0 in
    at_one k (answer_of (ask.Pop k end count)) now m named (λ n is is_kept. pops k end count n is_kept named (subst (IsShortFor count) (sym is) numbers)) kept
lists_faithful (ask.LLen k) now m kept numbers fit = at_one k (answer_of (ask.LLen k)) now m (all_words k [] fit).0 (λ n is is_kept. of_list_faithful _ _ k n) kept
lists_faithful (ask.LRange k first last) now m kept numbers fit = at_one k (answer_of (ask.LRange k first last)) now m (all_words k [] fit).0 (λ n is is_kept. of_list_faithful _ _ k n) kept
lists_faithful (ask.LIndex k index) now m kept numbers fit = at_one k (answer_of (ask.LIndex k index)) now m (all_words k [] fit).0 (λ n is is_kept. of_list_faithful _ _ k n) kept
lists_faithful (ask.LSet k index item) now m kept numbers fit =
    let words = all_words k (item ∷ []) fit in
    at_one k (answer_of (ask.LSet k index item)) now m words.0 (λ n is is_kept. on_list_faithful _ k n is_kept _ (λ e here xs there. set_faithful k xs (get n k) words.0 there index item (all_words item [] words.1).0 (is_short (get n k) xs (subst IsShort (sym is) numbers) there))) kept
lists_faithful (ask.LInsert k side pivot item) now m kept numbers fit =
    let words = all_words k (pivot ∷ item ∷ []) fit in
    let others = all_words pivot (item ∷ []) words.1 in
    at_one k (answer_of (ask.LInsert k side pivot item)) now m words.0 (λ n is is_kept. on_list_faithful _ k n is_kept _ (λ e here xs there. insert_faithful k xs (get n k) words.0 there side pivot item others.0 (all_words item [] others.1).0)) kept
lists_faithful (ask.LRem k count item) now m kept numbers fit =
    let words = all_words k (item ∷ []) fit in
    at_one k (answer_of (ask.LRem k count item)) now m words.0 (λ n is is_kept. on_list_faithful _ k n is_kept _ (λ e here xs there. remove_faithful k xs (get n k) words.0 there count item (all_words item [] words.1).0 (subst (IsNumberFor count) (sym is ∙ here) numbers))) kept
lists_faithful (ask.LTrim k first last) now m kept numbers fit =
    let named = (all_words k [] fit).0 in
    at_one k (answer_of (ask.LTrim k first last)) now m named (λ n is is_kept. on_list_faithful _ k n is_kept _ (λ e here xs there. trim_faithful k xs (get n k) named there first last (is_short (get n k) xs (subst IsShort (sym is) numbers) there) (lists_kept n k is_kept e here xs (sym (ap (held lists) here) ∙ there)))) kept
lists_faithful (ask.LMove from to taken put) now m kept numbers fit = moves from to taken put now m kept fit
lists_faithful (ask.RPopLPush from to) now m kept numbers fit = moves from to Right Left now m kept fit
