-- Effects whose words are within the limit leave a dataset a dataset.
use Rattle.std.proofs.Common.{◌≡◌, ℤ, List, [], ◌∷◌, Bool, true, false, ◌&&◌, IsTrue, Option, Some, None, Result, Ok, Err, refl, sym, ap, subst}
use Rattle.std.specs.Prelude.{insert, length, slice_set, slice_range, unsigned_abs, ◌+◌, if◌then◌else◌, pos}
use Rattle.std.specs.Option.{option_map, option_and_then}
use Rattle.std.specs.List.{list_all}
use Rattle.std.specs.Str.{bytes_eq}
use Rattle.std.specs.FinMap.{get, empty}
use Rattle.mr_map.specs.Bytes.{Bytes}
use Rattle.mr_bytes.specs.Words.{fits}
use Rattle.mr_value.specs.Lists.{without}
use Rattle.mr_effect.specs.Effects.{words_fit, has_spelling, pair_fits, member_fits, has_score, is_some_of, is_deadline}
use Rattle.mr_effect.specs.declared.effect.Effect.{Effect}
use Rattle.mr_effect.specs.declared.effect.Effect.TheVariants as effect
use Rattle.mr_bytes.specs.declared.ends.End.{End}
use Rattle.mr_bytes.specs.declared.ends.Side.{Side}
use Rattle.mr_bytes.proofs.Both.{first, second}
use Rattle.mr_keyspace.specs.declared.value.Value.TheVariants as value
use Rattle.mr_keyspace.specs.declared.value.Entry.{Entry}
use Rattle.mr_keyspace.specs.Dataset.{Dataset}
use Rattle.mr_data.specs.Dataset.{IsWord, IsDataset, IsValue, IsLifetime}
use Rattle.mr_keyspace.specs.Collections.{with_fields, without_fields, with_members, without_members, with_scores, without_scores, put_item, pushed, popped, end_item, turned, may_take, is_place_of, is_part_of, place_beside}
use Rattle.mr_keyspace.specs.Steps.{without_deadline, deadline_of, hashes, lists, sets, sorted_sets, held, set_step, set_until_step, set_keeping_step, del_step, deadline_step, expire_step, persist_step, append_step, set_range_step, increase_step, set_fields_step, remove_fields_step, push_step, pop_step, set_item_step, insert_item_step, remove_items_step, trim_step, turn_step, add_members_step, remove_members_step, set_scores_step, remove_scores_step}
use Rattle.mr_keyspace.specs.Changes.{at_key, change, with_texts, item_at, carry_item, move_item, has_member, carry_member, move_member}
use Rattle.mr_keyspace.specs.Outcome.{Applies}
use Rattle.mr_keyspace.specs.declared.fault.ApplyFault.{ApplyFault}
use Rattle.mr_keyspace.specs.declared.fault.ApplyFault.TheVariants.{Refused, Memory}
use Rattle.mr_data.proofs.Fitting.{FieldsFit, MembersFit, ScoresFit, ItemsFit, with_fields_fit, without_fields_fit, with_members_fit, without_members_fit, with_scores_fit, without_scores_fit, put_item_fits, pushed_fit, popped_fit, end_item_fits, inserted_fit, set_fit, range_fit, without_fit}
use Rattle.mr_data.proofs.Datasets.{IsDataset-empty, Keeps, lifetime, at_key_keeps, on_keeps, held_suits, entry_at, hashes_suit, lists_suit, sets_suit, sorted_sets_suit}
use Rattle.mr_data.proofs.TextChanges.{append_keeps, set_range_keeps, increase_keeps, with_texts_keeps, rename_keeps}

-- f is done everywhere
always : {X : Type 0} (P : X → Type 0) (g : X → X) → ((x : X) → P x → P (g x)) → (x y : X) → P x → Some (g x) ≡ Some y → P y
always P g keeps x y fit h = let same : g x ≡ y = cc in subst P same (keeps x fit)

-- .. or where a test holds
where_so : {X : Type 0} (P : X → Type 0) (b : Bool) (z y : X) → P z → (if b then Some z else None) ≡ Some y → P y
where_so P true z y fit h = let same : z ≡ y = cc in subst P same fit
where_so P false z y fit h = cc

-- .. or where something was found
where_found : {A X : Type 0} (P : X → Type 0) (o : Option A) (g : A → X) (y : X) → ((a : A) → o ≡ Some a → P (g a)) → option_map g o ≡ Some y → P y
where_found P None g y fit h = cc
where_found P (Some a) g y fit h = let same : g a ≡ y = cc in subst P same (fit a refl)

set_keeps : (text : Bytes) → IsWord text → Keeps (set_step text)
set_keeps text fit before None has h = tt
set_keeps text fit before (Some e) has h = let same : without_deadline (value.Text text) ≡ e = cc in subst (λ (x : Entry). IsValue x.value × IsLifetime x.deadline) same (fit, tt)

set_until_keeps : (text : Bytes) (d : ℤ) → IsWord text → IsTrue (is_deadline d) → Keeps (set_until_step text d)
set_until_keeps text d fit is before None has h = tt
set_until_keeps text d fit is before (Some e) has h = let same : record { value = value.Text text; deadline = Some d } ≡ e = cc in subst (λ (x : Entry). IsValue x.value × IsLifetime x.deadline) same (fit, is)

set_keeping_keeps : (text : Bytes) → IsWord text → Keeps (set_keeping_step text)
set_keeping_keeps text fit before None has h = tt
set_keeping_keeps text fit before (Some e) has h = let same : record { value = value.Text text; deadline = deadline_of before } ≡ e = cc in subst (λ (x : Entry). IsValue x.value × IsLifetime x.deadline) same (fit, lifetime before has)

deadline_keeps : (d : Option ℤ) → IsLifetime d → Keeps (deadline_step d)
deadline_keeps d is None after has h = cc
deadline_keeps d is (Some x) None has h = cc
deadline_keeps d is (Some x) (Some e) has h = let same : record { value = x.value; deadline = d } ≡ e = cc in subst (λ (y : Entry). IsValue y.value × IsLifetime y.deadline) same (has.0, is)

del_keeps : Keeps del_step
del_keeps before None has h = tt
del_keeps before (Some e) has h = cc

set_fields_keeps : (pairs : List (Bytes × Bytes)) → IsTrue (list_all pair_fits pairs) → Keeps (set_fields_step pairs)
set_fields_keeps pairs fit = on_keeps hashes FieldsFit hashes_suit (λ h. Some (with_fields pairs h)) (always FieldsFit (with_fields pairs) (λ h old. with_fields_fit pairs h fit old))

remove_fields_keeps : (fields : List Bytes) → Keeps (remove_fields_step fields)
remove_fields_keeps fields = on_keeps hashes FieldsFit hashes_suit (λ h. Some (without_fields fields h)) (always FieldsFit (without_fields fields) (λ h old. without_fields_fit fields h old))

add_members_keeps : (members : List Bytes) → IsTrue (list_all fits members) → Keeps (add_members_step members)
add_members_keeps members fit = on_keeps sets MembersFit sets_suit (λ s. Some (with_members members s)) (always MembersFit (with_members members) (λ s old. with_members_fit members s fit old))

remove_members_keeps : (members : List Bytes) → Keeps (remove_members_step members)
remove_members_keeps members = on_keeps sets MembersFit sets_suit (λ s. Some (without_members members s)) (always MembersFit (without_members members) (λ s old. without_members_fit members s old))

set_scores_keeps : (pairs : List (Bytes × ℤ)) → IsTrue (list_all member_fits pairs) → IsTrue (list_all has_score pairs) → Keeps (set_scores_step pairs)
set_scores_keeps pairs fit within = on_keeps sorted_sets ScoresFit sorted_sets_suit (λ s. Some (with_scores pairs s)) (always ScoresFit (with_scores pairs) (λ s old. with_scores_fit pairs s fit within old))

pub remove_scores_keeps : (members : List Bytes) → Keeps (remove_scores_step members)
remove_scores_keeps members = on_keeps sorted_sets ScoresFit sorted_sets_suit (λ s. Some (without_scores members s)) (always ScoresFit (without_scores members) (λ s old. without_scores_fit members s old))

push_keeps : (end : End) (items : List Bytes) → IsTrue (list_all fits items) → Keeps (push_step end items)
push_keeps end items fit = on_keeps lists ItemsFit lists_suit (λ xs. Some (pushed end items xs)) (always ItemsFit (pushed end items) (λ xs old. pushed_fit end items xs fit old))

pop_keeps : (end : End) (n : ℤ) → Keeps (pop_step end n)
pop_keeps end n = on_keeps lists ItemsFit lists_suit (λ xs. if may_take n (length xs) then Some (popped end (unsigned_abs n) xs) else None) (λ xs ys old h. where_so ItemsFit (may_take n (length xs)) (popped end (unsigned_abs n) xs) ys (popped_fit end (unsigned_abs n) xs old) h)

set_item_keeps : (place : ℤ) (item : Bytes) → IsWord item → Keeps (set_item_step place item)
set_item_keeps place item fit = on_keeps lists ItemsFit lists_suit (λ xs. if is_place_of place (length xs) then Some (slice_set xs (unsigned_abs place) item) else None) (λ xs ys old h. where_so ItemsFit (is_place_of place (length xs)) (slice_set xs (unsigned_abs place) item) ys (set_fit xs (unsigned_abs place) item fit old) h)

insert_item_keeps : (side : Side) (pivot item : Bytes) → IsWord item → Keeps (insert_item_step side pivot item)
insert_item_keeps side pivot item fit = on_keeps lists ItemsFit lists_suit (λ xs. option_map (λ i. insert xs i item) (place_beside side pivot xs)) (λ xs ys old h. where_found ItemsFit (place_beside side pivot xs) (λ i. insert xs i item) ys (λ i t. inserted_fit xs i item fit old) h)

remove_items_keeps : (count : ℤ) (item : Bytes) → Keeps (remove_items_step count item)
remove_items_keeps count item = on_keeps lists ItemsFit lists_suit (λ xs. Some (without count item xs)) (always ItemsFit (without count item) (λ xs old. without_fit count item xs old))

trim_keeps : (first last : ℤ) → Keeps (trim_step first last)
trim_keeps first last = on_keeps lists ItemsFit lists_suit (λ xs. if is_part_of first last (length xs) then Some (slice_range xs (unsigned_abs first) (unsigned_abs last + 1)) else None) (λ xs ys old h. where_so ItemsFit (is_part_of first last (length xs)) (slice_range xs (unsigned_abs first) (unsigned_abs last + 1)) ys (range_fit xs (unsigned_abs first) (unsigned_abs last + 1) old) h)

turn_keeps : (taken put : End) → Keeps (turn_step taken put)
turn_keeps taken put = on_keeps lists ItemsFit lists_suit (turned taken put) (λ xs ys old h. where_found ItemsFit (end_item taken xs) (λ x. put_item put x (popped taken 1 xs)) ys (λ x t. put_item_fits put x (popped taken 1 xs) (end_item_fits taken xs x old t) (popped_fit taken 1 xs old)) h)

-- an item of a dataset is within the limit
item_fits : (m : Dataset) (k x : Bytes) (end : End) → IsDataset m → item_at end (get m k) ≡ Some x → IsWord x
item_fits m k x end old h =
    elim (held lists (get m k)) as (λ o. held lists (get m k) ≡ o → option_and_then (end_item end) o ≡ Some x → IsWord x) [
      | None ↦ λ s i. cc
      | Some xs ↦ λ s i. end_item_fits end xs x (held_suits lists ItemsFit lists_suit (get m k) xs (entry_at m k (get m k) refl old) s) i
    ] refl h

one_fits : (x : Bytes) → IsWord x → IsTrue (list_all fits (x ∷ []))
one_fits x fit = ap (λ b. b && true) fit

-- one change after another
then_keeps : (o : Option Dataset) (next : Dataset → Option Dataset) (n : Dataset) → option_and_then next o ≡ Some n → ((m : Dataset) → o ≡ Some m → IsDataset m) → ((m : Dataset) → IsDataset m → next m ≡ Some n → IsDataset n) → IsDataset n
then_keeps None next n h here there = cc
then_keeps (Some m) next n h here there = there m (here m refl) h

carry_item_keeps : (from to : Bytes) (taken put : End) (m n : Dataset) → IsDataset m → IsWord from → IsWord to → carry_item from to taken put m ≡ Some n → IsDataset n
carry_item_keeps from to taken put m n old fit_from fit_to h =
    elim (item_at taken (get m from)) as (λ o. item_at taken (get m from) ≡ o → option_and_then (λ item. option_and_then (at_key (push_step put (item ∷ [])) to) (at_key (pop_step taken (pos 1)) from m)) o ≡ Some n → IsDataset n) [
      | None ↦ λ s i. cc
      | Some item ↦ λ s i. then_keeps (at_key (pop_step taken (pos 1)) from m) (at_key (push_step put (item ∷ [])) to) n i
          (λ l t. at_key_keeps (pop_step taken (pos 1)) (pop_keeps taken (pos 1)) from m l old fit_from t)
          (λ l kept t. at_key_keeps (push_step put (item ∷ [])) (push_keeps put (item ∷ []) (one_fits item (item_fits m from item taken old s))) to l n kept fit_to t)
    ] refl h

move_item_keeps : (from to : Bytes) (taken put : End) (m n : Dataset) → IsDataset m → IsWord from → IsWord to → move_item from to taken put m ≡ Some n → IsDataset n
move_item_keeps from to taken put m n old fit_from fit_to h =
    elim (bytes_eq from to) as (λ b. (if b then at_key (turn_step taken put) from m else carry_item from to taken put m) ≡ Some n → IsDataset n) [
      | true ↦ λ i. at_key_keeps (turn_step taken put) (turn_keeps taken put) from m n old fit_from i
      | false ↦ λ i. carry_item_keeps from to taken put m n old fit_from fit_to i
    ] h

carry_member_keeps : (from to x : Bytes) (m n : Dataset) → IsDataset m → IsWord from → IsWord to → IsWord x → carry_member from to x m ≡ Some n → IsDataset n
carry_member_keeps from to x m n old fit_from fit_to fit_x h =
    then_keeps (at_key (remove_members_step (x ∷ [])) from m) (at_key (add_members_step (x ∷ [])) to) n h
    (λ l t. at_key_keeps (remove_members_step (x ∷ [])) (remove_members_keeps (x ∷ [])) from m l old fit_from t)
    (λ l kept t. at_key_keeps (add_members_step (x ∷ [])) (add_members_keeps (x ∷ []) (one_fits x fit_x)) to l n kept fit_to t)

move_member_keeps : (from to x : Bytes) (m n : Dataset) → IsDataset m → IsWord from → IsWord to → IsWord x → move_member from to x m ≡ Some n → IsDataset n
move_member_keeps from to x m n old fit_from fit_to fit_x h =
    elim (has_member x (get m from)) as (λ b. (if b then (if bytes_eq from to then Some m else carry_member from to x m) else None) ≡ Some n → IsDataset n) [
      | true ↦ elim (bytes_eq from to) as (λ b. (if b then Some m else carry_member from to x m) ≡ Some n → IsDataset n) [
        | true ↦ λ i. let same : m ≡ n = cc in subst IsDataset same old
        | false ↦ λ i. carry_member_keeps from to x m n old fit_from fit_to fit_x i
      ]
      | false ↦ λ i. cc
    ] h

-- an effect that is done leaves a dataset
pub change_keeps : (e : Effect) (m n : Dataset) → IsDataset m → IsTrue (has_spelling e) → IsTrue (words_fit e) → change e m ≡ Some n → IsDataset n
unfolding change
change_keeps (effect.Set k text) m n old spelled fit h = at_key_keeps (set_step text) (set_keeps text (second (fits k) (fits text) fit)) k m n old (first (fits k) (fits text) fit) h
change_keeps (effect.SetUntil k text d) m n old spelled fit h = at_key_keeps (set_until_step text d) (set_until_keeps text d (second (fits k) (fits text) fit) spelled) k m n old (first (fits k) (fits text) fit) h
change_keeps (effect.SetKeeping k text) m n old spelled fit h = at_key_keeps (set_keeping_step text) (set_keeping_keeps text (second (fits k) (fits text) fit)) k m n old (first (fits k) (fits text) fit) h
change_keeps (effect.Expire k d) m n old spelled fit h = at_key_keeps (expire_step d) (deadline_keeps (Some d) spelled) k m n old fit h
change_keeps (effect.Persist k) m n old spelled fit h = at_key_keeps persist_step (deadline_keeps None tt) k m n old fit h
change_keeps effect.Ping m n old spelled fit h = let same : m ≡ n = cc in subst IsDataset same old
change_keeps (effect.Del k) m n old spelled fit h = at_key_keeps del_step del_keeps k m n old fit h
change_keeps (effect.SetFields k pairs) m n old spelled fit h = at_key_keeps (set_fields_step pairs) (set_fields_keeps pairs (second (fits k) (list_all pair_fits pairs) fit)) k m n old (first (fits k) (list_all pair_fits pairs) fit) h
change_keeps (effect.RemoveFields k fields) m n old spelled fit h = at_key_keeps (remove_fields_step fields) (remove_fields_keeps fields) k m n old (first (fits k) (list_all fits fields) fit) h
change_keeps (effect.Push k end items) m n old spelled fit h = at_key_keeps (push_step end items) (push_keeps end items (second (fits k) (list_all fits items) fit)) k m n old (first (fits k) (list_all fits items) fit) h
change_keeps (effect.Pop k end count) m n old spelled fit h = at_key_keeps (pop_step end count) (pop_keeps end count) k m n old fit h
change_keeps (effect.SetItem k place item) m n old spelled fit h = at_key_keeps (set_item_step place item) (set_item_keeps place item (second (fits k) (fits item) fit)) k m n old (first (fits k) (fits item) fit) h
change_keeps (effect.InsertItem k side pivot item) m n old spelled fit h =
    let both = first (fits k && fits pivot) (fits item) fit in
    at_key_keeps (insert_item_step side pivot item) (insert_item_keeps side pivot item (second (fits k && fits pivot) (fits item) fit)) k m n old (first (fits k) (fits pivot) both) h
change_keeps (effect.RemoveItems k count item) m n old spelled fit h = at_key_keeps (remove_items_step count item) (remove_items_keeps count item) k m n old (first (fits k) (fits item) fit) h
change_keeps (effect.Trim k first' last) m n old spelled fit h = at_key_keeps (trim_step first' last) (trim_keeps first' last) k m n old fit h
change_keeps (effect.MoveItem from to taken put) m n old spelled fit h = move_item_keeps from to taken put m n old (first (fits from) (fits to) fit) (second (fits from) (fits to) fit) h
change_keeps (effect.AddMembers k members) m n old spelled fit h = at_key_keeps (add_members_step members) (add_members_keeps members (second (fits k) (list_all fits members) fit)) k m n old (first (fits k) (list_all fits members) fit) h
change_keeps (effect.RemoveMembers k members) m n old spelled fit h = at_key_keeps (remove_members_step members) (remove_members_keeps members) k m n old (first (fits k) (list_all fits members) fit) h
change_keeps (effect.MoveMember from to member) m n old spelled fit h =
    let both = first (fits from && fits to) (fits member) fit in
    move_member_keeps from to member m n old (first (fits from) (fits to) both) (second (fits from) (fits to) both) (second (fits from && fits to) (fits member) fit) h
change_keeps (effect.MSet pairs) m n old spelled fit h = let same : with_texts pairs m ≡ n = cc in subst IsDataset same (with_texts_keeps pairs m fit old)
change_keeps (effect.Append k more) m n old spelled fit h = at_key_keeps (append_step more) (append_keeps more) k m n old (first (fits k) (fits more) fit) h
change_keeps (effect.SetRange k offset part) m n old spelled fit h = at_key_keeps (set_range_step offset part) (set_range_keeps offset part) k m n old (first (fits k) (fits part) fit) h
change_keeps (effect.Increase k by) m n old spelled fit h = at_key_keeps (increase_step by) (increase_keeps by) k m n old fit h
change_keeps (effect.Rename from to) m n old spelled fit h = rename_keeps from to m n old (first (fits from) (fits to) fit) (second (fits from) (fits to) fit) h
change_keeps effect.Clear m n old spelled fit h = let same : empty ≡ n = cc in subst IsDataset same IsDataset-empty
change_keeps (effect.SetScores k scores) m n old spelled fit h =
    at_key_keeps (set_scores_step scores) (set_scores_keeps scores (second (fits k) (list_all member_fits scores) fit) (second (is_some_of scores) (list_all has_score scores) spelled)) k m n old (first (fits k) (list_all member_fits scores) fit) h
change_keeps (effect.RemoveScores k members) m n old spelled fit h = at_key_keeps (remove_scores_step members) (remove_scores_keeps members) k m n old (first (fits k) (list_all fits members) fit) h

-- .. and so does one that was refused, but for memory
pub applied_keeps : (e : Effect) (m new : Dataset) (r : Result (Unit {0}) ApplyFault) → IsDataset m → IsTrue (has_spelling e) → IsTrue (words_fit e) → Applies (change e m) m r new → (r ≡ Err Memory → ⊥) → IsDataset new
applied_keeps e m new r old spelled fit h some =
    elim (change e m) as (λ o. change e m ≡ o → Applies o m r new → IsDataset new) [
      | None ↦ λ t i. subst IsDataset (sym i.1) old
      | Some n ↦ λ t i. left r n t i some
    ] refl h
  where
    left : (r : Result (Unit {0}) ApplyFault) (n : Dataset) → change e m ≡ Some n → Applies (Some n) m r new → (r ≡ Err Memory → ⊥) → IsDataset new
    left (Ok u) n t i some = subst IsDataset (sym i.1) (change_keeps e m n old spelled fit t)
    left (Err Refused) n t i some = absurd (i.0 refl)
    left (Err Memory) n t i some = absurd (some refl)
