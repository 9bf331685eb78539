-- What commands on lists tell of what others left.
use Rattle.std.proofs.Common.{ℕ, suc, ℤ, pos, negsuc, ◌≡◌, ◌+◌, ◌-◌, List, [], ◌∷◌, ◌++◌, length, take, length-append, append_assoc, true, false, Option, Some, None, refl, sym, ◌∙◌, ap, rules, arith}
use Rattle.std.specs.Prelude.{◌≢◌, reverse, slice_get, if◌then◌else◌}
use Rattle.std.specs.FinMap.{get}
use Rattle.std.specs.Option.{option_and_then}
use Rattle.std.specs.Str.{bytes_eq}
use Rattle.std.proofs.lemmas.Bool.{ne_eqb}
use Rattle.std.proofs.lemmas.Int.{ints}
use Rattle.std.proofs.lemmas.List.{reverse-append, length-reverse, take_all, drop_all}
use Rattle.mr_map.specs.Bytes.{Bytes}
use Rattle.mr_bytes.specs.Window.{named_place, window_of, windowed}
use Rattle.mr_bytes.specs.declared.ends.End.{End}
use Rattle.mr_bytes.specs.declared.ends.End.TheVariants.{Left, Right}
use Rattle.mr_bytes.proofs.Places.{from_front, past_end, from_end}
use Rattle.mr_bytes.proofs.Numbers.{same_bytes}
use Rattle.mr_resp.specs.Replies as reply
use Rattle.mr_resp.specs.Replies.{Tree}
use Rattle.mr_keyspace.specs.Collections.{put_item, pushed, popped, end_item}
use Rattle.mr_keyspace.specs.Dataset.{put_at}
use Rattle.mr_keyspace.specs.Steps.{lists, held, entry_of, deadline_of}
use Rattle.mr_keyspace.specs.declared.value.Value.TheVariants as value
use Rattle.mr_keyspace.specs.declared.value.Entry.{Entry}
use Rattle.mr_keyspace.proofs.Ends.{no_end}
use Rattle.mr_keyspace.proofs.Puts.{get_put}
use Rattle.mr_cmd_list.specs.declared.list_ask.PushTo.TheVariants.{AnyKey, ExistingKey}
use Rattle.mr_cmd_shared.specs.Collections.{replied, changed}
use Rattle.mr_cmd_shared.specs.Outcomes.{at_key}
use Rattle.mr_cmd_shared.specs.Answered.{wrong_kind}
use Rattle.mr_cmd_list.specs.Laws.{PushAnswersLength, PushIsRead, PopTakesTheEnd, MoveTakesTheEnd, MovePutsAtTheEnd, with_pushed, end_index}
use Rattle.mr_cmd_list.specs.Lists.{of_list, item_reply, items_reply}
use Rattle.mr_cmd_list.specs.Moves.{rotate_answer, with_rotated, carry, carry_from, carry_to, carry_item, carried}
use Rattle.mr_cmd_list.specs.Pops.{without_item}
use Rattle.mr_cmd_list.specs.Pushes.{push_change}
use Rattle.mr_cmd_list.specs.Telling.{llen_answer, lrange_answer, named_item, lindex_answer}

-- ---- what is answered of a list that was left
some_entry : (d : Option ℤ) (y : Bytes) (ys : List Bytes) → entry_of lists d (y ∷ ys) ≡ Some (record { value = value.List (y ∷ ys); deadline = d })
some_entry d y ys = ap (λ b. let none : Option Entry = None in if b then none else Some (record { value = value.List (y ∷ ys); deadline = d })) (ne_eqb (length (y ∷ ys)) 0 (λ e. omega (arith, e)))

of_left : (absent : Tree) (answer : List Bytes → Tree) (d : Option ℤ) (ys : List Bytes) → absent ≡ answer [] → (of_list absent answer (entry_of lists d ys)).reply ≡ answer ys
of_left absent answer d [] h = h
of_left absent answer d (y ∷ ys) h = ap (λ o. (of_list absent answer o).reply) (some_entry d y ys)

-- .. and of a value of another kind
of_other : (absent : Tree) (answer : List Bytes → Tree) (before : Option Entry) → held lists before ≡ None → wrong_kind ≡ (of_list absent answer before).reply
of_other absent answer None h = cc
of_other absent answer (Some e) h = ap (λ o. (replied lists answer o (Some e)).reply) (sym h)

-- ---- pushes
pushed_is : (end : End) (items xs : List Bytes) → pushed end items xs ≡ with_pushed end items xs
pushed_is Left [] xs = refl
pushed_is Left (x ∷ items) xs =
    pushed_is Left items (x ∷ xs)
    ∙ sym (append_assoc (reverse items) (x ∷ []) xs)
    ∙ ap (λ ys. ys ++ xs) (sym (reverse-append (x ∷ []) items))
pushed_is Right [] xs = search rules
pushed_is Right (x ∷ items) xs = pushed_is Right items (xs ++ x ∷ []) ∙ append_assoc xs (x ∷ []) items

with_length : (end : End) (items xs : List Bytes) → length xs + length items ≡ length (with_pushed end items xs)
with_length Left items xs = omega (arith, length-append (reverse items) xs, length-reverse items)
with_length Right items xs = omega (arith, length-append xs items)

length_left : (end : End) (items xs : List Bytes) (d : Option ℤ) → reply.int (pos (length xs + length items)) ≡ (llen_answer (entry_of lists d (pushed end items xs))).reply
length_left end items xs d =
    ap (λ n. reply.int (pos n)) (with_length end items xs ∙ ap length (sym (pushed_is end items xs)))
    ∙ sym (of_left (reply.int (pos 0)) (λ ys. reply.int (pos (length ys))) d (pushed end items xs) refl)

pushed_length : (k : Bytes) (end : End) (items : List Bytes) (before : Option Entry) (h : Option (List Bytes)) → held lists before ≡ h
    → (changed lists (push_change k end items) h before).reply ≡ (llen_answer (changed lists (push_change k end items) h before).entry).reply
pushed_length k end items before None e = of_other (reply.int (pos 0)) (λ ys. reply.int (pos (length ys))) before e
pushed_length k end items before (Some xs) e = length_left end items xs (deadline_of before)

pub push_length : PushAnswersLength
push_length k end AnyKey items before = pushed_length k end items before (held lists before) refl
push_length k end ExistingKey items None = refl
push_length k end ExistingKey items (Some e) = pushed_length k end items (Some e) (held lists (Some e)) refl

none_cut : (w : Option (ℕ × ℕ)) → windowed {X = Bytes} w [] ≡ []
none_cut None = refl
none_cut (Some w) = ap (take (w.1 + 1 - w.0)) (drop_all {X = Bytes} w.0 [] (omega arith)) ∙ take_all {A = Bytes} (w.1 + 1 - w.0) [] (omega arith)

pub push_read : PushIsRead
push_read k end items xs first last before is =
    ap (λ h. (lrange_answer first last (changed lists (push_change k end items) h before).entry).reply) is
    ∙ of_left (items_reply []) (λ ys. items_reply (windowed (window_of first last (length ys)) ys)) (deadline_of before) (pushed end items xs) (ap items_reply (sym (none_cut (window_of first last 0))))
    ∙ ap (λ ys. items_reply (windowed (window_of first last (length ys)) ys)) (pushed_is end items xs)

-- ---- the item at an end
last_place : (n : ℕ) → Some n ≡ named_place (negsuc 0) (suc n)
last_place n = from_end (negsuc 0) (suc n) 1 (Some n) (omega (arith, ints)) refl (omega arith, omega arith)

end_named : (end : End) (xs : List Bytes) → named_item (end_index end) xs ≡ end_item end xs
end_named Left [] = ap (option_and_then (slice_get {X = Bytes} [])) (sym (past_end (pos 0) 0 (omega (arith, ints)) (omega arith)))
end_named Left (x ∷ xs) = ap (option_and_then (slice_get (x ∷ xs))) (sym (from_front (pos 0) (length (x ∷ xs)) (omega (arith, ints)) (omega arith)))
end_named Right [] = no_item (named_place (negsuc 0) 0)
  where
    no_item : (o : Option ℕ) → option_and_then (slice_get {X = Bytes} []) o ≡ None
    no_item None = refl
    no_item (Some n) = refl
end_named Right (x ∷ xs) =
    ap (option_and_then (slice_get (x ∷ xs))) (sym (last_place (length xs)))
    ∙ ap (slice_get (x ∷ xs)) (let same : length xs ≡ suc (length xs) - 1 = omega arith in same)

last_item : (x : Bytes) (zs : List Bytes) → slice_get (zs ++ x ∷ []) (length zs) ≡ Some x
last_item x [] = refl
last_item x (z ∷ zs) = last_item x zs

put_there : (end : End) (x : Bytes) (zs : List Bytes) → end_item end (put_item end x zs) ≡ Some x
put_there Left x zs = refl
put_there Right x zs = ap (slice_get (zs ++ x ∷ [])) (let at : length (zs ++ x ∷ []) - 1 ≡ length zs = omega (arith, length-append zs (x ∷ [])) in at) ∙ last_item x zs

-- LINDEX shows what was put at an end
shown_there : (put : End) (x : Bytes) (zs : List Bytes) (d : Option ℤ) → (lindex_answer (end_index put) (entry_of lists d (put_item put x zs))).reply ≡ reply.bytes x
shown_there put x zs d =
    of_left reply.null_bulk (λ ys. item_reply (named_item (end_index put) ys)) d (put_item put x zs) (ap item_reply (sym (end_named put [] ∙ no_end put)))
    ∙ ap item_reply (end_named put (put_item put x zs) ∙ put_there put x zs)

-- ---- pops
popped_reply : (k : Bytes) (end : End) (o : Option Bytes) (xs : List Bytes) → (without_item k end o xs).reply ≡ item_reply o
popped_reply k end None xs = refl
popped_reply k end (Some x) xs = refl

popped_end : (k : Bytes) (end : End) (e : Entry) (h : Option (List Bytes))
    → (changed lists (λ xs. without_item k end (end_item end xs) xs) h (Some e)).reply ≡ (replied lists (λ xs. item_reply (named_item (end_index end) xs)) h (Some e)).reply
popped_end k end e None = refl
popped_end k end e (Some xs) = popped_reply k end (end_item end xs) xs ∙ ap item_reply (sym (end_named end xs))

pub pop_end : PopTakesTheEnd
pop_end k end None = refl
pop_end k end (Some e) = popped_end k end e (held lists (Some e))

-- ---- LMOVE onto itself
turned_reply : (k : Bytes) (taken put : End) (o : Option Bytes) (xs : List Bytes) → (with_rotated k taken put o xs).reply ≡ item_reply o
turned_reply k taken put None xs = refl
turned_reply k taken put (Some x) xs = refl

turned_end : (k : Bytes) (taken put : End) (before : Option Entry) → (rotate_answer k taken put before).reply ≡ (lindex_answer (end_index taken) before).reply
turned_end k taken put None = refl
turned_end k taken put (Some e) = elim (held lists (Some e)) as (λ h. (changed lists (λ xs. with_rotated k taken put (end_item taken xs) xs) h (Some e)).reply ≡ (replied lists (λ xs. item_reply (named_item (end_index taken) xs)) h (Some e)).reply) [
  | None ↦ refl
  | Some xs ↦ turned_reply k taken put (end_item taken xs) xs ∙ ap item_reply (sym (end_named taken xs))
]

turned_put : (k item : Bytes) (taken put : End) (before : Option Entry) → (rotate_answer k taken put before).reply ≡ reply.bytes item → (lindex_answer (end_index put) (rotate_answer k taken put before).entry).reply ≡ reply.bytes item
turned_put k item taken put None = λ h. cc
turned_put k item taken put (Some e) = elim (held lists (Some e)) as (λ h.
    (changed lists (λ xs. with_rotated k taken put (end_item taken xs) xs) h (Some e)).reply ≡ reply.bytes item
    → (lindex_answer (end_index put) (changed lists (λ xs. with_rotated k taken put (end_item taken xs) xs) h (Some e)).entry).reply ≡ reply.bytes item) [
      | None ↦ λ h. cc
      | Some xs ↦ elim (end_item taken xs) as (λ o.
          (with_rotated k taken put o xs).reply ≡ reply.bytes item
          → (lindex_answer (end_index put) (entry_of lists e.deadline (with_rotated k taken put o xs).value)).reply ≡ reply.bytes item) [
            | None ↦ λ h. cc
            | Some x ↦ λ h. shown_there put x (popped taken 1 xs) e.deadline ∙ h
          ]
    ]

-- ---- LMOVE from one key to another
carried_reply : (from to : Bytes) (taken put : End) (o : Option Bytes) (xs ys : List Bytes) (source target : Option Entry) → (carry_item from to taken put o xs ys source target).reply ≡ item_reply o
carried_reply from to taken put None xs ys source target = refl
carried_reply from to taken put (Some x) xs ys source target = refl

carried_end : (from to : Bytes) (taken put : End) (source target : Option Entry) → (carry from to taken put source target).reply ≢ wrong_kind → (carry from to taken put source target).reply ≡ (lindex_answer (end_index taken) source).reply
carried_end from to taken put None target = λ other. refl
carried_end from to taken put (Some e) target = elim (held lists (Some e)) as (λ h. (carry_from from to taken put h (Some e) target).reply ≢ wrong_kind → (carry_from from to taken put h (Some e) target).reply ≡ (replied lists (λ xs. item_reply (named_item (end_index taken) xs)) h (Some e)).reply) [
  | None ↦ λ other. refl
  | Some xs ↦ elim (held lists target) as (λ h. (carry_to from to taken put xs h (Some e) target).reply ≢ wrong_kind → (carry_to from to taken put xs h (Some e) target).reply ≡ item_reply (named_item (end_index taken) xs)) [
    | None ↦ λ other. absurd (other refl)
    | Some ys ↦ λ other. carried_reply from to taken put (end_item taken xs) xs ys (Some e) target ∙ ap item_reply (sym (end_named taken xs))
  ]
]

carried_put : (from to item : Bytes) (taken put : End) (source target : Option Entry) → (carry from to taken put source target).reply ≡ reply.bytes item → (lindex_answer (end_index put) (carry from to taken put source target).target).reply ≡ reply.bytes item
carried_put from to item taken put None target = λ h. cc
carried_put from to item taken put (Some e) target = elim (held lists (Some e)) as (λ h. (carry_from from to taken put h (Some e) target).reply ≡ reply.bytes item → (lindex_answer (end_index put) (carry_from from to taken put h (Some e) target).target).reply ≡ reply.bytes item) [
  | None ↦ λ h. cc
  | Some xs ↦ elim (held lists target) as (λ h. (carry_to from to taken put xs h (Some e) target).reply ≡ reply.bytes item → (lindex_answer (end_index put) (carry_to from to taken put xs h (Some e) target).target).reply ≡ reply.bytes item) [
    | None ↦ λ h. cc
    | Some ys ↦ elim (end_item taken xs) as (λ o. (carry_item from to taken put o xs ys (Some e) target).reply ≡ reply.bytes item → (lindex_answer (end_index put) (carry_item from to taken put o xs ys (Some e) target).target).reply ≡ reply.bytes item) [
      | None ↦ λ h. cc
      | Some x ↦ λ h. shown_there put x ys (deadline_of target) ∙ h
    ]
  ]
]

-- ---- LMOVE
pub move_taken : MoveTakesTheEnd
move_taken from to taken put m =
    elim (bytes_eq from to) as (λ b.
    (if b then at_key from (rotate_answer from taken put) m else carried from to (carry from to taken put (get m from) (get m to)) m).reply ≢ wrong_kind
    → (if b then at_key from (rotate_answer from taken put) m else carried from to (carry from to taken put (get m from) (get m to)) m).reply ≡ (lindex_answer (end_index taken) (get m from)).reply) [
      | true ↦ λ other. turned_end from taken put (get m from)
      | false ↦ carried_end from to taken put (get m from) (get m to)
    ]

pub move_put : MovePutsAtTheEnd
move_put from to item taken put m =
    elim (bytes_eq from to) as (λ b. bytes_eq from to ≡ b →
    (if b then at_key from (rotate_answer from taken put) m else carried from to (carry from to taken put (get m from) (get m to)) m).reply ≡ reply.bytes item
    → (lindex_answer (end_index put) (get (if b then at_key from (rotate_answer from taken put) m else carried from to (carry from to taken put (get m from) (get m to)) m).after to)).reply ≡ reply.bytes item) [
      | true ↦ λ same h.
          let left : Option Entry = (rotate_answer from taken put (get m from)).entry in
          ap (λ (q : Bytes). (lindex_answer (end_index put) (get (put_at m from left) q)).reply) (sym (same_bytes from to same))
          ∙ ap (λ o. (lindex_answer (end_index put) o).reply) (get_put m from left)
          ∙ turned_put from item taken put (get m from) h
      | false ↦ λ apart h.
          let both = carry from to taken put (get m from) (get m to) in
          ap (λ o. (lindex_answer (end_index put) o).reply) (get_put (put_at m from both.source) to both.target)
          ∙ carried_put from to item taken put (get m from) (get m to) h
    ] refl
