-- Moves have faithful effects.
use Rattle.std.proofs.Common.{◌<◌, ◌≡◌, pos, List, [], ◌∷◌, ◌++◌, length, take, drop, true, false, cond, Option, Some, None, refl, sym, ◌∙◌, ap, subst, arith}
use Rattle.std.specs.Prelude.{◌≢◌, ◌||◌, IsTrue, if◌then◌else◌}
use Rattle.std.specs.Option.{option_map, option_and_then}
use Rattle.std.specs.FinMap.{get}
use Rattle.std.specs.Str.{bytes_eq}
use Rattle.std.proofs.lemmas.Option.{same_Some}
use Rattle.mr_map.specs.Bytes.{Bytes}
use Rattle.mr_bytes.specs.Words.{fits}
use Rattle.mr_value.specs.Lists.{are_equal}
use Rattle.mr_bytes.specs.declared.ends.End.{End}
use Rattle.mr_bytes.specs.declared.ends.End.TheVariants.{Left, Right}
use Rattle.mr_bytes.proofs.Numbers.{equal_bytes}
use Rattle.mr_value.proofs.Uniform.{turns_left, turns_right}
use Rattle.mr_keyspace.specs.Dataset.{Dataset, put_at}
use Rattle.mr_keyspace.specs.Collections.{end_item, popped, put_item, turned, may_take}
use Rattle.mr_keyspace.specs.Steps.{lists, held, entry_of, deadline_of, turn_step, pop_step, push_step}
use Rattle.mr_keyspace.specs.Changes.{change, at_key, item_at, move_item, carry_item as carry_in}
use Rattle.mr_data.specs.Meaning.{apply, apply_all}
use Rattle.mr_keyspace.specs.declared.value.Entry.{Entry}
use Rattle.mr_keyspace.proofs.Ends.{turned_same, turned_right_left}
use Rattle.mr_effect.specs.declared.effect.Effect.{Effect}
use Rattle.mr_effect.specs.declared.effect.Effect.TheVariants as effect
use Rattle.mr_cmd_shared.specs.Taken.{is_key}
use Rattle.mr_keyspace.proofs.Puts.{is_key_symm, get_put, get_put_other, put_same}
use Rattle.mr_cmd_shared.proofs.Laws.{IsFaithfulAt, none_short, one_short}
use Rattle.mr_data.proofs.Running.{IsStep, same_collection}
use Rattle.mr_data.proofs.KindLaws.{lists_are}
use Rattle.mr_cmd_shared.proofs.Changing.{IsFaithfulChange}
use Rattle.mr_cmd_list.specs.Moves.{is_same_end, with_rotated, Carry, carry, carry_from, carry_to, carry_item, carried}
use Rattle.mr_cmd_list.proofs.Sizes.{not_both, both, end_some, may_take_some, popped_less}
use Rattle.mr_cmd_list.proofs.MoveLemmas.{apart_key}
use Rattle.mr_cmd_list.proofs.OneEffect.{no_effect, unless_same}
use Rattle.mr_effect.proofs.Texts.{short_effect}

-- ---- onto itself
turned_left_right : (xs : List Bytes) → 0 < length xs → turned Left Right xs ≡ Some (drop 1 xs ++ take 1 xs)
turned_left_right [] h = absurd (omega (arith, h))
turned_left_right (x ∷ xs) h = refl

-- what the item put back leaves
made : (taken put : End) (item : Bytes) (xs : List Bytes) → end_item taken xs ≡ Some item → turned taken put xs ≡ Some (put_item put item (popped taken 1 xs))
made taken put item xs is = ap (option_map (λ y. put_item put y (popped taken 1 xs))) is

stays : (taken put : End) (item : Bytes) (xs : List Bytes) → end_item taken xs ≡ Some item → (is_same_end taken put || are_equal xs) ≡ true → put_item put item (popped taken 1 xs) ≡ xs
stays Left Left item xs is h = same_Some _ _ (sym (made Left Left item xs is) ∙ turned_same Left xs (end_some Left xs item is))
stays Right Right item xs is h = same_Some _ _ (sym (made Right Right item xs is) ∙ turned_same Right xs (end_some Right xs item is))
stays Left Right item xs is h = same_Some _ _ (sym (made Left Right item xs is) ∙ turned_left_right xs (end_some Left xs item is)) ∙ (turns_left xs).0 h
stays Right Left item xs is h = same_Some _ _ (sym (made Right Left item xs is) ∙ turned_right_left xs (end_some Right xs item is)) ∙ (turns_right xs).0 h

turns : (taken put : End) (item : Bytes) (xs : List Bytes) → end_item taken xs ≡ Some item → (is_same_end taken put || are_equal xs) ≡ false → put_item put item (popped taken 1 xs) ≢ xs
turns Left Left item xs is h same = cc
turns Right Right item xs is h same = cc
turns Left Right item xs is h same = not_both ((turns_left xs).1 (same_Some _ _ (sym (turned_left_right xs (end_some Left xs item is)) ∙ made Left Right item xs is) ∙ same)) h
turns Right Left item xs is h same = not_both ((turns_right xs).1 (same_Some _ _ (sym (turned_right_left xs (end_some Right xs item is)) ∙ made Right Left item xs is) ∙ same)) h

turn_is_step : (k : Bytes) (taken put : End) → IsTrue (fits k) → IsStep k (effect.MoveItem k k taken put) (turn_step taken put)
unfolding change
turn_is_step k taken put named = record { possible = both (fits k) (fits k) named named; short = short_effect (effect.MoveItem k k taken put) (omega arith); is = λ m. ap (λ b. if b then at_key (turn_step taken put) k m else carry_in k k taken put m) (equal_bytes k) }

module _ (k : Bytes) (x : List Bytes) (o : Option Entry) (named : IsTrue (fits k)) (there : held lists o ≡ Some x) where
  pub turn_faithful : (taken put : End) → IsFaithfulChange lists (with_rotated k taken put (end_item taken x) x) x k o
  turn_faithful taken put = elim (end_item taken x) as (λ i. end_item taken x ≡ i → IsFaithfulChange lists (with_rotated k taken put i x) x k o) [
    | None ↦ λ is. no_effect _ x k o refl refl
    | Some item ↦ λ is.
        unless_same _ x k o (turned taken put) there (effect.MoveItem k k taken put) (is_same_end taken put || are_equal x) refl (turn_is_step k taken put named)
        (λ h. stays taken put item x is h)
        (λ h. made taken put item x is)
        (λ h. turns taken put item x is h)
  ] refl

-- ---- from one key to another
module _ (s d : Bytes) (taken put : End) (apart : bytes_eq s d ≡ false) (m : Dataset) where
  -- nothing changes
  carried_nothing : (c : Carry) → c.source ≡ get m s → c.target ≡ get m d → c.effects ≡ [] → IsFaithfulAt (carried s d c m) m
  carried_nothing c source target none =
      let same : put_at (put_at m s c.source) d c.target ≡ m =
      ap (λ (n : Dataset). put_at n d c.target) (put_same m s c.source (sym source)) ∙ put_same m d c.target (sym target) in
      record {
        leads = ap (λ (es : List Effect). apply_all es m) none ∙ ap Some (sym same);
        short = none_short c.effects none;
        none = λ _. same;
        some = λ _. none;
      }

  module _ (named_s : IsTrue (fits s)) (named_d : IsTrue (fits d)) (item : Bytes) (xs ys : List Bytes) (source : held lists (get m s) ≡ Some xs) (target : held lists (get m d) ≡ Some ys) (is : end_item taken xs ≡ Some item) where
    abbrev left : Option Entry
    left = entry_of lists (deadline_of (get m s)) (popped taken 1 xs)

    abbrev got : Option Entry
    got = entry_of lists (deadline_of (get m d)) (put_item put item ys)

    there : item_at taken (get m s) ≡ Some item
    there = ap (option_and_then (end_item taken)) source ∙ is

    may : may_take (pos 1) (length xs) ≡ true
    may = let some = end_some taken xs item is in may_take_some 1 (length xs) (omega arith) (omega arith)

    first : at_key (pop_step taken (pos 1)) s m ≡ Some (put_at m s left)
    first = ap (λ o. option_map (put_at m s) (option_and_then (λ (zs : List Bytes). option_map (entry_of lists (deadline_of (get m s))) (if may_take (pos 1) (length zs) then Some (popped taken 1 zs) else None)) o)) source
        ∙ ap (λ b. option_map (put_at m s) (option_map (entry_of lists (deadline_of (get m s))) (if b then Some (popped taken 1 xs) else None))) may

    target_kept : get (put_at m s left) d ≡ get m d
    target_kept = get_put_other m s left d ∙ ap (λ b. cond b left (get m d)) (apart_key s d apart)

    second : at_key (push_step put (item ∷ [])) d (put_at m s left) ≡ Some (put_at (put_at m s left) d got)
    second = ap (λ o. option_map (put_at (put_at m s left) d) (push_step put (item ∷ []) o)) target_kept
        ∙ ap (λ o. option_map (put_at (put_at m s left) d) (option_and_then (λ (zs : List Bytes). Some (entry_of lists (deadline_of (get m d)) (put_item put item zs))) o)) target

    carries : carry_in s d taken put m ≡ Some (put_at (put_at m s left) d got)
    carries = ap (option_and_then (λ (y : Bytes). option_and_then (at_key (push_step put (y ∷ [])) d) (at_key (pop_step taken (pos 1)) s m))) there
        ∙ ap (option_and_then (at_key (push_step put (item ∷ [])) d)) first ∙ second

    applies : apply (effect.MoveItem s d taken put) m ≡ Some (put_at (put_at m s left) d got)
    unfolding apply change
    applies = ap (λ b. if b then move_item s d taken put m else None) (both (fits s) (fits d) named_s named_d)
        ∙ ap (λ b. if b then at_key (turn_step taken put) s m else carry_in s d taken put m) apart ∙ carries

    source_left : get (put_at (put_at m s left) d got) s ≡ left
    source_left = get_put_other (put_at m s left) d got s ∙ ap (λ b. cond b got (get (put_at m s left) s)) other ∙ get_put m s left
      where
        other : is_key s d ≡ false
        other = is_key_symm s d ∙ apart_key s d apart

    changes : put_at (put_at m s left) d got ≢ m
    changes h =
        let some = end_some taken xs item is in
        popped_less taken 1 xs (omega arith) (omega arith) (same_collection lists lists_are (get m s) xs (popped taken 1 xs) source (sym source_left ∙ ap (λ (n : Dataset). get n s) h))

    carried_item : IsFaithfulAt (carried s d (carry_item s d taken put (Some item) xs ys (get m s) (get m d)) m) m
    carried_item = record {
      leads = ap (option_and_then (apply_all [])) applies;
      short = one_short (effect.MoveItem s d taken put) (short_effect (effect.MoveItem s d taken put) (omega arith));
      none = λ e. cc;
      some = λ h. absurd (changes h);
    }

  module _ (named_s : IsTrue (fits s)) (named_d : IsTrue (fits d)) where
    by_item : (xs ys : List Bytes) → held lists (get m s) ≡ Some xs → held lists (get m d) ≡ Some ys → (i : Option Bytes) → end_item taken xs ≡ i → IsFaithfulAt (carried s d (carry_item s d taken put i xs ys (get m s) (get m d)) m) m
    by_item xs ys source target None is = carried_nothing _ refl refl refl
    by_item xs ys source target (Some item) is = carried_item named_s named_d item xs ys source target is

    by_target : (xs : List Bytes) → held lists (get m s) ≡ Some xs → (q : Option (List Bytes)) → held lists (get m d) ≡ q → IsFaithfulAt (carried s d (carry_to s d taken put xs q (get m s) (get m d)) m) m
    by_target xs source None target = carried_nothing _ refl refl refl
    by_target xs source (Some ys) target = by_item xs ys source target (end_item taken xs) refl

    by_source : (q : Option (List Bytes)) → held lists (get m s) ≡ q → IsFaithfulAt (carried s d (carry_from s d taken put q (get m s) (get m d)) m) m
    by_source None source = carried_nothing _ refl refl refl
    by_source (Some xs) source = by_target xs source (held lists (get m d)) refl

    pub carry_faithful : IsFaithfulAt (carried s d (carry s d taken put (get m s) (get m d)) m) m
    carry_faithful = elim (get m s) as (λ o. get m s ≡ o → IsFaithfulAt (carried s d (carry s d taken put o (get m d)) m) m) [
      | None ↦ λ is. carried_nothing _ (sym is) refl refl
      | Some e ↦ λ is. subst (λ (o : Option Entry). IsFaithfulAt (carried s d (carry_from s d taken put (lists.of e.value) o (get m d)) m) m) is (by_source (lists.of e.value) (ap (held lists) is))
    ] refl
