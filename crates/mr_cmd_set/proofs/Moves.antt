-- A member that goes from one set into another.
use Rattle.std.proofs.Common.{◌≡◌, List, [], ◌∷◌, ◌++◌, append_assoc, Bool, true, false, ◌&&◌, cond, Option, Some, None, refl, sym, ◌∙◌, ap, arith}
use Rattle.std.specs.Prelude.{IsTrue, ℤ, ◌||◌, not, is_some, if◌then◌else◌}
use Rattle.std.specs.List.{list_all}
use Rattle.std.specs.Option.{option_map, option_and_then}
use Rattle.std.specs.FinMap.{get, contains_key, insert, remove}
use Rattle.std.specs.Str.{bytes_eq}
use Rattle.std.proofs.lemmas.List.{map-append}
use Rattle.mr_map.specs.Bytes.{Bytes}
use Rattle.mr_bytes.specs.Words.{fits}
use Rattle.mr_bytes.proofs.Numbers.{same_bytes}
use Rattle.mr_resp.specs.Replies.{Tree}
use Rattle.mr_keyspace.specs.Dataset.{Dataset, put_at}
use Rattle.mr_data.specs.Dataset.{live, seen}
use Rattle.mr_keyspace.specs.Steps.{sets, held, entry_of, deadline_of, set_of, add_members_step, remove_members_step}
use Rattle.mr_keyspace.specs.Changes.{change, at_key, is_member, has_member, carry_member}
use Rattle.mr_data.specs.Meaning.{apply, apply_all}
use Rattle.mr_keyspace.specs.declared.value.Value.{Value}
use Rattle.mr_keyspace.specs.declared.value.Value.TheVariants as value
use Rattle.mr_keyspace.specs.declared.value.Entry.{Entry}
use Rattle.mr_data.proofs.Seeing.{get-seen}
use Rattle.mr_effect.specs.declared.effect.Effect.{Effect}
use Rattle.mr_effect.specs.declared.effect.Effect.TheVariants as effect
use Rattle.mr_cmd_shared.specs.Taken.{is_key, has}
use Rattle.mr_cmd_shared.specs.Keys.{expired, purged, dels, is_stored}
use Rattle.mr_cmd_shared.specs.Outcomes.{answered}
use Rattle.mr_cmd_shared.specs.Commands.{Command, before, Plans}
use Rattle.mr_keyspace.proofs.Puts.{is_key_itself, get_put, get_put_other, get_remove}
use Rattle.mr_cmd_shared.proofs.KeyLists.{get_purged}
use Rattle.mr_cmd_shared.proofs.Laws.{faithful, IsFaithfulAt, IsLawful, answered_faithful, one_short}
use Rattle.mr_cmd_shared.proofs.TakenLemmas.{keys_apart, apart_turned}
use Rattle.mr_data.proofs.Running.{held_entry}
use Rattle.mr_data.proofs.KindLaws.{sets_are}
use Rattle.mr_cmd_set.specs.Members.{Members}
use Rattle.mr_cmd_set.specs.Sets.{number}
use Rattle.mr_cmd_set.specs.Moving.{carried, moved, moving, smove, Gives}
use Rattle.mr_cmd_set.proofs.Sets.{contains_remove}
use Rattle.mr_effect.proofs.Texts.{short_effect}

get_other : (m : Dataset) (k q : Bytes) (o : Option Entry) → bytes_eq q k ≡ false → get (put_at m k o) q ≡ get m q
get_other m k q o h = get_put_other m k o q ∙ ap (λ b. cond b o (get m q)) (keys_apart q k h)

member_of : (v : Value) (s : Members) (x : Bytes) → set_of v ≡ Some s → contains_key s x ≡ true → is_member x v ≡ true
member_of (value.Set t) s x h c = let same : t ≡ s = cc in ap (λ (u : Members). contains_key u x) same ∙ c
member_of (value.Text t) s x h c = cc
member_of (value.Hash t) s x h c = cc
member_of (value.List t) s x h c = cc
member_of (value.SortedSet t) s x h c = cc

member_there : (o : Option Entry) (s : Members) (x : Bytes) → is_some o ≡ true → held sets o ≡ Some s → contains_key s x ≡ true → has_member x o ≡ true
member_there None s x i h c = cc
member_there (Some e) s x i h c = member_of e.value s x h c

-- ---- the effect
module _ (from to x : Bytes) (m : Dataset) (s d : Members) (source : held sets (get m from) ≡ Some s) (target : held sets (get m to) ≡ Some d) where
  taken_out : at_key (remove_members_step (x ∷ [])) from m ≡ Some (put_at m from (entry_of sets (deadline_of (get m from)) (remove s x)))
  taken_out = ap (λ o. option_map (put_at m from) (option_and_then (λ (t : Members). option_map (entry_of sets (deadline_of (get m from))) (Some (remove t x))) o)) source

  put_in : (n : Dataset) → get n to ≡ get m to → at_key (add_members_step (x ∷ [])) to n ≡ Some (put_at n to (entry_of sets (deadline_of (get m to)) (insert d x tt)))
  put_in n h =
      ap (λ (o : Option Entry). option_map (put_at n to) (option_and_then (λ (t : Members). option_map (entry_of sets (deadline_of o)) (Some (insert t x tt))) (held sets o))) h
      ∙ ap (λ o. option_map (put_at n to) (option_and_then (λ (t : Members). option_map (entry_of sets (deadline_of (get m to))) (Some (insert t x tt))) o)) target

  module _ (differ : bytes_eq from to ≡ false) where
    carries : carry_member from to x m ≡ Some (carried from to x m s d)
    carries = ap (option_and_then (at_key (add_members_step (x ∷ [])) to)) taken_out ∙ put_in (put_at m from (entry_of sets (deadline_of (get m from)) (remove s x))) (get_other m from to _ (apart_turned from to differ))

    carry_leads : is_some (get m from) ≡ true → contains_key s x ≡ true → fits from && fits to && fits x ≡ true → apply_all (effect.MoveMember from to x ∷ []) m ≡ Some (carried from to x m s d)
    unfolding apply change
    carry_leads there member fit =
        ap (λ b. option_and_then (apply_all []) (if b then (if has_member x (get m from) then (if bytes_eq from to then Some m else carry_member from to x m) else None) else None)) fit
        ∙ ap (λ b. option_and_then (apply_all []) (if b then (if bytes_eq from to then Some m else carry_member from to x m) else None)) (member_there (get m from) s x there source member)
        ∙ ap (λ b. option_and_then (apply_all []) (if b then Some m else carry_member from to x m)) differ
        ∙ ap (option_and_then (apply_all [])) carries

    -- the source isn't what it was
    carry_changes : contains_key s x ≡ true → carried from to x m s d ≡ m → ⊥
    carry_changes member same =
        let entry : entry_of sets (deadline_of (get m from)) (remove s x) ≡ get m from =
        sym (get_put m from (entry_of sets (deadline_of (get m from)) (remove s x)))
        ∙ sym (get_other (put_at m from (entry_of sets (deadline_of (get m from)) (remove s x))) to from (entry_of sets (deadline_of (get m to)) (insert d x tt)) differ)
        ∙ ap (λ (n : Dataset). get n from) same in
        let left : Some (remove s x) ≡ Some s = sym (held_entry sets sets_are (deadline_of (get m from)) (remove s x) (get m from) entry) ∙ source in
        let still : remove s x ≡ s = cc in
        let is_removed : contains_key (remove s x) x ≡ false = contains_remove s x x ∙ ap (λ b. not b && contains_key s x) (is_key_itself x) in
        let wrong : true ≡ false = sym member ∙ ap (λ (t : Members). contains_key t x) (sym still) ∙ is_removed in
        absurd (cc)

-- ---- the law
module _ (from to x : Bytes) (m : Dataset) (fit : fits from && fits to && fits x ≡ true) where
  moved_faithful : (s d : Members) → held sets (get m from) ≡ Some s → held sets (get m to) ≡ Some d → is_some (get m from) ≡ true → contains_key s x ≡ true → IsFaithfulAt (moved from to x m s d) m
  moved_faithful s d source target there member = elim (bytes_eq from to) as (λ b. bytes_eq from to ≡ b → IsFaithfulAt (if b then record { reply = number 1; after = m; effects = [] } else record { reply = number 1; after = carried from to x m s d; effects = effect.MoveMember from to x ∷ [] }) m) [
    | true ↦ λ t. answered_faithful _ m refl refl
    | false ↦ λ t. record {
      leads = carry_leads from to x m s d source target t there member fit;
      short = one_short (effect.MoveMember from to x) (short_effect (effect.MoveMember from to x) (omega arith));
      none = λ e. cc;
      some = λ e. absurd (carry_changes from to x m s d source target t member e);
    }
  ] refl

  moving_faithful : (a b : Option Members) → held sets (get m from) ≡ a → held sets (get m to) ≡ b → is_some (get m from) ≡ true → IsFaithfulAt (moving from to x m a b) m
  moving_faithful None b source target there = answered_faithful _ m refl refl
  moving_faithful (Some s) None source target there = answered_faithful _ m refl refl
  moving_faithful (Some s) (Some d) source target there = elim (contains_key s x) as (λ c. contains_key s x ≡ c → IsFaithfulAt (if c then moved from to x m s d else answered (number 0) m) m) [
    | true ↦ λ t. moved_faithful s d source target there t
    | false ↦ λ t. answered_faithful _ m refl refl
  ] refl

  pub move_at : IsFaithfulAt (smove from to x m) m
  move_at = elim (is_some (get m from)) as (λ c. is_some (get m from) ≡ c → IsFaithfulAt (if c then moving from to x m (held sets (get m from)) (held sets (get m to)) else answered (number 0) m) m) [
    | true ↦ λ t. moving_faithful (held sets (get m from)) (held sets (get m to)) refl refl t
    | false ↦ λ t. answered_faithful _ m refl refl
  ] refl

-- ---- the plan
module _ (now : ℤ) (from to : Bytes) (m : Dataset) where
  abbrev go : Bool → List Bytes → List Bytes → List Bytes
  go b xs ys = if b then from ∷ xs else ys

  expired_two : bytes_eq from to ≡ false → expired now (from ∷ to ∷ []) m ≡ expired now (from ∷ []) m ++ expired now (to ∷ []) m
  expired_two h =
      ap (λ (o : Option Entry). go (is_stored now true (get m from)) (if is_stored now true o then to ∷ [] else []) (expired now (to ∷ []) m)) (get_remove m from to ∙ ap (λ b. cond b None (get m to)) (keys_apart to from (apart_turned from to h)))
      ∙ elim (is_stored now true (get m from)) as (λ b. go b (expired now (to ∷ []) m) (expired now (to ∷ []) m) ≡ go b [] [] ++ expired now (to ∷ []) m) [ true ↦ refl | false ↦ refl ]

  expired_one : bytes_eq from to ≡ true → expired now (from ∷ to ∷ []) m ≡ expired now (from ∷ []) m
  expired_one h =
      let same : from ≡ to = same_bytes from to h in
      ap (λ (k : Bytes). go (is_stored now true (get m from)) (if is_stored now true (get (remove m from) k) then k ∷ [] else []) (if is_stored now true (get m k) then k ∷ [] else [])) (sym same)
      ∙ ap (λ (o : Option Entry). go (is_stored now true (get m from)) (if is_stored now true o then from ∷ [] else []) (expired now (from ∷ []) m)) (get_remove m from from ∙ ap (λ b. cond b None (get m from)) (is_key_itself from))
      ∙ elim (is_stored now true (get m from)) as (λ b. go b [] (if b then from ∷ [] else []) ≡ (if b then from ∷ [] else [])) [ true ↦ refl | false ↦ refl ]

  -- what is seen at the two keys, once expired ones are deleted
  live_first : get (purged now (from ∷ to ∷ []) m) from ≡ live now (get m from)
  live_first = get_purged now (from ∷ to ∷ []) m from ∙ ap (λ b. cond (b || has (to ∷ []) from) (live now (get m from)) (get m from)) (is_key_itself from)

  or_true : (a b : Bool) → b ≡ true → (a || (b || false)) ≡ true
  or_true true b h = refl
  or_true false true h = refl
  or_true false false h = cc

  live_second : get (purged now (from ∷ to ∷ []) m) to ≡ live now (get m to)
  live_second = get_purged now (from ∷ to ∷ []) m to ∙ ap (λ b. cond b (live now (get m to)) (get m to)) (or_true (is_key to from) (is_key to to) (is_key_itself to))

module _ (from to x : Bytes) (now : ℤ) (m : Dataset) where
  abbrev the_move : Command
  the_move = record { keys = from ∷ to ∷ []; outcome = smove from to x }

  pub move_plans : (o p : Option Entry) (r : Tree) (old looked new : List Effect) → o ≡ live now (get m from) → p ≡ live now (get m to) → looked ≡ old ++ dels (expired now (from ∷ to ∷ []) m) → ((n : Dataset) → get n from ≡ o → get n to ≡ p → Gives (smove from to x n) r looked new) → Plans the_move now m r old new
  move_plans o p r old looked new source target look gives =
      let shown = gives (seen now m) (get-seen now m from ∙ sym source) (get-seen now m to ∙ sym target) in
      let done = gives (purged now (from ∷ to ∷ []) m) (live_first now from to m ∙ sym source) (live_second now from to m ∙ sym target) in
      let own = (smove from to x (purged now (from ∷ to ∷ []) m)).effects in
      record {
        reply_is = shown.reply_is;
        effects_are = done.effects_are ∙ ap (λ es. es ++ own) look ∙ append_assoc old (dels (expired now (from ∷ to ∷ []) m)) own;
      }

  pub looked_two : bytes_eq from to ≡ false → (none first second : List Effect) → first ≡ none ++ dels (expired now (from ∷ []) m) → second ≡ first ++ dels (expired now (to ∷ []) m) → second ≡ none ++ dels (expired now (from ∷ to ∷ []) m)
  looked_two h none one two e f =
      f ∙ ap (λ es. es ++ dels (expired now (to ∷ []) m)) e
      ∙ append_assoc none (dels (expired now (from ∷ []) m)) (dels (expired now (to ∷ []) m))
      ∙ ap (λ es. none ++ es) (sym (map-append effect.Del (expired now (from ∷ []) m) (expired now (to ∷ []) m)) ∙ ap dels (sym (expired_two now from to m h)))

  pub looked_one : bytes_eq from to ≡ true → (none first : List Effect) → first ≡ none ++ dels (expired now (from ∷ []) m) → first ≡ none ++ dels (expired now (from ∷ to ∷ []) m)
  looked_one h none one e = e ∙ ap (λ ks. none ++ dels ks) (sym (expired_one now from to m h))

  pub move_faithful : IsTrue (list_all fits (from ∷ to ∷ x ∷ [])) → IsLawful the_move now m
  move_faithful h = faithful the_move now m (two_fit (fits from) (fits to) (fits x) h) (move_at from to x (before the_move now m) (three_fit (fits from) (fits to) (fits x) h))
    where
      two_fit : (a b c : Bool) → a && (b && (c && true)) ≡ true → a && (b && true) ≡ true
      two_fit true true c h = refl
      two_fit true false c h = cc
      two_fit false b c h = cc

      three_fit : (a b c : Bool) → a && (b && (c && true)) ≡ true → a && b && c ≡ true
      three_fit true true true h = refl
      three_fit true true false h = cc
      three_fit true false c h = cc
      three_fit false b c h = cc
