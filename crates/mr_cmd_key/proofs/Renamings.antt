-- Commands on whole entries: two keys, and the law of faithful effects.
use Rattle.std.proofs.Common.{◌≡◌, List, [], ◌∷◌, ◌++◌, append_assoc, Bool, true, false, ◌&&◌, cond, Option, Some, None, refl, sym, ◌∙◌, ap, subst, arith}
use Rattle.std.specs.Prelude.{IsTrue, ℤ, ◌||◌, ◌==◌, is_some, pos, if◌then◌else◌}
use Rattle.std.specs.List.{list_all}
use Rattle.std.specs.Option.{option_map, option_and_then}
use Rattle.std.specs.FinMap.{empty, get, insert, len, remove, get-insert, empty_of_len, len-empty}
use Rattle.std.specs.Str.{bytes_eq}
use Rattle.std.proofs.lemmas.Bool.{eqb-true}
use Rattle.std.proofs.lemmas.Cmp.{nat_list_cmp_total}
use Rattle.std.proofs.lemmas.List.{map-append}
use Rattle.mr_map.specs.Bytes.{Bytes, bytes_cmp}
use Rattle.mr_bytes.specs.Words.{fits}
use Rattle.mr_bytes.proofs.Numbers.{same_bytes}
use Rattle.mr_resp.specs.Replies as reply
use Rattle.mr_resp.specs.Replies.{Tree}
use Rattle.mr_keyspace.specs.Dataset.{Dataset}
use Rattle.mr_data.specs.Dataset.{live, seen}
use Rattle.mr_keyspace.specs.Changes.{change}
use Rattle.mr_data.specs.Meaning.{apply, apply_all}
use Rattle.mr_keyspace.specs.declared.value.Entry.{Entry}
use Rattle.mr_data.proofs.Seeing.{get-seen}
use Rattle.mr_effect.specs.declared.effect.Effect.{Effect}
use Rattle.mr_effect.specs.declared.effect.Effect.TheVariants as effect
use Rattle.mr_cmd_shared.specs.Taken.{is_key, has}
use Rattle.mr_cmd_shared.specs.Keys.{expired, purged, dels, is_stored}
use Rattle.mr_cmd_shared.specs.Answered.{done}
use Rattle.mr_cmd_shared.specs.Outcomes.{Outcome, answered}
use Rattle.mr_cmd_shared.specs.Commands.{Command, on_keys, on_none, before, Plans}
use Rattle.mr_keyspace.proofs.Puts.{is_key_itself, get_remove, removed}
use Rattle.mr_cmd_shared.proofs.KeyLists.{get_purged}
use Rattle.mr_cmd_shared.proofs.Laws.{faithful, IsFaithfulAt, answered_faithful, IsLawful, one_short}
use Rattle.mr_cmd_shared.proofs.TakenLemmas.{keys_apart, apart_turned}
use Rattle.mr_cmd_key.specs.Renaming.{no_key, carried, carried_if, renamed, renamed_nx, cleared, Gives}
use Rattle.mr_effect.proofs.Texts.{short_effect}

-- ---- the law
module _ (from to : Bytes) (m : Dataset) (fit : fits from && fits to ≡ true) where
  carry_does : (e : Entry) → get m from ≡ Some e → apply_all (effect.Rename from to ∷ []) m ≡ Some (insert (remove m from) to e)
  unfolding apply change
  carry_does e is =
      ap (λ b. option_and_then (apply_all []) (if b then option_map (insert (remove m from) to) (get m from) else None)) fit
      ∙ ap (λ o. option_and_then (apply_all []) (option_map (insert (remove m from) to) o)) is

  -- the one key isn't there any more
  carry_changes : (e : Entry) → get m from ≡ Some e → bytes_eq from to ≡ false → insert (remove m from) to e ≡ m → ⊥
  carry_changes e is differ same =
      let is_removed : get (insert (remove m from) to e) from ≡ None = get-insert nat_list_cmp_total (remove m from) to e from ∙ ap (λ b. cond b (Some e) (get (remove m from) from)) (keys_apart from to differ) ∙ removed m from in
      let wrong : None ≡ Some e = sym is_removed ∙ ap (λ (n : Dataset). get n from) same ∙ is in
      cc

  carried_faithful : (answer : Tree) (e : Entry) → get m from ≡ Some e → IsFaithfulAt (carried from to answer e m) m
  carried_faithful answer e is = elim (bytes_eq from to) as (λ b. bytes_eq from to ≡ b → IsFaithfulAt (if b then answered answer m else record { reply = answer; after = insert (remove m from) to e; effects = effect.Rename from to ∷ [] }) m) [
    | true ↦ λ t. answered_faithful _ m refl refl
    | false ↦ λ t. record {
      leads = carry_does e is;
      short = one_short (effect.Rename from to) (short_effect (effect.Rename from to) (omega arith));
      none = λ n. absurd (cc);
      some = λ n. absurd (carry_changes e is t n);
    }
  ] refl

  carried_if_faithful : (answer : Tree) (o : Option Entry) → get m from ≡ o → IsFaithfulAt (carried_if from to answer o m) m
  carried_if_faithful answer None is = answered_faithful _ m refl refl
  carried_if_faithful answer (Some e) is = carried_faithful answer e is

  new_faithful : IsFaithfulAt (renamed_nx from to m) m
  new_faithful = elim (is_some (get m from)) as (λ b. IsFaithfulAt (if b then (if is_some (get m to) then answered (reply.int (pos 0)) m else carried_if from to (reply.int (pos 1)) (get m from) m) else answered no_key m) m) [
    | true ↦ elim (is_some (get m to)) as (λ c. IsFaithfulAt (if c then answered (reply.int (pos 0)) m else carried_if from to (reply.int (pos 1)) (get m from) m) m) [
      | true ↦ answered_faithful _ m refl refl
      | false ↦ carried_if_faithful (reply.int (pos 1)) (get m from) refl
    ]
    | false ↦ answered_faithful _ m refl refl
  ]

two_fit : (a b : Bool) → a && (b && true) ≡ true → a && b ≡ true
two_fit true true h = refl
two_fit true false h = cc
two_fit false b h = cc

pub renamed_faithful : (from to : Bytes) (now : ℤ) (m : Dataset) → IsTrue (list_all fits (from ∷ to ∷ [])) → IsLawful (on_keys (from ∷ to ∷ []) (renamed from to)) now m
renamed_faithful from to now m h =
    let command : Command = on_keys (from ∷ to ∷ []) (renamed from to) in
    faithful command now m h (carried_if_faithful from to (before command now m) (two_fit _ _ h) done _ refl)

pub renamed_nx_faithful : (from to : Bytes) (now : ℤ) (m : Dataset) → IsTrue (list_all fits (from ∷ to ∷ [])) → IsLawful (on_keys (from ∷ to ∷ []) (renamed_nx from to)) now m
renamed_nx_faithful from to now m h =
    let command : Command = on_keys (from ∷ to ∷ []) (renamed_nx from to) in
    faithful command now m h (new_faithful from to (before command now m) (two_fit _ _ h))

-- ---- every key goes
cleared_at : (m : Dataset) → IsFaithfulAt (cleared m) m
unfolding apply change
cleared_at m = elim (len m == 0) as (λ b. (len m == 0) ≡ b → IsFaithfulAt (record { reply = done; after = empty; effects = if b then [] else effect.Clear ∷ [] }) m) [
  | true ↦ λ t. answered_faithful _ m (sym (empty_of_len m (eqb-true (len m) 0 t))) refl
  | false ↦ λ t. record {
    leads = refl;
    short = one_short effect.Clear (short_effect effect.Clear (omega arith));
    none = λ n. absurd (cc);
    some = λ (n : empty ≡ m). absurd (let none : (len m == 0) ≡ true = ap (λ (x : Dataset). len x == 0) (sym n) ∙ ap (λ k. k == 0) (len-empty bytes_cmp Entry) in let wrong : true ≡ false = sym none ∙ t in cc);
  }
] refl

pub cleared_faithful : (now : ℤ) (m : Dataset) → IsLawful (on_none cleared) now m
cleared_faithful now m = faithful (on_none cleared) now m refl (cleared_at (before (on_none cleared) now m))

-- ---- the plan
module _ (now : ℤ) (from to : Bytes) (m : Dataset) where
  abbrev go : Bool → List Bytes → List Bytes → List Bytes
  go b xs ys = if b then from ∷ xs else ys

  expired_two : bytes_eq from to ≡ false → expired now (from ∷ to ∷ []) m ≡ expired now (from ∷ []) m ++ expired now (to ∷ []) m
  expired_two h =
      ap (λ (o : Option Entry). go (is_stored now true (get m from)) (if is_stored now true o then to ∷ [] else []) (expired now (to ∷ []) m)) (get_remove m from to ∙ ap (λ b. cond b None (get m to)) (keys_apart to from (apart_turned from to h)))
      ∙ elim (is_stored now true (get m from)) as (λ b. go b (expired now (to ∷ []) m) (expired now (to ∷ []) m) ≡ go b [] [] ++ expired now (to ∷ []) m) [ true ↦ refl | false ↦ refl ]

  expired_one : bytes_eq from to ≡ true → expired now (from ∷ to ∷ []) m ≡ expired now (from ∷ []) m
  expired_one h =
      let same : from ≡ to = same_bytes from to h in
      ap (λ (k : Bytes). go (is_stored now true (get m from)) (if is_stored now true (get (remove m from) k) then k ∷ [] else []) (if is_stored now true (get m k) then k ∷ [] else [])) (sym same)
      ∙ ap (λ (o : Option Entry). go (is_stored now true (get m from)) (if is_stored now true o then from ∷ [] else []) (expired now (from ∷ []) m)) (get_remove m from from ∙ ap (λ b. cond b None (get m from)) (is_key_itself from))
      ∙ elim (is_stored now true (get m from)) as (λ b. go b [] (if b then from ∷ [] else []) ≡ (if b then from ∷ [] else [])) [ true ↦ refl | false ↦ refl ]

  -- what is seen at the two keys, once expired ones are deleted
  live_first : get (purged now (from ∷ to ∷ []) m) from ≡ live now (get m from)
  live_first = get_purged now (from ∷ to ∷ []) m from ∙ ap (λ b. cond (b || has (to ∷ []) from) (live now (get m from)) (get m from)) (is_key_itself from)

  or_true : (a b : Bool) → b ≡ true → (a || (b || false)) ≡ true
  or_true true b h = refl
  or_true false true h = refl
  or_true false false h = cc

  live_second : get (purged now (from ∷ to ∷ []) m) to ≡ live now (get m to)
  live_second = get_purged now (from ∷ to ∷ []) m to ∙ ap (λ b. cond b (live now (get m to)) (get m to)) (or_true (is_key to from) (is_key to to) (is_key_itself to))

  pub looked_two : bytes_eq from to ≡ false → (none first second : List Effect) → first ≡ none ++ dels (expired now (from ∷ []) m) → second ≡ first ++ dels (expired now (to ∷ []) m) → second ≡ none ++ dels (expired now (from ∷ to ∷ []) m)
  looked_two h none one two e f =
      f ∙ ap (λ es. es ++ dels (expired now (to ∷ []) m)) e
      ∙ append_assoc none (dels (expired now (from ∷ []) m)) (dels (expired now (to ∷ []) m))
      ∙ ap (λ es. none ++ es) (sym (map-append effect.Del (expired now (from ∷ []) m) (expired now (to ∷ []) m)) ∙ ap dels (sym (expired_two h)))

  pub looked_one : bytes_eq from to ≡ true → (none first : List Effect) → first ≡ none ++ dels (expired now (from ∷ []) m) → first ≡ none ++ dels (expired now (from ∷ to ∷ []) m)
  looked_one h none one e = e ∙ ap (λ ks. none ++ dels ks) (sym (expired_one h))

  -- a command on two keys, from what is seen there
  pub both_plans : (does : Dataset → Outcome) (o p : Option Entry) (r : Tree) (old looked new : List Effect) → o ≡ live now (get m from) → p ≡ live now (get m to) → looked ≡ old ++ dels (expired now (from ∷ to ∷ []) m) → ((n : Dataset) → get n from ≡ o → get n to ≡ p → Gives (does n) r looked new) → Plans (on_keys (from ∷ to ∷ []) does) now m r old new
  both_plans does o p r old looked new source target look gives =
      let shown = gives (seen now m) (get-seen now m from ∙ sym source) (get-seen now m to ∙ sym target) in
      let made = gives (purged now (from ∷ to ∷ []) m) (live_first ∙ sym source) (live_second ∙ sym target) in
      let own = (does (purged now (from ∷ to ∷ []) m)).effects in
      record {
        reply_is = shown.reply_is;
        effects_are = made.effects_are ∙ ap (λ es. es ++ own) look ∙ append_assoc old (dels (expired now (from ∷ to ∷ []) m)) own;
      }

pub gives_renamed : (from to : Bytes) (n : Dataset) (o : Option Entry) (answer r : Tree) (old new : List Effect) → get n from ≡ o → answer ≡ done → Gives (carried_if from to answer o n) r old new → Gives (renamed from to n) r old new
gives_renamed from to n o answer r old new is same given =
    subst (λ (x : Option Entry). Gives (carried_if from to done x n) r old new) (sym is)
    (subst (λ (a : Tree). Gives (carried_if from to a o n) r old new) same given)
