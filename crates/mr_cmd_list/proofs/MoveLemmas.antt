-- Plans of commands that name two keys.
use Rattle.std.proofs.Common.{ℤ, ◌≡◌, List, [], ◌∷◌, ◌++◌, Bool, true, false, cond, Option, None, refl, sym, ◌∙◌, ap}
use Rattle.std.specs.Prelude.{◌||◌, if◌then◌else◌}
use Rattle.std.specs.FinMap.{get, remove}
use Rattle.std.specs.Str.{bytes_eq}
use Rattle.std.proofs.lemmas.List.{map-append}
use Rattle.mr_map.specs.Bytes.{Bytes}
use Rattle.mr_resp.specs.Replies.{Tree}
use Rattle.mr_bytes.specs.declared.ends.End.{End}
use Rattle.mr_bytes.proofs.Numbers.{same_bytes, equal_bytes}
use Rattle.mr_keyspace.specs.Dataset.{Dataset}
use Rattle.mr_data.specs.Dataset.{live, seen}
use Rattle.mr_data.proofs.Seeing.{get-seen}
use Rattle.mr_keyspace.specs.declared.value.Entry.{Entry}
use Rattle.mr_effect.specs.declared.effect.Effect.{Effect}
use Rattle.mr_effect.specs.declared.effect.Effect.TheVariants as effect
use Rattle.mr_cmd_shared.specs.Taken.{is_key}
use Rattle.mr_cmd_shared.specs.Keys.{chosen, dels, expired, purged, without, is_stored}
use Rattle.mr_cmd_shared.specs.Outcomes.{Outcome, at_key}
use Rattle.mr_cmd_shared.specs.Commands.{on_key, IsPlan}
use Rattle.mr_keyspace.proofs.Maps.{same_key}
use Rattle.mr_keyspace.proofs.Puts.{is_key_itself, get_remove, removed}
use Rattle.mr_cmd_shared.proofs.KeyLists.{get_purged}
use Rattle.mr_cmd_list.specs.Moves.{rotate_answer, carry, carried, moved, moving}

pub apart_key : (s d : Bytes) → bytes_eq s d ≡ false → is_key d s ≡ false
apart_key s d apart = elim (is_key d s) as (λ b. is_key d s ≡ b → b ≡ false) [
  | true ↦ λ t. let both : false ≡ true = sym apart ∙ ap (bytes_eq s) (same_key d s t) ∙ equal_bytes s in cc
  | false ↦ λ t. refl
] refl

-- ---- a key that is named twice
module _ (test : Option Entry → Bool) (k : Bytes) (m : Dataset) where
  twice_by : test (get (remove m k) k) ≡ false → (b : Bool) → test (get m k) ≡ b → (if b then k ∷ (if test (get (remove m k) k) then k ∷ [] else []) else (if test (get m k) then k ∷ [] else [])) ≡ (if b then k ∷ [] else [])
  twice_by is_removed true h = ap (λ c. k ∷ (if c then k ∷ [] else [])) is_removed
  twice_by is_removed false h = ap (λ c. if c then k ∷ [] else []) h

  twice : test None ≡ false → chosen test (k ∷ k ∷ []) m ≡ chosen test (k ∷ []) m
  twice none = twice_by (ap test (removed m k) ∙ none) (test (get m k)) refl

expired_twice : (now : ℤ) (k : Bytes) (m : Dataset) → expired now (k ∷ k ∷ []) m ≡ expired now (k ∷ []) m
expired_twice now k m = twice (is_stored now true) k m refl

module _ (s d : Bytes) (taken put : End) (same : bytes_eq s d ≡ true) where
  at_one : (m : Dataset) → moved s d taken put m ≡ at_key s (rotate_answer s taken put) m
  at_one m = ap (λ b. if b then at_key s (rotate_answer s taken put) m else carried s d (carry s d taken put (get m s) (get m d)) m) same

  expired_one : (now : ℤ) (m : Dataset) → expired now (s ∷ d ∷ []) m ≡ expired now (s ∷ []) m
  expired_one now m = ap (λ (q : Bytes). expired now (s ∷ q ∷ []) m) (sym (same_bytes s d same)) ∙ expired_twice now s m

  pub turned_plan : (now : ℤ) (m : Dataset) (r : Tree) (list : List Effect) → IsPlan (on_key s (rotate_answer s taken put)) now m r list → IsPlan (moving s d taken put) now m r list
  turned_plan now m r list p = record {
    reply_is = p.reply_is ∙ sym (ap (λ (o : Outcome). o.reply) (at_one (seen now m)));
    effects_are = p.effects_are
        ∙ ap (λ (ks : List Bytes). dels ks ++ (at_key s (rotate_answer s taken put) (without ks m)).effects) (sym (expired_one now m))
        ∙ ap (λ (o : Outcome). dels (expired now (s ∷ d ∷ []) m) ++ o.effects) (sym (at_one (purged now (s ∷ d ∷ []) m)));
  }

-- ---- two keys
module _ (s d : Bytes) (apart : bytes_eq s d ≡ false) where
  other : (m : Dataset) → get (remove m s) d ≡ get m d
  other m = get_remove m s d ∙ ap (λ b. cond b None (get m d)) (apart_key s d apart)

  two_by : (test : Option Entry → Bool) (m : Dataset) (b : Bool) → (if b then s ∷ (if test (get (remove m s) d) then d ∷ [] else []) else (if test (get m d) then d ∷ [] else [])) ≡ (if b then s ∷ [] else []) ++ (if test (get m d) then d ∷ [] else [])
  two_by test m true = ap (λ o. s ∷ (if test o then d ∷ [] else [])) (other m)
  two_by test m false = refl

  expired_two : (now : ℤ) (m : Dataset) → expired now (s ∷ d ∷ []) m ≡ expired now (s ∷ []) m ++ expired now (d ∷ []) m
  expired_two now m = two_by (is_stored now true) m (is_stored now true (get m s))

named : (b c : Bool) → b ≡ true → (b || c) ≡ true
named b c h = ap (λ x. x || c) h

named_later : (b c : Bool) → c ≡ true → (b || c) ≡ true
named_later true c h = refl
named_later false c h = h

module _ (s d : Bytes) (now : ℤ) (m : Dataset) where
  pub at_source : get (purged now (s ∷ d ∷ []) m) s ≡ live now (get m s)
  at_source = get_purged now (s ∷ d ∷ []) m s ∙ ap (λ b. cond b (live now (get m s)) (get m s)) (named _ _ (is_key_itself s))

  pub at_target : get (purged now (s ∷ d ∷ []) m) d ≡ live now (get m d)
  at_target = get_purged now (s ∷ d ∷ []) m d ∙ ap (λ b. cond b (live now (get m d)) (get m d)) (named_later (is_key d s) _ (named _ _ (is_key_itself d)))

module _ (s d : Bytes) (taken put : End) (apart : bytes_eq s d ≡ false) where
  pub at_two : (m : Dataset) → moved s d taken put m ≡ carried s d (carry s d taken put (get m s) (get m d)) m
  at_two m = ap (λ b. if b then at_key s (rotate_answer s taken put) m else carried s d (carry s d taken put (get m s) (get m d)) m) apart

  pub carried_plan : (now : ℤ) (m : Dataset) (o p : Option Entry) (r : Tree) (none first second list : List Effect)
      → o ≡ live now (get m s) → p ≡ live now (get m d)
      → none ≡ [] → first ≡ none ++ dels (expired now (s ∷ []) m) → second ≡ first ++ dels (expired now (d ∷ []) m)
      → r ≡ (carry s d taken put o p).reply → list ≡ second ++ (carry s d taken put o p).effects → IsPlan (moving s d taken put) now m r list
  carried_plan now m o p r none first second list source target start one two replied all = record {
    reply_is = replied
        ∙ ap (λ (x : Option Entry). (carry s d taken put x p).reply) (source ∙ sym (get-seen now m s))
        ∙ ap (λ (x : Option Entry). (carry s d taken put (get (seen now m) s) x).reply) (target ∙ sym (get-seen now m d))
        ∙ sym (ap (λ (x : Outcome). x.reply) (at_two (seen now m)));
    effects_are = all
        ∙ ap (λ xs. xs ++ (carry s d taken put o p).effects) (two ∙ ap (λ xs. xs ++ dels (expired now (d ∷ []) m)) (one ∙ ap (λ xs. xs ++ dels (expired now (s ∷ []) m)) start) ∙ both)
        ∙ ap (λ (x : Option Entry). dels (expired now (s ∷ d ∷ []) m) ++ (carry s d taken put x p).effects) (source ∙ sym (at_source s d now m))
        ∙ ap (λ (x : Option Entry). dels (expired now (s ∷ d ∷ []) m) ++ (carry s d taken put (get (purged now (s ∷ d ∷ []) m) s) x).effects) (target ∙ sym (at_target s d now m))
        ∙ sym (ap (λ (x : Outcome). dels (expired now (s ∷ d ∷ []) m) ++ x.effects) (at_two (purged now (s ∷ d ∷ []) m)));
  }
    where
      both : dels (expired now (s ∷ []) m) ++ dels (expired now (d ∷ []) m) ≡ dels (expired now (s ∷ d ∷ []) m)
      both = sym (ap dels (expired_two s d apart now m) ∙ map-append effect.Del (expired now (s ∷ []) m) (expired now (d ∷ []) m))
