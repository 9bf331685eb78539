-- Commands on deadlines: their effects are faithful.
use Rattle.std.proofs.Common.{◌≡◌, ℤ, [], ◌∷◌, true, false, Option, Some, None, refl, sym, ◌∙◌, ap, arith, rules}
use Rattle.std.specs.Prelude.{IsTrue, int_le, if◌then◌else◌, is_some, IfSome}
use Rattle.std.specs.Option.{option_map, option_and_then}
use Rattle.std.specs.Ordering.{int_eq}
use Rattle.std.specs.FinMap.{get}
use Rattle.std.proofs.lemmas.Bool.Decides.{Decides-int_eq}
use Rattle.std.proofs.lemmas.Bool.{and_from}
use Rattle.mr_map.specs.Bytes.{Bytes}
use Rattle.mr_bytes.specs.Words.{fits}
use Rattle.mr_bytes.proofs.Numbers.{same_number}
use Rattle.mr_effect.specs.Effects.{is_deadline}
use Rattle.mr_effect.specs.declared.effect.Effect.TheVariants as effect
use Rattle.mr_effect.proofs.Texts.{short_effect}
use Rattle.mr_keyspace.specs.Dataset.{Dataset, put_at}
use Rattle.mr_keyspace.specs.Changes.{change}
use Rattle.mr_keyspace.specs.Steps.{expire_step, persist_step}
use Rattle.mr_keyspace.specs.declared.value.Entry.{Entry}
use Rattle.mr_data.specs.Dataset.{IsDataset, IsLifetime, live, is_expired}
use Rattle.mr_data.specs.Meaning.{apply, apply_all}
use Rattle.mr_cmd_shared.proofs.Laws.{IsFaithfulAnswer, if_faithful, kept_faithful, one_short}
use Rattle.mr_cmd_key.specs.declared.key_ask.ExpireCondition.{ExpireCondition}
use Rattle.mr_cmd_key.specs.Expiring.{allows, with_deadline, is_until, lasting, ended, expire_answer, endless, persist_answer, CanBeNamed}

-- ---- a deadline that a key has already
number_itself : (n : ℤ) → int_eq n n ≡ true
number_itself n = search (rules, Decides-int_eq)

until_is : (d : ℤ) (o : Option ℤ) → is_until d o ≡ true → Some d ≡ o
until_is d None h = cc
until_is d (Some h) is = ap Some (sym (same_number h d is))

until_same : (d : ℤ) (e : Entry) → is_until d e.deadline ≡ true → with_deadline (Some d) e ≡ e
until_same d e h = ap (λ (o : Option ℤ). with_deadline o e) (until_is d e.deadline h)

is_same : (d : ℤ) (e f : Entry) → with_deadline (Some d) e ≡ f → is_until d f.deadline ≡ true
is_same d e f h = ap (λ (x : Entry). is_until d x.deadline) (sym h) ∙ number_itself d

of_some : (e f : Entry) → Some e ≡ Some f → e ≡ f
of_some e f h = cc

-- ---- the law
module _ (k : Bytes) (m : Dataset) (fit : fits k ≡ true) (e : Entry) (is : get m k ≡ Some e) where
  ended_faithful : IsFaithfulAnswer (ended k) k m
  unfolding apply change
  ended_faithful = record {
    leads = ap (λ b. option_and_then (apply_all []) (if b then Some (put_at m k None) else None)) fit;
    short = one_short (effect.Del k) (short_effect (effect.Del k) (omega arith));
    none = λ n. cc;
    some = λ n. cc;
  }

  lasting_does : (d : ℤ) → IsTrue (is_deadline d) → apply_all (effect.Expire k d ∷ []) m ≡ Some (put_at m k (Some (with_deadline (Some d) e)))
  unfolding apply change
  lasting_does d named =
      ap (λ b. option_and_then (apply_all []) (if b then option_map (put_at m k) (expire_step d (get m k)) else None)) (and_from _ _ named fit)
      ∙ ap (λ o. option_and_then (apply_all []) (option_map (put_at m k) (expire_step d o))) is

  lasting_faithful : (d : ℤ) → IsTrue (is_deadline d) → IsFaithfulAnswer (lasting k d e) k m
  lasting_faithful d named = elim (is_until d e.deadline) as (λ b. is_until d e.deadline ≡ b → IsFaithfulAnswer (record { reply = (lasting k d e).reply; entry = Some (with_deadline (Some d) e); effects = if b then [] else effect.Expire k d ∷ [] }) k m) [
    | true ↦ λ t. kept_faithful _ k m (ap Some (until_same d e t) ∙ sym is) refl
    | false ↦ λ t. record {
      leads = lasting_does d named;
      short = one_short (effect.Expire k d) (short_effect (effect.Expire k d) (omega arith));
      none = λ n. absurd (cc);
      some = λ n. absurd (let wrong : true ≡ false = sym (is_same d e e (of_some _ _ (n ∙ is))) ∙ t in cc);
    }
  ] refl

  endless_does : apply_all (effect.Persist k ∷ []) m ≡ Some (put_at m k (Some (with_deadline None e)))
  unfolding apply change
  endless_does =
      ap (λ b. option_and_then (apply_all []) (if b then option_map (put_at m k) (persist_step (get m k)) else None)) fit
      ∙ ap (λ o. option_and_then (apply_all []) (option_map (put_at m k) (persist_step o))) is

  endless_faithful : is_some e.deadline ≡ true → IsFaithfulAnswer (endless k e) k m
  endless_faithful some = record {
    leads = endless_does;
    short = one_short (effect.Persist k) (short_effect (effect.Persist k) (omega arith));
    none = λ n. absurd (cc);
    some = λ n. absurd (let wrong : false ≡ true = ap (λ (x : Entry). is_some x.deadline) (of_some _ _ (n ∙ is)) ∙ some in cc);
  }

pub expire_faithful : (k : Bytes) (when : Option ExpireCondition) (now d : ℤ) (m : Dataset) → fits k ≡ true → CanBeNamed now d → IsFaithfulAnswer (expire_answer k when now d (get m k)) k m
expire_faithful k when now d m fit named = elim (get m k) as (λ o. get m k ≡ o → IsFaithfulAnswer (expire_answer k when now d o) k m) [
  | None ↦ λ is. kept_faithful _ k m (sym is) refl
  | Some e ↦ λ is. if_faithful (allows when e.deadline d) _ _ k m
      (elim (int_le d now) as (λ b. int_le d now ≡ b → IsFaithfulAnswer (if b then ended k else lasting k d e) k m) [
        | true ↦ λ t. ended_faithful k m fit e is
        | false ↦ λ t. lasting_faithful k m fit e is d (named t)
      ] refl)
      (kept_faithful _ k m (sym is) refl)
] refl

pub persist_faithful : (k : Bytes) (m : Dataset) → fits k ≡ true → IsFaithfulAnswer (persist_answer k (get m k)) k m
persist_faithful k m fit = elim (get m k) as (λ o. get m k ≡ o → IsFaithfulAnswer (persist_answer k o) k m) [
  | None ↦ λ is. kept_faithful _ k m (sym is) refl
  | Some e ↦ λ is. elim (is_some e.deadline) as (λ b. is_some e.deadline ≡ b → IsFaithfulAnswer (if b then endless k e else record { reply = (persist_answer k None).reply; entry = Some e; effects = [] }) k m) [
    | true ↦ λ t. endless_faithful k m fit e is t
    | false ↦ λ t. kept_faithful _ k m (sym is) refl
  ] refl
] refl

-- ---- what the dataset keeps of a deadline
pub live_lifetime : (now : ℤ) (m : Dataset) (k : Bytes) (o : Option Entry) → IsDataset m → o ≡ live now (get m k) → IfSome o (λ e. IsLifetime e.deadline)
live_lifetime now m k o kept is = rw is (elim (get m k) as (λ p. get m k ≡ p → IfSome (live now p) (λ e. IsLifetime e.deadline)) [
  | None ↦ λ _. tt
  | Some e ↦ λ there. elim (is_expired now e.deadline) as (λ b. IfSome (if b then None else Some e) (λ e. IsLifetime e.deadline)) [ true ↦ tt | false ↦ (kept.entries k e there).deadline ]
] refl)
