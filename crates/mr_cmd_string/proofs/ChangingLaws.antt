-- The effects of commands that change a text where it is are faithful.
use Rattle.std.proofs.Common.{ℕ, ℤ, pos, ◌≡◌, ◌≤◌, ◌+◌, List, [], ◌∷◌, ◌++◌, length, true, false, ◌&&◌, Option, Some, None, refl, sym, ◌∙◌, ap, arith}
use Rattle.std.specs.Prelude.{◌+ℤ◌, ◌==◌, codes, int_le, if◌then◌else◌, All}
use Rattle.std.specs.Option.{option_map, option_and_then}
use Rattle.std.specs.FinMap.{get}
use Rattle.std.specs.Fmt.{signed_decimal}
use Rattle.std.proofs.lemmas.Bool.{le-leb, and_from}
use Rattle.mr_map.specs.Bytes.{Bytes}
use Rattle.mr_bytes.specs.Number.{is_i64, number_of}
use Rattle.mr_bytes.specs.Texts.{overwritten}
use Rattle.mr_inline.specs.Limits.{word_limit}
use Rattle.mr_bytes.specs.Words.{fits}
use Rattle.mr_bytes.proofs.Texts.{ends_within}
use Rattle.mr_bytes.proofs.Numbers.{equal_bytes, is_i64-pos}
use Rattle.mr_resp.specs.Replies as reply
use Rattle.mr_resp.specs.Replies.{Tree}
use Rattle.mr_effect.specs.Effects.{is_place}
use Rattle.mr_effect.specs.declared.effect.Effect.{Effect}
use Rattle.mr_effect.specs.declared.effect.Effect.TheVariants as effect
use Rattle.mr_keyspace.specs.Dataset.{Dataset, put_at}
use Rattle.mr_keyspace.specs.Texts.{fitting}
use Rattle.mr_keyspace.specs.Steps.{strings, held, on, same, entry_of, deadline_of, append_step, set_range_step, increase_step}
use Rattle.mr_keyspace.specs.Changes.{change}
use Rattle.mr_data.specs.Meaning.{apply, apply_all}
use Rattle.mr_keyspace.specs.declared.value.Value.TheVariants as value
use Rattle.mr_keyspace.specs.declared.value.Entry.{Entry}
use Rattle.mr_keyspace.proofs.Puts.{put_same}
use Rattle.mr_data.proofs.Running.{one_step}
use Rattle.mr_cmd_shared.proofs.Laws.{IsFaithfulAnswer, stays_faithful, none_short, one_short}
use Rattle.mr_cmd_shared.specs.Answered.{overflow}
use Rattle.mr_cmd_string.specs.Changing.{holds, rewritten, length_of, too_long, lengthened, appended, append_answer, put_over, setrange_answer, increase_from, increase_text, increase_answer}
use Rattle.mr_cmd_string.proofs.SameTexts.{is_this_text}
use Rattle.mr_effect.proofs.Texts.{short_effect}
use Rattle.mr_effect.specs.Spelling.{IsShort}

-- the entry with another text
abbrev with_text : Bytes → Option Entry → Option Entry
with_text text o = Some (record { value = value.Text text; deadline = deadline_of o })

holds_is : (text : Bytes) (o : Option Entry) → holds text o ≡ true → with_text text o ≡ o
holds_is text None h = cc
holds_is text (Some e) h = ap (λ v. let f : Entry = record { value = v; deadline = e.deadline } in Some f) (sym (is_this_text text e.value h))

is_holds : (text : Bytes) (o : Option Entry) → with_text text o ≡ o → holds text o ≡ true
is_holds text o h = ap (holds text) (sym h) ∙ equal_bytes text

rewritten_faithful : (text : Bytes) (made : Effect) (answer : Tree) (k : Bytes) (m : Dataset) → IsShort made → apply made m ≡ Some (put_at m k (with_text text (get m k))) → IsFaithfulAnswer (rewritten text made answer (get m k)) k m
rewritten_faithful text made answer k m few does = record {
  leads = elim (holds text (get m k)) as (λ b. holds text (get m k) ≡ b → apply_all (if b then [] else made ∷ []) m ≡ Some (put_at m k (with_text text (get m k)))) [
    | true ↦ λ t. ap Some (sym (put_same m k _ (sym (holds_is text (get m k) t))))
    | false ↦ λ t. ap (option_and_then (apply_all [])) does
  ] refl;
  short = elim (holds text (get m k)) as (λ b. All IsShort (if b then [] else made ∷ [])) [
    | true ↦ none_short [] refl
    | false ↦ one_short made few
  ];
  none = elim (holds text (get m k)) as (λ b. holds text (get m k) ≡ b → (if b then [] else made ∷ []) ≡ [] → with_text text (get m k) ≡ get m k) [
    | true ↦ λ t e. holds_is text (get m k) t
    | false ↦ λ t e. absurd (cc)
  ] refl;
  some = λ h. ap (λ b. let none : List Effect = [] in if b then none else made ∷ []) (is_holds text (get m k) h);
}

lengthened_faithful : (text : Bytes) (made : Effect) (k : Bytes) (m : Dataset) → IsShort made → (fits text ≡ true → apply made m ≡ Some (put_at m k (with_text text (get m k)))) → IsFaithfulAnswer (lengthened text made (get m k)) k m
lengthened_faithful text made k m few does = elim (fits text) as (λ b. fits text ≡ b → IsFaithfulAnswer (if b then rewritten text made (length_of text) (get m k) else record { reply = too_long; entry = get m k; effects = [] }) k m) [
  | true ↦ λ t. rewritten_faithful text made (length_of text) k m few (does t)
  | false ↦ λ t. stays_faithful too_long k m
] refl

-- ---- APPEND
append_does : (k more text : Bytes) (m : Dataset) → fits k && fits more ≡ true → held (strings []) (get m k) ≡ Some text → fits (text ++ more) ≡ true → apply (effect.Append k more) m ≡ Some (put_at m k (with_text (text ++ more) (get m k)))
unfolding change
append_does k more text m fit is within =
    one_step k (effect.Append k more) (append_step more) m (record { possible = fit; short = short_effect (effect.Append k more) (omega arith); is = λ n. refl })
    ∙ ap (λ h. option_map (put_at m k) (option_and_then (λ x. option_map (entry_of (strings []) (deadline_of (get m k))) (fitting (x ++ more))) h)) is
    ∙ ap (λ b. option_map (put_at m k) (option_map (entry_of (strings []) (deadline_of (get m k))) (if b then Some (text ++ more) else None))) within

pub append_faithful : (k more : Bytes) (m : Dataset) → fits k && fits more ≡ true → IsFaithfulAnswer (append_answer k more (get m k)) k m
append_faithful k more m fit = elim (held (strings []) (get m k)) as (λ h. held (strings []) (get m k) ≡ h → IsFaithfulAnswer (appended k more h (get m k)) k m) [
  | None ↦ λ is. stays_faithful _ k m
  | Some text ↦ λ is. lengthened_faithful (text ++ more) (effect.Append k more) k m (short_effect (effect.Append k more) (omega arith)) (append_does k more text m fit is)
] refl

-- ---- SETRANGE
put_over_does : (k : Bytes) (offset : ℕ) (part text : Bytes) (m : Dataset) → fits k && fits part ≡ true → held (strings []) (get m k) ≡ Some text → (length part == 0) ≡ false → fits (overwritten offset part text) ≡ true → apply (effect.SetRange k (pos offset) part) m ≡ Some (put_at m k (with_text (overwritten offset part text) (get m k)))
unfolding change
put_over_does k offset part text m fit is some within =
    let ends : offset + length part ≤ word_limit = ends_within text part offset within in
    let place : is_place (pos offset) ≡ true = and_from (is_i64 (pos offset)) (int_le (pos 0) (pos offset)) (is_i64-pos offset (omega (arith, ends))) (le-leb 0 offset (omega arith)) in
    one_step k (effect.SetRange k (pos offset) part) (set_range_step (pos offset) part) m (record { possible = and_from (is_place (pos offset)) (fits k && fits part) place fit; short = short_effect (effect.SetRange k (pos offset) part) (omega arith); is = λ n. refl })
    ∙ ap (λ b. option_map (put_at m k) ((if b then same (strings []) else on (strings []) (λ x. fitting (overwritten offset part x))) (get m k))) some
    ∙ ap (λ h. option_map (put_at m k) (option_and_then (λ x. option_map (entry_of (strings []) (deadline_of (get m k))) (fitting (overwritten offset part x))) h)) is
    ∙ ap (λ b. option_map (put_at m k) (option_map (entry_of (strings []) (deadline_of (get m k))) (if b then Some (overwritten offset part text) else None))) within

pub setrange_faithful : (k : Bytes) (offset : ℕ) (part : Bytes) (m : Dataset) → fits k && fits part ≡ true → IsFaithfulAnswer (setrange_answer k offset part (get m k)) k m
setrange_faithful k offset part m fit = elim (held (strings []) (get m k)) as (λ h. held (strings []) (get m k) ≡ h → IsFaithfulAnswer (put_over k offset part h (get m k)) k m) [
  | None ↦ λ is. stays_faithful _ k m
  | Some text ↦ λ is. elim (length part == 0) as (λ b. (length part == 0) ≡ b → IsFaithfulAnswer (if b then record { reply = length_of text; entry = get m k; effects = [] } else lengthened (overwritten offset part text) (effect.SetRange k (pos offset) part) (get m k)) k m) [
    | true ↦ λ t. stays_faithful _ k m
    | false ↦ λ t. lengthened_faithful (overwritten offset part text) (effect.SetRange k (pos offset) part) k m (short_effect (effect.SetRange k (pos offset) part) (omega arith)) (put_over_does k offset part text m fit is t)
  ] refl
] refl

-- ---- INCR and its kin
increase_does : (k : Bytes) (by : ℤ) (text : Bytes) (n : ℤ) (m : Dataset) → fits k ≡ true → is_i64 by ≡ true → held (strings (codes "0")) (get m k) ≡ Some text → number_of text ≡ Some n → is_i64 (n +ℤ by) ≡ true → apply (effect.Increase k by) m ≡ Some (put_at m k (with_text (signed_decimal (n +ℤ by)) (get m k)))
unfolding change
increase_does k by text n m fit number is spelled within =
    let put : Option Bytes → Option Dataset = λ o. option_map (put_at m k) (option_map (entry_of (strings (codes "0")) (deadline_of (get m k))) o) in
    one_step k (effect.Increase k by) (increase_step by) m (record { possible = and_from (is_i64 by) (fits k) number fit; short = short_effect (effect.Increase k by) (omega arith); is = λ n. refl })
    ∙ ap (λ h. option_map (put_at m k) (option_and_then (λ x. option_map (entry_of (strings (codes "0")) (deadline_of (get m k))) (option_map signed_decimal (option_and_then (λ a. if is_i64 (a +ℤ by) then Some (a +ℤ by) else None) (number_of x)))) h)) is
    ∙ ap (λ a. put (option_map signed_decimal (option_and_then (λ b. if is_i64 (b +ℤ by) then Some (b +ℤ by) else None) a))) spelled
    ∙ ap (λ b. put (option_map signed_decimal (if b then Some (n +ℤ by) else None))) within

pub increase_faithful : (k : Bytes) (by : ℤ) (m : Dataset) → fits k ≡ true → is_i64 by ≡ true → IsFaithfulAnswer (increase_answer k by (get m k)) k m
increase_faithful k by m fit number = elim (held (strings (codes "0")) (get m k)) as (λ h. held (strings (codes "0")) (get m k) ≡ h → IsFaithfulAnswer (increase_text k by h (get m k)) k m) [
  | None ↦ λ is. stays_faithful _ k m
  | Some text ↦ λ is. elim (number_of text) as (λ a. number_of text ≡ a → IsFaithfulAnswer (increase_from k by a (get m k)) k m) [
    | None ↦ λ none. stays_faithful _ k m
    | Some n ↦ λ spelled. elim (is_i64 (n +ℤ by)) as (λ b. is_i64 (n +ℤ by) ≡ b → IsFaithfulAnswer (if b then rewritten (signed_decimal (n +ℤ by)) (effect.Increase k by) (reply.int (n +ℤ by)) (get m k) else record { reply = overflow; entry = get m k; effects = [] }) k m) [
      | true ↦ λ t. rewritten_faithful _ (effect.Increase k by) _ k m (short_effect (effect.Increase k by) (omega arith)) (increase_does k by text n m fit number is spelled t)
      | false ↦ λ t. stays_faithful _ k m
    ] refl
  ] refl
] refl
