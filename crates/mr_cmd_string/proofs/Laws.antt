-- The effects of commands on strings are faithful.
use Rattle.std.proofs.Common.{ℤ, pos, negsuc, ◌≡◌, List, [], ◌∷◌, Bool, true, false, ◌&&◌, Option, Some, None, refl, sym, ◌∙◌, ap, ◌<◌, length, arith}
use Rattle.std.specs.Prelude.{IsTrue, is_none, if◌then◌else◌, ◌+ℤ◌, int_le, map, All}
use Rattle.std.proofs.lemmas.Bool.Decides.{nat_tests}
use Rattle.std.specs.List.{list_all}
use Rattle.std.specs.Option.{option_and_then}
use Rattle.std.specs.FinMap.{get}
use Rattle.std.proofs.lemmas.Bool.{and_from}
use Rattle.mr_map.specs.Bytes.{Bytes}
use Rattle.mr_bytes.specs.Words.{fits}
use Rattle.mr_bytes.proofs.Both.{first}
use Rattle.mr_resp.specs.Replies as reply
use Rattle.mr_resp.specs.Replies.{Tree}
use Rattle.mr_resp.specs.ReplyView.{trees_of}
use Rattle.mr_keyspace.specs.Dataset.{Dataset, put_at}
use Rattle.mr_keyspace.specs.Changes.{change}
use Rattle.mr_data.specs.Meaning.{apply, apply_all}
use Rattle.mr_keyspace.specs.declared.value.Entry.{Entry}
use Rattle.mr_keyspace.specs.declared.value.Value.{Value}
use Rattle.mr_keyspace.specs.declared.value.Value.TheVariants as value
use Rattle.mr_effect.specs.declared.effect.Effect.{Effect}
use Rattle.mr_effect.specs.declared.effect.Effect.TheVariants as effect
use Rattle.mr_keyspace.specs.Steps.{deadline_of}
use Rattle.mr_data.specs.Given.{IsMoment}
use Rattle.mr_effect.specs.Effects.{is_deadline}
use Rattle.mr_arguments.specs.Amounts.{is_amount, of_seconds}
use Rattle.mr_arguments.specs.Expiry.{deadline_at}
use Rattle.mr_cmd_string.specs.Carried.{text_words, IsTime, IsTimed}
use Rattle.mr_arguments.specs.declared.expiry.Expiry.{Expiry}
use Rattle.mr_arguments.specs.declared.expiry.Expiry.TheVariants as expiry
use Rattle.mr_cmd_string.specs.declared.text_ask.Lifetime.{Lifetime}
use Rattle.mr_cmd_string.specs.declared.text_ask.Lifetime.TheVariants.{Endless, Kept, Until}
use Rattle.mr_cmd_string.specs.declared.text_ask.TextAsk.{TextAsk}
use Rattle.mr_cmd_string.specs.declared.text_ask.TextAsk.TheVariants as ask
use Rattle.mr_cmd_string.specs.declared.text_ask.SetCondition.{SetCondition}
use Rattle.mr_cmd_string.specs.declared.text_ask.SetReply.{SetReply}
use Rattle.mr_cmd_string.specs.declared.text_ask.SetReply.TheVariants as asked
use Rattle.mr_cmd_shared.specs.Answered.{Answered, done}
use Rattle.mr_cmd_shared.specs.Commands.{IsFaithful, on_key, HasCommandTexts}
use Rattle.mr_keyspace.proofs.Puts.{put_same}
use Rattle.mr_cmd_shared.proofs.Laws.{IsFaithfulAnswer, kept_faithful, stays_faithful, if_faithful, by_answer, by_telling, keys_answered, IsLawful, none_short, one_short}
use Rattle.mr_cmd_string.specs.Texts.{get_reply, strlen_reply, getrange_reply, found}
use Rattle.mr_cmd_string.specs.Setting.{said_at, until, set_effect, text_until, holds_until, put, plain, allows, holds_other, set_answer, set_for_answer, setnx_answer, getset_answer, taken, getdel_answer}
use Rattle.mr_cmd_string.specs.declared.deadlines.NewDeadline.{NewDeadline}
use Rattle.mr_cmd_string.specs.declared.deadlines.NewDeadline.TheVariants as deadline
use Rattle.mr_cmd_string.specs.Parts.{amount_number}
use Rattle.mr_cmd_string.specs.Changing.{append_answer, setrange_answer, increase_answer}
use Rattle.mr_cmd_string.specs.Commands.{command, HasNumber, HasLimit, IsLimited}
use Rattle.mr_cmd_string.proofs.SameTexts.{until_is, until_itself}
use Rattle.mr_cmd_string.proofs.ChangingLaws.{append_faithful, setrange_faithful, increase_faithful}
use Rattle.mr_cmd_string.proofs.SettingAllLaws.{mset_faithful, msetnx_faithful, mset_texts, msetnx_texts}
use Rattle.mr_effect.proofs.Texts.{short_effect}
use Rattle.mr_resp.specs.Usual.{commands}
use Rattle.mr_effect.specs.Spelling.{IsShort}

of_two : (a b : Bool) → a && (b && true) ≡ true → a && b ≡ true
of_two true true h = refl
of_two true false h = cc
of_two false b h = cc

-- ---- a key gets a text
-- a new deadline that an effect can name
abbrev pub IsNamed : NewDeadline → Type 0
IsNamed (deadline.At d) = IsTrue (is_deadline d)
IsNamed _ = Unit {0}

effect_leads : (k text : Bytes) (new : NewDeadline) (m : Dataset) → IsNamed new → fits k && fits text ≡ true → apply (set_effect k text new) m ≡ Some (put_at m k (Some (text_until text (until new (get m k)))))
unfolding apply change
effect_leads k text deadline.Endless m named h = ap (λ b. if b then Some (put_at m k (Some (plain text))) else None) h
effect_leads k text deadline.Kept m named h = ap (λ b. if b then Some (put_at m k (Some (text_until text (deadline_of (get m k))))) else None) h
effect_leads k text (deadline.At d) m named h = ap (λ b. if b then Some (put_at m k (Some (text_until text (Some d)))) else None) (and_from (is_deadline d) (fits k && fits text) named h)

effect_short : (k text : Bytes) (new : NewDeadline) → IsShort (set_effect k text new)
effect_short k text deadline.Endless = short_effect (effect.Set k text) (omega arith)
effect_short k text deadline.Kept = short_effect (effect.SetKeeping k text) (omega arith)
effect_short k text (deadline.At d) = short_effect (effect.SetUntil k text d) (omega arith)

-- the key holds the text, or the effect says it
module _ (k text : Bytes) (new : NewDeadline) (m : Dataset) where
  abbrev wanted : Option ℤ
  wanted = until new (get m k)

  abbrev made : Bool → List Effect
  made b = if b then [] else set_effect k text new ∷ []

  put_leads : IsNamed new → fits k && fits text ≡ true → apply_all (made (holds_until text wanted (get m k))) m ≡ Some (put_at m k (Some (text_until text wanted)))
  put_leads named h = elim (holds_until text wanted (get m k)) as (λ b. holds_until text wanted (get m k) ≡ b → apply_all (made b) m ≡ Some (put_at m k (Some (text_until text wanted)))) [
    | true ↦ λ t. ap Some (sym (put_same m k _ (until_is text wanted _ t)))
    | false ↦ λ t. ap (option_and_then (apply_all [])) (effect_leads k text new m named h)
  ] refl

  put_short : (b : Bool) → All IsShort (made b)
  put_short true = none_short [] refl
  put_short false = one_short (set_effect k text new) (effect_short k text new)

  put_none : made (holds_until text wanted (get m k)) ≡ [] → Some (text_until text wanted) ≡ get m k
  put_none = elim (holds_until text wanted (get m k)) as (λ b. holds_until text wanted (get m k) ≡ b → made b ≡ [] → Some (text_until text wanted) ≡ get m k) [
    | true ↦ λ t e. sym (until_is text wanted _ t)
    | false ↦ λ t e. absurd (cc)
  ] refl

  put_some : Some (text_until text wanted) ≡ get m k → made (holds_until text wanted (get m k)) ≡ []
  put_some h = ap made (ap (holds_until text wanted) (sym h) ∙ until_itself text wanted)

  put_faithful : (answer : Tree) → IsNamed new → fits k && fits text ≡ true → IsFaithfulAnswer (put k text new answer (get m k)) k m
  put_faithful answer named h = record { leads = put_leads named h; short = put_short (holds_until text wanted (get m k)); none = put_none; some = put_some }

set_faithful : (k text : Bytes) (when : Option SetCondition) (reply : SetReply) (new : NewDeadline) (m : Dataset) → IsNamed new → fits k && fits text ≡ true → IsFaithfulAnswer (set_answer k text when reply new (get m k)) k m
set_faithful k text when asked.Done new m named h = if_faithful (allows when (get m k)) _ _ k m (put_faithful k text new m done named h) (stays_faithful _ k m)
set_faithful k text when asked.Before new m named h = if_faithful (holds_other (get m k)) _ _ k m (stays_faithful _ k m) (if_faithful (allows when (get m k)) _ _ k m (put_faithful k text new m _ named h) (stays_faithful _ k m))

setnx_faithful : (k text : Bytes) (m : Dataset) → fits k && fits text ≡ true → IsFaithfulAnswer (setnx_answer k text (get m k)) k m
setnx_faithful k text m h = if_faithful (is_none (get m k)) _ _ k m (put_faithful k text deadline.Endless m _ tt h) (stays_faithful _ k m)

getset_faithful : (k text : Bytes) (m : Dataset) → fits k && fits text ≡ true → IsFaithfulAnswer (getset_answer k text (get m k)) k m
getset_faithful k text m h = if_faithful (holds_other (get m k)) _ _ k m (stays_faithful _ k m) (put_faithful k text deadline.Endless m _ tt h)

-- ---- a lifetime that is within the limits, from a moment on, ends at a deadline
added : (now n : ℤ) → IsMoment now → IsTrue (int_le (pos 1) n) → IsTrue (is_amount n) → IsTrue (is_deadline (now +ℤ n))
added (pos a) (pos n) moment least most = grind (arith, nat_tests, moment.1, least, most)
added (pos a) (negsuc n) moment least most = cc
added (negsuc a) n moment least most = absurd moment.0.le

alone : (n : ℤ) → IsTrue (int_le (pos 1) n) → IsTrue (is_amount n) → IsTrue (is_deadline n)
alone (pos n) least most = grind (arith, nat_tests, least, most)
alone (negsuc n) least most = cc

expiry_named : (now : ℤ) (e : Expiry) → IsMoment now → IsTime e → IsLimited e → IsTrue (is_deadline (deadline_at now e))
expiry_named now (expiry.Seconds n) moment least most = added now (of_seconds n) moment least most
expiry_named now (expiry.Milliseconds n) moment least most = added now n moment least most
expiry_named now (expiry.AtSecond n) moment least most = alone (of_seconds n) least most
expiry_named now (expiry.AtMillisecond n) moment least most = alone n least most

lifetime_named : (k text : Bytes) (when : Option SetCondition) (reply : SetReply) (l : Lifetime) (now : ℤ) → IsMoment now → IsTimed (ask.Set k text when reply l) → HasLimit (ask.Set k text when reply l) → IsNamed (said_at now l)
lifetime_named k text when reply Endless now moment least most = tt
lifetime_named k text when reply Kept now moment least most = tt
lifetime_named k text when reply (Until e) now moment least most = expiry_named now e moment least most

-- a command that sets a text
by_setting : (k text : Bytes) (answers : Option Entry → Answered) (now : ℤ) (m : Dataset) → IsTrue (list_all fits (k ∷ text ∷ [])) → ((n : Dataset) → fits k && fits text ≡ true → IsFaithfulAnswer (answers (get n k)) k n) → IsLawful (on_key k answers) now m
by_setting k text answers now m h f = by_answer k answers now m (ap (λ b. b && true) (first _ _ h)) (λ n. f n (of_two _ _ h))

-- ---- a text is taken away
deleted_faithful : (k text : Bytes) (e : Entry) (m : Dataset) → fits k ≡ true → get m k ≡ Some e → IsFaithfulAnswer (taken k (value.Text text) e) k m
unfolding apply change
deleted_faithful k text e m h is = record {
  leads = ap (λ b. option_and_then (apply_all []) (if b then Some (put_at m k None) else None)) h;
  short = one_short (effect.Del k) (short_effect (effect.Del k) (omega arith));
  none = λ n. cc;
  some = λ n. cc;
}

taken_faithful : (k : Bytes) (v : Value) (e : Entry) (m : Dataset) → fits k ≡ true → get m k ≡ Some e → IsFaithfulAnswer (taken k v e) k m
taken_faithful k (value.Text text) e m h is = deleted_faithful k text e m h is
taken_faithful k (value.Hash t) e m h is = kept_faithful _ k m (sym is) refl
taken_faithful k (value.List t) e m h is = kept_faithful _ k m (sym is) refl
taken_faithful k (value.Set t) e m h is = kept_faithful _ k m (sym is) refl
taken_faithful k (value.SortedSet t) e m h is = kept_faithful _ k m (sym is) refl

getdel_faithful : (k : Bytes) (m : Dataset) → fits k ≡ true → IsFaithfulAnswer (getdel_answer k (get m k)) k m
getdel_faithful k m h = elim (get m k) as (λ o. get m k ≡ o → IsFaithfulAnswer (getdel_answer k o) k m) [
  | None ↦ λ is. kept_faithful _ k m (sym is) refl
  | Some e ↦ λ is. taken_faithful k e.value e m h is
] refl

-- ---- each command
-- MSET and MSETNX have an effect that carries all their words, and the others have a short one.
pub record IsLawfulText (c : TextAsk) (now : ℤ) (m : Dataset) : Type 0 where
  pub faithful : IsFaithful (command c now) now m
  pub texts : length (text_words c) < commands.words → HasCommandTexts (command c now) now m

one_text : (c : TextAsk) (now : ℤ) (m : Dataset) → IsLawful (command c now) now m → IsLawfulText c now m
one_text c now m h = record { faithful = h.faithful; texts = λ _. h.texts }

-- SETEX, PSETEX
by_time : (k text : Bytes) (e : Expiry) (now : ℤ) (m : Dataset) → IsTrue (list_all fits (k ∷ text ∷ [])) → IsMoment now → IsTime e → IsLimited e → IsLawful (on_key k (set_for_answer k text (said_at now (Until e)))) now m
by_time k text e now m h moment least most = by_setting k text (set_for_answer k text (said_at now (Until e))) now m h (λ n. set_faithful k text None asked.Done (said_at now (Until e)) n (expiry_named now e moment least most))

pub texts_faithful : (c : TextAsk) (now : ℤ) (m : Dataset) → IsTrue (list_all fits (text_words c)) → IsMoment now → IsTimed c → HasLimit c → HasNumber c → IsLawfulText c now m
texts_faithful (ask.Get k) now m h moment timed limit number = one_text (ask.Get k) now m (by_telling k get_reply now m h)
texts_faithful (ask.Set k text when says l) now m h moment timed limit number = one_text (ask.Set k text when says l) now m (by_setting k text (set_answer k text when says (said_at now l)) now m h (λ n. set_faithful k text when says (said_at now l) n (lifetime_named k text when says l now moment timed limit)))
texts_faithful (ask.SetEx k n text) now m h moment timed limit number = one_text (ask.SetEx k n text) now m (by_time k text (expiry.Seconds n) now m h moment timed limit)
texts_faithful (ask.PSetEx k n text) now m h moment timed limit number = one_text (ask.PSetEx k n text) now m (by_time k text (expiry.Milliseconds n) now m h moment timed limit)
texts_faithful (ask.StrLen k) now m h moment timed limit number = one_text (ask.StrLen k) now m (by_telling k strlen_reply now m h)
texts_faithful (ask.GetRange k a b) now m h moment timed limit number = one_text (ask.GetRange k a b) now m (by_telling k (getrange_reply a b) now m h)
texts_faithful (ask.MGet ks) now m h moment timed limit number = one_text (ask.MGet ks) now m (keys_answered ks (λ n. reply.array (trees_of (map (λ k. found (get n k)) ks))) now m h)
texts_faithful (ask.SetNx k text) now m h moment timed limit number = one_text (ask.SetNx k text) now m (by_setting k text (setnx_answer k text) now m h (setnx_faithful k text))
texts_faithful (ask.GetSet k text) now m h moment timed limit number = one_text (ask.GetSet k text) now m (by_setting k text (getset_answer k text) now m h (getset_faithful k text))
texts_faithful (ask.GetDel k) now m h moment timed limit number = one_text (ask.GetDel k) now m (by_answer k (getdel_answer k) now m h (λ n. getdel_faithful k n (first _ _ h)))
texts_faithful (ask.MSet ps) now m h moment timed limit number = record { faithful = mset_faithful ps now m h; texts = mset_texts ps now m h }
texts_faithful (ask.MSetNx ps) now m h moment timed limit number = record { faithful = msetnx_faithful ps now m h; texts = msetnx_texts ps now m h }
texts_faithful (ask.Append k more) now m h moment timed limit number = one_text (ask.Append k more) now m (by_setting k more (append_answer k more) now m h (append_faithful k more))
texts_faithful (ask.SetRange k offset part) now m h moment timed limit number = one_text (ask.SetRange k offset part) now m (by_setting k part (setrange_answer k offset part) now m h (setrange_faithful k offset part))
texts_faithful (ask.Increase k by) now m h moment timed limit number = one_text (ask.Increase k by) now m (by_answer k (increase_answer k (amount_number by)) now m h (λ n. increase_faithful k (amount_number by) n (first _ _ h) number))
