-- The law of faithful effects, lifted from what is done at one key.
use Rattle.std.proofs.Common.{◌≡◌, List, [], ◌∷◌, Bool, true, false, ◌&&◌, Option, Some, None, refl, sym, ◌∙◌, ap, arith}
use Rattle.std.specs.Prelude.{IsTrue, ℤ, if◌then◌else◌, All}
use Rattle.std.specs.List.{list_all}
use Rattle.std.specs.Option.{option_and_then}
use Rattle.std.specs.FinMap.{get}
use Rattle.std.proofs.lemmas.List.Elements.{All-nil, All-cons, All-head, All-tail, All-same, All-append}
use Rattle.mr_map.specs.Bytes.{Bytes}
use Rattle.mr_resp.specs.Replies.{Tree}
use Rattle.mr_resp.specs.Command.{IsCommandText}
use Rattle.mr_resp.specs.Usual.{commands}
use Rattle.mr_bytes.specs.Words.{fits}
use Rattle.mr_keyspace.specs.Dataset.{Dataset, put_at}
use Rattle.mr_keyspace.specs.Changes.{change}
use Rattle.mr_data.specs.Meaning.{apply, apply_all}
use Rattle.mr_keyspace.specs.declared.value.Entry.{Entry}
use Rattle.mr_effect.specs.Effects.{has_spelling, words_fit}
use Rattle.mr_effect.specs.Spelling.{text, IsShort}
use Rattle.mr_effect.specs.declared.effect.Effect.{Effect}
use Rattle.mr_effect.specs.declared.effect.Effect.TheVariants as effect
use Rattle.mr_effect.proofs.Texts.{command_text, short_effect}
use Rattle.mr_cmd_shared.specs.Keys.{expired, dels, is_stored}
use Rattle.mr_cmd_shared.specs.Answered.{Answered, kept}
use Rattle.mr_cmd_shared.specs.Outcomes.{Outcome, answered, at_key}
use Rattle.mr_cmd_shared.specs.Commands.{Command, on_key, on_keys, on_none, before, after, effects, own_effects, IsFaithful, HasCommandTexts}
use Rattle.mr_keyspace.proofs.Puts.{get_put, put_same}
use Rattle.mr_cmd_shared.proofs.KeyLists.{apply_all-append, dels_lead, chosen_fits}

-- ---- effects that can be done one after another, and are short, have command texts
left : (a b : Bool) → a && b ≡ true → IsTrue a
left true b h = refl
left false b h = cc

right : (a b : Bool) → a && b ≡ true → IsTrue b
right true b h = h
right false b h = cc

-- an effect that can be done
possible : (e : Effect) (es : List Effect) (m n : Dataset) → apply_all (e ∷ es) m ≡ Some n → has_spelling e && words_fit e ≡ true
unfolding apply
possible e es m n h = elim (has_spelling e && words_fit e) as (λ b. option_and_then (apply_all es) (if b then change e m else None) ≡ Some n → b ≡ true) [
  | true ↦ λ _. refl
  | false ↦ λ wrong. cc
] h

-- what it leads to, from which the others go on
next : (e : Effect) (es : List Effect) (m n : Dataset) → apply_all (e ∷ es) m ≡ Some n → (p : Dataset) × (apply_all es p ≡ Some n)
next e es m n h = elim (apply e m) as (λ o. option_and_then (apply_all es) o ≡ Some n → (p : Dataset) × (apply_all es p ≡ Some n)) [
  | None ↦ λ wrong. cc
  | Some p ↦ λ leads. (p, leads)
] h

pub command_texts : (es : List Effect) (m n : Dataset) → apply_all es m ≡ Some n → All IsShort es → All (λ e. IsCommandText commands (text e)) es
command_texts [] m n h short = All-nil (λ e. IsCommandText commands (text e))
command_texts (e ∷ es) m n h short =
    let can = possible e es m n h in
    let rest = next e es m n h in
    All-cons (λ e. IsCommandText commands (text e)) e es (command_text e (left _ _ can) (right _ _ can) (All-head IsShort e es short)) (command_texts es rest.0 n rest.1 (All-tail IsShort e es short))

pub dels_short : (ks : List Bytes) → All IsShort (dels ks)
dels_short [] = All-nil IsShort
dels_short (k ∷ ks) = All-cons IsShort (effect.Del k) (dels ks) (short_effect (effect.Del k) (omega arith)) (dels_short ks)

pub none_short : (es : List Effect) → es ≡ [] → All IsShort es
none_short es h = All-same IsShort es [] h (All-nil IsShort)

pub one_short : (e : Effect) → IsShort e → All IsShort (e ∷ [])
one_short e h = All-cons IsShort e [] h (All-nil IsShort)

-- ---- what is promised of each command
pub record IsLawful (command : Command) (now : ℤ) (m : Dataset) : Type 0 where
  pub faithful : IsFaithful command now m
  pub texts : HasCommandTexts command now m

-- ---- an outcome whose effects lead there, and are there exactly where it changes the dataset
pub record IsLeadingAt (outcome : Outcome) (m : Dataset) : Type 0 where
  pub leads : apply_all outcome.effects m ≡ Some outcome.after
  pub none : outcome.effects ≡ [] → outcome.after ≡ m
  pub some : outcome.after ≡ m → outcome.effects ≡ []

-- .. and are short
pub record IsFaithfulAt (outcome : Outcome) (m : Dataset) : Type 0 where
  pub leads : apply_all outcome.effects m ≡ Some outcome.after
  pub short : All IsShort outcome.effects
  pub none : outcome.effects ≡ [] → outcome.after ≡ m
  pub some : outcome.after ≡ m → outcome.effects ≡ []

pub leading_at : (outcome : Outcome) (m : Dataset) → IsFaithfulAt outcome m → IsLeadingAt outcome m
leading_at outcome m f = record { leads = f.leads; none = f.none; some = f.some }

-- .. behind a DEL for each expired key
pub leading : (command : Command) (now : ℤ) (m : Dataset) → IsTrue (list_all fits command.keys) → IsLeadingAt (command.outcome (before command now m)) (before command now m) → IsFaithful command now m
leading command now m h f = record {
  leads = let ks = expired now command.keys m in
      apply_all-append (dels ks) (own_effects command now m) m
      ∙ ap (option_and_then (apply_all (own_effects command now m))) (dels_lead ks m (chosen_fits (is_stored now true) command.keys m h))
      ∙ f.leads;
  changes = (f.none, f.some);
}

pub sent : (command : Command) (now : ℤ) (m : Dataset) → IsFaithful command now m → All IsShort (own_effects command now m) → HasCommandTexts command now m
sent command now m f short =
    let ks = expired now command.keys m in
    let all = All-append IsShort (dels ks) (own_effects command now m) (dels_short ks) short in
    record { each = command_texts (effects command now m) m (after command now m) f.leads all; short = all }

pub faithful : (command : Command) (now : ℤ) (m : Dataset) → IsTrue (list_all fits command.keys) → IsFaithfulAt (command.outcome (before command now m)) (before command now m) → IsLawful command now m
faithful command now m h f =
    let law = leading command now m h (leading_at (command.outcome (before command now m)) (before command now m) f) in
    record { faithful = law; texts = sent command now m law f.short }

-- ---- an answer at one key
pub record IsFaithfulAnswer (answer : Answered) (k : Bytes) (m : Dataset) : Type 0 where
  pub leads : apply_all answer.effects m ≡ Some (put_at m k answer.entry)
  pub short : All IsShort answer.effects
  pub none : answer.effects ≡ [] → answer.entry ≡ get m k
  pub some : answer.entry ≡ get m k → answer.effects ≡ []

pub at_key_faithful : (k : Bytes) (answers : Option Entry → Answered) (m : Dataset) → IsFaithfulAnswer (answers (get m k)) k m → IsFaithfulAt (at_key k answers m) m
at_key_faithful k answers m f = record {
  leads = f.leads;
  short = f.short;
  none = λ e. ap (put_at m k) (f.none e) ∙ put_same m k (get m k) refl;
  some = λ e. f.some (sym (get_put m k (answers (get m k)).entry) ∙ ap (λ (x : Dataset). get x k) e);
}

-- nothing changes
pub kept_faithful : (answer : Answered) (k : Bytes) (m : Dataset) → answer.entry ≡ get m k → answer.effects ≡ [] → IsFaithfulAnswer answer k m
kept_faithful answer k m e f = record {
  leads = ap (λ (xs : List Effect). apply_all xs m) f ∙ ap Some (sym (put_same m k answer.entry (sym e)));
  short = none_short answer.effects f;
  none = λ _. e;
  some = λ _. f;
}

pub answered_faithful : (outcome : Outcome) (m : Dataset) → outcome.after ≡ m → outcome.effects ≡ [] → IsFaithfulAt outcome m
answered_faithful outcome m e f = record {
  leads = ap (λ (xs : List Effect). apply_all xs m) f ∙ ap Some (sym e);
  short = none_short outcome.effects f;
  none = λ _. e;
  some = λ _. f;
}

-- ---- answers
-- one of two
pub if_faithful : (b : Bool) (t u : Answered) (k : Bytes) (m : Dataset) → IsFaithfulAnswer t k m → IsFaithfulAnswer u k m → IsFaithfulAnswer (if b then t else u) k m
if_faithful true t u k m p q = p
if_faithful false t u k m p q = q

-- one that only tells
pub stays_faithful : (answer : Tree) (k : Bytes) (m : Dataset) → IsFaithfulAnswer (kept answer (get m k)) k m
stays_faithful answer k m = kept_faithful (kept answer (get m k)) k m refl refl

-- ---- commands
-- on one key
pub by_answer : (k : Bytes) (answers : Option Entry → Answered) (now : ℤ) (m : Dataset) → IsTrue (list_all fits (k ∷ [])) → ((n : Dataset) → IsFaithfulAnswer (answers (get n k)) k n) → IsLawful (on_key k answers) now m
by_answer k answers now m h f = let n = before (on_key k answers) now m in faithful (on_key k answers) now m h (at_key_faithful k answers n (f n))

-- .. that only tells
pub by_telling : (k : Bytes) (answer : Option Entry → Tree) (now : ℤ) (m : Dataset) → IsTrue (list_all fits (k ∷ [])) → IsLawful (on_key k (λ o. kept (answer o) o)) now m
by_telling k answer now m h = by_answer k (λ o. kept (answer o) o) now m h (λ n. stays_faithful (answer (get n k)) k n)

-- on several keys, which only tells
pub keys_answered : (ks : List Bytes) (answer : Dataset → Tree) (now : ℤ) (m : Dataset) → IsTrue (list_all fits ks) → IsLawful (on_keys ks (λ n. answered (answer n) n)) now m
keys_answered ks answer now m h = faithful (on_keys ks (λ n. answered (answer n) n)) now m h (answered_faithful _ _ refl refl)

-- that names no key and only tells
pub none_answered : (answer : Dataset → Tree) (now : ℤ) (m : Dataset) → IsLawful (on_none (λ n. answered (answer n) n)) now m
none_answered answer now m = faithful (on_none (λ n. answered (answer n) n)) now m refl (answered_faithful _ _ refl refl)
