-- The command text at the front of bytes, and the effects whose text it may be.
use Rattle.std.proofs.Common.{◌≡◌, ℕ, ◌<◌, ◌≤◌, ◌^◌, List, [], ◌∷◌, ◌++◌, length, take, drop, Bool, true, false, ◌&&◌, cond, IsTrue, ◌≢◌, ◌↔◌, Option, Some, None, Result, Err, refl, sym, ap, subst, ◌∙◌, append_assoc, arith}
use Rattle.std.specs.List.{flat_map}
use Rattle.std.proofs.lemmas.List.{length-append, length-take, take-append-drop}
use Rattle.std.specs.FinMap.{empty}
use Rattle.mr_map.specs.Bytes.{Bytes}
use Rattle.mr_inline.specs.Language.{Continues, Fails}
use Rattle.mr_resp.specs.Spelling.{number_line, bulk, array}
use Rattle.mr_resp.specs.Command.{IsCommand, IsCommandText, HasCommandFault}
use Rattle.mr_resp.specs.Usual.{commands, commands-words}
use Rattle.mr_resp.specs.declared.fault.Fault.{Fault}
use Rattle.mr_resp.proofs.Words.{line_unique, bulk_unique, length-bulk}
use Rattle.mr_resp.proofs.Commands.{commands_apart, command_wants_no_more}
use Rattle.mr_effect.specs.Effects.{has_spelling, words_fit}
use Rattle.mr_effect.specs.Spelling.{words, text, IsSpelled, FindsEach}
use Rattle.mr_effect.specs.declared.effect.Effect.{Effect}
use Rattle.mr_effect.proofs.Texts.{command_text}
use Rattle.mr_keyspace.specs.Dataset.{Dataset}
use Rattle.mr_keyspace.specs.Changes.{change}
use Rattle.mr_keyspace.specs.declared.fault.ApplyFault.{ApplyFault}
use Rattle.mr_keyspace.specs.declared.fault.ApplyFault.TheVariants.{Refused, Memory}
use Rattle.mr_keyspace.specs.Changes.{NeedsNoMemory}
use Rattle.mr_data.specs.Meaning.{apply}
use Rattle.mr_groups.specs.Effects.{IsGoodEffect, IsStuckForGood}
use Rattle.mr_groups.specs.Steps.{DoesWords, RefusesWords, SpendsWords, SpendsFirst, DoesFirst, Waits, TriesEffect, TriesWords, TriesCommand, TriesFirst}
use Rattle.mr_groups.specs.declared.trying.Tried.{Tried}
use Rattle.mr_groups.specs.declared.trying.Tried.TheVariants as tried
use Rattle.mr_groups.specs.declared.replaying.Step.{Step}
use Rattle.mr_groups.specs.declared.replaying.Step.TheVariants as step

-- ---- words in array form have one text

bulks_same : (ws vs : List Bytes) → length (flat_map bulk ws) < 2 ^ 64 → length (flat_map bulk vs) < 2 ^ 64 → length ws ≡ length vs → flat_map bulk ws ≡ flat_map bulk vs → ws ≡ vs
bulks_same [] [] p q n e = refl
bulks_same [] (v ∷ vs) p q n e = absurd (omega (arith, n))
bulks_same (w ∷ ws) [] p q n e = absurd (omega (arith, n))
bulks_same (w ∷ ws) (v ∷ vs) p q n e =
    let lw = length-append (bulk w) (flat_map bulk ws) in
    let lv = length-append (bulk v) (flat_map bulk vs) in
    let first = bulk_unique w v (flat_map bulk ws) (flat_map bulk vs) (omega (arith, p, lw, length-bulk w)) (omega (arith, q, lv, length-bulk v)) e in
    let rest = bulks_same ws vs (omega (arith, p, lw)) (omega (arith, q, lv)) (omega (arith, n)) first.1 in
    let head : w ≡ v = first.0 in
    cc

array_same : (ws vs : List Bytes) → length ws < 2 ^ 64 → length vs < 2 ^ 64 → length (array ws) < 2 ^ 64 → array ws ≡ array vs → ws ≡ vs
array_same ws vs few_ws few_vs small e =
    let inner : number_line (length ws) ++ flat_map bulk ws ≡ number_line (length vs) ++ flat_map bulk vs = cc in
    let line = line_unique (length ws) (length vs) (flat_map bulk ws) (flat_map bulk vs) few_ws few_vs inner in
    let long = length-append (number_line (length ws)) (flat_map bulk ws) in
    let short_ws : length (flat_map bulk ws) < 2 ^ 64 = omega (arith, small, long) in
    bulks_same ws vs short_ws (subst (λ n. n < 2 ^ 64) (ap length line.1) short_ws) line.0 line.1

-- ---- what an effect that can be applied is

pub if_some : {A : Type 0} (b c : Bool) (o : Option A) (n : A) → cond (b && c) o None ≡ Some n → IsTrue b × IsTrue c
if_some true true o n h = (refl, refl)
if_some true false o n h = absurd (cc)
if_some false c o n h = absurd (cc)

pub applied_fits : (e : Effect) (m n : Dataset) → apply e m ≡ Some n → IsTrue (has_spelling e) × IsTrue (words_fit e)
unfolding apply
applied_fits e m n h = if_some (has_spelling e) (words_fit e) (change e m) n h

good : (e : Effect) (m n : Dataset) (ws : List Bytes) → words e ≡ ws → length ws ≤ commands.words → apply e m ≡ Some n → IsGoodEffect e
good e m n ws same few applied =
    let fit = applied_fits e m n applied in
    record { spelled = fit.0; fits = fit.1; short = subst (λ (vs : List Bytes). length vs ≤ commands.words) (sym same) few }

few : (ws : List Bytes) → length ws ≤ commands.words → length ws < 2 ^ 64
few ws h = omega (arith, h, commands-words)

-- a command text whose words are an effect's is the effect's text
pub does_first : (bytes : List ℕ) (used : ℕ) (ws : List Bytes) (old new : Dataset) → used ≤ length bytes → IsCommand commands (take used bytes) ws → DoesWords ws old new → DoesFirst bytes used old new
does_first bytes used ws old new within command done = record {
  within = within;
  effect = done.effect;
  good = good done.effect old new ws done.spelled.1 command.count done.applied;
  is_text = command.spelled ∙ ap array (sym done.spelled.1);
  applied = done.applied;
}

-- the effect whose text begins with a command text has its words
pub words_are : (e : Effect) (command : List ℕ) (ws : List Bytes) (x y : List ℕ) → IsGoodEffect e → length command < 2 ^ 64 → IsCommand commands command ws → command ++ x ≡ text e ++ y → words e ≡ ws
words_are e command ws x y kept small is q =
    let there = command_text e kept.spelled kept.fits kept.short in
    let same = commands_apart commands command (text e) x y ws there.0 is there.1 q in
    let spelled : array (words e) ≡ array ws = sym same.0 ∙ is.spelled in
    array_same (words e) ws (few (words e) kept.short) (few ws is.count) (subst (λ (t : List ℕ). length t < 2 ^ 64) same.0 small) spelled

-- where no effect with these words can be applied, none can whose text begins the bytes
pub refuses_first : (bytes : List ℕ) (used : ℕ) (ws : List Bytes) (m : Dataset) → used ≤ length bytes → used < 2 ^ 64 → IsCommand commands (take used bytes) ws → RefusesWords ws m → IsStuckForGood m bytes
refuses_first bytes used ws m within small command refuses more e n behind kept applied q =
    let front : take used bytes ++ (drop used bytes ++ more) ≡ text e ++ behind =
    sym (append_assoc (take used bytes) (drop used bytes) more) ∙ (ap (λ (t : List ℕ). t ++ more) (take-append-drop used bytes) ∙ q) in
    let short : length (take used bytes) < 2 ^ 64 = omega (arith, small, length-take used bytes) in
    refuses e n (kept.spelled, words_are e (take used bytes) ws (drop used bytes ++ more) behind kept short command front) applied

-- bytes that a command text may still come of begin with no effect's text
pub waits : (bytes : List ℕ) (m : Dataset) → Continues (IsCommandText commands) bytes → Waits m bytes
waits bytes m begun = record { stuck = λ e n behind kept applied q. none e n behind kept q; begun = begun }
  where
    none : (e : Effect) (n : Dataset) (behind : List ℕ) → IsGoodEffect e → bytes ≡ text e ++ behind → ⊥
    none e n behind kept q = command_wants_no_more commands (text e) behind (command_text e kept.spelled kept.fits kept.short) (subst (Continues (IsCommandText commands)) q begun)

-- .. nor do those that none can come of
pub stops : (bytes : List ℕ) (m : Dataset) (fault : Fault) → Fails (IsCommandText commands) (HasCommandFault commands fault) bytes → IsStuckForGood m bytes
stops bytes m fault fails more e n behind kept applied q =
    let whole : (fails.front ++ fails.byte ∷ []) ++ (fails.rest ++ more) ≡ text e ++ behind =
    append_assoc fails.front (fails.byte ∷ []) (fails.rest ++ more) ∙ (sym (append_assoc fails.front (fails.byte ∷ fails.rest) more) ∙ (ap (λ (t : List ℕ). t ++ more) (sym fails.is) ∙ q)) in
    fails.doomed.never (fails.rest ++ more) (text e) behind (command_text e kept.spelled kept.fits kept.short) whole

pub spends_first : (bytes : List ℕ) (used : ℕ) (ws : List Bytes) (old new : Dataset) → used ≤ length bytes → IsCommand commands (take used bytes) ws → SpendsWords ws old new → SpendsFirst bytes old new
unfolding does_first
spends_first bytes used ws old new within command s = record {
  used = used;
  can = s.can;
  does = does_first bytes used ws old s.can within command s.does;
  heavy = s.heavy;
  emptied = s.emptied;
}

-- what was done with the command text at the front was done at the front
pub tries_front : (bytes : List ℕ) (n : ℕ) (ws : List Bytes) (old new : Dataset) (s : Step) → n ≤ length bytes → n < 2 ^ 64 → IsCommand commands (take n bytes) ws → TriesCommand ws n old new s → TriesFirst bytes old new s
tries_front bytes n ws old new (step.Done used) within small command done = subst (λ k. DoesFirst bytes k old new) (sym done.0) (does_first bytes n ws old new within command done.1)
tries_front bytes n ws old new step.Wait within small command done = absurd done
tries_front bytes n ws old new step.Stop within small command done = (done.0, refuses_first bytes n ws old within small command done.1)
tries_front bytes n ws old new step.Lack within small command done = (done, record { words = ws; used = n; inside = within; command = command })
tries_front bytes n ws old new step.Spent within small command done = spends_first bytes n ws old new within command done

-- ---- what was done with words

pub none_spelled : (ws : List Bytes) (m : Dataset) → ((e : Effect) → IsSpelled ws e → ⊥) → RefusesWords ws m
none_spelled ws m none e n spelled applied = none e spelled

refuses : (ws : List Bytes) (e : Effect) (m : Dataset) → ((f : Effect) → IsSpelled ws f → Some e ≡ Some f) → apply e m ≡ None → RefusesWords ws m
refuses ws e m each none f n spelled applied =
    let same = each f spelled in
    let here : apply e m ≡ Some n = ap (λ g. apply g m) (some_is e f same) ∙ applied in
    absurd (no_some (apply e m) n none here)
  where
    some_is : (x y : Effect) → Some x ≡ Some y → x ≡ y
    some_is x y q = cc

    no_some : (o : Option Dataset) (x : Dataset) → o ≡ None → o ≡ Some x → ⊥
    no_some o x p q = let wrong : None ≡ Some x = sym p ∙ q in cc

some_of : (o : Option Dataset) → o ≢ None → (k : Dataset) × (o ≡ Some k)
some_of None h = absurd (h refl)
some_of (Some k) h = (k, refl)

-- memory ran out within an effect, which isn't refused
pub effect_spent : (e : Effect) (m n : Dataset) (r : Result (Unit {0}) ApplyFault) → ((r ≡ Err Refused) ↔ (apply e m ≡ None)) → (r ≡ Err Memory → n ≡ empty)
    → (NeedsNoMemory e → r ≢ Err Memory) → r ≡ Err Memory → ((apply e m ≢ None) × (NeedsNoMemory e → ⊥)) × (n ≡ empty)
effect_spent e m n r refused emptied light is = ((λ none. not_both r is (refused.1 none), λ none. light none is), emptied is)
  where
    not_both : (o : Result (Unit {0}) ApplyFault) → o ≡ Err Memory → o ≡ Err Refused → ⊥
    not_both o p q = let wrong = sym p ∙ q in cc

-- the effect with a command's words is done as it is, or there is none that can be
pub words_tried : (e : Effect) (ws : List Bytes) (m n : Dataset) (t : Tried) → TriesEffect e m n t → IsSpelled ws e → FindsEach ws (Some e) → TriesWords ws m n t
words_tried e ws m n tried.Done h spelled each = record { effect = e; spelled = spelled; applied = h }
words_tried e ws m n tried.Refused h spelled each = (h.0, refuses ws e m each h.1)
words_tried e ws m n tried.Lack h spelled each = absurd h
words_tried e ws m n tried.Spent h spelled each =
    let k = some_of (apply e m) h.0.0 in
    record { can = k.0; does = record { effect = e; spelled = spelled; applied = k.1 }; heavy = h.0.1; emptied = h.1 }
