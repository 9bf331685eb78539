-- Plans from what was seen.
use Rattle.std.proofs.Common.{◌≡◌, List, [], ◌∷◌, ◌++◌, append_assoc, Bool, true, false, cond, Option, refl, sym, ◌∙◌, ap}
use Rattle.std.specs.Prelude.{◌||◌, ℤ, Ok, Err, Result, IfOk}
use Rattle.std.specs.FinMap.{get}
use Rattle.mr_map.specs.Bytes.{Bytes}
use Rattle.mr_resp.specs.Replies.{Tree}
use Rattle.mr_resp.specs.ReplyView.{view}
use Rattle.mr_resp.specs.declared.reply.Reply.{Reply}
use Rattle.mr_keyspace.specs.Dataset.{Dataset}
use Rattle.mr_data.specs.Dataset.{live, seen}
use Rattle.mr_data.proofs.Seeing.{get-seen}
use Rattle.mr_keyspace.specs.declared.value.Entry.{Entry}
use Rattle.mr_effect.specs.declared.effect.Effect.{Effect}
use Rattle.mr_cmd_shared.specs.Keys.{dels, expired, purged}
use Rattle.mr_cmd_shared.specs.Answered.{Answered, Takes}
use Rattle.mr_cmd_shared.specs.Outcomes.{answered}
use Rattle.mr_cmd_shared.specs.Commands.{Command, on_key, on_keys, effects, IsPlan, Plans}
use Rattle.mr_keyspace.proofs.Puts.{is_key_itself}
use Rattle.mr_cmd_shared.proofs.KeyLists.{get_purged}

pub purged_at : (now : ℤ) (k : Bytes) (m : Dataset) → get (purged now (k ∷ []) m) k ≡ live now (get m k)
purged_at now k m = get_purged now (k ∷ []) m k ∙ ap (λ b. cond b (live now (get m k)) (get m k)) (one (is_key_itself k))
  where
    one : {b : Bool} → b ≡ true → (b || false) ≡ true
    one {b} h = ap (λ c. c || false) h

-- what a command is answered, where there was no effect before it, is its plan
pub is_plan : (command : Command) (now : ℤ) (m : Dataset) (r : Tree) (none new list : List Effect) → none ≡ [] → list ≡ new → Plans command now m r none new → IsPlan command now m r list
is_plan command now m r none new list start all p = record {
  reply_is = p.reply_is;
  effects_are = all ∙ p.effects_are ∙ ap (λ xs. xs ++ effects command now m) start;
}

pub if_ok : {T E : Type 0} {P Q : T → Type 0} (r : Result T E) → ((x : T) → P x → Q x) → IfOk r P → IfOk r Q
if_ok (Ok x) f h = f x h
if_ok (Err e) f h = tt

-- a command on one key, from the entry that is seen there
pub on_key_plans : (k : Bytes) (answers : Option Entry → Answered) (now : ℤ) (m : Dataset) (o : Option Entry) (r : Tree) (old looked new : List Effect) → o ≡ live now (get m k) → looked ≡ old ++ dels (expired now (k ∷ []) m) → Takes (answers o) r looked new → Plans (on_key k answers) now m r old new
on_key_plans k answers now m o r old looked new is look t = record {
  reply_is = t.reply_is ∙ ap (λ (x : Option Entry). (answers x).reply) (is ∙ sym (get-seen now m k));
  effects_are = t.effects_are
      ∙ ap (λ xs. xs ++ (answers o).effects) look
      ∙ append_assoc old (dels (expired now (k ∷ []) m)) (answers o).effects
      ∙ ap (λ (x : Option Entry). old ++ (dels (expired now (k ∷ []) m) ++ (answers x).effects)) (is ∙ sym (purged_at now k m));
}

-- .. where memory may run out
pub on_key_plans_if_ok : {E : Type 0} (result : Result Reply E) (k : Bytes) (answers : Option Entry → Answered) (now : ℤ) (m : Dataset) (o : Option Entry) (old looked new : List Effect) → o ≡ live now (get m k) → looked ≡ old ++ dels (expired now (k ∷ []) m) → IfOk result (λ r. Takes (answers o) (view r) looked new) → IfOk result (λ r. Plans (on_key k answers) now m (view r) old new)
on_key_plans_if_ok result k answers now m o old looked new is look = if_ok result (λ r. on_key_plans k answers now m o (view r) old looked new is look)

-- .. and as a plan
pub key_plan : (k : Bytes) (answers : Option Entry → Answered) (now : ℤ) (m : Dataset) (o : Option Entry) (r : Tree) (none looked taken list : List Effect) → o ≡ live now (get m k) → none ≡ [] → looked ≡ none ++ dels (expired now (k ∷ []) m) → list ≡ taken → Takes (answers o) r looked taken → IsPlan (on_key k answers) now m r list
key_plan k answers now m o r none looked taken list is start look all t = is_plan (on_key k answers) now m r none taken list start all (on_key_plans k answers now m o r none looked taken is look t)

append_none : {A : Type 0} (xs : List A) → xs ++ [] ≡ xs
append_none [] = refl
append_none (x ∷ xs) = ap (λ ys. x ∷ ys) (append_none xs)

-- a command that only tells of what is there
pub takes_reply : (answer : Answered) {r : Tree} (old : List Effect) → answer.effects ≡ [] → r ≡ answer.reply → Takes answer r old old
takes_reply answer old none is = record { reply_is = is; effects_are = sym (append_none old) ∙ ap (λ xs. old ++ xs) (sym none) }

-- a command that only tells of several keys
pub on_keys_plans : (ks : List Bytes) (answer : Dataset → Tree) (now : ℤ) (m : Dataset) (r : Tree) (old new : List Effect) → new ≡ old ++ dels (expired now ks m) → r ≡ answer (seen now m) → Plans (on_keys ks (λ n. answered (answer n) n)) now m r old new
on_keys_plans ks answer now m r old new look reply = record {
  reply_is = reply;
  effects_are = look ∙ ap (λ xs. old ++ xs) (sym (append_none (dels (expired now ks m))));
}
