-- What a command answers, what it leaves, and its effects.
use Rattle.std.specs.Prelude.{◌≡◌, ◌↔◌, ℤ, List, [], ◌∷◌, ◌++◌, All, Option, Some}
use Rattle.mr_map.specs.Bytes.{Bytes}
use Rattle.mr_resp.specs.Replies.{Tree}
use Rattle.mr_resp.specs.Command.{IsCommandText}
use Rattle.mr_resp.specs.Usual.{commands}
use Rattle.mr_keyspace.specs.Dataset.{Dataset}
use Rattle.mr_data.specs.Dataset.{seen}
use Rattle.mr_data.specs.Meaning.{apply_all}
use Rattle.mr_keyspace.specs.declared.value.Entry.{Entry}
use Rattle.mr_effect.specs.Spelling.{text, IsShort}
use Rattle.mr_effect.specs.declared.effect.Effect.{Effect}
use Rattle.mr_cmd_shared.specs.Keys.{expired, purged, dels}
use Rattle.mr_cmd_shared.specs.Answered.{Answered}
use Rattle.mr_cmd_shared.specs.Outcomes.{Outcome, at_key}

-- A command is the keys that it names, and what it does to a dataset in which none of them is expired.
pub record Command : Type 0 where
  pub keys : List Bytes
  pub outcome : Dataset → Outcome

-- a command on one key
abbrev pub on_key : Bytes → (Option Entry → Answered) → Command
on_key k answers = record { keys = k ∷ []; outcome = at_key k answers }

-- a command on several keys
abbrev pub on_keys : List Bytes → (Dataset → Outcome) → Command
on_keys ks does = record { keys = ks; outcome = does }

-- a command that names no key
abbrev pub on_none : (Dataset → Outcome) → Command
on_none does = record { keys = []; outcome = does }

-- the answer, by what is seen at a moment
abbrev pub answer : Command → ℤ → Dataset → Tree
answer command now m = (command.outcome (seen now m)).reply

-- the dataset without the expired keys that the command names
abbrev pub before : Command → ℤ → Dataset → Dataset
before command now m = purged now command.keys m

-- .. and changed as the command says
abbrev pub after : Command → ℤ → Dataset → Dataset
after command now m = (command.outcome (before command now m)).after

-- the command's own effects
abbrev pub own_effects : Command → ℤ → Dataset → List Effect
own_effects command now m = (command.outcome (before command now m)).effects

-- .. behind a DEL for each expired key that it names
abbrev pub effects : Command → ℤ → Dataset → List Effect
effects command now m = dels (expired now command.keys m) ++ own_effects command now m

pub record IsPlan (command : Command) (now : ℤ) (m : Dataset) (reply : Tree) (list : List Effect) : Type 0 where
  pub reply_is : reply ≡ answer command now m
  pub effects_are : list ≡ effects command now m

-- the reply is the command's, and its effects were put behind those that were there
pub record Plans (command : Command) (now : ℤ) (m : Dataset) (reply : Tree) (old new : List Effect) : Type 0 where
  pub reply_is : reply ≡ answer command now m
  pub effects_are : new ≡ old ++ effects command now m

-- The effects lead to what the command leaves, and its own ones are there exactly where it changes something.
pub record IsFaithful (command : Command) (now : ℤ) (m : Dataset) : Type 0 where
  pub leads : apply_all (effects command now m) m ≡ Some (after command now m)
  pub changes : (own_effects command now m ≡ []) ↔ (after command now m ≡ before command now m)

-- .. and their texts are command texts, of no more words than a command may have.
pub record HasCommandTexts (command : Command) (now : ℤ) (m : Dataset) : Type 0 where
  pub each : All (λ e. IsCommandText commands (text e)) (effects command now m)
  pub short : All IsShort (effects command now m)
