-- What is done at the front of bytes.
use Rattle.std.specs.Prelude.{◌≡◌, ℕ, ◌≤◌, ◌≢◌, List, length, take, drop, Some, None}
use Rattle.std.specs.FinMap.{empty}
use Rattle.mr_map.specs.Bytes.{Bytes}
use Rattle.mr_inline.specs.Language.{Continues}
use Rattle.mr_resp.specs.Command.{IsCommandText, BeginsWithCommand}
use Rattle.mr_resp.specs.Resumed.{KnowsNothing}
use Rattle.mr_resp.specs.Usual.{commands}
use Rattle.mr_resp.specs.declared.progress.CommandProgress.{CommandProgress}
use Rattle.mr_effect.specs.Spelling.{text, IsSpelled}
use Rattle.mr_effect.specs.declared.effect.Effect.{Effect}
use Rattle.mr_keyspace.specs.Dataset.{Dataset}
use Rattle.mr_keyspace.specs.Changes.{NeedsNoMemory}
use Rattle.mr_data.specs.Meaning.{apply}
use Rattle.mr_groups.specs.Effects.{IsGoodEffect, Leads, IsStuck, IsStuckForGood}
use Rattle.mr_groups.specs.declared.replaying.Step.{Step}
use Rattle.mr_groups.specs.declared.replaying.Step.TheVariants as step
use Rattle.mr_groups.specs.declared.trying.Tried.{Tried}
use Rattle.mr_groups.specs.declared.trying.Tried.TheVariants as tried
use Rattle.mr_groups.specs.declared.replaying.Halt.{Halt}
use Rattle.mr_groups.specs.declared.replaying.Halt.TheVariants as halt

-- the effect with these words leads from one dataset to another
pub record DoesWords (ws : List Bytes) (old new : Dataset) : Type 0 where
  pub effect : Effect
  pub spelled : IsSpelled ws effect
  pub applied : apply effect old ≡ Some new

-- no effect with these words can be applied
abbrev pub RefusesWords : List Bytes → Dataset → Type 0
RefusesWords ws m = (e : Effect) (n : Dataset) → IsSpelled ws e → apply e m ≡ Some n → ⊥

-- The effect with these words leads on, and takes memory: it emptied the dataset.
pub record SpendsWords (ws : List Bytes) (old new : Dataset) : Type 0 where
  pub can : Dataset
  pub does : DoesWords ws old can
  pub heavy : NeedsNoMemory does.effect → ⊥
  pub emptied : new ≡ empty

-- what was done with an effect
abbrev pub TriesEffect : Effect → Dataset → Dataset → Tried → Type 0
TriesEffect e old new tried.Done = apply e old ≡ Some new
TriesEffect e old new tried.Refused = (new ≡ old) × (apply e old ≡ None)
TriesEffect e old new tried.Lack = ⊥
TriesEffect e old new tried.Spent = ((apply e old ≢ None) × (NeedsNoMemory e → ⊥)) × (new ≡ empty)

-- what was done with words: their effect, or nothing, or memory ran out within it
abbrev pub TriesWords : List Bytes → Dataset → Dataset → Tried → Type 0
TriesWords ws old new tried.Done = DoesWords ws old new
TriesWords ws old new tried.Refused = (new ≡ old) × RefusesWords ws old
TriesWords ws old new tried.Lack = new ≡ old
TriesWords ws old new tried.Spent = SpendsWords ws old new

-- what was done with a command text of these words and this length
abbrev pub TriesCommand : List Bytes → ℕ → Dataset → Dataset → Step → Type 0
TriesCommand ws n old new (step.Done used) = (used ≡ n) × DoesWords ws old new
TriesCommand ws n old new step.Wait = ⊥
TriesCommand ws n old new step.Stop = (new ≡ old) × RefusesWords ws old
TriesCommand ws n old new step.Lack = new ≡ old
TriesCommand ws n old new step.Spent = SpendsWords ws old new

-- the first bytes are the text of an effect, which leads from one dataset to another
pub record DoesFirst (bytes : List ℕ) (used : ℕ) (old new : Dataset) : Type 0 where
  pub within : used ≤ length bytes
  pub effect : Effect
  pub good : IsGoodEffect effect
  pub is_text : take used bytes ≡ text effect
  pub applied : apply effect old ≡ Some new

-- no effect that can be applied begins the bytes, but they are a beginning of a command text
pub record Waits (m : Dataset) (bytes : List ℕ) : Type 0 where
  pub stuck : IsStuck m bytes
  pub begun : Continues (IsCommandText commands) bytes

-- The first bytes are the text of an effect, which leads on and takes memory: it emptied the dataset.
pub record SpendsFirst (bytes : List ℕ) (old new : Dataset) : Type 0 where
  pub used : ℕ
  pub can : Dataset
  pub does : DoesFirst bytes used old can
  pub heavy : NeedsNoMemory does.effect → ⊥
  pub emptied : new ≡ empty

-- what was done at the front of the bytes
abbrev pub TriesFirst : List ℕ → Dataset → Dataset → Step → Type 0
TriesFirst bytes old new (step.Done used) = DoesFirst bytes used old new
TriesFirst bytes old new step.Wait = (new ≡ old) × Waits old bytes
TriesFirst bytes old new step.Stop = (new ≡ old) × IsStuckForGood old bytes
TriesFirst bytes old new step.Lack = (new ≡ old) × BeginsWithCommand commands bytes
TriesFirst bytes old new step.Spent = SpendsFirst bytes old new

-- Nothing is known of the text that comes next, where one was used or none can come.
abbrev pub IsKnownAfter : CommandProgress → Step → Type 0
IsKnownAfter progress (step.Done used) = KnowsNothing progress
IsKnownAfter progress step.Wait = Unit {0}
IsKnownAfter progress step.Stop = KnowsNothing progress
IsKnownAfter progress step.Lack = Unit {0}
IsKnownAfter progress step.Spent = KnowsNothing progress

-- .. so it is where no more can be done
abbrev pub IsKnownBehind : CommandProgress → Halt → Type 0
IsKnownBehind progress halt.Open = Unit {0}
IsKnownBehind progress halt.Bad = KnowsNothing progress
IsKnownBehind progress halt.Lack = Unit {0}
IsKnownBehind progress halt.Spent = KnowsNothing progress

-- why no more was done behind effects that led to a dataset, and the dataset then
abbrev pub IsHalt : Dataset → List ℕ → Halt → Dataset → Type 0
IsHalt m bytes halt.Open n = (n ≡ m) × Waits m bytes
IsHalt m bytes halt.Bad n = (n ≡ m) × IsStuckForGood m bytes
IsHalt m bytes halt.Lack n = (n ≡ m) × BeginsWithCommand commands bytes
IsHalt m bytes halt.Spent n = SpendsFirst bytes m n

-- the first bytes led from one dataset to another, and why no more was done
pub record Replays (bytes : List ℕ) (used : ℕ) (old new : Dataset) (h : Halt) : Type 0 where
  pub within : used ≤ length bytes
  pub mid : Dataset
  pub led : Leads (take used bytes) old mid
  pub left : IsHalt mid (drop used bytes) h new
