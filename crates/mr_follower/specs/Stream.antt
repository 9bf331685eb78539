-- The group at the front of the stream.
use Rattle.std.specs.Prelude.{◌≡◌, ◌≢◌, ℕ, ◌<◌, ◌≤◌, IsTrue, List, ◌++◌, length, take, Option, Some, None, Result, Ok, Err}
use Rattle.std.specs.List.{AllByRecursion}
use Rattle.std.specs.FinMap.{empty}
use Rattle.mr_resp.specs.Command.{IsCommand}
use Rattle.mr_resp.specs.Few.{few}
use Rattle.mr_resp.specs.Usual.{commands}
use Rattle.mr_effect.specs.Names.{names_lists}
use Rattle.mr_effect.specs.declared.effect.Effect.{Effect}
use Rattle.mr_keyspace.specs.Changes.{NeedsNoMemory}
use Rattle.mr_keyspace.specs.Dataset.{Dataset}
use Rattle.mr_keyspace.specs.declared.fault.ApplyFault.{ApplyFault}
use Rattle.mr_keyspace.specs.declared.fault.ApplyFault.TheVariants as undone
use Rattle.mr_data.specs.Meaning.{apply, apply_all}
use Rattle.mr_groups.specs.Steps.{DoesWords, RefusesWords, SpendsWords}
use Rattle.mr_groups.specs.Groups.{IsGoodGroup, group_text}
use Rattle.mr_groups.specs.Parts.{multi_words}
use Rattle.mr_groups.specs.Reading.{IsFirstGroup, IsOpen}
use Rattle.mr_groups.specs.Folding.{IsRefused, IsTorn}
use Rattle.mr_groups.specs.declared.applying.GroupFault.{GroupFault}
use Rattle.mr_groups.specs.declared.applying.GroupFault.TheVariants as group
use Rattle.mr_follower.specs.declared.single.Single.{Single}
use Rattle.mr_follower.specs.declared.single.Single.TheVariants as single
use Rattle.mr_follower.specs.declared.heard.FollowFault.{FollowFault}
use Rattle.mr_follower.specs.declared.heard.FollowFault.TheVariants.{BadLine, Refused, Undecodable, Memory, Spent, Torn}

-- the first bytes are the text of a group, which makes the one dataset of the other
pub record HasFront (u : List ℕ) (room used : ℕ) (m n : Dataset) : Type 0 where
  pub group : List Effect
  pub first : IsFirstGroup u group used
  pub within : used ≤ room
  pub applied : apply_all group m ≡ Some n

-- The first bytes are the text of a group that isn't refused and takes memory: it emptied the dataset.
pub record HasSpent (u : List ℕ) (room : ℕ) (m n : Dataset) : Type 0 where
  pub used : ℕ
  pub group : List Effect
  pub first : IsFirstGroup u group used
  pub within : used ≤ room
  pub begun : IsRefused group m → ⊥
  pub heavy : AllByRecursion NeedsNoMemory group → ⊥
  pub emptied : n ≡ empty

-- The first bytes are the text of a group of which a later effect can't be applied: the dataset is that after those before it.
pub record HasTorn (u : List ℕ) (room : ℕ) (m n : Dataset) : Type 0 where
  pub used : ℕ
  pub group : List Effect
  pub first : IsFirstGroup u group used
  pub within : used ≤ room
  pub torn : IsTorn group m n

-- a command text of at most so many bytes begins these
pub record HasCommand (u : List ℕ) (room : ℕ) : Type 0 where
  pub words : List (List ℕ)
  pub front : List ℕ
  pub behind : List ℕ
  pub is : u ≡ front ++ behind
  pub within : length front ≤ room
  pub command : IsCommand commands front words

-- an effect with these words can be applied
abbrev pub CanWords : List (List ℕ) → Dataset → Type 0
CanWords ws m = (n : Dataset) × DoesWords ws m n

-- Why memory may be lacking for words: an effect with them can be applied; or whether one can isn't known yet, for they are more than
-- a few, or name an effect that holds lists, or begin a frame, and all of these take memory to be read.
pub data MayLackFor (ws : List (List ℕ)) (m : Dataset) : Type 0 where
  can : CanWords ws m → MayLackFor ws m
  many : few < length ws → MayLackFor ws m
  lists : IsTrue (names_lists ws) → MayLackFor ws m
  framed : ws ≡ multi_words → MayLackFor ws m

-- memory may be lacking for the command text of at most so many bytes that begins these
pub record LacksAt (u : List ℕ) (room : ℕ) (m : Dataset) : Type 0 where
  pub at : HasCommand u room
  pub cause : MayLackFor at.words m

-- a frame's first text, of at most so many bytes, begins these
pub record HasFrame (u : List ℕ) (room : ℕ) : Type 0 where
  pub at : HasCommand u room
  pub begins : at.words ≡ multi_words

-- Such a text that begins no frame is no beginning of a group's text: more is wanted there within a frame alone.
abbrev pub MoreIsWantedInFrames : Type 0
MoreIsWantedInFrames = (u : List ℕ) (room : ℕ) (found : HasCommand u room) → found.words ≢ multi_words → IsOpen u → ⊥

-- no text of a group that can be applied here, of at most so many bytes, begins these, however they go on
abbrev pub IsStuckWithin : ℕ → Dataset → List ℕ → Type 0
IsStuckWithin room m u = (g : List Effect) (n : Dataset) (more behind : List ℕ) → IsGoodGroup g → apply_all g m ≡ Some n → length (group_text g) ≤ room → u ++ more ≡ group_text g ++ behind → ⊥

-- .. and they aren't the beginning of a group's text, unless they are more than so many already. Where a group of at most so many bytes
-- stands there whole, its first effect can't be applied.
pub record IsRefusedFront (room : ℕ) (m : Dataset) (u : List ℕ) : Type 0 where
  pub some : 0 < length u
  pub past : IsOpen u → room < length u
  pub stuck : IsStuckWithin room m u
  pub first : (g : List Effect) (behind : List ℕ) → IsGoodGroup g → length (group_text g) ≤ room → u ≡ group_text g ++ behind → IsRefused g m

-- nothing has changed
abbrev pub IsSame : Dataset → Dataset → List ℕ → List ℕ → Type 0
IsSame m n before after = (n ≡ m) × (after ≡ before)

-- the effect with these words, whose text this is, is applied, or there is none that can be
abbrev pub AppliesText : List ℕ → List (List ℕ) → Dataset → Result (Option ℕ) FollowFault → Dataset → List ℕ → List ℕ → Type 0
AppliesText front ws m (Ok None) n before after = ⊥
AppliesText front ws m (Ok (Some used)) n before after = (used ≡ length front) × (DoesWords ws m n × (after ≡ before ++ front))
AppliesText front ws m (Err BadLine) n before after = ⊥
AppliesText front ws m (Err Refused) n before after = ⊥
AppliesText front ws m (Err Undecodable) n before after = RefusesWords ws m × IsSame m n before after
AppliesText front ws m (Err Memory) n before after = MayLackFor ws m × IsSame m n before after
AppliesText front ws m (Err Spent) n before after = SpendsWords ws m n × (after ≡ before)
AppliesText front ws m (Err Torn) n before after = ⊥

-- why an effect wasn't applied, as a follower tells it
abbrev pub told_of : ApplyFault → FollowFault
told_of undone.Refused = Undecodable
told_of undone.Memory = Spent

-- what is told where memory is lacking before an effect that makes this of the dataset: that, or that it can't be applied
abbrev pub lack_of : Option Dataset → FollowFault
lack_of None = Undecodable
lack_of (Some n) = Memory

-- this effect, whose text this is, is applied, or can't be; where memory is lacking before, it could be
abbrev pub AppliesEffect : List ℕ → Effect → Dataset → Result (Option ℕ) FollowFault → Dataset → List ℕ → List ℕ → Type 0
AppliesEffect front e m (Ok None) n before after = ⊥
AppliesEffect front e m (Ok (Some used)) n before after = (used ≡ length front) × ((apply e m ≡ Some n) × (after ≡ before ++ front))
AppliesEffect front e m (Err BadLine) n before after = ⊥
AppliesEffect front e m (Err Refused) n before after = ⊥
AppliesEffect front e m (Err Undecodable) n before after = (apply e m ≡ None) × IsSame m n before after
AppliesEffect front e m (Err Memory) n before after = (apply e m ≢ None) × IsSame m n before after
AppliesEffect front e m (Err Spent) n before after = (((apply e m ≢ None) × (NeedsNoMemory e → ⊥)) × (n ≡ empty)) × (after ≡ before)
AppliesEffect front e m (Err Torn) n before after = ⊥

-- .. unless the words begin a frame
abbrev pub AppliesWords : List ℕ → List (List ℕ) → Dataset → Single → Dataset → List ℕ → List ℕ → Type 0
AppliesWords front ws m (single.Told result) n before after = (ws ≢ multi_words) × AppliesText front ws m result n before after
AppliesWords front ws m single.Open n before after = ⊥
AppliesWords front ws m single.Framed n before after = (ws ≡ multi_words) × IsSame m n before after

-- why a group wasn't applied, as a follower tells it
abbrev pub told_as : GroupFault → FollowFault
told_as group.Refused = Undecodable
told_as group.Memory = Spent
told_as group.Torn = Torn

-- a group whose text isn't whole is waited for among the first so many bytes, and no further
abbrev pub WaitsWithin : List ℕ → ℕ → Result (Option ℕ) FollowFault → Type 0
WaitsWithin u room (Ok None) = length u ≤ room
WaitsWithin u room (Ok (Some used)) = ⊥
WaitsWithin u room (Err BadLine) = ⊥
WaitsWithin u room (Err Refused) = ⊥
WaitsWithin u room (Err Undecodable) = room < length u
WaitsWithin u room (Err Memory) = ⊥
WaitsWithin u room (Err Spent) = ⊥
WaitsWithin u room (Err Torn) = ⊥

-- the group of these effects, whose text this is, is applied, or can't be
abbrev pub AppliesEffects : List ℕ → List Effect → Dataset → Result (Option ℕ) FollowFault → Dataset → List ℕ → List ℕ → Type 0
AppliesEffects front es m (Ok None) n before after = ⊥
AppliesEffects front es m (Ok (Some used)) n before after = (used ≡ length front) × ((apply_all es m ≡ Some n) × (after ≡ before ++ front))
AppliesEffects front es m (Err BadLine) n before after = ⊥
AppliesEffects front es m (Err Refused) n before after = ⊥
AppliesEffects front es m (Err Undecodable) n before after = IsRefused es m × IsSame m n before after
AppliesEffects front es m (Err Memory) n before after = (IsRefused es m → ⊥) × IsSame m n before after
AppliesEffects front es m (Err Spent) n before after = ((IsRefused es m → ⊥) × ((AllByRecursion NeedsNoMemory es → ⊥) × (n ≡ empty))) × (after ≡ before)
AppliesEffects front es m (Err Torn) n before after = IsTorn es m n × (after ≡ before)

-- The group at the front is applied; none is whole; or what stands there is none of at most so many bytes that can be.
abbrev pub AppliesFront : List ℕ → ℕ → Dataset → Result (Option ℕ) FollowFault → Dataset → List ℕ → List ℕ → Type 0
AppliesFront u room m (Ok None) n before after = IsOpen u × IsSame m n before after
AppliesFront u room m (Ok (Some used)) n before after = HasFront u room used m n × (after ≡ before ++ take used u)
AppliesFront u room m (Err BadLine) n before after = ⊥
AppliesFront u room m (Err Refused) n before after = ⊥
AppliesFront u room m (Err Undecodable) n before after = IsRefusedFront room m u × IsSame m n before after
AppliesFront u room m (Err Memory) n before after = LacksAt u room m × IsSame m n before after
AppliesFront u room m (Err Spent) n before after = HasSpent u room m n × (after ≡ before)
AppliesFront u room m (Err Torn) n before after = HasTorn u room m n × (after ≡ before)

-- An effect that is a group of its own is; or its text isn't whole; or a frame begins there: then nothing has changed.
abbrev pub AppliesSingle : List ℕ → ℕ → Dataset → Single → Dataset → List ℕ → List ℕ → Type 0
AppliesSingle u room m (single.Told result) n before after = AppliesFront u room m result n before after
AppliesSingle u room m single.Open n before after = IsOpen (take room u) × IsSame m n before after
AppliesSingle u room m single.Framed n before after = HasFrame u room × IsSame m n before after
