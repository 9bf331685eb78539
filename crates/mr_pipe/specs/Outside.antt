-- What a pipe writes to, its output and its file, and what was written there.
use Rattle.std.specs.Prelude.{◌≡◌, ◌⊎◌, ℕ, ◌≤◌, List, [], ◌∷◌, ◌++◌, Bool, true, false, Option, None, Some, IfSome}
use Rattle.std.specs.Io.KnownBytes as known
use Rattle.mr_file.specs.LogFile.{Rose, AppendsSome, IsOldOrNew, IsSynced}
use Rattle.mr_aof.specs.declared.log.Log.{Log}
use Rattle.mr_file.specs.declared.sync_mode.SyncMode.{SyncMode}
use Rattle.mr_file.specs.declared.sync_mode.SyncMode.TheVariants as mode

-- a log and its file, as far as the file tells
pub record Kept : Type 0 where
  pub told : Option (List ℕ)  -- the bytes of the file
  pub synced : Option ℕ  -- how many of them the last sync covered
  pub failures : ℕ  -- how often the file failed
  pub mode : SyncMode
  pub broken : Bool  -- the file failed in an earlier call

pub record Outside : Type 0 where
  pub output : Option (List ℕ)  -- the bytes that the output holds
  pub kept : Kept

abbrev pub kept_of : {F : Type 0} → (F → Option (List ℕ)) → (F → Option ℕ) → (F → ℕ) → Log F → Kept
kept_of told synced failures log = record { told = told log.file; synced = synced log.file; failures = failures log.file; mode = log.mode; broken = log.broken }

abbrev pub outside : {W F : Type 0} → (W → Option (List ℕ)) → (F → Option (List ℕ)) → (F → Option ℕ) → (F → ℕ) → W → Log F → Outside
outside contents told synced failures output log = record { output = contents output; kept = kept_of told synced failures log }

-- What is done to a file at once.
pub data Change : Type 0 where
  append : List ℕ → Change  -- bytes are put behind it
  replace : List ℕ → Change  -- bytes are put in the place of all

-- the bytes of a file behind a change
abbrev pub changed : Change → List ℕ → List ℕ
changed (Change.append bytes) old = old ++ bytes
changed (Change.replace bytes) old = bytes

-- .. behind several, one after another
abbrev pub followed : List Change → List ℕ → List ℕ
followed [] old = old
followed (c ∷ cs) old = followed cs (changed c old)

-- no bytes are no change
abbrev pub appends : List ℕ → List Change
appends [] = []
appends (b ∷ bytes) = Change.append (b ∷ bytes) ∷ []

-- a file may be replaced by an empty one
abbrev pub replaces : Option (List ℕ) → List Change
replaces None = []
replaces (Some bytes) = Change.replace bytes ∷ []

-- How far the last sync goes: over all bytes behind a replacement, and in the mode Always behind an append.
abbrev pub IsCovered : SyncMode → Change → Kept → Kept → Type 0
IsCovered m (Change.replace bytes) a b = IsSynced b.told b.synced
IsCovered mode.Always (Change.append bytes) a b = IsSynced b.told b.synced
IsCovered mode.No (Change.append bytes) a b = b.synced ≡ a.synced

-- A change was made to the file.
pub record Made (a b : Kept) (change : Change) : Type 0 where
  pub told : IfSome a.told (λ xs. b.told ≡ Some (changed change xs))
  pub covered : IsCovered a.mode change a b
  pub later : a.failures ≤ b.failures
  pub mode : b.mode ≡ a.mode
  pub sound : b.broken ≡ false

-- Changes were made to the file, one after another. Where there are none, the file is left alone.
abbrev pub Filed : Kept → Kept → List Change → Type 0
Filed a b [] = b ≡ a
Filed a b (c ∷ cs) = (m : Kept) × (Made a m c × Filed m b cs)

-- what a change that failed leaves: a beginning of the bytes behind the old ones; or the old bytes, or the new ones, all of them
abbrev pub HasHalf : Change → Option (List ℕ) → Option (List ℕ) → Type 0
HasHalf (Change.append bytes) old new = AppendsSome old new bytes
HasHalf (Change.replace bytes) old new = IsOldOrNew old new bytes

-- The file failed at a change, or had failed before.
pub record Fails (a b : Kept) (change : Change) : Type 0 where
  pub told : HasHalf change a.told b.told
  pub cause : (a.broken ≡ true) ⊎ Rose a.failures b.failures
  pub broken : b.broken ≡ true

-- Of these changes the file failed at one, behind those that were made.
pub record IsTorn (a b : Kept) (changes : List Change) : Type 0 where
  pub made : List Change
  pub change : Change
  pub others : List Change
  pub are : changes ≡ made ++ change ∷ others
  pub between : Kept
  pub filed : Filed a between made
  pub fails : Fails between b change

-- The changes were made to the file, and what is said stands in the output.
pub record IsSettled (x y : Outside) (changes : List Change) (said : List ℕ) : Type 0 where
  pub filed : Filed x.kept y.kept changes
  pub told : known.Appends x.output y.output said
