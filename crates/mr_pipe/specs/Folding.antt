-- What the file of a pipe folds to.
use Rattle.std.specs.Prelude.{◌≡◌, ℕ, List, ◌++◌, Option, Some}
use Rattle.std.specs.FinMap.{empty}
use Rattle.mr_keyspace.specs.Dataset.{Dataset}
use Rattle.mr_data.specs.declared.given.Given.{Given}
use Rattle.mr_groups.specs.Folding.{LeadsByGroups, LeadsByItems, MakesByGroups}
use Rattle.mr_file.specs.LogFile.{IsSynced}
use Rattle.mr_file.specs.declared.sync_mode.SyncMode.TheVariants.{Always}
use Rattle.mr_pipe.specs.Outside.{Outside}
use Rattle.mr_pipe.specs.State.{PipeState}
use Rattle.mr_pipe.specs.Piped.{Session, Broken}
use Rattle.mr_pipe.specs.declared.fault.PipeFault.{PipeFault}

-- The bytes are texts of groups, and notes between them, that lead on from a dataset, and behind them stands a beginning of the texts
-- of groups that lead on.
pub record FoldsTorn (bytes : List ℕ) (old : Dataset) : Type 0 where
  pub front : List ℕ
  pub torn : List ℕ
  pub is : bytes ≡ front ++ torn
  pub mid : Dataset
  pub folds : LeadsByItems front old mid
  pub more : List ℕ
  pub new : Dataset
  pub whole : LeadsByGroups (torn ++ more) mid new

-- where a file's bytes make the dataset that a pipe began with, they make its node's dataset at the end
abbrev pub FilesFold : Type 0
FilesFold = (g : Given) (p : PipeState) (before after : Option (List ℕ)) (x y : Outside) → (s : Session g p before after x y) → (xs : List ℕ) → x.kept.told ≡ Some xs → MakesByGroups xs p.core.held
    → (ys : List ℕ) × ((y.kept.told ≡ Some ys) × MakesByGroups ys s.pipe.core.held)

-- .. and after a fault they are texts of groups of which at most the last step's are torn
abbrev pub FilesFoldTorn : Type 0
FilesFoldTorn = (g : Given) (p : PipeState) (before after : Option (List ℕ)) (x : Outside) (why : PipeFault) (y : Outside) → Broken g p before after x why y → (xs : List ℕ) → x.kept.told ≡ Some xs → MakesByGroups xs p.core.held
    → (ys : List ℕ) × ((y.kept.told ≡ Some ys) × FoldsTorn ys empty)

-- where each append is synced, and all bytes of the file were at the beginning, all are at the end
abbrev pub FilesStaySynced : Type 0
FilesStaySynced = (g : Given) (p : PipeState) (before after : Option (List ℕ)) (x y : Outside) → Session g p before after x y → x.kept.mode ≡ Always → IsSynced x.kept.told x.kept.synced → IsSynced y.kept.told y.kept.synced
