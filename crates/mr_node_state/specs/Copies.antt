-- What a replica is sent that has to begin anew.
use Rattle.std.specs.Prelude.{◌≡◌, ◌≤◌, ◌++◌, ℕ, List, All, Some, length}
use Rattle.std.specs.FinMap.{empty}
use Rattle.mr_repl.specs.Backlog.{offset_limit}
use Rattle.mr_peer_lines.specs.Written.{reply_line, length_line}
use Rattle.mr_peer_lines.specs.declared.psync.PsyncReply.TheVariants.{FullResync}
use Rattle.mr_effect.specs.Spelling.{IsShort}
use Rattle.mr_keyspace.specs.Dataset.{Dataset}
use Rattle.mr_data.specs.Meaning.{apply_all}
use Rattle.mr_data.specs.Rebuilding.{rebuilding}
use Rattle.mr_node_spec.specs.Growing.{rebuilt}

-- This is the text of a whole copy: the line that says so, with the id and the offset at which the dataset stands, and what rebuilds the dataset
-- behind its length, which that line can tell.
pub record IsCopy (id : List ℕ) (offset : ℕ) (m : Dataset) (text : List ℕ) : Type 0 where
  pub again : apply_all (rebuilding m) empty ≡ Some m
  pub short : All IsShort (rebuilding m)
  pub counted : length (rebuilt m) ≤ offset_limit
  pub text_is : text ≡ reply_line (FullResync id offset) ++ (length_line (length (rebuilt m)) ++ rebuilt m)
