-- What takes memory to carry.
use Rattle.std.specs.Prelude.{◌≡◌, ◌≢◌, ℕ, List, [], Some}
use Rattle.mr_node_output.specs.Outs.{OutsState}

-- To carry these outs takes memory: bytes go behind a stream, behind the file or in its place, or are sent on the link; or an id was taken, whose history
-- is kept from now on. That ends close, that a node follows another, and that the program is to end takes none.
pub data TakesMemory (o : OutsState) : Type 0 where
  grows : o.grown ≢ [] → TakesMemory o
  files : o.appended ≢ [] → TakesMemory o
  replaces : (bytes : List ℕ) → bytes ≢ [] → o.replaced ≡ Some bytes → TakesMemory o
  says : o.reply ≢ [] → TakesMemory o
  takes_id : (id : List ℕ) → o.used ≡ Some id → TakesMemory o
