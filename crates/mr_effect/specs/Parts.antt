-- What the parts of the writer leave.
use Rattle.std.specs.Prelude.{ℕ, ◌+◌, List, ◌∷◌, ◌++◌}
use Rattle.mr_map.specs.Bytes.{Bytes}
use Rattle.mr_resp.specs.Spelling.{number_line, bulk}

-- a name and a key, to which n words more are to come
unfoldable pub head : Bytes → Bytes → ℕ → List ℕ
head name key n = 42 ∷ number_line (n + 2) ++ (bulk name ++ bulk key)
