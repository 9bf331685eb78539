-- How a replica acknowledges.
use Rattle.std.specs.Prelude.{ℕ, List, [], ◌∷◌, codes}
use Rattle.std.specs.Fmt.{decimal}
use Rattle.mr_resp.specs.Spelling.{array}

-- REPLCONF ACK and the offset
abbrev pub acknowledgement : ℕ → List ℕ
acknowledgement offset = array (codes "REPLCONF" ∷ codes "ACK" ∷ decimal offset ∷ [])
