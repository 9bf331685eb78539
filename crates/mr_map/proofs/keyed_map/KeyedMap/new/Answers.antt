use Rattle.std.proofs.Common.{◌∙◌, ap, sym}
use Rattle.std.specs.Prelude.{is_some}
use Rattle.std.specs.FinMap.{get, get-empty}
use Rattle.mr_map.specs.Bytes.{bytes_cmp}
use Rattle.mr_map.proofs.keyed_map.KeyedMap.new.Goals as goal

pub invariant_of-result : goal.invariant_of-result
invariant_of-result g c q =
    ap (λ m. is_some (get m q)) c.new-2.ensures ∙ ap is_some (get-empty {X = Unit {0}} bytes_cmp q)
    ∙ sym (ap (λ m. is_some (get m q)) c.«new».ensures ∙ ap is_some (get-empty {X = g.row.V.Denot} bytes_cmp q))
