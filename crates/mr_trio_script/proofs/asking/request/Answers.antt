use Rattle.std.proofs.Common.{sym, subst, map, ℕ, List, Global}
use Rattle.std.specs.Cow.{cow_slice_items}
use Rattle.std.specs.declared.borrow.CowSlice.{CowSlice}
use Rattle.mr_trio_script.specs.Asking.{IsPlaced}
use Rattle.mr_trio_script.proofs.asking.request.Goals as goal

pub returns-in_default : goal.returns-in_default
returns-in_default c = λ place placed.
    let P : List (CowSlice ℕ Global) → Type 0 = λ ws. IsPlaced (map cow_slice_items ws) place in
    c.in_default.ensures.none place (subst P (sym c.as_slice.ensures.value) placed)
