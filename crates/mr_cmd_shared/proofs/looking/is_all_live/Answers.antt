use Rattle.std.proofs.Common.{rules, ◌≡◌, ◌∙◌, ap, to_z, of_z, w64, ℤ, FitsSigned}
use Rattle.std.specs.Prelude.{option_map, slice_get}
use Rattle.std.proofs.lemmas.Int.{to_z-of_z}
use Rattle.mr_map.specs.Bytes.{Bytes}
use Rattle.mr_data.specs.Due.{due}
use Rattle.mr_cmd_shared.proofs.LiveLemmas.{first_due_tells}
use Rattle.mr_cmd_shared.proofs.looking.is_all_live.Goals as goal

pub returns : goal.returns
returns c =
    let fits : FitsSigned w64 c.now.result = search rules in
    let moment : to_z w64 (of_z w64 c.now.result) ≡ c.args.given.now = to_z-of_z w64 c.now.result fits ∙ c.now.ensures.now in
    first_due_tells c.args.given.now c.args.held.now c.due.result c.is_none.result
    (c.due.ensures ∙ ap (λ (now : ℤ). option_map (λ (p : Bytes × ℤ). p.0) (slice_get (due now c.args.held.now) 0)) moment) c.is_none.ensures
