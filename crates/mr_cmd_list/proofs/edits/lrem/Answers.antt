use Rattle.std.proofs.Common.{rules, w64, ◌≡◌, ◌∙◌, ap}
use Rattle.std.proofs.lemmas.Int.{to_z-of_z}
use Rattle.mr_value.specs.Lists.{removed_count, count_of}
use Rattle.mr_cmd_list.proofs.edits.lrem.Goals as goal
use Rattle.mr_cmd_list.proofs.edits.lrem.Goals.{then-removed-ne0+in_ok-copied+in_ok-copied-2+in_ok-push, else-removed-ne0}

pub returns : goal.returns
returns c =
    let counted : c.removed_count-removed.result ≡ removed_count c.args.count (count_of c.args.item.now c.in-Some.list.now) =
    c.removed_count-removed.ensures.count ∙ ap (λ z. removed_count z (count_of c.as_slice.result.now c.in-Some.list.now)) (to_z-of_z w64 c.args.count c.ranges.count) ∙ ap (λ x. removed_count c.args.count (count_of x c.in-Some.list.now)) c.as_slice.ensures in
    elim c.if-removed-ne0.branch [
      | then-removed-ne0+in_ok-copied+in_ok-copied-2+in_ok-push w ↦ search rules
      | else-removed-ne0 w ↦ search rules
    ]
