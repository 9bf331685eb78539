use Rattle.std.proofs.Common.{◌≡◌, ◌∙◌, sym, ap, Some, option_copied, FitsSigned, w64, rules}
use Rattle.std.proofs.lemmas.Int.{to_z-of_z}
use Rattle.std.specs.Prelude.{◌+ℤ◌}
use Rattle.std.specs.Fmt.{signed_decimal}
use Rattle.mr_resp.specs.Replies as reply
use Rattle.mr_resp.specs.ReplyView.{view}
use Rattle.mr_cmd_hash.specs.Hashes.{number_at}
use Rattle.mr_cmd_hash.proofs.Single.{sum_set}
use Rattle.mr_cmd_hash.proofs.setting.hincrby.Goals as goal

pub returns : goal.returns
returns c =
    let n = c.in-Some.number in
    let sum = c.in-Some-checked_add.sum in
    let number : number_at (option_copied c.get-before.result) ≡ Some n = sym c.number_at.ensures ∙ c.in-Some.is in
    let number_fits : FitsSigned w64 n = search rules in
    let by_fits : FitsSigned w64 c.args.by = c.ranges.by in
    let sum_fits : FitsSigned w64 sum = search rules in
    let added : FitsSigned w64 (n +ℤ c.args.by) × (sum ≡ n +ℤ c.args.by) = simp to_z-of_z at c.in-Some-checked_add.ensures in
    let spelled : c.as_bytes-text.result.now ≡ signed_decimal sum = search (rules, to_z-of_z) in
    let replied : view c.integer.result ≡ reply.int sum = c.integer.ensures ∙ ap reply.int (to_z-of_z w64 sum sum_fits) in
    sum_set _ _ _ n sum _ _ _ (option_copied c.get-before.result) _ _ (search rules) number added.0 added.1 spelled replied (search rules)
