use Rattle.std.proofs.Common.{◌≡◌, ◌∙◌, ◌++◌, ◌∷◌, [], ◌&&◌, pos, false, Some, option_copied, FitsSigned, w64, rules, ap}
use Rattle.std.specs.Prelude.{◌+ℤ◌, codes, is_some}
use Rattle.std.specs.Ordering.{int_eq}
use Rattle.std.proofs.lemmas.Int.{to_z-of_z}
use Rattle.mr_bytes.specs.Number.{number_of}
use Rattle.mr_bytes.proofs.Numbers.{is_i64-fits}
use Rattle.mr_resp.specs.Replies as reply
use Rattle.mr_resp.specs.ReplyView.{view}
use Rattle.mr_effect.specs.declared.effect.Effect.TheVariants as effect
use Rattle.mr_keyspace.specs.Steps.{strings, held}
use Rattle.mr_cmd_string.proofs.WritingOver.{increased}
use Rattle.mr_cmd_string.proofs.changing.increase.Goals as goal

pub returns : goal.returns
returns c =
    let n = c.in-Some-read_i64.number in
    let sum = c.in-Some-checked_add.sum in
    let is : held (strings (codes "0")) (option_copied c.args.live_entry) ≡ Some c.in-Some.text.now = search rules in
    let spelled : number_of c.in-Some.text.now ≡ Some n = search rules in
    let number_fits : FitsSigned w64 n = search rules in
    let by_fits : FitsSigned w64 c.args.by = c.ranges.by in
    let sum_fits : FitsSigned w64 sum = search rules in
    let added : FitsSigned w64 (n +ℤ c.args.by) × (sum ≡ n +ℤ c.args.by) = simp to_z-of_z at c.in-Some-checked_add.ensures in
    let replied : view c.integer-2.result ≡ reply.int sum = c.integer-2.ensures ∙ ap reply.int (to_z-of_z w64 sum sum_fits) in
    let differs : (is_some (option_copied c.args.live_entry) && int_eq c.args.by (pos 0)) ≡ false = search (rules, to_z-of_z) in
    let put : c.push.new.self ≡ c.args.effects.now ++ effect.Increase c.args.key.now c.args.by ∷ [] = search (rules, to_z-of_z) in
    increased c.args.key.now c.in-Some.text.now c.args.by n _ is spelled (is_i64-fits _ added.0) sum _ _ _ differs added.1 replied put
