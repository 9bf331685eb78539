use Rattle.std.proofs.Common.{rules, ◌≡◌, ◌∙◌, ap, pos, to_z, of_z, w64, ℤ, FitsSigned}
use Rattle.std.specs.FinMap.{len}
use Rattle.std.proofs.lemmas.Int.{to_z-of_z}
use Rattle.mr_resp.specs.Replies as reply
use Rattle.mr_resp.specs.ReplyView.{view}
use Rattle.mr_data.specs.Dataset.{seen}
use Rattle.mr_cmd_key.proofs.planning.dbsize.Goals as goal

pub returns : goal.returns
returns c =
    let fits : FitsSigned w64 c.now.result = search rules in
    let moment : to_z w64 (of_z w64 c.now.result) ≡ c.args.given.now = to_z-of_z w64 c.now.result fits ∙ c.now.ensures.now in
    let replied : view c.count.result ≡ reply.int (pos c.live_len.result) = c.count.ensures ∙ search rules in
    replied ∙ ap (λ n. reply.int (pos n)) (c.live_len.ensures.len ∙ ap (λ (t : ℤ). len (seen t c.args.held.now)) moment)
