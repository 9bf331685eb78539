use Rattle.std.proofs.Common.{◌≡◌, ◌∙◌, ap, map, subst}
use Rattle.std.specs.Prelude.{IfSome}
use Rattle.std.specs.FinMap.{find}
use Rattle.mr_map.specs.Bytes.{bytes_cmp}
use Rattle.mr_zset.specs.Stored.{stored}
use Rattle.mr_zset.proofs.scan.score_of.Goals as goal

pub returns-in-Some : goal.returns-in-Some
returns-in-Some c =
    let same : c.in-Some.short ≡ c.args.member.now = subst (λ o. IfSome o (λ s. s ≡ c.args.member.now)) c.in-Some.is c.of.ensures.same in
    c.first_score.ensures ∙ ap (λ k. find bytes_cmp k (map stored c.args.pairs.now)) same
