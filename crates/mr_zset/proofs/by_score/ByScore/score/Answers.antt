use Rattle.std.proofs.Common.{◌∙◌, sym, ap, subst}
use Rattle.std.specs.Prelude.{IfSome, IsTrue}
use Rattle.std.specs.FinMap.{get}
use Rattle.mr_score.specs.Score.{is_score}
use Rattle.mr_zset.proofs.ScanLemmas.{scanned}
use Rattle.mr_zset.proofs.by_score.ByScore.score.Goals as goal

pub returns-clause-value : goal.returns-clause-value
returns-clause-value c = c.score_of.ensures ∙ scanned c.self.inside.pairs c.args.member.now ∙ ap (λ m. get m c.args.member.now) c.self.view_is

pub returns-clause-within : goal.returns-clause-within
returns-clause-within c = subst (λ o. IfSome o (λ z. IsTrue (is_score z))) (sym (c.score_of.ensures ∙ scanned c.self.inside.pairs c.args.member.now)) (c.self.invariant.within c.args.member.now)
