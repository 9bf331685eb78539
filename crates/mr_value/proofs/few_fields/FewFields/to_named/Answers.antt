use Rattle.std.proofs.Common.{◌≡◌, ◌∙◌, IfOk, ap, subst}
use Rattle.std.specs.FinMap.{empty}
use Rattle.mr_value.specs.Filling.{with_pairs}
use Rattle.mr_value.proofs.SortedPairs.{filled_anew}
use Rattle.mr_value.proofs.few_fields.FewFields.to_named.Goals as goal

pub returns : goal.returns
returns c =
    let same : with_pairs c.iter.result empty ≡ c.args.self.now =
    ap (λ ps. with_pairs ps empty) c.iter.ensures ∙ filled_anew c.self.inside.pairs c.self.invariant ∙ c.self.view_is in
    subst (λ m. IfOk c.named.result (λ named. named ≡ m)) same c.named.ensures
