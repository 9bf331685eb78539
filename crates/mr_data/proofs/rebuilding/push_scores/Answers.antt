use Rattle.std.proofs.Common.{ℕ, List, sym, ◌∙◌, ap}
use Rattle.mr_effect.specs.declared.effect.Effect.TheVariants as made
use Rattle.mr_data.proofs.Grouping.{last_put}
use Rattle.mr_data.proofs.rebuilding.push_scores.Goals as goal

pub returns : goal.returns
returns c = last_put (made.SetScores c.args.key.now) c.push_effect.result c.args.scores (made.SetScores c.borrowed-key.result c.args.scores) c.args.out.now.items c.push_effect.new.out.items (ap (λ (k : List ℕ). made.SetScores k c.args.scores) c.borrowed-key.ensures) (sym c.is_empty.ensures ∙ c.if-is_empty.false) c.requires c.push_effect.ensures
