use Rattle.std.proofs.Common.{ℕ, List, sym, ◌∙◌, ap}
use Rattle.mr_effect.specs.declared.effect.Effect.TheVariants as made
use Rattle.mr_data.proofs.Grouping.{last_put}
use Rattle.mr_data.proofs.rebuilding.push_fields.Goals as goal

pub returns : goal.returns
returns c = last_put (made.SetFields c.args.key.now) c.push_effect.result c.args.pairs (made.SetFields c.borrowed-key.result c.args.pairs) c.args.out.now.items c.push_effect.new.out.items (ap (λ (k : List ℕ). made.SetFields k c.args.pairs) c.borrowed-key.ensures) (sym c.is_empty.ensures ∙ c.if-is_empty.false) c.requires c.push_effect.ensures
