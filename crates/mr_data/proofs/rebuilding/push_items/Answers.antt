use Rattle.std.proofs.Common.{ℕ, List, sym, ◌∙◌, ap}
use Rattle.mr_bytes.specs.declared.ends.End.TheVariants.{Right}
use Rattle.mr_effect.specs.declared.effect.Effect.TheVariants as made
use Rattle.mr_data.proofs.Grouping.{last_put}
use Rattle.mr_data.proofs.rebuilding.push_items.Goals as goal

pub returns : goal.returns
returns c = last_put (made.Push c.args.key.now Right) c.push_effect.result c.args.items (made.Push c.borrowed-key.result Right c.args.items) c.args.out.now.items c.push_effect.new.out.items (ap (λ (k : List ℕ). made.Push k Right c.args.items) c.borrowed-key.ensures) (sym c.is_empty.ensures ∙ c.if-is_empty.false) c.requires c.push_effect.ensures
