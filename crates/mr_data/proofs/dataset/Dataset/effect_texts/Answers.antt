use Rattle.std.proofs.Common.{sym, ◌∙◌, inl, inr}
use Rattle.mr_data.proofs.RebuildingLaws.{kept_by_none}
use Rattle.mr_data.proofs.dataset.Dataset.effect_texts.Goals as goal

pub returns-clause-kept : goal.returns-clause-kept
returns-clause-kept c = elim c.loop-key.invariant.1 [
  | inl all ↦ kept_by_none c.args.self.now (sym all ∙ c.in-None.ensures.steps.0)
  | inr kept ↦ kept
]
