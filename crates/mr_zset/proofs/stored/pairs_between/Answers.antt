use Rattle.std.proofs.Common.{◌∙◌, ◌++◌, sym, ap, map, append-nil}
use Rattle.mr_zset.specs.Pairs.{lent_pair}
use Rattle.mr_zset.specs.Stored.{stored}
use Rattle.mr_zset.proofs.StoredLemmas.{slice_range-stored}
use Rattle.mr_zset.proofs.stored.pairs_between.Goals as goal

pub returns : goal.returns
returns c =
    sym (append-nil (map lent_pair c.loop-entry.part.items)) ∙ ap (λ zs. map lent_pair c.loop-entry.part.items ++ map stored zs) (sym c.in-None.ensures.steps.0)
    ∙ c.loop-entry.invariant ∙ slice_range-stored c.args.pairs.now c.args.from c.args.to
