use Rattle.std.proofs.Common.{sym, ◌∙◌}
use Rattle.std.proofs.lemmas.Map.Lookups.{exact_bytes}
use Rattle.mr_packed.proofs.packed.even_cmp.Goals as goal

pub returns-then-at-eq0-clause-equal : goal.returns-then-at-eq0-clause-equal
returns-then-at-eq0-clause-equal c = λ e. (c.if-at-eq0.true, exact_bytes c.args.here.now c.args.string.now (sym c.cmp.ensures ∙ e))
