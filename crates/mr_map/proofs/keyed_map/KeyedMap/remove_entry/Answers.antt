use Rattle.std.proofs.Common.{sym, ◌∙◌, ap}
use Rattle.std.specs.Prelude.{is_some, option_map}
use Rattle.std.specs.FinMap.{get}
use Rattle.mr_map.proofs.Domains.{out_both, out_of_one}
use Rattle.mr_map.proofs.keyed_map.KeyedMap.remove_entry.Goals as goal

pub invariant_of-self : goal.invariant_of-self
invariant_of-self g c q =
    out_of_one c.self.inside.order c.self.inside.tables c.args.key.now c.self.invariant (sym c.remove_entry.ensures.before ∙ ap (option_map (λ e. e.1)) c.in_err-before.was) q
    ∙ ap (λ m. is_some (get m q)) (sym c.remove_entry.ensures.removed)

pub invariant_of-self-2 : goal.invariant_of-self-2
invariant_of-self-2 g c q =
    ap (λ m. is_some (get m q)) c.remove.ensures.removed
    ∙ out_both c.self.inside.order c.self.inside.tables c.args.key.now c.self.invariant q
    ∙ ap (λ m. is_some (get m q)) (sym c.remove_entry.ensures.removed)
