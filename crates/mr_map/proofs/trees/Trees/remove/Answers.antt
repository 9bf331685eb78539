use Rattle.std.proofs.Common.{sym, ◌∙◌, ap}
use Rattle.std.specs.FinMap.{get, remove}
use Rattle.mr_map.proofs.Padded.{is_long, is_short}
use Rattle.mr_map.proofs.Halves.{long_found, long_out, parted_long_out, parted_short_out, short_found, short_out}
use Rattle.mr_map.proofs.trees.Trees.remove.Goals as goal

pub invariant_of-self : goal.invariant_of-self
invariant_of-self g c =
    let found = is_short c.args.key.now c.in-Some.short (sym c.of.ensures.few ∙ c.in-Some.is) in
    parted_short_out c.self.inside.short c.self.inside.long c.self.invariant c.in-Some.short found.1 c.remove.new.self c.remove.ensures.updates

pub returns-in-Some-clause-before : goal.returns-in-Some-clause-before
returns-in-Some-clause-before g c =
    let found = is_short c.args.key.now c.in-Some.short (sym c.of.ensures.few ∙ c.in-Some.is) in
    c.remove.ensures.value ∙ short_found c.self.inside.short c.self.inside.long c.self.invariant c.in-Some.short found.1 ∙ (λ i. get (c.self.view_is i) (found.0 i))

pub returns-in-Some-clause-removed : goal.returns-in-Some-clause-removed
returns-in-Some-clause-removed g c =
    let found = is_short c.args.key.now c.in-Some.short (sym c.of.ensures.few ∙ c.in-Some.is) in
    short_out c.self.inside.short c.self.inside.long c.self.invariant c.in-Some.short found.1 c.remove.new.self c.remove.ensures.updates ∙ (λ i. remove (c.self.view_is i) (found.0 i))

pub invariant_of-self-in-None : goal.invariant_of-self-in-None
invariant_of-self-in-None g c =
    let k = c.args.key.now in
    parted_long_out c.self.inside.short c.self.inside.long c.self.invariant k (is_long k (sym c.of.ensures.few ∙ c.in-None.is)) c.remove-in-None.new.self c.remove-in-None.ensures.updates

pub returns-in-None-clause-before : goal.returns-in-None-clause-before
returns-in-None-clause-before g c =
    let k = c.args.key.now in
    c.remove-in-None.ensures.value ∙ long_found c.self.inside.short c.self.inside.long c.self.invariant k (is_long k (sym c.of.ensures.few ∙ c.in-None.is)) ∙ ap (λ m. get m k) c.self.view_is

pub returns-in-None-clause-removed : goal.returns-in-None-clause-removed
returns-in-None-clause-removed g c =
    let k = c.args.key.now in
    long_out c.self.inside.short c.self.inside.long c.self.invariant k (is_long k (sym c.of.ensures.few ∙ c.in-None.is)) c.remove-in-None.new.self c.remove-in-None.ensures.updates ∙ ap (λ m. remove m k) c.self.view_is
