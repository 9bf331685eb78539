use Rattle.std.proofs.Common.{◌+◌, drop, take, ap, ◌∙◌, arith}
use Rattle.mr_packed.specs.Packing.{spelled_all}
use Rattle.mr_packed.proofs.Packing.{size_at, ends_within, starts_within, text_at}
use Rattle.mr_packed.proofs.packed.Packed.at.Goals as goal

pub read-requires-clause-start : goal.read-requires-clause-start
read-requires-clause-start c = starts_within _ c.args.self.now c.args.at c.start-start.result (c.deref.ensures.value ∙ c.self.invariant ∙ ap spelled_all c.self.view_is) c.start-start.ensures c.requires.within

pub read-requires-clause-end : goal.read-requires-clause-end
read-requires-clause-end c = omega (arith, size_at _ c.args.self.now c.args.at c.start-start.result (c.deref.ensures.value ∙ c.self.invariant ∙ ap spelled_all c.self.view_is) c.start-start.ensures c.requires.within, ends_within _ c.args.self.now c.args.at c.start-start.result (c.deref.ensures.value ∙ c.self.invariant ∙ ap spelled_all c.self.view_is) c.start-start.ensures c.requires.within)

pub returns-clause-string : goal.returns-clause-string
returns-clause-string c = c.read.ensures.text ∙ ap (λ n. take n (drop (c.start-start.result + 1) c.deref.result.now)) (size_at _ c.args.self.now c.args.at c.start-start.result (c.deref.ensures.value ∙ c.self.invariant ∙ ap spelled_all c.self.view_is) c.start-start.ensures c.requires.within) ∙ text_at _ c.args.self.now c.args.at c.start-start.result (c.deref.ensures.value ∙ c.self.invariant ∙ ap spelled_all c.self.view_is) c.start-start.ensures c.requires.within
