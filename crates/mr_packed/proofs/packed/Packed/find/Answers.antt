use Rattle.std.proofs.Common.{◌+◌, drop, length, take, sym, ap, ap₂, ◌∙◌, arith}
use Rattle.mr_packed.specs.Packing.{strings_of}
use Rattle.mr_packed.proofs.Packing.{count_bound, ended, goes_on, size_at, next_start, ends_within, starts_within, text_at, nowhere_more}
use Rattle.mr_packed.proofs.packed.Packed.find.Goals as goal

pub read-here-requires-clause-start : goal.read-here-requires-clause-start
read-here-requires-clause-start c = starts_within _ _ c.loop-at.at c.loop-at.start (c.deref.ensures.value ∙ c.self.invariant) c.loop-at.invariant.start (goes_on _ (strings_of c.self.inside.bytes.items) c.loop-at.at c.loop-at.start c.self.invariant c.loop-at.invariant.start c.loop-at.invariant.within (λ e. c.if-start-len.false (omega (arith, e, c.self.inside.bytes.ok))))

pub read-here-requires-clause-end : goal.read-here-requires-clause-end
read-here-requires-clause-end c = omega (arith, size_at _ _ c.loop-at.at c.loop-at.start (c.deref.ensures.value ∙ c.self.invariant) c.loop-at.invariant.start (goes_on _ (strings_of c.self.inside.bytes.items) c.loop-at.at c.loop-at.start c.self.invariant c.loop-at.invariant.start c.loop-at.invariant.within (λ e. c.if-start-len.false (omega (arith, e, c.self.inside.bytes.ok)))), ends_within _ _ c.loop-at.at c.loop-at.start (c.deref.ensures.value ∙ c.self.invariant) c.loop-at.invariant.start (goes_on _ (strings_of c.self.inside.bytes.items) c.loop-at.at c.loop-at.start c.self.invariant c.loop-at.invariant.start c.loop-at.invariant.within (λ e. c.if-start-len.false (omega (arith, e, c.self.inside.bytes.ok)))))

pub returns-then-is_found-clause-found : goal.returns-then-is_found-clause-found
returns-then-is_found-clause-found c =
    let same = c.is_found.ensures.0 c.if-is_found.true in
    rw (sym c.self.view_is) (record {
      within = goes_on _ (strings_of c.self.inside.bytes.items) c.loop-at.at c.loop-at.start c.self.invariant c.loop-at.invariant.start c.loop-at.invariant.within (λ e. c.if-start-len.false (omega (arith, e, c.self.inside.bytes.ok)));
      step_is = same.0;
      string_is = sym (c.read-here.ensures.text ∙ ap (λ n. take n (drop (c.loop-at.start + 1) c.deref.result.now)) (size_at _ _ c.loop-at.at c.loop-at.start (c.deref.ensures.value ∙ c.self.invariant) c.loop-at.invariant.start (goes_on _ (strings_of c.self.inside.bytes.items) c.loop-at.at c.loop-at.start c.self.invariant c.loop-at.invariant.start c.loop-at.invariant.within (λ e. c.if-start-len.false (omega (arith, e, c.self.inside.bytes.ok))))) ∙ text_at _ _ c.loop-at.at c.loop-at.start (c.deref.ensures.value ∙ c.self.invariant) c.loop-at.invariant.start (goes_on _ (strings_of c.self.inside.bytes.items) c.loop-at.at c.loop-at.start c.self.invariant c.loop-at.invariant.start c.loop-at.invariant.within (λ e. c.if-start-len.false (omega (arith, e, c.self.inside.bytes.ok))))) ∙ same.1;
      first = c.loop-at.invariant.nowhere;
    })

pub overflow_add-start-in-loop-at : goal.overflow_add-start-in-loop-at
overflow_add-start-in-loop-at c =
    omega (arith, c.read-here.ensures.len, size_at _ _ c.loop-at.at c.loop-at.start (c.deref.ensures.value ∙ c.self.invariant) c.loop-at.invariant.start (goes_on _ (strings_of c.self.inside.bytes.items) c.loop-at.at c.loop-at.start c.self.invariant c.loop-at.invariant.start c.loop-at.invariant.within (λ e. c.if-start-len.false (omega (arith, e, c.self.inside.bytes.ok)))), ends_within _ _ c.loop-at.at c.loop-at.start (c.deref.ensures.value ∙ c.self.invariant) c.loop-at.invariant.start (goes_on _ (strings_of c.self.inside.bytes.items) c.loop-at.at c.loop-at.start c.self.invariant c.loop-at.invariant.start c.loop-at.invariant.within (λ e. c.if-start-len.false (omega (arith, e, c.self.inside.bytes.ok)))), ap length c.deref.ensures.value, c.self.inside.bytes.ok, c.self.inside.bytes.small)

pub loop-at-preserved : goal.loop-at-preserved
loop-at-preserved c = let strings = strings_of c.self.inside.bytes.items in record {
  within = let on = goes_on _ strings c.loop-at.at c.loop-at.start c.self.invariant c.loop-at.invariant.start c.loop-at.invariant.within (λ e. c.if-start-len.false (omega (arith, e, c.self.inside.bytes.ok))) in omega (arith, on);
  start = ap₂ (λ m n. m + (n + 1)) c.loop-at.invariant.start (c.read-here.ensures.len ∙ size_at _ _ c.loop-at.at c.loop-at.start (c.deref.ensures.value ∙ c.self.invariant) c.loop-at.invariant.start (goes_on _ (strings_of c.self.inside.bytes.items) c.loop-at.at c.loop-at.start c.self.invariant c.loop-at.invariant.start c.loop-at.invariant.within (λ e. c.if-start-len.false (omega (arith, e, c.self.inside.bytes.ok))))) ∙ sym (next_start strings c.loop-at.at (goes_on _ (strings_of c.self.inside.bytes.items) c.loop-at.at c.loop-at.start c.self.invariant c.loop-at.invariant.start c.loop-at.invariant.within (λ e. c.if-start-len.false (omega (arith, e, c.self.inside.bytes.ok)))));
  nowhere = nowhere_more strings c.args.step c.args.string.now c.loop-at.at c.loop-at.invariant.nowhere (λ p.
      let yes = c.is_found.ensures.1 (p.0, c.read-here.ensures.text ∙ ap (λ n. take n (drop (c.loop-at.start + 1) c.deref.result.now)) (size_at _ _ c.loop-at.at c.loop-at.start (c.deref.ensures.value ∙ c.self.invariant) c.loop-at.invariant.start (goes_on _ (strings_of c.self.inside.bytes.items) c.loop-at.at c.loop-at.start c.self.invariant c.loop-at.invariant.start c.loop-at.invariant.within (λ e. c.if-start-len.false (omega (arith, e, c.self.inside.bytes.ok))))) ∙ text_at _ _ c.loop-at.at c.loop-at.start (c.deref.ensures.value ∙ c.self.invariant) c.loop-at.invariant.start (goes_on _ (strings_of c.self.inside.bytes.items) c.loop-at.at c.loop-at.start c.self.invariant c.loop-at.invariant.start c.loop-at.invariant.within (λ e. c.if-start-len.false (omega (arith, e, c.self.inside.bytes.ok)))) ∙ p.1) in
      cc);
}

pub returns-then-start-len-clause-none : goal.returns-then-start-len-clause-none
returns-then-start-len-clause-none c =
    let all = ended _ (strings_of c.self.inside.bytes.items) c.loop-at.at c.loop-at.start c.self.invariant c.loop-at.invariant.start c.loop-at.invariant.within (omega (arith, c.if-start-len.true, c.self.inside.bytes.ok)) in
    rw (sym c.self.view_is) (λ i within. c.loop-at.invariant.nowhere i (omega (arith, within, all)))

pub returns-clause-none : goal.returns-clause-none
returns-clause-none c =
    rw (sym c.self.view_is) (λ i within. c.loop-at.invariant.nowhere i (omega (arith, within, c.loop-at-test.false, count_bound _ (strings_of c.self.inside.bytes.items) c.self.invariant, c.self.inside.bytes.ok)))
