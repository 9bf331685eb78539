use Rattle.std.proofs.Common.{rules, ◌+◌, ◌-◌, ◌<◌, ◌++◌, ◌∷◌, [], drop, length, take, sym, ap, ap₂, ◌∙◌, arith, length-append, length-take}
use Rattle.std.proofs.lemmas.List.{take-take}
use Rattle.mr_packed.specs.Packing.{spelled_all, start_of, strings_of}
use Rattle.mr_packed.proofs.Packing.{packing, strings_are, count_bound, size_at, ends_within, starts_within, text_at, last_gone, ends_with, start_bound}
use Rattle.mr_packed.proofs.strings.StringsDoubleEndedIterator.next_back.Goals as goal

pub overflow_add-mark : goal.overflow_add-mark
overflow_add-mark c =
    omega (arith, c.mark_of-mark.ensures.some, c.mark_of-mark.ensures.mark.all, count_bound _ (strings_of c.self.inside.left.now) c.self.invariant.packing)

pub read-string-requires-clause-start : goal.read-string-requires-clause-start
read-string-requires-clause-start c =
    let strings = strings_of c.self.inside.left.now in
    let last = c.mark_of-mark.result.0 + (c.mark_of-mark.result.2 - 1) in
    let some : last < length strings = omega (arith, c.mark_of-mark.ensures.some, c.mark_of-mark.ensures.mark.all) in
    starts_within _ strings last _ c.self.invariant.packing c.walk-end.ensures some

pub read-string-requires-clause-end : goal.read-string-requires-clause-end
read-string-requires-clause-end c =
    let strings = strings_of c.self.inside.left.now in
    let last = c.mark_of-mark.result.0 + (c.mark_of-mark.result.2 - 1) in
    let some : last < length strings = omega (arith, c.mark_of-mark.ensures.some, c.mark_of-mark.ensures.mark.all) in
    omega (arith, size_at _ strings last _ c.self.invariant.packing c.walk-end.ensures some, ends_within _ strings last _ c.self.invariant.packing c.walk-end.ensures some)

pub before-rest-requires : goal.before-rest-requires
before-rest-requires c = record {
  within = start_bound _ (strings_of c.self.inside.left.now) (c.mark_of-mark.result.0 + (c.mark_of-mark.result.2 - 1)) _ c.self.invariant.packing c.walk-end.ensures;
}

pub invariant_of-self : goal.invariant_of-self
invariant_of-self c =
    let strings = strings_of c.self.inside.left.now in
    let mark = c.mark_of-mark.result.0 in
    let last = c.mark_of-mark.result.0 + (c.mark_of-mark.result.2 - 1) in
    let bytes_are = c.before-rest.ensures ∙ last_gone _ strings last _ c.self.invariant.packing c.walk-end.ensures in
    let left = strings_are _ (take last strings) bytes_are in
    record {
      packing = packing _ (take last strings) bytes_are;
      marked = λ more. record {
        start_is = c.mark_of-mark.ensures.mark.start_is ∙ ap (λ l. length (spelled_all l)) (sym (take-take mark last strings (omega arith)))
            ∙ ap (λ l. start_of l mark) (sym left);
        all = omega (arith, c.mark_of-mark.ensures.some, c.mark_of-mark.ensures.mark.all, more, length-take last strings, ap length left);
      };
    }

pub returns-clause-steps : goal.returns-clause-steps
returns-clause-steps c =
    let strings = strings_of c.self.inside.left.now in
    let last = c.mark_of-mark.result.0 + (c.mark_of-mark.result.2 - 1) in
    let some : last < length strings = omega (arith, c.mark_of-mark.ensures.some, c.mark_of-mark.ensures.mark.all) in
    let bytes_are = c.before-rest.ensures ∙ last_gone _ strings last _ c.self.invariant.packing c.walk-end.ensures in
    sym c.self.view_is ∙ ends_with strings last some (omega (arith, c.mark_of-mark.ensures.some, c.mark_of-mark.ensures.mark.all)) ∙ ap₂ (λ l x. l ++ x ∷ [])
    (sym (strings_are _ (take last strings) bytes_are))
    (sym (c.read-string.ensures.text ∙ ap (λ n. take n (drop (c.walk-end.result + 1) c.self.inside.left.now)) (size_at _ strings last _ c.self.invariant.packing c.walk-end.ensures some) ∙ text_at _ strings last _ c.self.invariant.packing c.walk-end.ensures some))

pub returns-clause-goes : goal.returns-clause-goes
returns-clause-goes c = let fewer = ap length (returns-clause-steps c) ∙ length-append _ (c.read-string.result.now ∷ []) in search rules
