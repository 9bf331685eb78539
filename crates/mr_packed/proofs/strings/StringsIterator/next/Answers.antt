use Rattle.std.proofs.Common.{rules, ◌∷◌, ◌<◌, [], drop, length, take, refl, sym, ap, ap₂, ◌∙◌, arith, drop-cons}
use Rattle.mr_packed.specs.Packing.{strings_of}
use Rattle.mr_packed.proofs.Packing.{packing, strings_are, size_at, ends_within, text_at, first_gone, not_empty, some_strings}
use Rattle.mr_packed.proofs.strings.StringsIterator.next.Goals as goal

pub after-rest-requires : goal.after-rest-requires
after-rest-requires c =
    let strings = strings_of c.self.inside.left.now in
    let some : 0 < length strings = some_strings _ strings c.self.invariant.packing (not_empty _ (sym c.is_empty.ensures ∙ c.if-is_empty.false)) in
    omega (arith, c.read-string.ensures.len, size_at _ strings 0 0 c.self.invariant.packing refl some, ends_within _ strings 0 0 c.self.invariant.packing refl some)

pub invariant_of-self : goal.invariant_of-self
invariant_of-self c =
    let strings = strings_of c.self.inside.left.now in
    let some : 0 < length strings = some_strings _ strings c.self.invariant.packing (not_empty _ (sym c.is_empty.ensures ∙ c.if-is_empty.false)) in
    record {
      packing = packing _ (drop 1 strings) (c.after-rest.ensures ∙ first_gone _ strings _ c.self.invariant.packing some (c.read-string.ensures.len ∙ size_at _ strings 0 0 c.self.invariant.packing refl some));
      marked = λ more. absurd (omega (arith, more));
    }

pub returns-clause-steps : goal.returns-clause-steps
returns-clause-steps c =
    let strings = strings_of c.self.inside.left.now in
    let some : 0 < length strings = some_strings _ strings c.self.invariant.packing (not_empty _ (sym c.is_empty.ensures ∙ c.if-is_empty.false)) in
    let size = size_at _ strings 0 0 c.self.invariant.packing refl some in
    sym c.self.view_is ∙ drop-cons strings 0 [] some ∙ ap₂ (λ x l. x ∷ l)
    (sym (c.read-string.ensures.text ∙ ap (λ n. take n (drop 1 c.self.inside.left.now)) size ∙ text_at _ strings 0 0 c.self.invariant.packing refl some))
    (sym (strings_are _ (drop 1 strings) (c.after-rest.ensures ∙ first_gone _ strings _ c.self.invariant.packing some (c.read-string.ensures.len ∙ size))))

pub returns-clause-goes : goal.returns-clause-goes
returns-clause-goes c = let fewer = ap length (returns-clause-steps c) in search rules
