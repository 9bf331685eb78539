use Rattle.std.proofs.Common.{◌++◌, ap₂, ◌∙◌}
use Rattle.mr_packed.specs.Packing.{strings_of}
use Rattle.mr_packed.proofs.Packing.{packing, strings_are, joined}
use Rattle.mr_packed.proofs.packed.Packed.append.Goals as goal

pub invariant_of-self-2 : goal.invariant_of-self-2
invariant_of-self-2 c =
    let old = strings_of c.self.inside.bytes.items in
    let more = strings_of c.other.inside.bytes.items in
    packing _ (old ++ more) (c.in_ok-extend.ensures.ok ∙ joined _ _ old more c.self.invariant (c.deref.ensures.value ∙ c.other.invariant))

pub returns-clause-ok : goal.returns-clause-ok
returns-clause-ok c =
    let old = strings_of c.self.inside.bytes.items in
    let more = strings_of c.other.inside.bytes.items in
    strings_are _ (old ++ more) (c.in_ok-extend.ensures.ok ∙ joined _ _ old more c.self.invariant (c.deref.ensures.value ∙ c.other.invariant)) ∙ ap₂ (λ x y. x ++ y) c.self.view_is c.other.view_is
