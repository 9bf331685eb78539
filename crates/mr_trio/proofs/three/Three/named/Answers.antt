use Rattle.std.proofs.Common.{◌∙◌, ℕ, List, [], ◌∷◌, ◌++◌, Global, ap, map, refl, subst, sym, take, decimal}
use Rattle.std.specs.Cow.{cow_slice_items}
use Rattle.std.specs.declared.borrow.CowSlice.{CowSlice}
use Rattle.mr_trio_script.specs.Naming.{NamesNode, host}
use Rattle.mr_trio.specs.Asking.{plain, named}
use Rattle.mr_trio.proofs.three.Three.named.Goals as goal

pub returns-in_default-clause-named : goal.returns-in_default-clause-named
returns-in_default-clause-named c = plain (λ place names.
    let P : List (CowSlice ℕ Global) → Type 0 = λ ws. NamesNode (map cow_slice_items ws) place in
    c.in_default.ensures.none place (subst P (sym c.as_slice.ensures.value) names)) refl

pub returns-in-Ok-clause-named : goal.returns-in-Ok-clause-named
returns-in-Ok-clause-named c =
    let P : List (CowSlice ℕ Global) → Type 0 = λ ws. NamesNode (map cow_slice_items ws) c.in-Some.place in
    named c.in-Some.place (subst P c.as_slice.ensures.value c.in-Some.ensures.some)
    (c.in-Ok.ensures ∙ ap (λ port. take 1 (map cow_slice_items c.args.words.items) ++ host ∷ decimal port ∷ []) (c.port-port.ensures ∙ c.member.ensures.port))
