use Rattle.std.proofs.Common.{◌∙◌, ◌-◌, map, sym, ap, arith}
use Rattle.std.specs.FinMap.{entries}
use Rattle.std.proofs.lemmas.List.{take_all}
use Rattle.mr_value.specs.Named.{entry}
use Rattle.mr_value.proofs.NamedLemmas.{entries_listed}
use Rattle.mr_value.proofs.by_name.ByName.iter.Goals as goal

pub returns : goal.returns
returns g c =
    let named = c.self.inside.named in
    c.«new».ensures ∙ ap (map entry) (c.range.ensures ∙ take_all (c.len.result - 0) named (omega (arith, c.len.ensures.len)))
    ∙ sym (entries_listed named c.len.ensures.ordered) ∙ ap entries c.self.view_is
