use Rattle.std.proofs.Common.{rules, ◌≡◌, length, sym, ◌∙◌}
use Rattle.std.specs.Prelude.{◌==◌}
use Rattle.std.specs.Cow.{cow_slice_items}
use Rattle.mr_cmd_node.proofs.ToldLemmas.{fewer_than_two}
use Rattle.mr_cmd_node.proofs.told.all_tell.Goals as goal

pub returns : goal.returns
returns c =
    let none : c.is_empty.result ≡ (length c.loop-left.left.now == 0) = search rules in
    none ∙ fewer_than_two cow_slice_items c.loop-left.left.now c.in_default.len_below ∙ sym c.loop-left.invariant
