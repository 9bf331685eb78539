use Rattle.std.proofs.Common.{◌∙◌, ◌++◌, ◌-◌, ap, sym, arith, take}
use Rattle.std.specs.FinMap.{keys}
use Rattle.std.proofs.lemmas.List.{nil_from_length}
use Rattle.mr_cmd_set.specs.Members.{drawn}
use Rattle.mr_cmd_set.specs.Grouping.{lent}
use Rattle.mr_cmd_set.proofs.Sets.{len_keys}
use Rattle.mr_cmd_set.proofs.Draws.{drawn_both, drawn_nothing}
use Rattle.mr_cmd_set.proofs.drawing.draw.Goals as goal
use Rattle.mr_cmd_set.proofs.drawing.draw.Goals.{then-len-gt0+in_ok-extend+in_ok-extend-2, else-len-gt0}

pub returns : goal.returns
returns c =
    let ks = keys c.args.set.now in
    let start = ap lent c.in_ok-with_capacity.ensures.items in
    let none = lent c.in_ok-with_capacity.field-0.items in
    elim c.if-len-gt0.branch [
      | then-len-gt0+in_ok-extend+in_ok-extend-2 w ↦
          let one = lent w.extend.new.self.items.items in
          rw w.drawn-is (drawn_both c.args.word ks c.args.count _ _ _ _ _ none one (lent w.extend-then-len-gt0.new.self.items.items) (c.len-len.ensures.len ∙ len_keys _) w.if-len-gt0.true w.place-place.ensures c.min-count.ensures w.min.ensures w.min-then-len-gt0.ensures start
          (w.in_ok-extend.ensures ∙ ap (λ ms. none ++ take w.min.result ms) w.members_from.ensures)
          (w.in_ok-extend-2.ensures ∙ ap (λ ms. one ++ take (c.min-count.result - w.min-then-len-gt0.result) ms) w.members.ensures))
      | else-len-gt0 w ↦ rw w.drawn-is (start ∙ sym (ap (drawn c.args.word c.args.count) (nil_from_length ks (omega (arith, c.len-len.ensures.len, len_keys c.args.set.now, w.if-len-gt0.false))) ∙ drawn_nothing c.args.word c.args.count))
    ]
