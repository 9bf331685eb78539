use Rattle.std.proofs.Common.{◌∙◌, ap, arith}
use Rattle.std.specs.Str.{bytes_eq}
use Rattle.mr_value.proofs.Backwards.{item_behind}
use Rattle.mr_value.proofs.matching.matches_behind.Goals as goal

pub returns : goal.returns
returns c = c.matches.ensures ∙ ap (λ x. bytes_eq x c.args.item.now) (item_behind c.args.items.now.items c.len.result c.args.behind c.index.result.now (omega arith) (omega arith) c.index.ensures)
