use Rattle.std.specs.Cmp.Lexicographic.{texts_ties}
use Rattle.std.proofs.lemmas.List.Filters.{dedup_is}
use Rattle.mr_cmd_zset.proofs.ByteOrder.{ordered_keys}
use Rattle.mr_cmd_zset.proofs.removing.in_byte_order.Goals as goal

pub returns : goal.returns
returns c = ordered_keys _ (λ x y. texts_ties x.now y.now) c.args.members.items _ _ c.sort_unstable.ensures.permutation c.sort_unstable.ensures.sorted (dedup_is _ _ _ c.dedup.ensures.filtered)
