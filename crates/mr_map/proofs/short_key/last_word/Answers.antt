use Rattle.std.proofs.Common.{◌+◌, ◌*◌, ◌%◌, ◌^◌, ◌∙◌, ap}
use Rattle.mr_map.proofs.Words.{last_is}
use Rattle.mr_map.proofs.short_key.last_word.Goals as goal

pub returns : goal.returns
returns c =
    ap (λ n. (c.word_at.result * 256 % 2 ^ 64 + n) % 2 ^ 64) c.from.ensures
    ∙ last_is c.args.bytes.now c.word_at.result c.args.len c.requires c.type_inv.bytes c.ranges.len.fits c.word_at.ensures
