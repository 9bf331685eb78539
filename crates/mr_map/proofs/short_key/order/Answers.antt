use Rattle.mr_map.proofs.Words.{first_decides, second_decides, last_decides}
use Rattle.std.proofs.Common.{◌∙◌}
use Rattle.mr_map.proofs.short_key.order.Goals as goal

pub returns-then-x-y : goal.returns-then-x-y
returns-then-x-y c =
    c.cmp.ensures
    ∙ first_decides c.args.a.now c.args.b.now c.args.a_len c.args.b_len c.requires.left c.requires.right c.type_inv.a c.type_inv.b c.ranges.a_len.fits c.ranges.b_len.fits _ _ c.word_at-x.ensures c.word_at-y.ensures c.if-x-y.true

pub returns-then-z-w : goal.returns-then-z-w
returns-then-z-w c =
    c.cmp-then-z-w.ensures
    ∙ second_decides c.args.a.now c.args.b.now c.args.a_len c.args.b_len c.requires.left c.requires.right c.type_inv.a c.type_inv.b c.ranges.a_len.fits c.ranges.b_len.fits _ _ c.word_at-x.ensures c.word_at-y.ensures c.if-x-y.false _ _ c.word_at-z.ensures c.word_at-w.ensures c.if-z-w.true

pub returns : goal.returns
returns c =
    c.cmp-2.ensures
    ∙ last_decides c.args.a.now c.args.b.now c.args.a_len c.args.b_len c.requires.left c.requires.right c.type_inv.a c.type_inv.b c.ranges.a_len.fits c.ranges.b_len.fits _ _ c.word_at-x.ensures c.word_at-y.ensures c.if-x-y.false _ _ c.word_at-z.ensures c.word_at-w.ensures c.if-z-w.false _ _ c.last_word.ensures c.last_word-2.ensures
