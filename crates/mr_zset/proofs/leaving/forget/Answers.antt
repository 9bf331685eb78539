use Rattle.std.proofs.Common.{◌≡◌, ◌∙◌, sym, map, rules, arith}
use Rattle.std.specs.Prelude.{filter}
use Rattle.std.proofs.lemmas.Grind.{common_steps}
use Rattle.mr_zset.specs.Leaving.{without_pairs}
use Rattle.mr_zset.specs.Pairs.{is_other, lent_pair}
use Rattle.mr_zset.specs.Stored.{stored}
use Rattle.mr_zset.proofs.LeavingLemmas.{besides_absent, besides_taken}
use Rattle.mr_zset.proofs.leaving.forget.Goals as goal

pub returns-in-Some-clause-left : goal.returns-in-Some-clause-left
returns-in-Some-clause-left c =
    let gone = c.args.gone.now.items in
    let out : without_pairs (map lent_pair c.set_aside.new.gone.items) (map stored c.set_aside.new.pairs) ≡ filter (is_other (c.args.member.now, c.in-Some.score)) (without_pairs (map lent_pair gone) (map stored c.args.pairs.now)) = first_of (search rules, grind (arith, common_steps)) in
    besides_taken gone c.args.scores.now c.remove.new.self c.args.pairs.now c.requires c.args.member.now c.remove.ensures.removed c.in-Some.score c.set_aside.new.gone.items c.set_aside.new.pairs
    (sym c.remove.ensures.before ∙ c.in-Some.is) out

pub returns-in_default-clause-left : goal.returns-in_default-clause-left
returns-in_default-clause-left c =
    besides_absent c.args.gone.now.items c.args.scores.now c.remove.new.self c.args.pairs.now c.requires c.args.member.now c.remove.ensures.removed (sym c.remove.ensures.before ∙ c.in_default.is)
