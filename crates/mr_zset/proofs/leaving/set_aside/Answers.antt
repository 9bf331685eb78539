use Rattle.std.proofs.Common.{rules, ◌≡◌, ◌++◌, ◌∷◌, [], ap, map, ◌∙◌}
use Rattle.std.proofs.lemmas.List.{map_push}
use Rattle.mr_zset.specs.Leaving.{without_pairs}
use Rattle.mr_zset.specs.Pairs.{lent_pair}
use Rattle.mr_zset.specs.Stored.{stored}
use Rattle.mr_zset.proofs.LeavingLemmas.{without_filter, without_push}
use Rattle.mr_zset.proofs.leaving.set_aside.Goals as goal

pub returns-then-is_err : goal.returns-then-is_err
returns-then-is_err c =
    let same : c.push.new.self.items ≡ c.args.gone.now.items = search rules in
    ap (λ gone. without_pairs (map lent_pair gone) (map stored c.take_out.new.pairs)) same
    ∙ ap (without_pairs (map lent_pair c.args.gone.now.items)) c.take_out.ensures.rest
    ∙ without_filter (map lent_pair c.args.gone.now.items) (lent_pair c.args.pair) (map stored c.args.pairs.now)

pub returns-else-is_err : goal.returns-else-is_err
returns-else-is_err c =
    let more : c.push.new.self.items ≡ c.args.gone.now.items ++ c.args.pair ∷ [] = search rules in
    ap (λ gone. without_pairs (map lent_pair gone) (map stored c.args.pairs.now)) more
    ∙ ap (λ gone. without_pairs gone (map stored c.args.pairs.now)) (map_push lent_pair c.args.gone.now.items c.args.pair)
    ∙ without_push (map lent_pair c.args.gone.now.items) (lent_pair c.args.pair) (map stored c.args.pairs.now)
