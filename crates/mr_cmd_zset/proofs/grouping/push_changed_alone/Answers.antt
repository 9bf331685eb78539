use Rattle.std.proofs.Common.{◌≡◌, ◌∙◌, ap, map, ◌++◌}
use Rattle.mr_map.specs.Bytes.{Bytes}
use Rattle.mr_effect.specs.declared.effect.Effect.TheVariants as made
use Rattle.mr_keyspace.specs.Cuts.{cut}
use Rattle.mr_cmd_shared.proofs.GroupLemmas.{alone}
use Rattle.mr_cmd_zset.proofs.grouping.push_changed_alone.Goals as goal

pub returns : goal.returns
returns c =
    let key : c.new-group.result.key.now ≡ c.args.key.now = c.new-group.ensures.key ∙ c.as_slice.ensures in
    let takes = rw key at c.in_ok-push.ensures.takes in
    alone (made.SetScores c.args.key.now) _ _ _ _ _ _ c.new-group.ensures.scores takes
    (c.in_ok-end_scores.ensures ∙ ap (λ (k : Bytes). c.push.new.effects ++ map (made.SetScores k) (cut c.push.new.self.scores)) (c.push.ensures.key ∙ key))
