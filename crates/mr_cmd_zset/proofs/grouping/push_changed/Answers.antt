use Rattle.std.proofs.Common.{◌∙◌, ap, ◌++◌, map, sym}
use Rattle.std.specs.FinMap.{entries}
use Rattle.mr_map.specs.Bytes.{Bytes}
use Rattle.mr_effect.specs.declared.effect.Effect.TheVariants as made
use Rattle.mr_keyspace.specs.Cuts.{cut}
use Rattle.mr_cmd_zset.proofs.Differences.{alone, changed_alones}
use Rattle.mr_cmd_zset.proofs.Pushing.{pushing_ends}
use Rattle.mr_cmd_zset.proofs.grouping.push_changed.Goals as goal

pub returns : goal.returns
returns c =
    pushing_ends (made.SetScores c.args.key.now) (alone c.args.set.now) (entries c.args.scores.now) _ _ _ _ _ c.loop-member.invariant.pushing c.in-None.ensures.steps.0
    (c.in_ok-end_scores.ensures ∙ ap (λ (k : Bytes). c.loop-member.effects ++ map (made.SetScores k) (cut c.loop-member.group.scores)) c.loop-member.invariant.key)
    ∙ ap (λ ps. c.args.effects.now ++ map (made.SetScores c.args.key.now) (cut ps)) (sym (changed_alones c.args.set.now c.args.scores.now))
