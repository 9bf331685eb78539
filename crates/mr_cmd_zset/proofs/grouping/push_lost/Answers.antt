use Rattle.std.proofs.Common.{◌∙◌, ◌∷◌, ◌++◌, [], List, ap, map}
use Rattle.std.specs.Borrow.{Bor}
use Rattle.mr_map.specs.Bytes.{Bytes}
use Rattle.mr_effect.specs.declared.effect.Effect.TheVariants as made
use Rattle.mr_keyspace.specs.Cuts.{cut}
use Rattle.mr_cmd_zset.proofs.Pushing.{pushing_next, pushing_done, flat_names}
use Rattle.mr_cmd_zset.proofs.grouping.push_lost.Goals as goal

pub loop-member-preserved : goal.loop-member-preserved
loop-member-preserved c = record {
  key = c.push.ensures.key ∙ c.loop-member.invariant.key;
  pushing = pushing_next (made.RemoveScores c.args.key.now) (λ m. m.now ∷ []) c.args.members.now _ _ _ _ _ _ _ c.loop-member.invariant.pushing c.loop-member-test.true (rw c.loop-member.invariant.key at c.in_ok-push.ensures.takes);
}

pub returns : goal.returns
returns c =
    pushing_done (made.RemoveScores c.args.key.now) (λ m. m.now ∷ []) c.args.members.now _ _ _ _ _ c.loop-member.invariant.pushing c.loop-member-test.false
    (c.in_ok-end_members.ensures ∙ ap (λ (k : Bytes). c.loop-member.effects ++ map (made.RemoveScores k) (cut c.loop-member.group.members)) c.loop-member.invariant.key)
    ∙ ap (λ (ms : List Bytes). c.args.effects.now ++ map (made.RemoveScores c.args.key.now) (cut ms)) (flat_names (λ (m : Bor Bytes). m.now) c.args.members.now)
