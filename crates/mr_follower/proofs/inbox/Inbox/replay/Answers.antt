use Rattle.std.proofs.Common.{◌≡◌, take, sym, ap, subst, ◌∙◌}
use Rattle.mr_resp.specs.Resumed.{AgreesCommand}
use Rattle.mr_groups.specs.Readers.HasRead.{nothing}
use Rattle.mr_follower.proofs.Knowing.{known_rest, may_front}
use Rattle.mr_follower.proofs.inbox.Inbox.replay.Goals as goal

pub replay_front-replayed-requires : goal.replay_front-replayed-requires
replay_front-replayed-requires c =
    let u = c.self.inside.input in
    let front : c.at_most-front.result.now ≡ take c.args.most u = c.at_most-front.ensures ∙ ap (take c.args.most) c.left.ensures in
    may_front c.self.inside.known u c.at_most-front.result.now c.args.most front c.self.invariant.1

pub invariant_of-self : goal.invariant_of-self
invariant_of-self c =
    let u = c.self.inside.input in
    let known = c.replay_front-replayed.new.progress in
    let front : c.at_most-front.result.now ≡ take c.args.most u = c.at_most-front.ensures ∙ ap (take c.args.most) c.left.ensures in
    let left = known_rest known u c.at_most-front.result.now c.args.most c.replay_front-replayed.result.used front c.replay_front-replayed.ensures.done.within c.replay_front-replayed.ensures.known in
    (nothing c.reset.ensures, subst (AgreesCommand known) (sym c.take.ensures) left)
