use Rattle.std.proofs.Common.{◌≡◌, take, ap, ◌∙◌}
use Rattle.mr_follower.proofs.Knowing.{known_whole, may_front}
use Rattle.mr_follower.proofs.inbox.Inbox.apply_single.Goals as goal

pub apply_single-requires : goal.apply_single-requires
apply_single-requires c =
    let u = c.self.inside.input in
    let front : c.at_most-front.result.now ≡ take c.args.most u = c.at_most-front.ensures ∙ ap (take c.args.most) c.left.ensures in
    may_front c.self.inside.known u c.at_most-front.result.now c.args.most front c.self.invariant.1

pub invariant_of-self : goal.invariant_of-self
invariant_of-self c =
    let u = c.self.inside.input in
    let front : c.at_most-front.result.now ≡ take c.args.most u = c.at_most-front.ensures ∙ ap (take c.args.most) c.left.ensures in
    (c.self.invariant.0, known_whole c.apply_single.new.progress u c.at_most-front.result.now c.args.most front c.apply_single.ensures.known)
