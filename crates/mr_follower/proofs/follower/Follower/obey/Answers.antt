use Rattle.std.proofs.Common.{rules, ◌≡◌, None, IsSome, sym, ap, subst, ◌∙◌}
use Rattle.mr_peer_lines.specs.Replies.{IsReplyText}
use Rattle.mr_peer_lines.specs.declared.psync.PsyncReply.{PsyncReply}
use Rattle.mr_follower.specs.State.{FollowState}
use Rattle.mr_follower.proofs.Stepping.{answer_unasked, answer_full, answer_continue}
use Rattle.mr_follower.proofs.follower.Follower.obey.Goals as goal

pub returns-in_default : goal.returns-in_default
returns-in_default c =
    let a : FollowState = c.args.self.now in
    let none : c.self.inside.offer ≡ None = search rules in
    answer_unasked a c.args.used c.requires.answer.text c.in-Continue.id c.requires.asked (ap (λ (f : FollowState). f.offer) (sym c.self.view_is) ∙ none) c.requires.answer.front
    (subst (λ (r : PsyncReply). IsReplyText c.requires.answer.text r) c.in-Continue.is c.requires.answer.reads)

pub returns-in-FullResync : goal.returns-in-FullResync
returns-in-FullResync c = λ out.
    let a : FollowState = c.args.self.now in
    let reads = subst (λ (r : PsyncReply). IsReplyText c.requires.answer.text r) c.in-FullResync.is c.requires.answer.reads in
    answer_full a c.take.new.self c.args.used c.requires.answer.text c.in-FullResync.id c.in-FullResync.offset c.requires.asked c.requires.answer.front reads c.take.ensures out

pub returns-in-Some : goal.returns-in-Some
returns-in-Some c = λ out.
    let a : FollowState = c.args.self.now in
    let offered : IsSome c.self.inside.offer = search rules in
    let reads = subst (λ (r : PsyncReply). IsReplyText c.requires.answer.text r) c.in-Continue.is c.requires.answer.reads in
    answer_continue a c.take-in-Continue.new.self c.args.used c.requires.answer.text c.in-Continue.id c.requires.asked (subst (λ (f : FollowState). IsSome f.offer) c.self.view_is offered) c.requires.answer.front reads c.take-in-Continue.ensures out
