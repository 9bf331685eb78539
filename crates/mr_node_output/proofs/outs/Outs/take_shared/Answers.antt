use Rattle.std.proofs.Common.{◌≡◌, ◌<◌, length, rules, Some, subst, ◌∙◌}
use Rattle.mr_node_output.proofs.Endings.{reply_is_last}
use Rattle.mr_node_output.proofs.outs.Outs.take_shared.Goals as goal

pub returns-clause-some : goal.returns-clause-some
returns-clause-some c =
    let a = c.args.self.now in
    let linked : a.link ≡ Some c.in_ok-link.link = search rules in
    let long : 0 < length c.reply.result.now = search rules in
    let said = c.in_ok-text.ensures.said in
    reply_is_last a c.take_text.new.self c.in_ok-link.link c.in_ok-text.text.value.items linked said (subst (λ z. 0 < length z) (c.reply.ensures ∙ said) long) (c.ends_with_the_reply.ensures (search rules)) c.in_ok-text.ensures.rest
