use Rattle.std.proofs.Common.{◌∙◌, ℕ, Option, None, Some, refl, sym, subst}
use Rattle.mr_links.specs.declared.link_id.LinkId.{LinkId}
use Rattle.mr_node.specs.Calls.{IsClients, IsUnread}
use Rattle.mr_world_parts.proofs.Behind.{some_unread, stays_settled}
use Rattle.mr_world_parts.proofs.carry.settle.Goals as goal

pub unreachable-requires : goal.unreachable-requires
unreachable-requires c =
    some_unread c.args.slot.now.node c.args.link.now.name c.args.outs.now c.requires (sym c.closes.ensures ∙ c.if-closes.false)
    (subst (λ (z : LinkId). IsUnread c.args.slot.now.node z None) c.name-name.ensures (subst (λ (z : Option ℕ). IsUnread c.args.slot.now.node c.name-name.result z) c.in_default.is c.unread.ensures))

pub returns : goal.returns
returns c =
    c.stay.ensures ∙ stays_settled c.args.slot.now.node c.args.link.now.name c.args.outs.now c.requires c.args.link.now c.is_client.result c.in-Some.left refl (sym c.closes.ensures ∙ c.if-closes.false)
    (subst (λ (z : LinkId). IsUnread c.args.slot.now.node z (Some c.in-Some.left)) c.name-name.ensures (subst (λ (z : Option ℕ). IsUnread c.args.slot.now.node c.name-name.result z) c.in-Some.is c.unread.ensures))
    (λ t. subst (λ (z : LinkId). IsClients c.args.slot.now.node z) c.name-name.ensures (c.is_client.ensures.0 t))
    (λ i. c.is_client.ensures.1 (subst (λ (z : LinkId). IsClients c.args.slot.now.node z) (sym c.name-name.ensures) i))
