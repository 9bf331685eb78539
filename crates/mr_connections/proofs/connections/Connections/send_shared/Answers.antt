use Rattle.std.proofs.Common.{◌≡◌, rules, sym, ◌∙◌}
use Rattle.mr_connections.specs.State.{pushed}
use Rattle.mr_connections.proofs.Listed.{linked_not}
use Rattle.mr_connections.proofs.Sent.{linked-none, linked-one, nil_of, sent-nil}
use Rattle.mr_connections.proofs.connections.Connections.send_shared.Goals as goal

pub returns-then-is_empty-clause-ok : goal.returns-then-is_empty-clause-ok
returns-then-is_empty-clause-ok c =
    let same : c.args.text.value.items ≡ c.deref.result.now.items = search rules in
    sent-nil c.args.link c.args.text.value.items c.args.self.now (same ∙ (sym c.as_slice.ensures.value ∙ nil_of c.as_slice.result.now c.if-is_empty.ensures))

pub returns-in_default-clause-ok : goal.returns-in_default-clause-ok
returns-in_default-clause-ok c = linked-none c.args.link (pushed c.args.text.value.items) c.args.self.now c.in_default.ensures.none

pub push_shared-requires : goal.push_shared-requires
push_shared-requires c = linked_not c.args.self.now c.in-Some.socket c.args.link c.in-Some.ensures.some

pub returns-clause-ok : goal.returns-clause-ok
returns-clause-ok c =
    c.note.ensures ∙ c.in_ok-push_shared.ensures.ok
    ∙ linked-one c.args.link (pushed c.args.text.value.items) c.args.self.now c.in-Some.socket c.in-Some.ensures.some c.socket_of.ensures.apart
