use Rattle.std.proofs.Common.{◌≡◌, ap, Some, true, false, is_some, rules, sym, ◌∙◌}
use Rattle.mr_node_spec.specs.State.{end_of}
use Rattle.mr_node.proofs.Ends.{held_none, held_some, kind_client, kind_replica, kind_waiting}
use Rattle.mr_node.proofs.node.Node.step_into.Goals as goal

pub serve-requires-clause-at : goal.serve-requires-clause-at
serve-requires-clause-at c =
    let none : is_some c.transaction.result ≡ false = search rules in
    let whose = kind_client c.in-Some.end.now c.in-Client.ensures (sym c.transaction.ensures ∙ held_none c.transaction.result none) in
    let found : end_of c.args.self.now c.args.link ≡ Some c.in-Some.end.now = search rules in
    let up : c.args.self.now.core.up ≡ true = search rules in
    (whose.0, record { up = up; agrees = record { is = found ∙ ap Some whose.1 } })

pub note-requires-clause-at : goal.note-requires-clause-at
note-requires-clause-at c =
    let whose = kind_replica c.in-Some.end.now c.in-Replica.ensures in
    let found : end_of c.args.self.now c.args.link ≡ Some c.in-Some.end.now = search rules in
    let up : c.args.self.now.core.up ≡ true = search rules in
    (whose.0, record { up = up; agrees = record { is = found ∙ ap Some whose.1 } })

pub serve_within-requires-clause-at : goal.serve_within-requires-clause-at
serve_within-requires-clause-at c =
    let some : is_some c.transaction.result ≡ true = search rules in
    let held = held_some c.transaction.result some in
    let whose = kind_waiting c.in-Some.end.now held.0 (sym c.transaction.ensures ∙ held.1) in
    let found : end_of c.args.self.now c.args.link ≡ Some c.in-Some.end.now = search rules in
    let up : c.args.self.now.core.up ≡ true = search rules in
    (held.0, whose.0, record { up = up; agrees = record { is = found ∙ ap Some whose.1 } })
