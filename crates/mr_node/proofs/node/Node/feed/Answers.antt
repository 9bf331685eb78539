use Rattle.std.proofs.Common.{◌≡◌, ◌≢◌, ◌⊎◌, Option, None, Some, true, length, refl, ap, sym, subst, ◌∙◌, rules}
use Rattle.mr_node_links.specs.State.{EndState, put_end, serves}
use Rattle.mr_node_links.specs.Ending.{heard_of, kind_of}
use Rattle.mr_node_links.specs.Parts.{HearsAt}
use Rattle.mr_node_links.specs.declared.kind.Kind.{Kind}
use Rattle.mr_node_links.specs.declared.kind.Kind.TheVariants as kind
use Rattle.mr_node_spec.specs.State.{IsNode, NodeState, end_of}
use Rattle.mr_node_state.specs.Parts.{fed_as, with_ends}
use Rattle.mr_node.proofs.Linking.{feeds_master, feeds_served, feeds_shut, fits_there, fits_unserved, kind_serves, kind_shut, kind_upstream, too_much, went}
use Rattle.mr_node.proofs.node.Node.feed.Goals as goal
use Rattle.mr_node.proofs.node.Node.feed.Goals.{in-Client+else-bytes-room, in-Upstream, in-Shut}

pub returns-then-bytes-room : goal.returns-then-bytes-room
returns-then-bytes-room c =
    let found : end_of c.args.self.now c.args.link ≡ Some c.in-Some.end.now = search rules in
    let up : c.args.self.now.core.up ≡ true = search rules in
    let served : serves c.in-Some.end.now ≡ true = search rules in
    (too_much c.args.self.now c.args.link c.in-Some.end.now c.room.result _ up found served c.room.ensures c.if-bytes-room.true, refl)

pub returns-in-Ok : goal.returns-in-Ok
returns-in-Ok c =
    let a = c.args.self.now in
    let end = c.in-Some.end.now in
    let up : a.core.up ≡ true = search rules in
    let found : end_of a c.args.link ≡ Some end = search rules in
    let there : end_of a c.args.link ≢ None = λ none. some_none end (sym found ∙ none) in
    let node : IsNode a = subst IsNode c.self.view_is c.ends.ensures.node in
    let was : (k : Kind) → c.kind.result ≡ k → kind_of end ≡ k = λ k is. sym c.kind.ensures ∙ is in
    elim c.match-kind.branch [
      | in-Client+else-bytes-room w ↦
          let served : serves end ≡ true = kind_serves end (subst (λ (k : Kind). (k ≡ kind.Client) ⊎ (k ≡ kind.Replica)) c.kind.ensures w.in-Client.is) in
          let heard : HearsAt c.self.inside.state.ends c.args.link c.args.bytes.now w.hear-fed.new.self.ends = went w.hear-fed.result c.in-Ok.field-0 (sym w.fed-is ∙ c.in-Ok.is) w.hear-fed.ensures.ok in
          let first : end_of c.self.inside.state c.args.link ≡ Some end = ap (λ (z : NodeState). end_of z c.args.link) c.self.view_is ∙ found in
          let put : w.hear-fed.new.self ≡ with_ends c.self.inside.state (put_end c.self.inside.state.ends c.args.link (heard_of c.args.bytes.now end)) = w.hear-fed.ensures.only ∙ ap (with_ends c.self.inside.state) (heard end first) in (
            up,
            there,
            fits_there a c.args.link end w.room.result (length c.args.bytes.now) found w.room.ensures w.if-bytes-room.false,
            feeds_served a c.match-kind.self c.args.link end c.args.bytes.now node found served
                (w.self-is ∙ (put ∙ ap (λ (z : NodeState). with_ends z (put_end z.ends c.args.link (heard_of c.args.bytes.now end))) c.self.view_is)),
          )
      | in-Upstream w ↦
          let fed : w.hear_master-fed.new.self ≡ fed_as c.args.bytes.now c.self.inside.state = went w.hear_master-fed.result c.in-Ok.field-0 (sym w.fed-is ∙ c.in-Ok.is) w.hear_master-fed.ensures.ok in (
            up,
            there,
            fits_unserved a c.args.link end (length c.args.bytes.now) found (ap serves (kind_upstream end (was kind.Upstream w.in-Upstream.is))),
            feeds_master a c.match-kind.self c.args.link c.args.bytes.now node w.fed_bytes_are_unread.ensures (found ∙ ap Some (kind_upstream end (was kind.Upstream w.in-Upstream.is)))
                (w.self-is ∙ (fed ∙ ap (fed_as c.args.bytes.now) c.self.view_is)),
          )
      | in-Shut w ↦ (up, there, fits_unserved a c.args.link end (length c.args.bytes.now) found (ap serves (kind_shut end (was kind.Shut w.in-Shut.is))), feeds_shut a c.match-kind.self c.args.link c.args.bytes.now node (found ∙ ap Some (kind_shut end (was kind.Shut w.in-Shut.is))) w.self-is)
    ]
  where
    some_none : (e : EndState) → ◌≡◌ {A = Option EndState} (Some e) None → ⊥
    some_none e h = cc
