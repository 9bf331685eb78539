-- A step, wherever it was made: at an end that the node serves, or at the link to its master.
use Rattle.std.proofs.Common.{◌≡◌, ◌⊎◌, inl, inr, ℕ, List, Bool, Some, sym, ap, ◌∙◌}
use Rattle.mr_links.specs.declared.link_id.LinkId.{LinkId}
use Rattle.mr_data.specs.declared.given.Given.{Given}
use Rattle.mr_file.specs.declared.sync_mode.SyncMode.{SyncMode}
use Rattle.mr_replication.specs.State.{name_of}
use Rattle.mr_node_links.specs.State.EndState.{client, replica, upstream, waiting}
use Rattle.mr_node_output.specs.Outs.{OutsState}
use Rattle.mr_node_spec.specs.State.{MasterAgrees, NodeState, end_of}
use Rattle.mr_node.specs.Calls.{Agreeing}
use Rattle.mr_connections.specs.State.{HasLink}
use Rattle.mr_loop.specs.Stage.{Stage}
use Rattle.mr_loop.specs.Causes.{HasInput, at_step}
use Rattle.mr_loop.specs.Rows.{Happens, acts, idles, is_refused, spills, tears}
use Rattle.law_refinement.specs.State.{WorldState}
use Rattle.law_refinement.proofs.Places.{some_is}
use Rattle.mr_links.specs.declared.side.Side.{Side}
use Rattle.mr_links.specs.declared.side.Side.TheVariants as side
use Rattle.law_systems.specs.System.{IsAt, System}
use Rattle.law_systems.proofs.Wired.{IsWired}
use Rattle.law_systems.proofs.Mirrors.{IsTurn, Leads, Mirrors}
use Rattle.law_systems.proofs.Finding.{IsOpenAt, StandsAt, has_open, is_upstream, opens_at, stands_at}
use Rattle.law_systems.proofs.Served.{acts_at_served}
use Rattle.law_systems.proofs.Spilling.{spills_at_served, tears_at_served}
use Rattle.law_systems.proofs.Idling.{idles_served, refused_served}
use Rattle.law_systems.proofs.Hearing.{master_acts, master_spills, master_tears}
use Rattle.law_systems.proofs.Unheard.{master_idles, master_refuses}
use Rattle.law_servers.specs.Worlds.{NoneOpen}

-- an end with something unread that is the one of the link to the master
follows : (a : NodeState) (link : LinkId) (input : HasInput a link) → end_of a link ≡ Some upstream → (bytes : List ℕ) × MasterAgrees a link bytes
follows a link input is = elim input.unread.agree [
  | Agreeing.client g ↦ absurd (not_client input.unread.bytes (some_is upstream (client input.unread.bytes) (sym is ∙ g.is)))
  | Agreeing.waiting t g ↦ absurd (let wrong : upstream ≡ waiting t input.unread.bytes = some_is upstream (waiting t input.unread.bytes) (sym is ∙ g.is) in cc)
  | Agreeing.replica g ↦ absurd (not_replica input.unread.bytes (some_is upstream (replica input.unread.bytes) (sym is ∙ g.is)))
  | Agreeing.master g ↦ (input.unread.bytes, g)
  | Agreeing.shut g nothing ↦ absurd (has_open a link input (NoneOpen.shut g))
]
  where
    not_client : (u : List ℕ) → upstream ≡ client u → ⊥
    not_client u e = cc

    not_replica : (u : List ℕ) → upstream ≡ replica u → ⊥
    not_replica u e = cc

-- **A step is made at an end that the node serves, or at the link to its master.**
pub served_or_followed : (x : System) (w : WorldState) (n life : ℕ) (s : Stage) (socket link : LinkId) → IsWired x → Mirrors x w → IsAt x n life s → (stands : StandsAt w n s)
    → HasLink s.own.connections socket link → HasInput s.node link → IsOpenAt x w n life s stands.slot socket link side.Server ⊎ ((bytes : List ℕ) × MasterAgrees s.node link bytes)
served_or_followed x w n life s socket link wired mirrors at stands has input = go found.0 found.1
  where
    found : (g : Side) × IsOpenAt x w n life s stands.slot socket link g
    found = opens_at x w n life s socket link wired mirrors at stands has input

    go : (g : Side) → IsOpenAt x w n life s stands.slot socket link g → IsOpenAt x w n life s stands.slot socket link side.Server ⊎ ((bytes : List ℕ) × MasterAgrees s.node link bytes)
    go side.Server o = inl o
    go side.Opener o = inr (follows s.node link input (is_upstream s.node link input.node (ap (λ (z : NodeState). name_of z.follow) (sym stands.node) ∙ o.named.named)))

-- ---- each event of one
module _ (x y : System) (w : WorldState) (n life : ℕ) (s t : Stage) (tells : Bool) (mode : SyncMode) (socket link : LinkId) (given : Given) (fresh : List ℕ)
    (wired : IsWired x) (mirrors : Mirrors x w) where
  pub step_acts : (news : _) (outs : OutsState) → IsTurn x n life s (acts (at_step socket link given fresh news) outs) t y
      → Happens tells mode s (acts (at_step socket link given fresh news) outs) t → Leads w y
  step_acts news outs turn h =
      let stands = stands_at x w n life s wired mirrors turn.at in
      elim (served_or_followed x w n life s socket link wired mirrors turn.at stands h.calls.has h.calls.stepped.input) [
        | inl found ↦ acts_at_served x y w n life s t socket link given fresh news outs wired mirrors turn h stands found
        | inr m ↦ master_acts x y w n life s t tells mode socket link given fresh news outs wired mirrors m.0 m.1 turn h
      ]

  pub step_spills : (news : _) (outs : OutsState) → IsTurn x n life s (spills (at_step socket link given fresh news) outs) t y
      → Happens tells mode s (spills (at_step socket link given fresh news) outs) t → Leads w y
  step_spills news outs turn h =
      let stands = stands_at x w n life s wired mirrors turn.at in
      elim (served_or_followed x w n life s socket link wired mirrors turn.at stands h.calls.has h.calls.stepped.input) [
        | inl found ↦ spills_at_served x y w n life s t socket link given fresh news outs wired mirrors stands found turn h
        | inr m ↦ master_spills x y w n life s t tells mode socket link given fresh news outs wired mirrors m.0 m.1 turn h
      ]

  pub step_tears : (news : _) (outs : OutsState) → IsTurn x n life s (tears (at_step socket link given fresh news) outs) t y
      → Happens tells mode s (tears (at_step socket link given fresh news) outs) t → Leads w y
  step_tears news outs turn h =
      let stands = stands_at x w n life s wired mirrors turn.at in
      elim (served_or_followed x w n life s socket link wired mirrors turn.at stands h.calls.has h.calls.stepped.input) [
        | inl found ↦ tears_at_served x y w n life s t socket link given fresh news outs wired mirrors stands found turn h
        | inr m ↦ master_tears x y w n life s t tells mode socket link given fresh news outs wired mirrors m.0 m.1 turn h
      ]

  pub step_idles : IsTurn x n life s (idles socket link given fresh) t y → Happens tells mode s (idles socket link given fresh) t → Leads w y
  step_idles turn h =
      let stands = stands_at x w n life s wired mirrors turn.at in
      elim (served_or_followed x w n life s socket link wired mirrors turn.at stands h.has h.node.input) [
        | inl found ↦ idles_served x y w n life s t socket link given fresh mirrors turn h stands found
        | inr m ↦ master_idles x y w n life s t tells mode socket link given fresh wired mirrors m.0 m.1 turn h
      ]

  pub step_refused : IsTurn x n life s (is_refused socket link given fresh) t y → Happens tells mode s (is_refused socket link given fresh) t → Leads w y
  step_refused turn h =
      let stands = stands_at x w n life s wired mirrors turn.at in
      elim (served_or_followed x w n life s socket link wired mirrors turn.at stands h.has h.refused.input) [
        | inl found ↦ refused_served x y w n life s t socket link given fresh wired mirrors turn h stands found
        | inr m ↦ master_refuses x y w n life s t tells mode socket link given fresh wired mirrors m.0 m.1 turn h
      ]
