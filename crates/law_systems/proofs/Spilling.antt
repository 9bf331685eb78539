-- A step at an end that the node serves, of which not all was carried out: the server gives up behind it, so that of its node only what it shows and takes still counts.
use Rattle.std.proofs.Common.{◌≡◌, ◌++◌, inr, ℕ, List, true, false, length, refl, sym, ap, subst, ◌∙◌}
use Rattle.std.specs.Prelude.{slice_get, slice_set}
use Rattle.mr_links.specs.declared.link_id.LinkId.{LinkId}
use Rattle.mr_data.specs.declared.given.Given.{Given}
use Rattle.mr_node_output.specs.Outs.{OutsState, outs_of}
use Rattle.mr_node_spec.specs.State.{NodeState}
use Rattle.mr_loop.specs.Stage.{Stage}
use Rattle.mr_loop.specs.Causes.{StepsAt, at_step}
use Rattle.mr_loop.specs.Giving.{listed}
use Rattle.mr_loop.specs.Rows.{Spills, Tears, spills, tears}
use Rattle.law_refinement.specs.State.{Link, Slot, WorldState}
use Rattle.law_refinement.specs.Carrying.{behind, stepped}
use Rattle.mr_links.specs.declared.side.Side.TheVariants as side
use Rattle.law_systems.specs.System.{IsAt, System, gives_up, is_taken}
use Rattle.law_systems.proofs.Wired.{IsWired}
use Rattle.law_systems.proofs.Mirrors.{IsTurn, Leads, Mirrors}
use Rattle.law_systems.proofs.Rebuilding.{rebuilt}
use Rattle.law_systems.proofs.Finding.{IsOpenAt, StandsAt}
use Rattle.law_systems.proofs.Closings.{leads_to, runs_more, runs_none}
use Rattle.law_systems.proofs.Booked.{booked_ids}
use Rattle.law_systems.proofs.Reached.{as_many_told, lines_told, others_told}
use Rattle.law_systems.proofs.Serving.{it_answers}
use Rattle.law_systems.proofs.Apart.{no_turns}
use Rattle.law_systems.proofs.Parting.{spilled_core, torn_core}

-- what was carried out changes nothing of the node but its ends

-- behind a fault no turns are made

module _ (x y : System) (w : WorldState) (n life : ℕ) (s t : Stage) (socket link : LinkId) (given : Given) (fresh : List ℕ) (news : _) (outs : OutsState)
    (wired : IsWired x) (mirrors : Mirrors x w) (at : IsAt x n life s) (unused : is_taken x.ids fresh ≡ false)
    (called : Stage) (calls : StepsAt socket link given fresh news s called outs)
    (stands : StandsAt w n s) (found : IsOpenAt x w n life s stands.slot socket link side.Server) where
  abbrev a : Slot
  a = stands.slot

  abbrev b : NodeState
  b = called.node

  abbrev k : Link
  k = found.named.link

  abbrev u : WorldState
  u = stepped w n a found.number k b outs

  -- the server gives up
  gives_up_there : y.servers ≡ slice_set x.servers n (record { life = life; doing = gives_up t }) → y.connections ≡ x.connections → y.ids ≡ listed outs.used ++ x.ids → t.node.core ≡ b.core → Leads w y
  gives_up_there servers same ids core =
      let it = it_answers x w n life s socket link given fresh news outs wired mirrors at unused called calls stands found in
      leads_to w u y (runs_more w u u it.moves (runs_none u it.moves.1))
      (rebuilt x y w u n life s t (gives_up t) a (behind a b outs) mirrors at servers (inr refl) it.moves.1 stands.running.at refl refl
      (λ r. absurd (no_turns t t r)) (sym core)
      (as_many_told x w n found.number k b outs mirrors found.named.at.found found.named.to ∙ ap (λ e. length e) (sym same))
      (λ id e. subst (λ d. is_taken d id ≡ true) (sym ids) (booked_ids w.book x.ids mirrors.ids a.node outs id e))
      (λ i p l e h. lines_told x w n found.number k b outs mirrors found.named.at.found found.named.to i p l (ap (λ d. slice_get d i) (sym same) ∙ e) h)
      (λ i g p e l end h apart. others_told x w n found.number k b outs mirrors found.named.at.found found.named.to i g p e l
      (record { found = ap (λ d. slice_get d i) (sym same) ∙ end.found; has = end.has }) h apart)
      (λ i g p q l held r end h there. absurd (no_turns t t r)))

module _ (x y : System) (w : WorldState) (n life : ℕ) (s t : Stage) (socket link : LinkId) (given : Given) (fresh : List ℕ) (news : _) (outs : OutsState)
    (wired : IsWired x) (mirrors : Mirrors x w) (stands : StandsAt w n s) (found : IsOpenAt x w n life s stands.slot socket link side.Server) where
  pub spills_at_served : IsTurn x n life s (spills (at_step socket link given fresh news) outs) t y → Spills (at_step socket link given fresh news) outs s t → Leads w y
  spills_at_served turn h = gives_up_there x y w n life s t socket link given fresh news outs wired mirrors turn.at turn.new.0 h.called h.calls stands found
      (ap (λ (e : System). e.servers) turn.is) (ap (λ (e : System). e.connections) turn.is ∙ turn.goes) (ap (λ (e : System). e.ids) turn.is) (spilled_core (outs_of outs) h.called t h.spilled)

  pub tears_at_served : IsTurn x n life s (tears (at_step socket link given fresh news) outs) t y → Tears (at_step socket link given fresh news) outs s t → Leads w y
  tears_at_served turn h = gives_up_there x y w n life s t socket link given fresh news outs wired mirrors turn.at turn.new.0 h.called h.calls stands found
      (ap (λ (e : System). e.servers) turn.is) (ap (λ (e : System). e.connections) turn.is ∙ turn.goes) (ap (λ (e : System). e.ids) turn.is) (torn_core (outs_of outs) h.called t h.torn)
