-- A step at an end that the node serves where nothing whole is unread, or for which memory ran out: the node is the same.
use Rattle.std.proofs.Common.{◌≡◌, ℕ, List, Bool, true, false, Option, None, Some, Ok, Err, refl, sym, ap, subst, ◌∙◌}
use Rattle.std.specs.Prelude.{slice_set}
use Rattle.mr_links.specs.declared.link_id.LinkId.{LinkId}
use Rattle.mr_data.specs.declared.given.Given.{Given}
use Rattle.mr_node_links.specs.State.{Transaction}
use Rattle.mr_node_spec.specs.State.{NodeState, end_of as node_end}
use Rattle.mr_node.specs.Steps.{Steps}
use Rattle.mr_node.specs.declared.fault.NodeFault.TheVariants as refusal
use Rattle.mr_node.specs.declared.step.Step.TheVariants as step
use Rattle.mr_loop.specs.Stage.{Stage}
use Rattle.mr_loop.specs.Rows.{Idles, IsRefused, behind_refusal, idles, is_refused}
use Rattle.law_refinement.specs.Way.{unread}
use Rattle.law_refinement.specs.State.{Link, Slot, WorldState}
use Rattle.law_refinement.specs.Worlds.{IsWorld, end_for}
use Rattle.law_refinement.specs.Events.{IsRunning}
use Rattle.law_refinement.proofs.Places.{set_same}
use Rattle.mr_world.proofs.Feeding.{its_end}
use Rattle.mr_links.specs.declared.side.Side.TheVariants as side
use Rattle.law_servers.specs.Worlds.{IsServedAs}
use Rattle.law_systems.specs.System.{Connection, Server, System, runs}
use Rattle.law_systems.proofs.Wired.{IsWired}
use Rattle.law_systems.proofs.Mirrors.{IsTurn, Leads, Mirrors}
use Rattle.law_systems.proofs.Finding.{IsOpenAt, StandsAt}
use Rattle.law_systems.proofs.Closings.{leads_to, runs_none}
use Rattle.law_systems.proofs.Answers.{served}
use Rattle.law_systems.proofs.Ending.{dropped_ended, ended_leads}

module _ (w : WorldState) (n : ℕ) (a : Slot) (name : LinkId) (l : ℕ) (is : IsWorld w) (running : IsRunning w n a) (end : IsServedAs w n name l) (given : Given) (fresh : List ℕ) (b : NodeState) where
  abbrev k : Link
  k = end.link

  -- nothing whole is there
  pub idle_same : Steps a.node name given fresh b (Ok step.Idle) → b ≡ a.node
  idle_same row = go k.streams (its_end w l k a is (served w n a name l is running end)).0 (its_end w l k a is (served w n a name l is running end)).1
    where
      there : Steps a.node k.name given fresh b (Ok step.Idle)
      there = subst (λ z. Steps a.node z given fresh b (Ok step.Idle)) (sym end.named) row

      go : (c : Bool) (held : Option Transaction) → node_end a.node k.name ≡ Some (end_for c held (unread k.ask)) → b ≡ a.node
      go true held e = (there.at_replica (unread k.ask) (record { up = running.up; agrees = record { is = e } })).same
      go false None e = (there.at_client (unread k.ask) (record { up = running.up; agrees = record { is = e } })).same
      go false (Some t) e = (there.at_waiting t (unread k.ask) (record { up = running.up; agrees = record { is = e } })).same

  -- .. or memory is lacking
  pub lack_same : Steps a.node name given fresh b (Err refusal.Memory) → b ≡ a.node
  lack_same row = go k.streams (its_end w l k a is (served w n a name l is running end)).0 (its_end w l k a is (served w n a name l is running end)).1
    where
      there : Steps a.node k.name given fresh b (Err refusal.Memory)
      there = subst (λ z. Steps a.node z given fresh b (Err refusal.Memory)) (sym end.named) row

      go : (c : Bool) (held : Option Transaction) → node_end a.node k.name ≡ Some (end_for c held (unread k.ask)) → b ≡ a.node
      go true held e = (there.at_replica (unread k.ask) (record { up = running.up; agrees = record { is = e } })).1
      go false None e = (there.at_client (unread k.ask) (record { up = running.up; agrees = record { is = e } })).1
      go false (Some t) e = (there.at_waiting t (unread k.ask) (record { up = running.up; agrees = record { is = e } })).1

-- a system of these parts
abbrev pub system : List Server → List Connection → List (List ℕ) → System
system servers connections ids = record { servers = servers; connections = connections; ids = ids }

-- a server that is what it was
pub same_system : (x y : System) (n life : ℕ) (s t : Stage) (connections : List Connection) → t ≡ s → connections ≡ x.connections
    → y ≡ system (slice_set x.servers n (record { life = life; doing = runs t })) connections x.ids → slice_set x.servers n (record { life = life; doing = runs s }) ≡ x.servers → y ≡ x
same_system x y n life s t connections same goes is put =
    is ∙ (ap (λ (z : Stage). system (slice_set x.servers n (record { life = life; doing = runs z })) connections x.ids) same
    ∙ (ap (λ z. system z connections x.ids) put ∙ ap (λ z. system x.servers z x.ids) goes))

-- **Where nothing whole is unread nothing happens.**
pub idles_served : (x y : System) (w : WorldState) (n life : ℕ) (s t : Stage) (socket link : LinkId) (given : Given) (fresh : List ℕ) → Mirrors x w → IsTurn x n life s (idles socket link given fresh) t y
    → Idles socket link given fresh s t → (stands : StandsAt w n s) → IsOpenAt x w n life s stands.slot socket link side.Server → Leads w y
idles_served x y w n life s t socket link given fresh mirrors turn h stands found =
    let row : Steps stands.slot.node link given fresh t.node (Ok step.Idle) = subst (λ (z : NodeState). Steps z link given fresh t.node (Ok step.Idle)) (sym stands.node) h.node.row in
    let node : t.node ≡ s.node = idle_same w n stands.slot link found.number mirrors.world stands.running found.named given fresh t.node row ∙ stands.node in
    let same : t ≡ s = h.same ∙ ap (λ (z : NodeState). record s { node = z }) node in
    leads_to w w y (runs_none w mirrors.world)
    (subst (λ (z : System). Mirrors z w) (sym (same_system x y n life s t turn.connections same turn.goes turn.is (set_same x.servers n (record { life = life; doing = runs s }) turn.at.found))) mirrors)

-- **Where memory is lacking the end breaks.**
pub refused_served : (x y : System) (w : WorldState) (n life : ℕ) (s t : Stage) (socket link : LinkId) (given : Given) (fresh : List ℕ) → IsWired x → Mirrors x w
    → IsTurn x n life s (is_refused socket link given fresh) t y → IsRefused socket link given fresh s t → (stands : StandsAt w n s) → IsOpenAt x w n life s stands.slot socket link side.Server → Leads w y
refused_served x y w n life s t socket link given fresh wired mirrors turn h stands found =
    let row : Steps stands.slot.node link given fresh h.node (Err refusal.Memory) = subst (λ (z : NodeState). Steps z link given fresh h.node (Err refusal.Memory)) (sym stands.node) h.refused.row in
    let node : h.node ≡ s.node = lack_same w n stands.slot link found.number mirrors.world stands.running found.named given fresh h.node row ∙ stands.node in
    ended_leads x y w n life s t wired mirrors turn.at socket link
    (dropped_ended s (behind_refusal s link h.node h.unread) t socket link h.has.connection h.has.is h.has.has node refl h.dropped)
    (turn.is ∙ ap (λ cs. system (slice_set x.servers n (record { life = life; doing = runs t })) cs x.ids) turn.goes)
