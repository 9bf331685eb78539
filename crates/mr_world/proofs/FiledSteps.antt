-- What steps and restarts do to the files of a World's nodes.
use Rattle.std.proofs.Common.{◌≡◌, ℕ, List, Ok, refl, sym, ap, subst, ◌∙◌}
use Rattle.std.specs.Prelude.{not, take}
use Rattle.mr_data.specs.declared.given.Given.{Given}
use Rattle.mr_node_spec.specs.State.{NodeState, stopped_as}
use Rattle.law_refinement.specs.Way.{unread}
use Rattle.mr_node_output.specs.Outs.{OutsState}
use Rattle.law_refinement.specs.State.{Link, Slot, WorldState}
use Rattle.law_refinement.specs.Events.{IsServed}
use Rattle.law_refinement.specs.Worlds.{IsWorld}
use Rattle.law_refinement.specs.Carrying.{stepped, begun_slot, restarted_with}
use Rattle.law_files.specs.Worlds.{FilesGoOn}
use Rattle.law_files.proofs.Worlds as files
use Rattle.mr_world.specs.Serving.{StepCall, ServesLink, ServedRow}
use Rattle.mr_world.specs.Following.{FollowCall, Follows, HasLacked}
use Rattle.mr_world.specs.Restarting.{RestartCall}
use Rattle.mr_world.proofs.Filed.{no_file}
use Rattle.mr_world.proofs.Spent.{spends_down}

module _ (w v : WorldState) where
  is_as : (u : WorldState) → v ≡ u → FilesGoOn w u → FilesGoOn w v
  is_as u is f = subst (FilesGoOn w) (sym is) f

  -- ---- at the end of the node that serves a link
  served : (l : ℕ) (given : Given) (fresh : List ℕ) (k : Link) (s : Slot) (b : NodeState) (outs : OutsState) → IsServed w l k s → ServedRow k s.node given fresh b outs → FilesGoOn w (stepped w k.to s l k b outs)
  served l given fresh k s b outs h (ServedRow.client as_client agrees r) = files.client_steps w k.to l k s k.name (unread k.ask) given fresh b outs h.at h.up r
  served l given fresh k s b outs h (ServedRow.within t as_client agrees r) = files.within_steps w k.to l k s k.name t (unread k.ask) given b outs h.at h.up r
  served l given fresh k s b outs h (ServedRow.replica as_replica r) = files.replica_steps w k.to l k s k.name (unread k.ask) b outs h.at h.up r

  serves : (l : ℕ) (given : Given) (fresh : List ℕ) → ServesLink w l given fresh v → FilesGoOn w v
  serves l given fresh (ServesLink.carries t is) = is_as _ is (served l given fresh t.link t.slot t.node t.outs t.served t.row)
  serves l given fresh (ServesLink.fails t takes is) = is_as _ is (files.stops w t.link.to t.slot (stopped_as t.node) refl)
  serves l given fresh (ServesLink.idles t is) = is_as _ is (files.idle_steps w t.link.to t.slot (unread t.link.ask) t.node t.served.at t.served.up t.idles)
  serves l given fresh (ServesLink.spends t is) = is_as _ is (files.stops w t.link.to t.slot t.node (spends_down t.link t.slot.node given t.node t.spends))
  serves l given fresh (ServesLink.rests k at down is) = no_file w v w is refl

  pub step_files : (l : ℕ) (given : Given) (fresh : List ℕ) → StepCall w l given fresh v (Ok tt) → FilesGoOn w v
  step_files l given fresh c = serves l given fresh c.1

  -- ---- at the end of the node that dialled it
  follows : (l : ℕ) → IsWorld w → Follows w l v → FilesGoOn w v
  follows l is (Follows.carries h e) = is_as _ e (files.master_steps w h.number h.who.slot h.who.link h.name h.came h.node h.outs is h.who.by.followed h.row)
  follows l is (Follows.fails h takes e) = is_as _ e (files.stops w h.number h.who.slot (stopped_as h.node) refl)
  follows l is (Follows.waits h) = is_as _ h.carried (files.master_waits w h.number h.who.slot h.who.link h.name h.node is h.who.by.followed h.row)
  follows l is (Follows.spends h) = is_as _ h.is (files.stops w h.number h.who.slot h.node (ap (λ (z : NodeState). z.core.up) h.row.node))
  follows l is (Follows.rests r same) = no_file w v w same refl

  pub follow_files : (l : ℕ) (fresh : List ℕ) → IsWorld w → FollowCall w l fresh v (Ok tt) → FilesGoOn w v
  follow_files l fresh is c = follows l is c.1

  -- .. where memory is lacking what it took of a snapshot may be kept
  pub lacked_files : (l : ℕ) → IsWorld w → HasLacked w l v → FilesGoOn w v
  lacked_files l is h = is_as _ h.carried (files.master_lacks w h.number h.who.slot h.who.link h.name h.node is h.who.by.followed h.row)

  -- ---- a node that begins anew
  pub restart_files : (n : ℕ) (kept id : List ℕ) (port backlog : ℕ) → RestartCall w n kept id port backlog v (Ok tt) → FilesGoOn w v
  restart_files n kept id port backlog c =
      let r = c.1 in let h = r.loaded in
      let held_by = begun_slot (not r.slot.as_master) port backlog id h.held (take h.used kept) in
      is_as _ (r.is ∙ ap (λ (z : Slot). restarted_with w n z id r.anew.file) h.is)
      (files.restarts w n (not r.slot.as_master) port backlog id (take h.used kept) r.anew.file h.held h.loads.made)
