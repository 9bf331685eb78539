-- What each event of a World that was taken does to the files of its nodes.
use Rattle.std.proofs.Common.{◌≡◌, ℕ, ℤ, List, [], Bool, Ok, refl, sym, subst}
use Rattle.std.specs.FinMap.{empty}
use Rattle.mr_node_spec.specs.State.{stopped_as}
use Rattle.law_refinement.specs.State.{WorldState}
use Rattle.law_files.specs.Worlds.{FilesGoOn}
use Rattle.law_files.proofs.Worlds as files
use Rattle.mr_world.specs.Calls.{StartCall, ClientCall, Clients, CommandCall, TakeCall, LeaveCall, BreakCall, Breaks}
use Rattle.mr_world.specs.Linking.{BreaksOff, DeliverCall, Delivers, DropCall}
use Rattle.mr_world.specs.Hearing.{ListenCall, Tells}
use Rattle.mr_world.specs.Stepping.{TickCall, Ticks}

module _ (w v : WorldState) where
  -- The World is this.
  pub is_as : (u : WorldState) → v ≡ u → FilesGoOn w u → FilesGoOn w v
  is_as u is f = subst (FilesGoOn w) (sym is) f

  -- no node and no file changes
  pub no_file : (u : WorldState) → v ≡ u → u.slots ≡ w.slots → FilesGoOn w v
  no_file u is same = is_as u is (files.others w u same)

  pub start_files : (id : List ℕ) (as_replica : Bool) (port backlog : ℕ) → StartCall w id as_replica port backlog v (Ok tt) → FilesGoOn w v
  start_files id as_replica port backlog c = is_as _ c.1 (files.starts w as_replica port backlog id [] empty files.empty_makes)

  pub client_files : (n : ℕ) → ClientCall w n v (Ok tt) → FilesGoOn w v
  client_files n (Clients.comes c) = is_as _ c.is (files.opens w n c.slot c.name c.node c.running.at c.running.up c.opens)
  client_files n (Clients.stops c) = is_as _ c.is (files.stops w n c.slot (stopped_as c.slot.node) refl)
  client_files n (Clients.rests d is) = no_file w is refl

  pub command_files : (l : ℕ) (bytes : List ℕ) → CommandCall w l bytes v (Ok tt) → FilesGoOn w v
  command_files l bytes c = no_file _ c.is refl

  pub take_files : (l count : ℕ) → TakeCall w l count v (Ok tt) → FilesGoOn w v
  take_files l count c = no_file _ c.is refl

  pub leave_files : (l : ℕ) → LeaveCall w l v (Ok tt) → FilesGoOn w v
  leave_files l c = no_file _ c.is refl

  pub break_files : (l : ℕ) → BreakCall w l v (Ok tt) → FilesGoOn w v
  break_files l (Breaks.closes c) = is_as _ c.is (files.breaks w c.link.to l c.link c.slot c.link.name c.served.at c.served.up).0
  break_files l (Breaks.idles k at down is) = no_file w is refl

  pub deliver_files : (l count : ℕ) → DeliverCall w l count v (Ok tt) → FilesGoOn w v
  deliver_files l count (Delivers.hears c) = is_as _ c.is (files.feeds w c.link.to l c.link c.slot c.link.name count _ c.node c.can.served.at c.can.served.up c.feeds).0
  deliver_files l count (Delivers.rests r is) = no_file w is refl

  pub listen_files : (l count : ℕ) → ListenCall w l count v (Ok tt) → FilesGoOn w v
  listen_files l count (Tells.listens c) = is_as _ c.is (files.feeds w c.number l c.link c.slot c.name count _ c.node c.told.by.followed.at c.told.by.followed.up c.feeds).1
  listen_files l count (Tells.rests r is) = no_file w is refl

  pub drop_files : (l : ℕ) → DropCall w l v (Ok tt) → FilesGoOn w v
  drop_files l (BreaksOff.drops c) = is_as _ c.is (files.breaks w c.number l c.link c.slot c.name c.by.followed.at c.by.followed.up).1
  drop_files l (BreaksOff.rests r is) = no_file w is refl

  pub tick_files : (n : ℕ) (now : ℤ) → TickCall w n now v (Ok tt) → FilesGoOn w v
  tick_files n now (Ticks.carries t is) = is_as _ is (files.ticks w n t.slot now t.node t.outs t.running.at t.running.up t.row)
  tick_files n now (Ticks.fails t takes is) = is_as _ is (files.stops w n t.slot (stopped_as t.node) refl)
  tick_files n now (Ticks.rests d is) = no_file w is refl
