-- What a dial does to the files of nodes, at once or in two events: nothing.
use Rattle.std.proofs.Common.{ℕ, Ok, refl}
use Rattle.mr_node_spec.specs.State.{stopped_as}
use Rattle.law_refinement.specs.State.{WorldState}
use Rattle.law_files.specs.Worlds.{FilesGoOn}
use Rattle.law_files.proofs.Worlds as files
use Rattle.mr_world.specs.Accepting.{AcceptCall, Accepted, ConnectCall, Connected}
use Rattle.mr_world.specs.Connecting.{DialCall, Dialled}
use Rattle.mr_world.proofs.Filed.{is_as, no_file}

module _ (w : WorldState) where
  pub dial_files : (n m : ℕ) (v : WorldState) → DialCall w n m v (Ok tt) → FilesGoOn w v
  dial_files n m v c = go c.1
    where
      go : Dialled w n m v → FilesGoOn w v
      go (Dialled.connects d) = is_as w v _ d.is (files.dials w n m d.dialler d.server d.name d.at d.node d.served d.outs d.running.at d.running.up d.opens d.found d.up d.dials)
      go (Dialled.server_stops b d) = is_as w v _ d.is (files.stops w m d.slot (stopped_as d.slot.node) refl)
      go (Dialled.dialler_stops b d) = is_as w v _ d.is (files.stops w n d.dialler (stopped_as d.dialler.node) refl)
      go (Dialled.dialler_rests d e) = no_file w v w e refl
      go (Dialled.server_rests d e) = no_file w v w e refl

  pub connect_files : (n : ℕ) (v : WorldState) → ConnectCall w n v (Ok tt) → FilesGoOn w v
  connect_files n v c = go c.1
    where
      go : Connected w n v → FilesGoOn w v
      go (Connected.opens d) = is_as w v _ d.is (files.connects w n d.slot d.name d.node d.outs d.running.at d.running.up d.dials)
      go (Connected.stops d) = is_as w v _ d.is (files.stops w n d.slot (stopped_as d.slot.node) refl)
      go (Connected.rests d e) = no_file w v w e refl

  pub accept_files : (l m : ℕ) (v : WorldState) → AcceptCall w l m v (Ok tt) → FilesGoOn w v
  accept_files l m v c = go c.1
    where
      go : Accepted w l m v → FilesGoOn w v
      go (Accepted.accepts d) = is_as w v _ d.is (files.accepts w l m d.link d.slot d.at d.node d.running.at d.running.up d.opens)
      go (Accepted.stops d) = is_as w v _ d.is (files.stops w m d.slot (stopped_as d.slot.node) refl)
      go (Accepted.rests d e) = no_file w v w e refl
