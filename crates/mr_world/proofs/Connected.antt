-- A node that dials another is an event of histories, and so are a replica that opens its end and a node that accepts.
use Rattle.std.proofs.Common.{◌≡◌, ℕ, Bool, false, true, cond, Option, None, Some, refl, sym, ap, subst, ◌∙◌}
use Rattle.std.specs.Option.{option_map}
use Rattle.law_protocol.specs.History.{Book}
use Rattle.law_protocol.specs.Event as events
use Rattle.law_protocol.specs.Changing.{Stops}
use Rattle.law_protocol.specs.Changing.Unless.{acts, stopped}
use Rattle.law_protocol.specs.Rows as rows
use Rattle.law_minired.specs.Minired.{minired}
use Rattle.mr_node_spec.specs.State.{stopped_as}
use Rattle.law_refinement.specs.State.{Slot, WorldState}
use Rattle.law_refinement.specs.Seeing.{seen, seen_follow, seen_link, seen_node}
use Rattle.law_refinement.specs.Carrying.{put_node}
use Rattle.law_refinement.specs.Events.{Holds, IsEvent}
use Rattle.law_refinement.proofs.Accepting.{accepts, accept_stops, connects, connect_stops}
use Rattle.law_refinement.proofs.Linking.{dials}
use Rattle.law_refinement.proofs.Places.{some_is}
use Rattle.law_refinement.proofs.Stopping.{node_stops}
use Rattle.mr_world.specs.Calls.{IsDown, StopsForLinks}
use Rattle.mr_world.specs.Accepting.{Accepted, CanAccept, CanConnect, Connected}
use Rattle.mr_world.specs.Connecting.{BothRun, CanDial, Dialled, DiallerStops}

module _ (w : WorldState) (book : Book minired) (n m : ℕ) (holds : Holds w book) where
  abbrev Happens : WorldState → Type 0
  Happens z = IsEvent w book (events.Event.Dial n m) z

  -- neither stopped
  server_stops : (b : BothRun w n m) (v : WorldState) → StopsForLinks w m v → Happens v
  server_stops b v d = subst Happens (sym d.is) (record {
    new_book = book;
    kept = holds.kept;
    row = record {
      node = seen_node b.can.dialler;
      found = ap (option_map seen_node) b.can.at;
      replica = b.can.replica;
      waiting = ap (seen_follow b.can.dialler.dialled) b.can.alone;
      server = seen_node d.slot;
      server_found = ap (option_map seen_node) d.running.at;
      does = acts b.dialler_up (acts d.running.up (rows.Dials.server_stops (node_stops w holds.world book m d.slot (stopped_as d.slot.node) d.running.at refl)));
    };
  })

  dialler_stops : (b : BothRun w n m) (v : WorldState) → DiallerStops w n m v → Happens v
  dialler_stops b v d =
      let same : d.dialler ≡ b.can.dialler = some_is d.dialler b.can.dialler (sym d.dialling.at ∙ b.can.at) in
      subst Happens (sym d.is) (record {
        new_book = book;
        kept = holds.kept;
        row = record {
          node = seen_node b.can.dialler;
          found = ap (option_map seen_node) b.can.at;
          replica = b.can.replica;
          waiting = ap (seen_follow b.can.dialler.dialled) b.can.alone;
          server = seen_node b.can.server;
          server_found = ap (option_map seen_node) b.can.found;
          does = acts b.dialler_up (acts b.server_up (rows.Dials.stops (subst (λ (z : Slot). Stops (seen w book) (seen (put_node w n d.dialler (stopped_as d.dialler.node)) book) n (seen_node z)) same
              (node_stops w holds.world book n d.dialler (stopped_as d.dialler.node) d.dialling.at refl))));
        };
      })

  -- either stopped
  dialler_rests : (c : CanDial w n m) → IsDown w n → Happens w
  dialler_rests c d = record {
    new_book = book;
    kept = holds.kept;
    row = record {
      node = seen_node c.dialler;
      found = ap (option_map seen_node) c.at;
      replica = c.replica;
      waiting = ap (seen_follow c.dialler.dialled) c.alone;
      server = seen_node c.server;
      server_found = ap (option_map seen_node) c.found;
      does = stopped (ap (λ (z : Slot). z.node.core.up) (some_is c.dialler d.slot (sym c.at ∙ d.at)) ∙ d.down) (record { nodes = λ j. refl; links = λ l. refl; book = λ i. refl });
    };
  }

  -- the node that dials may be stopped too
  server_rests : (c : CanDial w n m) → c.dialler.node.core.up ≡ true → IsDown w m → Happens w
  server_rests c up d = record {
    new_book = book;
    kept = holds.kept;
    row = record {
      node = seen_node c.dialler;
      found = ap (option_map seen_node) c.at;
      replica = c.replica;
      waiting = ap (seen_follow c.dialler.dialled) c.alone;
      server = seen_node c.server;
      server_found = ap (option_map seen_node) c.found;
      does = acts up (stopped (ap (λ (z : Slot). z.node.core.up) (some_is c.server d.slot (sym c.found ∙ d.at)) ∙ d.down) (record { nodes = λ j. refl; links = λ l. refl; book = λ i. refl }));
    };
  }

  pub dialled_is_event : (v : WorldState) → CanDial w n m → Dialled w n m v → Happens v
  dialled_is_event v c (Dialled.connects d) = subst Happens (sym d.is) (dials w book n m d.dialler d.server d.name d.at d.node d.served d.outs holds d.running d.opens d.found d.up d.dials)
  dialled_is_event v c (Dialled.server_stops b d) = server_stops b v d
  dialled_is_event v c (Dialled.dialler_stops b d) = dialler_stops b v d
  dialled_is_event v c (Dialled.dialler_rests d e) = subst Happens (sym e) (dialler_rests c d)
  dialled_is_event v c (Dialled.server_rests d e) = subst Happens (sym e) (either c.dialler.node.core.up refl)
    where
      either : (u : Bool) → c.dialler.node.core.up ≡ u → Happens w
      either true up = server_rests c up d
      either false down = dialler_rests c (record { slot = c.dialler; at = c.at; down = down })

-- ---- its two parts
module _ (w : WorldState) (book : Book minired) (holds : Holds w book) where
  connect_rests : (n : ℕ) → CanConnect w n → IsDown w n → IsEvent w book (events.Event.Connect n) w
  connect_rests n c d = record {
    new_book = book;
    kept = holds.kept;
    row = record {
      node = seen_node c.dialler;
      found = ap (option_map seen_node) c.at;
      replica = c.replica;
      waiting = ap (seen_follow c.dialler.dialled) c.alone;
      does = stopped (ap (λ (z : Slot). z.node.core.up) (some_is c.dialler d.slot (sym c.at ∙ d.at)) ∙ d.down) (record { nodes = λ j. refl; links = λ l. refl; book = λ i. refl });
    };
  }

  connect_ends : (n : ℕ) (v : WorldState) → CanConnect w n → StopsForLinks w n v → IsEvent w book (events.Event.Connect n) v
  connect_ends n v c d =
      let same : c.dialler ≡ d.slot = some_is c.dialler d.slot (sym c.at ∙ d.running.at) in
      subst (λ z. IsEvent w book (events.Event.Connect n) z) (sym d.is) (connect_stops w book n d.slot (stopped_as d.slot.node) holds d.running
      (ap (λ (z : Slot). z.node.core.master) (sym same) ∙ c.replica) (ap (λ (z : Slot). z.node.follow) (sym same) ∙ c.alone) refl)

  pub connected_is_event : (n : ℕ) (v : WorldState) → CanConnect w n → Connected w n v → IsEvent w book (events.Event.Connect n) v
  connected_is_event n v c (Connected.opens d) = subst (λ z. IsEvent w book (events.Event.Connect n) z) (sym d.is) (connects w book n d.slot d.name d.node d.outs holds d.running d.dials)
  connected_is_event n v c (Connected.stops d) = connect_ends n v c d
  connected_is_event n v c (Connected.rests d e) = subst (λ z. IsEvent w book (events.Event.Connect n) z) (sym e) (connect_rests n c d)

  accept_rests : (l m : ℕ) → CanAccept w l m → IsDown w m → IsEvent w book (events.Event.Accept l m) w
  accept_rests l m c d = record {
    new_book = book;
    kept = holds.kept;
    row = record {
      link = seen_link w.slots c.link;
      found = ap (option_map (seen_link w.slots)) c.waiting.found;
      waiting = ap (λ b. cond {A = Option ℕ} b None (Some c.link.to)) c.waiting.waits;
      node = seen_node c.server;
      node_found = ap (option_map seen_node) c.at;
      does = stopped (ap (λ (z : Slot). z.node.core.up) (some_is c.server d.slot (sym c.at ∙ d.at)) ∙ d.down) (record { nodes = λ j. refl; links = λ j. refl; book = λ i. refl });
    };
  }

  pub accepted_is_event : (l m : ℕ) (v : WorldState) → CanAccept w l m → Accepted w l m v → IsEvent w book (events.Event.Accept l m) v
  accepted_is_event l m v c (Accepted.accepts d) = subst (λ z. IsEvent w book (events.Event.Accept l m) z) (sym d.is) (accepts w book l m d.link d.slot d.at d.node holds d.waiting d.running d.opens)
  accepted_is_event l m v c (Accepted.stops d) =
      subst (λ z. IsEvent w book (events.Event.Accept l m) z) (sym d.is) (accept_stops w book l m c.link d.slot (stopped_as d.slot.node) holds c.waiting d.running refl)
  accepted_is_event l m v c (Accepted.rests d e) = subst (λ z. IsEvent w book (events.Event.Accept l m) z) (sym e) (accept_rests l m c d)
