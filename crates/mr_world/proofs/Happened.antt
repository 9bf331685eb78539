-- Each event that was taken is one of histories, or changes nothing that they see.
use Rattle.std.proofs.Common.{◌≡◌, take, ◌∙◌, ◌||◌, ℕ, List, [], Bool, true, false, not, Option, None, Some, Ok, refl, sym, ap, subst, is_some}
use Rattle.std.specs.Prelude.{bytes_eq, slice_get}
use Rattle.mr_data.specs.declared.given.Given.{Given}
use Rattle.mr_repl.specs.ReplId.{zero_id}
use Rattle.law_protocol.specs.History.{Book}
use Rattle.law_protocol.specs.Event as events
use Rattle.law_protocol.specs.Event.Side.{Server, Dialler}
use Rattle.law_protocol.specs.Changing.{Still}
use Rattle.law_minired.specs.Minired.{minired}
use Rattle.mr_node_spec.specs.State.{stopped_as}
use Rattle.law_refinement.specs.State.{BookEntry, Link, Slot, WorldState}
use Rattle.law_refinement.specs.Seeing.{seen}
use Rattle.law_refinement.specs.Books.{entry_of, IsBook}
use Rattle.law_refinement.specs.Carrying.{fed_caller, restarted_with}
use Rattle.law_refinement.specs.Events.{IsEvent, Holds}
use Rattle.law_refinement.proofs.Beginning.{starts, restarts}
use Rattle.law_refinement.proofs.Linking.{opens, open_stops, server_feeds, master_feeds, server_breaks, master_breaks}
use Rattle.law_refinement.proofs.ClientEnds.{commands, client_feeds, client_breaks}
use Rattle.law_refinement.proofs.Times.{ticks, tick_stops}
use Rattle.law_refinement.specs.Runs.{Happens, an_event, nothing_seen}
use Rattle.mr_world_parts.specs.AtNode.{is_spent}
use Rattle.mr_links.specs.declared.side.Side.TheVariants as side
use Rattle.mr_world.specs.Calls.{BreakCall, Breaks, ClientCall, Clients, CommandCall, LeaveCall, StartCall, TakeCall}
use Rattle.mr_world.specs.Linking.{BreaksOff, DeliverCall, Delivers, DropCall}
use Rattle.mr_world.specs.Hearing.{ListenCall, Tells}
use Rattle.mr_world.specs.Stepping.{TickCall, Ticks}
use Rattle.mr_world.specs.Serving.{StepCall}
use Rattle.mr_world.specs.Restarting.{RestartCall}
use Rattle.mr_world.proofs.Connected.{accepted_is_event, connected_is_event, dialled_is_event}
use Rattle.mr_world.specs.Following.{FollowCall}
use Rattle.mr_world.proofs.Happening.{follows_happen}
use Rattle.mr_world.proofs.ServedEvents.{step_is_event}
use Rattle.mr_world.specs.declared.event.Event.{Event}
use Rattle.mr_world.specs.declared.event.Event.TheVariants as event
use Rattle.mr_world.specs.Running.{EventCall, by_opener, is_between_nodes}

-- what isn't spent isn't drawn
pub fresh : (es : List BookEntry) (id : List ℕ) → is_spent es id ≡ false → entry_of es id ≡ None
fresh es id e = go (bytes_eq id zero_id) (entry_of es id) e
  where
    go : (b : Bool) (o : Option BookEntry) → b || is_some o ≡ false → o ≡ None
    go b None q = refl
    go true (Some x) q = absurd (cc)
    go false (Some x) q = absurd (cc)

-- ---- what is an event, and what is none
module _ (w v : WorldState) where
  an : (e : events.Event minired) (u : WorldState) → v ≡ u → ((book : Book minired) → Holds w book → IsEvent w book e u) → Happens w v
  an e u is f = an_event e (λ book holds. subst (λ z. IsEvent w book e z) (sym is) (f book holds))

  pub nothing : v ≡ w → Happens w v
  nothing is = nothing_seen (λ book holds. (
    subst (λ (z : WorldState). IsBook z.book book) (sym is) holds.kept,
    subst (λ (z : WorldState). Still (seen w book) (seen z book)) (sym is) (record { nodes = λ n. refl; links = λ l. refl; book = λ i. refl }),
  ))

  pub started : (id : List ℕ) (as_replica : Bool) (port backlog : ℕ) (done : Unit {0}) → StartCall w id as_replica port backlog v (Ok done) → Happens w v
  started id as_replica port backlog done c = an (events.Event.Start id (not as_replica)) _ c.1 (λ book holds. starts w book as_replica port backlog id [] holds (fresh w.book id c.0))

  pub came : (n : ℕ) (done : Unit {0}) → ClientCall w n v (Ok done) → Happens w v
  came n done (Clients.comes c) = an (events.Event.Client n) _ c.is (λ book holds. opens w book n c.slot c.name c.node holds c.running c.opens)
  came n done (Clients.stops c) = an (events.Event.Client n) _ c.is (λ book holds. open_stops w book n c.slot (stopped_as c.slot.node) holds c.running refl)
  came n done (Clients.rests d is) = nothing is

  pub sent : (l : ℕ) (bytes : List ℕ) (done : Unit {0}) → CommandCall w l bytes v (Ok done) → Happens w v
  sent l bytes done c = an (events.Event.Command l bytes) _ c.is (λ book holds. commands w book l c.link bytes holds c.at)

  pub took : (l count : ℕ) (done : Unit {0}) → TakeCall w l count v (Ok done) → Happens w v
  took l count done c = an (events.Event.Deliver l Dialler count) _ c.is (λ book holds. client_feeds w book l c.link count holds c.at c.sent)

  pub left : (l : ℕ) (done : Unit {0}) → LeaveCall w l v (Ok done) → Happens w v
  left l done c = an (events.Event.Break l Dialler) _ c.is (λ book holds. client_breaks w book l c.link holds c.at)

  pub broke : (l : ℕ) (done : Unit {0}) → BreakCall w l v (Ok done) → Happens w v
  broke l done (Breaks.closes c) = an (events.Event.Break l Server) _ c.is (λ book holds. server_breaks w book l c.link c.slot _ holds c.served refl)
  broke l done (Breaks.idles k at down is) = nothing is

  pub heard : (l count : ℕ) (done : Unit {0}) → DeliverCall w l count v (Ok done) → Happens w v
  heard l count done (Delivers.hears c) = an (events.Event.Deliver l Server count) _ c.is
      (λ book holds. server_feeds w book l c.link c.slot count _ c.node holds c.can.served c.can.sent c.feeds)
  heard l count done (Delivers.rests r is) = nothing is

  pub listened : (l count : ℕ) (done : Unit {0}) → ListenCall w l count v (Ok done) → Happens w v
  listened l count done (Tells.listens c) = an (events.Event.Deliver c.slot.dialled Dialler count) _ (c.is ∙ ap (λ z. fed_caller w c.number c.slot c.node z c.link count) (sym c.told.by.dialled))
      (λ book holds. master_feeds w book c.number c.slot c.link c.name c.reader count _ c.node holds c.told.by.followed c.told.by.follows c.told.sent c.feeds)
  listened l count done (Tells.rests r is) = nothing is

  pub dropped : (l : ℕ) (done : Unit {0}) → DropCall w l v (Ok done) → Happens w v
  dropped l done (BreaksOff.drops c) = an (events.Event.Break c.slot.dialled Dialler) _ c.is (λ book holds. master_breaks w book c.number c.slot c.link c.name c.reader _ holds c.by.followed c.by.follows refl)
  dropped l done (BreaksOff.rests r is) = nothing is

  pub ticked : (n : ℕ) (given : Given) (done : Unit {0}) → TickCall w n given.now v (Ok done) → Happens w v
  ticked n given done (Ticks.carries t is) = an (events.Event.Tick n given) _ is (λ book holds. ticks w book n t.slot given t.node t.outs holds t.running t.row)
  ticked n given done (Ticks.fails t takes is) = an (events.Event.Tick n given) _ is (λ book holds. tick_stops w book n t.slot given (stopped_as t.node) holds t.running refl)
  ticked n given done (Ticks.rests d is) = nothing is

  pub stepped_there : (l : ℕ) (given : Given) (id : List ℕ) (done : Unit {0}) → StepCall w l given id v (Ok done) → Happens w v
  stepped_there l given id done c = an_event (events.Event.Step l Server given id) (λ book holds. step_is_event w book l given id holds v c.0 c.1)

  pub followed_there : (l : ℕ) (given : Given) (id : List ℕ) (done : Unit {0}) → FollowCall w l id v (Ok done) → Happens w v
  followed_there l given id done c = an_event (events.Event.Step l Dialler given id) (λ book holds. follows_happen w book l given id v holds c.1)

  twice_not : (b : Bool) → b ≡ not (not b)
  twice_not true = refl
  twice_not false = refl

  pub restarted : (n : ℕ) (kept id : List ℕ) (port backlog : ℕ) (done : Unit {0}) → RestartCall w n kept id port backlog v (Ok done) → Happens w v
  restarted n kept id port backlog done c =
      let r = c.1 in
      let f = r.loaded in
      let file : r.anew.file ≡ take f.used kept = ap (λ (z : Slot). z.file) f.is in
      an (events.Event.Restart n kept id) _ (r.is ∙ (ap (λ z. restarted_with w n r.anew id z) file ∙ ap (λ z. restarted_with w n z id (take f.used kept)) f.is))
      (λ book holds. restarts w book n r.slot (not r.slot.as_master) port backlog id kept (take f.used kept) (take f.used kept) f.held holds r.at (twice_not r.slot.as_master) (fresh w.book id c.0) (f.used, f.loads) f.loads.made)

  by_end : (b : Bool) (of_node of_client : Type 0) → (of_node → Happens w v) → (of_client → Happens w v) → by_opener b of_node of_client → Happens w v
  by_end true of_node of_client f g c = f c
  by_end false of_node of_client f g c = g c

  pub happened : (e : Event) (done : Unit {0}) → EventCall w e v (Ok done) → Happens w v
  happened (event.Start id config) done c = started id config.replica config.port config.backlog done c
  happened (event.Client n) done c = came n done c
  happened (event.Command l bytes) done c = sent l bytes.items done c
  happened (event.Deliver l side.Server count) done c = heard l count done c
  happened (event.Deliver l side.Opener count) done c = by_end (is_between_nodes (slice_get w.links l)) _ _ (listened l count done) (took l count done) c
  happened (event.Step l side.Server given fresh) done c = stepped_there l given fresh done c
  happened (event.Step l side.Opener given fresh) done c = followed_there l given fresh done c
  happened (event.Tick n given) done c = ticked n given done c
  happened (event.Dial n m) done c = an_event (events.Event.Dial n m) (λ book holds. dialled_is_event w book n m holds v c.0 c.1)
  happened (event.Connect n) done c = an_event (events.Event.Connect n) (λ book holds. connected_is_event w book holds n v c.0 c.1)
  happened (event.Accept l m) done c = an_event (events.Event.Accept l m) (λ book holds. accepted_is_event w book holds l m v c.0 c.1)
  happened (event.Restart n kept id config) done c = restarted n kept.items id config.port config.backlog done c
  happened (event.Break l side.Server) done c = broke l done c
  happened (event.Break l side.Opener) done c = by_end (is_between_nodes (slice_get w.links l)) _ _ (dropped l done) (left l done) c
