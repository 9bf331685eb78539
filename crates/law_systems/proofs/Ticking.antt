-- Time passes at a server's node: a master's feeds its replicas, and a replica's tells its master how far it is, or nothing.
use Rattle.std.proofs.Common.{◌≡◌, ◌⊎◌, inl, inr, ◌++◌, ℕ, ℤ, [], ◌∷◌, Bool, false, Option, None, Some, map, refl, sym, ap, subst, ◌∙◌}
use Rattle.std.specs.Prelude.{slice_set}
use Rattle.mr_links.specs.declared.link_id.LinkId.{LinkId}
use Rattle.mr_data.specs.declared.given.Given.{Given}
use Rattle.mr_effect.specs.Spelling.{texts}
use Rattle.mr_follower.specs.State.{FollowState}
use Rattle.mr_node_output.specs.Outs.{OutsState, no_outs, outs_of}
use Rattle.mr_node_spec.specs.State.{NodeState}
use Rattle.mr_node_spec.specs.TimeRows.{Deletes, Rests, TickRow, acknowledges as told_on, apart, deletes, marks, rests, waits}
use Rattle.mr_file.specs.declared.sync_mode.SyncMode.{SyncMode}
use Rattle.mr_loop.specs.Stage.{Stage}
use Rattle.mr_loop.specs.Carrying.{Carried}
use Rattle.mr_loop.specs.Causes.{TicksAt, at_tick}
use Rattle.mr_loop.specs.Rows.{Happens as HappensAt, acts, spills, tears}
use Rattle.mr_loop.specs.Giving.{listed}
use Rattle.law_refinement.specs.State.{Slot, WorldState}
use Rattle.law_refinement.specs.Worlds.{IsWorld}
use Rattle.law_refinement.specs.Carrying.{behind, reached, said_on, ticked}
use Rattle.law_refinement.proofs.Places.{set_here}
use Rattle.law_refinement.specs.Runs.{Happens}
use Rattle.mr_world.specs.Stepping.{Ticks}
use Rattle.mr_world.specs.declared.event.Event.TheVariants as event
use Rattle.law_servers.specs.Calling.{tick}
use Rattle.law_servers.specs.Worlds.{Becomes, CallsInWorld}
use Rattle.law_servers.proofs.Moving.{servers_keep_worlds}
use Rattle.law_systems.specs.System.{Doing, IsAt, System, gives_up, runs}
use Rattle.law_systems.proofs.Wired.{IsWired}
use Rattle.law_systems.proofs.Mirrors.{IsTurn, Leads, Mirrors}
use Rattle.law_systems.proofs.Parting.{carried_node, none_parted}
use Rattle.law_systems.proofs.Finding.{StandsAt, stands_at}
use Rattle.law_systems.proofs.Beside.{feeds_none, feeds_to}
use Rattle.law_systems.proofs.Saying.{SaysAt, no_run}
use Rattle.law_systems.proofs.Beating.{Feeds, beats}
use Rattle.law_systems.proofs.Acknowledging.{acknowledges, says_links}
use Rattle.law_systems.proofs.Parting.{spilled_core, torn_core}

-- ---- what a tick gives out
-- Nothing is said to a master; or it is the one whom the node follows, and no replica is fed.
data Says (a : NodeState) (outs : OutsState) : Type 0 where
  nothing : outs.link ≡ None → Says a outs
  to_master : (link : LinkId) (reader : FollowState) → a.follow ≡ Some (link, reader) → outs.link ≡ Some link → outs.fed ≡ [] → Says a outs

-- what goes to replicas, and no more
fed_only : (a b : NodeState) (now : ℤ) (outs : OutsState) → Deletes a now b outs → Feeds a b outs
fed_only a b now outs d = record {
  fed = feeds_to (texts d.effects) a outs.fed d.fed;
  stays = ap (λ (z : OutsState). z.closes) d.outs_are;
  closed = ap (λ (z : OutsState). z.closed) d.outs_are;
  used = ap (λ (z : OutsState). z.used) d.outs_are;
  ends = d.ends;
  follow = d.follow;
}

none_fed : (a b : NodeState) (mark : Option ℤ) (outs : OutsState) → b ≡ record a { core = record a.core { mark = mark } } → outs.fed ≡ [] → outs.closes ≡ false → outs.closed ≡ [] → outs.used ≡ None → Feeds a b outs
none_fed a b mark outs is fed stays closed used = record {
  fed = feeds_none a outs.fed fed;
  stays = stays;
  closed = closed;
  used = used;
  ends = ap (λ (z : NodeState). z.ends) is;
  follow = ap (λ (z : NodeState). z.follow) is;
}

silent : (a b : NodeState) (mark : Option ℤ) (outs : OutsState) → b ≡ record a { core = record a.core { mark = mark } } → outs ≡ no_outs → Feeds a b outs × Says a outs
silent a b mark outs is e = (
  none_fed a b mark outs is (ap (λ (z : OutsState). z.fed) e) (ap (λ (z : OutsState). z.closes) e) (ap (λ (z : OutsState). z.closed) e) (ap (λ (z : OutsState). z.used) e),
  Says.nothing (ap (λ (z : OutsState). z.link) e),
)

rested : (a b : NodeState) (now : ℤ) (mark : Option ℤ) (outs : OutsState) → b ≡ record a { core = record a.core { mark = mark } } → Rests a now mark outs → Feeds a b outs × Says a outs
rested a b now mark outs is (marks none same e) = silent a b mark outs is e
rested a b now mark outs is (waits none same e) = silent a b mark outs is e
rested a b now mark outs is (apart none passed same e) = silent a b mark outs is e
rested a b now mark outs is (told_on l streaming passed same e) = (
  none_fed a b mark outs is (ap (λ (z : OutsState). z.fed) e) (ap (λ (z : OutsState). z.closes) e) (ap (λ (z : OutsState). z.closed) e) (ap (λ (z : OutsState). z.used) e),
  Says.to_master l streaming.reader streaming.found (ap (λ (z : OutsState). z.link) e) (ap (λ (z : OutsState). z.fed) e),
)

gives : (a b : NodeState) (now : ℤ) (outs : OutsState) → TickRow a now b outs → Feeds a b outs × Says a outs
gives a b now outs (deletes up d) = (fed_only a b now outs d, Says.nothing (ap (λ (z : OutsState). z.link) d.outs_are))
gives a b now outs (rests up replica mark r is) = rested a b now mark outs is r

module _ (x : System) (w : WorldState) (n life : ℕ) (s : Stage) (wired : IsWired x) (mirrors : Mirrors x w) (at : IsAt x n life s) (given : Given) (outs : OutsState) (m : Stage) (c : TicksAt given s m outs) where
  stands : StandsAt w n s
  stands = stands_at x w n life s wired mirrors at

  abbrev slot : Slot
  slot = stands.slot

  row : TickRow slot.node given.now m.node outs
  row = subst (λ (z : NodeState). TickRow z given.now m.node outs) (sym stands.node) c.row

  given_out : Feeds slot.node m.node outs × Says slot.node outs
  given_out = gives slot.node m.node given.now outs row

  -- ---- the World
  abbrev v : WorldState
  v = ticked w n slot m.node outs

  abbrev after : Slot
  after = behind slot m.node outs

  serves : CallsInWorld w v
  serves = record {
    number = n;
    slot = slot;
    running = stands.running;
    call = tick given outs;
    node = m.node;
    sound = c.sound;
    is = row;
    becomes = Becomes.by_event (event.Tick n given) refl
        (Ticks.carries (record { slot = slot; running = stands.running; node = m.node; outs = outs; row = row; sound = c.sound }) refl)
        (record { slot = after; there = set_here w.slots n after slot stands.running.at; is = refl });
  }

  kept : Happens w v × IsWorld v
  kept = servers_keep_worlds w v mirrors.world (inl serves)

  own : m.own ≡ s.own
  own = ap (λ (z : Stage). z.own) c.same

  says_at : (link : LinkId) → outs.link ≡ Some link → outs.fed ≡ [] → SaysAt outs link
  says_at link is fed = record { link = is; fed = fed; closed = given_out.0.closed; used = given_out.0.used }

  -- ---- beside it
  leads : (y : System) (doing : Doing) (t : Stage) → (doing ≡ runs t) ⊎ (doing ≡ gives_up t) → y.servers ≡ slice_set x.servers n (record { life = life; doing = doing })
      → y.connections ≡ x.connections → y.ids ≡ listed outs.used ++ x.ids
      → (doing ≡ runs t → m.node ≡ t.node) → m.node.core ≡ t.node.core → (doing ≡ runs t → Carried (outs_of outs) m t) → Leads w y
  leads y doing t does servers connections ids node core carried = record { worlds = v ∷ []; run = (kept.0, kept.1, tt); mirrors = beside given_out.1 }
    where
      beside : Says slot.node outs → Mirrors y v
      beside (Says.nothing none) = beats x w n life s mirrors at stands outs none m own given_out.0 v after kept.1 refl
          (ap (λ o. said_on o slot.dialled outs.reply (map (reached n outs) w.links)) none) refl refl refl refl y doing t does carried servers connections ids node core
      beside (Says.to_master link reader follow is fed) =
          let master = mirrors.world.followers n slot link reader stands.running.at stands.running.up follow in
          acknowledges x w n life s mirrors at stands outs link reader follow (says_at link is fed) given_out.0.stays m own given_out.0 v after kept.1 refl
          (says_links n outs link slot.dialled w.links master.link is fed given_out.0.closed master.found) refl refl refl refl y doing t does carried servers connections ids node core

  behind_it : (t : Stage) → Carried (outs_of outs) m t → m.node ≡ t.node
  behind_it t carried = sym (carried_node outs m t carried ∙ none_parted outs m.node given_out.0.stays given_out.0.closed)

-- ---- the events
module _ (x y : System) (w : WorldState) (n life : ℕ) (s t : Stage) (tells : Bool) (mode : SyncMode) (given : Given) (outs : OutsState) (wired : IsWired x) (mirrors : Mirrors x w) where
  pub tick_acts : IsTurn x n life s (acts (at_tick given) outs) t y → HappensAt tells mode s (acts (at_tick given) outs) t → Leads w y
  tick_acts turn h =
      let node = behind_it x w n life s wired mirrors turn.at given outs h.called h.calls t h.carried in
      leads x w n life s wired mirrors turn.at given outs h.called h.calls y (runs t) t (inl refl) (ap (λ (z : System). z.servers) turn.is)
      (ap (λ (z : System). z.connections) turn.is ∙ turn.goes) (ap (λ (z : System). z.ids) turn.is) (λ r. node) (ap (λ (z : NodeState). z.core) node) (λ r. h.carried)

  pub tick_spills : IsTurn x n life s (spills (at_tick given) outs) t y → HappensAt tells mode s (spills (at_tick given) outs) t → Leads w y
  tick_spills turn h = leads x w n life s wired mirrors turn.at given outs h.called h.calls y (gives_up t) t (inr refl) (ap (λ (z : System). z.servers) turn.is)
      (ap (λ (z : System). z.connections) turn.is ∙ turn.goes) (ap (λ (z : System). z.ids) turn.is) (λ r. no_run t _ r) (sym (spilled_core (outs_of outs) h.called t h.spilled)) (λ r. no_run t _ r)

  pub tick_tears : IsTurn x n life s (tears (at_tick given) outs) t y → HappensAt tells mode s (tears (at_tick given) outs) t → Leads w y
  tick_tears turn h = leads x w n life s wired mirrors turn.at given outs h.called h.calls y (gives_up t) t (inr refl) (ap (λ (z : System). z.servers) turn.is)
      (ap (λ (z : System). z.connections) turn.is ∙ turn.goes) (ap (λ (z : System). z.ids) turn.is) (λ r. no_run t _ r) (sym (torn_core (outs_of outs) h.called t h.torn)) (λ r. no_run t _ r)
