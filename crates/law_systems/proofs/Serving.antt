-- A step at an end that the node serves: what it gives out goes to the links as it goes to the loop's connections.
use Rattle.std.proofs.Common.{◌≡◌, ◌≢◌, ◌++◌, inl, inr, ℕ, List, Bool, true, false, Option, None, Some, Ok, append_assoc, refl, sym, ap, subst, ◌∙◌}
use Rattle.std.specs.Prelude.{slice_get}
use Rattle.mr_links.specs.declared.link_id.LinkId.{LinkId}
use Rattle.mr_data.specs.declared.given.Given.{Given}
use Rattle.mr_replication.specs.State.{name_of}
use Rattle.mr_node_links.specs.State.{EndState, streams}
use Rattle.mr_node_links.specs.State.EndState.{client, replica, shut, waiting}
use Rattle.mr_node_links.specs.Replicas.{is_named}
use Rattle.mr_node_output.specs.Outs.{OutsState, outs_of}
use Rattle.mr_node_spec.specs.State.{NodeState, end_of as node_end}
use Rattle.mr_node.specs.Steps.{Steps}
use Rattle.mr_node.specs.declared.step.Step.TheVariants as step
use Rattle.mr_connections.specs.State.{ConnectionState}
use Rattle.mr_loop.specs.Stage.{Stage, connection_at}
use Rattle.mr_loop.specs.Carrying.{Carried}
use Rattle.mr_loop.specs.Causes.{StepsAt}
use Rattle.law_refinement.specs.State.{Link, Slot, WorldState}
use Rattle.law_refinement.specs.Carrying.{behind, fed_if, put_node, reached, settled, shut_if, stepped, told}
use Rattle.law_refinement.proofs.Places.{some_is}
use Rattle.mr_world_parts.specs.Answering.{EndsAs, answered_links}
use Rattle.mr_links.specs.declared.side.Side.{Side}
use Rattle.mr_links.specs.declared.side.Side.TheVariants as side
use Rattle.law_servers.specs.Worlds.{IsServedAs, NoneOpen}
use Rattle.law_systems.specs.System.{Connection, End, IsAt, System, is_taken}
use Rattle.law_systems.specs.Network.{HasEnd, end_of}
use Rattle.law_systems.proofs.Wired.{IsWired}
use Rattle.law_systems.proofs.Mirrors.{IsLive, IsSide, Mirrors}
use Rattle.law_systems.proofs.Pushing.{carried_to, carried_was, fed_part, link_goes, link_stays, link_was, parting}
use Rattle.law_systems.proofs.Parting.{carried_node, closed_behind}
use Rattle.law_systems.proofs.Finding.{IsOpenAt, StandsAt, is_upstream}
use Rattle.law_systems.proofs.Booked.{unspent}
use Rattle.law_systems.proofs.Beside.{Follows}
use Rattle.law_systems.proofs.Told.{IsTold, answered_was, is_settled, reached_closed, reached_here, reaches, shut_open}
use Rattle.law_systems.proofs.Reached.{WasTold, was_told}
use Rattle.law_systems.proofs.Ends.{followed_before, followed_still, none_behind, none_stays, none_streams, other_parts, other_waiting, own_parts, own_stays, own_waiting, same_waiting, upstream_streams}
use Rattle.law_systems.proofs.Answers.{Answers, answers}

-- two names that one link has
one_link : (o : Option LinkId) (x y : LinkId) → o ≡ Some x → o ≡ Some y → x ≡ y
one_link o x y p q = some_is x y (sym p ∙ q)

module _ (x : System) (w : WorldState) (n life : ℕ) (s : Stage) (socket link : LinkId) (given : Given) (fresh : List ℕ) (news : _) (outs : OutsState)
    (wired : IsWired x) (mirrors : Mirrors x w) (at : IsAt x n life s) (unused : is_taken x.ids fresh ≡ false) (called : Stage) (calls : StepsAt socket link given fresh news s called outs)
    (stands : StandsAt w n s) (found : IsOpenAt x w n life s stands.slot socket link side.Server) where
  abbrev a : Slot
  a = stands.slot

  abbrev b : NodeState
  b = called.node

  abbrev c : ℕ
  c = found.number

  abbrev k : Link
  k = found.named.link

  pub it_answers : Answers w n a link c k b outs
  it_answers = answers w n a link c mirrors.world stands.running found.named given fresh b outs (unspent w.book x.ids mirrors.ids fresh unused) calls.stepped.sound
      (subst (λ (z : NodeState). Steps z link given fresh b (Ok (step.Done outs))) (sym stands.node) calls.stepped.row)

  -- ---- and its outs are carried out
  module _ (t : Stage) (carried : Carried (outs_of outs) called t) where
    abbrev new : Slot
    new = record (behind a b outs) { node = t.node }

    abbrev z : WorldState
    z = put_node (stepped w n a c k b outs) n (behind a b outs) t.node

    node_is : t.node ≡ closed_behind outs b
    node_is = carried_node outs called t carried

    -- a connection behind that was there before
    was_held : (q : LinkId) (held : ConnectionState) → connection_at t.own q ≡ Some held → (old : ConnectionState) × (connection_at s.own q ≡ Some old) × (held ≡ carried_to (outs_of outs) old)
    was_held q held there =
        let before = carried_was (outs_of outs) called t carried q held there in
        (before.0, sym (ap (λ (e : Stage). connection_at e.own q) calls.same) ∙ before.1, before.2)

    -- an end of the node that isn't open doesn't come
    stays_none : (q : LinkId) → q ≢ link → NoneOpen a.node q → NoneOpen t.node q
    stays_none q ne none = subst (λ (e : NodeState). NoneOpen e q) (sym node_is) (none_behind outs b q (none_stays a.node link b outs it_answers.behind_it it_answers.settled q ne none))

    -- nobody else is followed
    follows_before : (q : LinkId) → name_of t.node.follow ≡ Some q → name_of a.node.follow ≡ Some q
    follows_before q e = go it_answers.settled.follows (followed_before outs called t carried q e)
      where
        go : Follows a.node b outs.closed → name_of b.follow ≡ Some q → name_of a.node.follow ≡ Some q
        go (Follows.stays same left) h = ap name_of (sym same) ∙ h
        go (Follows.leaves none left) h = let wrong : ◌≡◌ {A = Option LinkId} None (Some q) = sym (ap name_of none) ∙ h in absurd (cc)

    module _ (i : ℕ) (p : Connection) (q : LinkId) (l : Link) (held old : ConnectionState) (at_link : slice_get (answered_links n c k b outs w.links) i ≡ Some l)
        (before : connection_at s.own q ≡ Some old) (now : held ≡ carried_to (outs_of outs) old) where
      -- what of its link is known
      goes : (e : LinkId) → old.link ≡ Some e → parting outs e ≡ true → (d : LinkId) → held.link ≡ Some d → ⊥
      goes e is parted d h =
          let wrong : ◌≡◌ {A = Option LinkId} None (Some d) = sym (link_goes outs old e is parted) ∙ (sym (ap (λ (j : ConnectionState). j.link) now) ∙ h) in cc

      keeps_link : (e : LinkId) → old.link ≡ Some e → parting outs e ≡ false → held.link ≡ Some e
      keeps_link e is stays = ap (λ (d : ConnectionState). d.link) now ∙ link_stays outs old e is stays

      had_link : (e : LinkId) → held.link ≡ Some e → old.link ≡ Some e
      had_link e h = (link_was outs old e (sym (ap (λ (d : ConnectionState). d.link) now) ∙ h)).0

      -- the end by which the node follows, or followed
      module _ (end : HasEnd x.connections i side.Opener p (end_of n life q)) (apart : (e : LinkId) → old.link ≡ Some e → e ≢ link) where
        m : WasTold w.links i l
        m = was_told x w n c k b outs mirrors found.named.at.found found.named.to i l at_link

        was : IsLive w n a i p m.link side.Opener old
        was = mirrors.live i side.Opener p (end_of n life q) m.link s old a end m.found at before stands.running.at

        quiet : IsSide w n a i p m.link side.Opener old → (e : LinkId) → old.link ≡ Some e → (e ≢ link) × (streams (node_end a.node e) ≡ false)
        quiet (IsSide.is_open name named f taken) e is = (
          apart e is,
          upstream_streams a.node e (is_upstream a.node e (mirrors.world.nodes n a stands.running.at stands.running.up).node (f.named ∙ ap Some (one_link old.link name e named is))),
        )
        quiet (IsSide.is_closed closed none) e is = (apart e is, none_streams a.node e (none e is))

        none_now : ((name : LinkId) → old.link ≡ Some name → NoneOpen a.node name) → (name : LinkId) → held.link ≡ Some name → NoneOpen t.node name
        none_now none name h = stays_none name (apart name (had_link name h)) (none name (had_link name h))

        side_now : IsSide w n a i p m.link side.Opener old → IsSide z n new i p l side.Opener held
        side_now (IsSide.is_open name named f taken) = go it_answers.settled.follows
          where
            go : Follows a.node b outs.closed → IsSide z n new i p l side.Opener held
            go (Follows.stays same left) =
                let parted : parting outs name ≡ false = other_parts a.node link b outs it_answers.behind_it it_answers.settled name (apart name named) ∙ left name f.named in
                IsSide.is_open name (keeps_link name named parted)
                (record { named = ap (λ (e : NodeState). name_of e.follow) node_is ∙ followed_still outs b name (ap name_of same ∙ f.named) parted; dialled = f.dialled })
                (λ d e. m.told.heard ∙ taken d e)
            go (Follows.leaves none left) =
                let parted : parting outs name ≡ true = other_parts a.node link b outs it_answers.behind_it it_answers.settled name (apart name named) ∙ left name f.named in
                IsSide.is_closed (λ e g. nobody e (sym (ap name_of none) ∙ followed_before outs called t carried e g.named)) (λ e h. absurd (goes name named parted e h))
              where
                nobody : (e : LinkId) → ◌≡◌ {A = Option LinkId} None (Some e) → ⊥
                nobody e h = cc
        side_now (IsSide.is_closed closed none) = IsSide.is_closed (λ e g. closed e (record { named = follows_before e g.named; dialled = g.dialled })) (none_now none)

        live_opener : IsLive z n new i p l side.Opener held
        live_opener = record {
          sent = m.told.asked ∙ (was.sent
              ∙ ap (λ e. p.asked.written ++ e) (sym (ap (λ (d : ConnectionState). d.waiting) now ∙ same_waiting a.node link b outs it_answers.behind_it it_answers.settled old (quiet was.side))));
          side = side_now was.side;
        }

      -- another end that the node serves, or served
      module _ (end : HasEnd x.connections i side.Server p (end_of n life q)) (apart : (e : LinkId) → old.link ≡ Some e → e ≢ link)
          (m : Link) (there : slice_get w.links i ≡ Some m) (is : l ≡ reached n outs m) where
        was_served : IsLive w n a i p m side.Server old
        was_served = mirrors.live i side.Server p (end_of n life q) m s old a end there at before stands.running.at

        live_open : (name : LinkId) → old.link ≡ Some name → IsServedAs w n name i → ((d : End) → p.dialler ≡ Some d → m.ask.taken ≡ p.asked.read) → IsLive z n new i p l side.Server held
        live_open name named served taken =
            let one : served.link ≡ m = some_is served.link m (sym served.at.found ∙ there) in
            let to : m.to ≡ n = ap (λ (e : Link). e.to) (sym one) ∙ served.to in
            let serving : m.serving ≡ true = ap (λ (e : Link). e.serving) (sym one) ∙ served.at.serving in
            let name_is : m.name ≡ name = ap (λ (e : Link). e.name) (sym one) ∙ served.named in
            let fd = is_named outs.fed name in
            let so : l ≡ shut_if (is_named outs.closed name) (fed_if fd outs.grown m) = is ∙ reached_here n outs m name to serving name_is in
            let by : IsTold m l (fed_part outs name) = subst (λ (e : Link). IsTold m e (fed_part outs name)) (sym so) (reaches (is_named outs.closed name) fd outs.grown m) in
            let waits : held.waiting ≡ old.waiting ++ fed_part outs name =
            ap (λ (d : ConnectionState). d.waiting) now ∙ other_waiting a.node link b outs it_answers.behind_it it_answers.settled old name (apart name named) named in
            let parted : parting outs name ≡ is_named outs.closed name = other_parts a.node link b outs it_answers.behind_it it_answers.settled name (apart name named) in
            record {
              sent = by.said ∙ (ap (λ e. e ++ fed_part outs name) was_served.sent ∙ (append_assoc p.answered.written old.waiting (fed_part outs name) ∙ ap (λ e. p.answered.written ++ e) (sym waits)));
              side = go (is_named outs.closed name) refl so by parted;
            }
          where
            go : (v : Bool) → is_named outs.closed name ≡ v → l ≡ shut_if (is_named outs.closed name) (fed_if (is_named outs.fed name) outs.grown m) → IsTold m l (fed_part outs name)
                → parting outs name ≡ is_named outs.closed name → IsSide z n new i p l side.Server held
            go true e so by parted = IsSide.is_closed (ap (λ (d : Link). d.serving) so ∙ ap (λ v. (shut_if v (fed_if (is_named outs.fed name) outs.grown m)).serving) e)
                (λ d h. absurd (goes name named (parted ∙ e) d h))
            go false e so by parted = IsSide.is_open name (keeps_link name named (parted ∙ e))
                (record {
                  link = l;
                  at = record {
                    found = at_link;
                    serving = ap (λ (d : Link). d.serving) so ∙ (ap (λ v. (shut_if v (fed_if (is_named outs.fed name) outs.grown m)).serving) e
                        ∙ (shut_open (is_named outs.fed name) outs.grown m ∙ (ap (λ (d : Link). d.serving) (sym (some_is served.link m (sym served.at.found ∙ there))) ∙ served.at.serving)));
                  };
                  to = by.to ∙ (ap (λ (d : Link). d.to) (sym (some_is served.link m (sym served.at.found ∙ there))) ∙ served.to);
                  named = by.name ∙ (ap (λ (d : Link). d.name) (sym (some_is served.link m (sym served.at.found ∙ there))) ∙ served.named);
                })
                (λ d h. by.taken ∙ taken d h)

        live_shut : m.serving ≡ false → ((name : LinkId) → old.link ≡ Some name → NoneOpen a.node name) → IsLive z n new i p l side.Server held
        live_shut closed none =
            let same : l ≡ m = is ∙ reached_closed n outs m closed in
            record {
              sent = ap (λ (d : Link). d.tell.sent) same ∙ (was_served.sent ∙ ap (λ e. p.answered.written ++ e)
                  (sym (ap (λ (d : ConnectionState). d.waiting) now
                  ∙ same_waiting a.node link b outs it_answers.behind_it it_answers.settled old (λ e h. (apart e h, none_streams a.node e (none e h))))));
              side = IsSide.is_closed (ap (λ (d : Link). d.serving) same ∙ closed) (λ name h. stays_none name (apart name (had_link name h)) (none name (had_link name h)));
            }

        live_other : IsLive z n new i p l side.Server held
        live_other = elim was_served.side [
          | IsSide.is_open name named served taken ↦ live_open name named served taken
          | IsSide.is_closed closed none ↦ live_shut closed none
        ]

      -- the end at which the step was made
      module _ (here : i ≡ c) (end : HasEnd x.connections i side.Server p (end_of n life q)) where
        same_connection : p ≡ found.connection
        same_connection = some_is p found.connection (sym end.found ∙ (ap (slice_get x.connections) here ∙ found.end.found))

        same_socket : q ≡ socket
        same_socket = ap (λ (e : End). e.socket) (some_is (end_of n life q) (end_of n life socket) (sym end.has ∙ (ap (λ (e : Connection). e.acceptor) same_connection ∙ found.end.has)))

        had_it : old.link ≡ Some link
        had_it = ap (λ (d : ConnectionState). d.link) (some_is old found.held (sym before ∙ (ap (connection_at s.own) same_socket ∙ found.there))) ∙ found.linked

        was_here : IsLive w n a i p k side.Server old
        was_here = mirrors.live i side.Server p (end_of n life q) k s old a end (ap (slice_get w.links) here ∙ found.named.at.found) at before stands.running.at

        was_taken : IsSide w n a i p k side.Server old → (d : End) → p.dialler ≡ Some d → k.ask.taken ≡ p.asked.read
        was_taken (IsSide.is_open name named served taken) = taken
        was_taken (IsSide.is_closed closed none) = absurd (let wrong : true ≡ false = sym found.named.at.serving ∙ closed in cc)

        module _ (is : l ≡ settled (node_end b k.name) (told outs.reply k)) where
          by : IsTold k l outs.reply
          by = subst (λ (d : Link). IsTold k d outs.reply) (sym is) (is_settled (node_end b k.name) outs.reply k)

          serves_as : (o : Option EndState) → node_end b link ≡ o → l.serving ≡ (settled o (told outs.reply k)).serving
          serves_as o e = ap (λ (d : Link). d.serving) is ∙ ap (λ d. (settled d (told outs.reply k)).serving) (ap (node_end b) found.named.named ∙ e)

          stays_open : outs.closes ≡ false → l.serving ≡ k.serving → IsSide z n new i p l side.Server held
          stays_open closes serving = IsSide.is_open link (keeps_link link had_it (own_stays a.node link b outs it_answers.behind_it it_answers.settled closes))
              (record { link = l; at = record { found = at_link; serving = serving ∙ found.named.at.serving }; to = by.to ∙ found.named.to; named = by.name ∙ found.named.named })
              (λ d h. by.taken ∙ was_taken was_here.side d h)

          live_own : IsLive z n new i p l side.Server held
          live_own = record {
            sent = by.said ∙ (ap (λ e. e ++ outs.reply) was_here.sent ∙ (append_assoc p.answered.written old.waiting outs.reply
                ∙ ap (λ e. p.answered.written ++ e) (sym (ap (λ (d : ConnectionState). d.waiting) now ∙ own_waiting a.node link b outs it_answers.behind_it it_answers.settled old had_it))));
            side = elim it_answers.behind_it.end [
              | EndsAs.closed closes e ↦ IsSide.is_closed (serves_as (Some shut) e)
                  (λ d h. absurd (goes link had_it (own_parts a.node link b outs it_answers.behind_it it_answers.settled closes) d h))
              | EndsAs.asks closes u e ↦ stays_open closes (serves_as (Some (client u)) e)
              | EndsAs.waits closes t u e ↦ stays_open closes (serves_as (Some (waiting t u)) e)
              | EndsAs.streams closes u e ↦ stays_open closes (serves_as (Some (replica u)) e)
            ];
          }

    -- ---- each of the loop's connections
    -- two ends of one socket are one
    other_link : (i : ℕ) (g : Side) (p : Connection) (q e : LinkId) (old : ConnectionState) → HasEnd x.connections i g p (end_of n life q) → connection_at s.own q ≡ Some old → old.link ≡ Some e
        → ((i ≡ c) × (g ≡ side.Server) → ⊥) → e ≢ link
    other_link i g p q e old end before is apart same =
        let one : q ≡ socket = (wired.kept n life s at).apart.apart q socket old found.held link before found.there (is ∙ ap (λ d. Some d) same) found.linked in
        let both = wired.apart i c g side.Server p found.connection (end_of n life socket) (record { found = end.found; has = end.has ∙ ap (λ d. Some (end_of n life d)) one }) found.end in
        apart (both.0, both.1)

    pub live_now : (i : ℕ) (g : Side) (p : Connection) (q : LinkId) (l : Link) (held : ConnectionState) → HasEnd x.connections i g p (end_of n life q)
        → slice_get (answered_links n c k b outs w.links) i ≡ Some l → connection_at t.own q ≡ Some held → IsLive z n new i p l g held
    live_now i side.Opener p q l held end at_link there =
        let old = was_held q held there in
        live_opener i p q l held old.0 at_link old.1 old.2 end (λ e is. other_link i side.Opener p q e old.0 end old.1 is (λ h. not_opener h.1))
      where
        not_opener : side.Opener ≡ side.Server → ⊥
        not_opener e = cc
    live_now i side.Server p q l held end at_link there =
        let old = was_held q held there in
        elim (answered_was w.links n outs c (settled (node_end b k.name) (told outs.reply k)) i l at_link) [
          | inl here ↦ live_own i p q l held old.0 at_link old.1 old.2 here.0 end here.1
          | inr far ↦ live_other i p q l held old.0 at_link old.1 old.2 end (λ e is. other_link i side.Server p q e old.0 end old.1 is (λ h. far.0 h.0)) far.1.0 far.1.1 far.1.2
        ]
