-- Beside a server at whose node time passed: what its stream grew by waits on its replicas' connections, as it was said on their links; and all else is what it was.
use Rattle.std.proofs.Common.{◌≡◌, ◌≢◌, ◌⊎◌, ◌++◌, ℕ, [], false, Option, None, Some, length, map, append-nil, append_assoc, if◌then◌else◌, refl, sym, ap, subst, ◌∙◌}
use Rattle.std.specs.Prelude.{slice_get, slice_set}
use Rattle.std.specs.FinMap.{get}
use Rattle.std.proofs.lemmas.List.{length-map}
use Rattle.mr_links.specs.Links.{Links}
use Rattle.mr_links.specs.declared.link_id.LinkId.{LinkId}
use Rattle.mr_replication.specs.State.{name_of}
use Rattle.mr_node_links.specs.State.{EndState, streams}
use Rattle.mr_node_links.specs.Replicas.{is_named}
use Rattle.mr_node_output.specs.Outs.{OutsState, outs_of}
use Rattle.mr_node_spec.specs.State.{IsNode, NodeState, end_of as node_end}
use Rattle.mr_connections.specs.State.{ConnectionState}
use Rattle.mr_loop.specs.Stage.{LoopState, Stage, connection_at}
use Rattle.mr_loop.specs.Carrying.{Carried}
use Rattle.mr_loop.specs.Giving.{listed}
use Rattle.law_refinement.specs.State.{Link, Slot, WorldState}
use Rattle.law_refinement.specs.Worlds.{IsWorld}
use Rattle.law_refinement.specs.Carrying.{booked, fed_if, reached, shut_if}
use Rattle.law_refinement.proofs.Places.{some_is}
use Rattle.mr_world_parts.specs.AtNode.{is_spent}
use Rattle.mr_links.specs.declared.side.Side.{Side}
use Rattle.mr_links.specs.declared.side.Side.TheVariants as side
use Rattle.law_servers.specs.Worlds.{IsServedAs, NoneOpen}
use Rattle.law_systems.specs.System.{Connection, Doing, End, IsAt, System, gives_up, is_taken, runs}
use Rattle.law_systems.specs.Network.{HasEnd, end_of}
use Rattle.law_systems.proofs.Mirrors.{IsLine, IsLive, IsSide, Mirrors}
use Rattle.law_systems.proofs.Pushing.{carried_held, carried_none, carried_to, carried_was, fed_elsewhere, fed_part, held_as, parts_none, reply_nowhere, reply_part}
use Rattle.law_systems.proofs.Rebuilding.{KeepsNames, SameHalf, WasThere, live_kept, rebuilt}
use Rattle.law_systems.proofs.Finding.{StandsAt, is_upstream}
use Rattle.law_systems.proofs.Beside.{FeedsSome}
use Rattle.law_systems.proofs.Booked.{booked_ids}
use Rattle.law_systems.proofs.Ends.{none_streams, upstream_streams}
use Rattle.law_systems.proofs.Told.{IsTold, is_reached, map_was, reached_by, reached_closed, reached_elsewhere, reached_here, reaches, same_server, shut_open, told_line, told_opener}

-- What a call gives out that closes nothing and takes no id; none but replicas are fed.
pub record Feeds (a b : NodeState) (outs : OutsState) : Type 0 where
  pub fed : FeedsSome a outs.fed
  pub stays : outs.closes ≡ false
  pub closed : outs.closed ≡ []
  pub used : outs.used ≡ None
  pub ends : b.ends ≡ a.ends
  pub follow : b.follow ≡ a.follow

-- the node's ends and whom it follows are the same
pub names_stay : (old new : Slot) (c : ℕ) (held : ConnectionState) → new.node.ends ≡ old.node.ends → new.node.follow ≡ old.node.follow → new.dialled ≡ old.dialled → KeepsNames old new c held
names_stay old new c held ends follow dialled = record {
  opener = λ name h f. record { named = ap name_of follow ∙ f.named; dialled = dialled ∙ f.dialled };
  follows = λ name f. record { named = sym (ap name_of follow) ∙ f.named; dialled = sym dialled ∙ f.dialled };
  none = λ name h none. still name none;
}
  where
    end_is : (name : LinkId) → node_end new.node name ≡ node_end old.node name
    end_is name = ap (λ (z : Links EndState). get z.open_links name) ends

    still : (name : LinkId) → NoneOpen old.node name → NoneOpen new.node name
    still name (NoneOpen.absent e) = NoneOpen.absent (end_is name ∙ e)
    still name (NoneOpen.shut e) = NoneOpen.shut (record { is = end_is name ∙ e.is })

module _ (x : System) (w : WorldState) (n life : ℕ) (s : Stage) (mirrors : Mirrors x w) (at : IsAt x n life s) (stands : StandsAt w n s)
    (outs : OutsState) (silent : outs.link ≡ None) (m : Stage) (own : m.own ≡ s.own) (feeds : Feeds stands.slot.node m.node outs) where
  abbrev slot : Slot
  slot = stands.slot

  -- ---- one connection of the loop
  module _ (c : ConnectionState) where
    -- one whose link isn't a replica's gets nothing
    unfed_at : (name : LinkId) → c.link ≡ Some name → streams (node_end slot.node name) ≡ false → carried_to (outs_of outs) c ≡ c
    unfed_at name is no_replica =
        let nothing : fed_part outs name ++ reply_part outs name ≡ [] = ap (λ z. z ++ reply_part outs name) (fed_elsewhere outs name (feeds.fed.others name no_replica)) ∙ reply_nowhere outs name silent in
        carried_held outs c name feeds.fed.once is
        ∙ (ap (λ b. held_as (if b then None else Some name) (c.waiting ++ (fed_part outs name ++ reply_part outs name))) (parts_none outs name feeds.stays feeds.closed)
        ∙ (ap (λ z. held_as (Some name) (c.waiting ++ z)) nothing ∙ (ap (held_as (Some name)) (append-nil c.waiting) ∙ ap (λ z. held_as z c.waiting) (sym is))))

    unfed : ((name : LinkId) → c.link ≡ Some name → streams (node_end slot.node name) ≡ false) → carried_to (outs_of outs) c ≡ c
    unfed none = go c.link refl
      where
        go : (o : Option LinkId) → c.link ≡ o → carried_to (outs_of outs) c ≡ c
        go None e = carried_none (outs_of outs) c e
        go (Some name) e = unfed_at name e (none name e)

    fed_at : (name : LinkId) → c.link ≡ Some name → carried_to (outs_of outs) c ≡ held_as (Some name) (c.waiting ++ fed_part outs name)
    fed_at name is =
        carried_held outs c name feeds.fed.once is
        ∙ (ap (λ b. held_as (if b then None else Some name) (c.waiting ++ (fed_part outs name ++ reply_part outs name))) (parts_none outs name feeds.stays feeds.closed)
        ∙ ap (λ z. held_as (Some name) (c.waiting ++ z)) (ap (λ z. fed_part outs name ++ z) (reply_nowhere outs name silent) ∙ append-nil (fed_part outs name)))

  its_node : IsNode slot.node
  its_node = (mirrors.world.nodes n slot stands.running.at stands.running.up).node

  -- what isn't a replica's
  shut_quiet : (c : ConnectionState) → ((name : LinkId) → c.link ≡ Some name → NoneOpen slot.node name) → (name : LinkId) → c.link ≡ Some name → streams (node_end slot.node name) ≡ false
  shut_quiet c none name h = none_streams slot.node name (none name h)

  opener_quiet : (number : ℕ) (k : Connection) (l : Link) (c : ConnectionState) → IsSide w n slot number k l side.Opener c → (name : LinkId) → c.link ≡ Some name → streams (node_end slot.node name) ≡ false
  opener_quiet number k l c (IsSide.is_open it h f taken) name is =
      let one : it ≡ name = some_is it name (sym h ∙ is) in
      upstream_streams slot.node name (is_upstream slot.node name its_node (f.named ∙ ap (λ z. Some z) one))
  opener_quiet number k l c (IsSide.is_closed closed none) name is = shut_quiet c none name is

  -- The World is v, in which the links are those that were reached.
  module _ (v : WorldState) (new : Slot) (world : IsWorld v) (slots : v.slots ≡ slice_set w.slots n new) (links : v.links ≡ map (reached n outs) w.links) (book : v.book ≡ booked w.book slot.node outs)
      (as_master : new.as_master ≡ slot.as_master) (node : new.node ≡ m.node) (dialled : new.dialled ≡ slot.dialled)
      (y : System) (doing : Doing) (t : Stage) (does : (doing ≡ runs t) ⊎ (doing ≡ gives_up t)) (carried : doing ≡ runs t → Carried (outs_of outs) m t) where
    keeps : (number : ℕ) (held : ConnectionState) → KeepsNames slot new number held
    keeps number held = names_stay slot new number held (ap (λ (z : NodeState). z.ends) node ∙ feeds.ends) (ap (λ (z : NodeState). z.follow) node ∙ feeds.follow) dialled

    -- each link was there
    was : (number : ℕ) (l : Link) → slice_get v.links number ≡ Some l → (k : Link) × (slice_get w.links number ≡ Some k) × (l ≡ reached n outs k)
    was number l e = map_was (reached n outs) w.links number l (ap (λ z. slice_get z number) (sym links) ∙ e)

    -- ---- an end of the server
    module _ (number : ℕ) (k : Connection) (l : Link) (c : ConnectionState) (found : slice_get w.links number ≡ Some l) (now : slice_get v.links number ≡ Some (reached n outs l)) where
      stays_quiet : (at_side : Side) → SameHalf at_side k l k (reached n outs l) → IsLive w n slot number k l at_side c → carried_to (outs_of outs) c ≡ c
          → IsLive v n new number k (reached n outs l) at_side (carried_to (outs_of outs) c)
      stays_quiet at_side half old same = subst (λ (z : ConnectionState). IsLive v n new number k (reached n outs l) at_side z) (sym same)
          (live_kept w v n slot new number k k l (reached n outs l) c (keeps number c) found now at_side half old)

      -- one that it serves, and that is open
      module _ (name : LinkId) (is : c.link ≡ Some name) (end : IsServedAs w n name number) where
        one : end.link ≡ l
        one = some_is end.link l (sym end.at.found ∙ found)

        abbrev put : Link
        put = shut_if false (fed_if (is_named outs.fed name) outs.grown l)

        here : reached n outs l ≡ put
        here = reached_here n outs l name (ap (λ (z : Link). z.to) (sym one) ∙ end.to) (ap (λ (z : Link). z.serving) (sym one) ∙ end.at.serving) (ap (λ (z : Link). z.name) (sym one) ∙ end.named)
            ∙ ap (λ names. shut_if (is_named names name) (fed_if (is_named outs.fed name) outs.grown l)) feeds.closed

        told : IsTold l put (fed_part outs name)
        told = reaches false (is_named outs.fed name) outs.grown l

        served : slice_get v.links number ≡ Some put → IsServedAs v n name number
        served there = record {
          link = put;
          at = record { found = there; serving = shut_open (is_named outs.fed name) outs.grown l ∙ (ap (λ (z : Link). z.serving) (sym one) ∙ end.at.serving) };
          to = told.to ∙ (ap (λ (z : Link). z.to) (sym one) ∙ end.to);
          named = told.name ∙ (ap (λ (z : Link). z.name) (sym one) ∙ end.named);
        }

        fed_live : ((dialler : End) → k.dialler ≡ Some dialler → l.ask.taken ≡ k.asked.read) → l.tell.sent ≡ k.answered.written ++ c.waiting
            → IsLive v n new number k (reached n outs l) side.Server (carried_to (outs_of outs) c)
        fed_live taken sent = subst (λ (z : Link). IsLive v n new number k z side.Server (carried_to (outs_of outs) c)) (sym here) (record {
          sent = told.said ∙ (ap (λ z. z ++ fed_part outs name) sent ∙ (append_assoc k.answered.written c.waiting (fed_part outs name)
              ∙ ap (λ (z : ConnectionState). k.answered.written ++ z.waiting) (sym (fed_at c name is))));
          side = IsSide.is_open name (ap (λ (z : ConnectionState). z.link) (fed_at c name is)) (served (now ∙ ap (λ z. Some z) here)) (λ d e. told.taken ∙ taken d e);
        })

      at_its_side : (at_side : Side) → IsLive w n slot number k l at_side c → IsLive v n new number k (reached n outs l) at_side (carried_to (outs_of outs) c)
      at_its_side side.Opener old = stays_quiet side.Opener (told_opener k l (reached n outs l) (reached_by n outs l) (is_reached n outs l)) old (unfed c (opener_quiet number k l c old.side))
      at_its_side side.Server old = elim old.side [
        | IsSide.is_open name is end taken ↦ fed_live name is end taken old.sent
        | IsSide.is_closed closed none ↦ stays_quiet side.Server (same_server k l (reached n outs l) (reached_closed n outs l closed)) old (unfed c (shut_quiet c none))
      ]

    live : (number : ℕ) (at_side : Side) (k : Connection) (other : LinkId) (l : Link) (held : ConnectionState) → doing ≡ runs t → HasEnd x.connections number at_side k (end_of n life other)
        → slice_get v.links number ≡ Some l → connection_at t.own other ≡ Some held → IsLive v n new number k l at_side held
    live number at_side k other l held r end now there =
        let before = was number l now in
        let c = carried_was (outs_of outs) m t (carried r) other held there in
        let there_before : connection_at s.own other ≡ Some c.0 = ap (λ (z : LoopState). connection_at z other) (sym own) ∙ c.1 in
        let old = mirrors.live number at_side k (end_of n life other) before.0 s c.0 slot end before.1 at there_before stands.running.at in
        let is = at_its_side number k before.0 c.0 before.1 (now ∙ ap (λ z. Some z) before.2) at_side old in
        subst (λ (z : Link). IsLive v n new number k z at_side held) (sym before.2) (subst (λ (z : ConnectionState). IsLive v n new number k (reached n outs before.0) at_side z) (sym c.2) is)

    -- ---- the ends of others, and the lines
    others : (number : ℕ) (at_side : Side) (k : Connection) (e : End) (l : Link) → HasEnd x.connections number at_side k e → slice_get v.links number ≡ Some l → e.server ≢ n → WasThere x w number at_side k e l
    others number at_side k e l end now apart =
        let before = was number l now in
        record { connection = k; link = before.0; end = end; found = before.1; same = subst (λ (z : Link). SameHalf at_side k before.0 k z) (sym before.2) (half at_side before.0 end before.1) }
      where
        half : (at_side : Side) (j : Link) → HasEnd x.connections number at_side k e → slice_get w.links number ≡ Some j → SameHalf at_side k j k (reached n outs j)
        half side.Opener j it found = told_opener k j (reached n outs j) (reached_by n outs j) (is_reached n outs j)
        half side.Server j it found =
            same_server k j (reached n outs j) (reached_elsewhere n outs j (λ to. apart (sym ((mirrors.lines number k j it.found found).served e it.has).1 ∙ to)))

    lines : (number : ℕ) (k : Connection) (l : Link) → slice_get x.connections number ≡ Some k → slice_get v.links number ≡ Some l → IsLine k l
    lines number k l there now =
        let before = was number l now in
        subst (λ (z : Link). IsLine k z) (sym before.2) (told_line k before.0 (reached n outs before.0) (reached_by n outs before.0) (is_reached n outs before.0) (mirrors.lines number k before.0 there before.1))

    pub beats : y.servers ≡ slice_set x.servers n (record { life = life; doing = doing }) → y.connections ≡ x.connections → y.ids ≡ listed outs.used ++ x.ids
        → (doing ≡ runs t → m.node ≡ t.node) → m.node.core ≡ t.node.core → Mirrors y v
    beats servers connections ids behind core = rebuilt x y w v n life s t doing slot new mirrors at servers does world stands.running.at slots as_master
        (λ r. node ∙ behind r) (ap (λ (z : NodeState). z.core) node ∙ core)
        (ap (λ z. length z) links ∙ (length-map w.links (reached n outs) ∙ (mirrors.as_many_links ∙ ap (λ z. length z) (sym connections))))
        (λ id spent. ap (λ z. is_taken z id) ids ∙ booked_ids w.book x.ids mirrors.ids slot.node outs id (ap (λ z. is_spent z id) (sym book) ∙ spent))
        (λ number k l there now. lines number k l (ap (λ z. slice_get z number) (sym connections) ∙ there) now)
        (λ number at_side k e l end now apart. others number at_side k e l (record { found = ap (λ z. slice_get z number) (sym connections) ∙ end.found; has = end.has }) now apart)
        (λ number at_side k other l held r end now there.
        live number at_side k other l held r (record { found = ap (λ z. slice_get z number) (sym connections) ∙ end.found; has = end.has }) now there)
