-- Beside a server whose node tells its master how far it holds the stream: that waits on the connection that it dialled, if the loop has it still, as it was sent on the link.
use Rattle.std.proofs.Common.{◌≡◌, ◌≢◌, ◌⊎◌, ◌++◌, ◌&&◌, ℕ, List, [], ◌∷◌, Bool, true, false, Option, None, Some, map, append_assoc, refl, sym, ap, subst, ◌∙◌, arith}
use Rattle.std.specs.Prelude.{slice_get, slice_set}
use Rattle.mr_links.specs.declared.link_id.LinkId.{LinkId}
use Rattle.mr_follower.specs.State.{FollowState}
use Rattle.mr_replication.specs.State.{name_of}
use Rattle.mr_node_links.specs.State.EndState.{upstream}
use Rattle.mr_node_links.specs.Replicas.{is_named}
use Rattle.mr_node_output.specs.Outs.{OutsState, outs_of}
use Rattle.mr_node_spec.specs.State.{NodeState, end_of as node_end}
use Rattle.mr_connections.specs.State.{ConnectionState}
use Rattle.mr_loop.specs.Stage.{LoopState, Stage, connection_at}
use Rattle.mr_loop.specs.Carrying.{Carried}
use Rattle.mr_loop.specs.Giving.{listed}
use Rattle.law_refinement.specs.Way.{sent_on}
use Rattle.law_refinement.specs.State.{Link, Slot, WorldState, a_client, a_node}
use Rattle.law_refinement.specs.Worlds.{HasMaster, IsWorld}
use Rattle.law_refinement.specs.Carrying.{booked, fed_if, is_at, reached, said_by, said_on, shut_if}
use Rattle.law_refinement.proofs.Places.{is_within, set_here, set_same, some_is}
use Rattle.mr_world_parts.specs.AtNode.{is_spent}
use Rattle.mr_links.specs.declared.side.Side.{Side}
use Rattle.mr_links.specs.declared.side.Side.TheVariants as side
use Rattle.law_systems.specs.System.{Connection, Doing, End, IsAt, System, end_at, gives_up, is_taken, runs}
use Rattle.law_systems.specs.Network.{HasEnd, end_of}
use Rattle.law_systems.proofs.Mirrors.{IsLine, IsLive, IsSide, Mirrors}
use Rattle.law_systems.proofs.Pushing.{carried_to, carried_was}
use Rattle.law_systems.proofs.Rebuilding.{SameHalf, live_kept, rebuilt_one, same_half}
use Rattle.law_systems.proofs.Finding.{StandsAt, is_there, is_upstream}
use Rattle.law_systems.proofs.Booked.{booked_ids}
use Rattle.law_systems.proofs.Saying.{SaysAt, said, unsaid}
use Rattle.law_systems.proofs.Master.{IsSaid, line_said, not_served, not_shut, server_said}
use Rattle.law_systems.proofs.Beating.{Feeds, names_stay}

-- ---- where none is fed, and none closed, no link is another
and_false : (a b : Bool) → b ≡ false → (a && b) ≡ false
and_false true b e = e
and_false false b e = refl

not_reached : (n : ℕ) (outs : OutsState) (k : Link) → outs.fed ≡ [] → outs.closed ≡ [] → reached n outs k ≡ k
not_reached n outs k fed closed =
    ap (λ b. shut_if b (fed_if (is_at n k && is_named outs.fed k.name) outs.grown k)) (and_false (is_at n k) (is_named outs.closed k.name) (ap (λ names. is_named names k.name) closed))
    ∙ ap (λ b. fed_if b outs.grown k) (and_false (is_at n k) (is_named outs.fed k.name) (ap (λ names. is_named names k.name) fed))

map_same : {A : Type 0} (f : A → A) (xs : List A) → ((z : A) → f z ≡ z) → map f xs ≡ xs
map_same f [] same = refl
map_same f (z ∷ xs) same = ap (λ q. q ∷ map f xs) (same z) ∙ ap (λ q. z ∷ q) (map_same f xs same)

-- what is said to a master is sent on its link
pub says_links : (n : ℕ) (outs : OutsState) (name : LinkId) (d : ℕ) (links : List Link) (k : Link) → outs.link ≡ Some name → outs.fed ≡ [] → outs.closed ≡ [] → slice_get links d ≡ Some k
    → said_on outs.link d outs.reply (map (reached n outs) links) ≡ slice_set links d (record k { ask = sent_on outs.reply k.ask })
says_links n outs name d links k link fed closed found =
    ap (said_on outs.link d outs.reply) (map_same (reached n outs) links (λ z. not_reached n outs z fed closed))
    ∙ (ap (λ o. said_on o d outs.reply links) link ∙ ap (λ o. said_by o d outs.reply links) found)

-- a node's link is no client's
no_client : (n : ℕ) (name : LinkId) (open_there : Bool) → a_client open_there ≡ a_node n name → ⊥
no_client n name open_there e = cc

one_node : (n m : ℕ) (name other : LinkId) → a_node n name ≡ a_node m other → n ≡ m
one_node n m name other e = cc

module _ (x : System) (w : WorldState) (n life : ℕ) (s : Stage) (mirrors : Mirrors x w) (at : IsAt x n life s) (stands : StandsAt w n s)
    (outs : OutsState) (link : LinkId) (reader : FollowState) (follow : stands.slot.node.follow ≡ Some (link, reader)) (says : SaysAt outs link) (stays : outs.closes ≡ false)
    (m : Stage) (own : m.own ≡ s.own) (feeds : Feeds stands.slot.node m.node outs) where
  abbrev slot : Slot
  slot = stands.slot

  -- ---- the link, and its connection
  abbrev master : HasMaster w.links n slot link reader
  master = mirrors.world.followers n slot link reader stands.running.at stands.running.up follow

  abbrev d : ℕ
  d = slot.dialled

  abbrev line : Link
  line = master.link

  abbrev j : Link
  j = record line { ask = sent_on outs.reply line.ask }

  is_said : IsSaid outs.reply line j
  is_said = record { caller = refl; waits = refl; to = refl; name = refl; serving = refl; asked = refl; ask_taken = refl; told = refl; tell_taken = refl }

  there : (p : Connection) × (slice_get x.connections d ≡ Some p)
  there = is_there x.connections d (let near = is_within w.links d line master.found in let many = mirrors.as_many_links in omega (arith, near, many))

  abbrev p : Connection
  p = there.0

  its_line : IsLine p line
  its_line = mirrors.lines d p line there.1 master.found

  -- this server dialled it
  dialler : (e : End) × (p.dialler ≡ Some e) × (e.server ≡ n)
  dialler = go p.dialler refl
    where
      go : (o : Option End) → p.dialler ≡ o → (e : End) × (p.dialler ≡ Some e) × (e.server ≡ n)
      go None h = absurd (no_client n link true (sym (its_line.client h).0 ∙ master.caller))
      go (Some e) h = let named = its_line.dialled e h in (e, h, one_node e.server n named.0 link (sym named.1 ∙ master.caller))

  up_end : node_end slot.node link ≡ Some upstream
  up_end = is_upstream slot.node link (mirrors.world.nodes n slot stands.running.at stands.running.up).node (ap name_of follow)

  -- ---- the loop's connections: no other has the link
  other_side : (number : ℕ) (at_side : Side) (k : Connection) (l : Link) (c : ConnectionState) → (at_side ≡ side.Opener → number ≢ d) → IsSide w n slot number k l at_side c → c.link ≡ Some link → ⊥
  other_side number side.Opener k l c ne (IsSide.is_open name h f taken) is = ne refl (sym f.dialled)
  other_side number side.Server k l c ne (IsSide.is_open name h end taken) is =
      not_served w n slot link number mirrors.world stands.running up_end (record { link = end.link; at = end.at; to = end.to; named = end.named ∙ some_is name link (sym h ∙ is) })
  other_side number at_side k l c ne (IsSide.is_closed closed none) is = not_shut slot.node link up_end (none link is)

  -- The World is v.
  module _ (v : WorldState) (new : Slot) (world : IsWorld v) (slots : v.slots ≡ slice_set w.slots n new) (links : v.links ≡ slice_set w.links d j) (book : v.book ≡ booked w.book slot.node outs)
      (as_master : new.as_master ≡ slot.as_master) (node : new.node ≡ m.node) (dialled : new.dialled ≡ slot.dialled)
      (y : System) (doing : Doing) (t : Stage) (does : (doing ≡ runs t) ⊎ (doing ≡ gives_up t)) (carried : doing ≡ runs t → Carried (outs_of outs) m t) where
    -- one as it was before
    before : doing ≡ runs t → (other : LinkId) (held : ConnectionState) → connection_at t.own other ≡ Some held
        → (c : ConnectionState) × (connection_at s.own other ≡ Some c) × (held ≡ carried_to (outs_of outs) c)
    before r other held is = let c = carried_was (outs_of outs) m t (carried r) other held is in (c.0, ap (λ (z : LoopState). connection_at z other) (sym own) ∙ c.1, c.2)

    node_follow : new.node.follow ≡ slot.node.follow
    node_follow = ap (λ (z : NodeState). z.follow) node ∙ feeds.follow

    -- an end whose connection is sent nothing
    quiet : (number : ℕ) (at_side : Side) (k : Connection) (l q : Link) (c : ConnectionState) → slice_get w.links number ≡ Some l → slice_get v.links number ≡ Some q → SameHalf at_side k l k q
        → (at_side ≡ side.Opener → number ≢ d) → IsLive w n slot number k l at_side c → IsLive v n new number k q at_side (carried_to (outs_of outs) c)
    quiet number at_side k l q c found now half ne old = subst (λ (z : ConnectionState). IsLive v n new number k q at_side z) (sym (unsaid outs link says c (other_side number at_side k l c ne old.side)))
        (live_kept w v n slot new number k k l q c (names_stay slot new number c (ap (λ (z : NodeState). z.ends) node ∙ feeds.ends) node_follow dialled) found now at_side half old)

    not_opener : (number : ℕ) → side.Server ≡ side.Opener → number ≢ d
    not_opener number e = absurd (apart e)
      where
        apart : side.Server ≡ side.Opener → ⊥
        apart h = cc

    here_said : (k : Connection) (c : ConnectionState) → IsLive w n slot d k line side.Opener c → IsLive v n new d k j side.Opener (carried_to (outs_of outs) c)
    here_said k c old = elim old.side [
      | IsSide.is_open name h f taken ↦ open_there name h f.named taken
      | IsSide.is_closed closed none ↦ absurd (closed link (record { named = ap name_of follow; dialled = refl }))
    ]
      where
        open_there : (name : LinkId) → c.link ≡ Some name → name_of slot.node.follow ≡ Some name → ((e : End) → k.dialler ≡ Some e → line.tell.taken ≡ k.answered.read)
            → IsLive v n new d k j side.Opener (carried_to (outs_of outs) c)
        open_there name h named taken =
            let one : name ≡ link = some_is name link (sym named ∙ ap name_of follow) in
            let now = said outs link says c stays (h ∙ ap (λ z. Some z) one) in
            record {
              sent = ap (λ z. z ++ outs.reply) old.sent ∙ (append_assoc k.asked.written c.waiting outs.reply ∙ ap (λ (z : ConnectionState). k.asked.written ++ z.waiting) (sym now));
              side = IsSide.is_open link (ap (λ (z : ConnectionState). z.link) now) (record { named = ap name_of node_follow ∙ ap name_of follow; dialled = dialled }) taken;
            }

    placed : slice_get v.links d ≡ Some j
    placed = ap (λ z. slice_get z d) links ∙ set_here w.links d j line master.found

    half_there : (at_side : Side) (e : End) → end_at at_side p ≡ Some e → e.server ≢ n → (end_at at_side p ≡ Some e) × SameHalf at_side p line p j
    half_there side.Server e h apart = (h, server_said outs.reply p line j is_said)
    half_there side.Opener e h apart = absurd (apart (ap (λ (z : End). z.server) (some_is e dialler.0 (sym h ∙ dialler.1)) ∙ dialler.2))

    live_there : (at_side : Side) (other : LinkId) (held : ConnectionState) → doing ≡ runs t → end_at at_side p ≡ Some (end_of n life other) → connection_at t.own other ≡ Some held
        → IsLive v n new d p j at_side held
    live_there at_side other held r end is =
        let c = before r other held is in
        let old = mirrors.live d at_side p (end_of n life other) line s c.0 slot (record { found = there.1; has = end }) master.found at c.1 stands.running.at in
        subst (λ (z : ConnectionState). IsLive v n new d p j at_side z) (sym c.2) (by_side at_side c.0 old)
      where
        by_side : (at_side : Side) (c : ConnectionState) → IsLive w n slot d p line at_side c → IsLive v n new d p j at_side (carried_to (outs_of outs) c)
        by_side side.Opener c old = here_said p c old
        by_side side.Server c old = quiet d side.Server p line j c master.found placed (server_said outs.reply p line j is_said) (not_opener d) old

    live : (number : ℕ) (at_side : Side) (k : Connection) (other : LinkId) (l : Link) (held : ConnectionState) → number ≢ d → doing ≡ runs t → HasEnd x.connections number at_side k (end_of n life other)
        → slice_get w.links number ≡ Some l → slice_get v.links number ≡ Some l → connection_at t.own other ≡ Some held → IsLive v n new number k l at_side held
    live number at_side k other l held ne r end found now is =
        let c = before r other held is in
        let old = mirrors.live number at_side k (end_of n life other) l s c.0 slot end found at c.1 stands.running.at in
        subst (λ (z : ConnectionState). IsLive v n new number k l at_side z) (sym c.2) (quiet number at_side k l l c.0 found now (same_half at_side k l) (λ e. ne) old)

    pub acknowledges : y.servers ≡ slice_set x.servers n (record { life = life; doing = doing }) → y.connections ≡ x.connections → y.ids ≡ listed outs.used ++ x.ids
        → (doing ≡ runs t → m.node ≡ t.node) → m.node.core ≡ t.node.core → Mirrors y v
    acknowledges servers connections ids behind core = rebuilt_one x y w v n life s t doing slot new mirrors at servers does world stands.running.at slots as_master
        (λ r. node ∙ behind r) (ap (λ (z : NodeState). z.core) node ∙ core)
        d p p line j there.1 master.found (connections ∙ sym (set_same x.connections d p there.1)) links
        (line_said outs.reply p line j dialler.0 dialler.1 is_said its_line)
        (λ id spent. ap (λ z. is_taken z id) ids ∙ booked_ids w.book x.ids mirrors.ids slot.node outs id (ap (λ z. is_spent z id) (sym book) ∙ spent))
        half_there live_there live
