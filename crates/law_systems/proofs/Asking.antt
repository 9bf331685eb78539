-- What a server asks its own node before its first turn: a client's link comes in the World, brings the request, a step is made there, and the link breaks.
use Rattle.std.proofs.Common.{◌≡◌, ◌≢◌, ◌++◌, inl, inr, ℕ, List, [], ◌∷◌, true, false, Option, None, Some, Ok, length, length-set, map, take_all, refl, sym, ap, subst, ◌∙◌, arith}
use Rattle.std.specs.Prelude.{slice_get, slice_set}
use Rattle.std.specs.Option.{option_map}
use Rattle.std.specs.FinMap.{get, get-empty}
use Rattle.std.proofs.lemmas.Option.{slice_get-map}
use Rattle.mr_links.specs.LinkId.{id_cmp}
use Rattle.mr_links.specs.declared.link_id.LinkId.{LinkId}
use Rattle.mr_node_links.specs.State.{EndState}
use Rattle.mr_node_links.specs.State.EndState.{client, waiting, replica, upstream, shut}
use Rattle.mr_node_spec.specs.State.{NodeState, end_of as node_end}
use Rattle.mr_node_spec.specs.LinkRows.{Feeds, Opens, closed_at}
use Rattle.mr_connections.specs.State.{ConnectionState}
use Rattle.mr_loop.specs.Stage.{Stage, connection_at}
use Rattle.law_refinement.specs.Way.{sent_on, taken_on}
use Rattle.law_refinement.specs.State.{BookEntry, Link, Slot, WorldState}
use Rattle.law_refinement.specs.Worlds.{IsWorld}
use Rattle.law_refinement.specs.Carrying.{behind, broken, opened, opened_link, put_node, reached, settled, stepped, told}
use Rattle.law_refinement.specs.Events.{IsRunning}
use Rattle.law_refinement.proofs.Reading.{number_or}
use Rattle.law_refinement.proofs.Places.{push_here, set_here, set_there, some_is}
use Rattle.law_refinement.specs.Runs.{Happens}
use Rattle.mr_world_parts.specs.AtNode.{is_spent}
use Rattle.mr_world_parts.specs.Answering.{EndsAs}
use Rattle.mr_links.specs.declared.side.Side.{Side}
use Rattle.mr_links.specs.declared.side.Side.TheVariants as side
use Rattle.mr_world_parts.proofs.Places.{set_twice}
use Rattle.mr_world.specs.Calls.{BreakCall, Breaks, ClientCall, Clients, CommandCall}
use Rattle.mr_world.specs.Linking.{DeliverCall, Delivers}
use Rattle.mr_world.proofs.Feeding.{deliver_keeps}
use Rattle.mr_world.proofs.Happened.{broke, came, heard, sent}
use Rattle.mr_world.proofs.Kept.{break_keeps, client_keeps, command_keeps}
use Rattle.law_servers.specs.Calling.{break}
use Rattle.law_servers.specs.Worlds.{Becomes, IsServedAs, NoneOpen}
use Rattle.law_servers.proofs.Moving.{servers_keep_worlds}
use Rattle.law_systems.specs.System.{Connection, End, IsAt, System, end_at, is_taken, of_itself, runs}
use Rattle.law_systems.specs.Network.{HasEnd}
use Rattle.law_systems.specs.Steps.{AsksItself}
use Rattle.law_systems.proofs.Wired.{IsWired}
use Rattle.law_systems.proofs.Mirrors.{IsLine, Leads, Mirrors}
use Rattle.law_systems.proofs.Rebuilding.{WasThere, rebuilt, rebuilt_more}
use Rattle.law_systems.proofs.Answers.{Answers, answers}
use Rattle.law_systems.proofs.Booked.{booked_ids, unspent}
use Rattle.law_systems.proofs.Closings.{closed_sound, leads_to, runs_more, runs_none}
use Rattle.law_systems.proofs.Finding.{StandsAt, stands_at}
use Rattle.law_systems.proofs.Reached.{as_many_told, lines_told, others_told}
use Rattle.law_systems.proofs.Told.{is_settled, told_line}

no_end : (g : Side) (e : End) → end_at g of_itself ≡ Some e → ⊥
no_end side.Opener e h = let none : None ≡ Some e = h in absurd (cc)
no_end side.Server e h = let none : None ≡ Some e = h in absurd (cc)

push_set : {A : Type 0} (xs : List A) (x y : A) → slice_set (xs ++ x ∷ []) (length xs) y ≡ xs ++ y ∷ []
push_set [] x y = refl
push_set (z ∷ xs) x y = ap (λ q. z ∷ q) (push_set xs x y)

settled_same : (o : Option EndState) (l : Link) → ((settled o l).to ≡ l.to) × ((settled o l).name ≡ l.name)
settled_same None l = (refl, refl)
settled_same (Some (client u)) l = (refl, refl)
settled_same (Some (waiting t u)) l = (refl, refl)
settled_same (Some (replica u)) l = (refl, refl)
settled_same (Some upstream) l = (refl, refl)
settled_same (Some shut) l = (refl, refl)

module _ (x : System) (w : WorldState) (wired : IsWired x) (m : Mirrors x w) (n life : ℕ) (s t : Stage) (taken : List (List ℕ)) (at : IsAt x n life s) (a : AsksItself x s t taken) where
  abbrev y : System
  y = record { servers = slice_set x.servers n (record { life = life; doing = runs t }); connections = x.connections ++ of_itself ∷ []; ids = taken ++ x.ids }

  abbrev stands : StandsAt w n s
  stands = stands_at x w n life s wired m at

  abbrev z : Slot
  z = stands.slot

  abbrev last : ℕ
  last = length w.links

  -- no connection is the loop's
  alone : (socket : LinkId) (held : ConnectionState) → connection_at s.own socket ≡ Some held → ⊥
  alone socket held h = let none : None ≡ Some held = sym (get-empty id_cmp socket) ∙ (ap (λ q. get q socket) (sym a.alone) ∙ h) in absurd (cc)

  -- ---- the link comes, and brings the request
  opens : Opens z.node a.link a.opened
  opens = subst (λ (b : NodeState). Opens b a.link a.opened) (sym stands.node) a.opens

  opened_up : a.opened.core.up ≡ true
  opened_up = ap (λ (b : NodeState). b.core.up) opens.node ∙ stands.running.up

  abbrev z1 : Slot
  z1 = record z { node = a.opened }

  abbrev k1 : Link
  k1 = opened_link n a.link

  abbrev w1 : WorldState
  w1 = opened w n z a.opened a.link

  comes : ClientCall w n w1 (Ok tt)
  comes = Clients.comes (record { slot = z; running = stands.running; name = a.link; node = a.opened; opens = opens; is = refl })

  abbrev k2 : Link
  k2 = record k1 { ask = sent_on a.bytes k1.ask }

  abbrev w2 : WorldState
  w2 = record w { slots = slice_set w.slots n z1; links = w.links ++ k2 ∷ [] }

  sends : CommandCall w1 last a.bytes w2 (Ok tt)
  sends = record {
    link = k1;
    at = record { found = push_here w.links k1; asking = refl };
    is = ap (λ ls. record w { slots = slice_set w.slots n z1; links = ls }) (sym (push_set w.links k1 k2));
  }

  abbrev z3 : Slot
  z3 = record z { node = a.fed }

  abbrev k3 : Link
  k3 = record k2 { ask = taken_on (length a.bytes) k2.ask }

  abbrev w3 : WorldState
  w3 = record w { slots = slice_set w.slots n z3; links = w.links ++ k3 ∷ [] }

  takes : DeliverCall w2 last (length a.bytes) w3 (Ok tt)
  takes = Delivers.hears (record {
    link = k2;
    slot = z1;
    can = record {
      served = record { found = push_here w.links k2; serving = refl; at = set_here w.slots n z1 z stands.running.at; up = opened_up };
      sent = omega arith;
    };
    node = a.fed;
    feeds = subst (λ bs. Feeds a.opened a.link bs a.fed) (sym (take_all (length a.bytes) a.bytes (omega arith))) a.feeds;
    sound = a.fed_sound;
    few = a.fits;
    is = ap (λ ss. record w { slots = ss; links = w.links ++ k3 ∷ [] }) (sym (set_twice w.slots n z1 z3))
        ∙ ap (λ ls. record w { slots = slice_set (slice_set w.slots n z1) n z3; links = ls }) (sym (push_set w.links k2 k3));
  })

  world1 : IsWorld w1
  world1 = client_keeps w w1 n (Ok tt) m.world comes

  world2 : IsWorld w2
  world2 = command_keeps w1 w2 last a.bytes (Ok tt) world1 sends

  world3 : IsWorld w3
  world3 = deliver_keeps w2 w3 last (length a.bytes) (Ok tt) world2 takes

  -- ---- servers beside that
  abbrev s3 : Stage
  s3 = record s { node = a.fed }

  abbrev x3 : System
  x3 = record { servers = slice_set x.servers n (record { life = life; doing = runs s3 }); connections = x.connections ++ of_itself ∷ []; ids = x.ids }

  at3 : IsAt x3 n life s3
  at3 = record { found = set_here x.servers n (record { life = life; doing = runs s3 }) (record { life = life; doing = runs s }) at.found }

  line : IsLine of_itself k3
  line = record {
    asked = record { rest = a.bytes; is = refl };
    answered = record { rest = []; is = refl };
    waits = λ e h. absurd (no_end side.Opener e h);
    served = λ e h. absurd (no_end side.Server e h);
    client = λ h. (refl, omega arith);
    dialled = λ e h. absurd (no_end side.Opener e h);
  }

  mirrors3 : Mirrors x3 w3
  mirrors3 = rebuilt_more x x3 w w3 n life s s3 (runs s3) z z3 m at refl (inl refl) world3 stands.running.at refl refl (λ r. refl) refl of_itself k3 refl refl line m.ids
      (λ g e h. absurd (no_end g e h))
      (λ g socket held r h there. absurd (alone socket held there))
      (λ c g k socket l held r end found now there. absurd (alone socket held there))

  -- ---- the step
  running3 : IsRunning w3 n z3
  running3 = record { at = set_here w.slots n z3 z stands.running.at; up = ap (λ c. c.up) a.feeds.core ∙ opened_up }

  abbrev end3 : IsServedAs w3 n a.link last
  end3 = record { link = k3; at = record { found = push_here w.links k3; serving = refl }; to = refl; named = refl }

  answer : Answers w3 n z3 a.link last k3 a.stepped a.outs
  answer = answers w3 n z3 a.link last world3 running3 end3 a.given a.fresh a.stepped a.outs (unspent w.book x.ids m.ids a.fresh a.new) a.sound a.steps

  abbrev w4 : WorldState
  w4 = stepped w3 n z3 last k3 a.stepped a.outs

  abbrev z4 : Slot
  z4 = behind z3 a.stepped a.outs

  abbrev k4 : Link
  k4 = settled (node_end a.stepped a.link) (told a.outs.reply k3)

  running4 : IsRunning w4 n z4
  running4 = record { at = set_here w3.slots n z4 z3 running3.at; up = answer.behind_it.up }

  found4 : slice_get w4.links last ≡ Some k4
  found4 = set_here (map (reached n a.outs) w3.links) last k4 (reached n a.outs k3)
      (slice_get-map (reached n a.outs) w3.links last ∙ ap (option_map (reached n a.outs)) (push_here w.links k3))

  line4 : IsLine of_itself k4
  line4 = told_line of_itself k3 k4 a.outs.reply (is_settled (node_end a.stepped a.link) a.outs.reply k3) line

  -- ---- and the link breaks
  abbrev closed : NodeState
  closed = closed_at a.link a.stepped

  abbrev z5 : Slot
  z5 = record z4 { node = closed }

  module _ (v : WorldState) (moves : Happens w4 v × IsWorld v) (slots : v.slots ≡ slice_set w4.slots n z5) (book : v.book ≡ w4.book) (many : length v.links ≡ length w4.links)
      (here : (l : Link) → slice_get v.links last ≡ Some l → IsLine of_itself l) (there : (c : ℕ) → c ≢ last → slice_get v.links c ≡ slice_get w4.links c) where
    itself : (c : ℕ) (p : Connection) → c ≡ last → slice_get (x.connections ++ of_itself ∷ []) c ≡ Some p → of_itself ≡ p
    itself c p is h = some_is of_itself p (sym (push_here x.connections of_itself) ∙ (ap (slice_get (x.connections ++ of_itself ∷ [])) (sym m.as_many_links ∙ sym is) ∙ h))

    lines : (c : ℕ) (p : Connection) (l : Link) → slice_get y.connections c ≡ Some p → slice_get v.links c ≡ Some l → IsLine p l
    lines c p l e h = elim (number_or c last) [
      | inl is ↦ subst (λ (q : Connection). IsLine q l) (itself c p is e) (here l (ap (slice_get v.links) (sym is) ∙ h))
      | inr apart ↦ lines_told x3 w3 n last k3 a.stepped a.outs mirrors3 (push_here w.links k3) refl c p l e (sym (there c apart) ∙ h)
    ]

    others : (c : ℕ) (g : Side) (p : Connection) (e : End) (l : Link) → HasEnd y.connections c g p e → slice_get v.links c ≡ Some l → e.server ≢ n → WasThere x3 w3 c g p e l
    others c g p e l end h elsewhere = elim (number_or c last) [
      | inl is ↦ absurd (no_end g e (ap (end_at g) (itself c p is end.found) ∙ end.has))
      | inr apart ↦ others_told x3 w3 n last k3 a.stepped a.outs mirrors3 (push_here w.links k3) refl c g p e l end (sym (there c apart) ∙ h) elsewhere
    ]

    beside : Mirrors y v
    beside = rebuilt x3 y w3 v n life s3 t (runs t) z3 z5 mirrors3 at3 (sym (set_twice x.servers n (record { life = life; doing = runs s3 }) (record { life = life; doing = runs t }))) (inl refl)
        moves.1 running3.at (slots ∙ set_twice w3.slots n z4 z5) refl (λ r. ap (λ (q : Stage). q.node) (sym a.is)) (ap (λ (q : Stage). q.node.core) (sym a.is))
        (many ∙ as_many_told x3 w3 n last k3 a.stepped a.outs mirrors3 (push_here w.links k3) refl)
        (λ id e. subst (λ (ids : List (List ℕ)). is_taken (ids ++ x.ids) id ≡ true) (sym a.taken_are)
        (booked_ids w.book x.ids m.ids z3.node a.outs id (subst (λ (es : List BookEntry). is_spent es id ≡ true) book e)))
        lines others
        (λ c g p socket l held r end found now. absurd (alone socket held (ap (λ (q : Stage). connection_at q.own socket) (sym a.is) ∙ now)))

    leads : Leads w y
    leads = leads_to w v y
        (runs_more w w1 v (came w w1 n tt comes, world1)
        (runs_more w1 w2 v (sent w1 w2 last a.bytes tt sends, world2)
        (runs_more w2 w3 v (heard w2 w3 last (length a.bytes) tt takes, world3)
        (runs_more w3 w4 v answer.moves
        (runs_more w4 v v moves (runs_none v moves.1))))))
        beside

  -- where the node has shut it
  shut_end : node_end a.stepped a.link ≡ Some shut → Leads w y
  shut_end e = leads (put_node w4 n z4 closed)
      (servers_keep_worlds w4 (put_node w4 n z4 closed) answer.moves.1 (inl (record {
        number = n;
        slot = z4;
        running = running4;
        call = break a.link;
        node = closed;
        sound = closed_sound a.stepped a.link a.sound;
        is = refl;
        becomes = Becomes.unseen (NoneOpen.shut (record { is = e })) refl;
      })))
      refl refl refl
      (λ l h. subst (λ (q : Link). IsLine of_itself q) (some_is k4 l (sym found4 ∙ h)) line4)
      (λ c apart. refl)

  -- .. and where it is open
  open_end : k4.serving ≡ true → Leads w y
  open_end serving =
      let shut_link : Link = record k4 { serving = false } in
      let v = broken w4 n z4 closed last k4 in
      let to : k4.to ≡ n = (settled_same (node_end a.stepped a.link) (told a.outs.reply k3)).0 in
      let name : k4.name ≡ a.link = (settled_same (node_end a.stepped a.link) (told a.outs.reply k3)).1 in
      let call : BreakCall w4 last v (Ok tt) = Breaks.closes (record {
        link = k4;
        slot = z4;
        served = record { found = found4; serving = serving; at = ap (slice_get w4.slots) to ∙ running4.at; up = running4.up };
        is = ap (λ i. broken w4 i z4 closed last k4) (sym to) ∙ ap (λ q. broken w4 k4.to z4 (closed_at q a.stepped) last k4) (sym name);
      }) in
      leads v (broke w4 v last tt call, break_keeps w4 v last (Ok tt) answer.moves.1 call) refl refl (length-set w4.links last shut_link)
      (λ l h. subst (λ (q : Link). IsLine of_itself q) (some_is shut_link l (sym (set_here w4.links last shut_link k4 found4) ∙ h))
      (record { asked = line4.asked; answered = line4.answered; waits = line4.waits; served = line4.served; client = line4.client; dialled = line4.dialled }))
      (λ c apart. set_there w4.links last c shut_link apart)

  pub asks_leads : Leads w y
  asks_leads = elim answer.behind_it.end [
    | EndsAs.closed c e ↦ shut_end e
    | EndsAs.asks c u e ↦ open_end (ap (λ q. (settled q (told a.outs.reply k3)).serving) e)
    | EndsAs.waits c q u e ↦ open_end (ap (λ q. (settled q (told a.outs.reply k3)).serving) e)
    | EndsAs.streams c u e ↦ open_end (ap (λ q. (settled q (told a.outs.reply k3)).serving) e)
  ]
