-- PSYNC, and each change of roles, is a row of histories.
use Rattle.std.proofs.Common.{◌≡◌, ◌≢◌, ◌+◌, ◌-◌, ◌<◌, ◌≤◌, ◌⊎◌, inl, inr, ℕ, List, [], ◌∷◌, ◌++◌, true, false, cond, Option, None, Some, length, drop, refl, sym, ap, subst, ◌∙◌, arith}
use Rattle.std.specs.Prelude.{slice_get, slice_set, IfSome, map}
use Rattle.std.specs.Option.{option_map}
use Rattle.std.specs.FinMap.{empty}
use Rattle.mr_links.specs.declared.link_id.LinkId.{LinkId}
use Rattle.mr_keyspace.specs.Dataset.{Dataset}
use Rattle.mr_data.specs.Rebuilding.{rebuilding}
use Rattle.mr_data.specs.declared.given.Given.{Given}
use Rattle.mr_cmd_node.specs.declared.node_ask.NodeAsk.{NodeAsk}
use Rattle.mr_cmd_node.specs.declared.node_ask.NodeAsk.TheVariants as node
use Rattle.mr_groups.specs.Effects.{Makes}
use Rattle.mr_repl.specs.Backlog.{first_of, bytes_from}
use Rattle.mr_repl.specs.Lineage.{renamed, standing_of}
use Rattle.mr_repl.specs.ReplId.{IsId, digits_of}
use Rattle.mr_repl.specs.Standing.{IsKnown, IsBefore}
use Rattle.mr_peer_lines.specs.Lines.{status}
use Rattle.mr_peer_lines.specs.Written.{reply_line, length_line}
use Rattle.mr_peer_lines.specs.declared.psync.PsyncReply.TheVariants as reply
use Rattle.mr_peer_lines.proofs.Written.{says_reply, says_length}
use Rattle.mr_follower.specs.State.{FollowState}
use Rattle.mr_replication.specs.State.{name_of}
use Rattle.mr_node_links.specs.State.{EndState, serves}
use Rattle.mr_node_links.specs.State.EndState.{upstream}
use Rattle.mr_node_links.proofs.Naming.{at_or_other}
use Rattle.mr_node_output.specs.Address.{AddressState}
use Rattle.mr_node_output.specs.Outs.{OutsState}
use Rattle.mr_node_spec.specs.State.{NodeState, FollowedAt, end_of}
use Rattle.mr_node_spec.specs.Sound.{IsSound, ports}
use Rattle.mr_node_spec.specs.Growing.{Remakes, rebuilt}
use Rattle.mr_node_spec.specs.Ends.{names_of}
use Rattle.mr_commands.specs.Requests.{AsksNode}
use Rattle.mr_node_spec.specs.ClientRows as row
use Rattle.mr_node_spec.specs.ClientRows.{ClientRow, IsAnswerToPsync}
use Rattle.law_protocol.specs.Language.{Request}
use Rattle.law_protocol.specs.Language.Request.{Psync, ReplicaOfNoOne, ReplicaOf}
use Rattle.law_protocol.specs.History.{Book}
use Rattle.law_protocol.specs.Node as history_node
use Rattle.law_protocol.specs.Node.{Continues}
use Rattle.law_protocol.specs.World as history
use Rattle.law_protocol.specs.World.{hears}
use Rattle.law_protocol.specs.Event as events
use Rattle.law_protocol.specs.Event.Side.{Server}
use Rattle.law_protocol.specs.Changing.{LinkBecomes}
use Rattle.law_protocol.specs.ServerRows as rows
use Rattle.law_protocol.specs.ServerRows.{ServerRow, answered}
use Rattle.law_minired.specs.Minired.{minired}
use Rattle.law_minired.specs.Requests.{Kind, kind_of, kind_by, Wants, IsWanted, address}
use Rattle.law_minired.specs.Requests as language
use Rattle.law_refinement.specs.Way.{unread, used_on}
use Rattle.law_refinement.specs.State.{Link, Slot, WorldState}
use Rattle.law_refinement.specs.Seeing.{seen, seen_way, seen_node, open_on, seen_link, seen_host}
use Rattle.law_refinement.specs.Books.{IsBook, entry_of}
use Rattle.law_refinement.specs.Carrying.{behind, filed, reached, booked_as}
use Rattle.law_refinement.specs.Events.{IsEvent, Holds, IsServed, ClientStepsAreRows}
use Rattle.law_refinement.proofs.Reading.{node_is}
use Rattle.law_refinement.proofs.Others.{Apart, NoneServed, no_names, shut_reached, others_there, here}
use Rattle.law_refinement.proofs.Keeping.{with_history, branched_kept, branches}
use Rattle.law_minired.proofs.GoodGroups.{good_effects}
use Rattle.law_refinement.proofs.Asking.{wanted_or, one_address}
use Rattle.law_refinement.proofs.Steps as steps
use Rattle.law_refinement.proofs.Steps.{Quiet}
use Rattle.law_refinement.proofs.Clients as clients
use Rattle.law_refinement.proofs.Beside.{apart_client, at_client}

-- ---- the link to the master is none that the node serves
named_followed : (a : NodeState) (follow : Option (LinkId × FollowState)) → FollowedAt a.ends follow → NoneServed a (names_of (name_of follow))
named_followed a None f x e named is = absurd (cc)
named_followed a (Some g) f x e named is = at_or_other x g.0 (λ b. cond b true false ≡ true → serves e ≡ false)
    (λ same q. let up : Some e ≡ Some upstream = sym is ∙ (ap (end_of a) same ∙ f) in ap serves (end_is e upstream up))
    (λ ne q. absurd (cc)) named
  where
    end_is : (e f : EndState) → Some e ≡ Some f → e ≡ f
    end_is e f q = cc

-- ---- what PSYNC is answered
makes_again : (m : Dataset) → Remakes (rebuilding m) m → Makes (rebuilt m) m
makes_again m r = record { effects = rebuilding m; good = good_effects (rebuilding m) empty m r.again r.short; are_texts = refl; applied = r.again }

module _ (w : WorldState) (book : Book minired) (l : ℕ) (k : Link) (s : Slot) (given : Given) (fresh : List ℕ) (b : NodeState) (outs : OutsState) (holds : Holds w book) (served : IsServed w l k s) (plain : k.streams ≡ false)
    (apart : Apart s.node k.name b outs) (held : open_on w.slots k ≡ None) where
  abbrev Event : Type 0
  Event = IsEvent w book (events.Event.Step l Server given fresh) (steps.V w book l k s given fresh b outs holds served)

  sound : IsSound s.node
  sound = steps.sound w book l k s given fresh b outs holds served

  kind_of_wish : (words : List (List ℕ)) (wish : NodeAsk) (kind : Kind) (request : Request (List ℕ)) → AsksNode words wish → language.kind_to_node wish ≡ kind → language.Asks kind request → language.Asks (kind_of words) request
  kind_of_wish words wish kind request e is a = subst (λ z. language.Asks z request) (sym (ap kind_by e ∙ is)) a

  module _ (r : row.Synchronizes s.node k.name (unread k.ask) b outs) where
    quiet : Quiet w book l k s given fresh b outs holds served apart
    quiet = record { fed = ap (λ (o : OutsState). o.fed) r.outs_are; closed = no_names s.node outs.closed (ap (λ (o : OutsState). o.closed) r.outs_are); unused = ap (λ (o : OutsState). o.used) r.outs_are; none = ap (λ (o : OutsState). o.grown) r.outs_are }

    said : outs.reply ≡ r.text
    said = ap (λ (o : OutsState). o.reply) r.outs_are

    event : ServerRow (seen w book) (seen (steps.V w book l k s given fresh b outs holds served) book) k.to l (seen_link w.slots k) (seen_node s) given fresh → Event
    event x = steps.event w book l k s given fresh b outs holds served (steps.V w book l k s given fresh b outs holds served) book (steps.quiet_book w book l k s given fresh b outs holds served apart quiet) x

    becomes : (bytes : List ℕ) → outs.reply ≡ bytes
        → LinkBecomes (seen w book) (seen (steps.V w book l k s given fresh b outs holds served) book) l (rows.joined (seen_link w.slots k) (seen_way (used_on (length r.asks.text) k.ask)) bytes)
    becomes bytes e = steps.quiet_becomes w book l k s given fresh b outs holds served apart (rows.joined (seen_link w.slots k) (seen_way (used_on (length r.asks.text) k.ask)) bytes) quiet
        (node_is s b (filed outs s.file) s.node.core s.node.follow r.core r.leaves.follow)
        (steps.here_joined w book l k s given fresh b outs holds served r.asks.text r.rest held r.leaves.is r.asks.begins ∙ ap (rows.joined (seen_link w.slots k) (seen_way (used_on (length r.asks.text) k.ask))) e)

    abbrev uses : (query : Option (List ℕ × ℕ)) → IsWanted r.id r.wanted query → rows.Uses minired (seen_link w.slots k) (Psync query)
    uses query q = steps.uses_of w book l k s given fresh b outs holds served None held r.words r.rest r.asks (Psync query) (kind_of_wish r.words (node.Psync r.id r.wanted) (Kind.psync r.id r.wanted) (Psync query) r.wish refl (query, q, refl))

    goes_on : (id : List ℕ) (from : ℕ) → Wants r.id r.wanted id from → Continues (seen_node s) id from → r.text ≡ reply_line (reply.Continue s.node.core.lineage.id) ++ bytes_from s.node.core.lineage.stream from → Event
    goes_on id from q c is =
        let line = says_reply (reply.Continue s.node.core.lineage.id) sound.id in
        let counted = sound.window.counted in
        let place : from - first_of s.node.core.lineage.stream ≡ from + length s.node.core.lineage.stream.held - (s.node.core.lineage.stream.offset + 1) = omega (arith, counted) in
        event (ServerRow.goes_on (record {
          client = plain;
          master = r.master;
          id = id;
          from = from;
          uses = uses (Some (id, from)) q;
          continues = c;
          line = reply_line (reply.Continue s.node.core.lineage.id);
          says = record { said = status line.text; whole = line.whole; means = line.reads };
          becomes = becomes (reply_line (reply.Continue s.node.core.lineage.id) ++ history_node.tail (seen_node s) from)
              (said ∙ (is ∙ ap (λ z. reply_line (reply.Continue s.node.core.lineage.id) ++ drop z s.node.core.lineage.stream.held) place));
        }))

    answer : IsAnswerToPsync s.node.core.lineage s.node.core.held r.id r.wanted r.text → Event
    answer (IsAnswerToPsync.continues from is may text) = go may.known
      where
        first : s.node.core.lineage.stream.offset + 1 ≤ from + length s.node.core.lineage.stream.held
        first = let h = may.from_first in omega (arith, h)

        before : (o : Option (List ℕ × ℕ)) → s.node.core.lineage.second ≡ o → IfSome o (λ z. IsId z.0) → IsBefore o r.id from → Event
        before None e i h = absurd h
        before (Some z) e i h = goes_on z.0 from (record { is_id = i; id_is = h.0; offset_is = is }) (record { known = inr (z.1, e, h.1); from_first = first; to_end = may.to_next }) text

        go : IsKnown (standing_of s.node.core.lineage) r.id from → Event
        go (inl e) = goes_on s.node.core.lineage.id from (record { is_id = sound.id; id_is = e; offset_is = is }) (record { known = inl refl; from_first = first; to_end = may.to_next }) text
        go (inr h) = before s.node.core.lineage.second refl sound.second h
    answer (IsAnswerToPsync.resynchronizes none remakes counted text) =
        let line = says_reply (reply.FullResync s.node.core.lineage.id s.node.core.lineage.stream.offset) (sound.id, sound.window.countable) in
        let q = wanted_or r.id r.wanted in
        event (ServerRow.resynchronizes (record {
          client = plain;
          master = r.master;
          query = q.0;
          uses = uses q.0 q.1;
          apart = λ i o e c. refused i o (subst (IsWanted r.id r.wanted) e q.1) c;
          line = reply_line (reply.FullResync s.node.core.lineage.id s.node.core.lineage.stream.offset);
          says = record { said = status line.text; whole = line.whole; means = line.reads };
          snapshot = length_line (length (rebuilt s.node.core.held)) ++ rebuilt s.node.core.held;
          loads = record {
            line = length_line (length (rebuilt s.node.core.held));
            commands = rebuilt s.node.core.held;
            is = refl;
            says = says_length (length (rebuilt s.node.core.held)) counted;
            made = makes_again s.node.core.held remakes;
          };
          becomes = becomes (reply_line (reply.FullResync s.node.core.lineage.id s.node.core.lineage.stream.offset) ++ (length_line (length (rebuilt s.node.core.held)) ++ rebuilt s.node.core.held)) (said ∙ text);
        }))
      where
        known : (i : List ℕ) (o : ℕ) → Wants r.id r.wanted i o → (i ≡ s.node.core.lineage.id) ⊎ ((p : ℕ) × (s.node.core.lineage.second ≡ Some (i, p)) × (o ≤ p)) → IsKnown (standing_of s.node.core.lineage) r.id o
        known i o q (inl e) = inl (q.id_is ∙ ap digits_of e)
        known i o q (inr h) = inr (subst (λ z. IsBefore z r.id o) (sym h.1) (q.id_is, h.2))

        refused : (i : List ℕ) (o : ℕ) → Wants r.id r.wanted i o → Continues (seen_node s) i o → ⊥
        refused i o q c = none o q.offset_is (record { known = known i o q c.known; from_first = (let h = c.from_first in omega (arith, h)); to_next = c.to_end })

    pub synchronizes : Event
    synchronizes = answer r.answer

  -- ---- changes of roles
  pub promotes : entry_of w.book fresh ≡ None → row.Promotes s.node k.name (unread k.ask) fresh b outs → Event
  promotes undrawn r =
      let inner = holds.invariant.nodes k.to (seen_node s) (ap (option_map seen_node) served.at) served.up in
      let used : outs.used ≡ Some fresh = ap (λ (o : OutsState). o.used) r.outs_are in
      let fed : outs.fed ≡ [] = ap (λ (o : OutsState). o.fed) r.outs_are in
      let closed : outs.closed ≡ names_of (name_of s.node.follow) = ap (λ (o : OutsState). o.closed) r.outs_are in
      steps.event w book l k s given fresh b outs holds served (steps.V w book l k s given fresh b outs holds served) (with_history book fresh (record { start = inner.start; effects = inner.earlier }))
      (subst (λ u. IsBook (booked_as u w.book s.node.core.lineage.id s.node.core.lineage.stream.offset outs.grown) (with_history book fresh (record { start = inner.start; effects = inner.earlier }))) (sym used)
      (branched_kept w.book book s.node.core.lineage.id fresh s.node.core.lineage.stream.offset inner.start inner.earlier inner.later holds.kept inner.front undrawn))
      (ServerRow.promotes (record {
        client = plain;
        replica = r.replica;
        uses = steps.uses_of w book l k s given fresh b outs holds served None held r.words r.rest r.asks ReplicaOfNoOne (kind_of_wish r.words node.NoOne Kind.no_one ReplicaOfNoOne r.wish refl refl);
        nodes = steps.node_becomes w book l k s given fresh b outs holds served _
            (node_is s b (filed outs s.file) (record s.node.core { master = true; offers = true; upstream = None; mark = None; lineage = renamed fresh s.node.core.lineage }) None r.core r.follow);
        reply = outs.reply;
        links = steps.links_become w book l k s given fresh b outs holds served apart (answered (seen_link w.slots k) (seen_way (used_on (length r.asks.text) k.ask)) outs.reply) fed
            (subst (NoneServed s.node) (sym closed) (named_followed s.node s.node.follow sound.node.followed))
            (steps.here_answered w book l k s given fresh b outs holds served r.asks.text r.rest plain held r.ends.is r.asks.begins);
        book = branches w.book book s.node.core.lineage.id fresh s.node.core.lineage.stream.offset inner.start inner.earlier inner.later holds.kept inner.front undrawn;
      }))

  pub turns : row.Turns s.node k.name (unread k.ask) b outs → Event
  turns r =
      let fed : outs.fed ≡ [] = ap (λ (o : OutsState). o.fed) r.outs_are in
      let closed : outs.closed ≡ names_of (name_of s.node.follow) = ap (λ (o : OutsState). o.closed) r.outs_are in
      steps.event w book l k s given fresh b outs holds served (steps.V w book l k s given fresh b outs holds served) book
      (steps.quiet_book w book l k s given fresh b outs holds served apart (record { fed = fed; closed = subst (NoneServed s.node) (sym closed) (named_followed s.node s.node.follow sound.node.followed); unused = ap (λ (o : OutsState). o.used) r.outs_are; none = ap (λ (o : OutsState). o.grown) r.outs_are }))
      (ServerRow.turns (record {
        client = plain;
        replica = r.replica;
        host = address r.address.host r.address.port;
        another = other s.node.core.upstream refl sound.upstream;
        uses = steps.uses_of w book l k s given fresh b outs holds served None held r.words r.rest r.asks (ReplicaOf (address r.address.host r.address.port))
            (kind_of_wish r.words (node.ReplicaOf r.address.host r.address.port) (Kind.follow r.address.host r.address.port) (ReplicaOf (address r.address.host r.address.port)) r.wish refl refl);
        nodes = steps.node_becomes w book l k s given fresh b outs holds served _ (node_is s b (filed outs s.file) (record s.node.core { upstream = Some r.address }) None r.core r.follow);
        reply = outs.reply;
        links = steps.links_become w book l k s given fresh b outs holds served apart (answered (seen_link w.slots k) (seen_way (used_on (length r.asks.text) k.ask)) outs.reply) fed
            (subst (NoneServed s.node) (sym closed) (named_followed s.node s.node.follow sound.node.followed))
            (steps.here_answered w book l k s given fresh b outs holds served r.asks.text r.rest plain held r.ends.is r.asks.begins);
        book = λ i. refl;
      }))
    where
      empty_or : (h : List ℕ) (p : ℕ) → [] ≡ address h p → ⊥
      empty_or [] p e = absurd (cc)
      empty_or (x ∷ h) p e = absurd (cc)

      other : (o : Option AddressState) → s.node.core.upstream ≡ o → IfSome o (λ h. h.port < ports) → seen_host s.node.core.upstream ≢ address r.address.host r.address.port
      other None e h q = empty_or r.address.host r.address.port (sym (ap seen_host e) ∙ q)
      other (Some a) e h q = r.another (e ∙ ap (λ z. Some z) (one_address a r.address h r.port (sym (ap seen_host e) ∙ q)))

  pub demotes : row.Demotes s.node k.name (unread k.ask) b outs → Event
  demotes r =
      let fed : outs.fed ≡ [] = ap (λ (o : OutsState). o.fed) r.outs_are in
      steps.event w book l k s given fresh b outs holds served (steps.V w book l k s given fresh b outs holds served) book
      (steps.book_stays w.book book s.node outs holds.kept (ap (λ (o : OutsState). o.used) r.outs_are) (ap (λ (o : OutsState). o.grown) r.outs_are))
      (ServerRow.demotes (record {
        client = plain;
        master = r.master;
        host = address r.address.host r.address.port;
        uses = steps.uses_of w book l k s given fresh b outs holds served None held r.words r.rest r.asks (ReplicaOf (address r.address.host r.address.port))
            (kind_of_wish r.words (node.ReplicaOf r.address.host r.address.port) (Kind.follow r.address.host r.address.port) (ReplicaOf (address r.address.host r.address.port)) r.wish refl refl);
        nodes = steps.node_becomes w book l k s given fresh b outs holds served _
            (node_is s b (filed outs s.file) (record s.node.core { master = false; offers = true; upstream = Some r.address; mark = None }) s.node.follow r.core (r.follow ∙ sym (sound.node.nobody r.master)));
        reply = outs.reply;
        link = here (seen_link w.slots) (seen_link (steps.V w book l k s given fresh b outs holds served).slots) (reached k.to outs) w.links l (steps.m w book l k s given fresh b outs holds served) k served.found ∙ ap (λ z. Some z) (steps.here_answered w book l k s given fresh b outs holds served r.asks.text r.rest plain held r.ends.is r.asks.begins);
        no_links = λ j ne e. gone fed j ne ∙ ap (option_map (λ y. history.shut (hears k.to y) y)) e;
        links = λ j x ne e. gone fed j ne ∙ ap (option_map (λ y. history.shut (hears k.to y) y)) e;
        book = λ i. refl;
      }))
    where
      new : Link → history.Link
      new = seen_link (steps.V w book l k s given fresh b outs holds served).slots

      gone : outs.fed ≡ [] → (j : ℕ) → j ≢ l → option_map new (slice_get (slice_set (map (reached k.to outs) w.links) l (steps.m w book l k s given fresh b outs holds served)) j)
          ≡ option_map (λ y. history.shut (hears k.to y) y) (option_map (seen_link w.slots) (slice_get w.links j))
      gone fed j ne = others_there (seen_link w.slots) new (reached k.to outs) w.links l (steps.m w book l k s given fresh b outs holds served) (λ y. history.shut (hears k.to y) y) j ne
          (λ y f. shut_reached w holds.world k.to s served.at served.up (behind s b outs) outs j y f (steps.stays w book l k s given fresh b outs holds served apart j y ne f) fed r.closed)

  pub client_row : entry_of w.book fresh ≡ None → ClientRow s.node k.name (unread k.ask) given fresh b outs → Event
  client_row undrawn (ClientRow.serves r) = clients.serves w book l k s given fresh b outs holds served plain apart held r
  client_row undrawn (ClientRow.closes r) = clients.closes w book l k s given fresh b outs holds served plain apart held r
  client_row undrawn (ClientRow.halts r) = clients.halts w book l k s given fresh b outs holds served plain apart held r
  client_row undrawn (ClientRow.synchronizes r) = synchronizes r
  client_row undrawn (ClientRow.promotes r) = promotes undrawn r
  client_row undrawn (ClientRow.turns r) = turns r
  client_row undrawn (ClientRow.demotes r) = demotes r
  client_row undrawn (ClientRow.begins r) = clients.begins w book l k s given fresh b outs holds served plain apart held r

pub client_steps : ClientStepsAreRows
client_steps w book l k s given fresh b outs holds served agrees undrawn r =
    let at = at_client w holds.world l k s served (unread k.ask) agrees in
    client_row w book l k s given fresh b outs holds served at.0 (apart_client s.node k.name (unread k.ask) b outs given fresh r) at.1 undrawn r
