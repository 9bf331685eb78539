-- Each row of a step where a transaction is open is a row of histories.
use Rattle.std.proofs.Common.{◌≡◌, ◌≢◌, ◌+◌, ◌-◌, ◌≤◌, inl, inr, ℕ, List, [], ◌++◌, Bool, true, false, not, Option, None, Some, Result, Ok, Err, length, refl, sym, ap, subst, ◌∙◌, arith}
use Rattle.std.proofs.lemmas.Bool.{both_ways}
use Rattle.mr_effect.specs.declared.effect.Effect.{Effect}
use Rattle.mr_keyspace.specs.Dataset.{Dataset}
use Rattle.mr_data.specs.declared.given.Given.{Given}
use Rattle.mr_resp.specs.Replies.{Tree}
use Rattle.mr_arguments.specs.declared.fault.AskFault.{AskFault}
use Rattle.mr_cmd_server.specs.declared.server_ask.ServerAsk.{ServerAsk}
use Rattle.mr_cmd_server.specs.declared.server_ask.ServerAsk.TheVariants as server
use Rattle.mr_cmd_node.specs.declared.node_ask.NodeAsk.{NodeAsk}
use Rattle.mr_cmd_node.specs.declared.node_ask.NodeAsk.TheVariants as node
use Rattle.mr_ask.specs.Asks.{asked}
use Rattle.mr_ask.specs.declared.ask.Ask.{Ask}
use Rattle.mr_ask.specs.declared.ask.Ask.TheVariants as ask
use Rattle.mr_groups.specs.Groups.{as_group, group_texts, grown_text}
use Rattle.mr_commands.specs.Transactions.{Coming, DoesAll, coming, coming_by}
use Rattle.mr_commands.specs.Transactions.Coming.{waits, marks, nests, drops, ends, quits}
use Rattle.mr_commands.proofs.Doing.{do_nothing, do_so, have_none}
use Rattle.mr_repl.specs.Backlog.{IsWindow, last_of, offset_limit}
use Rattle.mr_repl.specs.Lineage.{grown}
use Rattle.mr_node_links.specs.State as ends
use Rattle.mr_node_links.specs.State.{with_text, as_marked}
use Rattle.mr_node_output.specs.Outs.{OutsState}
use Rattle.mr_node_spec.specs.State.{NodeState}
use Rattle.mr_node_spec.specs.Growing.{FedTo}
use Rattle.mr_node_spec.specs.Requests as requests
use Rattle.mr_node_spec.specs.ClientRows as client
use Rattle.mr_node_spec.specs.Transactions.{DropsBy, StandsBy, WithinRow, frame_of}
use Rattle.mr_node_spec.specs.Transactions as row
use Rattle.law_protocol.specs.Language.{Transaction}
use Rattle.law_protocol.specs.Language.Request.{Command, Quit}
use Rattle.law_protocol.specs.History.{Book}
use Rattle.law_protocol.specs.Node.{EndsAs}
use Rattle.law_protocol.specs.World as history
use Rattle.law_protocol.specs.Event as events
use Rattle.law_protocol.specs.Event.Side.{Server}
use Rattle.law_protocol.specs.Changing.{LinkBecomes}
use Rattle.law_protocol.specs.ServerRows as rows
use Rattle.law_protocol.specs.ServerRows.{ServerRow, answered, concluded}
use Rattle.law_minired.specs.Minired.{minired}
use Rattle.law_minired.specs.Changes.{HasEffects, HasThen, Leads, LeadsTo}
use Rattle.law_minired.specs.Requests.{Kind, kind_of, kind_by, kind_to_node, kind_to_server, within_kind}
use Rattle.law_minired.specs.Requests as language
use Rattle.law_minired.proofs.GoodGroups.{good_effects, good_as_group, as_group_applied, as_group_texts}
use Rattle.law_minired.proofs.Planned.{frame_within}
use Rattle.law_minired.proofs.Waited.{Sound, sound_all}
use Rattle.law_refinement.specs.Way.{unread, used_on}
use Rattle.law_refinement.specs.State.{Link, Slot, WorldState}
use Rattle.law_refinement.specs.Seeing.{seen, seen_way, seen_node, seen_transaction, open_on, seen_link}
use Rattle.law_refinement.specs.Carrying.{behind, filed}
use Rattle.law_refinement.specs.Events.{IsEvent, Holds, IsServed, WithinStepsAreRows}
use Rattle.law_refinement.proofs.Reading.{node_is}
use Rattle.law_refinement.proofs.Others.{Apart, no_names}
use Rattle.law_refinement.proofs.Beside.{apart_within, at_waiting}
use Rattle.law_refinement.proofs.Asking.{quit_kind}
use Rattle.law_refinement.proofs.Clients.{doomed_by, grown_none}
use Rattle.law_refinement.proofs.Steps as steps
use Rattle.law_refinement.proofs.Steps.{Quiet, ends_as}

-- ---- all but QUIT is a command
quit_to_node : (wish : NodeAsk) → kind_to_node wish ≡ Kind.quit → ⊥
quit_to_node (node.Psync id wanted) e = cc
quit_to_node (node.ReplConf told) e = cc
quit_to_node (node.Ack offset) e = cc
quit_to_node (node.ReplicaOf host port) e = cc
quit_to_node node.NoOne e = cc
quit_to_node node.Multi e = cc
quit_to_node node.Exec e = cc
quit_to_node node.Discard e = cc

quit_to_server : (replica : Bool) (x : ServerAsk) → kind_to_server x ≡ Kind.quit → coming_by replica (Ok (ask.Server x)) ≡ quits
quit_to_server replica (server.Ping None) e = absurd (cc)
quit_to_server replica (server.Ping (Some m)) e = absurd (cc)
quit_to_server replica (server.Echo m) e = absurd (cc)
quit_to_server replica server.Select e = absurd (cc)
quit_to_server replica server.Quit e = refl
quit_to_server replica server.BgRewriteAof e = absurd (cc)
quit_to_server replica (server.Info section) e = absurd (cc)
quit_to_server replica server.Role e = absurd (cc)
quit_to_server replica (server.Shutdown saving) e = absurd (cc)
quit_to_server replica (server.Command arguments) e = absurd (cc)
quit_to_server replica (server.ClientSetName label) e = absurd (cc)
quit_to_server replica (server.ClientSetInfo attribute value) e = absurd (cc)

quit_comes : (replica : Bool) (r : Result Ask AskFault) → kind_by r ≡ Kind.quit → coming_by replica r ≡ quits
quit_comes replica (Err f) e = absurd (cc)
quit_comes replica (Ok (ask.Texts c)) e = absurd (cc)
quit_comes replica (Ok (ask.Keys c)) e = absurd (cc)
quit_comes replica (Ok (ask.Hashes c)) e = absurd (cc)
quit_comes replica (Ok (ask.Lists c)) e = absurd (cc)
quit_comes replica (Ok (ask.Sets c)) e = absurd (cc)
quit_comes replica (Ok (ask.SortedSets c)) e = absurd (cc)
quit_comes replica (Ok (ask.Server x)) e = quit_to_server replica x e
quit_comes replica (Ok (ask.Node wish)) e = absurd (quit_to_node wish e)

other_kind : (c : Kind) → c ≢ Kind.quit → within_kind c ≡ Kind.command
other_kind Kind.handshake n = refl
other_kind (Kind.psync id wanted) n = refl
other_kind Kind.ack n = refl
other_kind Kind.no_one n = refl
other_kind (Kind.follow host port) n = refl
other_kind Kind.quit n = absurd (n refl)
other_kind Kind.command n = refl

-- ---- what a request that ends no transaction comes to
stands_on : (c : Coming) (text : List ℕ) (t next : ends.Transaction) (reply : Tree) → StandsBy c text t next reply → c ≢ quits
stands_on waits text t next reply h e = cc
stands_on (marks told) text t next reply h e = cc
stands_on nests text t next reply h e = cc
stands_on drops text t next reply h e = h
stands_on ends text t next reply h e = h
stands_on quits text t next reply h e = h

stands_leads : (c : Coming) (text : List ℕ) (t next : ends.Transaction) (reply : Tree) → StandsBy c text t next reply → LeadsTo c (Some (seen_transaction t)) text (Some (seen_transaction next))
stands_leads waits text t next reply h = ap (λ z. Some (seen_transaction z)) h.0
stands_leads (marks told) text t next reply h = ap (λ z. Some (seen_transaction z)) h.0
stands_leads nests text t next reply h = ap (λ z. Some (seen_transaction z)) h.0
stands_leads drops text t next reply h = absurd h
stands_leads ends text t next reply h = absurd h
stands_leads quits text t next reply h = absurd h

stands_none : (c : Coming) (text : List ℕ) (t next : ends.Transaction) (reply : Tree) → StandsBy c text t next reply → (room : ℕ) (m : Dataset) (given : Given) → HasThen c room (seen_transaction t) m given []
stands_none waits text t next reply h room m given = refl
stands_none (marks told) text t next reply h room m given = refl
stands_none nests text t next reply h room m given = refl
stands_none drops text t next reply h room m given = absurd h
stands_none ends text t next reply h room m given = absurd h
stands_none quits text t next reply h room m given = absurd h

-- .. and one that ends it, where nothing is done
drops_on : (c : Coming) (t : ends.Transaction) (reply : Tree) → DropsBy c t reply → c ≢ quits
drops_on waits t reply h e = h
drops_on (marks told) t reply h e = h
drops_on nests t reply h e = h
drops_on drops t reply h e = cc
drops_on ends t reply h e = cc
drops_on quits t reply h e = h

drops_leads : (c : Coming) (text : List ℕ) (t : ends.Transaction) (reply : Tree) → DropsBy c t reply → LeadsTo c (Some (seen_transaction t)) text None
drops_leads waits text t reply h = absurd h
drops_leads (marks told) text t reply h = absurd h
drops_leads nests text t reply h = absurd h
drops_leads drops text t reply h = refl
drops_leads ends text t reply h = refl
drops_leads quits text t reply h = absurd h

drops_none : (c : Coming) (t : ends.Transaction) (reply : Tree) → DropsBy c t reply → (room : ℕ) (m : Dataset) (given : Given) → HasThen c room (seen_transaction t) m given []
drops_none waits t reply h room m given = absurd h
drops_none (marks told) t reply h room m given = absurd h
drops_none nests t reply h room m given = absurd h
drops_none drops t reply h room m given = refl
drops_none ends t reply h room m given = inl (h.0, refl)
drops_none quits t reply h room m given = absurd h

ends_not : ends ≢ quits
ends_not e = cc

module _ (w : WorldState) (book : Book minired) (l : ℕ) (k : Link) (s : Slot) (t : ends.Transaction) (given : Given) (fresh : List ℕ) (b : NodeState) (outs : OutsState) (holds : Holds w book) (served : IsServed w l k s) (plain : k.streams ≡ false)
    (apart : Apart s.node k.name b outs) (held : open_on w.slots k ≡ Some (seen_transaction t)) where
  abbrev Event : Type 0
  Event = IsEvent w book (events.Event.Step l Server given fresh) (steps.V w book l k s given fresh b outs holds served)

  abbrev IsQuietStep : Type 0
  IsQuietStep = Quiet w book l k s given fresh b outs holds served apart

  abbrev room : ℕ
  room = offset_limit - s.node.core.lineage.stream.offset

  same_node : b.core ≡ s.node.core → b.follow ≡ s.node.follow → seen_node (behind s b outs) ≡ seen_node s
  same_node e f = node_is s b (filed outs s.file) s.node.core s.node.follow e f

  window : IsWindow s.node.core.lineage.stream
  window = (steps.sound w book l k s given fresh b outs holds served).window

  event : ServerRow (seen w book) (seen (steps.V w book l k s given fresh b outs holds served) book) k.to l (seen_link w.slots k) (seen_node s) given fresh → IsQuietStep → Event
  event row q = steps.event w book l k s given fresh b outs holds served (steps.V w book l k s given fresh b outs holds served) book (steps.quiet_book w book l k s given fresh b outs holds served apart q) row

  -- ---- a command
  module _ (words : List (List ℕ)) (rest : List ℕ) (asks : requests.Asks (unread k.ask) words rest) (other : coming (not s.node.core.master) words ≢ quits) where
    is_command : within_kind (kind_of words) ≡ Kind.command
    is_command = other_kind (kind_of words) (λ e. other (quit_comes (not s.node.core.master) (asked words) e))

    abbrev uses : rows.Uses minired (seen_link w.slots k) Command
    uses = steps.uses_of w book l k s given fresh b outs holds served (Some (seen_transaction t)) held words rest asks Command (subst (λ z. language.Asks z Command) (sym is_command) refl)

    leads : (master : Bool) (new : Option Transaction) → s.node.core.master ≡ master → LeadsTo (coming (not s.node.core.master) words) (Some (seen_transaction t)) asks.text new → Leads master (open_on w.slots k) asks.text new
    leads master new e to = subst (λ (o : Option Transaction). Leads master o asks.text new) (sym held)
        (record { words = words; request = asks.request; to = subst (λ z. LeadsTo (coming (not z) words) (Some (seen_transaction t)) asks.text new) e to })

    has : (groups : List (List Effect)) → HasThen (coming false words) room (seen_transaction t) s.node.core.held given groups → HasEffects room (open_on w.slots k) asks.text s.node.core.held given groups
    has groups then = subst (λ (o : Option Transaction). HasEffects room o asks.text s.node.core.held given groups) (sym held) (record { words = words; request = asks.request; then = then })

    -- nothing is done, and this is open from now on
    record Concludes (new : Option Transaction) : Type 0 where
      leads_to : LeadsTo (coming (not s.node.core.master) words) (Some (seen_transaction t)) asks.text new
      none : s.node.core.master ≡ true → HasThen (coming false words) room (seen_transaction t) s.node.core.held given []
      core : b.core ≡ s.node.core
      follow : b.follow ≡ s.node.follow
      link : seen_link (steps.V w book l k s given fresh b outs holds served).slots (steps.m w book l k s given fresh b outs holds served)
          ≡ concluded (seen_link w.slots k) (seen_way (used_on (length asks.text) k.ask)) outs.reply new
      quiet : IsQuietStep
      closed : outs.closed ≡ []

    concludes : (new : Option Transaction) → Concludes new → Event
    concludes new h = go s.node.core.master refl
      where
        go : (c : Bool) → s.node.core.master ≡ c → Event
        go false e = event (ServerRow.answers (record {
          client = plain;
          replica = e;
          uses = uses;
          transaction = new;
          leads = leads false new e h.leads_to;
          reply = outs.reply;
          becomes = steps.quiet_becomes w book l k s given fresh b outs holds served apart (concluded (seen_link w.slots k) (seen_way (used_on (length asks.text) k.ask)) outs.reply new) h.quiet (same_node h.core h.follow) h.link;
        })) h.quiet
        go true e = steps.runs_nothing w book l k s given fresh b outs holds served apart uses new plain e (record { effects = has [] (h.none e); leads = leads true new e h.leads_to; link = h.link }) h.quiet (same_node h.core h.follow) h.closed

  -- ---- the rows
  quiet_of : outs.fed ≡ [] → outs.closed ≡ [] → outs.used ≡ None → outs.grown ≡ [] → IsQuietStep
  quiet_of fed closed unused none = record { fed = fed; closed = no_names s.node outs.closed closed; unused = unused; none = none }

  at_master : (P : Bool → Type 0) → P (not s.node.core.master) → s.node.core.master ≡ true → P false
  at_master P h e = subst (λ z. P (not z)) e h

  stands : row.Stands s.node k.name t (unread k.ask) b outs → Event
  stands r = concludes r.words r.rest r.asks (stands_on (coming (not s.node.core.master) r.words) r.asks.text t r.next r.reply r.stands) (Some (seen_transaction r.next)) (record {
    leads_to = stands_leads (coming (not s.node.core.master) r.words) r.asks.text t r.next r.reply r.stands;
    none = λ e. stands_none (coming false r.words) r.asks.text t r.next r.reply (at_master (λ z. StandsBy (coming z r.words) r.asks.text t r.next r.reply) r.stands e) room s.node.core.held given;
    core = r.core;
    follow = r.leaves.follow;
    link = steps.here_waiting w book l k s given fresh b outs holds served r.next r.asks.text r.rest plain (apart.up ∙ served.up) r.leaves.is r.asks.begins;
    quiet = quiet_of (ap (λ (o : OutsState). o.fed) r.outs_are) (ap (λ (o : OutsState). o.closed) r.outs_are) (ap (λ (o : OutsState). o.used) r.outs_are) (ap (λ (o : OutsState). o.grown) r.outs_are);
    closed = ap (λ (o : OutsState). o.closed) r.outs_are;
  })

  dropped : row.Drops s.node k.name t (unread k.ask) b outs → Event
  dropped r = concludes r.words r.rest r.asks (drops_on (coming (not s.node.core.master) r.words) t r.reply r.drops) None (record {
    leads_to = drops_leads (coming (not s.node.core.master) r.words) r.asks.text t r.reply r.drops;
    none = λ e. drops_none (coming false r.words) t r.reply (at_master (λ z. DropsBy (coming z r.words) t r.reply) r.drops e) room s.node.core.held given;
    core = r.core;
    follow = r.leaves.follow;
    link = steps.here_client w book l k s given fresh b outs holds served r.asks.text r.rest plain r.leaves.is r.asks.begins;
    quiet = quiet_of (ap (λ (o : OutsState). o.fed) r.outs_are) (ap (λ (o : OutsState). o.closed) r.outs_are) (ap (λ (o : OutsState). o.used) r.outs_are) (ap (λ (o : OutsState). o.grown) r.outs_are);
    closed = ap (λ (o : OutsState). o.closed) r.outs_are;
  })

  passes : row.Passes s.node k.name t (unread k.ask) b outs → Event
  passes r =
      let q = quiet_of (ap (λ (o : OutsState). o.fed) r.outs_are) (ap (λ (o : OutsState). o.closed) r.outs_are) (ap (λ (o : OutsState). o.used) r.outs_are) (ap (λ (o : OutsState). o.grown) r.outs_are) in
      let way = seen_way (used_on (length r.asks.text) k.ask) in
      event (ServerRow.skips (record {
        uses = steps.uses_none w book l k s given fresh b outs holds served r.rest r.asks;
        becomes = steps.quiet_becomes w book l k s given fresh b outs holds served apart (record (seen_link w.slots k) { ask = way }) q (same_node r.core r.leaves.follow)
            (steps.here_waiting w book l k s given fresh b outs holds served t r.asks.text r.rest plain (apart.up ∙ served.up) r.leaves.is r.asks.begins
            ∙ (ap (λ z. concluded (seen_link w.slots k) way outs.reply z) (sym held)
            ∙ (ap (answered (seen_link w.slots k) way) (ap (λ (o : OutsState). o.reply) r.outs_are) ∙ steps.answered_nothing w book l k s given fresh b outs holds served way)));
      })) q

  -- ---- what waits is done
  module _ (r : row.Executes s.node k.name t (unread k.ask) given b outs) where
    other : coming (not s.node.core.master) r.words ≢ quits
    other e = ends_not (sym r.runs ∙ e)

    leads_out : LeadsTo (coming (not s.node.core.master) r.words) (Some (seen_transaction t)) r.asks.text None
    leads_out = subst (λ z. LeadsTo z (Some (seen_transaction t)) r.asks.text None) (sym r.runs) refl

    link : seen_link (steps.V w book l k s given fresh b outs holds served).slots (steps.m w book l k s given fresh b outs holds served)
        ≡ concluded (seen_link w.slots k) (seen_way (used_on (length r.asks.text) k.ask)) outs.reply None
    link = steps.here_client w book l k s given fresh b outs holds served r.asks.text r.rest plain r.leaves.is r.asks.begins

    grows_by : outs.grown ≡ grown_text r.effects
    grows_by = ap (λ (o : OutsState). o.grown) r.outs_are

    -- a replica does nothing
    on_replica : s.node.core.master ≡ false → Event
    on_replica e =
        let none : r.effects ≡ [] = have_none (frame_of s.node) (not s.node.core.master) given t.queued [] s.node.core.held r.held r.replies r.effects (ap not e) r.does in
        let same : r.held ≡ s.node.core.held = do_nothing (frame_of s.node) (not s.node.core.master) given t.queued [] s.node.core.held r.held r.replies r.effects none r.does in
        concludes r.words r.rest r.asks other None (record {
          leads_to = leads_out;
          none = λ m. absurd (both_ways s.node.core.master e m);
          core = r.core ∙ (ap (λ (es : List Effect). record s.node.core { held = r.held; lineage = grown s.node.core.lineage (grown_text es) }) none ∙ grown_none s.node.core r.held window same);
          follow = r.leaves.follow;
          link = link;
          quiet = quiet_of (subst (λ (es : List Effect). FedTo (grown_text es) s.node outs.fed) none r.fed) (ap (λ (o : OutsState). o.closed) r.outs_are) (ap (λ (o : OutsState). o.used) r.outs_are) (grows_by ∙ ap grown_text none);
          closed = ap (λ (o : OutsState). o.closed) r.outs_are;
        })

    -- a master's stream grows by the effects as one group
    module _ (master : s.node.core.master ≡ true) where
      does : DoesAll (frame_within room) false given t.queued [] s.node.core.held r.replies r.effects r.held
      does =
          let countable = window.countable in
          do_so (frame_of s.node) (frame_within room) false given (λ es h. omega (arith, h)) (λ es h. omega (arith, h, countable)) (λ question reply h. tt) t.queued [] s.node.core.held r.held r.replies r.effects
          (subst (λ z. DoesAll (frame_of s.node) (not z) given t.queued [] s.node.core.held r.replies r.effects r.held) master r.does)

      sound : Sound (frame_within room) false given [] s.node.core.held r.effects r.held
      sound = sound_all (frame_within room) false given t.queued [] s.node.core.held r.held r.replies r.effects does

      texts_are : grown_text r.effects ≡ group_texts (as_group r.effects)
      texts_are = sym (as_group_texts r.effects)

      few : s.node.core.lineage.stream.offset + length (grown_text r.effects) ≤ offset_limit
      few =
          let countable = window.countable in
          let fits : length (grown_text r.effects) ≤ room = sound.fits (omega arith) in
          omega (arith, fits, countable)

      then : HasThen (coming false r.words) room (seen_transaction t) s.node.core.held given (as_group r.effects)
      then = subst (λ z. HasThen z room (seen_transaction t) s.node.core.held given (as_group r.effects)) (sym (at_master (λ z. coming z r.words ≡ ends) r.runs master))
          (inr (r.whole, record { replies = r.replies; effects = r.effects; held = r.held; does = does; as_one = refl }))

      on_master : Event
      on_master = steps.runs w book l k s given fresh b outs holds served apart (uses r.words r.rest r.asks other) (as_group r.effects) None r.held
          (last_of s.node.core.lineage.stream.capacity (s.node.core.lineage.stream.held ++ grown_text r.effects)) plain master
          (record { effects = has r.words r.rest r.asks other (as_group r.effects) then; leads = leads r.words r.rest r.asks other true None master leads_out; link = link })
          (record {
            good = good_as_group r.effects sound.join (good_effects r.effects s.node.core.held r.held sound.leads sound.short);
            leads = as_group_applied r.effects s.node.core.held r.held sound.leads;
            within = subst (λ (z : List ℕ). s.node.core.lineage.stream.offset + length z ≤ offset_limit) texts_are few;
            last_bytes = subst (λ (z : List ℕ). EndsAs s.node.core.lineage.stream.held z (last_of s.node.core.lineage.stream.capacity (s.node.core.lineage.stream.held ++ grown_text r.effects))) texts_are
                (ends_as s.node.core.lineage.stream.capacity s.node.core.lineage.stream.held (grown_text r.effects));
            node = node_is s b (filed outs s.file) (record s.node.core { held = r.held; lineage = grown s.node.core.lineage (grown_text r.effects) }) s.node.follow r.core r.leaves.follow
                ∙ ap (λ (z : List ℕ). record (seen_node s) {
                  held = r.held;
                  offset = s.node.core.lineage.stream.offset + length z;
                  backlog = last_of s.node.core.lineage.stream.capacity (s.node.core.lineage.stream.held ++ grown_text r.effects);
                }) texts_are;
            fed = subst (λ z. FedTo z s.node outs.fed) (sym grows_by) r.fed;
            grown_is = grows_by ∙ texts_are;
            closed = ap (λ (o : OutsState). o.closed) r.outs_are;
            unused = ap (λ (o : OutsState). o.used) r.outs_are;
          })

    executes : Event
    executes = go s.node.core.master refl
      where
        go : (c : Bool) → s.node.core.master ≡ c → Event
        go false e = on_replica e
        go true e = on_master e

  -- ---- the link ends
  closes : client.Closes s.node k.name (unread k.ask) b outs → Event
  closes r = go r.ends
    where
      quiet : IsQuietStep
      quiet = quiet_of (ap (λ (o : OutsState). o.fed) r.outs_are) (ap (λ (o : OutsState). o.closed) r.outs_are) (ap (λ (o : OutsState). o.used) r.outs_are) (ap (λ (o : OutsState). o.grown) r.outs_are)

      gone : LinkBecomes (seen w book) (seen (steps.V w book l k s given fresh b outs holds served) book) l (history.shut true (history.told (seen_link w.slots k) outs.reply))
      gone = steps.quiet_becomes w book l k s given fresh b outs holds served apart (history.shut true (history.told (seen_link w.slots k) outs.reply)) quiet (same_node r.core r.follow)
          (steps.here_shut w book l k s given fresh b outs holds served r.shut.is)

      go : client.Ends (unread k.ask) r.last → Event
      go (client.Ends.doomed fault d last) = event (ServerRow.faults (record { client = plain; doomed = doomed_by (unread k.ask) fault d; reply = outs.reply; becomes = gone })) quiet
      go (client.Ends.quit words rest asks q last) = event (ServerRow.quits (record {
        client = plain;
        uses = steps.uses_of w book l k s given fresh b outs holds served (Some (seen_transaction t)) held words rest asks Quit (subst (λ z. language.Asks (within_kind z) Quit) (sym (quit_kind (asked words) q)) refl);
        reply = outs.reply;
        becomes = gone;
      })) quiet

  pub within_row : WithinRow s.node k.name t (unread k.ask) given b outs → Event
  within_row (WithinRow.stands r) = stands r
  within_row (WithinRow.passes r) = passes r
  within_row (WithinRow.drops r) = dropped r
  within_row (WithinRow.executes r) = executes r
  within_row (WithinRow.closes r) = closes r

pub within_steps : WithinStepsAreRows
within_steps w book l k s t given fresh b outs holds served agrees r =
    let at = at_waiting w holds.world l k s served t (unread k.ask) agrees in
    within_row w book l k s t given fresh b outs holds served at.0 (apart_within s.node k.name (unread k.ask) b outs t given r) at.1 r
