-- Each row of a step at a replica's end is a row of histories; and so are steps that find nothing whole, and stops.
use Rattle.std.proofs.Common.{◌≡◌, ◌≢◌, inl, inr, ℕ, ℤ, List, [], ◌++◌, true, false, Option, None, Some, Result, Ok, Err, length, length-append, append_assoc, refl, sym, ap, subst, ◌∙◌, arith}
use Rattle.std.proofs.lemmas.List.{append-nil}
use Rattle.mr_data.specs.declared.given.Given.{Given}
use Rattle.mr_inline.specs.Language.{IsDoomed}
use Rattle.mr_resp.specs.Request.{IsText}
use Rattle.mr_resp.specs.Usual.{usual}
use Rattle.mr_resp.proofs.OneAnswer.{same_texts}
use Rattle.mr_cmd_server.specs.declared.server_ask.ServerAsk.{ServerAsk}
use Rattle.mr_cmd_server.specs.declared.server_ask.ServerAsk.TheVariants as server
use Rattle.mr_cmd_node.specs.declared.node_ask.NodeAsk.TheVariants as node
use Rattle.mr_ask.specs.Asks.{asked}
use Rattle.mr_ask.specs.declared.ask.Ask.{Ask}
use Rattle.mr_ask.specs.declared.ask.Ask.TheVariants as ask
use Rattle.mr_arguments.specs.declared.fault.AskFault.{AskFault}
use Rattle.mr_node_output.specs.Outs.{OutsState, no_outs}
use Rattle.mr_node_spec.specs.State.{NodeState}
use Rattle.mr_node_spec.specs.Requests.{Waits}
use Rattle.mr_node_spec.specs.ReplicaRows as row
use Rattle.mr_node_spec.specs.ReplicaRows.{ReplicaRow}
use Rattle.mr_node_spec.specs.ClientRows.{Idles}
use Rattle.law_protocol.specs.Language.{Request, Transaction}
use Rattle.law_protocol.specs.Language.Request.{Ack, Empty}
use Rattle.law_protocol.specs.History.{Book}
use Rattle.law_protocol.specs.World as history
use Rattle.law_protocol.specs.Event as events
use Rattle.law_protocol.specs.Event.Side.{Server}
use Rattle.law_protocol.specs.Changing.{LinkBecomes}
use Rattle.law_protocol.specs.ServerRows as rows
use Rattle.law_protocol.specs.ServerRows.{ServerRow}
use Rattle.law_minired.specs.Minired.{minired}
use Rattle.law_minired.specs.Requests.{Kind, kind_of, kind_by, kind_to_server, IsAsked}
use Rattle.law_minired.specs.Requests as language
use Rattle.law_refinement.specs.Way.{unread, used_on}
use Rattle.law_refinement.specs.State.{Link, Slot, WorldState}
use Rattle.law_refinement.specs.Seeing.{seen, seen_way, seen_node, open_on, seen_link}
use Rattle.law_refinement.specs.Carrying.{filed, put_node}
use Rattle.law_refinement.specs.Events.{IsEvent, Holds, IsServed, ReplicaStepsAreRows, IdleStepsAreRows, StopsAreRows}
use Rattle.law_refinement.proofs.Seen.{same_each}
use Rattle.law_refinement.proofs.Reading.{node_is, still_at}
use Rattle.law_refinement.proofs.Others.{Apart, no_names, all_seen}
use Rattle.law_refinement.proofs.Beside.{apart_replica, at_replica, keeps_all}
use Rattle.law_refinement.proofs.Stopping.{node_stops}
use Rattle.law_refinement.proofs.Asking.{asks_some}
use Rattle.law_refinement.proofs.Clients.{doomed_by}
use Rattle.law_refinement.proofs.Steps as steps
use Rattle.law_refinement.proofs.Steps.{Quiet}

-- ---- what acknowledges
ack_server : (x : ServerAsk) → kind_to_server x ≡ Kind.ack → ⊥
ack_server (server.Ping None) e = cc
ack_server (server.Ping (Some m)) e = cc
ack_server (server.Echo m) e = cc
ack_server server.Select e = cc
ack_server server.Quit e = cc
ack_server server.BgRewriteAof e = cc
ack_server (server.Info section) e = cc
ack_server server.Role e = cc
ack_server (server.Shutdown saving) e = cc
ack_server (server.Command arguments) e = cc
ack_server (server.ClientSetName label) e = cc
ack_server (server.ClientSetInfo attribute value) e = cc

ack_asked : (r : Result Ask AskFault) → kind_by r ≡ Kind.ack → (offset : ℤ) × (r ≡ Ok (ask.Node (node.Ack offset)))
ack_asked (Err f) e = absurd (cc)
ack_asked (Ok (ask.Texts c)) e = absurd (cc)
ack_asked (Ok (ask.Keys c)) e = absurd (cc)
ack_asked (Ok (ask.Hashes c)) e = absurd (cc)
ack_asked (Ok (ask.Lists c)) e = absurd (cc)
ack_asked (Ok (ask.Sets c)) e = absurd (cc)
ack_asked (Ok (ask.SortedSets c)) e = absurd (cc)
ack_asked (Ok (ask.Server x)) e = absurd (ack_server x e)
ack_asked (Ok (ask.Node (node.Psync id wanted))) e = absurd (cc)
ack_asked (Ok (ask.Node (node.ReplConf told))) e = absurd (cc)
ack_asked (Ok (ask.Node (node.Ack offset))) e = (offset, refl)
ack_asked (Ok (ask.Node (node.ReplicaOf host port))) e = absurd (cc)
ack_asked (Ok (ask.Node node.NoOne)) e = absurd (cc)
ack_asked (Ok (ask.Node node.Multi)) e = absurd (cc)
ack_asked (Ok (ask.Node node.Exec)) e = absurd (cc)
ack_asked (Ok (ask.Node node.Discard)) e = absurd (cc)

asks_ack : (k : Kind) → (asks_some k).0 ≡ Ack → k ≡ Kind.ack
unfolding asks_some
asks_ack Kind.handshake e = absurd (cc)
asks_ack (Kind.psync id wanted) e = absurd (cc)
asks_ack Kind.ack e = refl
asks_ack Kind.no_one e = absurd (cc)
asks_ack (Kind.follow host port) e = absurd (cc)
asks_ack Kind.quit e = absurd (cc)
asks_ack Kind.command e = absurd (cc)

asks_empty : (k : Kind) → (asks_some k).0 ≢ Empty
unfolding asks_some
asks_empty Kind.handshake e = cc
asks_empty (Kind.psync id wanted) e = cc
asks_empty Kind.ack e = cc
asks_empty Kind.no_one e = cc
asks_empty (Kind.follow host port) e = cc
asks_empty Kind.quit e = cc
asks_empty Kind.command e = cc

-- ---- what waits
is_text : (n : Option Transaction) (t : List ℕ) (a : Request (List ℕ)) → IsAsked n t a → IsText usual t
is_text n t a (IsAsked.by_words ws r e) = inl (ws, r)
is_text n t a (IsAsked.by_nothing none e) = inr none

-- no request begins what waits
waits_none : (n : Option Transaction) (u : List ℕ) → Waits u → (text rest : List ℕ) (request : Request (List ℕ)) → IsAsked n text request → u ≡ text ++ rest → ⊥
waits_none n u w text rest request asks e =
    let c = w.more in
    let q : u ++ c.more ≡ text ++ (rest ++ c.more) = ap (λ z. z ++ c.more) e ∙ append_assoc text rest c.more in
    let same : text ≡ u ++ c.more = same_texts usual text (u ++ c.more) (rest ++ c.more) [] (is_text n text request asks) c.whole (sym q ∙ sym (append-nil (u ++ c.more))) in
    let a : length (u ++ c.more) ≡ length (text ++ (rest ++ c.more)) = ap length q in
    let b = length-append text (rest ++ c.more) in
    let d = length-append rest c.more in
    let g : length text ≡ length (u ++ c.more) = ap length same in
    let some = c.some in
    omega (arith, some, a, b, d, g)

-- .. and it isn't doomed
waits_hopeful : (u : List ℕ) → Waits u → IsDoomed (IsText usual) u → ⊥
waits_hopeful u w d = let c = w.more in d.never c.more (u ++ c.more) [] c.whole (sym (append-nil (u ++ c.more)))

module _ (w : WorldState) (book : Book minired) (l : ℕ) (k : Link) (s : Slot) (given : Given) (fresh : List ℕ) (b : NodeState) (outs : OutsState) (holds : Holds w book) (served : IsServed w l k s) where
  -- ---- nothing is given out
  event : ServerRow (seen w book) (seen (put_node w k.to s b) book) k.to l (seen_link w.slots k) (seen_node s) given fresh → IsEvent w book (events.Event.Step l Server given fresh) (put_node w k.to s b)
  event row = steps.event w book l k s given fresh b outs holds served (put_node w k.to s b) book holds.kept row

  pub idles : Idles s.node (unread k.ask) b → IsEvent w book (events.Event.Step l Server given fresh) (put_node w k.to s b)
  idles r = event (ServerRow.idles (record {
    none = waits_none (open_on w.slots k) (unread k.ask) r.waits;
    hopeful = waits_hopeful (unread k.ask) r.waits;
    still = record {
      nodes = still_at seen_node w.slots k.to (record s { node = b }) s served.at (ap (λ z. seen_node (record s { node = z })) r.same);
      links = same_each (seen_link w.slots) (seen_link (put_node w k.to s b).slots) w.links
          (all_seen w holds.world k.to s served.at served.up (record s { node = b }) (keeps_all s.node b (ap (λ (z : NodeState). z.core.up) r.same) (ap (λ (z : NodeState). z.ends) r.same)));
      book = λ i. refl;
    };
  }))

  pub stops : b.core.up ≡ false → IsEvent w book (events.Event.Step l Server given fresh) (put_node w k.to s b)
  stops down = event (ServerRow.stops (node_stops w holds.world book k.to s b served.at down))

  -- ---- a replica's end
  module _ (streams : k.streams ≡ true) (apart : Apart s.node k.name b outs) where
    held : open_on w.slots k ≡ None
    held = at_replica w holds.world l k s served streams

    done : Quiet w book l k s given fresh b outs holds served apart → ServerRow (seen w book) (seen (steps.V w book l k s given fresh b outs holds served) book) k.to l (seen_link w.slots k) (seen_node s) given fresh
        → IsEvent w book (events.Event.Step l Server given fresh) (steps.V w book l k s given fresh b outs holds served)
    done q x = steps.event w book l k s given fresh b outs holds served (steps.V w book l k s given fresh b outs holds served) book (steps.quiet_book w book l k s given fresh b outs holds served apart q) x

    module _ (r : row.Notes s.node k.name (unread k.ask) b outs) where
      quiet : Quiet w book l k s given fresh b outs holds served apart
      quiet = record { fed = ap (λ (o : OutsState). o.fed) r.outs_are; closed = no_names s.node outs.closed (ap (λ (o : OutsState). o.closed) r.outs_are); unused = ap (λ (o : OutsState). o.used) r.outs_are; none = ap (λ (o : OutsState). o.grown) r.outs_are }

      becomes : (text : List ℕ) → unread k.ask ≡ text ++ r.rest → LinkBecomes (seen w book) (seen (steps.V w book l k s given fresh b outs holds served) book) l (record (seen_link w.slots k) { ask = seen_way (used_on (length text) k.ask) })
      becomes text e = steps.quiet_becomes w book l k s given fresh b outs holds served apart (record (seen_link w.slots k) { ask = seen_way (used_on (length text) k.ask) }) quiet
          (node_is s b (filed outs s.file) s.node.core s.node.follow r.core r.leaves.follow)
          (steps.here_joined w book l k s given fresh b outs holds served text r.rest held r.leaves.is e
          ∙ (ap (rows.joined (seen_link w.slots k) (seen_way (used_on (length text) k.ask))) (ap (λ (o : OutsState). o.reply) r.outs_are)
          ∙ (ap (λ z. record (rows.answered (seen_link w.slots k) (seen_way (used_on (length text) k.ask)) []) { streams = z }) (sym streams)
          ∙ steps.answered_nothing w book l k s given fresh b outs holds served (seen_way (used_on (length text) k.ask)))))

      pub notes : row.IsExpected (unread k.ask) r.rest → IsEvent w book (events.Event.Step l Server given fresh) (steps.V w book l k s given fresh b outs holds served)
      notes (row.IsExpected.acknowledgement words offset asks wish) = done quiet (ServerRow.notes (record {
        streams = streams;
        uses = steps.uses_of w book l k s given fresh b outs holds served None held words r.rest asks Ack (subst (λ z. language.Asks z Ack) (sym (ap kind_by wish)) refl);
        becomes = becomes asks.text asks.begins;
      }))
      notes (row.IsExpected.nothing asks) = done quiet (ServerRow.skips (record { uses = steps.uses_none w book l k s given fresh b outs holds served r.rest asks; becomes = becomes asks.text asks.begins }))

    pub parts : row.Parts s.node k.name (unread k.ask) b outs → IsEvent w book (events.Event.Step l Server given fresh) (steps.V w book l k s given fresh b outs holds served)
    parts r = done unheard (ServerRow.shuts (record {
      streams = streams;
      unwanted = unwanted r.unwanted;
      becomes = steps.quiet_becomes w book l k s given fresh b outs holds served apart (history.shut true (seen_link w.slots k)) unheard (node_is s b (filed outs s.file) s.node.core s.node.follow r.core r.follow)
          (steps.here_shut w book l k s given fresh b outs holds served r.shut.is ∙ (ap (λ z. history.shut true (history.told (seen_link w.slots k) z)) (ap (λ (o : OutsState). o.reply) r.outs_are)
          ∙ ap (λ z. history.shut true (record (seen_link w.slots k) { tell = record (seen_way k.tell) { left = z } })) (append-nil (seen_way k.tell).left)));
    }))
      where
        unheard : Quiet w book l k s given fresh b outs holds served apart
        unheard = record { fed = ap (λ (o : OutsState). o.fed) r.outs_are; closed = no_names s.node outs.closed (ap (λ (o : OutsState). o.closed) r.outs_are); unused = ap (λ (o : OutsState). o.used) r.outs_are; none = ap (λ (o : OutsState). o.grown) r.outs_are }

        unwanted : row.IsUnwanted (unread k.ask) → rows.Unwanted minired (seen_link w.slots k)
        unwanted (row.IsUnwanted.doomed fault d) = rows.Unwanted.doomed (doomed_by (unread k.ask) fault d)
        unwanted (row.IsUnwanted.other words rest asks no_ack) = let a = asks_some (kind_of words) in
            rows.Unwanted.other a.0 (steps.uses_of w book l k s given fresh b outs holds served None held words rest asks a.0 a.1)
            (λ e. let o = ack_asked (asked words) (asks_ack (kind_of words) e) in no_ack o.0 o.1) (asks_empty (kind_of words))

    pub replica_row : ReplicaRow s.node k.name (unread k.ask) b outs → IsEvent w book (events.Event.Step l Server given fresh) (steps.V w book l k s given fresh b outs holds served)
    replica_row (ReplicaRow.notes r) = notes r r.expected
    replica_row (ReplicaRow.parts r) = parts r

pub replica_steps : ReplicaStepsAreRows
replica_steps w book l k s given fresh b outs holds served streams r = replica_row w book l k s given fresh b outs holds served streams (apart_replica s.node k.name (unread k.ask) b outs r) r

pub idle_steps : IdleStepsAreRows
idle_steps w book l k s given fresh b holds served r = idles w book l k s given fresh b no_outs holds served r

pub stopped_steps : StopsAreRows
stopped_steps w book l k s given fresh b holds served down = stops w book l k s given fresh b no_outs holds served down
