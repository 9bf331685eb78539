-- A step at an end that a node serves, as histories see it.
use Rattle.std.proofs.Common.{◌≡◌, ◌≢◌, ◌+◌, ◌-◌, ◌≤◌, ℕ, List, [], ◌∷◌, ◌++◌, Bool, true, false, cond, Option, None, Some, length, take, take-append-drop, refl, sym, ap, subst, ◌∙◌, arith, All}
use Rattle.std.specs.Prelude.{slice_get, slice_set, bytes_eq, map}
use Rattle.std.specs.Option.{option_map}
use Rattle.std.proofs.lemmas.List.{append-nil}
use Rattle.std.proofs.lemmas.List.Elements.{All-nil}
use Rattle.mr_effect.specs.declared.effect.Effect.{Effect}
use Rattle.mr_keyspace.specs.Dataset.{Dataset}
use Rattle.mr_data.specs.declared.given.Given.{Given}
use Rattle.mr_repl.specs.Backlog.{last_of, offset_limit}
use Rattle.mr_groups.specs.Groups.{IsGoodGroup, group_texts}
use Rattle.mr_groups.specs.Folding.{apply_groups}
use Rattle.mr_node_links.specs.State.{EndState}
use Rattle.mr_node_links.specs.State as ends
use Rattle.mr_node_links.specs.State.EndState.{client, waiting, replica, shut}
use Rattle.mr_node_links.specs.Replicas.{is_named}
use Rattle.mr_node_output.specs.Outs.{OutsState}
use Rattle.mr_node_spec.specs.State.{NodeState, end_of}
use Rattle.mr_node_spec.specs.Sound.{IsSound}
use Rattle.mr_node_spec.specs.Requests.{AsksNothing}
use Rattle.mr_node_spec.specs.Requests as requests
use Rattle.mr_node_spec.specs.Growing.{FedTo}
use Rattle.law_protocol.specs.Language.{Request, Transaction}
use Rattle.law_protocol.specs.Language.Request.{Empty, Command}
use Rattle.law_protocol.specs.Changes.{SetAt}
use Rattle.law_protocol.specs.History.{Book}
use Rattle.law_protocol.specs.Node as history_node
use Rattle.law_protocol.specs.Node.{EndsAs}
use Rattle.law_protocol.specs.World as history
use Rattle.law_protocol.specs.World.{told_if, hears}
use Rattle.law_protocol.specs.Event as events
use Rattle.law_protocol.specs.Event.Side.{Server}
use Rattle.law_protocol.specs.Changing.{LinkBecomes}
use Rattle.law_protocol.specs.Changing.Unless.{acts}
use Rattle.law_protocol.specs.ServerRows as rows
use Rattle.law_protocol.specs.ServerRows.{ServerRow, answered, concluded}
use Rattle.law_minired.specs.Minired.{minired}
use Rattle.law_minired.specs.Changes.{HasEffects, Leads}
use Rattle.law_minired.specs.Requests.{kind_in, IsAsked}
use Rattle.law_minired.specs.Requests as language
use Rattle.law_refinement.specs.Way.{unread, used_on}
use Rattle.law_refinement.specs.State.{Link, Slot, BookEntry, WorldState}
use Rattle.law_refinement.specs.Seeing.{seen, seen_way, seen_node, seen_transaction, open_in, open_at, open_on, link_with, seen_link}
use Rattle.law_refinement.specs.Books.{IsBook, extended}
use Rattle.law_refinement.specs.Carrying.{stepped, settled, told, reached, behind, booked, booked_as}
use Rattle.law_refinement.specs.Events.{IsEvent, Holds, IsServed}
use Rattle.law_refinement.proofs.Seen.{put_at}
use Rattle.law_refinement.proofs.Reading.{reads_on, set_as, still_at, client_seen, waiting_seen, joined_seen, shut_seen}
use Rattle.law_refinement.proofs.Open.{cond_same, now_here, same_end}
use Rattle.law_refinement.proofs.Unaccepted.{served_to}
use Rattle.law_refinement.proofs.Others.{Apart, NoneServed, unreached_seen, fed_reached, others_there, here, served_end}
use Rattle.law_refinement.proofs.Singles.{fold_is}
use Rattle.law_refinement.proofs.Keeping.{with_history, extended_kept, extends}

-- texts that are none change no entry
pub extended_none : (es : List BookEntry) (id : List ℕ) → extended es id [] ≡ es
extended_none [] id = refl
extended_none (e ∷ es) id = go (bytes_eq e.id id) (extended_none es id)
  where
    go : (b : Bool) → extended es id [] ≡ es → cond b (record e { texts = e.texts ++ [] } ∷ es) (e ∷ extended es id []) ≡ e ∷ es
    go true h = ap (λ z. record e { texts = z } ∷ es) (append-nil e.texts)
    go false h = ap (λ z. e ∷ z) h

pub map_same : {A : Type 0} (o : Option A) → option_map (λ x. x) o ≡ o
map_same None = refl
map_same (Some x) = refl

-- the book stays where nothing grew
pub book_stays : (es : List BookEntry) (book : Book minired) (a : NodeState) (outs : OutsState) → IsBook es book → outs.used ≡ None → outs.grown ≡ [] → IsBook (booked es a outs) book
book_stays es book a outs kept unused none = subst (λ z. IsBook z book) (sym (ap (λ u. booked_as u es a.core.lineage.id a.core.lineage.stream.offset outs.grown) unused
    ∙ (ap (extended es a.core.lineage.id) none ∙ extended_none es a.core.lineage.id))) kept

-- the last of some bytes are their end
pub ends_as : (n : ℕ) (old bytes : List ℕ) → EndsAs old bytes (last_of n (old ++ bytes))
ends_as n old bytes = (take (length (old ++ bytes) - n) (old ++ bytes), sym (take-append-drop (length (old ++ bytes) - n) (old ++ bytes)))

module _ (w : WorldState) (book : Book minired) (l : ℕ) (k : Link) (s : Slot) (given : Given) (fresh : List ℕ) (b : NodeState) (outs : OutsState) (holds : Holds w book) (served : IsServed w l k s) where
  abbrev pub V : WorldState
  V = stepped w k.to s l k b outs

  pub sound : IsSound s.node
  sound = holds.world.nodes k.to s served.at served.up

  pub event : (v : WorldState) (new_book : Book minired) → IsBook v.book new_book → ServerRow (seen w book) (seen v new_book) k.to l (seen_link w.slots k) (seen_node s) given fresh → IsEvent w book (events.Event.Step l Server given fresh) v
  event v new_book kept row = record {
    new_book = new_book;
    kept = kept;
    row = record {
      at = record { link = seen_link w.slots k; found = ap (option_map (seen_link w.slots)) served.found; n = k.to; to = served_to w holds.world l k served.found served.serving; serving = served.serving; node = seen_node s; node_found = ap (option_map seen_node) served.at };
      does = acts served.up row;
    };
  }

  -- the link behind the step
  abbrev pub m : Link
  m = settled (end_of b k.name) (told outs.reply k)

  -- what is open there
  now_open : (e : Option EndState) → end_of b k.name ≡ e → open_on V.slots k ≡ cond b.core.up (open_in e) None
  now_open e is = now_here w.slots k.to s (behind s b outs) served.at k refl
      ∙ (ap (λ c. cond c (open_at (Some (behind s b outs)) k.name) None) served.serving ∙ ap (λ o. cond b.core.up (open_in o) None) is)

  pub here_client : (text rest : List ℕ) → k.streams ≡ false → end_of b k.name ≡ Some (client rest) → unread k.ask ≡ text ++ rest
      → seen_link V.slots m ≡ concluded (seen_link w.slots k) (seen_way (used_on (length text) k.ask)) outs.reply None
  here_client text rest c is e = ap (λ o. link_with o m) (ap (λ z. open_on V.slots (settled z (told outs.reply k))) is ∙ (now_open (Some (client rest)) is ∙ cond_same b.core.up None))
      ∙ client_seen k outs.reply (holds.world.asks l k served.found) (holds.world.tells l k served.found) None (end_of b k.name) text rest c is e

  -- .. where nothing was open
  pub here_answered : (text rest : List ℕ) → k.streams ≡ false → open_on w.slots k ≡ None → end_of b k.name ≡ Some (client rest) → unread k.ask ≡ text ++ rest
      → seen_link V.slots m ≡ answered (seen_link w.slots k) (seen_way (used_on (length text) k.ask)) outs.reply
  here_answered text rest c held is e = here_client text rest c is e ∙ ap (λ z. concluded (seen_link w.slots k) (seen_way (used_on (length text) k.ask)) outs.reply z) (sym held)

  pub here_waiting : (t : ends.Transaction) (text rest : List ℕ) → k.streams ≡ false → b.core.up ≡ true → end_of b k.name ≡ Some (waiting t rest) → unread k.ask ≡ text ++ rest
      → seen_link V.slots m ≡ concluded (seen_link w.slots k) (seen_way (used_on (length text) k.ask)) outs.reply (Some (seen_transaction t))
  here_waiting t text rest c up is e = ap (λ o. link_with o m) (ap (λ z. open_on V.slots (settled z (told outs.reply k))) is
      ∙ (now_open (Some (waiting t rest)) is ∙ ap (λ z. cond z (Some (seen_transaction t)) None) up))
      ∙ waiting_seen k outs.reply (holds.world.asks l k served.found) (holds.world.tells l k served.found) (Some (seen_transaction t)) (end_of b k.name) t text rest c is e

  pub here_joined : (text rest : List ℕ) → open_on w.slots k ≡ None → end_of b k.name ≡ Some (replica rest) → unread k.ask ≡ text ++ rest → seen_link V.slots m ≡ rows.joined (seen_link w.slots k) (seen_way (used_on (length text) k.ask)) outs.reply
  here_joined text rest held is e = ap (λ o. link_with o m) (ap (λ z. open_on V.slots (settled z (told outs.reply k))) is ∙ (now_open (Some (replica rest)) is ∙ cond_same b.core.up None))
      ∙ (joined_seen k outs.reply (holds.world.asks l k served.found) (holds.world.tells l k served.found) None (end_of b k.name) text rest is e
      ∙ ap (λ o. rows.joined (link_with o k) (seen_way (used_on (length text) k.ask)) outs.reply) (sym held))

  pub here_shut : end_of b k.name ≡ Some shut → seen_link V.slots m ≡ history.shut true (history.told (seen_link w.slots k) outs.reply)
  here_shut is = ap (λ o. link_with o m) (ap (λ z. open_on V.slots (settled z (told outs.reply k))) is)
      ∙ shut_seen k outs.reply (holds.world.asks l k served.found) (holds.world.tells l k served.found) (open_on w.slots k) (end_of b k.name) is

  pub node_becomes : (a : history_node.Node minired) → seen_node (behind s b outs) ≡ a → SetAt (seen w book).node (seen V book).node k.to a
  node_becomes a e = set_as (λ n. option_map seen_node (slice_get w.slots n)) (λ n. option_map seen_node (slice_get (slice_set w.slots k.to (behind s b outs)) n)) k.to (seen_node (behind s b outs)) a
      (put_at seen_node w.slots k.to (behind s b outs) s served.at) e

  -- ---- what is used, in this transaction or in none
  abbrev pub uses_of : (t : Option Transaction) → open_on w.slots k ≡ t → (words : List (List ℕ)) (rest : List ℕ) (a : requests.Asks (unread k.ask) words rest) (request : Request (List ℕ)) → language.Asks (kind_in t words) request
      → rows.Uses minired (seen_link w.slots k) request
  uses_of t held words rest a request asks = record {
    text = a.text;
    asks = subst (λ (o : Option Transaction). IsAsked o a.text request) (sym held) (IsAsked.by_words words a.request asks);
    left = seen_way (used_on (length a.text) k.ask);
    reads = reads_on k.ask a.text rest a.begins;
  }

  abbrev pub uses_none : (rest : List ℕ) (a : AsksNothing (unread k.ask) rest) → rows.Uses minired (seen_link w.slots k) Empty
  uses_none rest a = record { text = a.text; asks = IsAsked.by_nothing a.empty refl; left = seen_way (used_on (length a.text) k.ask); reads = reads_on k.ask a.text rest a.begins }

  -- nothing is said
  pub answered_nothing : (way : history.Way) → answered (seen_link w.slots k) way [] ≡ record (seen_link w.slots k) { ask = way }
  answered_nothing way = ap (λ z. record (seen_link w.slots k) { ask = way; tell = record (seen_way k.tell) { left = z } }) (append-nil (seen_way k.tell).left)

  -- ---- the other links
  module _ (apart : Apart s.node k.name b outs) where
    pub stays : (j : ℕ) (y : Link) → j ≢ l → slice_get w.links j ≡ Some y → is_named outs.closed y.name ≡ false → y.to ≡ k.to → y.serving ≡ true → open_at (Some (behind s b outs)) y.name ≡ open_at (Some s) y.name
    stays j y ne found named to q =
        let e = served_end w holds.world k.to s served.at served.up j y found to q in
        same_end s (behind s b outs) y.name apart.up
        (apart.others y.name y.streams e.0 (unread y.ask) (λ n. ne (holds.world.names j l y k found served.found q served.serving to n)) named e.1 ∙ sym e.1)

    -- no other link is reached
    pub record Quiet : Type 0 where
      pub fed : outs.fed ≡ []
      pub closed : NoneServed s.node outs.closed
      pub unused : outs.used ≡ None
      pub none : outs.grown ≡ []

    pub links_become : (x : history.Link) → outs.fed ≡ [] → NoneServed s.node outs.closed → seen_link V.slots m ≡ x → SetAt (seen w book).link (seen V book).link l x
    links_become x fed closed e = (
      here (seen_link w.slots) (seen_link V.slots) (reached k.to outs) w.links l m k served.found ∙ ap (λ z. Some z) e,
      λ j ne. others_there (seen_link w.slots) (seen_link V.slots) (reached k.to outs) w.links l m (λ y. y) j ne
          (λ y f. unreached_seen w holds.world k.to s served.at served.up (behind s b outs) outs j y f (stays j y ne f) fed closed) ∙ map_same (option_map (seen_link w.slots) (slice_get w.links j)),
    )

    pub quiet_becomes : (x : history.Link) → Quiet → seen_node (behind s b outs) ≡ seen_node s → seen_link V.slots m ≡ x → LinkBecomes (seen w book) (seen V book) l x
    quiet_becomes x q same e = record {
      nodes = still_at seen_node w.slots k.to (behind s b outs) s served.at same;
      links = links_become x q.fed q.closed e;
      book = λ i. refl;
    }

    pub quiet_book : Quiet → IsBook V.book book
    quiet_book q = book_stays w.book book s.node outs holds.kept q.unused q.none

    -- ---- a master's stream grows, by groups
    pub record Grows (groups : List (List Effect)) (held : Dataset) (backlog : List ℕ) : Type 0 where
      pub good : All IsGoodGroup groups
      pub leads : apply_groups groups s.node.core.held ≡ Some held
      pub within : s.node.core.lineage.stream.offset + length (group_texts groups) ≤ offset_limit
      pub last_bytes : EndsAs s.node.core.lineage.stream.held (group_texts groups) backlog
      pub node : seen_node (behind s b outs) ≡ record (seen_node s) { held = held; offset = s.node.core.lineage.stream.offset + length (group_texts groups); backlog = backlog }
      pub fed : FedTo outs.grown s.node outs.fed
      pub grown_is : outs.grown ≡ group_texts groups
      pub closed : outs.closed ≡ []
      pub unused : outs.used ≡ None

    -- a command has them, and leaves this open
    pub record Has (uses : rows.Uses minired (seen_link w.slots k) Command) (groups : List (List Effect)) (transaction : Option Transaction) : Type 0 where
      pub effects : HasEffects (offset_limit - s.node.core.lineage.stream.offset) (open_on w.slots k) uses.text s.node.core.held given groups
      pub leads : Leads true (open_on w.slots k) uses.text transaction
      pub link : seen_link V.slots m ≡ concluded (seen_link w.slots k) uses.left outs.reply transaction

    pub runs : (uses : rows.Uses minired (seen_link w.slots k) Command) (groups : List (List Effect)) (transaction : Option Transaction) (held : Dataset) (backlog : List ℕ)
        → k.streams ≡ false → s.node.core.master ≡ true → Has uses groups transaction → Grows groups held backlog → IsEvent w book (events.Event.Step l Server given fresh) V
    runs uses groups transaction held backlog c master has g =
        let node = holds.invariant.nodes k.to (seen_node s) (ap (option_map seen_node) served.at) served.up in
        let there = node.front.found in
        event V (with_history book s.node.core.lineage.id (record { start = node.start; effects = (node.earlier ++ node.later) ++ groups }))
        (subst (λ u. IsBook (booked_as u w.book s.node.core.lineage.id s.node.core.lineage.stream.offset outs.grown) (with_history book s.node.core.lineage.id (record { start = node.start; effects = (node.earlier ++ node.later) ++ groups })))
        (sym g.unused) (extended_kept w.book book s.node.core.lineage.id outs.grown groups (record { start = node.start; effects = node.earlier ++ node.later }) holds.kept there g.grown_is))
        (ServerRow.runs (record {
          client = c;
          master = master;
          uses = uses;
          effects = groups;
          of_request = has.effects;
          grown = record {
            good = g.good;
            within = g.within;
            held = held;
            folds = fold_is groups s.node.core.held ∙ g.leads;
            backlog = backlog;
            last_bytes = g.last_bytes;
            nodes = node_becomes (record (seen_node s) { held = held; offset = s.node.core.lineage.stream.offset + length (group_texts groups); backlog = backlog }) g.node;
            book = extends w.book book s.node.core.lineage.id groups (record { start = node.start; effects = node.earlier ++ node.later }) there;
          };
          transaction = transaction;
          leads = has.leads;
          reply = outs.reply;
          link = here (seen_link w.slots) (seen_link V.slots) (reached k.to outs) w.links l m k served.found ∙ ap (λ z. Some z) has.link;
          no_links = λ j ne e. fed_there j ne ∙ ap (option_map (λ y. told_if (hears k.to y) y outs.grown)) e;
          links = λ j x ne e. fed_there j ne ∙ (ap (option_map (λ y. told_if (hears k.to y) y outs.grown)) e ∙ ap (λ z. Some (told_if (hears k.to x) x z)) g.grown_is);
        }))
      where
        fed_there : (j : ℕ) → j ≢ l → option_map (seen_link V.slots) (slice_get (slice_set (map (reached k.to outs) w.links) l m) j) ≡ option_map (λ y. told_if (hears k.to y) y outs.grown) (option_map (seen_link w.slots) (slice_get w.links j))
        fed_there j ne = others_there (seen_link w.slots) (seen_link V.slots) (reached k.to outs) w.links l m (λ y. told_if (hears k.to y) y outs.grown) j ne
            (λ y f. fed_reached w holds.world k.to s served.at served.up (behind s b outs) outs j y f (stays j y ne f) g.fed g.closed)

    -- .. or by nothing
    pub runs_nothing : (uses : rows.Uses minired (seen_link w.slots k) Command) (transaction : Option Transaction) → k.streams ≡ false → s.node.core.master ≡ true → Has uses [] transaction → Quiet → seen_node (behind s b outs) ≡ seen_node s
        → outs.closed ≡ [] → IsEvent w book (events.Event.Step l Server given fresh) V
    runs_nothing uses transaction c master has quiet same closed =
        let place : s.node.core.lineage.stream.offset ≡ s.node.core.lineage.stream.offset + 0 = omega arith in
        let countable = sound.window.countable in
        runs uses [] transaction s.node.core.held s.node.core.lineage.stream.held c master has (record {
          good = All-nil IsGoodGroup;
          leads = refl;
          within = omega (arith, countable);
          last_bytes = ([], append-nil s.node.core.lineage.stream.held);
          node = same ∙ ap (λ z. record (seen_node s) { offset = z }) place;
          fed = subst (λ z. FedTo z s.node outs.fed) (sym quiet.none) quiet.fed;
          grown_is = quiet.none;
          closed = closed;
          unused = quiet.unused;
        })
