-- Each outcome of a step at the link to a node's master is a row of histories.
use Rattle.std.proofs.Common.{◌≡◌, ◌≢◌, ◌+◌, ◌⊎◌, inl, inr, ℕ, List, [], ◌++◌, Bool, true, false, cond, Option, None, Some, Ok, length, length-append, refl, sym, ap, subst, ◌∙◌, arith}
use Rattle.std.specs.Prelude.{slice_get, slice_set, bytes_eq, IfSome, IsSome}
use Rattle.std.specs.Option.{option_map}
use Rattle.std.proofs.lemmas.List.{append-nil}
use Rattle.mr_links.specs.declared.link_id.LinkId.{LinkId}
use Rattle.mr_links.specs.Links.{Links}
use Rattle.mr_keyspace.specs.Dataset.{Dataset}
use Rattle.mr_data.specs.declared.given.Given.{Given}
use Rattle.mr_repl.specs.Backlog.{last_of}
use Rattle.mr_repl.specs.Lineage.{renamed}
use Rattle.mr_groups.specs.Groups.{group_text}
use Rattle.mr_peer_lines.specs.Lines.{status}
use Rattle.mr_peer_lines.proofs.Answers.{answer_or}
use Rattle.mr_follower.specs.State.{FollowState, Agrees, AgreesBy, IsOffer}
use Rattle.mr_follower.specs.Handshake.{IsGreeting, next_of, line_after, psync_line}
use Rattle.mr_follower.specs.Rows as follow
use Rattle.mr_follower.specs.declared.taking.Taking.{Taking}
use Rattle.mr_follower.specs.declared.phase.Phase.{Phase}
use Rattle.mr_follower.specs.declared.phase.Phase.TheVariants as phase
use Rattle.mr_replication.specs.State.{CourseState, FitsIn, offer_of, left, spoiled, grows, reads_on, continues_as, adopts}
use Rattle.mr_replication.specs.Rows as course
use Rattle.mr_replication.specs.declared.upstream.UpstreamStep.{UpstreamStep}
use Rattle.mr_replication.specs.declared.upstream.UpstreamStep.TheVariants as outcome
use Rattle.mr_node_links.specs.State.{EndState}
use Rattle.mr_node_links.specs.State.EndState.{upstream}
use Rattle.mr_node_output.specs.Outs.{OutsState, no_outs}
use Rattle.mr_node_spec.specs.State.{NodeState, FollowedAt, course_of, end_of}
use Rattle.mr_node_spec.specs.Sound.{IsReading}
use Rattle.mr_node_spec.specs.UpstreamRows as row
use Rattle.mr_node_spec.specs.UpstreamRows.{node_behind, outs_behind}
use Rattle.law_protocol.specs.Language.{Line}
use Rattle.law_protocol.specs.Language.Line.{Refusal}
use Rattle.law_protocol.specs.Language.Request.{Handshake, Psync}
use Rattle.law_protocol.specs.History.{Book}
use Rattle.law_protocol.specs.Node as history_node
use Rattle.law_protocol.specs.Node.{at_phase, wanted}
use Rattle.law_protocol.specs.Node.Phase.{Greet, Asked, Loading, Stream}
use Rattle.law_protocol.specs.World as history
use Rattle.law_protocol.specs.Event as events
use Rattle.law_protocol.specs.Event.Side.{Dialler}
use Rattle.law_protocol.specs.Changing.{Still, NodeBecomes}
use Rattle.law_protocol.specs.Changing.Unless.{acts}
use Rattle.law_protocol.specs.FollowerRows as rows
use Rattle.law_protocol.specs.FollowerRows.{FollowerRow, FollowerBecomes, asked, BadAnswer, BadStream}
use Rattle.law_minired.specs.Minired.{minired}
use Rattle.law_minired.specs.Requests.{IsAsked}
use Rattle.law_minired.specs.Lines.{Means}
use Rattle.law_refinement.specs.Way.{unread, sent_on, used_on, left_on}
use Rattle.law_refinement.specs.State.{Link, Slot, WorldState}
use Rattle.law_refinement.specs.Seeing.{seen, seen_way, seen_node, open_on, link_with, seen_link, seen_follow, seen_phase}
use Rattle.law_refinement.specs.Books.{IsBook}
use Rattle.law_refinement.specs.Carrying.{behind, followed, heard_as, unread_count, count_by, put_node}
use Rattle.law_refinement.specs.Worlds.{IsWorld}
use Rattle.law_refinement.specs.Events.{IsEvent, Holds, IsFollowed, MasterStepsAreRows, WaitsAreRows, LacksAreUnseen, SpendsAreRows, MasterStopsAreRows}
use Rattle.law_refinement.proofs.Places.{some_is}
use Rattle.law_refinement.proofs.Seen.{put_at, put_by, sent_seen}
use Rattle.law_refinement.proofs.Unread.{left_used}
use Rattle.law_refinement.proofs.Reading.{reads_on as reads_way, set_as, still_at, still_by}
use Rattle.law_refinement.proofs.Open.{open_stays}
use Rattle.law_refinement.proofs.Others.{KeepsEnds, kept_open, all_seen}
use Rattle.law_refinement.proofs.Beside.{keeps_all, keeps_behind}
use Rattle.law_refinement.proofs.Stopping.{node_stops}
use Rattle.law_refinement.proofs.Steps.{ends_as}
use Rattle.law_refinement.proofs.Lines.{port_asks, capabilities_ask, psync_asks, psync_all_asks}
use Rattle.law_refinement.proofs.Hearing as hearing
use Rattle.law_refinement.proofs.Leaving as leaving

-- how many bytes are unread is what is counted
counted_by : (p : Phase) (t : Option Taking) (kept u : List ℕ) → AgreesBy p t kept u → count_by t (length kept) ≡ length u
counted_by p None kept u e = sym (ap length e)
counted_by phase.Ping (Some t) kept u e = absurd e
counted_by phase.Port (Some t) kept u e = absurd e
counted_by phase.Capabilities (Some t) kept u e = absurd e
counted_by phase.Psync (Some t) kept u e = absurd e
counted_by (phase.Snapshot id offset) (Some t) kept u e =
    let all : length u ≡ length e.line + length (e.front ++ kept) = ap length e.is ∙ length-append e.line (e.front ++ kept) in
    let rest = length-append e.front kept in
    let head = e.head in
    let done = e.done in
    omega (arith, all, rest, head, done)
counted_by phase.Stream (Some t) kept u e = absurd e

pub counted : (f : FollowState) (u : List ℕ) → Agrees f u → unread_count f ≡ length u
counted f u a = counted_by f.phase f.taking f.kept u a.by

no_offer : (p : List ℕ × ℕ) → ◌≡◌ {A = Option (List ℕ × ℕ)} None (Some p) → ⊥
no_offer p e = cc

-- a node on another course, with another dataset
abbrev pub on_course : Slot → CourseState → Dataset → history_node.Node minired
on_course s c m = record (seen_node s) {
  master = c.master;
  offers = c.offers;
  id = c.lineage.id;
  offset = c.lineage.stream.offset;
  second = c.lineage.second;
  backlog = c.lineage.stream.held;
  held = m;
  follow = seen_follow s.dialled c.follow;
}

continued_seen : (s : Slot) (id : List ℕ) (follow : Option (LinkId × FollowState)) → on_course s (record (continues_as id (course_of s.node)) { follow = follow }) s.node.core.held
    ≡ record (history_node.continued (seen_node s) id) { follow = seen_follow s.dialled follow }
continued_seen s id follow = go (bytes_eq s.node.core.lineage.id id)
  where
    go : (c : Bool) → on_course s (record (course_of s.node) { lineage = cond c s.node.core.lineage (renamed id s.node.core.lineage); follow = follow }) s.node.core.held
        ≡ record (cond c (seen_node s) (record (seen_node s) { id = id; second = Some (s.node.core.lineage.id, s.node.core.lineage.stream.offset + 1) })) { follow = seen_follow s.dialled follow }
    go true = refl
    go false = refl

module _ (w : WorldState) (book : Book minired) (n : ℕ) (s : Slot) (k : Link) (name : LinkId) (f : FollowState) (b : NodeState) (outs : OutsState)
    (holds : Holds w book) (is : IsFollowed w n s k) (following : s.node.follow ≡ Some (name, f)) (keeps : KeepsEnds s.node b) where
  abbrev V : WorldState
  V = followed w n s k b outs

  reading : IsReading s.node f
  reading = subst (λ o. IfSome o (λ g. IsReading s.node g.1)) following (holds.world.nodes n s is.at is.up).reading

  agrees : Agrees f (unread k.tell)
  agrees = let h = holds.world.followers n s name f is.at is.up following in
      subst (λ (z : Link). Agrees f (unread z.tell)) (some_is h.link k (sym h.found ∙ is.found)) h.agrees

  -- what is open at the ends that the node serves stays
  links_stay : (j : ℕ) (y : Link) → slice_get w.links j ≡ Some y → seen_link V.slots y ≡ seen_link w.slots y
  links_stay j y found = all_seen w holds.world n s is.at is.up (behind s b outs) keeps j y found

  open_stay : open_on V.slots k ≡ open_on w.slots k
  open_stay = open_stays w.slots n s (behind s b outs) is.at k (kept_open w holds.world n s is.at is.up (behind s b outs) keeps s.dialled k is.found)

  -- ---- the node and the link behind it
  node_is : (c d : CourseState) (m : Dataset) (ends : Links EndState) → b ≡ node_behind s.node c b.core.held ends → c ≡ d → b.core.held ≡ m → seen_node (behind s b outs) ≡ on_course s d m
  node_is c d m ends e q h = ap (λ (z : NodeState). seen_node (record s { node = z })) e ∙ (ap (λ (z : CourseState). on_course s z b.core.held) q ∙ ap (λ (z : Dataset). on_course s d z) h)

  follow_is : (c d : CourseState) (ends : Links EndState) → b ≡ node_behind s.node c b.core.held ends → c ≡ d → b.follow ≡ d.follow
  follow_is c d ends e q = ap (λ (z : NodeState). z.follow) e ∙ ap (λ (z : CourseState). z.follow) q

  link_is : (g : FollowState) (text rest : List ℕ) → b.follow ≡ Some (name, g) → Agrees g rest → unread k.tell ≡ text ++ rest → seen_link V.slots (heard_as b.follow outs.reply k) ≡ asked (seen_link w.slots k) (seen_way (used_on (length text) k.tell)) outs.reply
  link_is g text rest e a u = ap (λ z. seen_link V.slots (heard_as z outs.reply k)) e
      ∙ (ap (λ o. link_with o (record k { ask = sent_on outs.reply k.ask; tell = left_on (unread_count g) k.tell })) open_stay
      ∙ (ap (λ z. record (seen_link w.slots k) { ask = z; tell = seen_way (left_on (unread_count g) k.tell) }) (sent_seen k.ask outs.reply (holds.world.asks s.dialled k is.found))
      ∙ ap (λ z. record (seen_link w.slots k) { ask = record (seen_way k.ask) { left = (seen_way k.ask).left ++ outs.reply }; tell = seen_way z }) (left_used k.tell text rest (unread_count g) (holds.world.tells s.dialled k is.found) u (counted g rest a))))

  becomes : (a : history_node.Node minired) (way : history.Way) (bytes : List ℕ) → outs.reply ≡ bytes → seen_node (behind s b outs) ≡ a → seen_link V.slots (heard_as b.follow outs.reply k) ≡ asked (seen_link w.slots k) way outs.reply
      → FollowerBecomes (seen w book) (seen V book) n s.dialled a (asked (seen_link w.slots k) way bytes)
  becomes a way bytes said e q = record {
    nodes = set_as (λ m. option_map seen_node (slice_get w.slots m)) (λ m. option_map seen_node (slice_get (slice_set w.slots n (behind s b outs)) m)) n (seen_node (behind s b outs)) a
        (put_at seen_node w.slots n (behind s b outs) s is.at) e;
    links = set_as (λ j. option_map (seen_link w.slots) (slice_get w.links j)) (λ j. option_map (seen_link V.slots) (slice_get (slice_set w.links s.dialled (heard_as b.follow outs.reply k)) j)) s.dialled (seen_link V.slots (heard_as b.follow outs.reply k))
        (asked (seen_link w.slots k) way bytes) (put_by (seen_link w.slots) (seen_link V.slots) w.links s.dialled (heard_as b.follow outs.reply k) k is.found (λ j y ne e. links_stay j y e)) (q ∙ ap (asked (seen_link w.slots k) way) said);
    book = λ i. refl;
  }

  -- ---- nothing is used
  same_follow : (g : FollowState) → g.phase ≡ f.phase → seen_follow s.dialled (Some (name, g)) ≡ seen_follow s.dialled s.node.follow
  same_follow g e = ap (λ z. Some (record { link = s.dialled; phase = seen_phase z })) e ∙ sym (ap (seen_follow s.dialled) following)

  untaken : used_on 0 k.tell ≡ k.tell
  untaken = let none : k.tell.used + 0 ≡ k.tell.used = omega arith in ap (λ z. record k.tell { used = z }) none

  still : (c : CourseState) (g : FollowState) (ends : Links EndState) → b ≡ node_behind s.node c b.core.held ends → c ≡ reads_on name g (course_of s.node) → b.core.held ≡ s.node.core.held → g.phase ≡ f.phase → Agrees g (unread k.tell) → outs.reply ≡ []
      → Still (seen w book) (seen V book)
  still c g ends e q h p a none = record {
    nodes = still_at seen_node w.slots n (behind s b outs) s is.at (node_is c (reads_on name g (course_of s.node)) s.node.core.held ends e q h ∙ ap (λ z. record (seen_node s) { follow = z }) (same_follow g p));
    links = still_by (seen_link w.slots) (seen_link V.slots) w.links s.dialled (heard_as b.follow outs.reply k) k is.found
        (link_is g [] (unread k.tell) (follow_is c (reads_on name g (course_of s.node)) ends e q) a refl
        ∙ (ap (asked (seen_link w.slots k) (seen_way (used_on 0 k.tell))) none
        ∙ (ap (λ z. record (seen_link w.slots k) { ask = record (seen_way k.ask) { left = z }; tell = seen_way (used_on 0 k.tell) }) (append-nil (seen_way k.ask).left)
        ∙ ap (λ z. record (seen_link w.slots k) { tell = seen_way z }) untaken))) (λ j y ne f. links_stay j y f);
    book = λ i. refl;
  }

  pub lacks : (c : CourseState) (g : FollowState) (told : List ℕ) (ends : Links EndState) → b ≡ node_behind s.node c b.core.held ends → outs.reply ≡ [] → course.Lacks (course_of s.node) s.node.core.held name f (unread k.tell) g c b.core.held told
      → Still (seen w book) (seen V book)
  lacks c g told ends e none r = still c g ends e r.is r.stays.held r.stays.state.waits r.stays.state.agrees none

  pub agreed : Agrees f (unread k.tell)
  agreed = agrees

  module _ (given : Given) (fresh : List ℕ) where
    abbrev Event : WorldState → Type 0
    Event v = IsEvent w book (events.Event.Step s.dialled Dialler given fresh) v

    event : (v : WorldState) → v.book ≡ w.book → FollowerRow (seen w book) (seen v book) n s.dialled (seen_node s) (seen_phase f.phase) (seen_link w.slots k) → Event v
    event v same row = record {
      new_book = book;
      kept = subst (λ z. IsBook z book) (sym same) holds.kept;
      row = record {
        at = record { link = seen_link w.slots k; found = ap (option_map (seen_link w.slots)) is.found; n = n; node = seen_node s; node_found = ap (option_map seen_node) is.at; phase = seen_phase f.phase; follow = ap (seen_follow s.dialled) following };
        does = acts is.up row;
      };
    }

    pub idles : (c : CourseState) (g : FollowState) (told : List ℕ) (ends : Links EndState) → b ≡ node_behind s.node c b.core.held ends → outs.reply ≡ [] → course.Waits (course_of s.node) s.node.core.held name f (unread k.tell) g c b.core.held told → Event V
    idles c g told ends e none r = event V refl (FollowerRow.idles (record {
      nothing = hearing.idles f.phase (unread k.tell) g.kept r.waits;
      still = still c g ends e r.is r.stays.held r.stays.state.waits r.stays.state.agrees none;
    }))

    -- ---- the handshake
    offer_is : (p : Phase) → IsGreeting p → FitsIn p f.offer s.node.core.offers s.node.core.lineage → f.offer ≡ offer_of s.node.core.offers s.node.core.lineage
    offer_is phase.Ping h e = e
    offer_is phase.Port h e = e
    offer_is phase.Capabilities h e = e
    offer_is phase.Psync h e = absurd h
    offer_is (phase.Snapshot id offset) h e = absurd h
    offer_is phase.Stream h e = absurd h

    psync_line_asks : (o : Option (List ℕ × ℕ)) (offers : Bool) → o ≡ offer_of offers s.node.core.lineage → IsOffer o
        → IsAsked None (psync_line o) (Psync (cond offers (Some (s.node.core.lineage.id, s.node.core.lineage.stream.offset + 1)) None))
    psync_line_asks o true e h = subst (λ z. IsAsked None (psync_line z) (Psync (Some (s.node.core.lineage.id, s.node.core.lineage.stream.offset + 1)))) (sym e)
        (let g = subst IsOffer e h in psync_asks s.node.core.lineage.id s.node.core.lineage.stream.offset g.0 g.1)
    psync_line_asks o false e h = subst (λ z. IsAsked None (psync_line z) (Psync None)) (sym e) psync_all_asks

    module _ (c : CourseState) (g : FollowState) (told : List ℕ) (ends : Links EndState) (e : b ≡ node_behind s.node c b.core.held ends) (said : outs.reply ≡ told)
        (r : course.Greets (course_of s.node) s.node.core.held name f (unread k.tell) g c b.core.held told) where
      abbrev way : history.Way
      way = seen_way (used_on (length r.greets.answer.text) k.tell)

      abbrev line : (line : Line (List ℕ)) × (line ≢ Refusal) × Means (status r.greets.text) line
      line = hearing.meaning_of r.greets.text (answer_or r.greets.text)

      abbrev hears : rows.Hears minired (seen_link w.slots k) line.0
      hears = record {
        text = r.greets.answer.text;
        says = record { said = status r.greets.text; whole = r.greets.answer.says; means = line.2 };
        left = way;
        reads = reads_way k.tell r.greets.answer.text r.greets.rest r.greets.answer.is;
      }

      becomes_at : (p q : Phase) → f.phase ≡ p → next_of p ≡ q → FollowerBecomes (seen w book) (seen V book) n s.dialled (at_phase (seen_node s) s.dialled (seen_phase q)) (asked (seen_link w.slots k) way told)
      becomes_at p q at next = becomes (at_phase (seen_node s) s.dialled (seen_phase q)) way told said
          (node_is c (reads_on name g (course_of s.node)) s.node.core.held ends e r.is r.held ∙ ap (λ z. at_phase (seen_node s) s.dialled (seen_phase z)) (r.greets.state.waits ∙ (ap next_of at ∙ next)))
          (link_is g r.greets.answer.text r.greets.rest (follow_is c (reads_on name g (course_of s.node)) ends e r.is) r.greets.state.agrees r.greets.answer.is)

      told_is : (p : Phase) → f.phase ≡ p → told ≡ line_after p f.port f.offer
      told_is p at = r.greets.says ∙ ap (λ z. line_after z f.port f.offer) at

      greets_at : (p : Phase) → f.phase ≡ p → IsGreeting f.phase → Event V
      greets_at phase.Ping at h = event V refl (FollowerRow.hears_reply (record {
        number = 0;
        phase = ap seen_phase at;
        not_last = omega arith;
        line = line.0;
        plus = line.1;
        hears = hears;
        request = told;
        asks = subst (λ z. IsAsked None z Handshake) (sym (told_is phase.Ping at)) (port_asks f.port reading.port);
        becomes = becomes_at phase.Ping phase.Port at refl;
      }))
      greets_at phase.Port at h = event V refl (FollowerRow.hears_reply (record {
        number = 1;
        phase = ap seen_phase at;
        not_last = omega arith;
        line = line.0;
        plus = line.1;
        hears = hears;
        request = told;
        asks = subst (λ z. IsAsked None z Handshake) (sym (told_is phase.Port at)) capabilities_ask;
        becomes = becomes_at phase.Port phase.Capabilities at refl;
      }))
      greets_at phase.Capabilities at h = event V refl (FollowerRow.hears_last_reply (record {
        phase = ap seen_phase at;
        line = line.0;
        plus = line.1;
        hears = hears;
        request = told;
        asks = subst (λ z. IsAsked None z (Psync (wanted (seen_node s)))) (sym (told_is phase.Capabilities at))
            (psync_line_asks f.offer s.node.core.offers (offer_is f.phase h reading.reader.fits) reading.follower.offer);
        becomes = becomes_at phase.Capabilities phase.Psync at refl;
      }))
      greets_at phase.Psync at h = absurd (subst IsGreeting at h)
      greets_at (phase.Snapshot id offset) at h = absurd (subst IsGreeting at h)
      greets_at phase.Stream at h = absurd (subst IsGreeting at h)

      greets : Event V
      greets = greets_at f.phase refl r.greets.greeting

    -- ---- the answer to PSYNC
    announces : (c : CourseState) (g : FollowState) (told : List ℕ) (ends : Links EndState) → b ≡ node_behind s.node c b.core.held ends → outs.reply ≡ [] → course.Announces (course_of s.node) s.node.core.held name f (unread k.tell) g c b.core.held told → Event V
    announces c g told ends e none r = event V refl (FollowerRow.hears_full_resync (record {
      phase = ap seen_phase r.answers.asked;
      id = r.id;
      offset = r.offset;
      hears = record {
        text = r.answers.answer.text;
        says = record { said = status r.answers.text; whole = r.answers.answer.says; means = r.answers.reads };
        left = seen_way (used_on (length r.answers.answer.text) k.tell);
        reads = reads_way k.tell r.answers.answer.text r.answers.rest r.answers.answer.is;
      };
      becomes = becomes (at_phase (seen_node s) s.dialled (Loading r.id r.offset)) (seen_way (used_on (length r.answers.answer.text) k.tell)) [] none
          (node_is c (reads_on name g (course_of s.node)) s.node.core.held ends e r.is r.keeps.held ∙ ap (λ z. at_phase (seen_node s) s.dialled (seen_phase z)) r.answers.state.waits)
          (link_is g r.answers.answer.text r.answers.rest (follow_is c (reads_on name g (course_of s.node)) ends e r.is) r.answers.state.agrees r.answers.answer.is);
    }))

    -- who was offered something has something to continue
    has_offer : (o : Option (List ℕ × ℕ)) (offers : Bool) → IsSome o → o ≡ offer_of offers s.node.core.lineage → offers ≡ true
    has_offer None true h e = refl
    has_offer None false h e = absurd (cc)
    has_offer (Some p) true h e = refl
    has_offer (Some p) false h e = absurd (cc)

    continues : (c : CourseState) (g : FollowState) (told : List ℕ) (ends : Links EndState) → b ≡ node_behind s.node c b.core.held ends → outs.reply ≡ [] → course.Continues (course_of s.node) s.node.core.held name f (unread k.tell) g c b.core.held told → Event V
    continues c g told ends e none r = event V refl (FollowerRow.hears_continue (record {
      phase = ap seen_phase r.answers.asked;
      offered = has_offer f.offer s.node.core.offers r.offered (subst (λ p. FitsIn p f.offer s.node.core.offers s.node.core.lineage) r.answers.asked reading.reader.fits);
      id = r.id;
      hears = record {
        text = r.answers.answer.text;
        says = record { said = status r.answers.text; whole = r.answers.answer.says; means = r.answers.reads };
        left = seen_way (used_on (length r.answers.answer.text) k.tell);
        reads = reads_way k.tell r.answers.answer.text r.answers.rest r.answers.answer.is;
      };
      becomes = becomes (at_phase (history_node.continued (seen_node s) r.id) s.dialled Stream) (seen_way (used_on (length r.answers.answer.text) k.tell)) [] none
          (node_is c (reads_on name g (continues_as r.id (course_of s.node))) s.node.core.held ends e r.is r.keeps.held
          ∙ (continued_seen s r.id (Some (name, g)) ∙ ap (λ z. at_phase (history_node.continued (seen_node s) r.id) s.dialled (seen_phase z)) r.answers.state.waits))
          (link_is g r.answers.answer.text r.answers.rest (follow_is c (reads_on name g (continues_as r.id (course_of s.node))) ends e r.is) r.answers.state.agrees r.answers.answer.is);
    }))

    -- ---- a snapshot, a group
    loads : (c : CourseState) (g : FollowState) (told : List ℕ) (ends : Links EndState) → b ≡ node_behind s.node c b.core.held ends → outs.reply ≡ [] → course.Loads (course_of s.node) name f (unread k.tell) g c b.core.held told → Event V
    loads c g told ends e none r =
        let i = r.installs in
        let whole = hearing.loaded f g (unread k.tell) told b.core.held i in
        event V refl (FollowerRow.loads (record {
          id = i.id;
          offset = i.offset;
          phase = ap seen_phase i.announced;
          text = whole.text;
          held = b.core.held;
          loads = whole.loads;
          left = seen_way (used_on (length whole.text) k.tell);
          reads = reads_way k.tell whole.text i.rest whole.begins;
          becomes = becomes (at_phase (record (seen_node s) { id = i.id; offset = i.offset; second = None; backlog = []; held = b.core.held; offers = true }) s.dialled Stream) (seen_way (used_on (length whole.text) k.tell)) [] none
              (node_is c (reads_on name g (adopts i.id i.offset (course_of s.node))) b.core.held ends e r.is refl
              ∙ ap (λ z. at_phase (record (seen_node s) { id = i.id; offset = i.offset; second = None; backlog = []; held = b.core.held; offers = true }) s.dialled (seen_phase z)) i.state.waits)
              (link_is g whole.text i.rest (follow_is c (reads_on name g (adopts i.id i.offset (course_of s.node))) ends e r.is) i.state.agrees whole.begins);
        }))

    applies : (c : CourseState) (g : FollowState) (told : List ℕ) (ends : Links EndState) → b ≡ node_behind s.node c b.core.held ends → outs.reply ≡ [] → course.Applies (course_of s.node) s.node.core.held name f (unread k.tell) g c b.core.held told → Event V
    applies c g told ends e none r =
        let x = r.follows in
        let had = hearing.applied f g (unread k.tell) s.node.core.held b.core.held s.node.core.lineage.stream.offset told x in
        let streams = x.streams in
        let long : length told ≡ length (group_text had.group) = ap length had.is_text in
        event V refl (FollowerRow.applies (record {
          phase = ap seen_phase streams;
          effect = had.group;
          good = had.good;
          left = seen_way (used_on (length (group_text had.group)) k.tell);
          reads = reads_way k.tell (group_text had.group) x.rest had.begins;
          held = b.core.held;
          applies = had.applies;
          within = (let few = x.within in omega (arith, few, long));
          backlog = last_of s.node.core.lineage.stream.capacity (s.node.core.lineage.stream.held ++ group_text had.group);
          last_bytes = ends_as s.node.core.lineage.stream.capacity s.node.core.lineage.stream.held (group_text had.group);
          becomes = becomes (record (seen_node s) {
            held = b.core.held;
            offset = s.node.core.lineage.stream.offset + length (group_text had.group);
            backlog = last_of s.node.core.lineage.stream.capacity (s.node.core.lineage.stream.held ++ group_text had.group);
          }) (seen_way (used_on (length (group_text had.group)) k.tell)) [] none
              (node_is c (reads_on name g (grows told (course_of s.node))) b.core.held ends e r.is refl
              ∙ (ap (λ t. on_course s (reads_on name g (grows t (course_of s.node))) b.core.held) had.is_text
              ∙ ap (λ z. record (seen_node s) {
                held = b.core.held;
                offset = s.node.core.lineage.stream.offset + length (group_text had.group);
                backlog = last_of s.node.core.lineage.stream.capacity (s.node.core.lineage.stream.held ++ group_text had.group);
                follow = z;
              }) (same_follow g (x.state.waits ∙ sym streams))))
              (link_is g (group_text had.group) x.rest (follow_is c (reads_on name g (grows told (course_of s.node))) ends e r.is) x.state.agrees had.begins);
        }))

    -- ---- the master is left
    node_becomes : (a : history_node.Node minired) → seen_node (behind s b outs) ≡ a → b.follow ≡ None → NodeBecomes (seen w book) (seen V book) n a
    node_becomes a e gone = record {
      nodes = set_as (λ m. option_map seen_node (slice_get w.slots m)) (λ m. option_map seen_node (slice_get (slice_set w.slots n (behind s b outs)) m)) n (seen_node (behind s b outs)) a
          (put_at seen_node w.slots n (behind s b outs) s is.at) e;
      links = still_by (seen_link w.slots) (seen_link V.slots) w.links s.dialled (heard_as b.follow outs.reply k) k is.found (ap (λ z. seen_link V.slots (heard_as z outs.reply k)) gone ∙ links_stay s.dialled k is.found) (λ j y ne e. links_stay j y e);
      book = λ i. refl;
    }

    tie : f.phase ≡ phase.Psync → f.offer ≡ None → (seen_node s).offers ≡ false
    tie at none = go s.node.core.offers refl
      where
        fits : f.offer ≡ offer_of s.node.core.offers s.node.core.lineage
        fits = subst (λ p. FitsIn p f.offer s.node.core.offers s.node.core.lineage) at reading.reader.fits

        go : (o : Bool) → s.node.core.offers ≡ o → s.node.core.offers ≡ false
        go false e = e
        go true e = absurd (no_offer (s.node.core.lineage.id, s.node.core.lineage.stream.offset) (sym none ∙ (fits ∙ ap (λ o. offer_of o s.node.core.lineage) e)))

    leaves : (c : CourseState) (told : List ℕ) (ends : Links EndState) → b ≡ node_behind s.node c b.core.held ends → course.Leaves (course_of s.node) s.node.core.held f (unread k.tell) c b.core.held told → Event V
    leaves c told ends e r = event V refl (FollowerRow.leaves (rows.Leaves.at_an_answer (bad r.cause)
        (node_becomes (record (seen_node s) { follow = None }) (node_is c (left (course_of s.node)) s.node.core.held ends e r.is r.keeps.held) (follow_is c (left (course_of s.node)) ends e r.is))))
      where
        bad : follow.IsBadLine f (unread k.tell) ⊎ follow.IsRefused f (unread k.tell) → BadAnswer (seen_node s) (seen_phase f.phase) (unread k.tell)
        bad (inl h) = leaving.bad_line (seen_node s) f (unread k.tell) tie h
        bad (inr h) = leaving.is_refused (seen_node s) f (unread k.tell) tie h

    spoils : (c : CourseState) (told : List ℕ) (ends : Links EndState) → b ≡ node_behind s.node c b.core.held ends → course.Spoils (course_of s.node) s.node.core.held f (unread k.tell) c b.core.held told → Event V
    spoils c told ends e r = event V refl (FollowerRow.leaves (rows.Leaves.at_the_stream (bad r.cause)
        (node_becomes (record (seen_node s) { follow = None; offers = false }) (node_is c (spoiled (course_of s.node)) s.node.core.held ends e r.is r.keeps.held) (follow_is c (spoiled (course_of s.node)) ends e r.is))))
      where
        bad : follow.IsBadSnapshot f (unread k.tell) ⊎ follow.IsBadStream f (unread k.tell) s.node.core.held s.node.core.lineage.stream.offset → BadStream (seen_node s) (seen_phase f.phase) (unread k.tell)
        bad (inl h) = BadStream.no_snapshot h.id h.offset (ap seen_phase h.announced) (leaving.bad_snapshot f (unread k.tell) h)
        bad (inr h) = BadStream.stuck (ap seen_phase h.streams) (leaving.bad_stream (seen_node s) f (unread k.tell) h)

    -- ---- all of them
    pub outcome_row : (step : UpstreamStep) (l : LinkId) (c : CourseState) (g : FollowState) (told : List ℕ) (ends : Links EndState) → b ≡ node_behind s.node c b.core.held ends → outs ≡ outs_behind step l told
        → course.UpstreamRow (course_of s.node) s.node.core.held name f (unread k.tell) g (Ok step) c b.core.held told → Event V
    outcome_row outcome.Idle l c g told ends e o r = idles c g told ends e (ap (λ (z : OutsState). z.reply) o) r
    outcome_row outcome.Said l c g told ends e o r = greets c g told ends e (ap (λ (z : OutsState). z.reply) o) r
    outcome_row outcome.Announced l c g told ends e o r = announces c g told ends e (ap (λ (z : OutsState). z.reply) o) r
    outcome_row outcome.Continued l c g told ends e o r = continues c g told ends e (ap (λ (z : OutsState). z.reply) o) r
    outcome_row outcome.Loaded l c g told ends e o r = loads c g told ends e (ap (λ (z : OutsState). z.reply) o) r
    outcome_row outcome.Applied l c g told ends e o r = applies c g told ends e (ap (λ (z : OutsState). z.reply) o) r
    outcome_row outcome.Left l c g told ends e o r = leaves c told ends e r
    outcome_row outcome.Spoiled l c g told ends e o r = spoils c told ends e r

-- the end of the link that is followed is the master's
upstream_at : (w : WorldState) (n : ℕ) (s : Slot) (k : Link) (name l : LinkId) (f : FollowState) → IsWorld w → IsFollowed w n s k → s.node.follow ≡ Some (l, f) → l ≡ name → end_of s.node name ≡ Some upstream
upstream_at w n s k name l f world is found named = ap (end_of s.node) (sym named) ∙ subst (λ o. FollowedAt s.node.ends o) found (world.nodes n s is.at is.up).node.followed

pub master_steps : MasterStepsAreRows
master_steps w book n s k name step given fresh b outs holds is r = let h = r.listens in
    let keeps = keeps_behind s.node b step name (upstream_at w n s k name h.name h.follow holds.world is h.found r.named) (ap (λ (z : NodeState). z.core.up) r.node) (ap (λ (z : NodeState). z.ends) r.node) in
    outcome_row w book n s k h.name h.follow b outs holds is h.found keeps given fresh step name r.course h.next r.told (row.ends_behind step name s.node.ends) r.node r.outs_are
    (h.row (unread k.tell) (agreed w book n s k h.name h.follow b outs holds is h.found keeps))

pub master_waits : WaitsAreRows
master_waits w book n s k name given fresh b holds is r = let h = r.listens in
    let keeps = keeps_all s.node b (ap (λ (z : NodeState). z.core.up) r.node) (ap (λ (z : NodeState). z.ends) r.node) in
    idles w book n s k h.name h.follow b no_outs holds is h.found keeps given fresh r.course h.next r.told s.node.ends r.node refl (h.row (unread k.tell) (agreed w book n s k h.name h.follow b no_outs holds is h.found keeps))

pub master_lacks : LacksAreUnseen
master_lacks w book n s k name b holds is r = let h = r.listens in
    let keeps = keeps_all s.node b (ap (λ (z : NodeState). z.core.up) r.node) (ap (λ (z : NodeState). z.ends) r.node) in
    lacks w book n s k h.name h.follow b no_outs holds is h.found keeps r.course h.next r.told s.node.ends r.node refl
    (h.row (unread k.tell) (agreed w book n s k h.name h.follow b no_outs holds is h.found keeps))

stops : (w : WorldState) (book : Book minired) (n : ℕ) (s : Slot) (k : Link) (name : LinkId) (f : FollowState) (given : Given) (fresh : List ℕ) (b : NodeState) → Holds w book → IsFollowed w n s k → s.node.follow ≡ Some (name, f) → b.core.up ≡ false
    → IsEvent w book (events.Event.Step s.dialled Dialler given fresh) (put_node w n s b)
stops w book n s k name f given fresh b holds is following down = record {
  new_book = book;
  kept = holds.kept;
  row = record {
    at = record {
      link = seen_link w.slots k;
      found = ap (option_map (seen_link w.slots)) is.found;
      n = n;
      node = seen_node s;
      node_found = ap (option_map seen_node) is.at;
      phase = seen_phase f.phase;
      follow = ap (seen_follow s.dialled) following;
    };
    does = acts is.up (FollowerRow.stops (node_stops w holds.world book n s b is.at down));
  };
}

pub master_spends : SpendsAreRows
master_spends w book n s k name given fresh b holds is r = let h = r.listens in stops w book n s k h.name h.follow given fresh b holds is h.found (ap (λ (z : NodeState). z.core.up) r.node)

pub master_stops : MasterStopsAreRows
master_stops w book n s k name f given fresh b holds is found down = stops w book n s k name f given fresh b holds is found down
