-- What comes on the link to a master is read, and one answer of the handshake after another is heard.
use Rattle.std.proofs.Common.{◌≡◌, ◌≢◌, ◌-◌, ◌<◌, ◌^◌, ◌++◌, ℕ, List, [], ◌∷◌, Bool, true, false, Option, None, Some, Ok, length, refl, sym, ap, subst, ◌∙◌, arith}
use Rattle.std.specs.Prelude.{IfSome}
use Rattle.std.specs.FinMap.{insert}
use Rattle.std.proofs.Math.Seq.{take-length}
use Rattle.std.proofs.lemmas.List.{append-nil}
use Rattle.mr_links.specs.declared.link_id.LinkId.{LinkId}
use Rattle.mr_data.specs.declared.given.Given.{Given}
use Rattle.mr_repl.specs.Lineage.{LineageState}
use Rattle.mr_peer_lines.specs.Lines.{IsPeerLine, status}
use Rattle.mr_follower.specs.Handshake.{IsGreeting, line_after, next_of}
use Rattle.mr_follower.specs.Rows.{Greets}
use Rattle.mr_follower.specs.State.{Agrees, FollowState, IsPlaced, heard}
use Rattle.mr_follower.specs.declared.phase.Phase.{Phase}
use Rattle.mr_follower.specs.declared.phase.Phase.TheVariants as phase
use Rattle.mr_follower.proofs.Stepping.{untaken}
use Rattle.mr_replication.specs.State.{CourseState, FitsIn, name_of, reads_on}
use Rattle.mr_replication.specs.declared.upstream.UpstreamStep.TheVariants as outcome
use Rattle.mr_node_links.specs.State.{EndState, Transaction}
use Rattle.mr_node_links.specs.State.EndState.{client, replica, shut, upstream, waiting}
use Rattle.mr_node_output.specs.Outs.{OutState, OutsState, no_outs, send, sent_outs}
use Rattle.mr_node_spec.specs.State.{Core, IsNode, NodeState, course_of, end_of}
use Rattle.mr_node_spec.specs.Sound.{IsReading, IsSound}
use Rattle.mr_node_spec.specs.LinkRows.{Feeds}
use Rattle.mr_node_spec.specs.UpstreamRows.{Hears, node_behind}
use Rattle.mr_node_state.proofs.Nodes.{reading_node}
use Rattle.mr_node.specs.Calls.{IsClients}
use Rattle.mr_node.specs.Parts.{role_of}
use Rattle.mr_node.specs.declared.step.Step.TheVariants as step
use Rattle.mr_node.proofs.Ends.{some_is}
use Rattle.mr_wire.specs.Wire.{behind_read}
use Rattle.mr_wire.specs.declared.wire.Moved.TheVariants as moved
use Rattle.mr_loop.specs.News.{is_client_end, news_of, place_of}
use Rattle.mr_loop.specs.Causes.{Act, Stepped, at_step}
use Rattle.mr_loop.specs.Rows.{acts, takes}
use Rattle.mr_loop.specs.Stage.{Stage}
use Rattle.law_systems_example.proofs.Stages.{Next, On, Stands, got, still_free}
use Rattle.law_systems_example.proofs.Moving.{is_up, room_is, some_there, touched}
use Rattle.law_systems_example.proofs.Acting.{Became, answers_next, master_stepped}

-- what reads at the link to the master, none of a snapshot taken
abbrev pub reader : Phase → Option (List ℕ × ℕ) → ℕ → List ℕ → FollowState
reader p offer port kept = record { phase = p; offer = offer; port = port; taking = None; kept = kept }

pub kept_agrees : (p : Phase) (offer : Option (List ℕ × ℕ)) (port : ℕ) (kept : List ℕ) → Agrees (reader p offer port kept) kept
kept_agrees phase.Ping offer port kept = record { by = refl }
kept_agrees phase.Port offer port kept = record { by = refl }
kept_agrees phase.Capabilities offer port kept = record { by = refl }
kept_agrees phase.Psync offer port kept = record { by = refl }
kept_agrees (phase.Snapshot id o) offer port kept = record { by = refl }
kept_agrees phase.Stream offer port kept = record { by = refl }

next_fits : (p : Phase) (offer : Option (List ℕ × ℕ)) (offers : Bool) (a : LineageState) → IsGreeting p → FitsIn p offer offers a → FitsIn (next_of p) offer offers a
next_fits phase.Ping offer offers a g h = h
next_fits phase.Port offer offers a g h = h
next_fits phase.Capabilities offer offers a g h = h
next_fits phase.Psync offer offers a g h = absurd g
next_fits (phase.Snapshot id o) offer offers a g h = absurd g
next_fits phase.Stream offer offers a g h = absurd g

next_placed : (p : Phase) → IsGreeting p → IsPlaced (next_of p)
next_placed phase.Ping g = tt
next_placed phase.Port g = tt
next_placed phase.Capabilities g = tt
next_placed phase.Psync g = absurd g
next_placed (phase.Snapshot id o) g = absurd g
next_placed phase.Stream g = absurd g

module _ (c : Core) (p : Phase) (offer : Option (List ℕ × ℕ)) (port : ℕ) (link : LinkId) (kept : List ℕ) (names : List LinkId) (n w : ℕ) (batch file : List ℕ) (s : Stage)
    (is : Stands c (Some (link, reader p offer port kept)) names n w batch file s) (up : c.up ≡ true) (socket : LinkId) (on : On socket link upstream [] s) where
  abbrev g : FollowState
  g = reader p offer port kept

  pub was : IsReading s.node g
  was = subst (λ (f : Option (LinkId × FollowState)). IfSome f (λ x. IsReading s.node x.1)) is.follow is.sound.reading

  same_reader : (f : FollowState) → s.node.follow ≡ Some (link, f) → f ≡ g
  same_reader f found = ap (λ (x : LinkId × FollowState). x.1) (some_is (link, f) (link, g) (sym found ∙ is.follow))

  no_client : (v : List ℕ) → ◌≡◌ {A = Option EndState} (Some upstream) (Some (client v)) → ⊥
  no_client v e = cc

  no_waiting : (t : Transaction) (v : List ℕ) → ◌≡◌ {A = Option EndState} (Some upstream) (Some (waiting t v)) → ⊥
  no_waiting t v e = cc

  no_replica : (v : List ℕ) → ◌≡◌ {A = Option EndState} (Some upstream) (Some (replica v)) → ⊥
  no_replica v e = cc

  no_shut : ◌≡◌ {A = Option EndState} (Some upstream) (Some shut) → ⊥
  no_shut e = cc

  not_clients : IsClients s.node link → ⊥
  not_clients (IsClients.alone u at) = no_client u (sym on.end ∙ at.is)
  not_clients (IsClients.within t u at) = no_waiting t u (sym on.end ∙ at.is)

  -- ---- bytes are read
  module _ (bytes : List ℕ) (none : kept ≡ []) (few : length bytes < 2 ^ 63) where
    abbrev more : FollowState
    more = reader p offer port bytes

    abbrev hearing : NodeState
    hearing = record s.node { follow = Some (link, more) }

    hearing_is : IsNode hearing
    hearing_is = reading_node s.node s.node.core link g more is.sound.node is.follow refl

    hearing_sound : IsSound hearing
    hearing_sound = record {
      node = hearing_is;
      window = is.sound.window;
      id = is.sound.id;
      second = is.sound.second;
      upstream = is.sound.upstream;
      reading = record {
        reader = record { replica = was.reader.replica; fits = was.reader.fits; has = record { unread = bytes; agrees = kept_agrees p offer port bytes } };
        follower = record { offer = was.follower.offer; place = was.follower.place; taking = tt };
        port = was.port;
      };
    }

    heard_more : (f : FollowState) → s.node.follow ≡ Some (link, f) → ◌≡◌ {A = Option (LinkId × FollowState)} (Some (link, more)) (Some (link, heard f bytes))
    heard_more f found = sym (ap (λ (x : FollowState). Some (link, heard x bytes)) (same_reader f found) ∙ ap (λ (x : List ℕ). Some (link, reader p offer port (x ++ bytes))) none)

    nothing_unread : (at : (u : List ℕ) → Unit {0}) (f : FollowState) (u : List ℕ) → s.node.follow ≡ Some (link, f) → Agrees f u → u ≡ []
    nothing_unread at f u found agrees = untaken g u refl (subst (λ (x : FollowState). Agrees x u) (same_reader f found) agrees) ∙ none

    feeds : Feeds s.node link bytes hearing
    feeds = record {
      at_client = λ u at. absurd (no_client u (sym on.end ∙ at.is));
      at_waiting = λ t u at. absurd (no_waiting t u (sym on.end ∙ at.is));
      at_replica = λ u at. absurd (no_replica u (sym on.end ∙ at.is));
      at_master = λ u at. record {
        reader = more;
        found = refl;
        agrees = subst (λ (x : List ℕ). Agrees more (x ++ bytes)) (sym (nothing_unread (λ x. tt) at.reader u at.found at.agrees)) (kept_agrees p offer port bytes);
      };
      at_shut = λ at. absurd (no_shut (sym on.end ∙ at.is));
      others = record { stay = λ x apart. refl; opened = refl };
      core = refl;
      follow = λ other. absurd (other (ap name_of is.follow));
      heard = heard_more;
    }

    pub hears_next : Next (takes socket bytes) s (λ t. Stands c (Some (link, reader p offer port bytes)) names n w batch file t × On socket link upstream [] t)
    hears_next = record {
      stage = record {
        node = hearing;
        own = s.own;
        wire = record s.wire { open_links = insert s.wire.open_links socket (behind_read false (moved.Bytes (length bytes)) bytes on.wire) };
        failed = s.failed;
        told = s.told;
        synced = s.synced;
      };
      happens = record {
        link = link;
        read = record { connection = record { link = Some link; waiting = [] }; is = on.connection; linked = refl; few = λ at. absurd (not_clients at) };
        count = length bytes;
        buffer = bytes;
        bytes_are = sym (take-length bytes);
        room = record { room = 2 ^ 64 - 1; is = room_is s.node link upstream (is_up c s is.core up) on.end; fits = omega (arith, few) };
        wire = touched s.wire socket (behind_read false (moved.Bytes (length bytes)) bytes) on.wire on.wired;
        later = omega arith;
        node = record { up = is_up c s is.core up; there = some_there s.node link upstream on.end; feeds = feeds; sound = hearing_sound };
        own = refl;
        file = (refl, refl);
      };
      holds = (
        record {
          core = is.core;
          follow = refl;
          sound = hearing_sound;
          opened = is.opened;
          listed = is.listed;
          wired = is.wired;
          ends = is.ends;
          wires = still_free s.wire.open_links w socket on.wire (behind_read false (moved.Bytes (length bytes)) bytes on.wire) on.wired is.wires;
          connections = is.connections;
          batch_is = is.batch_is;
          file_is = is.file_is;
        },
        record {
          connection = on.connection;
          wire = behind_read false (moved.Bytes (length bytes)) bytes on.wire;
          wired = got s.wire.open_links socket (behind_read false (moved.Bytes (length bytes)) bytes on.wire);
          end = on.end;
        },
      );
    }

  -- ---- an answer is heard, and the next line is sent
  module _ (given : Given) (fresh : List ℕ) (some : length kept ≢ 0) where
    -- the bytes are those that are kept
    all_kept : (u : List ℕ) → Agrees g u → u ≡ kept
    all_kept u agrees = untaken g u refl agrees

    module _ (text : List ℕ) (line : IsPeerLine kept (status text)) (greeting : IsGreeting p) where
      abbrev next : FollowState
      next = reader (next_of p) offer port []

      abbrev course : CourseState
      course = reads_on link next (course_of s.node)

      abbrev told : List ℕ
      told = line_after p port offer

      abbrev greeted : NodeState
      greeted = node_behind s.node course s.node.core.held s.node.ends

      abbrev pub greet_outs : OutsState
      greet_outs = record no_outs { link = Some link; reply = line_after p port offer }

      greets : Greets g kept next told
      greets = record {
        greeting = greeting;
        text = text;
        rest = [];
        answer = record { text = kept; is = sym (append-nil kept); says = line };
        says = refl;
        state = record { waits = refl; offer = refl; port = refl; agrees = kept_agrees (next_of p) offer port [] };
      }

      hears : Hears s.node link outcome.Said greeted greet_outs
      hears = record {
        up = is_up c s is.core up;
        course = course;
        told = told;
        listens = record {
          name = link;
          follow = g;
          found = is.follow;
          next = next;
          row = λ u agrees. record { greets = subst (λ (x : List ℕ). Greets g x next told) (sym (all_kept u agrees)) greets; held = refl; is = refl };
        };
        named = refl;
        node = refl;
        outs_are = refl;
      }

      greeted_is : IsNode greeted
      greeted_is = reading_node s.node s.node.core link g next is.sound.node is.follow refl

      greeted_sound : IsSound greeted
      greeted_sound = record {
        node = greeted_is;
        window = is.sound.window;
        id = is.sound.id;
        second = is.sound.second;
        upstream = is.sound.upstream;
        reading = record {
          reader = record { replica = was.reader.replica; fits = next_fits p offer s.node.core.offers s.node.core.lineage greeting was.reader.fits; has = record { unread = []; agrees = kept_agrees (next_of p) offer port [] } };
          follower = record { offer = was.follower.offer; place = next_placed p greeting; taking = tt };
          port = was.port;
        };
      }

      not_idle : outcome.Said ≡ outcome.Idle → ⊥
      not_idle e = cc

      stepped : Stepped s.node link given fresh greeted (Ok (step.Done greet_outs))
      stepped = master_stepped s.node link g kept given fresh greeted greet_outs is.sound.node (is_up c s is.core up) is.follow some (kept_agrees p offer port kept) greeted_sound outcome.Said not_idle hears

      became : Became c (Some (link, next)) names n link upstream greeted
      became = record { core = is.core; follow = refl; sound = greeted_sound; opened = is.opened; listed = is.listed; ends = is.ends; end = on.end }

      abbrev pub greet_act : Act
      greet_act = at_step socket link given fresh (news_of (place_of (role_of s.node) (is_client_end (end_of s.node link))) (role_of greeted) greet_outs)

      module _ (is_sent : sent_outs (Some link) (line_after p port offer) ≡ send link (line_after p port offer) ∷ []) where
        pub greets_next : Next (acts greet_act greet_outs) s
            (λ t. Stands c (Some (link, reader (next_of p) offer port [])) names n w batch file t × On socket link upstream (line_after p port offer) t)
        greets_next = answers_next c (Some (link, g)) names n w batch file s is socket link upstream on given fresh greeted greet_outs stepped c (Some (link, next)) names upstream became told
            (ap (λ (os : List OutState). os ++ []) is_sent)
