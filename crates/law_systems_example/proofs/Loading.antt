-- A copy is announced, and loaded.
use Rattle.std.proofs.Common.{◌≡◌, ◌≢◌, ◌≤◌, ◌++◌, ℕ, List, [], true, Option, Some, Ok, length, refl, sym, ap, subst, ◌∙◌, arith}
use Rattle.std.proofs.lemmas.List.{append-nil}
use Rattle.mr_links.specs.declared.link_id.LinkId.{LinkId}
use Rattle.mr_data.specs.declared.given.Given.{Given}
use Rattle.mr_effect.specs.Spelling.{texts}
use Rattle.mr_effect.specs.declared.effect.Effect.{Effect}
use Rattle.mr_repl.specs.Backlog.{offset_limit}
use Rattle.mr_repl.specs.Lineage as lineage
use Rattle.mr_repl.specs.ReplId.{IsId}
use Rattle.mr_peer_lines.specs.Written.{SaysReply, length_line}
use Rattle.mr_peer_lines.specs.declared.psync.PsyncReply.TheVariants.{FullResync}
use Rattle.mr_peer_lines.proofs.Written.{says_length, says_reply}
use Rattle.mr_follower.specs.Rows.{Answers, Installs}
use Rattle.mr_follower.specs.State.{FollowState}
use Rattle.mr_follower.specs.declared.phase.Phase.TheVariants as phase
use Rattle.mr_follower.proofs.Stepping.{untaken}
use Rattle.mr_groups.specs.Effects.{Makes}
use Rattle.mr_replication.specs.State.{CourseState, adopts, reads_on}
use Rattle.mr_replication.specs.declared.upstream.UpstreamStep.TheVariants as outcome
use Rattle.mr_node_links.specs.State.EndState.{upstream}
use Rattle.mr_node_output.specs.Outs.{OutsState, no_outs}
use Rattle.mr_node_spec.specs.State.{Core, NodeState, course_of, end_of}
use Rattle.mr_node_spec.specs.Sound.{IsReading, IsSound}
use Rattle.mr_node_spec.specs.Growing.{rebuilt}
use Rattle.mr_node_spec.specs.UpstreamRows.{Hears, node_behind}
use Rattle.mr_node_state.proofs.Nodes.{reading_node}
use Rattle.mr_node.specs.Parts.{role_of}
use Rattle.mr_node.specs.declared.step.Step.TheVariants as step
use Rattle.mr_loop.specs.Causes.{Act, Stepped, at_step}
use Rattle.mr_loop.specs.News.{is_client_end, news_of, place_of}
use Rattle.mr_loop.specs.Rows.{acts}
use Rattle.mr_loop.specs.Stage.{Stage}
use Rattle.law_systems_example.specs.Systems.{with_key}
use Rattle.law_systems_example.proofs.Stages.{Next, On, Stands}
use Rattle.law_systems_example.proofs.Moving.{is_up}
use Rattle.law_systems_example.proofs.Acting.{Became, loads_next, master_stepped, silent_next}
use Rattle.law_systems_example.proofs.Hearing.{kept_agrees, reader, was}
use Rattle.law_systems_example.proofs.Synchronizing.{copy_line, copy_short, copy_text, snapshot}
use Rattle.law_systems_example.proofs.Keys.{made, rebuilding_is}

-- ---- the copy is announced
module _ (c : Core) (offer : Option (List ℕ × ℕ)) (port : ℕ) (link : LinkId) (id : List ℕ) (offset : ℕ) (names : List LinkId) (n w : ℕ) (batch file : List ℕ) (s : Stage)
    (is : Stands c (Some (link, reader phase.Psync offer port (copy_text id offset))) names n w batch file s) (up : c.up ≡ true) (socket : LinkId) (on : On socket link upstream [] s)
    (given : Given) (fresh : List ℕ) (is_id : IsId id) (counted : offset ≤ offset_limit) (some : length (copy_text id offset) ≢ 0) where
  abbrev g : FollowState
  g = reader phase.Psync offer port (copy_text id offset)

  abbrev next : FollowState
  next = reader (phase.Snapshot id offset) offer port snapshot

  abbrev course : CourseState
  course = reads_on link next (course_of s.node)

  abbrev announced : NodeState
  announced = node_behind s.node course s.node.core.held s.node.ends

  abbrev pub announce_outs : OutsState
  announce_outs = record no_outs { link = Some link }

  says : SaysReply (copy_line id offset) (FullResync id offset)
  says = says_reply (FullResync id offset) (is_id, counted)

  answers : Answers g (copy_text id offset) (FullResync id offset) (phase.Snapshot id offset) next
  answers = record {
    asked = refl;
    text = says.text;
    rest = snapshot;
    answer = record { text = copy_line id offset; is = refl; says = says.whole };
    reads = says.reads;
    state = record { waits = refl; offer = refl; port = refl; agrees = kept_agrees (phase.Snapshot id offset) offer port snapshot };
  }

  hears : Hears s.node link outcome.Announced announced announce_outs
  hears = record {
    up = is_up c s is.core up;
    course = course;
    told = [];
    listens = record {
      name = link;
      follow = g;
      found = is.follow;
      next = next;
      row = λ u agrees. record {
        id = id;
        offset = offset;
        answers = subst (λ (x : List ℕ). Answers g x (FullResync id offset) (phase.Snapshot id offset) next) (sym (untaken g u refl agrees)) answers;
        keeps = record { held = refl; silent = refl };
        is = refl;
      };
    };
    named = refl;
    node = refl;
    outs_are = refl;
  }

  before : IsReading s.node g
  before = was c phase.Psync offer port link (copy_text id offset) names n w batch file s is up socket on

  announced_sound : IsSound announced
  announced_sound = record {
    node = reading_node s.node s.node.core link g next is.sound.node is.follow refl;
    window = is.sound.window;
    id = is.sound.id;
    second = is.sound.second;
    upstream = is.sound.upstream;
    reading = record {
      reader = record { replica = before.reader.replica; fits = tt; has = record { unread = snapshot; agrees = kept_agrees (phase.Snapshot id offset) offer port snapshot } };
      follower = record { offer = before.follower.offer; place = (is_id, counted); taking = tt };
      port = before.port;
    };
  }

  not_idle : outcome.Announced ≡ outcome.Idle → ⊥
  not_idle e = cc

  stepped : Stepped s.node link given fresh announced (Ok (step.Done announce_outs))
  stepped = master_stepped s.node link g (copy_text id offset) given fresh announced announce_outs is.sound.node (is_up c s is.core up) is.follow some (kept_agrees phase.Psync offer port (copy_text id offset)) announced_sound outcome.Announced not_idle hears

  became : Became c (Some (link, next)) names n link upstream announced
  became = record { core = is.core; follow = refl; sound = announced_sound; opened = is.opened; listed = is.listed; ends = is.ends; end = on.end }

  abbrev pub announce_act : Act
  announce_act = at_step socket link given fresh (news_of (place_of (role_of s.node) (is_client_end (end_of s.node link))) (role_of announced) announce_outs)

  pub announces_next : Next (acts announce_act announce_outs) s
      (λ t. Stands c (Some (link, reader (phase.Snapshot id offset) offer port snapshot)) names n w batch file t × On socket link upstream [] t)
  announces_next = silent_next c (Some (link, g)) names n w batch file s is socket link upstream on given fresh announced announce_outs stepped c (Some (link, next)) names upstream became refl

-- ---- it is loaded
rebuilt_makes : Makes (rebuilt with_key) with_key
rebuilt_makes = subst (λ (es : List Effect). Makes (texts es) with_key) (sym rebuilding_is) made

module _ (c : Core) (offer : Option (List ℕ × ℕ)) (port : ℕ) (link : LinkId) (id : List ℕ) (offset : ℕ) (names : List LinkId) (n w : ℕ) (file : List ℕ) (s : Stage)
    (is : Stands c (Some (link, reader (phase.Snapshot id offset) offer port snapshot)) names n w [] file s) (up : c.up ≡ true) (socket : LinkId) (on : On socket link upstream [] s)
    (given : Given) (fresh : List ℕ) (is_id : IsId id) (counted : offset ≤ offset_limit) (some : length snapshot ≢ 0) where
  abbrev h : FollowState
  h = reader (phase.Snapshot id offset) offer port snapshot

  abbrev streams_on : FollowState
  streams_on = reader phase.Stream offer port []

  abbrev loaded_course : CourseState
  loaded_course = reads_on link streams_on (adopts id offset (course_of s.node))

  abbrev loaded : NodeState
  loaded = node_behind s.node loaded_course with_key s.node.ends

  abbrev pub load_outs : OutsState
  load_outs = record no_outs { link = Some link; replaced = Some (rebuilt with_key) }

  -- what the node is behind it
  abbrev pub copied_core : Core → List ℕ → ℕ → Core
  copied_core x i o = record x { offers = true; lineage = lineage.begun i x.lineage.stream.capacity o; held = with_key }

  few : length (rebuilt with_key) ≤ offset_limit
  few = let a = copy_short in omega (arith, a)

  installs : (u : List ℕ) → u ≡ snapshot → Installs h u with_key streams_on (rebuilt with_key)
  installs u e = record {
    id = id;
    offset = offset;
    announced = refl;
    bytes = rebuilt with_key;
    rest = [];
    begins = record { text = length_line (length (rebuilt with_key)); is = e ∙ ap (λ (x : List ℕ). length_line (length (rebuilt with_key)) ++ x) (sym (append-nil (rebuilt with_key))); says = says_length (length (rebuilt with_key)) few };
    loads = rebuilt_makes;
    rebuilds = refl;
    again = rebuilt_makes;
    state = record { waits = refl; offer = refl; port = refl; agrees = kept_agrees phase.Stream offer port [] };
  }

  loads : Hears s.node link outcome.Loaded loaded load_outs
  unfolding installs
  loads = record {
    up = is_up c s is.core up;
    course = loaded_course;
    told = rebuilt with_key;
    listens = record {
      name = link;
      follow = h;
      found = is.follow;
      next = streams_on;
      row = λ u agrees. record { installs = installs u (untaken h u refl agrees); is = refl };
    };
    named = refl;
    node = refl;
    outs_are = refl;
  }

  old : IsReading s.node h
  old = was c (phase.Snapshot id offset) offer port link snapshot names n w [] file s is up socket on

  loaded_sound : IsSound loaded
  loaded_sound = record {
    node = reading_node s.node loaded.core link h streams_on is.sound.node is.follow refl;
    window = record { within = omega arith; counted = omega arith; some_room = is.sound.window.some_room; limited = is.sound.window.limited; countable = counted };
    id = is_id;
    second = tt;
    upstream = is.sound.upstream;
    reading = record {
      reader = record { replica = old.reader.replica; fits = refl; has = record { unread = []; agrees = kept_agrees phase.Stream offer port [] } };
      follower = record { offer = old.follower.offer; place = tt; taking = tt };
      port = old.port;
    };
  }

  loads_not_idle : outcome.Loaded ≡ outcome.Idle → ⊥
  loads_not_idle e = cc

  load_stepped : Stepped s.node link given fresh loaded (Ok (step.Done load_outs))
  load_stepped = master_stepped s.node link h snapshot given fresh loaded load_outs is.sound.node (is_up c s is.core up) is.follow some (kept_agrees (phase.Snapshot id offset) offer port snapshot) loaded_sound outcome.Loaded loads_not_idle loads

  load_became : Became (copied_core c id offset) (Some (link, streams_on)) names n link upstream loaded
  load_became = record { core = ap (λ (x : Core). copied_core x id offset) is.core; follow = refl; sound = loaded_sound; opened = is.opened; listed = is.listed; ends = is.ends; end = on.end }

  abbrev pub load_act : Act
  load_act = at_step socket link given fresh (news_of (place_of (role_of s.node) (is_client_end (end_of s.node link))) (role_of loaded) load_outs)

  pub installs_next : Next (acts load_act load_outs) s
      (λ t. Stands (copied_core c id offset) (Some (link, reader phase.Stream offer port [])) names n w [] (rebuilt with_key) t × On socket link upstream [] t)
  installs_next = loads_next c (Some (link, h)) names n w [] file s is socket link upstream on given fresh loaded load_outs load_stepped (copied_core c id offset) (Some (link, streams_on)) names upstream load_became (rebuilt with_key) refl
