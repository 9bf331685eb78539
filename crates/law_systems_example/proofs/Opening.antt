-- The story up to the accept: the servers begin, a client sets a key at the first, and the other dials it.
use Rattle.std.proofs.Common.{◌≡◌, ◌<◌, ◌++◌, ℕ, zero, suc, List, [], ◌∷◌, true, false, None, Some, length, length-append, refl, sym, ap, subst, ◌∙◌, arith, lit<}
use Rattle.std.specs.Prelude.{slice_get}
use Rattle.std.specs.FinMap.{empty}
use Rattle.std.proofs.lemmas.List.Elements.{All-nil}
use Rattle.hex.specs.Hex.{IsBytes}
use Rattle.mr_resp.specs.Spelling.{array}
use Rattle.mr_effect.specs.Spelling.{texts}
use Rattle.mr_data.specs.declared.given.Given.{Given}
use Rattle.mr_repl.specs.ReplId.{IsId, zero_id}
use Rattle.mr_groups.specs.Items.{IsGoodItem}
use Rattle.mr_follower.specs.Handshake.{ping_line}
use Rattle.mr_follower.specs.declared.phase.Phase.TheVariants as phase
use Rattle.mr_node_links.specs.State.EndState.{client, upstream}
use Rattle.mr_node_spec.specs.State.{Core, NodeState}
use Rattle.mr_links.specs.declared.side.Side.TheVariants as side
use Rattle.mr_loop.specs.Causes.{at_dial}
use Rattle.mr_loop.specs.Rows.{Event, acts, appends, joins, takes, writes}
use Rattle.mr_loop.specs.Stage.{Stage}
use Rattle.law_minired.specs.Snapshots.{IsReadAs}
use Rattle.law_systems.specs.System.{Connection, Server, System, dialled_by, no_system, of_client, of_itself, runs}
use Rattle.law_systems.specs.Network.{Accepts, Reads, end_of}
use Rattle.law_systems.specs.Servers.{Has, Shows}
use Rattle.law_systems.specs.Steps.{Begins, IsNew, Step}
use Rattle.law_systems_example.specs.Story.{IsAccepted, IsDialled, Reaches, offset}
use Rattle.law_systems_example.specs.Systems.{effects, first_id, later_id, promoted_id, with_key}
use Rattle.law_systems_example.proofs.Parts.{begun_as, first_port, other_id, other_port, spare_id, two}
use Rattle.law_systems_example.proofs.Stages.{Next, On, Stands, joins_next}
use Rattle.law_systems_example.proofs.Moving.{takes_next, writes_next}
use Rattle.law_systems_example.proofs.Hearing.{reader}
use Rattle.law_systems_example.proofs.Beginning.{asked_stage, asked_stands, asks, begun_core, begun_sound, begun_stands, told_core}
use Rattle.law_systems_example.proofs.Setting.{appends_next, set_core, set_act, set_outs, sets_next}
use Rattle.law_systems_example.proofs.Dialling.{dials_next}
use Rattle.law_systems_example.proofs.Keys.{the_words}
use Rattle.law_systems_example.proofs.Wording.{short_text}
use Rattle.law_systems_example.proofs.Pairs.{drained, filled, first_turns, other_turns}
use Rattle.law_systems_example.proofs.Joining.{Joined, lines, next_name, zeroth}

-- ---- ids
abbrev AreSmall : List ℕ → Type 0
AreSmall [] = Unit {0}
AreSmall (b ∷ bytes) = (b < 256) × AreSmall bytes

are_bytes : (bytes : List ℕ) → AreSmall bytes → IsBytes bytes
are_bytes [] small i = lit< tt
are_bytes (b ∷ bytes) small zero = small.0
are_bytes (b ∷ bytes) small (suc i) = are_bytes bytes small.1 i

pub first_is : IsId first_id
first_is = record { long = refl; bytes = are_bytes first_id (lit< tt, (lit< tt, (lit< tt, (lit< tt, (lit< tt, (lit< tt, (lit< tt, (lit< tt, (lit< tt, (lit< tt, (lit< tt, (lit< tt, (lit< tt, (lit< tt, (lit< tt, (lit< tt, (lit< tt, (lit< tt, (lit< tt, (lit< tt, tt)))))))))))))))))))) }

pub other_is : IsId other_id
other_is = record { long = refl; bytes = are_bytes other_id (lit< tt, (lit< tt, (lit< tt, (lit< tt, (lit< tt, (lit< tt, (lit< tt, (lit< tt, (lit< tt, (lit< tt, (lit< tt, (lit< tt, (lit< tt, (lit< tt, (lit< tt, (lit< tt, (lit< tt, (lit< tt, (lit< tt, (lit< tt, tt)))))))))))))))))))) }

pub promoted_is : IsId promoted_id
promoted_is = record { long = refl; bytes = are_bytes promoted_id (lit< tt, (lit< tt, (lit< tt, (lit< tt, (lit< tt, (lit< tt, (lit< tt, (lit< tt, (lit< tt, (lit< tt, (lit< tt, (lit< tt, (lit< tt, (lit< tt, (lit< tt, (lit< tt, (lit< tt, (lit< tt, (lit< tt, (lit< tt, tt)))))))))))))))))))) }

pub later_is : IsId later_id
later_is = record { long = refl; bytes = are_bytes later_id (lit< tt, (lit< tt, (lit< tt, (lit< tt, (lit< tt, (lit< tt, (lit< tt, (lit< tt, (lit< tt, (lit< tt, (lit< tt, (lit< tt, (lit< tt, (lit< tt, (lit< tt, (lit< tt, (lit< tt, (lit< tt, (lit< tt, (lit< tt, tt)))))))))))))))))))) }

-- those that are taken once both servers have begun
abbrev pub ids : List (List ℕ)
ids = other_id ∷ first_id ∷ zero_id ∷ []

pub spare_new : (x : System) → x.ids ≡ ids → IsNew x spare_id
spare_new x same = subst (λ (is : List (List ℕ)). IsNew (record no_system { ids = is }) spare_id) (sym same) refl

-- what a node is, it shows
pub shows_by : (x : System) (n : ℕ) (server : Server) (a : NodeState) (c : Core) → slice_get x.servers n ≡ Some server → Has a server.doing → a.core ≡ c → c.up ≡ true → (o : ℕ) → c.lineage.stream.offset ≡ o → Shows x n c.lineage.id o c.held
shows_by x n server a c found has same up o at = record {
  server = server;
  found = found;
  node = a;
  has = has;
  up = ap (λ (z : Core). z.up) same ∙ up;
  id_is = ap (λ (z : Core). z.lineage.id) same;
  offset_is = ap (λ (z : Core). z.lineage.stream.offset) same ∙ at;
  held_is = ap (λ (z : Core). z.held) same;
}

pub set_offset : (set_core first_port first_id).lineage.stream.offset ≡ offset
set_offset = omega arith

-- a file without bytes is read as nothing
pub read_none : IsReadAs [] empty
read_none = (
  0,
  record {
    within = omega arith;
    made = record { items = []; good = All-nil IsGoodItem; are_texts = refl; applied = refl };
    longest = λ front more n is makes. let a : 0 ≡ length (front ++ more) = ap length is in let b = length-append front more in omega (arith, a, b);
  },
)

pub begins_as : (port : ℕ) (id : List ℕ) → IsId id → Begins id [] empty (begun_as port id empty [])
begins_as port id is = record { port = port; backlog = _; read = read_none; node = refl; sound = begun_sound port id empty [] is; alone = refl }

module _ (given : Given) where
  -- ---- stages of the first server
  abbrev a_0 : Stage
  a_0 = begun_as first_port first_id empty []

  a_joined : Next (joins zeroth zeroth) a_0 (λ t. Stands (begun_core first_port first_id empty) None [] 1 1 [] [] t × On zeroth zeroth (client []) [] t)
  a_joined = joins_next (begun_core first_port first_id empty) None [] 0 0 [] [] a_0 (begun_stands first_port first_id empty [] first_is)

  a_asked : Next (takes zeroth (array the_words)) a_joined.stage (λ t. Stands (begun_core first_port first_id empty) None [] 1 1 [] [] t × On zeroth zeroth (client (array the_words)) [] t)
  a_asked = takes_next (begun_core first_port first_id empty) None [] 1 1 [] [] a_joined.stage a_joined.holds.0 refl zeroth zeroth (array the_words) a_joined.holds.1
      (let a = short_text the_words (omega arith) (omega arith) (lit< tt, (lit< tt, (lit< tt, tt))) in omega (arith, a))

  abbrev set_event : Event
  set_event = acts (set_act first_port first_id 1 1 [] [] a_asked.stage a_asked.holds.0 zeroth zeroth a_asked.holds.1 given spare_id) (set_outs first_port first_id 1 1 [] [] a_asked.stage a_asked.holds.0 zeroth zeroth a_asked.holds.1 given spare_id)

  a_set : Next set_event a_asked.stage (λ t. Stands (set_core first_port first_id) None [] 1 1 (texts effects) [] t)
  a_set = sets_next first_port first_id 1 1 [] [] a_asked.stage a_asked.holds.0 zeroth zeroth a_asked.holds.1 given spare_id

  a_filed : Next (appends (texts effects)) a_set.stage (λ t. Stands (set_core first_port first_id) None [] 1 1 [] (texts effects) t)
  a_filed = appends_next (set_core first_port first_id) None [] 1 1 (texts effects) [] a_set.stage a_set.holds

  -- ---- .. and of the other
  abbrev b_0 : Stage
  b_0 = begun_as other_port other_id empty []

  abbrev x_1 : System
  x_1 = record { servers = record { life = 0; doing = runs a_0 } ∷ []; connections = []; ids = first_id ∷ zero_id ∷ [] }

  abbrev x_2 : System
  x_2 = two 0 (runs a_0) (runs b_0) [] ids

  abbrev b_1 : Stage
  b_1 = asked_stage x_2 other_port other_id other_is given spare_id refl

  b_dialled : Next (acts (at_dial zeroth next_name) (record { link = Some next_name; grown = []; appended = []; replaced = None; fed = []; reply = ping_line; closes = false; closed = []; used = None; follows = None; halts = false })) b_1
      (λ t. Stands (told_core other_port other_id) (Some (next_name, reader phase.Ping (Some (other_id, 0)) other_port [])) [] 2 1 [] [] t × On zeroth next_name upstream ping_line t)
  b_dialled = dials_next (told_core other_port other_id) [] 1 0 [] b_1 (asked_stands x_2 other_port other_id other_is given spare_id refl) refl refl (lit< tt)

  b_greets : Next (writes zeroth ping_line) b_dialled.stage (λ t. Stands (told_core other_port other_id) (Some (next_name, reader phase.Ping (Some (other_id, 0)) other_port [])) [] 2 1 [] [] t × On zeroth next_name upstream [] t)
  b_greets = writes_next (told_core other_port other_id) (Some (next_name, reader phase.Ping (Some (other_id, 0)) other_port [])) [] 2 1 [] b_dialled.stage b_dialled.holds.0 zeroth next_name upstream ping_line b_dialled.holds.1

  -- ---- the systems
  abbrev own : List Connection
  own = of_itself ∷ []

  abbrev clients : List Connection
  clients = of_itself ∷ of_client (end_of 0 0 zeroth) ∷ []

  abbrev waiting : List ℕ → List Connection
  waiting bytes = of_itself ∷ of_client (end_of 0 0 zeroth) ∷ record { dialler = Some (end_of 1 0 zeroth); acceptor = None; asked = filled [] bytes; answered = drained [] } ∷ []

  step_1 : Step no_system x_1
  step_1 = Step.begins first_id [] a_0 refl (begins_as first_port first_id first_is) refl

  step_2 : Step x_1 x_2
  step_2 = Step.begins other_id [] b_0 refl (begins_as other_port other_id other_is) refl

  step_3 : Step x_2 (two 0 (runs a_0) (runs b_1) own ids)
  step_3 = Step.asks_itself 1 0 b_0 b_1 [] (record { found = refl }) (asks x_2 other_port other_id other_is given spare_id refl) refl

  step_4 : Step (two 0 (runs a_0) (runs b_1) own ids) (two 0 (runs a_joined.stage) (runs b_1) clients ids)
  step_4 = first_turns (runs b_1) a_0 a_joined.stage (joins zeroth zeroth) own clients ids tt a_joined.happens (Accepts.a_clients refl)

  step_5 : Step (two 0 (runs a_joined.stage) (runs b_1) clients ids) (two 0 (runs a_asked.stage) (runs b_1) clients ids)
  step_5 = first_turns (runs b_1) a_joined.stage a_asked.stage (takes zeroth (array the_words)) clients clients ids tt a_asked.happens
      (Reads.from_client 1 side.Server (of_client (end_of 0 0 zeroth)) (record { found = refl; has = refl }) refl refl)

  step_6 : Step (two 0 (runs a_asked.stage) (runs b_1) clients ids) (two 0 (runs a_set.stage) (runs b_1) clients ids)
  step_6 = first_turns (runs b_1) a_asked.stage a_set.stage set_event clients clients ids (refl, tt) a_set.happens refl

  step_7 : Step (two 0 (runs a_set.stage) (runs b_1) clients ids) (two 0 (runs a_filed.stage) (runs b_1) clients ids)
  step_7 = first_turns (runs b_1) a_set.stage a_filed.stage (appends (texts effects)) clients clients ids tt a_filed.happens refl

  step_8 : Step (two 0 (runs a_filed.stage) (runs b_1) clients ids) (two 0 (runs a_filed.stage) (runs b_dialled.stage) (waiting []) ids)
  step_8 = other_turns (runs a_filed.stage) b_1 b_dialled.stage (acts (at_dial zeroth next_name) _) clients (waiting []) ids tt b_dialled.happens refl

  pub dialled : System
  dialled = two 0 (runs a_filed.stage) (runs b_greets.stage) (waiting ping_line) ids

  step_9 : Step (two 0 (runs a_filed.stage) (runs b_dialled.stage) (waiting []) ids) dialled
  unfolding dialled
  step_9 = other_turns (runs a_filed.stage) b_dialled.stage b_greets.stage (writes zeroth ping_line) (waiting []) (waiting ping_line) ids tt b_greets.happens
      (record { number = 2; at = side.Opener; connection = dialled_by (end_of 1 0 zeroth); end = record { found = refl; has = refl }; is = refl })

  pub to_dialled : Reaches no_system dialled
  to_dialled = record {
    systems = x_1 ∷ x_2 ∷ two 0 (runs a_0) (runs b_1) own ids ∷ two 0 (runs a_joined.stage) (runs b_1) clients ids ∷ two 0 (runs a_asked.stage) (runs b_1) clients ids
        ∷ two 0 (runs a_set.stage) (runs b_1) clients ids ∷ two 0 (runs a_filed.stage) (runs b_1) clients ids ∷ two 0 (runs a_filed.stage) (runs b_dialled.stage) (waiting []) ids ∷ dialled ∷ [];
    course = (step_1, (step_2, (step_3, (step_4, (step_5, (step_6, (step_7, (step_8, (step_9, tt)))))))));
    ends = refl;
  }

  pub waits : IsDialled dialled 2 1
  unfolding dialled
  waits = record { connection = _; found = refl; end = end_of 1 0 zeroth; dialler = refl; dialled_by = refl; waits = refl }

  -- ---- the first accepts
  a_peer : Next (joins next_name next_name) a_filed.stage (λ t. Stands (set_core first_port first_id) None [] 2 2 [] (texts effects) t × On next_name next_name (client []) [] t)
  a_peer = joins_next (set_core first_port first_id) None [] 1 1 [] (texts effects) a_filed.stage a_filed.holds

  pub accepted : System
  accepted = two 0 (runs a_peer.stage) (runs b_greets.stage) (lines (filled [] ping_line) (drained [])) ids

  step_10 : Step dialled accepted
  unfolding dialled accepted
  step_10 = first_turns (runs b_greets.stage) a_filed.stage a_peer.stage (joins next_name next_name) (waiting ping_line) (lines (filled [] ping_line) (drained [])) ids tt a_peer.happens
      (Accepts.one_that_waits 2 (record { dialler = Some (end_of 1 0 zeroth); acceptor = None; asked = filled [] ping_line; answered = drained [] }) (end_of 1 0 zeroth) refl refl refl refl)

  pub to_accepted : Reaches dialled accepted
  to_accepted = record { systems = accepted ∷ []; course = (step_10, tt); ends = refl }

  pub late : IsAccepted accepted 2 1 0
  unfolding accepted
  late = record { connection = _; found = refl; end = end_of 1 0 zeroth; dialler = refl; dialled_by = refl; other = end_of 0 0 next_name; acceptor = refl; accepted_by = refl }

  pub accepted_joined : Joined (set_core first_port first_id) (told_core other_port other_id) phase.Ping (Some (other_id, 0)) other_port ping_line (texts effects) ids accepted
  unfolding accepted
  accepted_joined = record {
    one = a_peer.stage;
    other = b_greets.stage;
    first = a_peer.holds.0;
    peer = a_peer.holds.1;
    second = b_greets.holds.0;
    master = b_greets.holds.1;
    asked = [];
    answered = [];
    is = refl;
  }

  -- what the first shows when it is dialled
  pub dialled_shows : Shows dialled 0 first_id offset with_key
  unfolding dialled
  dialled_shows = shows_by dialled 0 (record { life = 0; doing = runs a_filed.stage }) a_filed.stage.node (set_core first_port first_id) refl refl a_filed.holds.core refl offset set_offset
