-- The other is promoted; and the first is killed, and begins again.
use Rattle.std.proofs.Common.{◌≡◌, ◌++◌, ℕ, List, [], ◌∷◌, Option, Some, length, take, refl, sym, subst, arith, lit<}
use Rattle.std.specs.Prelude.{slice_get}
use Rattle.std.proofs.Math.Seq.{take-length}
use Rattle.mr_links.specs.LinkId.{link_id}
use Rattle.mr_links.specs.declared.link_id.LinkId.{LinkId}
use Rattle.mr_resp.specs.Spelling.{array}
use Rattle.mr_effect.specs.Spelling.{texts}
use Rattle.mr_data.specs.declared.given.Given.{Given}
use Rattle.mr_repl.specs.Backlog.{usual_backlog}
use Rattle.mr_follower.specs.State.{FollowState}
use Rattle.mr_follower.specs.declared.phase.Phase.TheVariants as phase
use Rattle.mr_node_links.specs.State.EndState.{client}
use Rattle.mr_node_spec.specs.State.{Core}
use Rattle.mr_node_spec.specs.Growing.{rebuilt}
use Rattle.mr_links.specs.declared.side.Side.TheVariants as side
use Rattle.mr_loop.specs.Rows.{Event, acts, joins, takes}
use Rattle.mr_loop.specs.Stage.{Stage}
use Rattle.law_minired.specs.Snapshots.{IsReadAs}
use Rattle.law_systems.specs.System.{Connection, System, of_client, rests, runs}
use Rattle.law_systems.specs.Network.{Accepts, Reads, end_of}
use Rattle.law_systems.specs.Servers.{Shows}
use Rattle.law_systems.specs.Steps.{Begins, Step}
use Rattle.law_systems_example.specs.Story.{ComesBack, IsKilled, Reaches, Story, offset}
use Rattle.law_systems_example.specs.Systems.{effects, first_id, later_id, promoted_id, with_key}
use Rattle.law_systems_example.proofs.Parts.{begun_as, first_port, other_id, other_port, two}
use Rattle.law_systems_example.proofs.Stages.{Next, On, Stands, joins_next}
use Rattle.law_systems_example.proofs.Moving.{takes_next}
use Rattle.law_systems_example.proofs.Hearing.{reader}
use Rattle.law_systems_example.proofs.Beginning.{begun_core, begun_sound}
use Rattle.law_systems_example.proofs.Setting.{set_core}
use Rattle.law_systems_example.proofs.Promoting.{lead_act, lead_outs, leads_next, led_core, no_one}
use Rattle.law_systems_example.proofs.Keys.{read_as}
use Rattle.law_systems_example.proofs.Wording.{short_text}
use Rattle.law_systems_example.proofs.Pairs.{other_turns}
use Rattle.law_systems_example.proofs.Joining.{next_name}
use Rattle.law_systems_example.proofs.Opening.{accepted, dialled, dialled_shows, ids, late, later_is, promoted_is, set_offset, shows_by, to_accepted, to_dialled, waits}
use Rattle.law_systems_example.proofs.Copying.{IsCopied, copied, first_shows, is_copied, loaded_core, other_shows, to_copied}

-- a connection is the last of those that there are
last_there : (cs : List Connection) (k : Connection) → slice_get (cs ++ k ∷ []) (length cs) ≡ Some k
last_there [] k = refl
last_there (x ∷ cs) k = last_there cs k

module _ (given : Given) where
  abbrev offer : Option (List ℕ × ℕ)
  offer = Some (other_id, 0)

  abbrev c : Core
  c = set_core first_port first_id

  abbrev d : Core
  d = loaded_core given

  abbrev j : IsCopied given (copied given)
  j = is_copied given

  abbrev follows : LinkId × FollowState
  follows = (next_name, reader phase.Stream offer other_port [])

  abbrev third : LinkId
  third = link_id 0 2

  -- ---- a client of the other joins, and asks
  b_joined : Next (joins next_name third) j.other (λ t. Stands d (Some follows) [] 3 2 [] (rebuilt with_key) t × On next_name third (client []) [] t)
  b_joined = joins_next d (Some follows) [] 2 1 [] (rebuilt with_key) j.other j.second

  b_asked : Next (takes next_name (array no_one)) b_joined.stage (λ t. Stands d (Some follows) [] 3 2 [] (rebuilt with_key) t × On next_name third (client (array no_one)) [] t)
  b_asked = takes_next d (Some follows) [] 3 2 [] (rebuilt with_key) b_joined.stage b_joined.holds.0 refl next_name third (array no_one) b_joined.holds.1
      (let a = short_text no_one (omega arith) (omega arith) (lit< tt, (lit< tt, (lit< tt, tt))) in omega (arith, a))

  abbrev lead_event : Event
  lead_event = acts (lead_act d next_name (reader phase.Stream offer other_port []) [] 3 2 [] (rebuilt with_key) b_asked.stage b_asked.holds.0 refl refl next_name third b_asked.holds.1 given promoted_id promoted_is)
      (lead_outs d next_name (reader phase.Stream offer other_port []) [] 3 2 [] (rebuilt with_key) b_asked.stage b_asked.holds.0 refl refl next_name third b_asked.holds.1 given promoted_id promoted_is)

  b_leads : Next lead_event b_asked.stage (λ t. t.node.core ≡ led_core d promoted_id)
  b_leads = leads_next d next_name (reader phase.Stream offer other_port []) [] 3 2 [] (rebuilt with_key) b_asked.stage b_asked.holds.0 refl refl next_name third b_asked.holds.1 given promoted_id promoted_is

  abbrev cs : List Connection
  cs = j.connections

  abbrev ds : List Connection
  ds = cs ++ of_client (end_of 1 0 next_name) ∷ []

  abbrev x_0 : System
  x_0 = two 0 (runs j.one) (runs j.other) cs ids

  abbrev x_1 : System
  x_1 = two 0 (runs j.one) (runs b_joined.stage) ds ids

  abbrev x_2 : System
  x_2 = two 0 (runs j.one) (runs b_asked.stage) ds ids

  pub promoted : System
  promoted = two 0 (runs j.one) (runs b_leads.stage) ds (promoted_id ∷ ids)

  step_1 : Step x_0 x_1
  step_1 = other_turns (runs j.one) j.other b_joined.stage (joins next_name third) cs ds ids tt b_joined.happens (Accepts.a_clients refl)

  step_2 : Step x_1 x_2
  step_2 = other_turns (runs j.one) b_joined.stage b_asked.stage (takes next_name (array no_one)) ds ds ids tt b_asked.happens
      (Reads.from_client (length cs) side.Server (of_client (end_of 1 0 next_name)) (record { found = last_there cs (of_client (end_of 1 0 next_name)); has = refl }) refl refl)

  step_3 : Step x_2 promoted
  unfolding promoted
  step_3 = other_turns (runs j.one) b_asked.stage b_leads.stage lead_event ds ds ids (refl, tt) b_leads.happens refl

  to_promoted : Reaches (copied given) promoted
  to_promoted = subst (λ (z : System). Reaches z promoted) (sym j.is) (record { systems = x_1 ∷ x_2 ∷ promoted ∷ []; course = (step_1, (step_2, (step_3, tt))); ends = refl })

  still_shows : Shows promoted 0 first_id offset with_key
  unfolding promoted
  still_shows = shows_by promoted 0 (record { life = 0; doing = runs j.one }) j.one.node c refl refl j.first.core refl offset set_offset

  leads : Shows promoted 1 promoted_id offset with_key
  unfolding promoted
  leads = shows_by promoted 1 (record { life = 0; doing = runs b_leads.stage }) b_leads.stage.node (led_core d promoted_id) refl refl b_leads.holds refl offset set_offset

  -- ---- the first is killed
  pub killed : System
  killed = two 0 rests (runs b_leads.stage) ds (promoted_id ∷ ids)

  step_4 : Step promoted killed
  unfolding promoted killed
  step_4 = Step.ends 0 (record { life = 0; doing = runs j.one }) refl refl

  to_killed : Reaches promoted killed
  to_killed = record { systems = killed ∷ []; course = (step_4, tt); ends = refl }

  stopped : IsKilled killed 0
  unfolding killed
  stopped = record { server = record { life = 0; doing = rests }; found = refl; stopped = refl }

  -- ---- .. and begins again with its whole file
  abbrev file : List ℕ
  file = take (length (texts effects)) (texts effects)

  abbrev again : Stage
  again = begun_as first_port later_id with_key file

  begins : Begins later_id file with_key again
  begins = record {
    port = first_port;
    backlog = usual_backlog;
    read = subst (λ (bytes : List ℕ). IsReadAs bytes with_key) (sym (take-length (texts effects))) read_as;
    node = refl;
    sound = begun_sound first_port later_id with_key file later_is;
    alone = refl;
  }

  pub back : System
  back = two 1 (runs again) (runs b_leads.stage) ds (later_id ∷ promoted_id ∷ ids)

  step_5 : Step killed back
  unfolding killed back
  step_5 = Step.begins_again 0 (record { life = 0; doing = rests }) later_id file with_key again refl refl begins refl

  to_back : Reaches killed back
  to_back = record { systems = back ∷ []; course = (step_5, tt); ends = refl }

  comes_back : ComesBack promoted back 0 later_id with_key
  unfolding promoted back
  comes_back = record {
    before = j.one;
    ran = record { found = refl };
    file = texts effects;
    told = j.first.file_is;
    kept = length (texts effects);
    within = omega arith;
    again = again;
    begins = begins;
    runs = record { found = refl };
  }

  shows_again : Shows back 0 later_id 0 with_key
  unfolding back
  shows_again = shows_by back 0 (record { life = 1; doing = runs again }) again.node (begun_core first_port later_id with_key) refl refl refl refl 0 refl

  pub story : Story
  story = record {
    dialled = dialled given;
    to_dialled = to_dialled given;
    waits = waits given;
    first_has_key = dialled_shows given;
    accepted = accepted given;
    to_accepted = to_accepted given;
    late = late given;
    copied = copied given;
    to_copied = to_copied given;
    first_shows = first_shows given;
    other_shows = other_shows given;
    promoted = promoted;
    to_promoted = to_promoted;
    still_shows = still_shows;
    leads = leads;
    killed = killed;
    to_killed = to_killed;
    stopped = stopped;
    back = back;
    to_back = to_back;
    comes_back = comes_back;
    shows_again = shows_again;
  }
