-- The handshake goes through, and the copy is told and loaded.
use Rattle.std.proofs.Common.{◌≡◌, ◌≢◌, ◌+◌, ◌<◌, ◌≤◌, ◌^◌, ◌++◌, ℕ, List, [], ◌∷◌, true, false, not, Option, None, Some, codes, length, length-append, refl, sym, ap, subst, arith, lit<}
use Rattle.std.specs.Prelude.{bytes_eq}
use Rattle.std.specs.Fmt.{decimal}
use Rattle.std.proofs.lemmas.Fmt.{length-decimal-le}
use Rattle.std.proofs.lemmas.List.Sums.{AllPass-from_list_all}
use Rattle.law_refinement.proofs.Lines.{AreShort}
use Rattle.mr_resp.specs.Spelling.{array}
use Rattle.mr_resp.specs.Replies.{reply_text}
use Rattle.mr_effect.specs.Spelling.{texts}
use Rattle.mr_data.specs.declared.given.Given.{Given}
use Rattle.mr_repl.specs.Backlog.{offset_limit, usual_backlog}
use Rattle.mr_repl.specs.Lineage as lineage
use Rattle.mr_repl.specs.ReplId.{digits_of}
use Rattle.mr_peer_lines.specs.Bytes.{ends_line}
use Rattle.mr_peer_lines.specs.Lines.{IsPeerLine, status}
use Rattle.mr_peer_lines.specs.Replies as peer
use Rattle.mr_peer_lines.specs.Written.{length_line, reply_line}
use Rattle.mr_peer_lines.specs.declared.psync.PsyncReply.TheVariants.{FullResync}
use Rattle.mr_resp.specs.Spelling.{line_end}
use Rattle.mr_follower.specs.Handshake.{ping_line}
use Rattle.mr_follower.specs.declared.phase.Phase.TheVariants as phase
use Rattle.mr_node_links.specs.State.EndState.{client, replica, upstream}
use Rattle.mr_node_output.specs.Outs.{no_output}
use Rattle.mr_node_spec.specs.State.{Core}
use Rattle.mr_node_spec.specs.Growing.{rebuilt}
use Rattle.mr_node_spec.specs.Served.{Answered}
use Rattle.mr_node_spec.specs.Telling.{Around}
use Rattle.mr_cmd_node.specs.declared.node_ask.ReplicaOption.TheVariants as option
use Rattle.mr_cmd_shared.specs.Answered.{done}
use Rattle.mr_loop.specs.Rows.{Event, acts, takes, writes}
use Rattle.mr_loop.specs.Stage.{Stage}
use Rattle.law_minired.proofs.Ids.{forty}
use Rattle.law_systems.specs.System.{Connection, System, runs}
use Rattle.law_systems.specs.Servers.{Shows}
use Rattle.law_systems.specs.Steps.{Step}
use Rattle.law_systems_example.specs.Story.{Reaches, offset}
use Rattle.law_systems_example.specs.Systems.{effects, first_id, with_key}
use Rattle.law_systems_example.proofs.Parts.{first_address, first_port, other_id, other_port, spare_id, two}
use Rattle.law_systems_example.proofs.Stages.{Next, On, Stands}
use Rattle.law_systems_example.proofs.Moving.{takes_next, writes_next}
use Rattle.law_systems_example.proofs.Hearing.{hears_next, reader}
use Rattle.law_systems_example.proofs.Beginning.{told_core}
use Rattle.law_systems_example.proofs.Setting.{set_core, set_window}
use Rattle.law_systems_example.proofs.Serving.{introduced, ping_answered, pong}
use Rattle.law_systems_example.proofs.Wording.{short_text}
use Rattle.law_systems_example.proofs.Reading.{capabilities_asked, port_asked, psync_asked}
use Rattle.law_systems_example.proofs.Synchronizing.{copy_act, copy_outs, copy_short, copy_text, snapshot, synchronizes_next}
use Rattle.law_systems_example.proofs.Loading.{announce_act, announce_outs, announces_next, installs_next, load_act, load_outs}
use Rattle.law_systems_example.proofs.Keys.{texts_short}
use Rattle.law_systems_example.proofs.Pairs.{drained, filled, first_turns, other_turns}
use Rattle.law_systems_example.proofs.Joining.{Joined, answers_come, answers_go, asks_come, exchanged, joined_on, lines, next_name, reaches, then, zeroth}
use Rattle.law_systems_example.proofs.Opening.{accepted, accepted_joined, first_is, ids, other_is, set_offset, shows_by, spare_new}

-- ---- the lines
pong_line : IsPeerLine pong (status (codes "PONG"))
pong_line = record {
  front = 43 ∷ codes "PONG";
  whole = record { ended = refl; marked = refl; plain = AllPass-from_list_all (λ b. not (ends_line b)) (43 ∷ codes "PONG") refl; short = lit< tt };
  says = refl;
}

abbrev ok : List ℕ
ok = reply_text done

ok_line : IsPeerLine ok (status (codes "OK"))
ok_line = record {
  front = 43 ∷ codes "OK";
  whole = record { ended = refl; marked = refl; plain = AllPass-from_list_all (λ b. not (ends_line b)) (43 ∷ codes "OK") refl; short = lit< tt };
  says = refl;
}

not_none : (n : ℕ) → 1 ≤ n → n ≢ 0
not_none n some e = absurd (omega (arith, some, e))

abbrev c : Core
c = set_core first_port first_id

abbrev d : Core
d = told_core other_port other_id

abbrev offer : Option (List ℕ × ℕ)
offer = Some (other_id, 0)

abbrev port_words : List (List ℕ)
port_words = codes "REPLCONF" ∷ codes "listening-port" ∷ decimal other_port ∷ []

abbrev capability_words : List (List ℕ)
capability_words = codes "REPLCONF" ∷ codes "capa" ∷ codes "eof" ∷ codes "capa" ∷ codes "psync2" ∷ []

abbrev psync_words : List (List ℕ)
psync_words = codes "PSYNC" ∷ digits_of other_id ∷ decimal 1 ∷ []

short_decimal : (n : ℕ) → n < 10 ^ 7 → length (decimal n) < 100
short_decimal n few = let a = length-decimal-le 7 n (lit< tt) (omega (arith, few)) (omega (arith, few)) in omega (arith, a)

short_port : AreShort port_words
short_port = (lit< tt, (lit< tt, (short_decimal other_port (lit< tt), tt)))

short_capabilities : AreShort capability_words
short_capabilities = (lit< tt, (lit< tt, (lit< tt, (lit< tt, (lit< tt, tt)))))

short_psync : AreShort psync_words
short_psync = (lit< tt, ((let a = forty other_id other_is in omega (arith, a)), (short_decimal 1 (lit< tt), tt)))

-- ---- the copy has some bytes, and not too many
copy_some : (at : ℕ) → length (copy_text first_id at) ≢ 0
unfolding reply_line
copy_some at e = absurd (omega (arith, e))

snapshot_some : length snapshot ≢ 0
unfolding length_line
snapshot_some e = absurd (omega (arith, e))

copy_length : (at : ℕ) → at ≤ offset_limit → length (copy_text first_id at) < 2 ^ 63
unfolding reply_line length_line
copy_length at counted =
    let long = forty first_id first_is in
    let digits = length-decimal-le 20 at (lit< tt) (omega (arith, counted)) (omega (arith, counted)) in
    let place = length-append (digits_of first_id) (32 ∷ decimal at) in
    let word = length-append (codes "FULLRESYNC ") (digits_of first_id ++ 32 ∷ decimal at) in
    let few = copy_short in
    let number = length-decimal-le 7 (length (rebuilt with_key)) (lit< tt) (omega (arith, few)) (omega (arith, few)) in
    let a = length-append (43 ∷ peer.reply_text (FullResync first_id at)) line_end in
    let b = length-append (36 ∷ decimal (length (rebuilt with_key))) line_end in
    let e = length-append (length_line (length (rebuilt with_key))) (rebuilt with_key) in
    let f = length-append (reply_line (FullResync first_id at)) snapshot in
    omega (arith, long, digits, place, word, few, number, a, b, e, f)

module _ (given : Given) where
  pinged : (a : Core) → a ≡ c → (around : Around) → Answered a around (codes "PING" ∷ []) given a (record no_output { said = pong })
  pinged a same around = subst (λ (x : Core). Answered x around (codes "PING" ∷ []) given x (record no_output { said = pong })) (sym same) (ping_answered c around given set_window)

  told_port : (a : Core) → a ≡ c → (around : Around) → Answered a around port_words given a (record no_output { said = ok })
  told_port a same around = introduced a around given port_words ((option.ListeningPort, decimal other_port) ∷ []) (port_asked other_port)

  told_capabilities : (a : Core) → a ≡ c → (around : Around) → Answered a around capability_words given a (record no_output { said = ok })
  told_capabilities a same around = introduced a around given capability_words ((option.Capability, codes "eof") ∷ (option.Capability, codes "psync2") ∷ []) capabilities_asked

  -- ---- three lines and their answers
  abbrev j_0 : Joined c d phase.Ping offer other_port ping_line (texts effects) ids (accepted given)
  j_0 = accepted_joined given

  x_1 : System
  x_1 = exchanged c d phase.Ping offer other_port (codes "PING" ∷ []) (texts effects) ids (accepted given) j_0 (omega arith) (omega arith) (lit< tt, tt) refl refl given spare_new pong (codes "PONG") pinged pong_line tt (not_none (length pong) (lit< tt)) (lit< tt) refl refl

  to_1 : Reaches (accepted given) x_1
  unfolding x_1
  to_1 = reaches c d phase.Ping offer other_port (codes "PING" ∷ []) (texts effects) ids (accepted given) j_0 (omega arith) (omega arith) (lit< tt, tt) refl refl given spare_new pong (codes "PONG") pinged pong_line tt (not_none (length pong) (lit< tt)) (lit< tt) refl refl

  j_1 : Joined c d phase.Port offer other_port (array port_words) (texts effects) ids x_1
  unfolding x_1
  j_1 = joined_on c d phase.Ping offer other_port (codes "PING" ∷ []) (texts effects) ids (accepted given) j_0 (omega arith) (omega arith) (lit< tt, tt) refl refl given spare_new pong (codes "PONG") pinged pong_line tt (not_none (length pong) (lit< tt)) (lit< tt) refl refl

  x_2 : System
  x_2 = exchanged c d phase.Port offer other_port port_words (texts effects) ids x_1 j_1 (omega arith) (omega arith) short_port refl refl given spare_new ok (codes "OK") told_port ok_line tt (not_none (length ok) (lit< tt)) (lit< tt) refl refl

  to_2 : Reaches x_1 x_2
  unfolding x_2
  to_2 = reaches c d phase.Port offer other_port port_words (texts effects) ids x_1 j_1 (omega arith) (omega arith) short_port refl refl given spare_new ok (codes "OK") told_port ok_line tt (not_none (length ok) (lit< tt)) (lit< tt) refl refl

  j_2 : Joined c d phase.Capabilities offer other_port (array capability_words) (texts effects) ids x_2
  unfolding x_2
  j_2 = joined_on c d phase.Port offer other_port port_words (texts effects) ids x_1 j_1 (omega arith) (omega arith) short_port refl refl given spare_new ok (codes "OK") told_port ok_line tt (not_none (length ok) (lit< tt)) (lit< tt) refl refl

  x_3 : System
  x_3 = exchanged c d phase.Capabilities offer other_port capability_words (texts effects) ids x_2 j_2 (omega arith) (omega arith) short_capabilities refl refl given spare_new ok (codes "OK") told_capabilities ok_line tt (not_none (length ok) (lit< tt)) (lit< tt) refl refl

  to_3 : Reaches x_2 x_3
  unfolding x_3
  to_3 = reaches c d phase.Capabilities offer other_port capability_words (texts effects) ids x_2 j_2 (omega arith) (omega arith) short_capabilities refl refl given spare_new ok (codes "OK") told_capabilities ok_line tt (not_none (length ok) (lit< tt)) (lit< tt) refl refl

  j_3 : Joined c d phase.Psync offer other_port (array psync_words) (texts effects) ids x_3
  unfolding x_3
  j_3 = joined_on c d phase.Capabilities offer other_port capability_words (texts effects) ids x_2 j_2 (omega arith) (omega arith) short_capabilities refl refl given spare_new ok (codes "OK") told_capabilities ok_line tt (not_none (length ok) (lit< tt)) (lit< tt) refl refl

  -- ---- the first is asked for its stream, and tells the whole dataset
  abbrev u : List ℕ
  u = j_3.asked ++ array psync_words

  abbrev v : List ℕ
  v = j_3.answered

  abbrev at : ℕ
  at = c.lineage.stream.offset

  abbrev copy : List ℕ
  copy = copy_text first_id at

  a_asked : Next (takes next_name (array psync_words)) j_3.one (λ t. Stands c None [] 2 2 [] (texts effects) t × On next_name next_name (client (array psync_words)) [] t)
  a_asked = takes_next c None [] 2 2 [] (texts effects) j_3.one j_3.first refl next_name next_name (array psync_words) j_3.peer (let a = short_text psync_words (omega arith) (omega arith) short_psync in omega (arith, a))

  apart : other_id ≢ first_id
  apart same = let q : true ≡ false = ap (bytes_eq other_id) same in cc

  abbrev copy_event : Event
  copy_event = acts (copy_act first_port first_id other_id first_is other_is apart [] 2 2 [] (texts effects) a_asked.stage a_asked.holds.0 next_name next_name psync_words a_asked.holds.1 (omega arith) (omega arith) short_psync (psync_asked (digits_of other_id) 1 (lit< tt)) given spare_id)
      (copy_outs first_port first_id other_id first_is other_is apart [] 2 2 [] (texts effects) a_asked.stage a_asked.holds.0 next_name next_name psync_words a_asked.holds.1 (omega arith) (omega arith) short_psync (psync_asked (digits_of other_id) 1 (lit< tt)) given spare_id)

  a_told : Next copy_event a_asked.stage (λ t. Stands c None (next_name ∷ []) 2 2 [] (texts effects) t × On next_name next_name (replica []) copy t)
  a_told = synchronizes_next first_port first_id other_id first_is other_is apart [] 2 2 [] (texts effects) a_asked.stage a_asked.holds.0 next_name next_name psync_words a_asked.holds.1 (omega arith) (omega arith) short_psync (psync_asked (digits_of other_id) 1 (lit< tt)) given spare_id

  a_sent : Next (writes next_name copy) a_told.stage (λ t. Stands c None (next_name ∷ []) 2 2 [] (texts effects) t × On next_name next_name (replica []) [] t)
  a_sent = writes_next c None (next_name ∷ []) 2 2 (texts effects) a_told.stage a_told.holds.0 next_name next_name (replica []) copy a_told.holds.1

  -- ---- the other reads it, hears that it comes, and loads it
  counted : at ≤ offset_limit
  counted = let few = texts_short in omega (arith, few)

  copy_small : length copy < 2 ^ 63
  copy_small = copy_length at counted

  b_read : Next (takes zeroth copy) j_3.other (λ t. Stands d (Some (next_name, reader phase.Psync offer other_port copy)) [] 2 1 [] [] t × On zeroth next_name upstream [] t)
  b_read = hears_next d phase.Psync offer other_port next_name [] [] 2 1 [] [] j_3.other j_3.second refl zeroth j_3.master copy refl copy_small

  abbrev announce_event : Event
  announce_event = acts (announce_act d offer other_port next_name first_id at [] 2 1 [] [] b_read.stage b_read.holds.0 refl zeroth b_read.holds.1 given spare_id first_is counted (copy_some at)) (announce_outs d offer other_port next_name first_id at [] 2 1 [] [] b_read.stage b_read.holds.0 refl zeroth b_read.holds.1 given spare_id first_is counted (copy_some at))

  b_announced : Next announce_event b_read.stage (λ t. Stands d (Some (next_name, reader (phase.Snapshot first_id at) offer other_port snapshot)) [] 2 1 [] [] t × On zeroth next_name upstream [] t)
  b_announced = announces_next d offer other_port next_name first_id at [] 2 1 [] [] b_read.stage b_read.holds.0 refl zeroth b_read.holds.1 given spare_id first_is counted (copy_some at)

  abbrev pub loaded_core : Core
  loaded_core = record { up = true; master = false; offers = true; port = other_port; upstream = Some first_address; mark = None; lineage = lineage.begun first_id usual_backlog (0 + length (texts effects)); held = with_key }

  abbrev load_event : Event
  load_event = acts (load_act d offer other_port next_name first_id at [] 2 1 [] b_announced.stage b_announced.holds.0 refl zeroth b_announced.holds.1 given spare_id first_is counted snapshot_some) (load_outs d offer other_port next_name first_id at [] 2 1 [] b_announced.stage b_announced.holds.0 refl zeroth b_announced.holds.1 given spare_id first_is counted snapshot_some)

  b_loaded : Next load_event b_announced.stage (λ t. Stands loaded_core (Some (next_name, reader phase.Stream offer other_port [])) [] 2 1 [] (rebuilt with_key) t × On zeroth next_name upstream [] t)
  b_loaded = installs_next d offer other_port next_name first_id at [] 2 1 [] b_announced.stage b_announced.holds.0 refl zeroth b_announced.holds.1 given spare_id first_is counted snapshot_some

  -- ---- the systems
  abbrev y_0 : System
  y_0 = two 0 (runs j_3.one) (runs j_3.other) (lines (filled j_3.asked (array psync_words)) (drained v)) ids

  abbrev y_1 : System
  y_1 = two 0 (runs a_asked.stage) (runs j_3.other) (lines (drained u) (drained v)) ids

  abbrev y_2 : System
  y_2 = two 0 (runs a_told.stage) (runs j_3.other) (lines (drained u) (drained v)) ids

  abbrev y_3 : System
  y_3 = two 0 (runs a_sent.stage) (runs j_3.other) (lines (drained u) (filled v copy)) ids

  abbrev y_4 : System
  y_4 = two 0 (runs a_sent.stage) (runs b_read.stage) (lines (drained u) (drained (v ++ copy))) ids

  abbrev y_5 : System
  y_5 = two 0 (runs a_sent.stage) (runs b_announced.stage) (lines (drained u) (drained (v ++ copy))) ids

  pub copied : System
  copied = two 0 (runs a_sent.stage) (runs b_loaded.stage) (lines (drained u) (drained (v ++ copy))) ids

  step_1 : Step y_0 y_1
  step_1 = first_turns (runs j_3.other) j_3.one a_asked.stage (takes next_name (array psync_words)) (lines (filled j_3.asked (array psync_words)) (drained v)) (lines (drained u) (drained v)) ids tt a_asked.happens (asks_come j_3.asked v (array psync_words))

  step_2 : Step y_1 y_2
  step_2 = first_turns (runs j_3.other) a_asked.stage a_told.stage copy_event (lines (drained u) (drained v)) (lines (drained u) (drained v)) ids (spare_new y_1 refl, tt) a_told.happens refl

  step_3 : Step y_2 y_3
  step_3 = first_turns (runs j_3.other) a_told.stage a_sent.stage (writes next_name copy) (lines (drained u) (drained v)) (lines (drained u) (filled v copy)) ids tt a_sent.happens (answers_go u v copy)

  step_4 : Step y_3 y_4
  step_4 = other_turns (runs a_sent.stage) j_3.other b_read.stage (takes zeroth copy) (lines (drained u) (filled v copy)) (lines (drained u) (drained (v ++ copy))) ids tt b_read.happens (answers_come u v copy)

  step_5 : Step y_4 y_5
  step_5 = other_turns (runs a_sent.stage) b_read.stage b_announced.stage announce_event (lines (drained u) (drained (v ++ copy))) (lines (drained u) (drained (v ++ copy))) ids (spare_new y_4 refl, tt) b_announced.happens refl

  step_6 : Step y_5 copied
  unfolding copied
  step_6 = other_turns (runs a_sent.stage) b_announced.stage b_loaded.stage load_event (lines (drained u) (drained (v ++ copy))) (lines (drained u) (drained (v ++ copy))) ids (spare_new y_5 refl, tt) b_loaded.happens refl

  loads : Reaches x_3 copied
  loads = subst (λ (z : System). Reaches z copied) (sym j_3.is) (record { systems = y_1 ∷ y_2 ∷ y_3 ∷ y_4 ∷ y_5 ∷ copied ∷ []; course = (step_1, (step_2, (step_3, (step_4, (step_5, (step_6, tt)))))); ends = refl })

  pub to_copied : Reaches (accepted given) copied
  to_copied = then (accepted given) x_1 copied to_1 (then x_1 x_2 copied to_2 (then x_2 x_3 copied to_3 loads))

  -- ---- what both show
  pub first_shows : Shows copied 0 first_id offset with_key
  unfolding copied
  first_shows = shows_by copied 0 (record { life = 0; doing = runs a_sent.stage }) a_sent.stage.node c refl refl a_sent.holds.0.core refl offset set_offset

  pub other_shows : Shows copied 1 first_id offset with_key
  unfolding copied
  other_shows = shows_by copied 1 (record { life = 0; doing = runs b_loaded.stage }) b_loaded.stage.node loaded_core refl refl b_loaded.holds.0.core refl offset set_offset

  -- ---- both, to go on with
  pub record IsCopied (x : System) : Type 0 where
    pub one : Stage
    pub other : Stage
    pub first : Stands c None (next_name ∷ []) 2 2 [] (texts effects) one
    pub second : Stands loaded_core (Some (next_name, reader phase.Stream offer other_port [])) [] 2 1 [] (rebuilt with_key) other
    pub connections : List Connection
    pub is : x ≡ two 0 (runs one) (runs other) connections ids

  pub is_copied : IsCopied copied
  unfolding copied
  is_copied = record { one = a_sent.stage; other = b_loaded.stage; first = a_sent.holds.0; second = b_loaded.holds.0; connections = lines (drained u) (drained (v ++ copy)); is = refl }
