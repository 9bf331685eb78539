-- A client sets a key, and what that makes is appended to the file.
use Rattle.std.proofs.Common.{◌≡◌, ◌+◌, ◌-◌, ◌≤◌, ◌++◌, ℕ, ℤ, List, [], ◌∷◌, true, false, Option, None, Some, Ok, length, refl, sym, ap, subst, ◌∙◌, arith, lit<}
use Rattle.std.specs.Prelude.{if◌then◌else◌}
use Rattle.std.specs.FinMap.{empty, get, get-empty, insert}
use Rattle.std.proofs.Math.Seq.{take-length}
use Rattle.std.proofs.lemmas.List.{length-drop}
use Rattle.mr_links.specs.declared.link_id.LinkId.{LinkId}
use Rattle.mr_map.specs.Bytes.{Bytes, bytes_cmp}
use Rattle.mr_resp.specs.Replies.{reply_text}
use Rattle.mr_resp.specs.Spelling.{array}
use Rattle.mr_keyspace.specs.Dataset.{Dataset}
use Rattle.mr_keyspace.specs.declared.value.Entry.{Entry}
use Rattle.mr_keyspace.specs.declared.value.Value.TheVariants as values
use Rattle.mr_effect.specs.Spelling.{texts}
use Rattle.mr_data.specs.declared.given.Given.{Given}
use Rattle.mr_repl.specs.Backlog.{IsWindow, after_bytes, empty_at, offset_limit, usual_backlog}
use Rattle.mr_repl.specs.ReplId.{IsId}
use Rattle.mr_file.specs.LogFile.{Appends}
use Rattle.mr_file.specs.declared.sync_mode.SyncMode.TheVariants as sync
use Rattle.mr_arguments.specs.Names.{named}
use Rattle.mr_ask.specs.Asks.{asked}
use Rattle.mr_ask.specs.declared.ask.Ask.TheVariants as ask
use Rattle.mr_cmd_node.specs.declared.node_ask.NodeAsk.{NodeAsk}
use Rattle.mr_cmd_string.specs.declared.text_ask.TextAsk.TheVariants as text
use Rattle.mr_cmd_string.specs.declared.text_ask.SetReply.TheVariants as answer
use Rattle.mr_cmd_string.specs.declared.text_ask.Lifetime.TheVariants as lifetime
use Rattle.mr_cmd_string.specs.Setting.{holds_until}
use Rattle.mr_cmd_shared.specs.Answered.{done}
use Rattle.mr_cmd_shared.specs.Keys.{dels, expired, is_stored, without}
use Rattle.mr_commands.specs.Requests.{HasPlan, IsPlain, left}
use Rattle.mr_follower.specs.State.{FollowState}
use Rattle.mr_node_links.specs.State.{put_end, streams}
use Rattle.mr_node_links.specs.State.EndState.{client, upstream}
use Rattle.mr_node_links.proofs.Naming.{put_lists}
use Rattle.mr_node_output.specs.Outs.{Output, OutsState, growth, no_outs}
use Rattle.mr_node_spec.specs.State.{Core, IsNode, NodeState, end_of}
use Rattle.mr_node_spec.specs.Sound.{IsSound}
use Rattle.mr_node_spec.specs.ClientRows.{ClientRow}
use Rattle.mr_node_spec.specs.Growing.{grown_by}
use Rattle.mr_node_spec.specs.Served.{Answered, Served}
use Rattle.mr_node_spec.specs.Telling.{Around, link_of}
use Rattle.mr_node_state.proofs.Nodes.{put_node, same_node}
use Rattle.mr_node.specs.Parts.{role_of}
use Rattle.mr_node.specs.declared.step.Step.TheVariants as step
use Rattle.mr_loop.specs.Causes.{Act, Stepped, at_step}
use Rattle.mr_loop.specs.News.{is_client_end, news_of, place_of}
use Rattle.mr_loop.specs.Rows.{acts, appends}
use Rattle.mr_loop.specs.Stage.{Stage, committed}
use Rattle.law_systems_example.specs.Systems.{effects, key, value, with_key}
use Rattle.law_systems_example.proofs.Stages.{Next, On, Stands, got, other, still_free}
use Rattle.law_systems_example.proofs.Moving.{is_up}
use Rattle.law_systems_example.proofs.Acting.{Became, client_stepped, grows_next}
use Rattle.law_systems_example.proofs.Wording.{asks_words, some_text}
use Rattle.law_systems_example.proofs.Reading.{set_asked}
use Rattle.law_systems_example.proofs.Beginning.{begun_core}
use Rattle.law_systems_example.proofs.Keys.{all_short, applied, command_texts, texts_short, the_words}

-- ---- its plan
none_expired : (now : ℤ) → expired now (key ∷ []) empty ≡ []
none_expired now = ap (λ (o : Option Entry). if is_stored now true o then key ∷ [] else []) (get-empty bytes_cmp key)

effects_are : (now : ℤ) → dels (expired now (key ∷ []) empty) ++ (if holds_until value None (get (without (expired now (key ∷ []) empty) empty) key) then [] else effects) ≡ effects
effects_are now =
    ap (λ (ks : List Bytes). dels ks ++ (if holds_until value None (get (without ks empty) key) then [] else effects)) (none_expired now)
    ∙ ap (λ (o : Option Entry). if holds_until value None o then [] else effects) (get-empty bytes_cmp key)

left_is : (given : Given) → left false the_words given empty ≡ with_key
unfolding named
left_is given = ap (λ (ks : List Bytes). insert (without ks empty) key (record { value = values.Text value; deadline = None })) (none_expired given.now)

set_plan : (given : Given) → HasPlan false empty the_words given done effects
unfolding named
set_plan given = record {
  goes_on = refl;
  planned = record { planned = record { reply_is = refl; effects_are = sym (effects_are given.now) } };
  leads = applied ∙ ap Some (sym (left_is given));
  texts = command_texts;
  short = all_short;
}

no_node : (wish : NodeAsk) → ◌≡◌ {A = _} (asked the_words) (Ok (ask.Node wish)) → ⊥
no_node wish e = let q : Ok (ask.Texts (text.Set key value None answer.Done lifetime.Endless)) ≡ Ok (ask.Node wish) = sym (set_asked key value) ∙ e in cc

set_plain : IsPlain the_words
unfolding named
set_plain = record { keeps_file = refl; runs_on = refl; asks_data = refl; asks_no_node = λ wish e. no_node wish e }

-- ---- what the node is behind it
abbrev pub set_core : ℕ → List ℕ → Core
set_core port id = grown_by effects with_key (begun_core port id empty)

abbrev set_out : Output
set_out = record (growth (texts effects)) { said = reply_text done }

few_grown : texts effects ≡ texts effects → 0 + length (texts effects) ≤ offset_limit
few_grown e = let few = texts_short in omega (arith, few)

set_answered : (port : ℕ) (id : List ℕ) (around : Around) (given : Given) → Answered (begun_core port id empty) around the_words given (set_core port id) set_out
set_answered port id around given = Answered.within set_plain done effects (set_plan given) (few_grown refl) (ap (λ (m : Dataset). grown_by effects m (begun_core port id empty)) (sym (left_is given))) refl

pub set_window : IsWindow (after_bytes (empty_at usual_backlog 0) (texts effects))
set_window =
    let few = texts_short in
    let cut = length-drop (length (texts effects) - usual_backlog) (texts effects) in
    record { within = omega (arith, few, cut); counted = omega (arith, few, cut); some_room = lit< tt; limited = omega arith; countable = omega (arith, few) }

module _ (port : ℕ) (id : List ℕ) (n w : ℕ) (batch file : List ℕ) (s : Stage) (is : Stands (begun_core port id empty) None [] n w batch file s) (socket link : LinkId)
    (on : On socket link (client (array the_words)) [] s) (given : Given) (fresh : List ℕ) where
  abbrev setting : NodeState
  setting = record { core = set_core port id; ends = put_end s.node.ends link (client []); follow = None }

  no_upstream : (u : List ℕ) → client u ≡ upstream → ⊥
  no_upstream u e = cc

  not_sent : false ≡ true → ⊥
  not_sent e = cc

  put_is : IsNode (record s.node { ends = put_end s.node.ends link (client []) })
  put_is = put_node s.node link (client (array the_words)) (client []) is.sound.node on.end (no_upstream (array the_words)) (no_upstream []) (λ e. absurd (not_sent e))

  setting_is : IsNode setting
  setting_is = subst (λ (f : Option (LinkId × FollowState)). IsNode (record { core = set_core port id; ends = put_end s.node.ends link (client []); follow = f })) is.follow
      (same_node (record s.node { ends = put_end s.node.ends link (client []) }) (set_core port id) put_is (sym (ap (λ (x : Core). x.master) is.core)))

  setting_sound : IsSound setting
  setting_sound = record {
    node = setting_is;
    window = set_window;
    id = subst (λ (x : Core). IsId x.lineage.id) is.core is.sound.id;
    second = tt;
    upstream = tt;
    reading = tt;
  }

  abbrev around : Around
  around = record { replicas = []; link = link_of s.node.follow }

  abbrev pub set_outs : OutsState
  set_outs = record no_outs { link = Some link; grown = texts effects; appended = texts effects; reply = reply_text done }

  row : ClientRow s.node link (array the_words) given fresh setting set_outs
  row = ClientRow.serves (record {
    up = is_up (begun_core port id empty) s is.core refl;
    rest = [];
    out = set_out;
    around = around;
    is_around = record { names = []; listed = is.listed; counted = refl; link = refl };
    served = Served.request the_words (asks_words the_words (omega arith) (omega arith) (lit< tt, (lit< tt, (lit< tt, tt))))
        (subst (λ (x : Core). Answered x around the_words given (set_core port id) set_out) (sym is.core) (set_answered port id around given));
    leaves = record {
      is = got s.node.ends.open_links link (client []);
      others = record { stay = λ x apart. other s.node.ends.open_links link (client []) x apart; opened = refl };
      follow = sym is.follow;
    };
    fed = is.listed;
    outs_are = refl;
  })

  stepped : Stepped s.node link given fresh setting (Ok (step.Done set_outs))
  stepped = client_stepped s.node link (array the_words) given fresh setting set_outs is.sound.node (is_up (begun_core port id empty) s is.core refl) on.end (some_text the_words) setting_sound row

  became : Became (set_core port id) None [] n link (client []) setting
  became = record {
    core = refl;
    follow = refl;
    sound = setting_sound;
    opened = is.opened;
    listed = put_lists [] s.node.ends.open_links link (client []) is.listed (sym (ap streams on.end));
    ends = still_free s.node.ends.open_links n link (client (array the_words)) (client []) on.end is.ends;
    end = got s.node.ends.open_links link (client []);
  }

  abbrev pub set_act : Act
  set_act = at_step socket link given fresh (news_of (place_of (role_of s.node) (is_client_end (end_of s.node link))) (role_of setting) set_outs)

  pub sets_next : Next (acts set_act set_outs) s (λ t. Stands (set_core port id) None [] n w (batch ++ texts effects) file t)
  sets_next = grows_next (begun_core port id empty) None [] n w batch file s is socket link (client (array the_words)) on given fresh setting set_outs stepped (set_core port id) None [] (client []) became (texts effects) (reply_text done) refl

-- ---- it is in the file
module _ (c : Core) (f : Option (LinkId × FollowState)) (names : List LinkId) (n w : ℕ) (batch file : List ℕ) (s : Stage) (is : Stands c f names n w batch file s) where
  abbrev filed : Stage
  filed = record { node = s.node; own = committed s.own; wire = s.wire; failed = s.failed; told = Some (file ++ batch); synced = s.synced }

  written : Appends s.told filed.told batch (length batch)
  written = subst (λ (o : Option (List ℕ)). Appends o filed.told batch (length batch)) (sym is.file_is) (ap (λ (x : List ℕ). Some (file ++ x)) (sym (take-length batch)))

  not_always : sync.No ≡ sync.Always → ⊥
  not_always e = cc

  pub appends_next : Next (appends batch) s (λ t. Stands c f names n w [] (file ++ batch) t)
  appends_next = record {
    stage = filed;
    happens = record { texts_are = sym is.batch_is; written = written; synced = λ e. absurd (not_always e); own = refl; wire = refl; failed = refl; node = refl };
    holds = record {
      core = is.core;
      follow = is.follow;
      sound = is.sound;
      opened = is.opened;
      listed = is.listed;
      wired = is.wired;
      ends = is.ends;
      wires = is.wires;
      connections = is.connections;
      batch_is = refl;
      file_is = refl;
    };
  }
