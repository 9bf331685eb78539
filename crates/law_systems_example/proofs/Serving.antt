-- A client's request is served: one that changes nothing, or one that sets a key.
use Rattle.std.proofs.Common.{◌≡◌, ◌<◌, ◌++◌, ℕ, List, [], ◌∷◌, Bool, true, false, not, Option, None, Some, Ok, codes, length, refl, sym, ap, ◌∙◌, arith}
use Rattle.std.specs.Prelude.{replicate}
use Rattle.std.proofs.lemmas.List.{length-replicate}
use Rattle.std.proofs.lemmas.List.Elements.{All-nil}
use Rattle.mr_links.specs.declared.link_id.LinkId.{LinkId}
use Rattle.mr_resp.specs.Replies.{reply_text, simple}
use Rattle.mr_resp.specs.Spelling.{array}
use Rattle.mr_resp.specs.Command.{IsCommandText}
use Rattle.mr_resp.specs.Usual.{commands}
use Rattle.mr_keyspace.specs.Dataset.{Dataset}
use Rattle.mr_effect.specs.Spelling.{IsShort, text}
use Rattle.mr_data.specs.declared.given.Given.{Given}
use Rattle.mr_repl.specs.Backlog.{IsWindow}
use Rattle.mr_arguments.specs.Names.{named}
use Rattle.mr_ask.specs.Asks.{asked}
use Rattle.mr_ask.specs.declared.ask.Ask.TheVariants as ask
use Rattle.mr_cmd_node.specs.declared.node_ask.NodeAsk.{NodeAsk}
use Rattle.mr_cmd_node.specs.declared.node_ask.NodeAsk.TheVariants as node
use Rattle.mr_cmd_node.specs.declared.node_ask.ReplicaOption.{ReplicaOption}
use Rattle.mr_cmd_server.specs.declared.server_ask.ServerAsk.{ServerAsk}
use Rattle.mr_cmd_server.specs.declared.server_ask.ServerAsk.TheVariants as server
use Rattle.mr_cmd_shared.specs.Answered.{done}
use Rattle.mr_commands.specs.Requests.{AsksNode, HasPlan, IsPlain, left}
use Rattle.mr_follower.specs.State.{FollowState}
use Rattle.mr_info.specs.declared.roles.Replica.{Replica}
use Rattle.mr_node_links.specs.State.{put_end, streams}
use Rattle.mr_node_links.specs.State.EndState.{client, upstream}
use Rattle.mr_node_links.proofs.Naming.{put_lists}
use Rattle.mr_node_output.specs.Outs.{OutState, OutsState, no_output, no_outs, send, sent_outs}
use Rattle.mr_node_spec.specs.State.{Core, IsNode, NodeState, end_of}
use Rattle.mr_node_spec.specs.Sound.{IsSound}
use Rattle.mr_node_spec.specs.ClientRows.{ClientRow}
use Rattle.mr_node_spec.specs.Served.{Answered, IsQuiet, Served, left_of, says}
use Rattle.mr_node_spec.specs.Telling.{Around, link_of}
use Rattle.mr_node_state.specs.Parts.{with_ends}
use Rattle.mr_node_state.proofs.Nodes.{put_node}
use Rattle.mr_node.proofs.Ends.{put_leaves}
use Rattle.mr_node.specs.declared.step.Step.TheVariants as step
use Rattle.mr_node.specs.Parts.{role_of}
use Rattle.mr_loop.specs.News.{is_client_end, news_of, place_of}
use Rattle.mr_loop.specs.Causes.{Act, Stepped, at_step}
use Rattle.mr_loop.specs.Rows.{acts}
use Rattle.mr_loop.specs.Stage.{Stage}
use Rattle.law_refinement.proofs.Clients.{grown_none}
use Rattle.law_refinement.proofs.Lines.{AreShort}
use Rattle.law_systems_example.proofs.Stages.{Next, On, Stands, got, sound_as, still_free}
use Rattle.law_systems_example.proofs.Moving.{is_up}
use Rattle.law_systems_example.proofs.Acting.{Became, answers_next, client_stepped}
use Rattle.law_systems_example.proofs.Wording.{asks_words, some_text}
use Rattle.law_systems_example.proofs.Reading.{ping_asked}

-- ---- what is answered
abbrev pub pong : List ℕ
pong = reply_text (simple (codes "PONG"))

ping_plan : (replica : Bool) (m : Dataset) (given : Given) → HasPlan replica m (codes "PING" ∷ []) given (simple (codes "PONG")) []
unfolding named
ping_plan true m given = record { goes_on = refl; planned = record { planned = (refl, refl) }; leads = refl; texts = All-nil (λ e. IsCommandText commands (text e)); short = All-nil IsShort }
ping_plan false m given = record { goes_on = refl; planned = record { planned = record { reply_is = refl; effects_are = refl } }; leads = refl; texts = All-nil (λ e. IsCommandText commands (text e)); short = All-nil IsShort }

no_node : (x : ServerAsk) (wish : NodeAsk) → ◌≡◌ {A = _} (asked (codes "PING" ∷ [])) (Ok (ask.Node wish)) → ⊥
no_node x wish e = let q : Ok (ask.Server (server.Ping None)) ≡ Ok (ask.Node wish) = sym ping_asked ∙ e in cc

ping_plain : IsPlain (codes "PING" ∷ [])
unfolding named
ping_plain = record { keeps_file = refl; runs_on = refl; asks_data = refl; asks_no_node = λ wish e. no_node server.Quit wish e }

kept_by : (b : Bool) (m : Dataset) (given : Given) → left b (codes "PING" ∷ []) given m ≡ m
unfolding named
kept_by true m given = refl
kept_by false m given = refl

pub ping_answered : (c : Core) (around : Around) (given : Given) → IsWindow c.lineage.stream → Answered c around (codes "PING" ∷ []) given c (says (simple (codes "PONG")))
ping_answered c around given is = Answered.within ping_plain (simple (codes "PONG")) [] (ping_plan (not c.master) c.held given) (let few = is.countable in omega (arith, few))
    (sym (grown_none c (left_of c (codes "PING" ∷ []) given) is (kept_by (not c.master) c.held given))) refl

pub introduced : (c : Core) (around : Around) (given : Given) (words : List (List ℕ)) (told : List (ReplicaOption × List ℕ)) → AsksNode words (node.ReplConf told) → Answered c around words given c (says done)
introduced c around given words told asks = Answered.keeps_role (node.ReplConf told) asks (IsQuiet.introduces told refl refl) refl

-- ---- a request that changes nothing
module _ (c : Core) (f : Option (LinkId × FollowState)) (names : List LinkId) (n w : ℕ) (batch file : List ℕ) (s : Stage) (is : Stands c f names n w batch file s) (up : c.up ≡ true) (socket link : LinkId)
    (words : List (List ℕ)) (on : On socket link (client (array words)) [] s) (some : 0 < length words) (few : length words < 10) (short : AreShort words) (given : Given) (fresh : List ℕ) where
  abbrev answering : NodeState
  answering = with_ends s.node (put_end s.node.ends link (client []))

  no_upstream : (u : List ℕ) → client u ≡ upstream → ⊥
  no_upstream u e = cc

  not_sent : false ≡ true → ⊥
  not_sent e = cc

  answering_is : IsNode answering
  answering_is = put_node s.node link (client (array words)) (client []) is.sound.node on.end (no_upstream (array words)) (no_upstream []) (λ e. absurd (not_sent e))

  answering_sound : IsSound answering
  answering_sound = sound_as s.node answering is.sound answering_is refl refl

  abbrev nobody : Replica
  nobody = record { address = None; port = None; acknowledged = None }

  abbrev around : Around
  around = record { replicas = replicate (length names) nobody; link = link_of s.node.follow }

  module _ (said : List ℕ) (answered : (around : Around) → Answered s.node.core around words given s.node.core (record no_output { said = said })) (is_sent : sent_outs (Some link) said ≡ send link said ∷ []) where
    abbrev pub quiet_outs : OutsState
    quiet_outs = record no_outs { link = Some link; reply = said }

    row : ClientRow s.node link (array words) given fresh answering quiet_outs
    row = ClientRow.serves (record {
      up = is_up c s is.core up;
      rest = [];
      out = record no_output { said = said };
      around = around;
      is_around = record { names = names; listed = is.listed; counted = length-replicate (length names) nobody; link = refl };
      served = Served.request words (asks_words words some few short) (answered around);
      leaves = put_leaves s.node answering link (client []) refl;
      fed = refl;
      outs_are = refl;
    })

    stepped : Stepped s.node link given fresh answering (Ok (step.Done quiet_outs))
    stepped = client_stepped s.node link (array words) given fresh answering quiet_outs is.sound.node (is_up c s is.core up) on.end (some_text words) answering_sound row

    became : Became c f names n link (client []) answering
    became = record {
      core = is.core;
      follow = is.follow;
      sound = answering_sound;
      opened = is.opened;
      listed = put_lists names s.node.ends.open_links link (client []) is.listed (sym (ap streams on.end));
      ends = still_free s.node.ends.open_links n link (client (array words)) (client []) on.end is.ends;
      end = got s.node.ends.open_links link (client []);
    }

    abbrev pub quiet_act : Act
    quiet_act = at_step socket link given fresh (news_of (place_of (role_of s.node) (is_client_end (end_of s.node link))) (role_of answering) quiet_outs)

    pub quiet_next : Next (acts quiet_act quiet_outs) s (λ t. Stands c f names n w batch file t × On socket link (client []) said t)
    quiet_next = answers_next c f names n w batch file s is socket link (client (array words)) on given fresh answering quiet_outs stepped c f names (client []) became said (ap (λ (os : List OutState). os ++ []) is_sent)
