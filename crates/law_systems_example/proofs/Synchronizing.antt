-- A master is asked for its stream by one who has another: it answers with the whole dataset.
use Rattle.std.proofs.Common.{◌≡◌, ◌≢◌, ◌<◌, ◌≤◌, ◌++◌, inl, inr, ℕ, pos, List, [], ◌∷◌, None, Some, Ok, length, refl, sym, ap, subst, arith}
use Rattle.law_refinement.proofs.Lines.{AreShort}
use Rattle.mr_links.specs.declared.link_id.LinkId.{LinkId}
use Rattle.mr_resp.specs.Spelling.{array}
use Rattle.mr_data.specs.declared.given.Given.{Given}
use Rattle.mr_effect.specs.Spelling.{texts}
use Rattle.mr_effect.specs.declared.effect.Effect.{Effect}
use Rattle.mr_repl.specs.Lineage.{standing_of}
use Rattle.mr_repl.specs.ReplId.{IsId, digits_of}
use Rattle.mr_repl.specs.Standing.{IsKnown, MayContinue}
use Rattle.mr_cmd_node.specs.declared.node_ask.NodeAsk.TheVariants as node
use Rattle.mr_commands.specs.Requests.{AsksNode}
use Rattle.mr_peer_lines.specs.Written.{length_line, reply_line}
use Rattle.mr_peer_lines.specs.declared.psync.PsyncReply.{PsyncReply}
use Rattle.mr_peer_lines.specs.declared.psync.PsyncReply.TheVariants.{FullResync}
use Rattle.mr_node_links.specs.State.{put_end, streams}
use Rattle.mr_node_links.specs.State.EndState.{client, replica, upstream}
use Rattle.mr_node_links.proofs.Naming.{turned_lists}
use Rattle.mr_node_output.specs.Outs.{OutState, OutsState, no_outs, send, sent_outs}
use Rattle.mr_node_spec.specs.State.{Core, IsNode, NodeState, end_of}
use Rattle.mr_node_spec.specs.Sound.{IsSound}
use Rattle.mr_node_spec.specs.ClientRows.{ClientRow, IsAnswerToPsync}
use Rattle.mr_node_spec.specs.Growing.{rebuilt}
use Rattle.mr_node_state.specs.Parts.{with_ends}
use Rattle.mr_node_state.proofs.Nodes.{put_node}
use Rattle.mr_node.specs.Parts.{role_of}
use Rattle.mr_node.specs.declared.step.Step.TheVariants as step
use Rattle.mr_node.proofs.Ends.{put_leaves}
use Rattle.mr_loop.specs.Causes.{Act, Stepped, at_step}
use Rattle.mr_loop.specs.News.{is_client_end, news_of, place_of}
use Rattle.mr_loop.specs.Rows.{acts}
use Rattle.mr_loop.specs.Stage.{Stage}
use Rattle.law_minired.proofs.Ids.{one_id}
use Rattle.law_systems_example.specs.Systems.{with_key}
use Rattle.law_systems_example.proofs.Stages.{Next, On, Stands, got, sound_as, still_free}
use Rattle.law_systems_example.proofs.Moving.{is_up}
use Rattle.law_systems_example.proofs.Acting.{Became, answers_next, client_stepped}
use Rattle.law_systems_example.proofs.Wording.{asks_words, some_text}
use Rattle.law_systems_example.proofs.Setting.{set_core}
use Rattle.law_systems_example.proofs.Keys.{rebuilding_is, remakes, texts_short}

-- the whole dataset, as it is told: the line, the length, and what makes it again
abbrev pub copy_line : List ℕ → ℕ → List ℕ
copy_line id offset = reply_line (FullResync id offset)

abbrev pub snapshot : List ℕ
snapshot = length_line (length (rebuilt with_key)) ++ rebuilt with_key

abbrev pub copy_text : List ℕ → ℕ → List ℕ
copy_text id offset = copy_line id offset ++ snapshot

pub copy_short : length (rebuilt with_key) ≤ 2000
copy_short = subst (λ (es : List Effect). length (texts es) ≤ 2000) (sym rebuilding_is) texts_short

pub is_sent : (link : LinkId) (r : PsyncReply) (rest : List ℕ) → sent_outs (Some link) (reply_line r ++ rest) ≡ send link (reply_line r ++ rest) ∷ []
unfolding reply_line
is_sent link r rest = refl

module _ (port : ℕ) (id other : List ℕ) (is_id : IsId id) (is_other : IsId other) (apart : other ≢ id) where
  abbrev c : Core
  c = set_core port id

  refused : (from : ℕ) → MayContinue (standing_of c.lineage) (digits_of other) from → ⊥
  refused from may = known may.known
    where
      known : IsKnown (standing_of c.lineage) (digits_of other) from → ⊥
      known (inl e) = apart (one_id other id is_other is_id e)
      known (inr e) = absurd e

  answer : IsAnswerToPsync c.lineage c.held (digits_of other) (pos 1) (copy_text id c.lineage.stream.offset)
  answer = IsAnswerToPsync.resynchronizes (λ from e may. refused from may) remakes (let few = copy_short in omega (arith, few)) refl

  module _ (names : List LinkId) (n w : ℕ) (batch file : List ℕ) (s : Stage) (is : Stands c None names n w batch file s) (socket link : LinkId) (words : List (List ℕ)) (on : On socket link (client (array words)) [] s)
      (some : 0 < length words) (few : length words < 10) (short : AreShort words) (wish : AsksNode words (node.Psync (digits_of other) (pos 1))) (given : Given) (fresh : List ℕ) where
    abbrev streaming : NodeState
    streaming = with_ends s.node (put_end s.node.ends link (replica []))

    abbrev pub copy_outs : OutsState
    copy_outs = record no_outs { link = Some link; reply = copy_text id c.lineage.stream.offset }

    no_upstream : (u : List ℕ) → client u ≡ upstream → ⊥
    no_upstream u e = cc

    not_upstream : replica [] ≡ upstream → ⊥
    not_upstream e = cc

    streaming_is : IsNode streaming
    streaming_is = put_node s.node link (client (array words)) (replica []) is.sound.node on.end (no_upstream (array words)) not_upstream (λ e. ap (λ (x : Core). x.master) is.core)

    streaming_sound : IsSound streaming
    streaming_sound = sound_as s.node streaming is.sound streaming_is refl refl

    row : ClientRow s.node link (array words) given fresh streaming copy_outs
    row = ClientRow.synchronizes (record {
      up = is_up c s is.core refl;
      master = ap (λ (x : Core). x.master) is.core;
      words = words;
      rest = [];
      asks = asks_words words some few short;
      id = digits_of other;
      wanted = pos 1;
      wish = wish;
      text = copy_text id c.lineage.stream.offset;
      answer = subst (λ (x : Core). IsAnswerToPsync x.lineage x.held (digits_of other) (pos 1) (copy_text id c.lineage.stream.offset)) (sym is.core) answer;
      core = refl;
      leaves = put_leaves s.node streaming link (replica []) refl;
      outs_are = refl;
    })

    stepped : Stepped s.node link given fresh streaming (Ok (step.Done copy_outs))
    stepped = client_stepped s.node link (array words) given fresh streaming copy_outs is.sound.node (is_up c s is.core refl) on.end (some_text words) streaming_sound row

    became : Became c None (names ++ link ∷ []) n link (replica []) streaming
    became = record {
      core = is.core;
      follow = is.follow;
      sound = streaming_sound;
      opened = is.opened;
      listed = turned_lists names s.node.ends.open_links link (replica []) is.listed (ap streams on.end) refl;
      ends = still_free s.node.ends.open_links n link (client (array words)) (replica []) on.end is.ends;
      end = got s.node.ends.open_links link (replica []);
    }

    abbrev pub copy_act : Act
    copy_act = at_step socket link given fresh (news_of (place_of (role_of s.node) (is_client_end (end_of s.node link))) (role_of streaming) copy_outs)

    pub synchronizes_next : Next (acts copy_act copy_outs) s
        (λ t. Stands c None (names ++ link ∷ []) n w batch file t × On socket link (replica []) (copy_text id c.lineage.stream.offset) t)
    synchronizes_next = answers_next c None names n w batch file s is socket link (client (array words)) on given fresh streaming copy_outs stepped c None (names ++ link ∷ []) (replica []) became (copy_text id c.lineage.stream.offset)
        (ap (λ (os : List OutState). os ++ []) (is_sent link (FullResync id c.lineage.stream.offset) snapshot))
