-- A replica is promoted by a client: it leaves its master, and goes on under a fresh id.
use Rattle.std.proofs.Common.{◌≡◌, ◌≢◌, ◌≤◌, ◌++◌, ℕ, List, [], ◌∷◌, true, false, cond, Option, None, Some, Ok, codes, length, refl, sym, ap, subst, ◌∙◌, arith, lit<}
use Rattle.std.specs.FinMap.{get}
use Rattle.mr_links.specs.declared.link_id.LinkId.{LinkId}
use Rattle.mr_resp.specs.Replies.{reply_text}
use Rattle.mr_resp.specs.Spelling.{array}
use Rattle.mr_data.specs.declared.given.Given.{Given}
use Rattle.mr_repl.specs.Lineage.{renamed}
use Rattle.mr_repl.specs.ReplId.{IsId}
use Rattle.mr_cmd_shared.specs.Answered.{done}
use Rattle.mr_follower.specs.State.{FollowState}
use Rattle.mr_replication.specs.State.{name_of}
use Rattle.mr_node_links.specs.State.{EndState, put_end}
use Rattle.mr_node_links.specs.State.EndState.{client, shut, upstream}
use Rattle.mr_node_links.specs.Replicas.{is_named}
use Rattle.mr_node_links.proofs.Naming.{at_or_other}
use Rattle.mr_node_output.specs.Outs.{OutState, OutsState, close, closed_outs, no_outs, outs_of, send, use_id}
use Rattle.mr_node_spec.specs.State.{Core, FollowedAt, IsNode, NodeState, end_of}
use Rattle.mr_node_spec.specs.Sound.{IsSound}
use Rattle.mr_node_spec.specs.LinkRows.{closed_at}
use Rattle.mr_node_spec.specs.ClientRows.{ClientRow, Promotes}
use Rattle.mr_node_spec.specs.Ends.{Settles, names_of}
use Rattle.mr_node_state.specs.Parts.{shut_one}
use Rattle.mr_node_state.proofs.Nodes.{alone_node, put_node}
use Rattle.mr_node.specs.Parts.{role_of}
use Rattle.mr_node.specs.declared.step.Step.TheVariants as step
use Rattle.mr_node.proofs.Ends.{some_is}
use Rattle.mr_unsent.specs.Limits.{most_unsent}
use Rattle.mr_connections.specs.State.{ConnectionState, parted, sent}
use Rattle.mr_loop.specs.Carrying.{Carried}
use Rattle.mr_loop.specs.Causes.{Act, Stepped, at_step}
use Rattle.mr_loop.specs.News.{is_client_end, news_of, place_of}
use Rattle.mr_loop.specs.Rows.{acts}
use Rattle.mr_loop.specs.Stage.{Stage, connection_at, with_connections}
use Rattle.law_systems_example.proofs.Stages.{Next, On, Stands, got, other}
use Rattle.law_systems_example.proofs.Moving.{is_up}
use Rattle.law_systems_example.proofs.Acting.{client_stepped}
use Rattle.law_systems_example.proofs.Wording.{asks_words, some_text}
use Rattle.law_systems_example.proofs.Reading.{no_one_asked}

abbrev pub no_one : List (List ℕ)
no_one = codes "REPLICAOF" ∷ codes "NO" ∷ codes "ONE" ∷ []

-- what a node is behind a promotion
abbrev pub led_core : Core → List ℕ → Core
led_core x fresh = record x { master = true; offers = true; upstream = None; mark = None; lineage = renamed fresh x.lineage }

module _ (c : Core) (master : LinkId) (g : FollowState) (names : List LinkId) (n w : ℕ) (batch file : List ℕ) (s : Stage) (is : Stands c (Some (master, g)) names n w batch file s) (up : c.up ≡ true) (replica : c.master ≡ false)
    (socket link : LinkId) (on : On socket link (client (array no_one)) [] s) (given : Given) (fresh : List ℕ) (is_id : IsId fresh) where
  abbrev leading : NodeState
  leading = record { core = led_core s.node.core fresh; ends = put_end (put_end s.node.ends master shut) link (client []); follow = None }

  no_upstream : (u : List ℕ) → client u ≡ upstream → ⊥
  no_upstream u e = cc

  followed : end_of s.node master ≡ Some upstream
  followed = subst (FollowedAt s.node.ends) is.follow is.sound.node.followed

  client_upstream : ◌≡◌ {A = Option EndState} (Some (client (array no_one))) (Some upstream) → ⊥
  client_upstream e = cc

  apart : link ≢ master
  apart same = client_upstream (sym on.end ∙ (ap (end_of s.node) same ∙ followed))

  alone_is : IsNode (record { core = led_core s.node.core fresh; ends = put_end s.node.ends master shut; follow = None })
  alone_is = subst (λ (f : Option (LinkId × FollowState)). IsNode (record { core = led_core s.node.core fresh; ends = shut_one (name_of f) s.node.ends; follow = None })) is.follow
      (alone_node s.node (led_core s.node.core fresh) is.sound.node (λ e. refl))

  still_there : get (put_end s.node.ends master shut).open_links link ≡ Some (client (array no_one))
  still_there = other s.node.ends.open_links master shut link apart ∙ on.end

  leading_is : IsNode leading
  leading_is = put_node (record { core = led_core s.node.core fresh; ends = put_end s.node.ends master shut; follow = None }) link (client (array no_one)) (client []) alone_is still_there (no_upstream (array no_one)) (no_upstream []) (λ e. refl)

  leading_sound : IsSound leading
  leading_sound = record { node = leading_is; window = is.sound.window; id = is_id; second = is.sound.id; upstream = tt; reading = tt }

  abbrev pub lead_outs : OutsState
  lead_outs = record no_outs { link = Some link; reply = reply_text done; closed = names_of (name_of s.node.follow); used = Some fresh }

  named_master : (x : LinkId) → is_named (master ∷ []) x ≡ true → x ≡ master
  named_master x = at_or_other x master (λ b. cond b true false ≡ true → x ≡ master) (λ same e. same) (λ different e. absurd (let q : false ≡ true = e in cc))

  not_named : (x : LinkId) → is_named (master ∷ []) x ≡ false → x ≢ master
  not_named x = at_or_other x master (λ b. cond b true false ≡ false → x ≢ master) (λ same e. absurd (let q : true ≡ false = e in cc)) (λ different e. different)

  settles : Settles s.node link leading (client []) (master ∷ [])
  settles = record {
    is = got (put_end s.node.ends master shut).open_links link (client []);
    shuts = λ x e. let same = named_master x e in
        other (put_end s.node.ends master shut).open_links link (client []) x (λ again. apart (sym again ∙ same)) ∙ (ap (get (put_end s.node.ends master shut).open_links) same ∙ got s.node.ends.open_links master shut);
    others = λ x away e. other (put_end s.node.ends master shut).open_links link (client []) x away ∙ other s.node.ends.open_links master shut x (not_named x e);
    opened = refl;
  }

  promotes : Promotes s.node link (array no_one) fresh leading lead_outs
  promotes = record {
    up = is_up c s is.core up;
    replica = ap (λ (x : Core). x.master) is.core ∙ replica;
    words = no_one;
    rest = [];
    asks = asks_words no_one (omega arith) (omega arith) (lit< tt, (lit< tt, (lit< tt, tt)));
    wish = no_one_asked;
    core = refl;
    follow = refl;
    ends = subst (λ (f : Option (LinkId × FollowState)). Settles s.node link leading (client []) (names_of (name_of f))) (sym is.follow) settles;
    outs_are = refl;
  }

  stepped : Stepped s.node link given fresh leading (Ok (step.Done lead_outs))
  stepped = client_stepped s.node link (array no_one) given fresh leading lead_outs is.sound.node (is_up c s is.core up) on.end (some_text no_one) leading_sound (ClientRow.promotes promotes)

  abbrev called : Stage
  called = record s { node = leading }

  abbrev answered : Stage
  answered = record called { own = with_connections (sent link (reply_text done)) s.own }

  abbrev left : Stage
  left = record answered { own = with_connections (parted master) answered.own; node = closed_at master leading }

  abbrev pub lead_act : Act
  lead_act = at_step socket link given fresh (news_of (place_of (role_of s.node) (is_client_end (end_of s.node link))) (role_of leading) lead_outs)

  outs_are : outs_of lead_outs ≡ send link (reply_text done) ∷ close master ∷ use_id fresh ∷ []
  outs_are = ap (λ (f : Option (LinkId × FollowState)). send link (reply_text done) ∷ (closed_outs (names_of (name_of f)) ++ use_id fresh ∷ [])) is.follow

  nothing_waits : (k : ConnectionState) → connection_at s.own socket ≡ Some k → length k.waiting ≤ most_unsent
  nothing_waits k found =
      let same : record { link = Some link; waiting = [] } ≡ k = some_is (record { link = Some link; waiting = [] }) k (sym on.connection ∙ found) in
      subst (λ (x : ConnectionState). length x.waiting ≤ most_unsent) same (omega arith)

  pub leads_next : Next (acts lead_act lead_outs) s (λ t. t.node.core ≡ led_core c fresh)
  leads_next = record {
    stage = left;
    happens = record {
      called = called;
      calls = record {
        has = record { connection = record { link = Some link; waiting = [] }; is = on.connection; has = refl };
        light = record { few = λ at k found. nothing_waits k found };
        stepped = stepped;
        news_are = refl;
        same = refl;
      };
      carried = subst (λ (os : List OutState). Carried os called left) (sym outs_are) (answered, refl, (left, refl, (left, refl, refl)));
    };
    holds = ap (λ (x : Core). led_core x fresh) is.core;
  }
