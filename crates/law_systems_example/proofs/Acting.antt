-- The node makes a step, and what it gives out is carried out.
use Rattle.std.proofs.Common.{◌≡◌, ◌≢◌, ◌≤◌, ◌++◌, ℕ, List, [], ◌∷◌, Bool, true, false, cond, Option, None, Some, Ok, length, refl, sym, ap, subst, ◌∙◌, arith}
use Rattle.std.specs.Option.{option_map}
use Rattle.mr_links.specs.declared.link_id.LinkId.{LinkId}
use Rattle.mr_data.specs.declared.given.Given.{Given}
use Rattle.mr_file.specs.LogFile.{Replaces}
use Rattle.mr_follower.specs.State.{Agrees, FollowState}
use Rattle.mr_replication.specs.State.{name_of}
use Rattle.mr_replication.specs.declared.upstream.UpstreamStep.{UpstreamStep}
use Rattle.mr_replication.specs.declared.upstream.UpstreamStep.TheVariants as outcome
use Rattle.mr_node_links.specs.State.{EndState, Transaction}
use Rattle.mr_node_links.specs.Replicas.{Lists}
use Rattle.mr_node_links.specs.State.EndState.{client, replica, upstream, waiting, shut}
use Rattle.mr_node_output.specs.Outs.{OutState, OutsState, append, grow, outs_of, replace, send}
use Rattle.mr_node_spec.specs.State.{Core, FollowedAt, IsNode, NodeState, end_of}
use Rattle.mr_node_spec.specs.Sound.{IsSound}
use Rattle.mr_node_spec.specs.ClientRows.{ClientRow}
use Rattle.mr_node_spec.specs.UpstreamRows.{Hears}
use Rattle.mr_node.specs.Calls.{Agreeing}
use Rattle.mr_node.specs.Parts.{role_of}
use Rattle.mr_node.specs.Steps.{Steps}
use Rattle.mr_node.specs.declared.step.Step.TheVariants as step
use Rattle.mr_node.proofs.Ends.{one_end, some_is}
use Rattle.mr_unsent.specs.Limits.{most_unsent}
use Rattle.mr_connections.specs.State.{ConnectionState, pushed, sent, where_linked}
use Rattle.mr_connections.proofs.Each.{get-with_each}
use Rattle.mr_loop.specs.Carrying.{Carried}
use Rattle.mr_loop.specs.Causes.{Act, Stepped, at_step}
use Rattle.mr_loop.specs.News.{is_client_end, news_of, place_of}
use Rattle.mr_loop.specs.Rows.{acts}
use Rattle.mr_loop.specs.Stage.{Stage, committed, connection_at, filed, with_connections}
use Rattle.mr_loop.proofs.Waiting.{itself}
use Rattle.law_systems_example.proofs.Stages.{Next, On, Stands, none_some}

-- ---- a step at a client's end
module _ (a : NodeState) (l : LinkId) (u : List ℕ) (given : Given) (fresh : List ℕ) (b : NodeState) (outs : OutsState) (node : IsNode a) (up : a.core.up ≡ true) (end : end_of a l ≡ Some (client u)) where
  no_waiting : (t : Transaction) (v : List ℕ) → ◌≡◌ {A = Option EndState} (Some (client u)) (Some (waiting t v)) → ⊥
  no_waiting t v e = cc

  no_replica : (v : List ℕ) → ◌≡◌ {A = Option EndState} (Some (client u)) (Some (replica v)) → ⊥
  no_replica v e = cc

  no_upstream : ◌≡◌ {A = Option EndState} (Some (client u)) (Some upstream) → ⊥
  no_upstream e = cc

  no_shut : ◌≡◌ {A = Option EndState} (Some (client u)) (Some shut) → ⊥
  no_shut e = cc

  no_false : true ≡ false → ⊥
  no_false e = cc

  -- the end of the link that is followed is the master's
  not_followed : (f : Option (LinkId × FollowState)) → FollowedAt a.ends f → name_of f ≡ Some l → end_of a l ≡ Some upstream
  not_followed None h e = absurd (none_some l e)
  not_followed (Some f) h e = ap (end_of a) (sym (some_is f.0 l e)) ∙ h

  pub client_steps : ClientRow a l u given fresh b outs → Steps a l given fresh b (Ok (step.Done outs))
  client_steps row = record {
    at_client = λ v at. subst (λ (z : List ℕ). ClientRow a l z given fresh b outs) (one_end a l u v end at.agrees) row;
    at_waiting = λ t v at. absurd (no_waiting t v (sym end ∙ at.agrees.is));
    at_replica = λ v at. absurd (no_replica v (sym end ∙ at.agrees.is));
    at_master = λ is_up followed. absurd (no_upstream (sym end ∙ not_followed a.follow node.followed followed));
    at_shut = λ is_up at. absurd (no_shut (sym end ∙ at.is));
    absent = λ is_up none. absurd (none_some (client u) (sym none ∙ end));
    down = λ is_down. absurd (no_false (sym up ∙ is_down));
  }

  pub client_stepped : length u ≢ 0 → IsSound b → ClientRow a l u given fresh b outs → Stepped a l given fresh b (Ok (step.Done outs))
  client_stepped some sound row = record {
    input = record { node = node; count = length u; some = some; unread = record { up = up; bytes = u; counted = refl; agree = Agreeing.client (record { is = end }) } };
    row = client_steps row;
    sound = sound;
  }

-- ---- a step at the link to the master
module _ (a : NodeState) (l : LinkId) (g : FollowState) (u : List ℕ) (given : Given) (fresh : List ℕ) (b : NodeState) (outs : OutsState) (node : IsNode a) (up : a.core.up ≡ true) (follows : a.follow ≡ Some (l, g)) where
  end : end_of a l ≡ Some upstream
  end = subst (FollowedAt a.ends) follows node.followed

  no_client : (v : List ℕ) → ◌≡◌ {A = Option EndState} (Some upstream) (Some (client v)) → ⊥
  no_client v e = cc

  not_waiting : (t : Transaction) (v : List ℕ) → ◌≡◌ {A = Option EndState} (Some upstream) (Some (waiting t v)) → ⊥
  not_waiting t v e = cc

  not_replica : (v : List ℕ) → ◌≡◌ {A = Option EndState} (Some upstream) (Some (replica v)) → ⊥
  not_replica v e = cc

  not_shut : ◌≡◌ {A = Option EndState} (Some upstream) (Some shut) → ⊥
  not_shut e = cc

  not_false : true ≡ false → ⊥
  not_false e = cc

  pub master_steps : (came : UpstreamStep) → came ≢ outcome.Idle → Hears a l came b outs → Steps a l given fresh b (Ok (step.Done outs))
  master_steps came some hears = record {
    at_client = λ v at. absurd (no_client v (sym end ∙ at.agrees.is));
    at_waiting = λ t v at. absurd (not_waiting t v (sym end ∙ at.agrees.is));
    at_replica = λ v at. absurd (not_replica v (sym end ∙ at.agrees.is));
    at_master = λ is_up followed. (came, some, hears);
    at_shut = λ is_up at. absurd (not_shut (sym end ∙ at.is));
    absent = λ is_up none. absurd (none_some upstream (sym none ∙ end));
    down = λ is_down. absurd (not_false (sym up ∙ is_down));
  }

  pub master_stepped : length u ≢ 0 → Agrees g u → IsSound b → (came : UpstreamStep) → came ≢ outcome.Idle → Hears a l came b outs → Stepped a l given fresh b (Ok (step.Done outs))
  master_stepped some agrees sound came not_idle hears = record {
    input = record { node = node; count = length u; some = some; unread = record { up = up; bytes = u; counted = refl; agree = Agreeing.master (record { reader = g; found = follows; agrees = agrees }) } };
    row = master_steps came not_idle hears;
    sound = sound;
  }

-- ---- what the node is behind a step
pub record Became (c : Core) (f : Option (LinkId × FollowState)) (names : List LinkId) (n : ℕ) (link : LinkId) (e : EndState) (b : NodeState) : Type 0 where
  pub core : b.core ≡ c
  pub follow : b.follow ≡ f
  pub sound : IsSound b
  pub opened : b.ends.opened ≡ n
  pub listed : Lists names b.ends.open_links
  pub ends : (x : LinkId) → n ≤ x.generation → end_of b x ≡ None
  pub end : end_of b link ≡ Some e

module _ (c : Core) (f : Option (LinkId × FollowState)) (names : List LinkId) (n w : ℕ) (batch file : List ℕ) (s : Stage) (is : Stands c f names n w batch file s) (socket link : LinkId) (e : EndState) (on : On socket link e [] s)
    (given : Given) (fresh : List ℕ) (b : NodeState) (outs : OutsState) (stepped : Stepped s.node link given fresh b (Ok (step.Done outs)))
    (d : Core) (g : Option (LinkId × FollowState)) (others : List LinkId) (z : EndState) (became : Became d g others n link z b) where
  abbrev called : Stage
  called = record s { node = b }

  abbrev pub act : Act
  act = at_step socket link given fresh (news_of (place_of (role_of s.node) (is_client_end (end_of s.node link))) (role_of b) outs)

  nothing_waits : (k : ConnectionState) → connection_at s.own socket ≡ Some k → length k.waiting ≤ most_unsent
  nothing_waits k found =
      let same : record { link = Some link; waiting = [] } ≡ k = some_is (record { link = Some link; waiting = [] }) k (sym on.connection ∙ found) in
      subst (λ (x : ConnectionState). length x.waiting ≤ most_unsent) same (omega arith)

  sent_elsewhere : (reply : List ℕ) (x : LinkId) → w ≤ x.generation → connection_at (with_connections (sent link reply) s.own) x ≡ None
  sent_elsewhere reply x above = get-with_each (where_linked link (pushed reply)) s.own.connections x ∙ ap (option_map (where_linked link (pushed reply))) (is.connections x above)

  -- only a reply is given out
  module _ (reply : List ℕ) (outs_are : outs_of outs ≡ send link reply ∷ []) where
    abbrev answered : Stage
    answered = record called { own = with_connections (sent link reply) s.own }

    abbrev unsent : ConnectionState
    unsent = record { link = Some link; waiting = reply }

    sent_here : connection_at answered.own socket ≡ Some unsent
    sent_here = get-with_each (where_linked link (pushed reply)) s.own.connections socket
        ∙ (ap (option_map (where_linked link (pushed reply))) on.connection
        ∙ ap (λ (v : Bool). Some (cond v (record { link = Some link; waiting = reply }) (record { link = Some link; waiting = [] }))) (itself link))

    pub answers_next : Next (acts act outs) s (λ t. Stands d g others n w batch file t × On socket link z reply t)
    answers_next = record {
      stage = answered;
      happens = record {
        called = called;
        calls = record {
          has = record { connection = record { link = Some link; waiting = [] }; is = on.connection; has = refl };
          light = record { few = λ at k found. nothing_waits k found };
          stepped = stepped;
          news_are = refl;
          same = refl;
        };
        carried = subst (λ (os : List OutState). Carried os called answered) (sym outs_are) (answered, refl, refl);
      };
      holds = (
        record {
          core = became.core;
          follow = became.follow;
          sound = became.sound;
          opened = became.opened;
          listed = became.listed;
          wired = is.wired;
          ends = became.ends;
          wires = is.wires;
          connections = sent_elsewhere reply;
          batch_is = is.batch_is;
          file_is = is.file_is;
        },
        record { connection = sent_here; wire = on.wire; wired = on.wired; end = became.end },
      );
    }

  -- .. or nothing
  module _ (outs_are : outs_of outs ≡ []) where
    pub silent_next : Next (acts act outs) s (λ t. Stands d g others n w batch file t × On socket link z [] t)
    silent_next = record {
      stage = called;
      happens = record {
        called = called;
        calls = record {
          has = record { connection = record { link = Some link; waiting = [] }; is = on.connection; has = refl };
          light = record { few = λ at k found. nothing_waits k found };
          stepped = stepped;
          news_are = refl;
          same = refl;
        };
        carried = subst (λ (os : List OutState). Carried os called called) (sym outs_are) refl;
      };
      holds = (
        record {
          core = became.core;
          follow = became.follow;
          sound = became.sound;
          opened = became.opened;
          listed = became.listed;
          wired = is.wired;
          ends = became.ends;
          wires = is.wires;
          connections = is.connections;
          batch_is = is.batch_is;
          file_is = is.file_is;
        },
        record { connection = on.connection; wire = on.wire; wired = on.wired; end = became.end },
      );
    }

  -- .. or texts go to the stream and to the file, and a reply is sent
  module _ (texts reply : List ℕ) (outs_are : outs_of outs ≡ grow texts ∷ append texts ∷ send link reply ∷ []) where
    abbrev grown : Stage
    grown = record called { own = filed texts s.own }

    abbrev told : Stage
    told = record called { own = with_connections (sent link reply) (filed texts s.own) }

    pub grows_next : Next (acts act outs) s (λ t. Stands d g others n w (batch ++ texts) file t)
    grows_next = record {
      stage = told;
      happens = record {
        called = called;
        calls = record {
          has = record { connection = record { link = Some link; waiting = [] }; is = on.connection; has = refl };
          light = record { few = λ at k found. nothing_waits k found };
          stepped = stepped;
          news_are = refl;
          same = refl;
        };
        carried = subst (λ (os : List OutState). Carried os called told) (sym outs_are) (called, refl, (grown, refl, (told, refl, refl)));
      };
      holds = record {
        core = became.core;
        follow = became.follow;
        sound = became.sound;
        opened = became.opened;
        listed = became.listed;
        wired = is.wired;
        ends = became.ends;
        wires = is.wires;
        connections = sent_elsewhere reply;
        batch_is = ap (λ (x : List ℕ). x ++ texts) is.batch_is;
        file_is = is.file_is;
      };
    }

  -- .. or the file is replaced
  module _ (bytes : List ℕ) (outs_are : outs_of outs ≡ replace bytes ∷ []) where
    abbrev rewritten : Stage
    rewritten = record { node = b; own = committed s.own; wire = s.wire; failed = s.failed; told = Some bytes; synced = Some (length bytes) }

    replaced : Replaces s.told (Some bytes) bytes
    replaced = subst (λ (o : Option (List ℕ)). Replaces o (Some bytes) bytes) (sym is.file_is) refl

    pub loads_next : Next (acts act outs) s (λ t. Stands d g others n w [] bytes t × On socket link z [] t)
    loads_next = record {
      stage = rewritten;
      happens = record {
        called = called;
        calls = record {
          has = record { connection = record { link = Some link; waiting = [] }; is = on.connection; has = refl };
          light = record { few = λ at k found. nothing_waits k found };
          stepped = stepped;
          news_are = refl;
          same = refl;
        };
        carried = subst (λ (os : List OutState). Carried os called rewritten) (sym outs_are)
            (rewritten, record { written = replaced; synced = refl; own = refl; node = refl; wire = refl; failed = refl }, refl);
      };
      holds = (
        record {
          core = became.core;
          follow = became.follow;
          sound = became.sound;
          opened = became.opened;
          listed = became.listed;
          wired = is.wired;
          ends = became.ends;
          wires = is.wires;
          connections = is.connections;
          batch_is = refl;
          file_is = refl;
        },
        record { connection = on.connection; wire = on.wire; wired = on.wired; end = became.end },
      );
    }
