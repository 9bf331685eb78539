-- What each row of a step at a server's end leaves of the node, as its outs tell.
use Rattle.std.proofs.Common.{◌≡◌, ◌≢◌, ℕ, List, [], ◌∷◌, true, false, cond, Option, None, Some, refl, sym, ap, ◌∙◌}
use Rattle.mr_links.specs.Links.{Links}
use Rattle.mr_links.specs.declared.link_id.LinkId.{LinkId}
use Rattle.mr_data.specs.declared.given.Given.{Given}
use Rattle.mr_follower.specs.State.{FollowState}
use Rattle.mr_replication.specs.State.{name_of}
use Rattle.mr_groups.specs.Groups.{grown_text}
use Rattle.mr_node_links.specs.State.{EndState, Transaction, begun, end_at, streams}
use Rattle.mr_node_links.specs.State.EndState.{client, waiting, upstream}
use Rattle.mr_node_links.specs.Replicas.{is_named}
use Rattle.mr_node_links.proofs.Naming.{at_or_other}
use Rattle.mr_node_output.specs.Outs.{OutsState, Output}
use Rattle.mr_node_spec.specs.State.{Core, NodeState, FollowedAt, end_of}
use Rattle.mr_node_spec.specs.Ends.{names_of}
use Rattle.mr_node_spec.specs.Growing.{FedTo}
use Rattle.mr_node_spec.specs.Telling.{Around}
use Rattle.mr_node_spec.specs.Served.{Answered, Served}
use Rattle.mr_node_spec.specs.ClientRows.{ClientRow}
use Rattle.mr_node_spec.specs.Transactions.{WithinRow}
use Rattle.mr_node_spec.specs.ReplicaRows.{ReplicaRow}
use Rattle.mr_world_parts.specs.Answering.{EndsAs, IsBehind}

-- ---- the node runs on
answered_up : (c d : Core) (around : Around) (words : List (List ℕ)) (given : Given) (out : Output) → Answered c around words given d out → d.up ≡ c.up
answered_up c d around words given out (Answered.within plain reply effects plan few e o) = ap (λ (z : Core). z.up) e
answered_up c d around words given out (Answered.beyond plain reply effects plan far e o) = ap (λ (z : Core). z.up) e
answered_up c d around words given out (Answered.rewritten file again e o) = ap (λ (z : Core). z.up) e
answered_up c d around words given out (Answered.tells question is e o) = ap (λ (z : Core). z.up) e
answered_up c d around words given out (Answered.keeps_role wish asks quiet e) = ap (λ (z : Core). z.up) e

served_up : (c d : Core) (around : Around) (u rest : List ℕ) (given : Given) (out : Output) → Served c around u given d rest out → d.up ≡ c.up
served_up c d around u rest given out (Served.request words asks a) = answered_up c d around words given out a
served_up c d around u rest given out (Served.nothing asks e o) = ap (λ (z : Core). z.up) e

-- ---- what goes to replicas
unnamed : (names : List LinkId) (x : LinkId) → names ≡ [] → is_named names x ≡ false
unnamed names x none = ap (λ z. is_named z x) none

unfed : (grown : List ℕ) (a : NodeState) (fed : List LinkId) (x : LinkId) → FedTo grown a fed → streams (end_of a x) ≡ false → is_named fed x ≡ false
unfed [] a fed x none q = unnamed fed x none
unfed (g ∷ grown) a fed x listed q = listed.each x ∙ q

unfollowed : (ends : Links EndState) (o : Option (LinkId × FollowState)) (x : LinkId) → FollowedAt ends o → end_at ends x ≢ Some upstream → is_named (names_of (name_of o)) x ≡ false
unfollowed ends None x h ne = refl
unfollowed ends (Some f) x h ne = at_or_other x f.0 (λ b. cond b true false ≡ false) (λ same. absurd (ne (ap (end_at ends) same ∙ h))) (λ other. refl)

no_upstream : (u : List ℕ) → ◌≡◌ {A = Option EndState} (Some (client u)) (Some upstream) → ⊥
no_upstream u e = cc

-- ---- each row
module _ (a b : NodeState) (name : LinkId) (u : List ℕ) (outs : OutsState) where
  module _ (at : end_of a name ≡ Some (client u)) (followed : FollowedAt a.ends a.follow) where
    apart : is_named (names_of (name_of a.follow)) name ≡ false
    apart = unfollowed a.ends a.follow name followed (λ e. no_upstream u (sym at ∙ e))

    pub client_behind : (given : Given) (fresh : List ℕ) → ClientRow a name u given fresh b outs → IsBehind b name outs
    client_behind given fresh (ClientRow.serves r) = record {
      up = served_up a.core b.core r.around u r.rest given r.out r.served ∙ r.up;
      end = EndsAs.asks (ap (λ (o : OutsState). o.closes) r.outs_are) r.rest r.leaves.is;
      unfed = unfed r.out.grown a outs.fed name r.fed (ap streams at);
      unclosed = unnamed outs.closed name (ap (λ (o : OutsState). o.closed) r.outs_are);
    }
    client_behind given fresh (ClientRow.closes r) = record {
      up = ap (λ (c : Core). c.up) r.core ∙ r.up;
      end = EndsAs.closed (ap (λ (o : OutsState). o.closes) r.outs_are) r.shut.is;
      unfed = unnamed outs.fed name (ap (λ (o : OutsState). o.fed) r.outs_are);
      unclosed = unnamed outs.closed name (ap (λ (o : OutsState). o.closed) r.outs_are);
    }
    client_behind given fresh (ClientRow.halts r) = record {
      up = ap (λ (c : Core). c.up) r.core ∙ r.up;
      end = EndsAs.asks (ap (λ (o : OutsState). o.closes) r.outs_are) r.rest r.leaves.is;
      unfed = unnamed outs.fed name (ap (λ (o : OutsState). o.fed) r.outs_are);
      unclosed = unnamed outs.closed name (ap (λ (o : OutsState). o.closed) r.outs_are);
    }
    client_behind given fresh (ClientRow.synchronizes r) = record {
      up = ap (λ (c : Core). c.up) r.core ∙ r.up;
      end = EndsAs.streams (ap (λ (o : OutsState). o.closes) r.outs_are) r.rest r.leaves.is;
      unfed = unnamed outs.fed name (ap (λ (o : OutsState). o.fed) r.outs_are);
      unclosed = unnamed outs.closed name (ap (λ (o : OutsState). o.closed) r.outs_are);
    }
    client_behind given fresh (ClientRow.promotes r) = record {
      up = ap (λ (c : Core). c.up) r.core ∙ r.up;
      end = EndsAs.asks (ap (λ (o : OutsState). o.closes) r.outs_are) r.rest r.ends.is;
      unfed = unnamed outs.fed name (ap (λ (o : OutsState). o.fed) r.outs_are);
      unclosed = ap (λ (o : OutsState). is_named o.closed name) r.outs_are ∙ apart;
    }
    client_behind given fresh (ClientRow.turns r) = record {
      up = ap (λ (c : Core). c.up) r.core ∙ r.up;
      end = EndsAs.asks (ap (λ (o : OutsState). o.closes) r.outs_are) r.rest r.ends.is;
      unfed = unnamed outs.fed name (ap (λ (o : OutsState). o.fed) r.outs_are);
      unclosed = ap (λ (o : OutsState). is_named o.closed name) r.outs_are ∙ apart;
    }
    client_behind given fresh (ClientRow.demotes r) = record {
      up = ap (λ (c : Core). c.up) r.core ∙ r.up;
      end = EndsAs.asks (ap (λ (o : OutsState). o.closes) r.outs_are) r.rest r.ends.is;
      unfed = unnamed outs.fed name (ap (λ (o : OutsState). o.fed) r.outs_are);
      unclosed = r.closed.each name ∙ ap streams at;
    }
    client_behind given fresh (ClientRow.begins r) = record {
      up = ap (λ (c : Core). c.up) r.core ∙ r.up;
      end = EndsAs.waits (ap (λ (o : OutsState). o.closes) r.outs_are) begun r.rest r.leaves.is;
      unfed = unnamed outs.fed name (ap (λ (o : OutsState). o.fed) r.outs_are);
      unclosed = unnamed outs.closed name (ap (λ (o : OutsState). o.closed) r.outs_are);
    }

  -- where a transaction is open
  module _ (t : Transaction) (at : end_of a name ≡ Some (waiting t u)) where
    pub within_behind : (given : Given) → WithinRow a name t u given b outs → IsBehind b name outs
    within_behind given (WithinRow.stands r) = record {
      up = ap (λ (c : Core). c.up) r.core ∙ r.up;
      end = EndsAs.waits (ap (λ (o : OutsState). o.closes) r.outs_are) r.next r.rest r.leaves.is;
      unfed = unnamed outs.fed name (ap (λ (o : OutsState). o.fed) r.outs_are);
      unclosed = unnamed outs.closed name (ap (λ (o : OutsState). o.closed) r.outs_are);
    }
    within_behind given (WithinRow.passes r) = record {
      up = ap (λ (c : Core). c.up) r.core ∙ r.up;
      end = EndsAs.waits (ap (λ (o : OutsState). o.closes) r.outs_are) t r.rest r.leaves.is;
      unfed = unnamed outs.fed name (ap (λ (o : OutsState). o.fed) r.outs_are);
      unclosed = unnamed outs.closed name (ap (λ (o : OutsState). o.closed) r.outs_are);
    }
    within_behind given (WithinRow.drops r) = record {
      up = ap (λ (c : Core). c.up) r.core ∙ r.up;
      end = EndsAs.asks (ap (λ (o : OutsState). o.closes) r.outs_are) r.rest r.leaves.is;
      unfed = unnamed outs.fed name (ap (λ (o : OutsState). o.fed) r.outs_are);
      unclosed = unnamed outs.closed name (ap (λ (o : OutsState). o.closed) r.outs_are);
    }
    within_behind given (WithinRow.executes r) = record {
      up = ap (λ (c : Core). c.up) r.core ∙ r.up;
      end = EndsAs.asks (ap (λ (o : OutsState). o.closes) r.outs_are) r.rest r.leaves.is;
      unfed = unfed (grown_text r.effects) a outs.fed name r.fed (ap streams at);
      unclosed = unnamed outs.closed name (ap (λ (o : OutsState). o.closed) r.outs_are);
    }
    within_behind given (WithinRow.closes r) = record {
      up = ap (λ (c : Core). c.up) r.core ∙ r.up;
      end = EndsAs.closed (ap (λ (o : OutsState). o.closes) r.outs_are) r.shut.is;
      unfed = unnamed outs.fed name (ap (λ (o : OutsState). o.fed) r.outs_are);
      unclosed = unnamed outs.closed name (ap (λ (o : OutsState). o.closed) r.outs_are);
    }

  pub replica_behind : ReplicaRow a name u b outs → IsBehind b name outs
  replica_behind (ReplicaRow.notes r) = record {
    up = ap (λ (c : Core). c.up) r.core ∙ r.up;
    end = EndsAs.streams (ap (λ (o : OutsState). o.closes) r.outs_are) r.rest r.leaves.is;
    unfed = unnamed outs.fed name (ap (λ (o : OutsState). o.fed) r.outs_are);
    unclosed = unnamed outs.closed name (ap (λ (o : OutsState). o.closed) r.outs_are);
  }
  replica_behind (ReplicaRow.parts r) = record {
    up = ap (λ (c : Core). c.up) r.core ∙ r.up;
    end = EndsAs.closed (ap (λ (o : OutsState). o.closes) r.outs_are) r.shut.is;
    unfed = unnamed outs.fed name (ap (λ (o : OutsState). o.fed) r.outs_are);
    unclosed = unnamed outs.closed name (ap (λ (o : OutsState). o.closed) r.outs_are);
  }
