-- What a step leaves of the ends beside its own; and what is open at its own before it.
use Rattle.std.proofs.Common.{◌≡◌, ◌≢◌, ℕ, List, Bool, true, false, cond, Option, None, Some, refl, sym, ap, ◌∙◌}
use Rattle.std.specs.FinMap.{get, get-insert, get-remove}
use Rattle.mr_links.specs.declared.link_id.LinkId.{LinkId}
use Rattle.mr_links.specs.Links.{Links}
use Rattle.mr_links.proofs.LinkRows.{ids_total}
use Rattle.mr_data.specs.declared.given.Given.{Given}
use Rattle.mr_replication.specs.State.{name_of}
use Rattle.mr_replication.specs.declared.upstream.UpstreamStep.{UpstreamStep}
use Rattle.mr_replication.specs.declared.upstream.UpstreamStep.TheVariants as outcome
use Rattle.mr_node_links.specs.State.{EndState, Transaction, end_at, opened_as, put_end, without}
use Rattle.mr_node_links.specs.State.EndState.{client, waiting, replica, shut, upstream}
use Rattle.mr_node_links.proofs.Naming.{at_or_other}
use Rattle.mr_node_output.specs.Outs.{OutsState, Output}
use Rattle.mr_node_spec.specs.State.{Agrees, AgreesWithin, Core, NodeState, OthersStay, end_of}
use Rattle.mr_node_links.specs.Replicas.{is_named}
use Rattle.mr_node_spec.specs.Ends.{Settles, names_of}
use Rattle.mr_node_spec.specs.Telling.{Around}
use Rattle.mr_node_spec.specs.Served.{Answered, Served}
use Rattle.mr_node_spec.specs.ClientRows.{ClientRow}
use Rattle.mr_node_spec.specs.Transactions.{WithinRow}
use Rattle.mr_node_spec.specs.ReplicaRows.{ReplicaRow}
use Rattle.mr_node_spec.specs.UpstreamRows.{ends_behind}
use Rattle.law_refinement.specs.Way.{unread}
use Rattle.law_refinement.specs.State.{Link, Slot, WorldState}
use Rattle.law_refinement.specs.Seeing.{seen_transaction, open_in, open_at, open_on}
use Rattle.law_refinement.specs.Worlds.{IsWorld, end_for}
use Rattle.law_refinement.specs.Events.{IsServed}
use Rattle.law_refinement.proofs.Open.{was_here}
use Rattle.law_refinement.proofs.Others.{Apart, KeepsEnds, served_end}

-- ---- a link that is served isn't the one to the master
pub served_apart : (streams : Bool) (held : Option Transaction) (u : List ℕ) → Some upstream ≡ Some (end_for streams held u) → ⊥
served_apart true held u e = absurd (cc)
served_apart false None u e = absurd (cc)
served_apart false (Some t) u e = absurd (cc)

-- ---- the rows of a step at an end that is served
up_answered : (c d : Core) (around : Around) (words : List (List ℕ)) (given : Given) (out : Output) → Answered c around words given d out → d.up ≡ c.up
up_answered c d around words given out (Answered.within p reply effects plan few is gives) = ap (λ (z : Core). z.up) is
up_answered c d around words given out (Answered.beyond p reply effects plan past is gives) = ap (λ (z : Core). z.up) is
up_answered c d around words given out (Answered.rewritten e remakes is gives) = ap (λ (z : Core). z.up) is
up_answered c d around words given out (Answered.tells question e is gives) = ap (λ (z : Core). z.up) is
up_answered c d around words given out (Answered.keeps_role wish e quiet is) = ap (λ (z : Core). z.up) is

up_served : (c d : Core) (around : Around) (u rest : List ℕ) (given : Given) (out : Output) → Served c around u given d rest out → d.up ≡ c.up
up_served c d around u rest given out (Served.request words asks a) = up_answered c d around words given out a
up_served c d around u rest given out (Served.nothing asks is gives) = ap (λ (z : Core). z.up) is

module _ (a : NodeState) (name : LinkId) (u : List ℕ) (b : NodeState) (outs : OutsState) where
  -- its end alone changes
  only : b.core.up ≡ a.core.up → OthersStay a b name → Apart a name b outs
  only up others = record { up = up; others = λ q streams held v ne named e. others.stay q ne ∙ e }

  same_core : b.core ≡ a.core → OthersStay a b name → Apart a name b outs
  same_core core others = only (ap (λ (z : Core). z.up) core) others

  -- others are closed as well, of which the outs tell
  settles : b.core.up ≡ a.core.up → (e : EndState) (closed : List LinkId) → Settles a name b e closed → outs.closed ≡ closed → Apart a name b outs
  settles up e closed ends told = record { up = up; others = λ q streams held v ne named h. ends.others q ne (sym (ap (λ names. is_named names q) told) ∙ named) ∙ h }

  pub apart_client : (given : Given) (fresh : List ℕ) → ClientRow a name u given fresh b outs → Apart a name b outs
  apart_client given fresh (ClientRow.serves r) = only (up_served a.core b.core r.around u r.rest given r.out r.served) r.leaves.others
  apart_client given fresh (ClientRow.closes r) = same_core r.core r.others
  apart_client given fresh (ClientRow.halts r) = same_core r.core r.leaves.others
  apart_client given fresh (ClientRow.synchronizes r) = same_core r.core r.leaves.others
  apart_client given fresh (ClientRow.promotes r) = settles (ap (λ (z : Core). z.up) r.core) (client r.rest) (names_of (name_of a.follow)) r.ends (ap (λ (o : OutsState). o.closed) r.outs_are)
  apart_client given fresh (ClientRow.turns r) = settles (ap (λ (z : Core). z.up) r.core) (client r.rest) (names_of (name_of a.follow)) r.ends (ap (λ (o : OutsState). o.closed) r.outs_are)
  apart_client given fresh (ClientRow.demotes r) = settles (ap (λ (z : Core). z.up) r.core) (client r.rest) outs.closed r.ends refl
  apart_client given fresh (ClientRow.begins r) = same_core r.core r.leaves.others

  pub apart_within : (t : Transaction) (given : Given) → WithinRow a name t u given b outs → Apart a name b outs
  apart_within t given (WithinRow.stands r) = same_core r.core r.leaves.others
  apart_within t given (WithinRow.passes r) = same_core r.core r.leaves.others
  apart_within t given (WithinRow.drops r) = same_core r.core r.leaves.others
  apart_within t given (WithinRow.executes r) = only (ap (λ (z : Core). z.up) r.core) r.leaves.others
  apart_within t given (WithinRow.closes r) = same_core r.core r.others

  pub apart_replica : ReplicaRow a name u b outs → Apart a name b outs
  apart_replica (ReplicaRow.notes r) = same_core r.core r.leaves.others
  apart_replica (ReplicaRow.parts r) = same_core r.core r.others

-- ---- ends that come and go
pub without_one : (ends : Links EndState) (l q : LinkId) → q ≢ l → end_at (without ends l) q ≡ end_at ends q
without_one ends l q ne = get-remove ids_total ends.open_links l q ∙ at_or_other q l (λ b. cond b None (get ends.open_links q) ≡ get ends.open_links q) (λ same. absurd (ne same)) (λ other. refl)

with_another : (ends : Links EndState) (l q : LinkId) (e : EndState) → q ≢ l → end_at (put_end ends l e) q ≡ end_at ends q
with_another ends l q e ne = get-insert ids_total ends.open_links l e q ∙ at_or_other q l (λ b. cond b (Some e) (get ends.open_links q) ≡ get ends.open_links q) (λ same. absurd (ne same)) (λ other. refl)

no_end : (e : EndState) → ◌≡◌ {A = Option EndState} None (Some e) → ⊥
no_end e q = cc

-- a new one, under a name that no end had
pub keeps_opened : (a b : NodeState) (l : LinkId) (e : EndState) → end_of a l ≡ None → b.core.up ≡ a.core.up → b.ends ≡ opened_as a.ends l e → KeepsEnds a b
keeps_opened a b l e fresh runs ends = record {
  up = runs;
  all = λ q streams held v h. ap (λ z. end_at z q) ends ∙ (with_another a.ends l q e (λ same. no_end (end_for streams held v) (sym fresh ∙ (ap (end_of a) (sym same) ∙ h))) ∙ h);
}

-- ---- the end of the link to the master goes, or is closed
pub keeps_without : (a b : NodeState) (l : LinkId) → end_of a l ≡ Some upstream → b.core.up ≡ a.core.up → b.ends ≡ without a.ends l → KeepsEnds a b
keeps_without a b l up runs ends = record {
  up = runs;
  all = λ q streams held v e. ap (λ z. end_at z q) ends ∙ (without_one a.ends l q (λ same. served_apart streams held v (sym up ∙ (ap (end_of a) (sym same) ∙ e))) ∙ e);
}

keeps_shut : (a b : NodeState) (l : LinkId) → end_of a l ≡ Some upstream → b.core.up ≡ a.core.up → b.ends ≡ put_end a.ends l shut → KeepsEnds a b
keeps_shut a b l up runs ends = record {
  up = runs;
  all = λ q streams held v e. ap (λ z. end_at z q) ends ∙ (with_another a.ends l q shut (λ same. served_apart streams held v (sym up ∙ (ap (end_of a) (sym same) ∙ e))) ∙ e);
}

-- where all ends are what they were
pub keeps_all : (a b : NodeState) → b.core.up ≡ a.core.up → b.ends ≡ a.ends → KeepsEnds a b
keeps_all a b runs ends = record { up = runs; all = λ q streams held v e. ap (λ z. end_at z q) ends ∙ e }

pub keeps_behind : (a b : NodeState) (step : UpstreamStep) (l : LinkId) → end_of a l ≡ Some upstream → b.core.up ≡ a.core.up → b.ends ≡ ends_behind step l a.ends → KeepsEnds a b
keeps_behind a b outcome.Idle l up runs ends = keeps_all a b runs ends
keeps_behind a b outcome.Said l up runs ends = keeps_all a b runs ends
keeps_behind a b outcome.Announced l up runs ends = keeps_all a b runs ends
keeps_behind a b outcome.Continued l up runs ends = keeps_all a b runs ends
keeps_behind a b outcome.Loaded l up runs ends = keeps_all a b runs ends
keeps_behind a b outcome.Applied l up runs ends = keeps_all a b runs ends
keeps_behind a b outcome.Left l up runs ends = keeps_shut a b l up runs ends
keeps_behind a b outcome.Spoiled l up runs ends = keeps_shut a b l up runs ends

-- ---- what is open at an end before a step
client_for : (b : Bool) (held : Option Transaction) (u v : List ℕ) → Some (client u) ≡ Some (end_for b held v) → b ≡ false
client_for true held u v e = absurd (cc)
client_for false held u v e = refl

waiting_for : (b : Bool) (held : Option Transaction) (t : Transaction) (u v : List ℕ) → Some (waiting t u) ≡ Some (end_for b held v) → b ≡ false
waiting_for true held t u v e = absurd (cc)
waiting_for false held t u v e = refl

module _ (w : WorldState) (is : IsWorld w) (l : ℕ) (k : Link) (s : Slot) (served : IsServed w l k s) where
  open_now : (e : Option EndState) → end_of s.node k.name ≡ e → open_on w.slots k ≡ open_in e
  open_now e at = was_here w.slots k.to s s served.at k refl
      ∙ (ap (λ c. cond c (open_at (Some s) k.name) None) served.serving ∙ (ap (λ c. cond c (open_in (end_of s.node k.name)) None) served.up ∙ ap open_in at))

  here : (held : Option Transaction) × (end_of s.node k.name ≡ Some (end_for k.streams held (unread k.ask)))
  here = served_end w is k.to s served.at served.up l k served.found refl served.serving

  pub at_client : (u : List ℕ) → Agrees s.node k.name u → (k.streams ≡ false) × (open_on w.slots k ≡ None)
  at_client u agrees = (client_for k.streams here.0 u (unread k.ask) (sym agrees.is ∙ here.1), open_now (Some (client u)) agrees.is)

  pub at_waiting : (t : Transaction) (u : List ℕ) → AgreesWithin s.node k.name t u → (k.streams ≡ false) × (open_on w.slots k ≡ Some (seen_transaction t))
  at_waiting t u agrees = (waiting_for k.streams here.0 t u (unread k.ask) (sym agrees.is ∙ here.1), open_now (Some (waiting t u)) agrees.is)

  pub at_replica : k.streams ≡ true → open_on w.slots k ≡ None
  at_replica streams = open_now (Some (replica (unread k.ask))) (here.1 ∙ ap (λ z. Some (end_for z here.0 (unread k.ask))) streams)
