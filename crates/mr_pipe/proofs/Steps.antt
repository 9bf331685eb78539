-- What a step of the node, by its row, comes to in a pipe.
use Rattle.std.proofs.Common.{◌≡◌, ◌≢◌, ◌+◌, ℕ, List, [], ◌∷◌, ◌++◌, true, false, not, cond, Option, Some, None, length, min, refl, sym, ap, subst, ◌∙◌, arith}
use Rattle.std.specs.Prelude.{Result, Ok, Err}
use Rattle.std.specs.Ordering.{eq_by_cmp}
use Rattle.std.specs.FinMap.{get-empty}
use Rattle.std.proofs.lemmas.Cmp.{eq_by_cmp_equiv}
use Rattle.std.proofs.lemmas.Map.Views.{tells_apart}
use Rattle.mr_repl.specs.ReplId.{id_of_number}
use Rattle.mr_repl.specs.Lineage.{grown, renamed}
use Rattle.mr_links.specs.LinkId.{id_cmp}
use Rattle.mr_links.specs.declared.link_id.LinkId.{LinkId}
use Rattle.mr_links.proofs.LinkRows.{ids_total, exact_ids}
use Rattle.mr_effect.specs.declared.effect.Effect.{Effect}
use Rattle.mr_data.specs.declared.given.Given.{Given}
use Rattle.mr_keyspace.specs.Dataset.{Dataset}
use Rattle.mr_replication.specs.State.{name_of}
use Rattle.mr_groups.specs.Groups.{grown_text}
use Rattle.mr_resp.specs.Replies.{Tree}
use Rattle.mr_commands.specs.Transactions.{DoesAll, coming}
use Rattle.mr_commands.proofs.Doing.{do_so}
use Rattle.mr_node_links.specs.State.{Transaction, begun, streams}
use Rattle.mr_node_links.specs.State.EndState.{client}
use Rattle.mr_node_links.specs.Replicas.{Lists, is_named}
use Rattle.mr_node_links.proofs.Places.{get_other}
use Rattle.mr_node_output.specs.Outs.{OutsState, Output, no_output}
use Rattle.mr_repl.specs.Backlog.{usual_backlog}
use Rattle.mr_node_spec.specs.State.{Core, NodeState, Agrees, AgreesWithin, ReplicaAgrees, end_of, started}
use Rattle.mr_node_spec.specs.Ends.{names_of}
use Rattle.mr_node_spec.specs.Telling.{Around, IsAround, answer_about, link_of}
use Rattle.mr_node_spec.specs.Served.{Answered, Served}
use Rattle.mr_node_spec.specs.ClientRows.{ClientRow, Idles, IsAnswerToPsync}
use Rattle.mr_node_spec.specs.Transactions.{StandsBy, DropsBy, WithinRow, frame_of}
use Rattle.mr_node_spec.specs.ReplicaRows.{ReplicaRow}
use Rattle.mr_node_spec.specs.LinkRows.{Feeds, Opens}
use Rattle.mr_node.specs.Steps.{ClientStep, ReplicaStep, Steps}
use Rattle.mr_node.specs.Within.{WithinStep}
use Rattle.mr_node.specs.declared.fault.NodeFault.{NodeFault}
use Rattle.mr_node.specs.declared.fault.NodeFault.TheVariants as refused
use Rattle.mr_node.specs.declared.step.Step.{Step}
use Rattle.mr_node.specs.declared.step.Step.TheVariants as step
use Rattle.mr_pipe.specs.Outside.{Outside, IsSettled}
use Rattle.mr_pipe.specs.State.{PipeState, Stands, counted, end_as, fresh_id, most_numbered}
use Rattle.mr_pipe.specs.Sessions.{Gives, IsLast, IsServed, IsServedWithin, TakesRole, alone, changes_of, frame_alone, is_last, output_of}
use Rattle.mr_pipe.specs.Serving.{StepsLast, StepsOn, StepWaits}
use Rattle.mr_pipe.specs.Piped.{begun_with}
use Rattle.mr_pipe.specs.declared.linked_node.LinkedNode.{LinkedNode}

-- ---- counts
same_number : (n : ℕ) → min (min n most_numbered + 1) most_numbered ≡ min (n + 1) most_numbered
same_number n = omega arith

same_fresh : (p : LinkedNode) (s : PipeState) (u : List ℕ) → Stands p s u → fresh_id p.used ≡ fresh_id s.used
same_fresh p s u h = ap fresh_id h.used ∙ ap id_of_number (same_number s.used)

-- ---- whose the link is
-- the end of a client, with a transaction or without
clients : (s : PipeState) (held : Option Transaction) (u : List ℕ) → s.replica ≡ false → s.transaction ≡ held → Some (end_as s.replica s.transaction u) ≡ Some (end_as false held u)
clients s held u k n = ap (λ b. Some (end_as b s.transaction u)) k ∙ ap (λ o. Some (end_as false o u)) n

-- .. and of a replica
replicas : (s : PipeState) (u : List ℕ) → s.replica ≡ true → Some (end_as s.replica s.transaction u) ≡ Some (end_as true s.transaction u)
replicas s u k = ap (λ b. Some (end_as b s.transaction u)) k

pub at_client : (p : LinkedNode) (s : PipeState) (u : List ℕ) → Stands p s u → s.replica ≡ false → s.transaction ≡ None → Agrees p.node p.link u
at_client p s u h k n = record { is = h.end ∙ clients s None u k n }

pub at_waiting : (p : LinkedNode) (s : PipeState) (held : Transaction) (u : List ℕ) → Stands p s u → s.replica ≡ false → s.transaction ≡ Some held → AgreesWithin p.node p.link held u
at_waiting p s held u h k n = record { is = h.end ∙ clients s (Some held) u k n }

pub at_replica : (p : LinkedNode) (s : PipeState) (u : List ℕ) → Stands p s u → s.replica ≡ true → ReplicaAgrees p.node p.link u
at_replica p s u h k = record { is = h.end ∙ replicas s u k }

-- ---- nobody is sent the stream where the link is a client's
no_true : {A : Type 0} → false ≡ true → A
no_true e = absurd (cc)

no_false : {A : Type 0} → true ≡ false → A
no_false e = absurd (cc)

none_there : (held : Option Transaction) (u : List ℕ) → streams (Some (end_as false held u)) ≡ false
none_there None u = refl
none_there (Some t) u = refl

not_sent : (p : LinkedNode) (s : PipeState) (u : List ℕ) → Stands p s u → s.replica ≡ false → (x : LinkId) → streams (end_of p.node x) ≡ false
not_sent p s u h k x = elim (eq_by_cmp id_cmp x p.link) as (λ v. eq_by_cmp id_cmp x p.link ≡ v → streams (end_of p.node x) ≡ false) [
  | true ↦ λ e. ap (λ l. streams (end_of p.node l)) (tells_apart exact_ids x p.link e) ∙ (ap streams (h.end ∙ clients s s.transaction u k refl) ∙ none_there s.transaction u)
  | false ↦ λ e. ap streams (h.alone x (λ is. no_false (sym (ap (λ l. eq_by_cmp id_cmp l p.link) is ∙ (eq_by_cmp_equiv ids_total).refl p.link) ∙ e)))
] refl

none_listed : (p : LinkedNode) (s : PipeState) (u : List ℕ) (names : List LinkId) → Stands p s u → s.replica ≡ false → Lists names p.node.ends.open_links → names ≡ []
none_listed p s u [] h k listed = refl
none_listed p s u (x ∷ names) h k listed =
    no_true (sym (not_sent p s u h k x) ∙ (sym (listed.each x) ∙ ap (λ b. cond b true (is_named names x)) ((eq_by_cmp_equiv ids_total).refl x)))

no_items : {A : Type 0} (xs : List A) → length xs ≡ 0 → xs ≡ []
no_items [] e = refl
no_items (x ∷ xs) e = absurd (cc)

is_alone : (p : LinkedNode) (s : PipeState) (u : List ℕ) (around : Around) → Stands p s u → s.replica ≡ false → IsAround p.node around → around ≡ alone
is_alone p s u around h k is =
    let few : around.replicas ≡ [] = no_items around.replicas (is.counted ∙ ap length (none_listed p s u is.names h k is.listed)) in
    let apart : around.link ≡ alone.link = is.link ∙ ap link_of h.follow in
    λ i. record { replicas = few i; link = apart i }

-- ---- what is served leaves the node up
answered_up : (c : Core) (around : Around) (words : List (List ℕ)) (g : Given) (d : Core) (out : Output) → Answered c around words g d out → d.up ≡ c.up
answered_up c around words g d out (Answered.within plain reply effects plan le d_is out_is) = ap (λ (z : Core). z.up) d_is
answered_up c around words g d out (Answered.beyond plain reply effects plan lt d_is out_is) = ap (λ (z : Core). z.up) d_is
answered_up c around words g d out (Answered.rewritten is remakes d_is out_is) = ap (λ (z : Core). z.up) d_is
answered_up c around words g d out (Answered.tells question asked d_is out_is) = ap (λ (z : Core). z.up) d_is
answered_up c around words g d out (Answered.keeps_role wish asked quiet d_is) = ap (λ (z : Core). z.up) d_is

served_up : (c : Core) (around : Around) (u : List ℕ) (g : Given) (d : Core) (rest : List ℕ) (out : Output) → Served c around u g d rest out → d.up ≡ c.up
served_up c around u g d rest out (Served.request words asks answered) = answered_up c around words g d out answered
served_up c around u g d rest out (Served.nothing asks d_is out_is) = ap (λ (z : Core). z.up) d_is

-- ---- what a row comes to
-- A step goes on, or was the last.
pub data Goes (g : Given) (s : PipeState) (u : List ℕ) (q : LinkedNode) (outs : OutsState) : Type 0 where
  on : is_last outs ≡ false → (t : PipeState) (rest : List ℕ) → IsServed g s u t rest (output_of outs) → Stands q t rest → Goes g s u q outs
  last : is_last outs ≡ true → (told : List ℕ) → IsLast s u told → output_of outs ≡ record no_output { said = told } → Goes g s u q outs

-- the pipe behind a step of its node
abbrev pub behind : LinkedNode → NodeState → OutsState → LinkedNode
behind p b outs = record { node = b; link = p.link; used = counted outs.used p.used }

-- .. stands where the row leaves it
left : (p : LinkedNode) (s t : PipeState) (u rest : List ℕ) (b : NodeState) (outs : OutsState) → Stands p s u → t.core.up ≡ s.core.up → b.core ≡ t.core → end_of b p.link ≡ Some (end_as t.replica t.transaction rest)
    → ((x : LinkId) → x ≢ p.link → end_of b x ≡ end_of p.node x) → b.follow ≡ None → counted outs.used p.used ≡ min t.used most_numbered → Stands (behind p b outs) t rest
left p s t u rest b outs h up core end others follow used = record {
  up = up ∙ h.up;
  core = core;
  end = end;
  alone = λ x ne. others x ne ∙ h.alone x ne;
  follow = follow;
  used = used;
}

uncounted : (p : LinkedNode) (s : PipeState) (u : List ℕ) (outs : OutsState) → Stands p s u → outs.used ≡ None → counted outs.used p.used ≡ min s.used most_numbered
uncounted p s u outs h none = ap (λ o. counted o p.used) none ∙ h.used

not_followed : (p : LinkedNode) (s : PipeState) (u : List ℕ) (x : LinkId) → Stands p s u → name_of p.node.follow ≢ Some x
not_followed p s u x h e = let wrong : None ≡ Some x = sym (ap name_of h.follow) ∙ e in absurd (none_some x wrong)
  where
    none_some : (x : LinkId) → ◌≡◌ {A = Option LinkId} None (Some x) → ⊥
    none_some x e = cc

client_goes : (g : Given) (s : PipeState) (u : List ℕ) (p : LinkedNode) (b : NodeState) (outs : OutsState) → Stands p s u → s.replica ≡ false → s.transaction ≡ None
    → ClientRow p.node p.link u g (fresh_id p.used) b outs → Goes g s u (behind p b outs) outs
client_goes g s u p b outs h k n (ClientRow.serves r) =
    let t : PipeState = record s { core = b.core } in
    let served : Served s.core alone u g b.core r.rest r.out =
    subst (λ (a : Around). Served s.core a u g b.core r.rest r.out) (is_alone p s u r.around h k r.is_around)
    (subst (λ (c : Core). Served c r.around u g b.core r.rest r.out) h.core r.served) in
    Goes.on (ap is_last r.outs_are) t r.rest
    (subst (λ (o : OutsState). IsServed g s u t r.rest (output_of o)) (sym r.outs_are) (IsServed.serves k n b.core served refl))
    (left p s t u r.rest b outs h (served_up s.core alone u g b.core r.rest r.out served) refl (r.leaves.is ∙ sym (clients s None r.rest k n)) r.leaves.others.stay (r.leaves.follow ∙ h.follow) (uncounted p s u outs h (ap (λ (o : OutsState). o.used) r.outs_are)))
client_goes g s u p b outs h k n (ClientRow.closes r) = Goes.last (ap is_last r.outs_are) r.last (IsLast.closes k r.ends) (ap output_of r.outs_are)
client_goes g s u p b outs h k n (ClientRow.halts r) = Goes.last (ap is_last r.outs_are) [] (IsLast.halts k n r.rest r.asks refl) (ap output_of r.outs_are)
client_goes g s u p b outs h k n (ClientRow.synchronizes r) =
    let t : PipeState = record s { replica = true } in
    Goes.on (ap is_last r.outs_are) t r.rest
    (IsServed.takes_role k n r.words r.asks (TakesRole.synchronizes r.id r.wanted r.text (sym (ap (λ (c : Core). c.master) h.core) ∙ r.master) r.wish
    (subst (λ (c : Core). IsAnswerToPsync c.lineage c.held r.id r.wanted r.text) h.core r.answer) refl (ap output_of r.outs_are)))
    (left p s t u r.rest b outs h refl (r.core ∙ h.core) r.leaves.is r.leaves.others.stay (r.leaves.follow ∙ h.follow) (uncounted p s u outs h (ap (λ (o : OutsState). o.used) r.outs_are)))
client_goes g s u p b outs h k n (ClientRow.promotes r) =
    let c = s.core in
    let t : PipeState = record s { core = record c { master = true; offers = true; upstream = None; mark = None; lineage = renamed (fresh_id s.used) c.lineage }; used = s.used + 1 } in
    let core : b.core ≡ t.core =
    r.core ∙ (ap (λ (z : Core). record z { master = true; offers = true; upstream = None; mark = None; lineage = renamed (fresh_id p.used) z.lineage }) h.core
    ∙ ap (λ id. record c { master = true; offers = true; upstream = None; mark = None; lineage = renamed id c.lineage }) (same_fresh p s u h)) in
    Goes.on (ap is_last r.outs_are) t r.rest
    (IsServed.takes_role k n r.words r.asks (TakesRole.promotes (sym (ap (λ (z : Core). z.master) h.core) ∙ r.replica) r.wish refl (ap output_of r.outs_are)))
    (left p s t u r.rest b outs h refl core (r.ends.is ∙ sym (clients s None r.rest k n)) (λ x ne. r.ends.others x ne (ap (λ f. is_named (names_of (name_of f)) x) h.follow)) r.follow
    (ap (λ (o : OutsState). counted o.used p.used) r.outs_are ∙ (ap (λ m. min (m + 1) most_numbered) h.used ∙ same_number s.used)))
client_goes g s u p b outs h k n (ClientRow.turns r) =
    let t : PipeState = record s { core = record s.core { upstream = Some r.address } } in
    Goes.on (ap is_last r.outs_are) t r.rest
    (IsServed.takes_role k n r.words r.asks (TakesRole.turns r.address (sym (ap (λ (z : Core). z.master) h.core) ∙ r.replica) r.wish (λ e. r.another (ap (λ (z : Core). z.upstream) h.core ∙ e)) refl (ap output_of r.outs_are)))
    (left p s t u r.rest b outs h refl (r.core ∙ ap (λ (z : Core). record z { upstream = Some r.address }) h.core) (r.ends.is ∙ sym (clients s None r.rest k n))
    (λ x ne. r.ends.others x ne (ap (λ f. is_named (names_of (name_of f)) x) h.follow)) r.follow (uncounted p s u outs h (ap (λ (o : OutsState). o.used) r.outs_are)))
client_goes g s u p b outs h k n (ClientRow.begins r) =
    let t : PipeState = record s { transaction = Some begun } in
    Goes.on (ap is_last r.outs_are) t r.rest
    (IsServed.begins k n r.words r.asks r.wish refl (ap output_of r.outs_are))
    (left p s t u r.rest b outs h refl (r.core ∙ h.core) (r.leaves.is ∙ ap (λ z. Some (end_as z (Some begun) r.rest)) (sym k)) r.leaves.others.stay (r.leaves.follow ∙ h.follow) (uncounted p s u outs h (ap (λ (o : OutsState). o.used) r.outs_are)))
client_goes g s u p b outs h k n (ClientRow.demotes r) =
    let t : PipeState = record s { core = record s.core { master = false; offers = true; upstream = Some r.address; mark = None } } in
    let none : outs.closed ≡ [] = none_listed p s u outs.closed h k r.closed in
    Goes.on (ap is_last r.outs_are) t r.rest
    (IsServed.takes_role k n r.words r.asks (TakesRole.demotes r.address (sym (ap (λ (z : Core). z.master) h.core) ∙ r.master) r.wish refl (ap output_of r.outs_are)))
    (left p s t u r.rest b outs h refl (r.core ∙ ap (λ (z : Core). record z { master = false; offers = true; upstream = Some r.address; mark = None }) h.core) (r.ends.is ∙ sym (clients s None r.rest k n))
    (λ x ne. r.ends.others x ne (ap (λ names. is_named names x) none)) r.follow (uncounted p s u outs h (ap (λ (o : OutsState). o.used) r.outs_are)))

-- what waited is done here as at the node: nobody else is about
done_alone : (g : Given) (s : PipeState) (u : List ℕ) (p : LinkedNode) (requests : List (List ℕ)) (replies : List Tree) (effects : List Effect) (n : Dataset) → Stands p s u → s.replica ≡ false
    → DoesAll (frame_of p.node) (not p.node.core.master) g requests [] p.node.core.held replies effects n → DoesAll (frame_alone s.core) (not s.core.master) g requests [] s.core.held replies effects n
done_alone g s u p requests replies effects n h k does =
    let c = p.node.core in
    subst (λ (z : Core). DoesAll (frame_alone z) (not z.master) g requests [] z.held replies effects n) h.core
    (do_so (frame_of p.node) (frame_alone c) (not c.master) g (λ es fits. fits) (λ es fits. fits) (λ question reply t. t.2 ∙ ap (λ (z : Around). answer_about question c z) (is_alone p s u t.0 h k t.1)) requests [] c.held n replies effects does)

within_goes : (g : Given) (s : PipeState) (held : Transaction) (u : List ℕ) (p : LinkedNode) (b : NodeState) (outs : OutsState) → Stands p s u → s.replica ≡ false → s.transaction ≡ Some held
    → WithinRow p.node p.link held u g b outs → Goes g s u (behind p b outs) outs
within_goes g s held u p b outs h k n (WithinRow.stands r) =
    let t : PipeState = record s { transaction = Some r.next } in
    Goes.on (ap is_last r.outs_are) t r.rest
    (IsServed.goes_within k held n (IsServedWithin.stands r.words r.asks r.next r.reply
    (subst (λ (c : Core). StandsBy (coming (not c.master) r.words) r.asks.text held r.next r.reply) h.core r.stands) refl (ap output_of r.outs_are)))
    (left p s t u r.rest b outs h refl (r.core ∙ h.core) (r.leaves.is ∙ ap (λ z. Some (end_as z (Some r.next) r.rest)) (sym k)) r.leaves.others.stay (r.leaves.follow ∙ h.follow) (uncounted p s u outs h (ap (λ (o : OutsState). o.used) r.outs_are)))
within_goes g s held u p b outs h k n (WithinRow.passes r) =
    Goes.on (ap is_last r.outs_are) s r.rest
    (IsServed.goes_within k held n (IsServedWithin.passes r.asks refl (ap output_of r.outs_are)))
    (left p s s u r.rest b outs h refl (r.core ∙ h.core) (r.leaves.is ∙ sym (clients s (Some held) r.rest k n)) r.leaves.others.stay (r.leaves.follow ∙ h.follow) (uncounted p s u outs h (ap (λ (o : OutsState). o.used) r.outs_are)))
within_goes g s held u p b outs h k n (WithinRow.drops r) =
    let t : PipeState = record s { transaction = None } in
    Goes.on (ap is_last r.outs_are) t r.rest
    (IsServed.goes_within k held n (IsServedWithin.drops r.words r.asks r.reply
    (subst (λ (c : Core). DropsBy (coming (not c.master) r.words) held r.reply) h.core r.drops) refl (ap output_of r.outs_are)))
    (left p s t u r.rest b outs h refl (r.core ∙ h.core) (r.leaves.is ∙ ap (λ z. Some (end_as z None r.rest)) (sym k)) r.leaves.others.stay (r.leaves.follow ∙ h.follow) (uncounted p s u outs h (ap (λ (o : OutsState). o.used) r.outs_are)))
within_goes g s held u p b outs h k n (WithinRow.executes r) =
    let c = s.core in
    let t : PipeState = record s { core = record c { held = r.held; lineage = grown c.lineage (grown_text r.effects) }; transaction = None } in
    let core : b.core ≡ t.core = r.core ∙ ap (λ (z : Core). record z { held = r.held; lineage = grown z.lineage (grown_text r.effects) }) h.core in
    Goes.on (ap is_last r.outs_are) t r.rest
    (IsServed.goes_within k held n (IsServedWithin.executes r.words r.asks (ap (λ (z : Core). coming (not z.master) r.words) (sym h.core) ∙ r.runs) r.whole r.replies r.effects r.held
    (done_alone g s u p held.queued r.replies r.effects r.held h k r.does) refl (ap output_of r.outs_are)))
    (left p s t u r.rest b outs h refl core (r.leaves.is ∙ ap (λ z. Some (end_as z None r.rest)) (sym k)) r.leaves.others.stay (r.leaves.follow ∙ h.follow) (uncounted p s u outs h (ap (λ (o : OutsState). o.used) r.outs_are)))
within_goes g s held u p b outs h k n (WithinRow.closes r) = Goes.last (ap is_last r.outs_are) r.last (IsLast.closes k r.ends) (ap output_of r.outs_are)

replica_goes : (g : Given) (s : PipeState) (u : List ℕ) (p : LinkedNode) (b : NodeState) (outs : OutsState) → Stands p s u → s.replica ≡ true → ReplicaRow p.node p.link u b outs → Goes g s u (behind p b outs) outs
replica_goes g s u p b outs h k (ReplicaRow.notes r) =
    Goes.on (ap is_last r.outs_are) s r.rest (IsServed.notes k r.expected refl (ap output_of r.outs_are))
    (left p s s u r.rest b outs h refl (r.core ∙ h.core) (r.leaves.is ∙ sym (replicas s r.rest k)) r.leaves.others.stay (r.leaves.follow ∙ h.follow) (uncounted p s u outs h (ap (λ (o : OutsState). o.used) r.outs_are)))
replica_goes g s u p b outs h k (ReplicaRow.parts r) = Goes.last (ap is_last r.outs_are) [] (IsLast.parts k r.unwanted refl) (ap output_of r.outs_are)

-- ---- what a step comes to
-- the node runs where it answers Ok
runs : (a : NodeState) (l : LinkId) (g : Given) (fresh : List ℕ) (b : NodeState) (r : Step) → Steps a l g fresh b (Ok r) → a.core.up ≡ true
runs a l g fresh b r h = elim a.core.up as (λ v. a.core.up ≡ v → a.core.up ≡ true) [
  | true ↦ λ e. e
  | false ↦ λ e. absurd (told r (h.down e).0)
] refl
  where
    told : (r : Step) → ◌≡◌ {A = Result Step NodeFault} (Ok r) (Err refused.Stopped) → ⊥
    told r e = cc

-- whose step it is
pub data Stepping (g : Given) (s : PipeState) (u : List ℕ) (p : LinkedNode) (b : NodeState) (r : Step) : Type 0 where
  of_client : s.replica ≡ false → s.transaction ≡ None → ClientStep p.node p.link u g (fresh_id p.used) b (Ok r) → Stepping g s u p b r
  of_waiting : s.replica ≡ false → (held : Transaction) → s.transaction ≡ Some held → WithinStep p.node p.link held u g b (Ok r) → Stepping g s u p b r
  of_replica : s.replica ≡ true → ReplicaStep p.node p.link u b (Ok r) → Stepping g s u p b r

stepping : (g : Given) (s : PipeState) (u : List ℕ) (p : LinkedNode) (b : NodeState) (r : Step) → Stands p s u → Steps p.node p.link g (fresh_id p.used) b (Ok r) → Stepping g s u p b r
stepping g s u p b r h steps =
    let up = runs p.node p.link g (fresh_id p.used) b r steps in
    elim s.replica as (λ v. s.replica ≡ v → Stepping g s u p b r) [
      | true ↦ λ k. Stepping.of_replica k (steps.at_replica u (record { up = up; agrees = at_replica p s u h k }))
      | false ↦ λ k. elim s.transaction as (λ o. s.transaction ≡ o → Stepping g s u p b r) [
        | None ↦ λ n. Stepping.of_client k n (steps.at_client u (record { up = up; agrees = at_client p s u h k n }))
        | Some held ↦ λ n. Stepping.of_waiting k held n (steps.at_waiting held u (record { up = up; agrees = at_waiting p s held u h k n }))
      ] refl
    ] refl

pub goes : (g : Given) (s : PipeState) (u : List ℕ) (p : LinkedNode) (b : NodeState) (outs : OutsState) → Stands p s u → Steps p.node p.link g (fresh_id p.used) b (Ok (step.Done outs)) → Goes g s u (behind p b outs) outs
goes g s u p b outs h steps = by_end (stepping g s u p b (step.Done outs) h steps)
  where
    by_end : Stepping g s u p b (step.Done outs) → Goes g s u (behind p b outs) outs
    by_end (Stepping.of_client k n row) = client_goes g s u p b outs h k n row
    by_end (Stepping.of_waiting k held n row) = within_goes g s held u p b outs h k n row
    by_end (Stepping.of_replica k row) = replica_goes g s u p b outs h k row

pub idles : (g : Given) (s : PipeState) (u : List ℕ) (p : LinkedNode) (b : NodeState) → Stands p s u → Steps p.node p.link g (fresh_id p.used) b (Ok step.Idle) → Idles p.node u b
idles g s u p b h steps = by_end (stepping g s u p b step.Idle h steps)
  where
    by_end : Stepping g s u p b step.Idle → Idles p.node u b
    by_end (Stepping.of_client k n row) = row
    by_end (Stepping.of_waiting k held n row) = row
    by_end (Stepping.of_replica k row) = row

pub never_closed : (g : Given) (s : PipeState) (u : List ℕ) (p : LinkedNode) (b : NodeState) → Stands p s u → Steps p.node p.link g (fresh_id p.used) b (Ok step.Closed) → ⊥
never_closed g s u p b h steps = by_end (stepping g s u p b step.Closed h steps)
  where
    by_end : Stepping g s u p b step.Closed → ⊥
    by_end (Stepping.of_client k n row) = row
    by_end (Stepping.of_waiting k held n row) = row
    by_end (Stepping.of_replica k row) = row

-- what it gives out
pub gives : (g : Given) (s : PipeState) (u : List ℕ) (q : LinkedNode) (outs : OutsState) → Goes g s u q outs → Gives g s u (output_of outs)
gives g s u q outs (Goes.on more t rest served stands) = Gives.serves t rest served
gives g s u q outs (Goes.last none told ends is) = Gives.ends told ends is

-- ---- links
-- bytes came
pub hears : (p : LinkedNode) (s : PipeState) (u bytes : List ℕ) (b : NodeState) → Stands p s u → Feeds p.node p.link bytes b → Stands (record p { node = b }) s (u ++ bytes)
hears p s u bytes b h f = record {
  up = h.up;
  core = f.core ∙ h.core;
  end = elim s.replica as (λ v. s.replica ≡ v → end_of b p.link ≡ Some (end_as s.replica s.transaction (u ++ bytes))) [
    | true ↦ λ k. (f.at_replica u (at_replica p s u h k)).is ∙ sym (replicas s (u ++ bytes) k)
    | false ↦ λ k. elim s.transaction as (λ o. s.transaction ≡ o → end_of b p.link ≡ Some (end_as s.replica s.transaction (u ++ bytes))) [
      | None ↦ λ n. (f.at_client u (at_client p s u h k n)).is ∙ sym (clients s None (u ++ bytes) k n)
      | Some held ↦ λ n. (f.at_waiting held u (at_waiting p s held u h k n)).is ∙ sym (clients s (Some held) (u ++ bytes) k n)
    ] refl
  ] refl;
  alone = λ x ne. f.others.stay x ne ∙ h.alone x ne;
  follow = f.follow (not_followed p s u p.link h) ∙ h.follow;
  used = h.used;
}

-- a link was opened
pub opened : (a b : NodeState) (l : LinkId) (id : List ℕ) (held : Dataset) → a ≡ started false 0 usual_backlog id held → Opens a l b → Stands (record { node = b; link = l; used = 0 }) (begun_with id held) []
opened a b l id held is o = record {
  up = refl;
  core = ap (λ (z : NodeState). z.core) o.node ∙ ap (λ (z : NodeState). z.core) is;
  end = o.agrees.is;
  alone = λ x ne. ap (λ (z : NodeState). end_of z x) o.node ∙ (get_other a.ends.open_links l (client []) x ne ∙ (ap (λ (z : NodeState). end_of z x) is ∙ get-empty id_cmp x));
  follow = ap (λ (z : NodeState). z.follow) o.node ∙ ap (λ (z : NodeState). z.follow) is;
  used = refl;
}

-- ---- .. and what is settled of it
pub steps_last : (g : Given) (s : PipeState) (u : List ℕ) (q : LinkedNode) (outs : OutsState) (x y : Outside) → Goes g s u q outs → is_last outs ≡ true → IsSettled x y (changes_of (output_of outs)) outs.reply → StepsLast s u x y
steps_last g s u q outs x y (Goes.on more t rest served stands) e settled = no_false (sym e ∙ more)
steps_last g s u q outs x y (Goes.last none told ends is) e settled = record { last = told; ends = ends; out = output_of outs; out_is = is; settled = settled }

pub steps_on : (g : Given) (s : PipeState) (u : List ℕ) (q r : LinkedNode) (outs : OutsState) (x y : Outside) → Goes g s u q outs → is_last outs ≡ false → r ≡ q → IsSettled x y (changes_of (output_of outs)) outs.reply → StepsOn g s u x r y
steps_on g s u q r outs x y (Goes.on more t rest served stands) e same settled = record {
  at = t;
  rest = rest;
  out = output_of outs;
  served = served;
  stands = subst (λ n. Stands n t rest) (sym same) stands;
  settled = settled;
}
steps_on g s u q r outs x y (Goes.last none told ends is) e same settled = no_false (sym none ∙ e)

pub step_waits : (s : PipeState) (u : List ℕ) (p : LinkedNode) (b : NodeState) (x : Outside) → Stands p s u → Idles p.node u b → StepWaits s u x (record p { node = b }) x
step_waits s u p b x h i = record { waits = i.waits; stands = subst (λ (n : NodeState). Stands (record p { node = n }) s u) (sym i.same) h; same = refl }
