-- What becomes of a node's stream, row by row.
use Rattle.std.proofs.Common.{◌≡◌, ◌≤◌, ◌+◌, ◌∙◌, ℕ, List, [], Bool, true, false, not, Some, length, refl, sym, ap, subst, inl, inr, arith}
use Rattle.std.proofs.lemmas.Option.{same_Some}
use Rattle.mr_links.specs.declared.link_id.LinkId.{LinkId}
use Rattle.mr_keyspace.specs.Dataset.{Dataset}
use Rattle.mr_data.specs.Meaning.{apply_all}
use Rattle.mr_data.specs.declared.given.Given.{Given}
use Rattle.mr_effect.specs.Spelling.{texts}
use Rattle.mr_effect.specs.declared.effect.Effect.{Effect}
use Rattle.mr_cmd_node.specs.declared.node_ask.NodeAsk.{NodeAsk}
use Rattle.mr_groups.specs.Groups.{grown_text}
use Rattle.mr_commands.proofs.Replicas.{none_on_replica}
use Rattle.mr_commands.proofs.Doing.{do_nothing, have_none}
use Rattle.mr_node_links.specs.State.{Transaction}
use Rattle.mr_node_output.specs.Outs.{OutsState, Output}
use Rattle.mr_node_spec.specs.State.{Core, NodeState}
use Rattle.mr_node_spec.specs.Telling.{Around}
use Rattle.mr_node_spec.specs.Served.{Answered, Served, IsQuiet}
use Rattle.mr_node_spec.specs.ClientRows.{ClientRow}
use Rattle.mr_node_spec.specs.Transactions.{WithinRow, frame_of}
use Rattle.mr_node_spec.specs.Laws.{GoesOn, OnlyAnswers}

abbrev pub Onward : Core → Core → Type 0
Onward c d = (c.lineage.stream.offset ≤ d.lineage.stream.offset) × (d.lineage.id ≡ c.lineage.id)

same : (c : Core) → Onward c c
same c = (omega arith, refl)

answered_onward : (c d : Core) (around : Around) (words : List (List ℕ)) (given : Given) (out : Output) → Answered c around words given d out → Onward c d
answered_onward c d around words given out (Answered.within plain reply effects plan fits is gives) = subst (Onward c) (sym is) (omega arith, refl)
answered_onward c d around words given out (Answered.beyond plain reply effects plan past is gives) = subst (Onward c) (sym is) (same c)
answered_onward c d around words given out (Answered.rewritten asks remakes is gives) = subst (Onward c) (sym is) (same c)
answered_onward c d around words given out (Answered.tells question asks is gives) = subst (Onward c) (sym is) (same c)
answered_onward c d around words given out (Answered.keeps_role wish asks quiet is) = subst (Onward c) (sym is) (same c)

served_onward : (c d : Core) (around : Around) (u rest : List ℕ) (given : Given) (out : Output) → Served c around u given d rest out → Onward c d
served_onward c d around u rest given out (Served.request words asks answered) = answered_onward c d around words given out answered
served_onward c d around u rest given out (Served.nothing asks is gives) = subst (Onward c) (sym is) (same c)

stays : (a b : NodeState) (fresh : List ℕ) (outs : OutsState) → Onward a.core b.core → GoesOn a b fresh outs
stays a b fresh outs o = record { onward = o.0; name = inl o.1 }

pub goes_on : (a b : NodeState) (l : LinkId) (u : List ℕ) (given : Given) (fresh : List ℕ) (outs : OutsState) → ClientRow a l u given fresh b outs → GoesOn a b fresh outs
goes_on a b l u given fresh outs (ClientRow.serves s) = stays a b fresh outs (served_onward a.core b.core s.around u s.rest given s.out s.served)
goes_on a b l u given fresh outs (ClientRow.closes s) = stays a b fresh outs (subst (Onward a.core) (sym s.core) (same a.core))
goes_on a b l u given fresh outs (ClientRow.halts s) = stays a b fresh outs (subst (Onward a.core) (sym s.core) (same a.core))
goes_on a b l u given fresh outs (ClientRow.synchronizes s) = stays a b fresh outs (subst (Onward a.core) (sym s.core) (same a.core))
goes_on a b l u given fresh outs (ClientRow.promotes s) = record {
  onward = subst (λ (d : Core). a.core.lineage.stream.offset ≤ d.lineage.stream.offset) (sym s.core) (omega arith);
  name = inr (ap (λ (d : Core). d.lineage.id) s.core, ap (λ (o : OutsState). o.used) s.outs_are);
}
goes_on a b l u given fresh outs (ClientRow.turns s) = stays a b fresh outs (subst (Onward a.core) (sym s.core) (omega arith, refl))
goes_on a b l u given fresh outs (ClientRow.demotes s) = stays a b fresh outs (subst (Onward a.core) (sym s.core) (omega arith, refl))
goes_on a b l u given fresh outs (ClientRow.begins s) = stays a b fresh outs (subst (Onward a.core) (sym s.core) (same a.core))

-- .. where a transaction is open
pub goes_on_within : (a b : NodeState) (l : LinkId) (t : Transaction) (u : List ℕ) (given : Given) (fresh : List ℕ) (outs : OutsState) → WithinRow a l t u given b outs → GoesOn a b fresh outs
goes_on_within a b l t u given fresh outs (WithinRow.stands s) = stays a b fresh outs (subst (Onward a.core) (sym s.core) (same a.core))
goes_on_within a b l t u given fresh outs (WithinRow.passes s) = stays a b fresh outs (subst (Onward a.core) (sym s.core) (same a.core))
goes_on_within a b l t u given fresh outs (WithinRow.drops s) = stays a b fresh outs (subst (Onward a.core) (sym s.core) (same a.core))
goes_on_within a b l t u given fresh outs (WithinRow.executes s) = stays a b fresh outs (subst (Onward a.core) (sym s.core) (omega arith, refl))
goes_on_within a b l t u given fresh outs (WithinRow.closes s) = stays a b fresh outs (subst (Onward a.core) (sym s.core) (same a.core))

-- ---- a replica
abbrev pub Rests : Core → Core → Output → Type 0
Rests c d out = (d.held ≡ c.held) × ((d.lineage.stream.offset ≡ c.lineage.stream.offset) × (out.grown ≡ []))

resting : (c d : Core) (out : Output) → d ≡ c → out.grown ≡ [] → Rests c d out
resting c d out is none = (ap (λ (z : Core). z.held) is, (ap (λ (z : Core). z.lineage.stream.offset) is, none))

quiet_grown : (c : Core) (wish : NodeAsk) (out : Output) → IsQuiet c wish out → out.grown ≡ []
quiet_grown c wish out (IsQuiet.introduces told is gives) = ap (λ (o : Output). o.grown) gives
quiet_grown c wish out (IsQuiet.acknowledges offset is gives) = ap (λ (o : Output). o.grown) gives
quiet_grown c wish out (IsQuiet.refuses id wanted is replica gives) = ap (λ (o : Output). o.grown) gives
quiet_grown c wish out (IsQuiet.execs_nothing is gives) = ap (λ (o : Output). o.grown) gives
quiet_grown c wish out (IsQuiet.discards_nothing is gives) = ap (λ (o : Output). o.grown) gives
quiet_grown c wish out (IsQuiet.stays_master is master gives) = ap (λ (o : Output). o.grown) gives
quiet_grown c wish out (IsQuiet.stays_replica host port is replica followed gives) = ap (λ (o : Output). o.grown) gives

answered_rests : (c d : Core) (around : Around) (words : List (List ℕ)) (given : Given) (out : Output) → c.master ≡ false → Answered c around words given d out → Rests c d out
answered_rests c d around words given out alone (Answered.within plain reply effects plan fits is gives) =
    let none : effects ≡ [] = none_on_replica (not c.master) words given c.held _ effects (ap not alone) plan.planned in
    let left = sym (same_Some c.held _ (ap (λ (es : List Effect). apply_all es c.held) (sym none) ∙ plan.leads)) in
    let bytes : texts effects ≡ [] = ap texts none in
    let count : length (texts effects) ≡ 0 = ap length bytes in (
      ap (λ (z : Core). z.held) is ∙ left,
      (ap (λ (z : Core). z.lineage.stream.offset) is ∙ (let e : c.lineage.stream.offset + length (texts effects) ≡ c.lineage.stream.offset = omega (arith, count) in e), ap (λ (o : Output). o.grown) gives ∙ bytes),
    )
answered_rests c d around words given out alone (Answered.beyond plain reply effects plan past is gives) = resting c d out is (ap (λ (o : Output). o.grown) gives)
answered_rests c d around words given out alone (Answered.rewritten asks remakes is gives) = resting c d out is (ap (λ (o : Output). o.grown) gives)
answered_rests c d around words given out alone (Answered.tells question asks is gives) = resting c d out is (ap (λ (o : Output). o.grown) gives)
answered_rests c d around words given out alone (Answered.keeps_role wish asks quiet is) = resting c d out is (quiet_grown c wish out quiet)

served_rests : (c d : Core) (around : Around) (u rest : List ℕ) (given : Given) (out : Output) → c.master ≡ false → Served c around u given d rest out → Rests c d out
served_rests c d around u rest given out alone (Served.request words asks answered) = answered_rests c d around words given out alone answered
served_rests c d around u rest given out alone (Served.nothing asks is gives) = resting c d out is (ap (λ (o : Output). o.grown) gives)

kept : (a b : NodeState) (outs : OutsState) → b.core ≡ a.core → outs.grown ≡ [] → OnlyAnswers a b outs
kept a b outs is none = record { held = ap (λ (z : Core). z.held) is; offset = ap (λ (z : Core). z.lineage.stream.offset) is; grown = none }

both : (m : Bool) → m ≡ true → m ≡ false → ⊥
both m p q = cc

pub only_answers : (a b : NodeState) (l : LinkId) (u : List ℕ) (given : Given) (fresh : List ℕ) (outs : OutsState) → ClientRow a l u given fresh b outs → a.core.master ≡ false → b.core.master ≡ false → OnlyAnswers a b outs
only_answers a b l u given fresh outs (ClientRow.serves s) alone still =
    let r = served_rests a.core b.core s.around u s.rest given s.out alone s.served in
    record { held = r.0; offset = r.1.0; grown = ap (λ (o : OutsState). o.grown) s.outs_are ∙ r.1.1 }
only_answers a b l u given fresh outs (ClientRow.closes s) alone still = kept a b outs s.core (ap (λ (o : OutsState). o.grown) s.outs_are)
only_answers a b l u given fresh outs (ClientRow.halts s) alone still = kept a b outs s.core (ap (λ (o : OutsState). o.grown) s.outs_are)
only_answers a b l u given fresh outs (ClientRow.synchronizes s) alone still = absurd (both a.core.master s.master alone)
only_answers a b l u given fresh outs (ClientRow.promotes s) alone still = absurd (both b.core.master (ap (λ (z : Core). z.master) s.core) still)
only_answers a b l u given fresh outs (ClientRow.turns s) alone still = record {
  held = ap (λ (z : Core). z.held) s.core;
  offset = ap (λ (z : Core). z.lineage.stream.offset) s.core;
  grown = ap (λ (o : OutsState). o.grown) s.outs_are;
}
only_answers a b l u given fresh outs (ClientRow.demotes s) alone still = absurd (both a.core.master s.master alone)
only_answers a b l u given fresh outs (ClientRow.begins s) alone still = kept a b outs s.core (ap (λ (o : OutsState). o.grown) s.outs_are)

-- .. where a transaction is open
pub only_answers_within : (a b : NodeState) (l : LinkId) (t : Transaction) (u : List ℕ) (given : Given) (outs : OutsState) → WithinRow a l t u given b outs → a.core.master ≡ false → OnlyAnswers a b outs
only_answers_within a b l t u given outs (WithinRow.stands s) alone = kept a b outs s.core (ap (λ (o : OutsState). o.grown) s.outs_are)
only_answers_within a b l t u given outs (WithinRow.passes s) alone = kept a b outs s.core (ap (λ (o : OutsState). o.grown) s.outs_are)
only_answers_within a b l t u given outs (WithinRow.drops s) alone = kept a b outs s.core (ap (λ (o : OutsState). o.grown) s.outs_are)
only_answers_within a b l t u given outs (WithinRow.closes s) alone = kept a b outs s.core (ap (λ (o : OutsState). o.grown) s.outs_are)
only_answers_within a b l t u given outs (WithinRow.executes s) alone =
    let none : s.effects ≡ [] = have_none (frame_of a) (not a.core.master) given t.queued [] a.core.held s.held s.replies s.effects (ap not alone) s.does in
    let stays : s.held ≡ a.core.held = do_nothing (frame_of a) (not a.core.master) given t.queued [] a.core.held s.held s.replies s.effects none s.does in
    let bytes : grown_text s.effects ≡ [] = ap grown_text none in
    let count : length (grown_text s.effects) ≡ 0 = ap length bytes in
    record {
      held = ap (λ (z : Core). z.held) s.core ∙ stays;
      offset = ap (λ (z : Core). z.lineage.stream.offset) s.core ∙ (let e : a.core.lineage.stream.offset + length (grown_text s.effects) ≡ a.core.lineage.stream.offset = omega (arith, count) in e);
      grown = ap (λ (o : OutsState). o.grown) s.outs_are ∙ bytes;
    }
