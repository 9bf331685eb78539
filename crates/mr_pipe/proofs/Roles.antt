-- What the roles of a pipe's node and of its link leave alone.
use Rattle.std.proofs.Common.{◌≡◌, ◌++◌, ◌∙◌, ℕ, List, [], ◌∷◌, Bool, true, false, not, None, Some, refl, sym, ap, subst}
use Rattle.std.proofs.lemmas.Option.{same_Some}
use Rattle.mr_data.specs.Meaning.{apply_all}
use Rattle.mr_data.specs.declared.given.Given.{Given}
use Rattle.mr_effect.specs.Spelling.{texts}
use Rattle.mr_effect.specs.declared.effect.Effect.{Effect}
use Rattle.mr_keyspace.specs.Dataset.{Dataset}
use Rattle.mr_cmd_node.specs.declared.node_ask.NodeAsk.{NodeAsk}
use Rattle.mr_groups.specs.Groups.{grown_text}
use Rattle.mr_commands.proofs.Replicas.{none_on_replica}
use Rattle.mr_commands.proofs.Doing.{do_nothing, have_none}
use Rattle.mr_node_links.specs.State.{Transaction}
use Rattle.mr_node_output.specs.Outs.{Output, no_output}
use Rattle.mr_node_spec.specs.State.{Core}
use Rattle.mr_node_spec.specs.Requests.{Asks}
use Rattle.mr_node_spec.specs.Served.{Answered, Served, IsQuiet}
use Rattle.mr_pipe.specs.Outside.{Change}
use Rattle.mr_pipe.specs.State.{PipeState}
use Rattle.mr_pipe.specs.Sessions.{IsLast, IsServed, IsServedWithin, TakesRole, alone, changes_of, frame_alone}
use Rattle.mr_pipe.specs.Roles.{OnlyRewrites, ReplicaLinksAreSilent, ReplicaLinksEndSilently, ReplicasOnlyRewrite}

-- ---- a node that is a replica
-- an output that leaves the stream and the file alone
abbrev Untouched : Output → Type 0
Untouched out = (out.grown ≡ []) × ((out.appended ≡ []) × (out.replaced ≡ None))

untouched : (s : PipeState) (u : List ℕ) (t : PipeState) (rest : List ℕ) (out : Output) → t.core.held ≡ s.core.held → Untouched out → OnlyRewrites s u t rest out
untouched s u t rest out held is = record { held = held; grown = is.0; appended = is.1.0; replaced = λ some. absurd (some is.1.1) }

only_said : (out : Output) (said : List ℕ) → out ≡ record no_output { said = said } → Untouched out
only_said out said is = (ap (λ (o : Output). o.grown) is, (ap (λ (o : Output). o.appended) is, ap (λ (o : Output). o.replaced) is))

nothing_said : (out : Output) → out ≡ no_output → Untouched out
nothing_said out is = only_said out [] is

quiet : (c : Core) (wish : NodeAsk) (out : Output) → IsQuiet c wish out → Untouched out
quiet c wish out (IsQuiet.introduces told is gives) = only_said out _ gives
quiet c wish out (IsQuiet.acknowledges offset is gives) = nothing_said out gives
quiet c wish out (IsQuiet.refuses id wanted is replica gives) = only_said out _ gives
quiet c wish out (IsQuiet.execs_nothing is gives) = only_said out _ gives
quiet c wish out (IsQuiet.discards_nothing is gives) = only_said out _ gives
quiet c wish out (IsQuiet.stays_master is master gives) = only_said out _ gives
quiet c wish out (IsQuiet.stays_replica host port is replica followed gives) = only_said out _ gives

held_is : (c d : Core) → d ≡ c → d.held ≡ c.held
held_is c d is = ap (λ (z : Core). z.held) is

answered : (s : PipeState) (u : List ℕ) (d : Core) (rest : List ℕ) (words : List (List ℕ)) (g : Given) (out : Output) → s.core.master ≡ false → Asks u words rest → Answered s.core alone words g d out
    → OnlyRewrites s u (record s { core = d }) rest out
answered s u d rest words g out k asks (Answered.within plain reply effects plan fits is gives) =
    let c = s.core in
    let none : effects ≡ [] = none_on_replica (not c.master) words g c.held _ effects (ap not k) plan.planned in
    let left = sym (same_Some c.held _ (ap (λ (es : List Effect). apply_all es c.held) (sym none) ∙ plan.leads)) in
    untouched s u (record s { core = d }) rest out (held_is _ d is ∙ left) (ap (λ (o : Output). o.grown) gives ∙ ap texts none, (ap (λ (o : Output). o.appended) gives ∙ ap texts none, ap (λ (o : Output). o.replaced) gives))
answered s u d rest words g out k asks (Answered.beyond plain reply effects plan past is gives) = untouched s u (record s { core = d }) rest out (held_is s.core d is) (only_said out _ gives)
answered s u d rest words g out k asks (Answered.rewritten wish remakes is gives) = record {
  held = held_is s.core d is;
  grown = ap (λ (o : Output). o.grown) gives;
  appended = ap (λ (o : Output). o.appended) gives;
  replaced = λ some. record { words = words; asks = asks; rewriting = wish; replaced = ap (λ (o : Output). o.replaced) gives };
}
answered s u d rest words g out k asks (Answered.tells question wish is gives) = untouched s u (record s { core = d }) rest out (held_is s.core d is) (only_said out _ gives)
answered s u d rest words g out k asks (Answered.keeps_role wish asked q is) = untouched s u (record s { core = d }) rest out (held_is s.core d is) (quiet s.core wish out q)

served : (s : PipeState) (u : List ℕ) (d : Core) (rest : List ℕ) (g : Given) (out : Output) → s.core.master ≡ false → Served s.core alone u g d rest out → OnlyRewrites s u (record s { core = d }) rest out
served s u d rest g out k (Served.request words asks a) = answered s u d rest words g out k asks a
served s u d rest g out k (Served.nothing asks is gives) = untouched s u (record s { core = d }) rest out (held_is s.core d is) (nothing_said out gives)

held_as : (s t v : PipeState) → t ≡ v → v.core.held ≡ s.core.held → t.core.held ≡ s.core.held
held_as s t v is held = ap (λ (z : PipeState). z.core.held) is ∙ held

takes_role : (s : PipeState) (u : List ℕ) (words : List (List ℕ)) (t : PipeState) (rest : List ℕ) (out : Output) → TakesRole s words t out → OnlyRewrites s u t rest out
takes_role s u words t rest out (TakesRole.synchronizes id wanted text master wish answer is gives) = untouched s u t rest out (held_as s t _ is refl) (only_said out _ gives)
takes_role s u words t rest out (TakesRole.promotes replica wish is gives) = untouched s u t rest out (held_as s t _ is refl) (only_said out _ gives)
takes_role s u words t rest out (TakesRole.turns address replica wish another is gives) = untouched s u t rest out (held_as s t _ is refl) (only_said out _ gives)
takes_role s u words t rest out (TakesRole.demotes address master wish is gives) = untouched s u t rest out (held_as s t _ is refl) (only_said out _ gives)

-- what waited has no effects either
within : (g : Given) (s : PipeState) (held : Transaction) (u : List ℕ) (t : PipeState) (rest : List ℕ) (out : Output) → s.core.master ≡ false → IsServedWithin g s held u t rest out → OnlyRewrites s u t rest out
within g s held u t rest out k (IsServedWithin.stands words asks next reply h is gives) = untouched s u t rest out (held_as s t _ is refl) (only_said out _ gives)
within g s held u t rest out k (IsServedWithin.passes asks is gives) = untouched s u t rest out (held_as s t s is refl) (nothing_said out gives)
within g s held u t rest out k (IsServedWithin.drops words asks reply h is gives) = untouched s u t rest out (held_as s t _ is refl) (only_said out _ gives)
within g s held u t rest out k (IsServedWithin.executes words asks runs whole replies effects left does is gives) =
    let c = s.core in
    let none : effects ≡ [] = have_none (frame_alone c) (not c.master) g held.queued [] c.held left replies effects (ap not k) does in
    let same : left ≡ c.held = do_nothing (frame_alone c) (not c.master) g held.queued [] c.held left replies effects none does in
    untouched s u t rest out (held_as s t _ is same) (ap (λ (o : Output). o.grown) gives ∙ ap grown_text none, (ap (λ (o : Output). o.appended) gives ∙ ap grown_text none, ap (λ (o : Output). o.replaced) gives))

pub replicas_only_rewrite : ReplicasOnlyRewrite
replicas_only_rewrite g s u t rest out (IsServed.serves k n d h is) m = subst (λ (z : PipeState). OnlyRewrites s u z rest out) (sym is) (served s u d rest g out m h)
replicas_only_rewrite g s u t rest out (IsServed.takes_role k n words asks h) m = takes_role s u words t rest out h
replicas_only_rewrite g s u t rest out (IsServed.begins k n words asks wish is gives) m = untouched s u t rest out (held_as s t _ is refl) (only_said out _ gives)
replicas_only_rewrite g s u t rest out (IsServed.goes_within k held n h) m = within g s held u t rest out m h
replicas_only_rewrite g s u t rest out (IsServed.notes k e is gives) m = untouched s u t rest out (held_as s t s is refl) (nothing_said out gives)

-- ---- a link that is a replica's
both : {A : Type 0} (b : Bool) → b ≡ true → b ≡ false → A
both b p q = let wrong : true ≡ false = sym p ∙ q in absurd (cc)

one_silent : (g : Given) (s : PipeState) (u : List ℕ) (t : PipeState) (rest : List ℕ) (out : Output) → IsServed g s u t rest out → s.replica ≡ true → (t ≡ s) × (out ≡ no_output)
one_silent g s u t rest out (IsServed.serves k n d h is) r = both s.replica r k
one_silent g s u t rest out (IsServed.takes_role k n words asks h) r = both s.replica r k
one_silent g s u t rest out (IsServed.begins k n words asks wish is gives) r = both s.replica r k
one_silent g s u t rest out (IsServed.goes_within k held n h) r = both s.replica r k
one_silent g s u t rest out (IsServed.notes k e is gives) r = (is, gives)

pub links_are_silent : ReplicaLinksAreSilent
links_are_silent g s u [] t rest said h r = record { stays = h.0; silent = h.2; changes = refl }
links_are_silent g s u (m ∷ ms) t rest said h r =
    let one = one_silent g s u m.pipe m.left m.out h.0 r in
    let more = links_are_silent g m.pipe m.left ms t rest h.1.0 h.1.1 (ap (λ (z : PipeState). z.replica) one.0 ∙ r) in
    record {
      stays = more.stays ∙ one.0;
      silent = h.1.2 ∙ (ap (λ z. m.out.said ++ z) more.silent ∙ ap (λ (o : Output). o.said ++ []) one.1);
      changes = ap (λ (z : List Change). changes_of m.out ++ z) more.changes ∙ ap (λ (o : Output). changes_of o ++ []) one.1;
    }

pub links_end_silently : ReplicaLinksEndSilently
links_end_silently s u last (IsLast.closes k e) r = both s.replica r k
links_end_silently s u last (IsLast.halts k n rest asks none) r = both s.replica r k
links_end_silently s u last (IsLast.parts k unwanted none) r = none
