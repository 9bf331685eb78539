-- What steps at the ends that a node serves do to its file.
use Rattle.std.proofs.Common.{◌≡◌, inl, ℕ, List, [], not, Option, None, Some, refl, sym, ap, subst, ◌∙◌}
use Rattle.std.specs.FinMap.{empty}
use Rattle.mr_links.specs.declared.link_id.LinkId.{LinkId}
use Rattle.mr_effect.specs.Spelling.{texts}
use Rattle.mr_keyspace.specs.Dataset.{Dataset}
use Rattle.mr_data.specs.Rebuilding.{rebuilding}
use Rattle.mr_data.specs.declared.given.Given.{Given}
use Rattle.mr_cmd_node.specs.declared.node_ask.NodeAsk.{NodeAsk}
use Rattle.mr_groups.specs.Effects.{Makes}
use Rattle.mr_groups.specs.Groups.{as_group, group_texts}
use Rattle.mr_node_links.specs.State.{Transaction}
use Rattle.mr_node_output.specs.Outs.{OutsState, Output}
use Rattle.mr_node_spec.specs.State.{Core, NodeState}
use Rattle.mr_node_spec.specs.Growing.{rebuilt, Remakes}
use Rattle.mr_node_spec.specs.Telling.{Around}
use Rattle.mr_node_spec.specs.Served.{Served, Answered, IsQuiet, left_of}
use Rattle.mr_node_spec.specs.ClientRows.{ClientRow}
use Rattle.mr_node_spec.specs.Transactions.{Executes, WithinRow, frame_of}
use Rattle.mr_node_spec.specs.ReplicaRows.{ReplicaRow}
use Rattle.law_minired.proofs.GoodGroups.{good_effects, good_as_group, as_group_applied, as_group_texts}
use Rattle.law_minired.proofs.Waited.{sound_all}
use Rattle.law_files.specs.Filing.{DoesToFile, HasStreamed}
use Rattle.law_files.specs.Steps.{ClientStepsFile, WithinStepsFile, ReplicaStepsKeep, IdleStepsKeep}
use Rattle.law_files.proofs.Filing.{core_kept, effects_grow, kept_does}
use Rattle.law_files.proofs.Requests.{group_kept, no_beats}

-- the commands that rebuild a dataset make it
pub remade : (m : Dataset) → Remakes (rebuilding m) m → Makes (rebuilt m) m
remade m r = record { effects = rebuilding m; good = good_effects (rebuilding m) empty m r.again r.short; are_texts = refl; applied = r.again }

-- ---- what a client's request gives out
module _ (c d : Core) (out : Output) where
  kept : d ≡ c → out.appended ≡ [] → out.replaced ≡ None → DoesToFile c d out.appended out.replaced
  kept is none whole = kept_does c d out.appended out.replaced (core_kept c d out.appended out.replaced is none whole)

  quiet : (wish : NodeAsk) → IsQuiet c wish out → (out.appended ≡ []) × (out.replaced ≡ None)
  quiet wish (IsQuiet.introduces told is gives) = (ap (λ (o : Output). o.appended) gives, ap (λ (o : Output). o.replaced) gives)
  quiet wish (IsQuiet.acknowledges offset is gives) = (ap (λ (o : Output). o.appended) gives, ap (λ (o : Output). o.replaced) gives)
  quiet wish (IsQuiet.refuses id wanted is replica gives) = (ap (λ (o : Output). o.appended) gives, ap (λ (o : Output). o.replaced) gives)
  quiet wish (IsQuiet.execs_nothing is gives) = (ap (λ (o : Output). o.appended) gives, ap (λ (o : Output). o.replaced) gives)
  quiet wish (IsQuiet.discards_nothing is gives) = (ap (λ (o : Output). o.appended) gives, ap (λ (o : Output). o.replaced) gives)
  quiet wish (IsQuiet.stays_master is master gives) = (ap (λ (o : Output). o.appended) gives, ap (λ (o : Output). o.replaced) gives)
  quiet wish (IsQuiet.stays_replica host port is replica followed gives) = (ap (λ (o : Output). o.appended) gives, ap (λ (o : Output). o.replaced) gives)

  answered : (around : Around) (words : List (List ℕ)) (given : Given) → Answered c around words given d out → DoesToFile c d out.appended out.replaced
  answered around words given (Answered.within plain reply effects plan fits is gives) = DoesToFile.grows (effects_grow c d out.appended effects
      (good_effects effects c.held (left_of c words given) plan.leads plan.short)
      (plan.leads ∙ ap (λ (z : Core). Some z.held) (sym is))
      (inl (ap (λ (z : Core). z.lineage.stream) is))
      (ap (λ (o : Output). o.appended) gives ∙ ap texts (sym (no_beats _ c.held words given reply effects plan)))) (ap (λ (o : Output). o.replaced) gives)
  answered around words given (Answered.beyond plain reply effects plan past is gives) = kept is (ap (λ (o : Output). o.appended) gives) (ap (λ (o : Output). o.replaced) gives)
  answered around words given (Answered.rewritten asks remakes is gives) =
      let same : c.held ≡ d.held = ap (λ (z : Core). z.held) (sym is) in
      DoesToFile.replaces (ap (λ (o : Output). o.appended) gives) (ap (λ (o : Output). o.replaced) gives ∙ ap (λ m. Some (rebuilt m)) same) (subst (λ m. Makes (rebuilt m) m) same (remade c.held remakes))
  answered around words given (Answered.tells question asks is gives) = kept is (ap (λ (o : Output). o.appended) gives) (ap (λ (o : Output). o.replaced) gives)
  answered around words given (Answered.keeps_role wish asks is_quiet is) = let q = quiet wish is_quiet in kept is q.0 q.1

  served : (around : Around) (u rest : List ℕ) (given : Given) → Served c around u given d rest out → DoesToFile c d out.appended out.replaced
  served around u rest given (Served.request words asks a) = answered around words given a
  served around u rest given (Served.nothing asks is gives) = kept is (ap (λ (o : Output). o.appended) gives) (ap (λ (o : Output). o.replaced) gives)

-- ---- and a step
module _ (a b : NodeState) (outs : OutsState) where
  -- the outs say of the file what this says
  as_given : (out : Output) → outs.appended ≡ out.appended → outs.replaced ≡ out.replaced → DoesToFile a.core b.core out.appended out.replaced → DoesToFile a.core b.core outs.appended outs.replaced
  as_given out same whole f =
      subst (λ (z : List ℕ). DoesToFile a.core b.core z outs.replaced) (sym same) (subst (λ (o : Option (List ℕ)). DoesToFile a.core b.core out.appended o) (sym whole) f)

  -- dataset and stream stay, and nothing is filed
  stays : b.core.held ≡ a.core.held → b.core.lineage.stream ≡ a.core.lineage.stream → outs.appended ≡ [] → outs.replaced ≡ None → DoesToFile a.core b.core outs.appended outs.replaced
  stays held stream none whole = kept_does a.core b.core outs.appended outs.replaced (record { held = held; stream = stream; none = none; whole = whole })

  client_step : (l : LinkId) (u : List ℕ) (given : Given) (fresh : List ℕ) → ClientRow a l u given fresh b outs → DoesToFile a.core b.core outs.appended outs.replaced
  client_step l u given fresh (ClientRow.serves s) =
      as_given s.out (ap (λ (o : OutsState). o.appended) s.outs_are) (ap (λ (o : OutsState). o.replaced) s.outs_are) (served a.core b.core s.out s.around u s.rest given s.served)
  client_step l u given fresh (ClientRow.closes s) =
      stays (ap (λ (z : Core). z.held) s.core) (ap (λ (z : Core). z.lineage.stream) s.core) (ap (λ (o : OutsState). o.appended) s.outs_are) (ap (λ (o : OutsState). o.replaced) s.outs_are)
  client_step l u given fresh (ClientRow.halts s) =
      stays (ap (λ (z : Core). z.held) s.core) (ap (λ (z : Core). z.lineage.stream) s.core) (ap (λ (o : OutsState). o.appended) s.outs_are) (ap (λ (o : OutsState). o.replaced) s.outs_are)
  client_step l u given fresh (ClientRow.synchronizes s) =
      stays (ap (λ (z : Core). z.held) s.core) (ap (λ (z : Core). z.lineage.stream) s.core) (ap (λ (o : OutsState). o.appended) s.outs_are) (ap (λ (o : OutsState). o.replaced) s.outs_are)
  client_step l u given fresh (ClientRow.promotes s) =
      stays (ap (λ (z : Core). z.held) s.core) (ap (λ (z : Core). z.lineage.stream) s.core) (ap (λ (o : OutsState). o.appended) s.outs_are) (ap (λ (o : OutsState). o.replaced) s.outs_are)
  client_step l u given fresh (ClientRow.turns s) =
      stays (ap (λ (z : Core). z.held) s.core) (ap (λ (z : Core). z.lineage.stream) s.core) (ap (λ (o : OutsState). o.appended) s.outs_are) (ap (λ (o : OutsState). o.replaced) s.outs_are)
  client_step l u given fresh (ClientRow.demotes s) =
      stays (ap (λ (z : Core). z.held) s.core) (ap (λ (z : Core). z.lineage.stream) s.core) (ap (λ (o : OutsState). o.appended) s.outs_are) (ap (λ (o : OutsState). o.replaced) s.outs_are)
  client_step l u given fresh (ClientRow.begins s) =
      stays (ap (λ (z : Core). z.held) s.core) (ap (λ (z : Core). z.lineage.stream) s.core) (ap (λ (o : OutsState). o.appended) s.outs_are) (ap (λ (o : OutsState). o.replaced) s.outs_are)

  -- what waited is done as one group
  executed : (l : LinkId) (t : Transaction) (u : List ℕ) (given : Given) → Executes a l t u given b outs → DoesToFile a.core b.core outs.appended outs.replaced
  executed l t u given s =
      let all = sound_all (frame_of a) (not a.core.master) given t.queued [] a.core.held s.held s.replies s.effects s.does in
      DoesToFile.grows (record {
        groups = as_group s.effects;
        good = good_as_group s.effects all.join (good_effects s.effects a.core.held s.held all.leads all.short);
        applied = as_group_applied s.effects a.core.held s.held all.leads ∙ ap (λ (z : Core). Some z.held) (sym s.core);
        stream = subst (λ z. HasStreamed a.core.lineage.stream z b.core.lineage.stream) (sym (as_group_texts s.effects)) (inl (ap (λ (z : Core). z.lineage.stream) s.core));
        filed = ap (λ (o : OutsState). o.appended) s.outs_are ∙ (sym (as_group_texts s.effects) ∙ ap group_texts (sym (group_kept s.effects all.join)));
      }) (ap (λ (o : OutsState). o.replaced) s.outs_are)

  within_step : (l : LinkId) (t : Transaction) (u : List ℕ) (given : Given) → WithinRow a l t u given b outs → DoesToFile a.core b.core outs.appended outs.replaced
  within_step l t u given (WithinRow.stands s) =
      stays (ap (λ (z : Core). z.held) s.core) (ap (λ (z : Core). z.lineage.stream) s.core) (ap (λ (o : OutsState). o.appended) s.outs_are) (ap (λ (o : OutsState). o.replaced) s.outs_are)
  within_step l t u given (WithinRow.passes s) =
      stays (ap (λ (z : Core). z.held) s.core) (ap (λ (z : Core). z.lineage.stream) s.core) (ap (λ (o : OutsState). o.appended) s.outs_are) (ap (λ (o : OutsState). o.replaced) s.outs_are)
  within_step l t u given (WithinRow.drops s) =
      stays (ap (λ (z : Core). z.held) s.core) (ap (λ (z : Core). z.lineage.stream) s.core) (ap (λ (o : OutsState). o.appended) s.outs_are) (ap (λ (o : OutsState). o.replaced) s.outs_are)
  within_step l t u given (WithinRow.executes s) = executed l t u given s
  within_step l t u given (WithinRow.closes s) =
      stays (ap (λ (z : Core). z.held) s.core) (ap (λ (z : Core). z.lineage.stream) s.core) (ap (λ (o : OutsState). o.appended) s.outs_are) (ap (λ (o : OutsState). o.replaced) s.outs_are)

pub client_files : ClientStepsFile
client_files a b l u given fresh outs r = client_step a b outs l u given fresh r

pub within_files : WithinStepsFile
within_files a b l t u given outs r = within_step a b outs l t u given r

-- ---- at a replica's end, and where nothing whole is there
pub replica_keeps : ReplicaStepsKeep
replica_keeps a b l u outs (ReplicaRow.notes s) = core_kept a.core b.core outs.appended outs.replaced s.core (ap (λ (o : OutsState). o.appended) s.outs_are) (ap (λ (o : OutsState). o.replaced) s.outs_are)
replica_keeps a b l u outs (ReplicaRow.parts s) = core_kept a.core b.core outs.appended outs.replaced s.core (ap (λ (o : OutsState). o.appended) s.outs_are) (ap (λ (o : OutsState). o.replaced) s.outs_are)

pub idle_keeps : IdleStepsKeep
idle_keeps a b u s = core_kept a.core b.core [] None (ap (λ (z : NodeState). z.core) s.same) refl refl
