-- What steps at the link to a node's master do to its file.
use Rattle.std.proofs.Common.{◌≡◌, inl, ℕ, List, [], ◌∷◌, ◌++◌, true, false, None, Some, Ok, Err, Result, refl, sym, ap, subst, ◌∙◌, append-nil, arith}
use Rattle.std.specs.Prelude.{bytes_eq, if◌then◌else◌}
use Rattle.std.specs.Option.{option_and_then}
use Rattle.std.proofs.lemmas.List.Elements.{All-nil, All-cons}
use Rattle.std.proofs.lemmas.Bool.{false_from_ne_true}
use Rattle.mr_bytes.proofs.Numbers.{same_bytes, equal_bytes}
use Rattle.mr_links.specs.declared.link_id.LinkId.{LinkId}
use Rattle.mr_effect.specs.declared.effect.Effect.{Effect}
use Rattle.mr_effect.specs.declared.effect.Effect.TheVariants as effect
use Rattle.mr_effect.proofs.Texts.{short_effect}
use Rattle.mr_keyspace.specs.Dataset.{Dataset}
use Rattle.mr_repl.specs.Lineage.{LineageState, continued, renamed}
use Rattle.mr_groups.specs.Effects.{Makes}
use Rattle.mr_groups.specs.Groups.{IsGoodGroup, group_text, group_texts}
use Rattle.mr_groups.specs.Folding.{apply_groups}
use Rattle.mr_groups.proofs.Apart.{one_group}
use Rattle.mr_groups.proofs.Singles.{one_good}
use Rattle.mr_follower.specs.State.{FollowState, Agrees}
use Rattle.mr_replication.specs.State.{CourseState, grows}
use Rattle.mr_replication.specs.Rows.{UpstreamRow, Listens}
use Rattle.mr_replication.specs.declared.upstream.UpstreamStep.{UpstreamStep}
use Rattle.mr_replication.specs.declared.upstream.UpstreamStep.TheVariants as outcome
use Rattle.mr_replication.specs.declared.upstream.UpstreamFault.{UpstreamFault}
use Rattle.mr_replication.specs.declared.upstream.UpstreamFault.TheVariants as fault
use Rattle.mr_node_output.specs.Outs.{OutsState}
use Rattle.mr_node_spec.specs.State.{NodeState, MasterAgrees, course_of}
use Rattle.mr_node_spec.specs.UpstreamRows as row
use Rattle.mr_node_spec.specs.UpstreamRows.{beat, outs_behind}
use Rattle.law_refinement.proofs.Places.{some_is}
use Rattle.law_files.specs.Filing.{is_beat_group, groups_but_beats, DoesToFile}
use Rattle.law_files.specs.Steps.{MasterStepsFile, MasterWaitsKeep, MasterLacksKeep}
use Rattle.law_files.proofs.Beats.{beat_group_is}
use Rattle.law_files.proofs.Filing.{kept_does}

-- ---- what is filed of a group's text
good_beat : IsGoodGroup (effect.Ping ∷ [])
good_beat = one_good effect.Ping (record { spelled = refl; fits = refl; short = short_effect effect.Ping (omega arith) })

filed_alone : (g : List Effect) → IsGoodGroup g → row.filed (group_text g) ≡ group_texts (groups_but_beats (g ∷ []))
filed_alone g good = elim (is_beat_group g) as (λ b. is_beat_group g ≡ b → row.filed (group_text g) ≡ group_texts (if b then [] else g ∷ [])) [
  | true ↦ λ is. ap (λ b. if b then [] else group_text g) (ap (λ x. bytes_eq (group_text x) beat) (beat_group_is g is) ∙ equal_bytes beat)
  | false ↦ λ is. ap (λ b. if b then [] else group_text g) (false_from_ne_true (bytes_eq (group_text g) beat) (λ same. other is (beat_alone same))) ∙ sym (append-nil (group_text g))
] refl
  where
    beat_alone : bytes_eq (group_text g) beat ≡ true → g ≡ effect.Ping ∷ []
    beat_alone same = (one_group g (effect.Ping ∷ []) [] [] good good_beat (ap (λ (z : List ℕ). z ++ []) (same_bytes (group_text g) beat same))).0

    other : is_beat_group g ≡ false → g ≡ effect.Ping ∷ [] → ⊥
    other is g_is = let wrong : true ≡ false = ap is_beat_group (sym g_is) ∙ is in cc

-- ---- the outcomes
continued_stream : (id : List ℕ) (a : LineageState) → (continued id a).stream ≡ a.stream
continued_stream id a = elim (bytes_eq a.id id) as (λ b. (if b then a else renamed id a).stream ≡ a.stream) [
  | true ↦ refl
  | false ↦ refl
]

module _ (a b : NodeState) (l : LinkId) (f g : FollowState) (u told : List ℕ) (d : CourseState) (name : LinkId) (outs : OutsState) (same : b.core.lineage ≡ d.lineage) where
  keeps : b.core.held ≡ a.core.held → d.lineage.stream ≡ a.core.lineage.stream → outs.appended ≡ [] → outs.replaced ≡ None → DoesToFile a.core b.core outs.appended outs.replaced
  keeps held stream none whole =
      kept_does a.core b.core outs.appended outs.replaced (record { held = held; stream = ap (λ (z : LineageState). z.stream) same ∙ stream; none = none; whole = whole })

  hears : (step : UpstreamStep) → UpstreamRow (course_of a) a.core.held name f u g (Ok step) d b.core.held told → outs ≡ outs_behind step l told → DoesToFile a.core b.core outs.appended outs.replaced
  hears outcome.Idle r is = keeps r.stays.held (ap (λ (z : CourseState). z.lineage.stream) r.is) (ap (λ (o : OutsState). o.appended) is) (ap (λ (o : OutsState). o.replaced) is)
  hears outcome.Said r is = keeps r.held (ap (λ (z : CourseState). z.lineage.stream) r.is) (ap (λ (o : OutsState). o.appended) is) (ap (λ (o : OutsState). o.replaced) is)
  hears outcome.Announced r is = keeps r.keeps.held (ap (λ (z : CourseState). z.lineage.stream) r.is) (ap (λ (o : OutsState). o.appended) is) (ap (λ (o : OutsState). o.replaced) is)
  hears outcome.Continued r is =
      keeps r.keeps.held (ap (λ (z : CourseState). z.lineage.stream) r.is ∙ continued_stream r.id a.core.lineage) (ap (λ (o : OutsState). o.appended) is) (ap (λ (o : OutsState). o.replaced) is)
  hears outcome.Loaded r is =
      let i = r.installs in
      DoesToFile.replaces (ap (λ (o : OutsState). o.appended) is) (ap (λ (o : OutsState). o.replaced) is ∙ ap Some i.rebuilds) (subst (λ (z : List ℕ). Makes z b.core.held) i.rebuilds i.again)
  hears outcome.Applied r is =
      let h = r.follows in
      let alone : told ≡ group_texts (h.group ∷ []) = h.is_text ∙ sym (append-nil (group_text h.group)) in
      DoesToFile.grows (record {
        groups = h.group ∷ [];
        good = All-cons IsGoodGroup h.group [] h.good (All-nil IsGoodGroup);
        applied = ap (option_and_then (apply_groups [])) h.applied;
        stream = inl (ap (λ (z : LineageState). z.stream) same ∙ (ap (λ (z : CourseState). z.lineage.stream) r.is ∙ ap (λ (z : List ℕ). (grows z (course_of a)).lineage.stream) alone));
        filed = ap (λ (o : OutsState). o.appended) is ∙ (ap row.filed h.is_text ∙ filed_alone h.group h.good);
      }) (ap (λ (o : OutsState). o.replaced) is)
  hears outcome.Left r is = keeps r.keeps.held (ap (λ (z : CourseState). z.lineage.stream) r.is) (ap (λ (o : OutsState). o.appended) is) (ap (λ (o : OutsState). o.replaced) is)
  hears outcome.Spoiled r is = keeps r.keeps.held (ap (λ (z : CourseState). z.lineage.stream) r.is) (ap (λ (o : OutsState). o.appended) is) (ap (λ (o : OutsState). o.replaced) is)

-- ---- a step, with some bytes that agree
one_reader : (p q : LinkId × FollowState) → Some p ≡ Some q → p.1 ≡ q.1
one_reader p q e = ap (λ (z : LinkId × FollowState). z.1) (some_is p q e)

row_of : (a : NodeState) (l : LinkId) (u : List ℕ) (result : Result UpstreamStep UpstreamFault) (d : CourseState) (n : Dataset) (told : List ℕ) → MasterAgrees a l u → (h : Listens (course_of a) a.core.held result d n told)
    → UpstreamRow (course_of a) a.core.held h.name h.follow u h.next result d n told
row_of a l u result d n told agrees h = h.row u (subst (λ z. Agrees z u) (one_reader (l, agrees.reader) (h.name, h.follow) (sym agrees.found ∙ h.found)) agrees.agrees)

pub master_files : MasterStepsFile
master_files a b l u step outs agrees h =
    let r = row_of a l u (Ok step) h.course b.core.held h.told agrees h.listens in
    hears a b l h.listens.follow h.listens.next u h.told h.course h.listens.name outs (ap (λ (z : NodeState). z.core.lineage) h.node) step r h.outs_are

pub waits_keep : MasterWaitsKeep
waits_keep a b l u agrees h =
    let r = row_of a l u (Ok outcome.Idle) h.course b.core.held h.told agrees h.listens in
    record { held = r.stays.held; stream = ap (λ (z : NodeState). z.core.lineage.stream) h.node ∙ ap (λ (z : CourseState). z.lineage.stream) r.is; none = refl; whole = refl }

pub lacks_keep : MasterLacksKeep
lacks_keep a b l u agrees h =
    let r = row_of a l u (Err fault.Memory) h.course b.core.held h.told agrees h.listens in
    record { held = r.stays.held; stream = ap (λ (z : NodeState). z.core.lineage.stream) h.node ∙ ap (λ (z : CourseState). z.lineage.stream) r.is; none = refl; whole = refl }
