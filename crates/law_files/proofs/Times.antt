-- What a tick does to a node's file.
use Rattle.std.proofs.Common.{◌≡◌, ◌-◌, inl, ℕ, ℤ, List, [], ◌∷◌, ◌++◌, true, false, Option, None, Some, All, refl, sym, ap, subst, ◌∙◌, arith}
use Rattle.std.specs.Prelude.{map, take, nat_le, if◌then◌else◌}
use Rattle.std.proofs.lemmas.List.Elements.{All-nil, All-cons, All-head, All-tail, All-append}
use Rattle.mr_map.specs.Bytes.{Bytes}
use Rattle.mr_effect.specs.Spelling.{texts, size, IsShort}
use Rattle.mr_effect.specs.declared.effect.Effect.{Effect}
use Rattle.mr_effect.specs.declared.effect.Effect.TheVariants as effect
use Rattle.mr_effect.proofs.Texts.{short_effect}
use Rattle.mr_data.specs.Due.{due, deletions, most_deleted, within}
use Rattle.mr_node_output.specs.Outs.{OutsState}
use Rattle.mr_node_spec.specs.State.{Core, NodeState}
use Rattle.mr_node_spec.specs.TimeRows.{TickRow, Beats, Deletes, Rests, room_in, doomed}
use Rattle.law_minired.proofs.GoodGroups.{good_effects}
use Rattle.law_files.specs.Filing.{but_beats, DoesToFile}
use Rattle.law_files.specs.Steps.{TicksFile}
use Rattle.law_files.proofs.Filing.{effects_grow, kept_does}

-- what is true of all of some effects is true of those for which there is room
all_within : (P : Effect → Type 0) (es : List Effect) (room : ℕ) → All P es → All P (within room es)
all_within P [] room h = All-nil P
all_within P (e ∷ es) room h =
    let rest = all_within P es (room - size e) (All-tail P e es h) in
    elim (nat_le (size e) room) as (λ b. All P (if b then e ∷ within (room - size e) es else [])) [
      | true ↦ All-cons P e (within (room - size e) es) (All-head P e es h) rest
      | false ↦ All-nil P
    ]

-- one DEL for each
abbrev dels : List (Bytes × ℤ) → List Effect
dels ds = map (λ (d : Bytes × ℤ). effect.Del d.0) ds

dels_short : (ds : List (Bytes × ℤ)) → All IsShort (dels ds)
dels_short [] = All-nil IsShort
dels_short (d ∷ ds) = All-cons IsShort (effect.Del d.0) (dels ds) (short_effect (effect.Del d.0) (omega arith)) (dels_short ds)

-- a heartbeat behind them is left out, and nothing else
within_beat : (ds : List (Bytes × ℤ)) (room : ℕ) → but_beats (within room (dels ds ++ effect.Ping ∷ [])) ≡ within room (dels ds)
within_beat [] room = elim (nat_le (size effect.Ping) room) as (λ b. but_beats (if b then effect.Ping ∷ [] else []) ≡ []) [
  | true ↦ refl
  | false ↦ refl
]
within_beat (d ∷ ds) room =
    let rest = within_beat ds (room - size (effect.Del d.0)) in
    elim (nat_le (size (effect.Del d.0)) room) as (λ b. but_beats (if b then effect.Del d.0 ∷ within (room - size (effect.Del d.0)) (dels ds ++ effect.Ping ∷ []) else [])
    ≡ (if b then effect.Del d.0 ∷ within (room - size (effect.Del d.0)) (dels ds) else [])) [
      | true ↦ ap (λ z. effect.Del d.0 ∷ z) rest
      | false ↦ refl
    ]

within_dels : (ds : List (Bytes × ℤ)) (room : ℕ) → but_beats (within room (dels ds)) ≡ within room (dels ds)
within_dels [] room = refl
within_dels (d ∷ ds) room =
    let rest = within_dels ds (room - size (effect.Del d.0)) in
    elim (nat_le (size (effect.Del d.0)) room) as (λ b. but_beats (if b then effect.Del d.0 ∷ within (room - size (effect.Del d.0)) (dels ds) else [])
    ≡ (if b then effect.Del d.0 ∷ within (room - size (effect.Del d.0)) (dels ds) else [])) [
      | true ↦ ap (λ z. effect.Del d.0 ∷ z) rest
      | false ↦ refl
    ]

-- ---- what a master's tick writes
record Told (a : NodeState) (now : ℤ) (effects : List Effect) : Type 0 where
  short : All IsShort effects
  filed : but_beats effects ≡ deletions now a.core.held (room_in a.core)

module _ (a : NodeState) (now : ℤ) (effects : List Effect) where
  abbrev ds : List (Bytes × ℤ)
  ds = take most_deleted (due now a.core.held)

  -- the deletions
  deleted : effects ≡ deletions now a.core.held (room_in a.core) → Told a now effects
  deleted is = subst (Told a now) (sym is) (record { short = all_within IsShort (dels ds) (room_in a.core) (dels_short ds); filed = within_dels ds (room_in a.core) })

  -- .. and a heartbeat
  beaten : effects ≡ within (room_in a.core) (doomed now a.core.held ++ effect.Ping ∷ []) → Told a now effects
  beaten is = subst (Told a now) (sym is) (record {
    short = all_within IsShort (dels ds ++ effect.Ping ∷ []) (room_in a.core)
        (All-append IsShort (dels ds) (effect.Ping ∷ []) (dels_short ds) (All-cons IsShort effect.Ping [] (short_effect effect.Ping (omega arith)) (All-nil IsShort)));
    filed = within_beat ds (room_in a.core);
  })

  told : (mark : Option ℤ) → Beats a now effects mark → Told a now effects
  told mark (Beats.cut over is m) = deleted is
  told mark (Beats.marks all none is m) = deleted (is ∙ sym all)
  told mark (Beats.beats all some passed is m) = beaten is
  told mark (Beats.waits all waiting is m) = deleted (is ∙ sym all)
  told mark (Beats.alone all none passed is m) = deleted (is ∙ sym all)

-- ---- a tick
module _ (a b : NodeState) (now : ℤ) (outs : OutsState) where
  beats : Deletes a now b outs → DoesToFile a.core b.core outs.appended outs.replaced
  beats r =
      let t = told a now r.effects r.mark r.beats in
      DoesToFile.grows (effects_grow a.core b.core outs.appended r.effects
      (good_effects r.effects a.core.held r.held r.applied t.short)
      (r.applied ∙ ap (λ (z : Core). Some z.held) (sym r.core))
      (inl (ap (λ (z : Core). z.lineage.stream) r.core))
      (ap (λ (o : OutsState). o.appended) r.outs_are ∙ ap texts (sym t.filed))) (ap (λ (o : OutsState). o.replaced) r.outs_are)

  rests : (mark : Option ℤ) → Rests a now mark outs → (outs.appended ≡ []) × (outs.replaced ≡ None)
  rests mark (Rests.marks none m e) = (ap (λ (o : OutsState). o.appended) e, ap (λ (o : OutsState). o.replaced) e)
  rests mark (Rests.acknowledges l st passed m e) = (ap (λ (o : OutsState). o.appended) e, ap (λ (o : OutsState). o.replaced) e)
  rests mark (Rests.waits waiting m e) = (ap (λ (o : OutsState). o.appended) e, ap (λ (o : OutsState). o.replaced) e)
  rests mark (Rests.apart none passed m e) = (ap (λ (o : OutsState). o.appended) e, ap (λ (o : OutsState). o.replaced) e)

  ticks : TickRow a now b outs → DoesToFile a.core b.core outs.appended outs.replaced
  ticks (TickRow.deletes up r) = beats r
  ticks (TickRow.rests up alone mark r is) =
      let q = rests mark r in
      kept_does a.core b.core outs.appended outs.replaced (record { held = ap (λ (z : NodeState). z.core.held) is; stream = ap (λ (z : NodeState). z.core.lineage.stream) is; none = q.0; whole = q.1 })

pub ticks_file : TicksFile
ticks_file a b now outs r = ticks a b now outs r
