-- One event more that was taken.
use Rattle.std.proofs.Common.{zero, suc, ◌≡◌, ◌+◌, ◌≤◌, ℕ, length, arith, List, [], ◌∷◌, ◌++◌, Some, Ok, take, drop, refl, sym, subst}
use Rattle.std.specs.Prelude.{slice_get}
use Rattle.std.proofs.lemmas.List.{take_all}
use Rattle.law_refinement.specs.State.{WorldState}
use Rattle.law_refinement.specs.Worlds.{IsWorld}
use Rattle.law_refinement.specs.Runs.{last_of}
use Rattle.mr_world.specs.declared.event.Event.{Event}
use Rattle.mr_world.specs.Running.{AreMoments, EventCall, TookAll}
use Rattle.mr_world.specs.Promises.{MomentsAreRuns}

moments_more : (w : WorldState) (es : List Event) (i : ℕ) (vs : List WorldState) (e : Event) (u : WorldState) → slice_get es i ≡ Some e → AreMoments w (take i es) vs → EventCall (last_of w vs) e u (Ok tt) → IsWorld u
    → AreMoments w (take (suc i) es) (vs ++ u ∷ []) × (last_of w (vs ++ u ∷ []) ≡ u)
moments_more w [] i vs e u at a call is = absurd (cc)
moments_more w (x ∷ es) zero [] e u at a call is = let same : x ≡ e = cc in ((subst (λ z. EventCall w z u (Ok tt)) (sym same) call, is, tt), refl)
moments_more w (x ∷ es) zero (v ∷ vs) e u at a call is = absurd a
moments_more w (x ∷ es) (suc i) [] e u at a call is = absurd a
moments_more w (x ∷ es) (suc i) (v ∷ vs) e u at a call is = let r = moments_more v es i vs e u at a.2 call is in ((a.0, a.1, r.0), r.1)

pub took_none : (w : WorldState) (es : List Event) → TookAll w (take 0 es) w
took_none w es = record { moments = []; are = tt; ends = refl }

pub took_more : (w : WorldState) (es : List Event) (i : ℕ) (v : WorldState) (e : Event) (u : WorldState) → slice_get es i ≡ Some e → TookAll w (take i es) v → EventCall v e u (Ok tt) → IsWorld u → TookAll w (take (i + 1) es) u
took_more w es i v e u at t call is =
    let r = moments_more w es i t.moments e u at t.are (subst (λ z. EventCall z e u (Ok tt)) (sym t.ends) call) is in
    subst (λ n. TookAll w (take n es) u) (one_more i) (record { moments = t.moments ++ u ∷ []; are = r.0; ends = r.1 })
  where
    one_more : (i : ℕ) → suc i ≡ i + 1
    one_more i = omega (arith)

pub took_all : (w : WorldState) (es : List Event) (i : ℕ) (v : WorldState) → length es ≤ i → TookAll w (take i es) v → TookAll w es v
took_all w es i v far t = subst (λ (xs : List Event). TookAll w xs v) (take_all i es far) t

-- ---- a moment within a run
cut_moments : (w : WorldState) (es : List Event) (vs : List WorldState) (k : ℕ) (u : WorldState) → AreMoments w es vs → slice_get (w ∷ vs) k ≡ Some u → TookAll w (take k es) u × TookAll u (drop k es) (last_of w vs)
cut_moments w es vs zero u a at = let same : w ≡ u = cc in
    (subst (λ z. TookAll w [] z) same (took_none w es), subst (λ z. TookAll z es (last_of w vs)) same (record { moments = vs; are = a; ends = refl }))
cut_moments w [] [] (suc k) u a at = absurd (cc)
cut_moments w [] (v ∷ vs) (suc k) u a at = absurd a
cut_moments w (e ∷ es) [] (suc k) u a at = absurd a
cut_moments w (e ∷ es) (v ∷ vs) (suc k) u a at =
    let r = cut_moments v es vs k u a.2 at in (record { moments = v ∷ r.0.moments; are = (a.0, a.1, r.0.are); ends = r.0.ends }, r.1)

pub moments_are_runs : MomentsAreRuns
moments_are_runs w es v t k u at = let r = cut_moments w es t.moments k u t.are at in (r.0, subst (TookAll u (drop k es)) t.ends r.1)
