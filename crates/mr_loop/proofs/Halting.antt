-- That the loop knows of each SHUTDOWN.
use Rattle.std.proofs.Common.{◌≡◌, List, [], ◌∷◌, Bool, true, false, ◌||◌, Option, None, Some, refl, ap, ◌∙◌}
use Rattle.mr_file.specs.declared.sync_mode.SyncMode.{SyncMode}
use Rattle.mr_node_output.specs.Outs.{OutsState, outs_of}
use Rattle.mr_loop.specs.declared.fault.LoopFault.{LoopFault}
use Rattle.mr_loop.specs.Stage.{Stage, LoopState}
use Rattle.mr_loop.specs.Causes.{Act, Calls, at_dial, at_step, at_tick}
use Rattle.mr_loop.specs.Rows.{Event, fault_of, Happens, Run, acts, appends, breaks, closes, fails, finds_none, hears_end, idles, is_deaf, is_refused, joins, loses, misses, misses_dial, misses_tick, settles, spills, stops, takes, tears, turns_away, waits, wakes, writes}
use Rattle.mr_loop.specs.Counting.{halts_by, halts_in, KnowsShutdown}
use Rattle.mr_loop.proofs.Carried.{carried_halts, outs_halt}

pub no_fault : {why : LoopFault} → ◌≡◌ {A = Option LoopFault} (Some why) None → ⊥
no_fault e = cc

regrouped : (x y b : Bool) → (y || (x || b)) ≡ ((x || y) || b)
regrouped true true b = refl
regrouped true false b = refl
regrouped false true b = refl
regrouped false false b = refl

called : (act : Act) (s m : Stage) (outs : OutsState) → Calls act s m outs → m.own.halted ≡ s.own.halted
called (at_step socket link given fresh news) s m outs c = ap (λ (z : Stage). z.own.halted) c.same
called (at_tick given) s m outs c = ap (λ (z : Stage). z.own.halted) c.same
called (at_dial socket link) s m outs c = c.halted

module _ (tells : Bool) (mode : SyncMode) where
  kept : (e : Event) (s t : Stage) → fault_of e ≡ None → Happens tells mode s e t → t.own.halted ≡ (halts_by e || s.own.halted)
  kept (wakes now) s t goes_on h = ap (λ (z : Stage). z.own.halted) h.is
  kept waits s t goes_on h = ap (λ (z : Stage). z.own.halted) h.is
  kept (joins socket link) s t goes_on h = h.halted
  kept turns_away s t goes_on h = ap (λ (z : LoopState). z.halted) h.own
  kept (takes socket bytes) s t goes_on h = ap (λ (z : LoopState). z.halted) h.own
  kept (finds_none socket) s t goes_on h = ap (λ (z : LoopState). z.halted) h.own
  kept (hears_end socket link) s t goes_on h = ap (λ (z : LoopState). z.halted) h.own
  kept (loses socket) s t goes_on h = h.dropped.halted
  kept (misses socket) s t goes_on h = h.dropped.halted
  kept (is_refused socket link given fresh) s t goes_on h = h.dropped.halted
  kept (is_deaf socket link) s t goes_on h = h.dropped.halted
  kept (idles socket link given fresh) s t goes_on h = ap (λ (z : Stage). z.own.halted) h.same
  kept (acts act outs) s t goes_on h = carried_halts (outs_of outs) h.called t h.carried ∙ (ap (λ b. b || h.called.own.halted) (outs_halt outs) ∙ ap (λ b. outs.halts || b) (called act s h.called outs h.calls))
  kept (spills act outs) s t goes_on h = absurd (no_fault goes_on)
  kept (tears act outs) s t goes_on h = absurd (no_fault goes_on)
  kept (writes socket bytes) s t goes_on h = ap (λ (z : LoopState). z.halted) h.own
  kept (breaks socket) s t goes_on h = h.dropped.halted
  kept (closes socket) s t goes_on h = h.dropped.halted
  kept (appends texts) s t goes_on h = ap (λ (z : LoopState). z.halted) h.own
  kept fails s t goes_on h = absurd (no_fault goes_on)
  kept (misses_tick given) s t goes_on h = ap (λ (z : Stage). z.own.halted) h.is
  kept misses_dial s t goes_on h = ap (λ (z : LoopState). z.halted) h.own
  kept (settles hurries) s t goes_on h = ap (λ (z : Stage). z.own.halted) h.is
  kept (stops stop) s t goes_on h = absurd (no_fault goes_on)

  known : (es : List Event) (s t : Stage) → Run tells mode s es t → t.own.halted ≡ (halts_in es || s.own.halted)
  known [] s t run = ap (λ (z : Stage). z.own.halted) run
  known (e ∷ es) s t run = known es run.0 t run.3 ∙ (ap (λ b. halts_in es || b) (kept e s run.0 run.1 run.2) ∙ regrouped (halts_by e) (halts_in es) s.own.halted)

pub knows_shutdown : KnowsShutdown
knows_shutdown tells mode s t es run = known tells mode es s t run
