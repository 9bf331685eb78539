-- That the file is kept, event by event, and what a fault leaves of it.
use Rattle.std.proofs.Common.{◌≡◌, ◌++◌, ◌≤◌, ◌⊎◌, inl, inr, ℕ, zero, suc, List, [], ◌∷◌, Bool, true, Option, None, Some, Result, Ok, Err, take, drop, length, take_all, append-nil, refl, sym, ap, subst, ◌∙◌, arith}
use Rattle.std.proofs.lemmas.List.{take-append-drop}
use Rattle.std.specs.FinMap.{empty}
use Rattle.std.proofs.lemmas.Option.{same_Some, none-some}
use Rattle.mr_links.specs.declared.link_id.LinkId.{LinkId}
use Rattle.mr_keyspace.specs.Dataset.{Dataset}
use Rattle.mr_data.specs.declared.given.Given.{Given}
use Rattle.mr_source.specs.Drawn.{DrawnState}
use Rattle.mr_groups.specs.Folding.{LeadsByGroups, MakesByGroups}
use Rattle.mr_groups.proofs.Runs.{leads_nowhere}
use Rattle.mr_groups.proofs.Going.{leads_further, makes_further}
use Rattle.mr_groups.proofs.Singles.{makes_by_singles}
use Rattle.mr_file.specs.declared.sync_mode.SyncMode.{SyncMode}
use Rattle.mr_replication.specs.State.{name_of}
use Rattle.mr_node_output.specs.Outs.{OutState, OutsState, outs_of, replace, replaced_outs}
use Rattle.mr_node_spec.specs.State.{Core, NodeState}
use Rattle.mr_node_spec.specs.Growing.{rebuilt}
use Rattle.mr_node.specs.Calls.{Agreeing}
use Rattle.mr_node.specs.Steps.{Steps}
use Rattle.mr_node.specs.declared.fault.NodeFault.{NodeFault}
use Rattle.mr_node.specs.declared.fault.NodeFault.TheVariants as refusal
use Rattle.mr_node.specs.declared.step.Step.{Step}
use Rattle.mr_node.specs.declared.step.Step.TheVariants as step
use Rattle.law_files.specs.Filing.{DoesToFile, Files}
use Rattle.law_files.proofs.Filing.{grows_leads, kept_stay, read_whole}
use Rattle.law_files.proofs.Clients.{client_files, idle_keeps, replica_keeps, within_files}
use Rattle.law_files.proofs.Masters.{lacks_keep, master_files, waits_keep}
use Rattle.law_files.proofs.Times.{ticks_file}
use Rattle.law_files.proofs.Links.{dials_keep}
use Rattle.mr_loop.specs.declared.fault.LoopFault.{LoopFault}
use Rattle.mr_loop.specs.declared.fault.LoopFault.TheVariants as fault
use Rattle.mr_loop.specs.declared.lacking.Asked.TheVariants as asked
use Rattle.mr_loop.specs.Lacking.{told_with}
use Rattle.mr_loop.specs.Stage.{Stage, losing}
use Rattle.mr_loop.specs.Carrying.{Carried, Spilled, Torn}
use Rattle.mr_loop.specs.Causes.{Act, Calls, Dropped, TurnsOff, at_dial, at_step, at_tick, ended_at}
use Rattle.mr_loop.specs.Rows.{Event, behind_refusal, fault_of, Happens, IsAppended, Run, acts, appends, breaks, closes, fails, finds_none, hears_end, idles, is_deaf, is_refused, joins, loses, misses, misses_dial, misses_tick, settles, spills, stops, takes, tears, turns_away, waits, wakes, writes}
use Rattle.mr_loop.specs.Outcomes.{Broke, Fails, Serves, TurnsOn}
use Rattle.mr_loop.proofs.Carried.{carried_core}
use Rattle.mr_loop.proofs.Halting.{no_fault}
use Rattle.mr_loop.proofs.Sending.{some_at, batch_of}
use Rattle.mr_loop.proofs.Taking.{done_closed}
use Rattle.mr_loop.proofs.Outs.{memory_closed}
use Rattle.law_servers.specs.Keeping.{FaultsTear, IsKept, IsTorn, KeptFilesAreWhole, TurnsKeep, TurnsLeaveWhole, WholeFilesAreKept}
use Rattle.law_servers.proofs.Carrying.{by_all, by_outs, carried_has, cut, Has, of_all, old_or_these, ReplaceBy, Written}

-- ---- where nothing waits
pub whole_kept : WholeFilesAreKept
whole_kept s none w =
    let held : Dataset = s.node.core.held in record {
      file = w.file;
      told = w.told;
      filed = held;
      made = subst (λ z. MakesByGroups z held) (take_all (length w.file) w.file (omega arith)) w.loads.made;
      waiting = subst (λ (z : List ℕ). LeadsByGroups z held held) (sym none) (leads_nowhere held);
    }

pub kept_whole : KeptFilesAreWhole
kept_whole s none k =
    let held : Dataset = s.node.core.held in
    let rest : LeadsByGroups [] k.filed held = subst (λ (z : List ℕ). LeadsByGroups z k.filed held) none k.waiting in
    let made : MakesByGroups k.file held = subst (λ (z : List ℕ). MakesByGroups z held) (append-nil k.file) (makes_further k.file [] k.filed held k.made rest) in
    record { file = k.file; told = k.told; loads = read_whole k.file held made }

-- ---- what the node does
held_of : {c d : Core} → d ≡ c → d.held ≡ c.held
held_of e = ap (λ (c : Core). c.held) e

ended_core : (link : Option LinkId) (a : NodeState) → (ended_at link a).core ≡ a.core
ended_core None a = refl
ended_core (Some l) a = refl

turned_core : (a b : NodeState) → TurnsOff a b → b.core ≡ a.core
turned_core a b (TurnsOff.stays e) = ap (λ (z : NodeState). z.core) e
turned_core a b (TurnsOff.opens_and_closes mid link o e) = ap (λ (z : NodeState). z.core) e ∙ ap (λ (z : NodeState). z.core) o.node
turned_core a b (TurnsOff.dials_and_closes mid link outs d sound e) = ap (λ (z : NodeState). z.core) e ∙ ap (λ (z : NodeState). z.core) d.node

idle_closed : ◌≡◌ {A = Result Step NodeFault} (Ok step.Idle) (Ok step.Closed) → ⊥
idle_closed e = cc

module _ (a b : NodeState) (l : LinkId) (given : Given) (fresh : List ℕ) (u : List ℕ) (up : a.core.up ≡ true) where
  idled : Agreeing a l u → Steps a l given fresh b (Ok step.Idle) → b.core.held ≡ a.core.held
  idled (Agreeing.client g) row = (idle_keeps a b u (row.at_client u (record { up = up; agrees = g }))).held
  idled (Agreeing.waiting t g) row = (idle_keeps a b u (row.at_waiting t u (record { up = up; agrees = g }))).held
  idled (Agreeing.replica g) row = (idle_keeps a b u (row.at_replica u (record { up = up; agrees = g }))).held
  idled (Agreeing.master g) row = (waits_keep a b l u g (row.at_master up (ap name_of g.found))).held
  idled (Agreeing.shut is none) row = absurd (idle_closed (row.at_shut up is).0)

  refused : Agreeing a l u → Steps a l given fresh b (Err refusal.Memory) → b.core.held ≡ a.core.held
  refused (Agreeing.client g) row = ap (λ (z : NodeState). z.core.held) (row.at_client u (record { up = up; agrees = g })).1
  refused (Agreeing.waiting t g) row = ap (λ (z : NodeState). z.core.held) (row.at_waiting t u (record { up = up; agrees = g })).1
  refused (Agreeing.replica g) row = ap (λ (z : NodeState). z.core.held) (row.at_replica u (record { up = up; agrees = g })).1
  refused (Agreeing.master g) row = (lacks_keep a b l u g (row.at_master up (ap name_of g.found))).held
  refused (Agreeing.shut is none) row = absurd (memory_closed (row.at_shut up is).0)

  filed : (outs : OutsState) → Agreeing a l u → Steps a l given fresh b (Ok (step.Done outs)) → Files a b outs
  filed outs (Agreeing.client g) row = client_files a b l u given fresh outs (row.at_client u (record { up = up; agrees = g }))
  filed outs (Agreeing.waiting t g) row = within_files a b l t u given outs (row.at_waiting t u (record { up = up; agrees = g }))
  filed outs (Agreeing.replica g) row = (kept_stay a b outs [] (replica_keeps a b l u outs (row.at_replica u (record { up = up; agrees = g })))).0
  filed outs (Agreeing.master g) row = let r = row.at_master up (ap name_of g.found) in master_files a b l u r.0 outs g r.2
  filed outs (Agreeing.shut is none) row = absurd (done_closed outs (row.at_shut up is).0)

-- what a call does to the file
called_files : (act : Act) (s m : Stage) (outs : OutsState) → Calls act s m outs → Files s.node m.node outs
called_files (at_step socket link given fresh news) s m outs h = let i = h.stepped.input.unread in filed s.node m.node link given fresh i.bytes i.up outs i.agree h.stepped.row
called_files (at_tick given) s m outs h = ticks_file s.node m.node given.now outs h.row
called_files (at_dial socket link) s m outs h = (kept_stay s.node m.node outs [] (dials_keep s.node m.node link outs h.dials)).0

-- .. which it doesn't do itself
called_has : (act : Act) (s m : Stage) (outs : OutsState) → Calls act s m outs → (k : IsKept s) → Has m (record { file = k.file; batch = s.own.batch })
called_has (at_step socket link given fresh news) s m outs h k = record { told = ap (λ (z : Stage). z.told) h.same ∙ k.told; batch = ap (λ (z : Stage). z.own.batch) h.same }
called_has (at_tick given) s m outs h k = record { told = ap (λ (z : Stage). z.told) h.same ∙ k.told; batch = ap (λ (z : Stage). z.own.batch) h.same }
called_has (at_dial socket link) s m outs h k = record { told = h.file.0 ∙ k.told; batch = h.batch }

-- what the file is replaced by makes the dataset
replaced_makes : (a b : NodeState) (outs : OutsState) (file : List ℕ) → Files a b outs → outs.replaced ≡ Some file → MakesByGroups file b.core.held
replaced_makes a b outs file (DoesToFile.grows g none) e = absurd (none-some file (sym none ∙ e))
replaced_makes a b outs file (DoesToFile.replaces none whole again) e =
    subst (λ (z : List ℕ). MakesByGroups z b.core.held) (same_Some (rebuilt b.core.held) file (sym whole ∙ e)) (makes_by_singles (rebuilt b.core.held) b.core.held again)

-- ---- what happens to the file
stay : (s t : Stage) → t.told ≡ s.told → t.own.batch ≡ s.own.batch → t.node.core.held ≡ s.node.core.held → IsKept s → IsKept t
stay s t told batch held k = record {
  file = k.file;
  told = told ∙ k.told;
  filed = k.filed;
  made = k.made;
  waiting = subst (λ (m : Dataset). LeadsByGroups t.own.batch k.filed m) (sym held) (subst (λ (z : List ℕ). LeadsByGroups z k.filed s.node.core.held) (sym batch) k.waiting);
}

dropped : (socket : LinkId) (link : Option LinkId) (s t : Stage) → Dropped socket link s t → IsKept s → IsKept t
dropped socket link s t d k = stay s t d.file.0 d.batch (ap (λ (z : NodeState). z.core.held) d.node ∙ held_of (ended_core link s.node)) k

node_of : {a b : NodeState} → b ≡ a → b.core.held ≡ a.core.held
node_of e = ap (λ (z : NodeState). z.core.held) e

module _ (act : Act) (outs : OutsState) (s m : Stage) (calls : Calls act s m outs) (k : IsKept s) where
  abbrev before : Written
  before = record { file = k.file; batch = s.own.batch }

  acted : (t : Stage) → Carried (outs_of outs) m t → IsKept t
  acted t carried = by (called_files act s m outs calls)
    where
      h : Has t (by_outs (outs_of outs) before)
      h = carried_has (outs_of outs) m t before carried (called_has act s m outs calls k)

      held : t.node.core.held ≡ m.node.core.held
      held = held_of (carried_core (outs_of outs) m t carried)

      now : (o : Option (List ℕ)) → outs.replaced ≡ o → by_outs (outs_of outs) before ≡ by_outs (replaced_outs o) (record before { batch = before.batch ++ outs.appended })
      now o e = by_all outs before ∙ ap (λ r. by_outs (replaced_outs r) (record before { batch = before.batch ++ outs.appended })) e

      by : Files s.node m.node outs → IsKept t
      by (DoesToFile.grows g none) =
          let is = now None none in
          let on = leads_further s.own.batch outs.appended k.filed s.node.core.held m.node.core.held k.waiting (grows_leads s.node.core m.node.core outs.appended g) in record {
            file = k.file;
            told = h.told ∙ ap (λ (w : Written). Some w.file) is;
            filed = k.filed;
            made = k.made;
            waiting = subst (λ (d : Dataset). LeadsByGroups t.own.batch k.filed d) (sym held) (subst (λ (z : List ℕ). LeadsByGroups z k.filed m.node.core.held) (sym (h.batch ∙ ap (λ (w : Written). w.batch) is)) on);
          }
      by (DoesToFile.replaces none whole again) =
          let is = now (Some (rebuilt m.node.core.held)) whole in record {
            file = rebuilt m.node.core.held;
            told = h.told ∙ ap (λ (w : Written). Some w.file) is;
            filed = m.node.core.held;
            made = makes_by_singles (rebuilt m.node.core.held) m.node.core.held again;
            waiting = subst (λ (d : Dataset). LeadsByGroups t.own.batch m.node.core.held d) (sym held)
                (subst (λ (z : List ℕ). LeadsByGroups z m.node.core.held m.node.core.held) (sym (h.batch ∙ ap (λ (w : Written). w.batch) is)) (leads_nowhere m.node.core.held));
          }

  -- behind some of the outs the file makes a dataset
  partly : (done rest : List OutState) (t : Stage) → outs_of outs ≡ done ++ rest → Carried done m t → (file : List ℕ) × (d : Dataset) × (t.told ≡ Some file) × MakesByGroups file d
  partly done rest t are carried = by (old_or_these outs.replaced done before (cut outs.replaced done rest (subst (ReplaceBy outs.replaced) are (of_all outs))).0)
    where
      h : Has t (by_outs done before)
      h = carried_has done m t before carried (called_has act s m outs calls k)

      by : ((by_outs done before).file ≡ k.file) ⊎ (outs.replaced ≡ Some (by_outs done before).file) → (file : List ℕ) × (d : Dataset) × (t.told ≡ Some file) × MakesByGroups file d
      by (inl same) = (k.file, k.filed, h.told ∙ ap Some same, k.made)
      by (inr these) = ((by_outs done before).file, m.node.core.held, h.told, replaced_makes s.node m.node outs (by_outs done before).file (called_files act s m outs calls) these)

appended : (mode : SyncMode) (texts : List ℕ) (s t : Stage) → IsAppended mode texts s t → IsKept s → IsKept t
appended mode texts s t a k =
    let all : take (length texts) texts ≡ texts = take_all (length texts) texts (omega arith) in
    let now = some_at (λ z. t.told ≡ Some (z ++ take (length texts) texts)) s.told k.file k.told a.written in
    let held : t.node.core.held ≡ s.node.core.held = node_of a.node in
    let rest : LeadsByGroups texts k.filed s.node.core.held = subst (λ (z : List ℕ). LeadsByGroups z k.filed s.node.core.held) (sym a.texts_are) k.waiting in record {
      file = k.file ++ texts;
      told = now ∙ ap (λ (z : List ℕ). Some (k.file ++ z)) all;
      filed = s.node.core.held;
      made = makes_further k.file texts k.filed s.node.core.held k.made rest;
      waiting = subst (λ (d : Dataset). LeadsByGroups t.own.batch s.node.core.held d) (sym held) (subst (λ (z : List ℕ). LeadsByGroups z s.node.core.held s.node.core.held) (sym (batch_of a.own)) (leads_nowhere s.node.core.held));
    }

module _ (tells : Bool) (mode : SyncMode) where
  kept : (e : Event) (s t : Stage) → fault_of e ≡ None → Happens tells mode s e t → IsKept s → IsKept t
  kept (wakes now) s t goes_on h k = stay s t (ap (λ (z : Stage). z.told) h.is) (ap (λ (z : Stage). z.own.batch) h.is) (ap (λ (z : Stage). z.node.core.held) h.is) k
  kept waits s t goes_on h k = stay s t (ap (λ (z : Stage). z.told) h.is) (ap (λ (z : Stage). z.own.batch) h.is) (ap (λ (z : Stage). z.node.core.held) h.is) k
  kept (joins j l) s t goes_on h k = stay s t h.file.0 h.batch (ap (λ (z : NodeState). z.core.held) h.node.node) k
  kept turns_away s t goes_on h k = stay s t h.file.0 (batch_of h.own) (held_of (turned_core s.node t.node h.node)) k
  kept (takes j bytes) s t goes_on h k = stay s t h.file.0 (batch_of h.own) (held_of h.node.feeds.core) k
  kept (finds_none j) s t goes_on h k = stay s t h.file.0 (batch_of h.own) (node_of h.node) k
  kept (hears_end j x) s t goes_on h k = stay s t h.file.0 (batch_of h.own) (ap (λ (z : NodeState). z.core.held) h.node) k
  kept (loses j) s t goes_on h k = dropped j (Some h.link) (record s { wire = h.wire; failed = h.failed }) t h.dropped (stay s (record s { wire = h.wire; failed = h.failed }) refl refl refl k)
  kept (misses j) s t goes_on h k =
      let own = losing (asked.Bytes (told_with h.unread h.count)) s.own in
      dropped j (Some h.link) (record s { wire = h.wire; failed = h.failed; own = own }) t h.dropped (stay s (record s { wire = h.wire; failed = h.failed; own = own }) refl refl refl k)
  kept (is_refused j l given fresh) s t goes_on h k =
      let i = h.refused.input.unread in
      dropped j (Some l) (behind_refusal s l h.node h.unread) t h.dropped (stay s (behind_refusal s l h.node h.unread) refl refl (refused s.node h.node l given fresh i.bytes i.up i.agree h.refused.row) k)
  kept (is_deaf j l) s t goes_on h k = dropped j (Some l) s t h.dropped k
  kept (idles j l given fresh) s t goes_on h k =
      let i = h.node.input.unread in
      stay s t (ap (λ (z : Stage). z.told) h.same) (ap (λ (z : Stage). z.own.batch) h.same) (idled s.node t.node l given fresh i.bytes i.up i.agree h.node.row) k
  kept (acts act outs) s t goes_on h k = acted act outs s h.called h.calls k t h.carried
  kept (spills act outs) s t goes_on h k = absurd (no_fault goes_on)
  kept (tears act outs) s t goes_on h k = absurd (no_fault goes_on)
  kept (writes j bytes) s t goes_on h k = stay s t h.file.0 (batch_of h.own) (node_of h.node) k
  kept (breaks j) s t goes_on h k = dropped j h.link (record s { wire = h.wire; failed = h.failed }) t h.dropped (stay s (record s { wire = h.wire; failed = h.failed }) refl refl refl k)
  kept (closes j) s t goes_on h k = dropped j None s t h.dropped k
  kept (appends texts) s t goes_on h k = appended mode texts s t h k
  kept fails s t goes_on h k = absurd (no_fault goes_on)
  kept (misses_tick given) s t goes_on h k = stay s t (ap (λ (z : Stage). z.told) h.is) (ap (λ (z : Stage). z.own.batch) h.is) (ap (λ (z : Stage). z.node.core.held) h.is) k
  kept misses_dial s t goes_on h k = stay s t h.file.0 (batch_of h.own) (held_of (turned_core s.node t.node h.node)) k
  kept (settles hurries) s t goes_on h k = stay s t (ap (λ (z : Stage). z.told) h.is) (ap (λ (z : Stage). z.own.batch) h.is) (ap (λ (z : Stage). z.node.core.held) h.is) k
  kept (stops stop) s t goes_on h k = absurd (no_fault goes_on)

  run_kept : (es : List Event) (s t : Stage) → Run tells mode s es t → IsKept s → IsKept t
  run_kept [] s t run k = subst IsKept (sym run) k
  run_kept (e ∷ es) s t run k = run_kept es run.0 t run.3 (kept e s run.0 run.1 run.2 k)

pub turns_keep : TurnsKeep
turns_keep tells mode s t w k = run_kept tells mode w.events s t w.run k

turns_on_keep : (tells : Bool) (mode : SyncMode) (count : ℕ) (drawn after : DrawnState) (s t : Stage) → TurnsOn tells mode count drawn after s t → IsKept s → IsKept t
turns_on_keep tells mode zero drawn after s t same k = subst IsKept (sym same.0) k
turns_on_keep tells mode (suc count) drawn after s t on k = turns_keep tells mode on.0 t on.3.tells_of.went (turns_on_keep tells mode count drawn on.1 s on.0 on.2 k)

served : (tells : Bool) (mode : SyncMode) (turns : ℕ) (drawn after : DrawnState) (s t : Stage) → Serves tells mode turns (Ok tt) drawn after s t → IsKept s → IsKept t
served tells mode turns drawn after s t h k =
    let before : IsKept h.before = turns_on_keep tells mode h.count drawn h.between s h.before h.went k in
    elim h.last [
      | inl all ↦ subst IsKept (sym all.1) before
      | inr halts ↦ turns_keep tells mode h.before t halts.1.tells_of.went before
    ]

pub turns_leave_whole : TurnsLeaveWhole
turns_leave_whole tells mode s t none after w = (
  λ unused drawn behind turn h. kept_whole t after (turns_keep tells mode s t h.went (whole_kept s none w)),
  λ turns drawn behind h. kept_whole t after (served tells mode turns drawn behind s t h (whole_kept s none w)),
)

-- ---- behind a fault
whole_torn : (t : Stage) (file : List ℕ) (d : Dataset) → t.told ≡ Some file → MakesByGroups file d → IsTorn t
whole_torn t file d told made = record { front = file; torn = []; told = told ∙ ap Some (sym (append-nil file)); filed = d; made = made; more = []; next = d; leads = leads_nowhere d }

module _ (act : Act) (outs : OutsState) (s m t : Stage) (calls : Calls act s m outs) (k : IsKept s) where
  spilled : Spilled (outs_of outs) m t → IsTorn t
  spilled p = let q = partly act outs s m calls k p.done (p.last ∷ p.rest) p.before p.are p.carried in whole_torn t q.0 q.1 (ap (λ (z : Stage). z.told) p.lacks ∙ q.2) q.3

  torn : Torn (outs_of outs) m t → IsTorn t
  torn p =
      let q = partly act outs s m calls k p.done (replace p.bytes ∷ p.rest) p.before p.are p.carried in
      let these : outs.replaced ≡ Some p.bytes = (cut outs.replaced p.done (replace p.bytes ∷ p.rest) (subst (ReplaceBy outs.replaced) p.are (of_all outs))).1.0 in
      elim (some_at (λ xs. (t.told ≡ Some xs) ⊎ (t.told ≡ Some p.bytes)) p.before.told q.0 q.2 p.written) [
        | inl old ↦ whole_torn t q.0 q.1 old q.3
        | inr new ↦ whole_torn t p.bytes m.node.core.held new (replaced_makes s.node m.node outs p.bytes (called_files act s m outs calls) these)
      ]

module _ (tells : Bool) (mode : SyncMode) (why : LoopFault) where
  torn_by : (e : Event) (s t : Stage) → fault_of e ≡ Some why → Happens tells mode s e t → IsKept s → IsTorn t
  torn_by (wakes now) s t is h k = absurd (none-some why is)
  torn_by waits s t is h k = absurd (none-some why is)
  torn_by (joins j l) s t is h k = absurd (none-some why is)
  torn_by turns_away s t is h k = absurd (none-some why is)
  torn_by (takes j bytes) s t is h k = absurd (none-some why is)
  torn_by (finds_none j) s t is h k = absurd (none-some why is)
  torn_by (hears_end j x) s t is h k = absurd (none-some why is)
  torn_by (loses j) s t is h k = absurd (none-some why is)
  torn_by (misses j) s t is h k = absurd (none-some why is)
  torn_by (is_refused j l given fresh) s t is h k = absurd (none-some why is)
  torn_by (is_deaf j l) s t is h k = absurd (none-some why is)
  torn_by (idles j l given fresh) s t is h k = absurd (none-some why is)
  torn_by (acts act outs) s t is h k = absurd (none-some why is)
  torn_by (spills act outs) s t is h k = spilled act outs s h.called t h.calls k h.spilled
  torn_by (tears act outs) s t is h k = torn act outs s h.called t h.calls k h.torn
  torn_by (writes j bytes) s t is h k = absurd (none-some why is)
  torn_by (breaks j) s t is h k = absurd (none-some why is)
  torn_by (closes j) s t is h k = absurd (none-some why is)
  torn_by (appends texts) s t is h k = absurd (none-some why is)
  torn_by fails s t is h k =
      let p = some_at (λ xs. (n : ℕ) × ((n ≤ length s.own.batch) × (t.told ≡ Some (xs ++ take n s.own.batch)))) s.told k.file k.told h.written in record {
        front = k.file;
        torn = take p.0 s.own.batch;
        told = p.1.1;
        filed = k.filed;
        made = k.made;
        more = drop p.0 s.own.batch;
        next = s.node.core.held;
        leads = subst (λ (z : List ℕ). LeadsByGroups z k.filed s.node.core.held) (sym (take-append-drop p.0 s.own.batch)) k.waiting;
      }
  torn_by (misses_tick given) s t is h k = absurd (none-some why is)
  torn_by misses_dial s t is h k = absurd (none-some why is)
  torn_by (settles hurries) s t is h k = absurd (none-some why is)
  torn_by (stops stop) s t is h k = whole_torn t k.file k.filed (h.file.0 ∙ k.told) k.made

  broke_torn : (unused : List (List ℕ)) (drawn after : DrawnState) (s t : Stage) → IsKept s → Broke tells mode unused drawn after why s t → IsTorn t
  broke_torn unused drawn after s t k b = torn_by b.last b.before t b.told b.happens (turns_keep tells mode s b.before b.went k)

torn_same : (s t : Stage) → t.told ≡ s.told → IsTorn s → IsTorn t
torn_same s t same i = record { front = i.front; torn = i.torn; told = same ∙ i.told; filed = i.filed; made = i.made; more = i.more; next = i.next; leads = i.leads }

fault_tears : (tells : Bool) (mode : SyncMode) (why : LoopFault) (unused : List (List ℕ)) (drawn after : DrawnState) (s t : Stage) → IsKept s → Fails tells mode unused drawn after why s t → IsTorn t
fault_tears tells mode fault.Listener unused drawn after s t k c = whole_torn t k.file k.filed (ap (λ (z : Stage). z.told) c.is ∙ k.told) k.made
fault_tears tells mode fault.File unused drawn after s t k b = torn_same b.behind t (ap (λ (z : Stage). z.told) b.stopped.is) (broke_torn tells mode fault.File unused drawn after s b.behind k b.broke)
fault_tears tells mode fault.Stopped unused drawn after s t k b = torn_same b.behind t (ap (λ (z : Stage). z.told) b.stopped.is) (broke_torn tells mode fault.Stopped unused drawn after s b.behind k b.broke)

pub faults_tear : FaultsTear
faults_tear tells mode why s t k = (
  λ unused drawn after. fault_tears tells mode why unused drawn after s t k,
  λ turns drawn after h. fault_tears tells mode why [] h.between after h.before t (turns_on_keep tells mode h.count drawn h.between s h.before h.went k) h.last.1,
)
