-- What runs lead through has files that go on.
use Rattle.std.proofs.Common.{zero, suc, ◌≡◌, ◌⊎◌, inl, inr, ℕ, List, [], ◌∷◌, ◌++◌, Bool, true, false, Some, Result, Ok, Err, length, take, drop, refl, sym, ap, subst, ◌∙◌, arith}
use Rattle.std.specs.Prelude.{slice_get}
use Rattle.law_refinement.specs.State.{Slot, WorldState}
use Rattle.law_refinement.specs.Worlds.{IsWorld, no_world}
use Rattle.law_refinement.specs.Runs.{last_of}
use Rattle.law_refinement.proofs.Beginning.{worlds_begin}
use Rattle.law_refinement.proofs.Places.{is_within}
use Rattle.law_files.specs.Worlds.{FileBegins, FileGoesOn, FilesGoOn, GoOn, HasGrown}
use Rattle.law_files.proofs.Worlds.{files_are_true, grown_on, same_grown}
use Rattle.mr_links.specs.declared.side.Side.TheVariants as side
use Rattle.mr_world.specs.declared.event.Event.{Event}
use Rattle.mr_world.specs.declared.event.Event.TheVariants as event
use Rattle.mr_world.specs.declared.refusal.Refusal.{Refusal}
use Rattle.mr_world.specs.Running.{AreMoments, EventCall, RunCall, TookAll, by_opener, is_between_nodes}
use Rattle.mr_world.specs.Promises.{Ran, FilesAreDatasets, IsFiled, OnlyGrows, moments_of, run_moments}
use Rattle.mr_world.proofs.Filed.{no_file, start_files, client_files, command_files, take_files, leave_files, break_files, deliver_files, listen_files, drop_files, tick_files}
use Rattle.mr_world.proofs.FiledSteps.{step_files, follow_files, lacked_files, restart_files}
use Rattle.mr_world.proofs.DialFiles.{accept_files, connect_files, dial_files}
use Rattle.mr_world.proofs.Unchanged.{Stays, no_event, stays}

-- ---- one event
module _ (w v : WorldState) where
  by_end : (b : Bool) (of_node of_client : Type 0) → (of_node → FilesGoOn w v) → (of_client → FilesGoOn w v) → by_opener b of_node of_client → FilesGoOn w v
  by_end true of_node of_client f g c = f c
  by_end false of_node of_client f g c = g c

  filed : (e : Event) → IsWorld w → EventCall w e v (Ok tt) → FilesGoOn w v
  filed (event.Start id config) world c = start_files w v id config.replica config.port config.backlog c
  filed (event.Client n) world c = client_files w v n c
  filed (event.Command l bytes) world c = command_files w v l bytes.items c
  filed (event.Deliver l side.Server count) world c = deliver_files w v l count c
  filed (event.Deliver l side.Opener count) world c = by_end (is_between_nodes (slice_get w.links l)) _ _ (listen_files w v l count) (take_files w v l count) c
  filed (event.Step l side.Server given fresh) world c = step_files w v l given fresh c
  filed (event.Step l side.Opener given fresh) world c = follow_files w v l fresh world c
  filed (event.Tick n given) world c = tick_files w v n given.now c
  filed (event.Break l side.Server) world c = break_files w v l c
  filed (event.Break l side.Opener) world c = by_end (is_between_nodes (slice_get w.links l)) _ _ (drop_files w v l) (leave_files w v l) c
  filed (event.Dial n m) world c = dial_files w n m v c
  filed (event.Connect n) world c = connect_files w n v c
  filed (event.Accept l m) world c = accept_files w l m v c
  filed (event.Restart n kept id config) world c = restart_files w v n kept.items id config.port config.backlog c

  -- .. one that was refused
  stayed : IsWorld w → Stays w v → FilesGoOn w v
  stayed world (Stays.same is) = no_file w v w is refl
  stayed world (Stays.lacked l h) = lacked_files w v l world h

-- ---- events one after another, and runs
-- These Worlds lead from the one to the other.
record Leads (w v : WorldState) (worlds : List WorldState) : Type 0 where
  go : GoOn w worlds
  ends : last_of w worlds ≡ v
  world : IsWorld v

moments_go : (w : WorldState) (es : List Event) (vs : List WorldState) → IsWorld w → AreMoments w es vs → GoOn w vs × IsWorld (last_of w vs)
moments_go w [] [] world a = (tt, world)
moments_go w [] (v ∷ vs) world a = absurd a
moments_go w (e ∷ es) [] world a = absurd a
moments_go w (e ∷ es) (v ∷ vs) world a = let rest = moments_go v es vs a.1 a.2 in ((filed w v e world a.0, rest.0), rest.1)

go_join : (w : WorldState) (us vs : List WorldState) → GoOn w us → GoOn (last_of w us) vs → GoOn w (us ++ vs) × (last_of w (us ++ vs) ≡ last_of (last_of w us) vs)
go_join w [] vs a b = (b, refl)
go_join w (u ∷ us) vs a b = let r = go_join u us vs a.1 b in ((a.0, r.0), r.1)

leads_on : (w u v : WorldState) (us vs : List WorldState) → Leads w u us → Leads u v vs → Leads w v (us ++ vs)
leads_on w u v us vs a b =
    let r = go_join w us vs a.go (subst (λ z. GoOn z vs) (sym a.ends) b.go) in
    record { go = r.0; ends = r.1 ∙ (ap (λ z. last_of z vs) a.ends ∙ b.ends); world = b.world }

took : (w : WorldState) (es : List Event) (v : WorldState) → IsWorld w → (t : TookAll w es v) → Leads w v t.moments
took w es v world t = let m = moments_go w es t.moments world t.are in record { go = m.0; ends = t.ends; world = subst IsWorld t.ends m.1 }

ran_one : (w : WorldState) (es : List Event) (v : WorldState) (r : Result (Unit {0}) (ℕ × Refusal)) → IsWorld w → (t : RunCall w es v r) → Leads w v (run_moments w es v r t)
ran_one w es v (Ok done) world t = took w es v world t
ran_one w es v (Err p) world t =
    let before = took w (take p.0 es) t.before world t.took in
    let last = stays t.before v t.event p.1 t.refused in
    leads_on w t.before v t.took.moments (v ∷ []) before (record { go = (stayed t.before v before.world last, tt); ends = refl; world = (no_event t.before v before.world last).1 })

ran : (w : WorldState) (runs : List (List Event)) (v : WorldState) → IsWorld w → (r : Ran w runs v) → Leads w v (moments_of w runs v r)
ran w [] v world r = record { go = tt; ends = sym r; world = subst IsWorld (sym r) world }
ran w (es ∷ more) v world r =
    let first = ran_one w es r.0 r.1 world r.2 in
    leads_on w r.0 v (run_moments w es r.0 r.1 r.2) (moments_of r.0 more v r.3) first (ran r.0 more v first.world r.3)

last_at : (w : WorldState) (vs : List WorldState) → slice_get (w ∷ vs) (length vs) ≡ Some (last_of w vs)
last_at w [] = refl
last_at w (v ∷ vs) = last_at v vs

-- ---- since when a file has only grown
-- from this World on
record Throughout (w : WorldState) (vs : List WorldState) (n : ℕ) (t : Slot) : Type 0 where
  slot : Slot
  there : slice_get w.slots n ≡ Some slot
  up : slot.node.core.up ≡ true
  grown : HasGrown slot t
  later : OnlyGrows n slot vs t

-- .. or from one of the others on, at which it began
record Begun (vs : List WorldState) (n : ℕ) (t : Slot) : Type 0 where
  place : ℕ
  world : WorldState
  moment : slice_get vs place ≡ Some world
  slot : Slot
  there : slice_get world.slots n ≡ Some slot
  begins : FileBegins slot
  grown : HasGrown slot t
  later : OnlyGrows n slot (drop (suc place) vs) t

one_more : (w v : WorldState) (vs : List WorldState) (n : ℕ) (t : Slot) → FilesGoOn w v → Throughout v vs n t ⊎ Begun vs n t → Throughout w (v ∷ vs) n t ⊎ Begun (v ∷ vs) n t
one_more w v vs n t goes (inl h) = go (goes n h.slot h.there h.up)
  where
    go : FileGoesOn w.slots n h.slot → Throughout w (v ∷ vs) n t ⊎ Begun (v ∷ vs) n t
    go (FileGoesOn.grows s at up g) = inl (record { slot = s; there = at; up = up; grown = grown_on s h.slot t g h.grown; later = (h.slot, h.there, h.up, g, h.later) })
    go (FileGoesOn.begins b) = inr (record { place = zero; world = v; moment = refl; slot = h.slot; there = h.there; begins = b; grown = h.grown; later = h.later })
one_more w v vs n t goes (inr h) = inr (record { place = suc h.place; world = h.world; moment = h.moment; slot = h.slot; there = h.there; begins = h.begins; grown = h.grown; later = h.later })

since : (w : WorldState) (vs : List WorldState) → GoOn w vs → (n : ℕ) (t : Slot) → slice_get (last_of w vs).slots n ≡ Some t → t.node.core.up ≡ true → Throughout w vs n t ⊎ Begun vs n t
since w [] go n t at up = inl (record { slot = t; there = at; up = up; grown = same_grown t; later = refl })
since w (v ∷ vs) go n t at up = one_more w v vs n t go.0 (since v vs go.1 n t at up)

none_there : {P : Type 0} (n : ℕ) (s : Slot) → slice_get no_world.slots n ≡ Some s → P
none_there n s e = absurd (cc)

file_there : (vs : List WorldState) (v : WorldState) (n : ℕ) (t : Slot) → GoOn no_world vs → last_of no_world vs ≡ v → slice_get v.slots n ≡ Some t → t.node.core.up ≡ true → IsFiled vs n t
file_there vs v n t go ends there up = known (since no_world vs go n t (ap (λ (z : WorldState). slice_get z.slots n) ends ∙ there) up)
  where
    known : Throughout no_world vs n t ⊎ Begun vs n t → IsFiled vs n t
    known (inl h) = none_there n h.slot h.there
    known (inr h) = let within = is_within vs h.place h.world h.moment in record {
      made = (files_are_true vs (length vs) v go (last_at no_world vs ∙ ap (λ z. Some z) ends) n t there up).0;
      go = go;
      since = record { since = suc h.place; before = omega (arith, within); world = h.world; moment = h.moment; slot = h.slot; there = h.there; begins = h.begins; grown = h.grown };
      later = h.later;
    }

pub files_are_datasets : FilesAreDatasets
files_are_datasets runs v r =
    let a = ran no_world runs v worlds_begin.world r in
    (a.ends, λ n t there up. file_there (moments_of no_world runs v r) v n t a.go a.ends there up)
