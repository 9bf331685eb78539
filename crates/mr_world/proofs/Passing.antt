-- What runs lead through are moments of one run.
use Rattle.std.proofs.Common.{◌≡◌, ◌≤◌, ℕ, List, [], ◌∷◌, ◌++◌, Some, Result, Ok, Err, length, take, refl, sym, ap, subst, ◌∙◌, arith, length-append}
use Rattle.std.specs.Prelude.{slice_get}
use Rattle.law_refinement.specs.State.{WorldState}
use Rattle.law_refinement.proofs.Beginning.{worlds_begin}
use Rattle.law_refinement.specs.Worlds.{IsWorld, no_world}
use Rattle.law_refinement.specs.Runs.{Run, IsMoment, last_of}
use Rattle.law_refinement.proofs.Moments.{no_silent_difference, true_to_history, histories_stay, runs_go_on}
use Rattle.law_refinement.proofs.Level.{caught_up_is_level}
use Rattle.mr_world.specs.declared.event.Event.{Event}
use Rattle.mr_world.specs.declared.refusal.Refusal.{Refusal}
use Rattle.mr_world.specs.Running.{AreMoments, RunCall, TookAll}
use Rattle.mr_world.specs.Promises.{Ran, NodesNeverDiffer, NodesAreTrue, BookGrows, ReplicasAreLevel}
use Rattle.mr_world.proofs.Happened.{happened}
use Rattle.mr_world.proofs.Unchanged.{no_event, stays}

-- the Worlds behind events that were taken are a run
moments_run : (w : WorldState) (es : List Event) (vs : List WorldState) → AreMoments w es vs → Run w vs
moments_run w [] [] a = tt
moments_run w [] (v ∷ vs) a = absurd a
moments_run w (e ∷ es) [] a = absurd a
moments_run w (e ∷ es) (v ∷ vs) a = (happened w v e tt a.0, a.1, moments_run v es vs a.2)

-- What a run of events led to is the last World of a run from where it began.
pub record Passed (w v : WorldState) : Type 0 where
  pub worlds : List WorldState
  pub run : Run w worlds
  pub ends : last_of w worlds ≡ v

passed_none : (w : WorldState) → Passed w w
passed_none w = record { worlds = []; run = tt; ends = refl }

abbrev passed_on : (w u v : WorldState) → Passed w u → Passed u v → Passed w v
passed_on w u v a b =
    let more : Run (last_of w a.worlds) b.worlds = subst (λ z. Run z b.worlds) (sym a.ends) b.run in
    let r = runs_go_on w a.worlds b.worlds a.run more in
    record { worlds = a.worlds ++ b.worlds; run = r.0; ends = r.1 ∙ (ap (λ z. last_of z b.worlds) a.ends ∙ b.ends) }

took : (w : WorldState) (es : List Event) (v : WorldState) → TookAll w es v → Passed w v
took w es v t = record { worlds = t.moments; run = moments_run w es t.moments t.are; ends = t.ends }

run_world : (w : WorldState) (vs : List WorldState) → IsWorld w → Run w vs → IsWorld (last_of w vs)
run_world w [] is run = is
run_world w (v ∷ vs) is run = run_world v vs run.1 run.2

passed_world : (w v : WorldState) → IsWorld w → Passed w v → IsWorld v
passed_world w v is p = subst IsWorld p.ends (run_world w p.worlds is p.run)

ran_one : (w : WorldState) (es : List Event) (v : WorldState) (r : Result (Unit {0}) (ℕ × Refusal)) → IsWorld w → RunCall w es v r → Passed w v
ran_one w es v (Ok done) is t = took w es v t
ran_one w es v (Err p) is t =
    let before = took w (take p.0 es) t.before t.took in
    let last = no_event t.before v (passed_world w t.before is before) (stays t.before v t.event p.1 t.refused) in
    passed_on w t.before v before (record { worlds = v ∷ []; run = (last.0, last.1, tt); ends = refl })

ran : (w : WorldState) (runs : List (List Event)) (v : WorldState) → IsWorld w → Ran w runs v → Passed w v
ran w [] v is r = subst (λ z. Passed w z) (sym r) (passed_none w)
ran w (es ∷ more) v is r = let first = ran_one w es r.0 r.1 is r.2 in passed_on w r.0 v first (ran r.0 more v (passed_world w r.0 is first) r.3)

-- ---- the last World of a run is one of its moments
last_at : (w : WorldState) (vs : List WorldState) → slice_get (w ∷ vs) (length vs) ≡ Some (last_of w vs)
last_at w [] = refl
last_at w (v ∷ vs) = last_at v vs

front_at : (w : WorldState) (us vs : List WorldState) → slice_get (w ∷ (us ++ vs)) (length us) ≡ Some (last_of w us)
front_at w [] vs = refl
front_at w (u ∷ us) vs = front_at u us vs

-- where it began with nothing, and goes on
pub record Two (u v : WorldState) : Type 0 where
  pub worlds : List WorldState
  pub first : ℕ
  pub second : ℕ
  pub earlier : IsMoment worlds first u
  pub later : IsMoment worlds second v
  pub order : first ≤ second

two : (u v : WorldState) → Passed no_world u → Passed u v → Two u v
two u v a b =
    let c = passed_on no_world u v a b in
    record {
      worlds = c.worlds;
      first = length a.worlds;
      second = length c.worlds;
      earlier = record { run = c.run; there = front_at no_world a.worlds b.worlds ∙ ap (λ z. Some z) a.ends };
      later = record { run = c.run; there = last_at no_world c.worlds ∙ ap (λ z. Some z) c.ends };
      order = let e = length-append a.worlds b.worlds in omega (arith, e);
    }

one : (runs : List (List Event)) (v : WorldState) → Ran no_world runs v → Two v v
one runs v p = two v v (ran no_world runs v worlds_begin.world p) (passed_none v)

two_runs : (first later : List (List Event)) (u v : WorldState) → Ran no_world first u → Ran u later v → Two u v
two_runs first later u v p q = let a = ran no_world first u worlds_begin.world p in two u v a (ran u later v (passed_world no_world u worlds_begin.world a) q)

pub nodes_never_differ : NodesNeverDiffer
nodes_never_differ first later u v p q n m id offset x y s t =
    let z = two_runs first later u v p q in no_silent_difference z.worlds z.first z.second u v z.earlier z.later n m id offset x y s t

pub nodes_are_true : NodesAreTrue
nodes_are_true runs v p n id offset m s = let z = one runs v p in true_to_history z.worlds z.second v z.later n id offset m s

pub book_grows : BookGrows
book_grows first later u v p q = let z = two_runs first later u v p q in histories_stay z.worlds z.first z.second u v z.earlier z.later z.order

pub replicas_are_level : ReplicasAreLevel
replicas_are_level runs v p l replica master c = let z = one runs v p in caught_up_is_level z.worlds z.second v z.later l replica master c
