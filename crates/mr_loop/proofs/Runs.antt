-- Events one after another, what is counted in them, and what a fault leaves.
use Rattle.std.proofs.Common.{◌≡◌, ◌<◌, ◌≤◌, ◌≤ℤ◌, ◌⊎◌, inl, inr, Bool, true, false, ◌||◌, if◌then◌else◌, List, [], ◌∷◌, ◌++◌, ℕ, ℤ, zero, suc, ◌+◌, arith, None, Some, Result, Ok, Err, append_assoc, refl, sym, ap, subst, ◌∙◌}
use Rattle.mr_links.specs.declared.link_id.LinkId.{LinkId}
use Rattle.mr_file.specs.declared.sync_mode.SyncMode.{SyncMode}
use Rattle.mr_source.specs.Drawn.{DrawnState, with_id, with_moment}
use Rattle.mr_loop.specs.declared.fault.LoopFault.{LoopFault}
use Rattle.mr_loop.specs.declared.fault.LoopFault.TheVariants as fault
use Rattle.mr_loop.specs.declared.told.Turn.{Turn}
use Rattle.mr_loop.specs.declared.followed.Followed.{Followed}
use Rattle.mr_loop.specs.Stage.{Stage}
use Rattle.mr_loop.specs.Rows.{Event, fault_of, Happens, HasWaited, IsToldToStop, Run, Went, spills, takes, tears, fails, stops, wakes}
use Rattle.mr_loop.specs.Giving.{IsGiven, Supplies, moments_by}
use Rattle.mr_loop.specs.Lacking.{lacked_since}
use Rattle.mr_loop.specs.Counting.{MeetsLimit, accepts_by, by_accepts, by_reads, by_ticks, misses_by, most_ticks, calls_by, pieces_by, uses_by, ids_by, deaf_by, news_by, ticks_by, counted, followed_by, heard_if, most_accepted, most_pieces, raised, sum_in, CountsOn, CountsStill, MomentState, Reaches, ReachesAny, TellsOf}
use Rattle.mr_loop.specs.Outcomes.{BreaksDown, Broke, Does, DoesUpTo, DoesUpToAny, Ends, Fails, HasBroken, HasTurned, Serves, Turns, TurnsOn}
use Rattle.mr_loop.proofs.Waiting.{itself}
use Rattle.mr_loop.proofs.Supplying.{Tells, supplies_first, supplies_none, supplies_on, supplies_one, tells_none}

pub run_append : (tells : Bool) (mode : SyncMode) (xs ys : List Event) (a b c : Stage) → Run tells mode a xs b → Run tells mode b ys c → Run tells mode a (xs ++ ys) c
run_append tells mode [] ys a b c r q = subst (λ x. Run tells mode x ys c) r q
run_append tells mode (x ∷ xs) ys a b c r q = (r.0, r.1, r.2, run_append tells mode xs ys r.0 b c r.3 q)

abbrev pub went_further : {tells : Bool} {mode : SyncMode} {a b c : Stage} → Went tells mode a b → Went tells mode b c → Went tells mode a c
went_further {tells} {mode} {a} {b} {c} x y = record { events = x.events ++ y.events; run = run_append tells mode x.events y.events a b c x.run y.run }

abbrev pub went_nowhere : {tells : Bool} {mode : SyncMode} (s : Stage) → Went tells mode s s
went_nowhere s = record { events = []; run = refl }

-- ---- what is counted

pub sum_append : (f : Event → ℕ) (xs ys : List Event) → sum_in f (xs ++ ys) ≡ sum_in f xs + sum_in f ys
sum_append f [] ys = omega arith
sum_append f (x ∷ xs) ys = omega (arith, sum_append f xs ys)

-- .. of one event
pub sum_one : (f : Event → ℕ) (e : Event) → sum_in f (e ∷ []) ≡ f e
sum_one f e = omega arith

-- a count that is raised twice
raised_sum : (a b n : ℕ) → raised (a + b) n ≡ raised b (raised a n)
raised_sum zero b n = let none : 0 + b ≡ b = omega arith in ap (λ k. raised k n) none
raised_sum (suc a) b n = let more : suc a + b ≡ suc (a + b) = omega arith in ap (λ k. raised k n) more ∙ raised_sum a b (counted (n + 1))

pub raised_on : (f : Event → ℕ) (xs ys : List Event) (old mid new : ℕ) → mid ≡ raised (sum_in f xs) old → new ≡ raised (sum_in f ys) mid → new ≡ raised (sum_in f (xs ++ ys)) old
raised_on f xs ys old mid new first second = second ∙ (ap (raised (sum_in f ys)) first ∙ (sym (raised_sum (sum_in f xs) (sum_in f ys) old) ∙ ap (λ k. raised k old) (sym (sum_append f xs ys))))

pub raised_once : (f : Event → ℕ) (e : Event) (old new : ℕ) → new ≡ raised (f e) old → new ≡ raised (sum_in f (e ∷ [])) old
raised_once f e old new is = is ∙ ap (λ k. raised k old) (sym (sum_one f e))

-- what came of following a master, behind the ones and then the others
followed_append : (xs ys : List Event) (f : Followed) → followed_by (xs ++ ys) f ≡ followed_by ys (followed_by xs f)
followed_append [] ys f = refl
followed_append (x ∷ xs) ys f = followed_append xs ys (heard_if (news_by x) f)

pub followed_on : (xs ys : List Event) (old mid new : Followed) → mid ≡ followed_by xs old → new ≡ followed_by ys mid → new ≡ followed_by (xs ++ ys) old
followed_on xs ys old mid new first second = second ∙ (ap (followed_by ys) first ∙ sym (followed_append xs ys old))

abbrev pub counts_on : {tells : Bool} {mode : SyncMode} {old mid new : MomentState} {a b c : Stage} → CountsOn tells mode old mid a b → CountsOn tells mode mid new b c → CountsOn tells mode old new a c
counts_on {tells} {mode} {old} {mid} {new} x y = record {
  went = went_further x.went y.went;
  given = supplies_on x.went.events y.went.events x.given y.given;
  steps_are = raised_on calls_by x.went.events y.went.events old.turn.steps mid.turn.steps new.turn.steps x.steps_are y.steps_are;
  done_are = raised_on uses_by x.went.events y.went.events old.turn.done mid.turn.done new.turn.done x.done_are y.done_are;
  used_are = raised_on ids_by x.went.events y.went.events old.turn.used mid.turn.used new.turn.used x.used_are y.used_are;
  deaf_are = raised_on deaf_by x.went.events y.went.events old.turn.deaf mid.turn.deaf new.turn.deaf x.deaf_are y.deaf_are;
  followed_are = followed_on x.went.events y.went.events old.turn.followed mid.turn.followed new.turn.followed x.followed_are y.followed_are;
}

abbrev pub still_on : {tells : Bool} {mode : SyncMode} {old mid new : MomentState} {a b c : Stage} → CountsStill tells mode old mid a b → CountsStill tells mode mid new b c → CountsStill tells mode old new a c
still_on x y = record {
  counts = counts_on x.counts y.counts;
  no_tick = sum_append ticks_by x.counts.went.events y.counts.went.events ∙ omega (arith, x.no_tick, y.no_tick);
}

-- nothing happens
abbrev pub counts_none : {tells : Bool} {mode : SyncMode} (moment : MomentState) (s : Stage) → CountsOn tells mode moment moment s s
counts_none moment s = record {
  went = went_nowhere s;
  given = supplies_none (moment.fresh ∷ []) moment.drawn;
  steps_are = refl;
  done_are = refl;
  used_are = refl;
  deaf_are = refl;
  followed_are = refl;
}

abbrev pub still_here : {tells : Bool} {mode : SyncMode} (moment : MomentState) (s : Stage) → CountsStill tells mode moment moment s s
still_here moment s = record { counts = counts_none moment s; no_tick = refl }

-- .. as two equations say
pub stays_still : {tells : Bool} {mode : SyncMode} (old new : MomentState) (s t : Stage) → t ≡ s → new ≡ old → CountsStill tells mode old new s t
stays_still {tells} {mode} old new s t same moment = subst (λ x. CountsStill tells mode old new s x) (sym same) (subst (λ x. CountsStill tells mode old x s s) (sym moment) (still_here old s))

-- one event, and the counts behind it
abbrev pub counts_event : {tells : Bool} {mode : SyncMode} {s t : Stage} (e : Event) (old new : MomentState) → fault_of e ≡ None → Happens tells mode s e t
    → Supplies (old.fresh ∷ []) old.drawn (e ∷ []) (new.fresh ∷ []) new.drawn
    → new.turn.steps ≡ raised (calls_by e) old.turn.steps → new.turn.done ≡ raised (uses_by e) old.turn.done → new.turn.used ≡ raised (ids_by e) old.turn.used → new.turn.deaf ≡ raised (deaf_by e) old.turn.deaf
    → new.turn.followed ≡ heard_if (news_by e) old.turn.followed → CountsOn tells mode old new s t
counts_event {tells} {mode} {s} {t} e old new goes_on h given steps done used deaf followed = record {
  went = record { events = e ∷ []; run = (t, goes_on, h, refl) };
  given = given;
  steps_are = raised_once calls_by e old.turn.steps new.turn.steps steps;
  done_are = raised_once uses_by e old.turn.done new.turn.done done;
  used_are = raised_once ids_by e old.turn.used new.turn.used used;
  deaf_are = raised_once deaf_by e old.turn.deaf new.turn.deaf deaf;
  followed_are = followed;
}

-- .. behind which the id that was drawn is left
pub gives_none : (e : Event) (old new : MomentState) → IsGiven (old.fresh ∷ []) e (old.fresh ∷ []) → new.fresh ≡ old.fresh → Tells (moments_by e) old.drawn new.drawn → Supplies (old.fresh ∷ []) old.drawn (e ∷ []) (new.fresh ∷ []) new.drawn
gives_none e old new given fresh told = subst (λ (id : List ℕ). Supplies (old.fresh ∷ []) old.drawn (e ∷ []) (id ∷ []) new.drawn) (sym fresh) (supplies_one e given told)

-- .. in which nothing is given
pub supplies_same : (e : Event) (old new : MomentState) → moments_by e ≡ [] → ((ids : List (List ℕ)) → IsGiven ids e ids) → new.fresh ≡ old.fresh → new.drawn ≡ old.drawn → Supplies (old.fresh ∷ []) old.drawn (e ∷ []) (new.fresh ∷ []) new.drawn
supplies_same e old new no_moment none fresh drawn = gives_none e old new (none (old.fresh ∷ [])) fresh (subst (λ ms. Tells ms old.drawn new.drawn) (sym no_moment) (tells_none drawn))

-- .. that is no tick
abbrev pub still_event : {tells : Bool} {mode : SyncMode} {s t : Stage} (e : Event) (old new : MomentState) → fault_of e ≡ None → ticks_by e ≡ 0 → Happens tells mode s e t
    → Supplies (old.fresh ∷ []) old.drawn (e ∷ []) (new.fresh ∷ []) new.drawn
    → new.turn.steps ≡ raised (calls_by e) old.turn.steps → new.turn.done ≡ raised (uses_by e) old.turn.done → new.turn.used ≡ raised (ids_by e) old.turn.used → new.turn.deaf ≡ raised (deaf_by e) old.turn.deaf
    → new.turn.followed ≡ heard_if (news_by e) old.turn.followed → CountsStill tells mode old new s t
still_event e old new goes_on none h given steps done used deaf followed = record { counts = counts_event e old new goes_on h given steps done used deaf followed; no_tick = sum_one ticks_by e ∙ none }

-- .. of which nothing is counted
abbrev pub still_one : {tells : Bool} {mode : SyncMode} {s t : Stage} (e : Event) (old new : MomentState) → fault_of e ≡ None → ticks_by e ≡ 0 → calls_by e ≡ 0 → uses_by e ≡ 0 → ids_by e ≡ 0 → deaf_by e ≡ 0 → news_by e ≡ None
    → moments_by e ≡ [] → ((ids : List (List ℕ)) → IsGiven ids e ids) → Happens tells mode s e t → new ≡ old → CountsStill tells mode old new s t
still_one e old new goes_on no_tick calls uses ids deaf news no_moment none h same = still_event e old new goes_on no_tick h
    (supplies_same e old new no_moment none (ap (λ (m : MomentState). m.fresh) same) (ap (λ (m : MomentState). m.drawn) same))
    (ap (λ (m : MomentState). m.turn.steps) same ∙ ap (λ k. raised k old.turn.steps) (sym calls))
    (ap (λ (m : MomentState). m.turn.done) same ∙ ap (λ k. raised k old.turn.done) (sym uses))
    (ap (λ (m : MomentState). m.turn.used) same ∙ ap (λ k. raised k old.turn.used) (sym ids))
    (ap (λ (m : MomentState). m.turn.deaf) same ∙ ap (λ k. raised k old.turn.deaf) (sym deaf))
    (ap (λ (m : MomentState). m.turn.followed) same ∙ ap (λ n. heard_if n old.turn.followed) (sym news))

-- the mode of a log stays
pub still_moded : {tells : Bool} {old new : MomentState} {a b : Stage} (m n : SyncMode) → m ≡ n → CountsStill tells m old new a b → CountsStill tells n old new a b
still_moded {tells} {old} {new} {a} {b} m n e x = subst (λ k. CountsStill tells k old new a b) e x

-- ---- limits

no_more : {A : Type 0} → ◌≡◌ {A = Bool} false true → A
no_more e = absurd (let wrong : true ≡ false = sym e in cc)

-- where there is no more
pub reaches_still : {tells : Bool} {mode : SyncMode} {old new : MomentState} {s t : Stage} (f : Event → ℕ) (most : ℕ) → CountsStill tells mode old new s t → Reaches tells mode f most false old new s t
reaches_still f most x = record { still = x; met = λ e. no_more e }

pub reaches_none : {tells : Bool} {mode : SyncMode} {old new : MomentState} {s t : Stage} (f : Event → ℕ) (more : Bool) → CountsStill tells mode old new s t → Reaches tells mode f 0 more old new s t
reaches_none f more x = record { still = x; met = λ e. omega arith }

-- one event, as above
pub reaches_one : {tells : Bool} {mode : SyncMode} {s t : Stage} (f : Event → ℕ) (more : Bool) (e : Event) (old new : MomentState) → fault_of e ≡ None → ticks_by e ≡ 0 → calls_by e ≡ 0 → uses_by e ≡ 0 → ids_by e ≡ 0 → deaf_by e ≡ 0 → news_by e ≡ None
    → moments_by e ≡ [] → ((ids : List (List ℕ)) → IsGiven ids e ids) → Happens tells mode s e t → new ≡ old → 1 ≤ f e → Reaches tells mode f 1 more old new s t
reaches_one f more e old new goes_on no_tick calls uses ids deaf news no_moment none h same one = record { still = still_one e old new goes_on no_tick calls uses ids deaf news no_moment none h same; met = λ is. omega (arith, one, sum_one f e) }

-- and once more
pub reaches_next : {tells : Bool} {mode : SyncMode} {old mid new : MomentState} {a b c : Stage} (f : Event → ℕ) (n : ℕ) (more : Bool) → more ≡ true → Reaches tells mode f n true old mid a b → Reaches tells mode f 1 more mid new b c
    → Reaches tells mode f (n + 1) true old new a c
reaches_next f n more is x y = record { still = still_on x.still y.still; met = λ e. omega (arith, sum_append f x.still.counts.went.events y.still.counts.went.events, x.met refl, y.met is) }

-- what goes on behind changes nothing of it
pub reaches_behind : {tells : Bool} {mode : SyncMode} {old mid new : MomentState} {a b c : Stage} (f : Event → ℕ) (n : ℕ) (more : Bool) → Reaches tells mode f n more old mid a b → CountsStill tells mode mid new b c → Reaches tells mode f n more old new a c
reaches_behind f n more x y = record { still = still_on x.still y; met = λ e. omega (arith, sum_append f x.still.counts.went.events y.counts.went.events, x.met e) }

pub reaches_as : {tells : Bool} {mode : SyncMode} {old new : MomentState} {s t : Stage} (f : Event → ℕ) (m n : ℕ) (more : Bool) → m ≡ n → Reaches tells mode f m more old new s t → Reaches tells mode f n more old new s t
reaches_as {tells} {mode} {old} {new} {s} {t} f m n more e x = subst (λ k. Reaches tells mode f k more old new s t) e x

pub reaches_moded : {tells : Bool} {old new : MomentState} {s t : Stage} {f : Event → ℕ} {most : ℕ} {more : Bool} (m n : SyncMode) → m ≡ n → Reaches tells m f most more old new s t → Reaches tells n f most more old new s t
reaches_moded {tells} {old} {new} {s} {t} {f} {most} {more} m n e x = subst (λ k. Reaches tells k f most more old new s t) e x

pub up_to_broke : {tells : Bool} {mode : SyncMode} {s t : Stage} (f : Event → ℕ) (most : ℕ) (old new : MomentState) (r : Result Bool LoopFault) (why : LoopFault) → r ≡ Err why → HasBroken tells mode why old new s t → DoesUpTo tells mode f most r old new s t
up_to_broke {tells} {mode} {s} {t} f most old new r why e b = subst (λ (z : Result Bool LoopFault). DoesUpTo tells mode f most z old new s t) (sym e) b

-- a piece of a connection is one of its
pub own_piece : (k : LinkId) (bytes : List ℕ) → 1 ≤ pieces_by k (takes k bytes)
own_piece k bytes = let one : pieces_by k (takes k bytes) ≡ 1 = ap (λ b. if b then 1 else 0) (itself k) in omega (arith, one)

-- .. of the pieces of some connection
pub any_still : {tells : Bool} {mode : SyncMode} {old new : MomentState} {s t : Stage} (most : ℕ) → CountsStill tells mode old new s t → ReachesAny tells mode most false old new s t
any_still most x = record { still = x; met = λ e. no_more e }

pub any_of : {tells : Bool} {mode : SyncMode} {old new : MomentState} {s t : Stage} (most : ℕ) (more : Bool) (k : LinkId) → Reaches tells mode (pieces_by k) most more old new s t → ReachesAny tells mode most more old new s t
any_of most more k x = record { still = x.still; met = λ e. (k, x.met e) }

pub any_behind : {tells : Bool} {mode : SyncMode} {old mid new : MomentState} {a b c : Stage} (n : ℕ) (more : Bool) → ReachesAny tells mode n more old mid a b → CountsStill tells mode mid new b c → ReachesAny tells mode n more old new a c
any_behind n more x y = record { still = still_on x.still y; met = λ e. let h = x.met e in (h.0, omega (arith, sum_append (pieces_by h.0) x.still.counts.went.events y.counts.went.events, h.1)) }

pub any_on : {tells : Bool} {mode : SyncMode} {old mid new : MomentState} {a b c : Stage} (n : ℕ) (p q : Bool) → ReachesAny tells mode n p old mid a b → ReachesAny tells mode n q mid new b c → ReachesAny tells mode n (p || q) old new a c
any_on n true q x y = record { still = still_on x.still y.still; met = λ e. let h = x.met refl in (h.0, omega (arith, sum_append (pieces_by h.0) x.still.counts.went.events y.still.counts.went.events, h.1)) }
any_on n false q x y = record { still = still_on x.still y.still; met = λ e. let h = y.met e in (h.0, omega (arith, sum_append (pieces_by h.0) x.still.counts.went.events y.still.counts.went.events, h.1)) }

pub any_moded : {tells : Bool} {old new : MomentState} {s t : Stage} {most : ℕ} {more : Bool} (m n : SyncMode) → m ≡ n → ReachesAny tells m most more old new s t → ReachesAny tells n most more old new s t
any_moded {tells} {old} {new} {s} {t} {most} {more} m n e x = subst (λ k. ReachesAny tells k most more old new s t) e x

pub any_broke : {tells : Bool} {mode : SyncMode} {s t : Stage} (most : ℕ) (old new : MomentState) (r : Result Bool LoopFault) (why : LoopFault) → r ≡ Err why → HasBroken tells mode why old new s t → DoesUpToAny tells mode most r old new s t
any_broke {tells} {mode} {s} {t} most old new r why e b = subst (λ (z : Result Bool LoopFault). DoesUpToAny tells mode most z old new s t) (sym e) b

-- links that were accepted, and pieces that were read behind that
pub record Limited (tells : Bool) (mode : SyncMode) (accepts reads : Bool) (old new : MomentState) (s t : Stage) : Type 0 where
  pub still : CountsStill tells mode old new s t
  pub accepted : accepts ≡ true → most_accepted ≤ sum_in accepts_by still.counts.went.events
  pub read : reads ≡ true → (k : LinkId) × (most_pieces ≤ sum_in (pieces_by k) still.counts.went.events)

pub limited_of : {tells : Bool} {mode : SyncMode} {old mid new : MomentState} {a b c : Stage} (accepts reads : Bool) (m : SyncMode) → m ≡ mode → Reaches tells mode accepts_by most_accepted accepts old mid a b → ReachesAny tells m most_pieces reads mid new b c
    → Limited tells mode accepts reads old new a c
limited_of {tells} {mode} {old} {mid} {new} {a} {b} {c} accepts reads m e x z =
    let y = any_moded m mode e z in record {
      still = still_on x.still y.still;
      accepted = λ is. omega (arith, sum_append accepts_by x.still.counts.went.events y.still.counts.went.events, x.met is);
      read = λ is. let h = y.met is in (h.0, omega (arith, sum_append (pieces_by h.0) x.still.counts.went.events y.still.counts.went.events, h.1));
    }

pub limited_on : {tells : Bool} {mode : SyncMode} {accepts reads : Bool} {old mid new : MomentState} {a b c : Stage} (m : SyncMode) → m ≡ mode → Limited tells mode accepts reads old mid a b → CountsStill tells m mid new b c → Limited tells mode accepts reads old new a c
limited_on {tells} {mode} {accepts} {reads} {old} {mid} {new} {a} {b} {c} m e x z =
    let y = still_moded m mode e z in record {
      still = still_on x.still y;
      accepted = λ is. omega (arith, sum_append accepts_by x.still.counts.went.events y.counts.went.events, x.accepted is);
      read = λ is. let h = x.read is in (h.0, omega (arith, sum_append (pieces_by h.0) x.still.counts.went.events y.counts.went.events, h.1));
    }

-- ---- faults

-- an event that is told as a fault
pub broke_one : {tells : Bool} {mode : SyncMode} {unused : List (List ℕ)} {drawn after : DrawnState} {why : LoopFault} {s t : Stage} (e : Event) (left : List (List ℕ))
    → fault_of e ≡ Some why → IsGiven unused e left → Tells (moments_by e) drawn after → Happens tells mode s e t → Broke tells mode unused drawn after why s t
broke_one {tells} {mode} {unused} {drawn} {after} {why} {s} {t} e left told given tells_it h = record { before = s; went = went_nowhere s; last = e; told = told; happens = h; left = left; given = supplies_one e given tells_it }

-- .. behind events that went on
pub counts_broke : {tells : Bool} {mode : SyncMode} {old mid : MomentState} {after : DrawnState} {why : LoopFault} {a b c : Stage} → CountsOn tells mode old mid a b → Broke tells mode (mid.fresh ∷ []) mid.drawn after why b c
    → Broke tells mode (old.fresh ∷ []) old.drawn after why a c
counts_broke {tells} {mode} {old} {mid} {after} x y = record {
  before = y.before;
  went = went_further x.went y.went;
  last = y.last;
  told = y.told;
  happens = y.happens;
  left = y.left;
  given = subst (λ es. Supplies (old.fresh ∷ []) old.drawn es y.left after) (sym (append_assoc x.went.events y.went.events (y.last ∷ []))) (supplies_on x.went.events (y.went.events ++ y.last ∷ []) x.given y.given);
}

pub still_broke : {tells : Bool} {mode : SyncMode} {old mid : MomentState} {after : DrawnState} {why : LoopFault} {a b c : Stage} → CountsStill tells mode old mid a b → Broke tells mode (mid.fresh ∷ []) mid.drawn after why b c
    → Broke tells mode (old.fresh ∷ []) old.drawn after why a c
still_broke x y = counts_broke x.counts y

-- what answers a fault broke
pub breaks : {A : Type 0} {tells : Bool} {mode : SyncMode} {s t : Stage} (old new : MomentState) (r : Result A LoopFault) (why : LoopFault) → r ≡ Err why → HasBroken tells mode why old new s t → Does tells mode r old new s t
breaks {A} {tells} {mode} {s} {t} old new r why e b = subst (λ (z : Result A LoopFault). Does tells mode z old new s t) (sym e) b

pub counts_moded : {tells : Bool} {old new : MomentState} {a b : Stage} (m n : SyncMode) → m ≡ n → CountsOn tells m old new a b → CountsOn tells n old new a b
counts_moded {tells} {old} {new} {a} {b} m n e x = subst (λ k. CountsOn tells k old new a b) e x

pub went_moded : {tells : Bool} {a b : Stage} (m n : SyncMode) → m ≡ n → Went tells m a b → Went tells n a b
went_moded {tells} {a} {b} m n e x = subst (λ k. Went tells k a b) e x

pub broke_moded : {tells : Bool} {unused : List (List ℕ)} {drawn after : DrawnState} {why : LoopFault} {a b : Stage} (m n : SyncMode) → m ≡ n → Broke tells m unused drawn after why a b → Broke tells n unused drawn after why a b
broke_moded {tells} {unused} {drawn} {after} {why} {a} {b} m n e x = subst (λ k. Broke tells k unused drawn after why a b) e x

-- ---- a turn

-- no event is told as a wire that can't be waited on
no_listener : (e : Event) → fault_of e ≡ Some fault.Listener → ⊥
no_listener (spills act outs) e = cc
no_listener (tears act outs) e = cc
no_listener fails e = cc
no_listener (stops stop) e = cc
no_listener _ e = cc

err_is : {A : Type 0} (why other : LoopFault) → ◌≡◌ {A = Result A LoopFault} (Err why) (Err other) → why ≡ other
err_is why other e = cc

pub never_listener : {A : Type 0} {tells : Bool} {mode : SyncMode} {unused : List (List ℕ)} {drawn after : DrawnState} {s t : Stage} (why : LoopFault) → Broke tells mode unused drawn after why s t → ◌≡◌ {A = Result A LoopFault} (Err why) (Err fault.Listener) → ⊥
never_listener {A} why broke e = no_listener broke.last (broke.told ∙ ap Some (err_is {A = A} why fault.Listener e))

pub breaks_down : {tells : Bool} {mode : SyncMode} {unused : List (List ℕ)} {drawn after : DrawnState} {s b t : Stage} (why : LoopFault) → Broke tells mode unused drawn after why s b → IsToldToStop b t
    → Fails tells mode unused drawn after why s t
breaks_down fault.Listener broke stopped = absurd (no_listener broke.last broke.told)
breaks_down {tells} {mode} {unused} {drawn} {after} {s} {b} {t} fault.File broke stopped = record { behind = b; broke = broke; stopped = stopped }
breaks_down {tells} {mode} {unused} {drawn} {after} {s} {b} {t} fault.Stopped broke stopped = record { behind = b; broke = broke; stopped = stopped }

-- ---- the wait before a turn

still_zero : (f : Event → ℕ) (e : Event) (es : List Event) → f e ≡ 0 → sum_in f (e ∷ es) ≡ sum_in f es
still_zero f e es none = omega (arith, none)

waited_keeps : (now : ℤ) (es : List Event) (most : ℕ) (P : Type 0) → ((sum_in ticks_by es ≡ most) × P) ⊎ (0 < sum_in misses_by es)
    → ((sum_in ticks_by (wakes now ∷ es) ≡ most) × P) ⊎ (0 < sum_in misses_by (wakes now ∷ es))
waited_keeps now es most P (inl kept) = inl (still_zero ticks_by (wakes now) es refl ∙ kept.0, kept.1)
waited_keeps now es most P (inr missed) = inr (omega (arith, missed, still_zero misses_by (wakes now) es refl))

waited_limit : (now : ℤ) (done : ℕ) (es : List Event) → MeetsLimit done es → MeetsLimit done (wakes now ∷ es)
waited_limit now done es (by_accepts many) = by_accepts (omega (arith, many, still_zero accepts_by (wakes now) es refl))
waited_limit now done es (by_reads k many) = by_reads k (omega (arith, many, still_zero (pieces_by k) (wakes now) es refl))
waited_limit now done es (by_ticks ticked missed) = by_ticks (still_zero ticks_by (wakes now) es refl ∙ ticked) (still_zero misses_by (wakes now) es refl ∙ missed)

abbrev waited_went : {tells : Bool} {mode : SyncMode} {s m t : Stage} (now : ℤ) → HasWaited s m → Went tells mode m t → Went tells mode s t
waited_went {tells} {mode} {s} {m} {t} now wakes_up w = record { events = wakes now ∷ w.events; run = (m, refl, wakes_up, w.run) }

-- the first id of a turn is drawn behind it, and then the time is told
waited_down : {tells : Bool} {mode : SyncMode} {drawn after : DrawnState} {why : LoopFault} {s m t : Stage} (id : List ℕ) (now : ℤ) (first : DrawnState) → first ≡ with_moment now (with_id id drawn) → drawn.clock ≤ℤ now → HasWaited s m
    → BreaksDown tells mode (id ∷ []) first after why m t → BreaksDown tells mode [] drawn after why s t
waited_down id now first is forward wakes_up h = record {
  behind = h.behind;
  broke = record {
    before = h.broke.before;
    went = waited_went now wakes_up h.broke.went;
    last = h.broke.last;
    told = h.broke.told;
    happens = h.broke.happens;
    left = h.broke.left;
    given = supplies_first id now first (h.broke.went.events ++ h.broke.last ∷ []) is forward h.broke.given;
  };
  stopped = h.stopped;
}

pub waited_turns : (tells : Bool) (mode : SyncMode) (id : List ℕ) (now : ℤ) (drawn first after : DrawnState) (s m t : Stage) (r : Result Turn LoopFault) → first ≡ with_moment now (with_id id drawn) → drawn.clock ≤ℤ now → HasWaited s m → (r ≡ Err fault.Listener → ⊥)
    → Turns tells mode (id ∷ []) first after r m t → Turns tells mode [] drawn after r s t
waited_turns tells mode id now drawn first after s m t (Ok turn) is forward wakes_up other h = record {
  went = waited_went now wakes_up h.went;
  left = h.left;
  given = supplies_first id now first h.went.events is forward h.given;
  steps_are = h.steps_are ∙ ap counted (sym (still_zero calls_by (wakes now) h.went.events refl));
  done_are = h.done_are ∙ ap counted (sym (still_zero uses_by (wakes now) h.went.events refl));
  used_are = h.used_are ∙ ap counted (sym (still_zero ids_by (wakes now) h.went.events refl));
  deaf_are = h.deaf_are ∙ ap counted (sym (still_zero deaf_by (wakes now) h.went.events refl));
  followed_are = h.followed_are;
  ticked = omega (arith, h.ticked, still_zero ticks_by (wakes now) h.went.events refl);
  few = omega (arith, h.few, still_zero ticks_by (wakes now) h.went.events refl);
  keeps_up = λ due. waited_keeps now h.went.events (most_ticks turn.done) (t.own.hurries ≡ true) (h.keeps_up due);
  hurries_for = λ hurried. waited_limit now turn.done h.went.events (h.hurries_for hurried);
  halted = h.halted;
  lacked_is = h.lacked_is ∙ ap (λ (z : Stage). lacked_since z.own.lacked t.own.lacked) wakes_up.is;
}
waited_turns tells mode id now drawn first after s m t (Err fault.Listener) is forward wakes_up other h = absurd (other refl)
waited_turns tells mode id now drawn first after s m t (Err fault.File) is forward wakes_up other h = waited_down id now first is forward wakes_up h
waited_turns tells mode id now drawn first after s m t (Err fault.Stopped) is forward wakes_up other h = waited_down id now first is forward wakes_up h

-- ---- turns one after another

pub has_turned : {tells halted : Bool} {drawn after : DrawnState} {turn : Turn} {s t : Stage} (m n : SyncMode) → m ≡ n → TellsOf tells m [] drawn after turn s t → turn.halted ≡ halted → HasTurned tells n halted drawn after s t
has_turned {tells} {halted} {drawn} {after} {turn} {s} {t} m n mode h is = record { turn = turn; tells_of = subst (λ k. TellsOf tells k [] drawn after turn s t) mode h; is = is }

-- one turn more
pub turned_on : {tells : Bool} {mode : SyncMode} {between after : DrawnState} {m t : Stage} (drawn : DrawnState) (s : Stage) (n k : ℕ) → k ≡ suc n → TurnsOn tells mode n drawn between s m → HasTurned tells mode false between after m t → TurnsOn tells mode k drawn after s t
turned_on {tells} {mode} {between} {after} {m} {t} drawn s n k e went turned = subst (λ z. TurnsOn tells mode z drawn after s t) (sym e) (m, between, went, turned)

-- all were made
pub serves_all : {tells : Bool} {mode : SyncMode} {drawn after : DrawnState} {s t : Stage} (turns count : ℕ) → count ≡ turns → TurnsOn tells mode count drawn after s t → Serves tells mode turns (Ok tt) drawn after s t
serves_all {tells} {mode} {drawn} {after} {s} {t} turns count all went = record { count = count; before = t; between = after; went = went; last = inl (all, refl, refl) }

-- .. or a client asked in one that the program end
pub serves_halted : {tells : Bool} {mode : SyncMode} {drawn between after : DrawnState} {s b t : Stage} (turns count : ℕ) → count < turns → TurnsOn tells mode count drawn between s b → HasTurned tells mode true between after b t
    → Serves tells mode turns (Ok tt) drawn after s t
serves_halted {tells} {mode} {drawn} {between} {after} {s} {b} {t} turns count few went turned = record { count = count; before = b; between = between; went = went; last = inr (few, turned) }

-- .. or one met a fault
pub serves_behind : {tells : Bool} {drawn after : DrawnState} {s t : Stage} (between : DrawnState) (b : Stage) (m n : SyncMode) (turns count : ℕ) (r : Result (Unit {0}) LoopFault) (why : LoopFault) → r ≡ Err why → m ≡ n → count < turns
    → TurnsOn tells n count drawn between s b → Fails tells m [] between after why b t → Serves tells n turns r drawn after s t
serves_behind {tells} {drawn} {after} {s} {t} between b m n turns count r why told mode few went turn = record {
  count = count;
  before = b;
  between = between;
  went = went;
  last = subst (λ (z : Result (Unit {0}) LoopFault). Ends tells n turns count z between after b t) (sym told) (few, subst (λ k. Fails tells k [] between after why b t) mode turn);
}
