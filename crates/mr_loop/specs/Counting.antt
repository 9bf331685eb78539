-- How often a turn asks the node for a step, how often that uses something, how many fresh ids it takes, how many clients it gives up as deaf, what comes of
-- following a master, how often time passes in it, and whether it ends the program; and that what its calls are given is the source's.
use Rattle.std.specs.Prelude.{◌≡◌, ◌≢◌, ◌<◌, ◌≤◌, ◌⊎◌, ℕ, ℤ, ◌+◌, ◌-◌, ◌/◌, ◌^◌, zero, suc, min, List, [], ◌∷◌, Bool, true, false, ◌||◌, if◌then◌else◌, Option, Some, None}
use Rattle.std.specs.Ordering.{eq_by_cmp}
use Rattle.mr_links.specs.LinkId.{id_cmp}
use Rattle.mr_links.specs.declared.link_id.LinkId.{LinkId}
use Rattle.mr_file.specs.declared.sync_mode.SyncMode.{SyncMode}
use Rattle.mr_node_spec.specs.State.{NodeState}
use Rattle.mr_node_spec.specs.TimeRows.{room_in}
use Rattle.mr_data.specs.Due.{deletions}
use Rattle.mr_source.specs.Drawn.{DrawnState, with_id}
use Rattle.mr_loop.specs.declared.told.Turn.{Turn}
use Rattle.mr_loop.specs.declared.followed.Followed.{Followed}
use Rattle.mr_loop.specs.declared.followed.News.{News}
use Rattle.mr_loop.specs.declared.followed.News.TheVariants as came
use Rattle.mr_loop.specs.Lacking.{lacked_since, no_lack}
use Rattle.mr_loop.specs.Stage.{Stage}
use Rattle.mr_loop.specs.Causes.{Act, at_step, at_tick, at_dial}
use Rattle.mr_loop.specs.Rows.{Event, Run, Went, acts, idles, is_deaf, is_refused, joins, misses_tick, spills, takes, tears, turns_away}
use Rattle.mr_loop.specs.Giving.{Supplies}

abbrev pub steps_in_act : Act → ℕ
steps_in_act (at_step socket link given fresh news) = 1
steps_in_act (at_tick given) = 0
steps_in_act (at_dial socket link) = 0

abbrev pub ticks_in_act : Act → ℕ
ticks_in_act (at_step socket link given fresh news) = 0
ticks_in_act (at_tick given) = 1
ticks_in_act (at_dial socket link) = 0

-- How many calls of `Node::step` an event tells of. One that stops may be such a call too: no turn goes on behind it.
abbrev pub calls_by : Event → ℕ
calls_by (acts act outs) = steps_in_act act
calls_by (idles socket link given fresh) = 1
calls_by (is_refused socket link given fresh) = 1
calls_by (spills act outs) = steps_in_act act
calls_by (tears act outs) = steps_in_act act
calls_by _ = 0

-- .. and how many of these used something
abbrev pub uses_by : Event → ℕ
uses_by (acts act outs) = steps_in_act act
uses_by (spills act outs) = steps_in_act act
uses_by (tears act outs) = steps_in_act act
uses_by _ = 0

abbrev pub one_where : {A : Type 0} → Option A → ℕ
one_where None = 0
one_where (Some x) = 1

-- how many fresh ids were taken
abbrev pub ids_by : Event → ℕ
ids_by (acts act outs) = one_where outs.used
ids_by _ = 0

-- how many clients are given up as deaf
abbrev pub deaf_by : Event → ℕ
deaf_by (is_deaf socket link) = 1
deaf_by _ = 0

-- what it tells of a replica and its master
abbrev pub news_in_act : Act → Option News
news_in_act (at_step socket link given fresh news) = news
news_in_act (at_tick given) = None
news_in_act (at_dial socket link) = None

abbrev pub news_by : Event → Option News
news_by (acts act outs) = news_in_act act
news_by _ = None

-- how many calls of `Node::tick` it tells of
abbrev pub ticks_by : Event → ℕ
ticks_by (acts act outs) = ticks_in_act act
ticks_by (misses_tick given) = 1
ticks_by (spills act outs) = ticks_in_act act
ticks_by (tears act outs) = ticks_in_act act
ticks_by _ = 0

-- .. at which memory ran out
abbrev pub misses_by : Event → ℕ
misses_by (misses_tick given) = 1
misses_by _ = 0

-- how many links the wire accepted, or failed to
abbrev pub accepts_by : Event → ℕ
accepts_by (joins socket link) = 1
accepts_by turns_away = 1
accepts_by _ = 0

-- how many pieces of a connection were read
abbrev pub pieces_by : LinkId → Event → ℕ
pieces_by k (takes j bytes) = if eq_by_cmp id_cmp j k then 1 else 0
pieces_by k _ = 0

-- .. of events one after another
abbrev pub sum_in : (Event → ℕ) → List Event → ℕ
sum_in f [] = 0
sum_in f (e ∷ es) = f e + sum_in f es

-- A tick at this moment would delete: the node is a master, and the first of its expired keys has room before the offset's limit.
pub record IsTickDue (now : ℤ) (a : NodeState) : Type 0 where
  pub master : a.core.master ≡ true
  pub some : deletions now a.core.held (room_in a.core) ≢ []

-- So many ticks are made in a turn in which so many steps used something. A step gives one key a deadline at most, or EXEC's one for each request that waited,
-- which took a step itself; and a tick deletes 64. So over turns ticks keep up with any steps.
abbrev pub most_ticks : ℕ → ℕ
most_ticks done = 16 + done / 64

-- So many links are accepted in a turn at most.
abbrev pub most_accepted : ℕ
most_accepted = 64

-- So many pieces of a connection are read in one at most.
abbrev pub most_pieces : ℕ
most_pieces = 64

-- **Why the next turn doesn't wait**: as many links were accepted as may be, or as many pieces of a connection read; or as many ticks were made in a turn with so
-- many steps, and memory ran out for none.
pub data MeetsLimit (done : ℕ) (es : List Event) : Type 0 where
  by_accepts : most_accepted ≤ sum_in accepts_by es → MeetsLimit done es
  by_reads : (k : LinkId) → most_pieces ≤ sum_in (pieces_by k) es → MeetsLimit done es
  by_ticks : sum_in ticks_by es ≡ most_ticks done → sum_in misses_by es ≡ 0 → MeetsLimit done es

-- whether an event is one at which a client said SHUTDOWN
abbrev pub halts_by : Event → Bool
halts_by (acts act outs) = outs.halts
halts_by _ = false

abbrev pub halts_in : List Event → Bool
halts_in [] = false
halts_in (e ∷ es) = halts_by e || halts_in es

-- as a count that stays at its last value
abbrev pub counted : ℕ → ℕ
counted n = min n (2 ^ 64 - 1)

-- such a count, raised so often
abbrev pub raised : ℕ → ℕ → ℕ
raised zero n = n
raised (suc k) n = raised k (counted (n + 1))

-- nothing came of following a master
abbrev pub no_news : Followed
no_news = record { greeted = 0; announced = 0; copied = 0; bytes = 0; continued = 0; refused = 0; spoiled = 0 }

-- what came of it, with one more
abbrev pub heard : News → Followed → Followed
heard came.Greeted f = record f { greeted = counted (f.greeted + 1) }
heard came.Announced f = record f { announced = counted (f.announced + 1) }
heard (came.Copied bytes) f = record f { copied = counted (f.copied + 1); bytes = counted (f.bytes + bytes) }
heard came.Continued f = record f { continued = counted (f.continued + 1) }
heard came.Refused f = record f { refused = counted (f.refused + 1) }
heard came.Spoiled f = record f { spoiled = counted (f.spoiled + 1) }

-- .. if there is one
abbrev pub heard_if : Option News → Followed → Followed
heard_if None f = f
heard_if (Some n) f = heard n f

-- .. behind events one after another
abbrev pub followed_by : List Event → Followed → Followed
followed_by [] f = f
followed_by (e ∷ es) f = followed_by es (heard_if (news_by e) f)

-- nothing is counted yet
abbrev pub nothing_counted : Turn
nothing_counted = record { steps = 0; done = 0; used = 0; deaf = 0; halted = false; followed = no_news; lacked = no_lack }

-- A turn on its way: the id that the next step is given, what was drawn from the source, and what was counted.
pub record MomentState : Type 0 where
  pub fresh : List ℕ
  pub drawn : DrawnState
  pub turn : Turn

module _ (tells : Bool) (mode : SyncMode) where
  -- Some events behind each of which the turn goes on, with what its source gives, and the counts of a turn went on by what they come to.
  pub record CountsOn (old new : MomentState) (s t : Stage) : Type 0 where
    pub went : Went tells mode s t
    pub given : Supplies (old.fresh ∷ []) old.drawn went.events (new.fresh ∷ []) new.drawn
    pub steps_are : new.turn.steps ≡ raised (sum_in calls_by went.events) old.turn.steps
    pub done_are : new.turn.done ≡ raised (sum_in uses_by went.events) old.turn.done
    pub used_are : new.turn.used ≡ raised (sum_in ids_by went.events) old.turn.used
    pub deaf_are : new.turn.deaf ≡ raised (sum_in deaf_by went.events) old.turn.deaf
    pub followed_are : new.turn.followed ≡ followed_by went.events old.turn.followed

  -- .. without a tick
  pub record CountsStill (old new : MomentState) (s t : Stage) : Type 0 where
    pub counts : CountsOn old new s t
    pub no_tick : sum_in ticks_by counts.went.events ≡ 0

  -- .. of which so many at least are told of by this count, where there may be more
  pub record Reaches (f : Event → ℕ) (most : ℕ) (more : Bool) (old new : MomentState) (s t : Stage) : Type 0 where
    pub still : CountsStill old new s t
    pub met : more ≡ true → most ≤ sum_in f still.counts.went.events

  -- .. by that of the pieces of some connection
  pub record ReachesAny (most : ℕ) (more : Bool) (old new : MomentState) (s t : Stage) : Type 0 where
    pub still : CountsStill old new s t
    pub met : more ≡ true → (k : LinkId) × (most ≤ sum_in (pieces_by k) still.counts.went.events)

  -- So many ticks, for so many of which memory ran out, and no step.
  pub record Passes (count missed : ℕ) (old new : MomentState) (s t : Stage) : Type 0 where
    pub counts : CountsOn old new s t
    pub done : new.turn.done ≡ old.turn.done
    pub ticked : sum_in ticks_by counts.went.events ≡ count
    pub missed_are : sum_in misses_by counts.went.events ≡ missed

  -- What a turn tells is what its events come to, and whether a client asked that the program end. Of the ids that its source gave before, these weren't taken;
  -- and that had been drawn from it before, and this since.
  pub record TellsOf (unused : List (List ℕ)) (drawn after : DrawnState) (turn : Turn) (s t : Stage) : Type 0 where
    pub went : Went tells mode s t
    pub left : List (List ℕ)
    pub given : Supplies unused drawn went.events left after
    pub steps_are : turn.steps ≡ counted (sum_in calls_by went.events)
    pub done_are : turn.done ≡ counted (sum_in uses_by went.events)
    pub used_are : turn.used ≡ counted (sum_in ids_by went.events)
    pub deaf_are : turn.deaf ≡ counted (sum_in deaf_by went.events)
    pub followed_are : turn.followed ≡ followed_by went.events no_news
    -- time passes
    pub ticked : 0 < sum_in ticks_by went.events
    pub few : sum_in ticks_by went.events ≤ most_ticks turn.done
    -- **Ticks keep up**: where another would still delete at the last moment, so many were made, and the next turn goes on without waiting; or memory ran out for one
    pub keeps_up : IsTickDue after.clock t.node → ((sum_in ticks_by went.events ≡ most_ticks turn.done) × (t.own.hurries ≡ true)) ⊎ (0 < sum_in misses_by went.events)
    -- **The next turn waits, unless this one met a limit**
    pub hurries_for : t.own.hurries ≡ true → MeetsLimit turn.done went.events
    pub halted : turn.halted ≡ t.own.halted
    -- what the loop remembers of memory that ran out since the turn began
    pub lacked_is : turn.lacked ≡ lacked_since s.own.lacked t.own.lacked

-- **The loop knows of each SHUTDOWN**: that a client said so is what it knew before, or of some step.
abbrev pub KnowsShutdown : Type 0
KnowsShutdown = (tells : Bool) (mode : SyncMode) (s t : Stage) (es : List Event) → Run tells mode s es t → t.own.halted ≡ (halts_in es || s.own.halted)

-- the counts behind a call that took a fresh id, or none
abbrev pub taken : Option (List ℕ) → Turn → Turn
taken None turn = turn
taken (Some id) turn = record turn { used = counted (turn.used + 1) }

-- .. behind which the source gave another, or none
abbrev pub Renewed : Option (List ℕ) → MomentState → MomentState → Type 0
Renewed None old new = new ≡ old
Renewed (Some id) old new = new ≡ record { fresh = new.fresh; drawn = with_id new.fresh old.drawn; turn = taken (Some id) old.turn }
