-- How time passes in a turn: ticks one after another, and what one that deletes nothing leaves due.
use Rattle.std.proofs.Common.{◌≡◌, ◌<◌, ◌≤ℤ◌, ◌⊎◌, inl, inr, ◌+◌, ◌-◌, ◌++◌, ◌&&◌, nat_le, ℕ, ℤ, List, [], ◌∷◌, Bool, true, false, length, flat_map, Option, None, Some, Result, Err, if◌then◌else◌, arith, refl, sym, ap, subst, ◌∙◌}
use Rattle.std.specs.Option.{option_and_then}
use Rattle.mr_resp.specs.Spelling.{bulk, number_line}
use Rattle.mr_effect.specs.Effects.{has_spelling, words_fit}
use Rattle.mr_effect.specs.Spelling.{size, texts, words}
use Rattle.mr_effect.specs.declared.effect.Effect.{Effect}
use Rattle.mr_effect.specs.declared.effect.Effect.TheVariants as effect
use Rattle.mr_keyspace.specs.Changes.{change}
use Rattle.mr_keyspace.specs.Dataset.{Dataset}
use Rattle.mr_data.specs.Due.{deletions, due, within}
use Rattle.mr_data.specs.Meaning.{apply, apply_all}
use Rattle.mr_data.specs.declared.given.Given.{Given}
use Rattle.mr_source.specs.Drawn.{DrawnState, with_moment}
use Rattle.mr_repl.specs.Backlog.{offset_limit}
use Rattle.mr_file.specs.declared.sync_mode.SyncMode.{SyncMode}
use Rattle.mr_node_output.specs.Outs.{OutsState, outs_of}
use Rattle.mr_node_spec.specs.Sound.{IsSound}
use Rattle.mr_node_spec.specs.Growing.{grown_by}
use Rattle.mr_node_spec.specs.State.{Core, NodeState}
use Rattle.mr_node_spec.specs.TimeRows.{Beats, Deletes, HasDue, TickRow, deletes, doomed, rests, room_in}
use Rattle.mr_node_spec.specs.TimeRows.Beats.{alone, beats, cut, marks, waits}
use Rattle.mr_node.specs.Calls.{TickStep}
use Rattle.mr_node.specs.declared.fault.NodeFault.{NodeFault}
use Rattle.mr_node.specs.declared.fault.NodeFault.TheVariants as refusal
use Rattle.mr_wire.specs.Wire.{WireState}
use Rattle.mr_loop.specs.declared.fault.LoopFault.{LoopFault}
use Rattle.mr_loop.specs.declared.host.Host.{Host}
use Rattle.mr_loop.specs.Stage.{Stage}
use Rattle.mr_loop.specs.Carrying.{Carried}
use Rattle.mr_loop.specs.Causes.{at_tick}
use Rattle.mr_loop.specs.Counting.{IsTickDue, MomentState, Passes, Renewed, misses_by, most_ticks, one_where, raised, ticks_by}
use Rattle.mr_loop.specs.Going.{PassesAs, PassesOn}
use Rattle.mr_loop.specs.Hosts.{moment_in, stage_in}
use Rattle.mr_loop.specs.Outcomes.{HasBroken}
use Rattle.mr_loop.specs.Rows.{MissesTick, acts, misses_tick}
use Rattle.mr_loop.proofs.Carried.{carried_core}
use Rattle.mr_loop.proofs.Runs.{broke_moded, counts_broke, counts_event, counts_none, counts_on, gives_none, sum_append}
use Rattle.mr_loop.proofs.Supplying.{renewed_none, tells_one}
use Rattle.mr_loop.proofs.Taking.{tick_takes}
use Rattle.mr_loop.proofs.Waiting.{none_some, some_is}

-- ---- what a tick that deletes nothing leaves due

-- the text of an effect has some bytes
no_texts : (es : List Effect) → texts es ≡ [] → es ≡ []
no_texts [] h = refl
no_texts (e ∷ es) h = absurd (let wrong : 42 ∷ ((number_line (length (words e)) ++ flat_map bulk (words e)) ++ texts es) ≡ [] = h in cc)

guarded : (b : Bool) (m n : Dataset) → (if b then Some m else None) ≡ Some n → n ≡ m
guarded true m n h = sym (some_is m n h)
guarded false m n h = absurd (none_some n h)

-- a heartbeat changes nothing
ping_same : (m n : Dataset) → apply effect.Ping m ≡ Some n → n ≡ m
unfolding apply change
ping_same m n h = guarded (has_spelling effect.Ping && words_fit effect.Ping) m n h

then_none : (o : Option Dataset) (n : Dataset) → option_and_then (apply_all []) o ≡ Some n → o ≡ Some n
then_none None n h = h
then_none (Some m) n h = h

pinged : (b : Bool) (room : ℕ) (m n : Dataset) → apply_all (if b then effect.Ping ∷ within (room - size effect.Ping) [] else []) m ≡ Some n → n ≡ m
pinged true room m n h = ping_same m n (then_none (apply effect.Ping m) n h)
pinged false room m n h = sym (some_is m n h)

-- effects that are none, or a heartbeat
none_held : (es : List Effect) (m n : Dataset) → es ≡ [] → apply_all es m ≡ Some n → n ≡ m
none_held es m n none applied = sym (some_is m n (sym (ap (λ (xs : List Effect). apply_all xs m) none) ∙ applied))

beat_held : (es ds : List Effect) (room : ℕ) (m n : Dataset) → es ≡ within room (ds ++ effect.Ping ∷ []) → ds ≡ [] → apply_all es m ≡ Some n → n ≡ m
beat_held es ds room m n is none applied =
    pinged (nat_le (size effect.Ping) room) room m n (sym (ap (λ (xs : List Effect). apply_all xs m) (is ∙ ap (λ (xs : List Effect). within room (xs ++ effect.Ping ∷ [])) none)) ∙ applied)

-- where nothing is deleted, and nothing was put behind the stream, or nothing is due
still_none : (now : ℤ) (c d : Core) (es : List Effect) (n : Dataset) (mark : Option ℤ) → d ≡ record (grown_by es n c) { mark = mark } → es ≡ [] → n ≡ c.held → deletions now c.held (room_in c) ≡ [] → deletions now d.held (room_in d) ≡ []
still_none now c d es n mark core none held empty =
    let same : d.held ≡ c.held = ap (λ (z : Core). z.held) core ∙ held in
    let offset : d.lineage.stream.offset ≡ c.lineage.stream.offset + length (texts es) = ap (λ (z : Core). z.lineage.stream.offset) core in
    let long : length (texts es) ≡ 0 = ap (λ (xs : List Effect). length (texts xs)) none in
    let room : d.lineage.stream.offset ≡ c.lineage.stream.offset = omega (arith, offset, long) in
    ap (λ (m : Dataset). deletions now m (room_in d)) same ∙ (ap (λ (k : ℕ). deletions now c.held (offset_limit - k)) room ∙ empty)

due_none : (now : ℤ) (c d : Core) (es : List Effect) (n : Dataset) (mark : Option ℤ) → d ≡ record (grown_by es n c) { mark = mark } → n ≡ c.held → doomed now c.held ≡ [] → deletions now d.held (room_in d) ≡ []
due_none now c d es n mark core held empty =
    let same : d.held ≡ c.held = ap (λ (z : Core). z.held) core ∙ held in
    ap (λ (m : Dataset). deletions now m (room_in d)) same ∙ ap (within (room_in d)) empty

deletes_none : (a b : NodeState) (now : ℤ) (outs : OutsState) (row : Deletes a now b outs) → deletions now a.core.held (room_in a.core) ≡ [] → deletions now b.core.held (room_in b.core) ≡ []
deletes_none a b now outs row empty = by row.beats where
  few : row.effects ≡ [] → deletions now b.core.held (room_in b.core) ≡ []
  few none = still_none now a.core b.core row.effects row.held row.mark row.core none (none_held row.effects a.core.held row.held none row.applied) empty

  by : Beats a now row.effects row.mark → deletions now b.core.held (room_in b.core) ≡ []
  by (cut less is mark) = few (is ∙ empty)
  by (marks all unmarked is mark) = few (is ∙ (sym all ∙ empty))
  by (beats all some passed is mark) =
      let none : doomed now a.core.held ≡ [] = sym all ∙ empty in
      due_none now a.core b.core row.effects row.held row.mark row.core (beat_held row.effects (doomed now a.core.held) (room_in a.core) a.core.held row.held is none row.applied) none
  by (waits all waiting is mark) = few (is ∙ (sym all ∙ empty))
  by (alone all none passed is mark) = few (is ∙ (sym all ∙ empty))

-- where a tick deleted nothing, none is due
none_due : (a b c : NodeState) (now : ℤ) (outs : OutsState) → TickRow a now b outs → c.core ≡ b.core → outs.appended ≡ [] → IsTickDue now c → ⊥
none_due a b c now outs (rests up replica mark row is) same none due = let wrong : true ≡ false = sym due.master ∙ (ap (λ (z : Core). z.master) same ∙ (ap (λ (z : NodeState). z.core.master) is ∙ replica)) in cc
none_due a b c now outs (deletes up row) same none due =
    let empty : deletions now a.core.held (room_in a.core) ≡ [] = no_texts (deletions now a.core.held (room_in a.core)) (sym (ap (λ (o : OutsState). o.appended) row.outs_are) ∙ none) in
    due.some (ap (λ (z : Core). deletions now z.held (room_in z)) same ∙ deletes_none a b now outs row empty)

-- a test that isn't false
not_false : (b : Bool) → (b ≡ false → ⊥) → b ≡ true
not_false true h = refl
not_false false h = absurd (h refl)

-- .. or it is answered that more may be
pub more_due : (s t : Stage) (n : NodeState) (now : ℤ) (outs : OutsState) (more : Bool) → TickRow s.node now n outs → Carried (outs_of outs) (record s { node = n }) t → (more ≡ false → outs.appended ≡ []) → IsTickDue now t.node → more ≡ true
more_due s t n now outs more row carried none due = not_false more (λ ends. none_due s.node n t.node now outs row (carried_core (outs_of outs) (record s { node = n }) t carried) (none ends) due)

pub missed_up : (a b : NodeState) (now : ℤ) (e : NodeFault) → (e ≡ refusal.Stopped → ⊥) → TickStep a now b (Err e) → a.core.up ≡ true
missed_up a b now refusal.Memory other row = row.0
missed_up a b now refusal.Stopped other row = absurd (other refl)
missed_up a b now refusal.NoLink other row = absurd row
missed_up a b now refusal.InputFull other row = absurd row

-- what refuses a tick and is no stop changes nothing
pub missed_same : (a b : NodeState) (now : ℤ) (e : NodeFault) → (e ≡ refusal.Stopped → ⊥) → TickStep a now b (Err e) → b ≡ a
missed_same a b now refusal.Memory other row = row.1
missed_same a b now refusal.Stopped other row = absurd (other refl)
missed_same a b now refusal.NoLink other row = absurd row
missed_same a b now refusal.InputFull other row = absurd row

-- .. and then something was due
pub missed_due : (a b : NodeState) (now : ℤ) (e : NodeFault) → (e ≡ refusal.Stopped → ⊥) → TickStep a now b (Err e) → HasDue a now
missed_due a b now refusal.Memory other row = row.2
missed_due a b now refusal.Stopped other row = absurd (other refl)
missed_due a b now refusal.NoLink other row = absurd row
missed_due a b now refusal.InputFull other row = absurd row

-- ---- one tick

pub ticks_once : {tells : Bool} {mode : SyncMode} (s t : Stage) (n : NodeState) (given : Given) (outs : OutsState) (old mid new : MomentState) → TickRow s.node given.now n outs → IsSound n → Carried (outs_of outs) (record s { node = n }) t
    → old.drawn.clock ≤ℤ given.now → mid ≡ record old { drawn = with_moment given.now old.drawn } → Renewed outs.used mid new
    → Passes tells mode 1 0 old new s t
ticks_once s t n given outs old mid new row sound carried forward one took =
    let none = tick_takes s.node n given.now outs row in
    let same : new ≡ record old { drawn = with_moment given.now old.drawn } = renewed_none outs.used mid new none took ∙ one in record {
      counts = counts_event (acts (at_tick given) outs) old new refl (record { called = record s { node = n }; calls = record { row = row; sound = sound; same = refl }; carried = carried })
          (gives_none (acts (at_tick given) outs) old new (none, refl) (ap (λ (m : MomentState). m.fresh) same) (tells_one forward (ap (λ (m : MomentState). m.drawn) same)))
          (ap (λ (m : MomentState). m.turn.steps) same)
          (ap (λ (m : MomentState). m.turn.done) same)
          (ap (λ (m : MomentState). m.turn.used) same ∙ ap (λ (u : Option (List ℕ)). raised (one_where u) old.turn.used) (sym none))
          (ap (λ (m : MomentState). m.turn.deaf) same)
          (ap (λ (m : MomentState). m.turn.followed) same);
      done = ap (λ (m : MomentState). m.turn.done) same;
      ticked = omega arith;
      missed_are = omega arith;
    }

-- one for which memory ran out
pub misses_once : {tells : Bool} {mode : SyncMode} (s t : Stage) (given : Given) (old new : MomentState) → old.drawn.clock ≤ℤ given.now → new ≡ record old { drawn = with_moment given.now old.drawn } → MissesTick given s t → Passes tells mode 1 1 old new s t
misses_once s t given old new forward same misses = record {
  counts = counts_event (misses_tick given) old new refl misses
      (gives_none (misses_tick given) old new refl (ap (λ (m : MomentState). m.fresh) same) (tells_one forward (ap (λ (m : MomentState). m.drawn) same)))
      (ap (λ (m : MomentState). m.turn.steps) same)
      (ap (λ (m : MomentState). m.turn.done) same)
      (ap (λ (m : MomentState). m.turn.used) same)
      (ap (λ (m : MomentState). m.turn.deaf) same)
      (ap (λ (m : MomentState). m.turn.followed) same);
  done = ap (λ (m : MomentState). m.turn.done) same;
  ticked = omega arith;
  missed_are = omega arith;
}

-- in the mode of the turn's log
pub passes_moded : {tells : Bool} {count missed : ℕ} {old new : MomentState} {s t : Stage} (m n : SyncMode) → m ≡ n → Passes tells m count missed old new s t → Passes tells n count missed old new s t
passes_moded {tells} {count} {missed} {old} {new} {s} {t} m n mode p = subst (λ k. Passes tells k count missed old new s t) mode p

-- ---- ticks so far, with so many that are left

passes_on : {tells : Bool} {mode : SyncMode} {m n k l : ℕ} {old mid new : MomentState} {a b c : Stage} → Passes tells mode m k old mid a b → Passes tells mode n l mid new b c → Passes tells mode (m + n) (k + l) old new a c
passes_on x y = record {
  counts = counts_on x.counts y.counts;
  done = y.done ∙ x.done;
  ticked = sum_append ticks_by x.counts.went.events y.counts.went.events ∙ omega (arith, x.ticked, y.ticked);
  missed_are = sum_append misses_by x.counts.went.events y.counts.went.events ∙ omega (arith, x.missed_are, y.missed_are);
}

pub record PassesSoFar (tells : Bool) (mode : SyncMode) (most left : ℕ) (old new : MomentState) (s t : Stage) : Type 0 where
  pub count : ℕ
  pub went : Passes tells mode count 0 old new s t
  pub all : count + left ≡ most

pub none_passed : {tells : Bool} {mode : SyncMode} (most left : ℕ) (moment : MomentState) (s : Stage) → left ≡ most → PassesSoFar tells mode most left moment moment s s
none_passed most left moment s e = record { count = 0; went = record { counts = counts_none moment s; done = refl; ticked = refl; missed_are = refl }; all = omega (arith, e) }

-- .. and one more
pub one_passed : {tells : Bool} {mode : SyncMode} {most : ℕ} (left less : ℕ) {old mid new : MomentState} {a b c : Stage} → left ≡ less + 1 → PassesSoFar tells mode most left old mid a b → Passes tells mode 1 0 mid new b c → PassesSoFar tells mode most less old new a c
one_passed left less one so next = record { count = so.count + 1; went = passes_on so.went next; all = omega (arith, so.all, one) }

some_ticks : (n : ℕ) → 0 < most_ticks n
some_ticks n = omega arith

true_false : (b : Bool) → b ≡ true → b ≡ false → ⊥
true_false b is not = let wrong : true ≡ false = sym is ∙ not in cc

module _ {W F S : Type 0} (tells : Bool) (links : W → WireState) (failures : W → ℕ) (told : F → Option (List ℕ)) (synced : F → Option ℕ) (drawn : S → DrawnState) where
  -- none is left
  pub all_passed : (a b : Host W F S) (left done : ℕ) → left ≡ 0
      → PassesSoFar tells a.log.now.mode (most_ticks done) left (moment_in drawn a) (moment_in drawn b) (stage_in links failures told synced a) (stage_in links failures told synced b) → PassesOn tells links failures told synced drawn true (most_ticks done) a b
  all_passed a b left done e so = record {
    count = so.count;
    missed = 0;
    went = so.went;
    some = omega (arith, e, some_ticks done, so.all);
    few = omega (arith, so.all);
    keeps_up = λ due. inl (omega (arith, e, so.all), refl);
    goes_on = λ more. (omega (arith, e, so.all), refl);
  }

  -- .. or nothing more is due
  pub enough_passed : (a b : Host W F S) (left less most missed : ℕ) (mid : MomentState) (s : Stage) (more : Bool) → left ≡ less + 1
      → PassesSoFar tells a.log.now.mode most left (moment_in drawn a) mid (stage_in links failures told synced a) s → Passes tells a.log.now.mode 1 missed mid (moment_in drawn b) s (stage_in links failures told synced b)
      → (IsTickDue (drawn b.source.now).clock b.node.now → (more ≡ true) ⊎ (0 < missed)) → more ≡ false → PassesOn tells links failures told synced drawn false most a b
  enough_passed a b left less most missed mid s more one so next keeps ends = by where
    missed_one : (more ≡ true) ⊎ (0 < missed) → 0 < 0 + missed
    missed_one (inl is) = absurd (true_false more is ends)
    missed_one (inr some) = omega (arith, some)

    by : PassesOn tells links failures told synced drawn false most a b
    by = record {
      count = so.count + 1;
      missed = 0 + missed;
      went = passes_on so.went next;
      some = omega arith;
      few = omega (arith, so.all, one);
      keeps_up = λ due. inr (missed_one (keeps due));
      goes_on = λ e. absurd (true_false false e refl);
    }

  -- .. or a fault came
  pub breaks_passing : (a b : Host W F S) (left most : ℕ) (mid : MomentState) (s : Stage) (m : SyncMode) (r : Result Bool LoopFault) (why : LoopFault) → r ≡ Err why → m ≡ a.log.now.mode
      → PassesSoFar tells a.log.now.mode most left (moment_in drawn a) mid (stage_in links failures told synced a) s → HasBroken tells m why mid (moment_in drawn b) s (stage_in links failures told synced b) → PassesAs tells links failures told synced drawn r most a b
  breaks_passing a b left most mid s m r why is mode so broke =
      subst (λ (z : Result Bool LoopFault). PassesAs tells links failures told synced drawn z most a b) (sym is) (counts_broke so.went.counts (broke_moded m a.log.now.mode mode broke))
