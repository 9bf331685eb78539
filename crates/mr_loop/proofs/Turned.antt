-- What the parts of a turn come to together.
use Rattle.std.proofs.Common.{◌≡◌, ◌≢◌, ◌<◌, ◌≤◌, ◌⊎◌, inl, inr, ◌+◌, ◌++◌, ℕ, ℤ, zero, suc, List, [], ◌∷◌, Bool, true, false, ◌||◌, Option, Result, Err, refl, sym, ap, subst, ◌∙◌, arith}
use Rattle.mr_file.specs.declared.sync_mode.SyncMode.{SyncMode}
use Rattle.mr_data.specs.Due.{deletions}
use Rattle.mr_source.specs.Drawn.{DrawnState}
use Rattle.mr_node_spec.specs.State.{Core, NodeState}
use Rattle.mr_node_spec.specs.TimeRows.{room_in}
use Rattle.mr_wire.specs.declared.waited.Waited.{Waited}
use Rattle.mr_wire.specs.Wire.{WireState}
use Rattle.mr_loop.specs.declared.fault.LoopFault.{LoopFault}
use Rattle.mr_loop.specs.declared.host.Host.{Host}
use Rattle.mr_loop.specs.declared.told.Turn.{Turn}
use Rattle.mr_loop.specs.Going.{Goes, PassesOn}
use Rattle.mr_loop.specs.Hosts.{IsSame, moment_in, stage_in}
use Rattle.mr_loop.specs.Outcomes.{DoesTelling, HasBroken}
use Rattle.mr_loop.specs.Lacking.{lacked_since}
use Rattle.mr_loop.specs.Stage.{Stage}
use Rattle.mr_loop.specs.Rows.{Event, misses_tick, settles}
use Rattle.mr_loop.specs.Counting.{CountsOn, CountsStill, IsTickDue, MomentState, Passes, TellsOf, accepts_by, by_accepts, by_reads, by_ticks, calls_by, counted, deaf_by, followed_by, ids_by, misses_by, most_ticks, nothing_counted, pieces_by, raised, sum_in, ticks_by, uses_by}
use Rattle.mr_loop.proofs.Runs.{Limited, broke_moded, counts_broke, counts_event, counts_on, sum_append, sum_one, supplies_same}
use Rattle.mr_loop.proofs.Ticks.{passes_moded}

-- ---- counts from nothing

counted_more : (n : ℕ) → counted (counted n + 1) ≡ counted (n + 1)
counted_more n = omega arith

raised_counted : (k n : ℕ) → raised k (counted n) ≡ counted (k + n)
raised_counted zero n = let none : 0 + n ≡ n = omega arith in ap counted (sym none)
raised_counted (suc k) n = let more : k + (n + 1) ≡ suc k + n = omega arith in ap (raised k) (counted_more n) ∙ (raised_counted k (n + 1) ∙ ap counted more)

raised_none : (k : ℕ) → raised k 0 ≡ counted k
raised_none k = let start : counted 0 ≡ 0 = omega arith in let whole : k + 0 ≡ k = omega arith in ap (raised k) (sym start) ∙ (raised_counted k 0 ∙ ap counted whole)

-- ---- a turn

either_on : {A B C D : Type 0} → (A → C) → (B → D) → A ⊎ B → C ⊎ D
either_on f g (inl a) = inl (f a)
either_on f g (inr b) = inr (g b)

-- one for which memory ran out is a tick
misses_few : (e : Event) → misses_by e ≤ ticks_by e
misses_few (misses_tick given) = omega arith
misses_few _ = omega arith

misses_sum : (es : List Event) → sum_in misses_by es ≤ sum_in ticks_by es
misses_sum [] = omega arith
misses_sum (e ∷ es) = omega (arith, misses_few e, misses_sum es)

-- where no tick is made, memory runs out for none
none_missed : (es : List Event) → sum_in ticks_by es ≡ 0 → sum_in misses_by es ≡ 0
none_missed es none = omega (arith, misses_sum es, none)

due_core : (now : ℤ) (a b : NodeState) → b.core ≡ a.core → IsTickDue now b → IsTickDue now a
due_core now a b same due = record { master = subst (λ (z : Core). z.master ≡ true) same due.master; some = subst (λ (z : Core). deletions now z.held (room_in z) ≢ []) same due.some }

-- what limit a turn met that doesn't wait
limit_of : {A : Type 0} (due accepts reads : Bool) → (due ≡ true → A) → (accepts ≡ true → A) → (reads ≡ true → A) → ((due || accepts) || reads) ≡ true → A
limit_of true accepts reads f g h e = f refl
limit_of false true reads f g h e = g refl
limit_of false false true f g h e = h refl
limit_of false false false f g h e = absurd (let wrong : true ≡ false = sym e in cc)

due_hurries : (due accepts reads hurries : Bool) → hurries ≡ ((due || accepts) || reads) → due ≡ true → hurries ≡ true
due_hurries due accepts reads hurries is e = is ∙ ap (λ b. (b || accepts) || reads) e

-- what went on before the ticks, the ticks, what was sent behind them, and that the next wait is settled
pub told_of : {tells : Bool} {mode : SyncMode} {s t u v w : Stage} (begun old mid new : MomentState) (turn : Turn) (count missed most : ℕ) (due accepts reads hurries : Bool)
    → begun.turn ≡ nothing_counted → Limited tells mode accepts reads begun old s t → Passes tells mode count missed old mid t u → CountsStill tells mode mid new u v → new ≡ mid
    → w ≡ record v { own = record v.own { hurries = hurries } } → turn ≡ record new.turn { halted = v.own.halted; lacked = lacked_since s.own.lacked v.own.lacked } → v.node.core ≡ u.node.core
    → 0 < count → count ≤ most → most ≡ most_ticks old.turn.done → (IsTickDue mid.drawn.clock u.node → ((count ≡ most) × (due ≡ true)) ⊎ (0 < missed)) → (due ≡ true → (count ≡ most) × (missed ≡ 0)) → hurries ≡ ((due || accepts) || reads)
    → TellsOf tells mode (begun.fresh ∷ []) begun.drawn new.drawn turn s w
told_of {tells} {mode} {s} {t} {u} {v} {w} begun old mid new turn count missed most due accepts reads hurries first before p y same last is core some few bound keeps goes hurry =
    let x = before.still in
    let settled : CountsOn tells mode new new v w = counts_event (settles hurries) new new refl (record { is = last }) (supplies_same (settles hurries) new new refl (λ ids. refl) refl refl) refl refl refl refl refl in
    let all = counts_on x.counts (counts_on p.counts (counts_on y.counts settled)) in
    let xs = x.counts.went.events in let ps = p.counts.went.events in let ys = y.counts.went.events in let zs = settled.went.events in
    let ticks : sum_in ticks_by all.went.events ≡ count =
    sum_append ticks_by xs (ps ++ (ys ++ zs)) ∙ omega (arith, x.no_tick, sum_append ticks_by ps (ys ++ zs), p.ticked, sum_append ticks_by ys zs, y.no_tick, sum_one ticks_by (settles hurries)) in
    let missed_in : sum_in misses_by all.went.events ≡ missed =
    sum_append misses_by xs (ps ++ (ys ++ zs)) ∙ omega (arith, none_missed xs x.no_tick, sum_append misses_by ps (ys ++ zs), p.missed_are, sum_append misses_by ys zs, none_missed ys y.no_tick, sum_one misses_by (settles hurries)) in
    let done : turn.done ≡ old.turn.done = ap (λ (z : Turn). z.done) is ∙ (ap (λ (z : MomentState). z.turn.done) same ∙ p.done) in
    record {
      went = all.went;
      left = new.fresh ∷ [];
      given = all.given;
      steps_are = ap (λ (z : Turn). z.steps) is ∙ (all.steps_are ∙ (ap (raised (sum_in calls_by all.went.events)) (ap (λ (z : Turn). z.steps) first) ∙ raised_none (sum_in calls_by all.went.events)));
      done_are = ap (λ (z : Turn). z.done) is ∙ (all.done_are ∙ (ap (raised (sum_in uses_by all.went.events)) (ap (λ (z : Turn). z.done) first) ∙ raised_none (sum_in uses_by all.went.events)));
      used_are = ap (λ (z : Turn). z.used) is ∙ (all.used_are ∙ (ap (raised (sum_in ids_by all.went.events)) (ap (λ (z : Turn). z.used) first) ∙ raised_none (sum_in ids_by all.went.events)));
      deaf_are = ap (λ (z : Turn). z.deaf) is ∙ (all.deaf_are ∙ (ap (raised (sum_in deaf_by all.went.events)) (ap (λ (z : Turn). z.deaf) first) ∙ raised_none (sum_in deaf_by all.went.events)));
      followed_are = ap (λ (z : Turn). z.followed) is ∙ (all.followed_are ∙ ap (λ (z : Turn). followed_by all.went.events z.followed) first);
      ticked = omega (arith, ticks, some);
      few = let least : most_ticks turn.done ≡ most = ap most_ticks done ∙ sym bound in omega (arith, ticks, few, least);
      keeps_up = λ d. either_on (λ (kept : (count ≡ most) × (due ≡ true)). (ticks ∙ (kept.0 ∙ (bound ∙ ap most_ticks (sym done))), ap (λ (z : Stage). z.own.hurries) last ∙ due_hurries due accepts reads hurries hurry kept.1)) (λ (some : 0 < missed). omega (arith, missed_in, some))
          (let clock : new.drawn.clock ≡ mid.drawn.clock = ap (λ (z : MomentState). z.drawn.clock) same in
          keeps (due_core mid.drawn.clock u.node v.node core (subst (λ now. IsTickDue now v.node) clock (subst (λ (z : Stage). IsTickDue new.drawn.clock z.node) last d))));
      hurries_for = λ h. limit_of due accepts reads
          (λ e. by_ticks (ticks ∙ ((goes e).0 ∙ (bound ∙ ap most_ticks (sym done)))) (missed_in ∙ (goes e).1))
          (λ e. by_accepts (omega (arith, before.accepted e, sum_append accepts_by xs (ps ++ (ys ++ zs)))))
          (λ e. let r = before.read e in by_reads r.0 (omega (arith, r.1, sum_append (pieces_by r.0) xs (ps ++ (ys ++ zs)))))
          (sym hurry ∙ (sym (ap (λ (z : Stage). z.own.hurries) last) ∙ h));
      halted = ap (λ (z : Turn). z.halted) is ∙ sym (ap (λ (z : Stage). z.own.halted) last);
      lacked_is = ap (λ (z : Turn). z.lacked) is ∙ sym (ap (λ (z : Stage). lacked_since s.own.lacked z.own.lacked) last);
    }

pub tells_broke : {tells : Bool} {mode : SyncMode} {s t : Stage} (old new : MomentState) (r : Result Turn LoopFault) (why : LoopFault) → r ≡ Err why → HasBroken tells mode why old new s t → DoesTelling tells mode r old new s t
tells_broke {tells} {mode} {s} {t} old new r why e b = subst (λ (z : Result Turn LoopFault). DoesTelling tells mode z old new s t) (sym e) b

module _ {W F S : Type 0} (tells : Bool) (links : W → WireState) (failures : W → ℕ) (waited : W → Waited) (broke : F → ℕ) (told : F → Option (List ℕ)) (synced : F → Option ℕ) (drawn : S → DrawnState) where
  -- a fault behind ticks
  pub passes_broke : {more : Bool} {most : ℕ} (a b c d : Host W F S) (why : LoopFault) → IsSame waited broke a b → Goes tells links failures told synced drawn a b → IsSame waited broke b c → PassesOn tells links failures told synced drawn more most b c
      → HasBroken tells c.log.now.mode why (moment_in drawn c) (moment_in drawn d) (stage_in links failures told synced c) (stage_in links failures told synced d)
      → HasBroken tells a.log.now.mode why (moment_in drawn a) (moment_in drawn d) (stage_in links failures told synced a) (stage_in links failures told synced d)
  passes_broke a b c d why same x on p y =
      let ticks = passes_moded b.log.now.mode a.log.now.mode same.mode p.went in
      counts_broke (counts_on x.counts ticks.counts) (broke_moded c.log.now.mode a.log.now.mode (on.mode ∙ same.mode) y)
