-- That a turn changes its node by calls alone.
use Rattle.std.proofs.Common.{◌≡◌, ◌≢◌, ◌≤◌, ◌<◌, ◌+◌, ◌-◌, ◌++◌, ◌⊎◌, inl, inr, ℕ, List, [], ◌∷◌, Bool, true, Option, None, Some, Ok, Err, length, take, length-take, append-nil, append_assoc, refl, sym, ap, subst, ◌∙◌, arith}
use Rattle.std.specs.Prelude.{IfSome, if◌then◌else◌}
use Rattle.mr_links.specs.declared.link_id.LinkId.{LinkId}
use Rattle.mr_file.specs.declared.sync_mode.SyncMode.{SyncMode}
use Rattle.mr_node_output.specs.Outs.{OutState, OutsState, grow, append, replace, send, close, use_id, follow, halt, outs_of}
use Rattle.mr_node_links.specs.State.{EndState, opened_as, serves, unread_in, full}
use Rattle.mr_node_links.specs.State.EndState.{client as alone, waiting, replica, upstream, shut}
use Rattle.mr_follower.specs.State.{FollowState}
use Rattle.mr_node_spec.specs.State.{IsTooMuch, NodeState, end_of, room_at, stopped_as}
use Rattle.mr_node_spec.specs.Sound.{IsReading, IsSound}
use Rattle.mr_node_spec.specs.LinkRows.{Opens, closed_at}
use Rattle.mr_node_state.proofs.Nodes.{closed_node, opened_node}
use Rattle.mr_node.specs.Calls.{FitsMore, OpensNoMore}
use Rattle.mr_node.specs.declared.fault.NodeFault.TheVariants as refusal
use Rattle.mr_node.specs.declared.step.Step.TheVariants as step
use Rattle.mr_loop.specs.Stage.{Stage}
use Rattle.mr_loop.specs.Carrying.{Carried}
use Rattle.mr_loop.specs.Causes.{Act, Calls, HasRoom, Stop, Stopping, TurnsOff, at_dial, at_step, at_tick, ended_at, stops_at_open, stops_at_step, stops_at_tick, was_down}
use Rattle.mr_loop.specs.Rows.{Event, fault_of, Happens, Run, acts, appends, breaks, closes, fails, finds_none, hears_end, idles, is_deaf, is_refused, joins, loses, misses, misses_dial, misses_tick, settles, spills, stops, takes, tears, turns_away, waits, wakes, writes}
use Rattle.mr_world.proofs.Kept.{reads_on, reads_without}
use Rattle.law_servers.specs.Calling.{AreCalls, Breaks, break, call_of, calls_at, client, closings, deliver, dial, FaultsCall, IsByCalls, IsCall, Makes, MakesAll, MakesSome, NodeCall, OpensNone, opens_no_more, step as stepping, TurnsCall}

-- ---- what was sound is sound behind a call
opens_sound : (a b : NodeState) (l : LinkId) → Opens a l b → IsSound a → IsSound b
opens_sound a b l o i = subst IsSound (sym o.node) (record {
  node = opened_node a l [] i.node o.fresh;
  window = i.window;
  id = i.id;
  second = i.second;
  upstream = i.upstream;
  reading = reads_on a (opened_as a.ends l (alone [])) a.follow i.reading;
})

closes_sound : (a b : NodeState) (l : LinkId) → b ≡ closed_at l a → IsSound a → IsSound b
closes_sound a b l e i = subst IsSound (sym e) (record {
  node = closed_node a l i.node;
  window = i.window;
  id = i.id;
  second = i.second;
  upstream = i.upstream;
  reading = reads_without a l a.follow i.reading;
})

stops_sound : (a b : NodeState) → OpensNoMore a b → IsSound a → IsSound b
stops_sound a b (OpensNoMore.down down e) i = subst IsSound (sym e) i
stops_sound a b (OpensNoMore.spent up many e) i = subst IsSound (sym e) (record {
  node = record { followed = i.node.followed; only = i.node.only; sends = i.node.sends; nobody = i.node.nobody };
  window = i.window;
  id = i.id;
  second = i.second;
  upstream = i.upstream;
  reading = reads_stopped a.follow i.reading;
})
  where
    reads_stopped : (o : Option (LinkId × FollowState)) → IfSome o (λ f. IsReading a f.1) → IfSome o (λ f. IsReading (stopped_as a) f.1)
    reads_stopped None h = tt
    reads_stopped (Some f) h = record { reader = h.reader; follower = h.follower; port = h.port }

-- ---- calls one after another
one : (a b : NodeState) (call : NodeCall) → IsCall a call b → (IsSound a → IsSound b) → AreCalls a (call ∷ []) b
one a b call c sound = (b, c, sound, refl)

two : (a m b : NodeState) (first second : NodeCall) → IsCall a first m → (IsSound a → IsSound m) → IsCall m second b → (IsSound m → IsSound b) → AreCalls a (first ∷ second ∷ []) b
two a m b first second c p d q = (m, c, p, (b, d, q, refl))

closes_end : (a b : NodeState) (l : LinkId) → b ≡ closed_at l a → AreCalls a (break l ∷ []) b
closes_end a b l e = one a b (break l) e (closes_sound a b l e)

joined : (a m b : NodeState) (xs ys : List NodeCall) → AreCalls a xs m → AreCalls m ys b → AreCalls a (xs ++ ys) b
joined a m b [] ys p q = subst (λ (z : NodeState). AreCalls z ys b) p q
joined a m b (x ∷ xs) ys p q = (p.0, p.1, p.2, joined p.0 m b xs ys p.3 q)

carried : (outs : List OutState) (s t : Stage) → Carried outs s t → AreCalls s.node (closings outs) t.node
carried [] s t c = ap (λ (z : Stage). z.node) c
carried (grow bytes ∷ outs) s t c = subst (λ (z : NodeState). AreCalls z (closings outs) t.node) (ap (λ (z : Stage). z.node) c.1) (carried outs c.0 t c.2)
carried (append bytes ∷ outs) s t c = subst (λ (z : NodeState). AreCalls z (closings outs) t.node) (ap (λ (z : Stage). z.node) c.1) (carried outs c.0 t c.2)
carried (replace bytes ∷ outs) s t c = subst (λ (z : NodeState). AreCalls z (closings outs) t.node) c.1.node (carried outs c.0 t c.2)
carried (send link bytes ∷ outs) s t c = subst (λ (z : NodeState). AreCalls z (closings outs) t.node) (ap (λ (z : Stage). z.node) c.1) (carried outs c.0 t c.2)
carried (close link ∷ outs) s t c = let e = ap (λ (z : Stage). z.node) c.1 in (c.0.node, e, closes_sound s.node c.0.node link e, carried outs c.0 t c.2)
carried (use_id id ∷ outs) s t c = subst (λ (z : NodeState). AreCalls z (closings outs) t.node) (ap (λ (z : Stage). z.node) c.1) (carried outs c.0 t c.2)
carried (follow address ∷ outs) s t c = subst (λ (z : NodeState). AreCalls z (closings outs) t.node) (ap (λ (z : Stage). z.node) c.1) (carried outs c.0 t c.2)
carried (halt ∷ outs) s t c = subst (λ (z : NodeState). AreCalls z (closings outs) t.node) (ap (λ (z : Stage). z.node) c.1) (carried outs c.0 t c.2)

called : (act : Act) (s m : Stage) (outs : OutsState) → Calls act s m outs → IsCall s.node (call_of act outs) m.node
called (at_step socket link given fresh news) s m outs h = h.stepped.row
called (at_tick given) s m outs h = h.row
called (at_dial socket link) s m outs h = h.dials

called_sound : (act : Act) (s m : Stage) (outs : OutsState) → Calls act s m outs → IsSound m.node
called_sound (at_step socket link given fresh news) s m outs h = h.stepped.sound
called_sound (at_tick given) s m outs h = h.sound
called_sound (at_dial socket link) s m outs h = h.sound

-- ---- no more bytes come than an end takes
taken : (unread : List ℕ) (room count n : ℕ) → ◌≡◌ {A = Option ℕ} (Some (full - length unread)) (Some room) → count ≤ room → n ≤ count → n ≢ 0 → full < length unread + n → ⊥
taken unread room count n is few less some past = let left : full - length unread ≡ room = cc in some (omega (arith, left, few, less, past))

fits_at : (end : EndState) (room count n : ℕ) → serves end ≡ true → room_at (Some end) ≡ Some room → count ≤ room → n ≤ count → n ≢ 0 → full < length (unread_in end) + n → ⊥
fits_at (alone unread) room count n served is few less some over = taken unread room count n is few less some over
fits_at (waiting t unread) room count n served is few less some over = taken unread room count n is few less some over
fits_at (replica unread) room count n served is few less some over = taken unread room count n is few less some over
fits_at upstream room count n served is few less some over = absurd (cc)
fits_at shut room count n served is few less some over = absurd (cc)

fits : (a : NodeState) (l : LinkId) (count n : ℕ) → HasRoom a l count → n ≤ count → FitsMore a l n
fits a l count n has less some t =
    let is : room_at (Some t.end) ≡ Some has.room = sym (ap room_at t.found) ∙ (sym (ap (λ b. if b then room_at (end_of a l) else None) t.up) ∙ has.is) in
    fits_at t.end has.room count n t.served is has.fits less some t.over

pub no_longer : (count : ℕ) (xs : List ℕ) → length (take count xs) ≤ count
no_longer count xs = let h = length-take count xs in omega (arith, h)

-- ---- one event
pub record OneBy (e : Event) (a b : NodeState) : Type 0 where
  pub calls : List NodeCall
  pub are : AreCalls a calls b
  pub made : Makes e calls

opens_none : (a b : NodeState) → TurnsOff a b → (calls : List NodeCall) × AreCalls a calls b × OpensNone calls
opens_none a b (TurnsOff.stays e) = ([], e, OpensNone.nothing refl)
opens_none a b (TurnsOff.opens_and_closes mid link o e) = (client link ∷ break link ∷ [], two a mid b (client link) (break link) o (opens_sound a mid link o) e (closes_sound mid b link e), OpensNone.client_and_break link refl)
opens_none a b (TurnsOff.dials_and_closes mid link outs d sound e) = (dial link outs ∷ break link ∷ [], two a mid b (dial link outs) (break link) d (λ before. sound) e (closes_sound mid b link e), OpensNone.dial_and_break link outs refl)

ends : (link : Option LinkId) (a b : NodeState) → b ≡ ended_at link a → (calls : List NodeCall) × AreCalls a calls b × ((calls ≡ []) ⊎ Breaks calls)
ends None a b e = ([], e, inl refl)
ends (Some link) a b e = (break link ∷ [], closes_end a b link e, inr (record { link = link; are = refl }))

-- the outs before one that failed
made_some : (act : Act) (outs : OutsState) (done rest : List OutState) (s m before t : Stage) → outs_of outs ≡ done ++ rest → Calls act s m outs → Carried done m before → t.node ≡ before.node
    → (calls : List NodeCall) × AreCalls s.node calls t.node × MakesSome act outs calls
made_some act outs done rest s m before t are c carries same = (
  call_of act outs ∷ closings done,
  (m.node, called act s m outs c, (λ before. called_sound act s m outs c), subst (λ (z : NodeState). AreCalls m.node (closings done) z) (sym same) (carried done m before carries)),
  record { done = done; rest = rest; are = are; made = refl },
)

stopped : (stop : Stop) (a b : NodeState) → Stopping stop a b → AreCalls a (calls_at stop) b
stopped (stops_at_step link given fresh) a b h = one a b (stepping link given fresh (Err refusal.Stopped)) h.row (λ before. h.sound)
stopped (stops_at_tick given) a b h = h.1
stopped stops_at_open a b h = one a b opens_no_more h (stops_sound a b h)
stopped was_down a b h = h.1

module _ (tells : Bool) (mode : SyncMode) where
  by : (e : Event) (s t : Stage) → Happens tells mode s e t → OneBy e s.node t.node
  by (wakes now) s t h = record { calls = []; are = ap (λ (z : Stage). z.node) h.is; made = refl }
  by waits s t h = record { calls = []; are = ap (λ (z : Stage). z.node) h.is; made = refl }
  by (joins j l) s t h = record { calls = client l ∷ []; are = one s.node t.node (client l) h.node (opens_sound s.node t.node l h.node); made = refl }
  by turns_away s t h = let c = opens_none s.node t.node h.node in record { calls = c.0; are = c.1; made = c.2 }
  by (takes j bytes) s t h =
      let few = subst (λ (z : List ℕ). length z ≤ h.count) (sym h.bytes_are) (no_longer h.count h.buffer) in
      record { calls = deliver h.link bytes ∷ []; are = one s.node t.node (deliver h.link bytes) (h.node.feeds, fits s.node h.link h.count (length bytes) h.room few) (λ before. h.node.sound); made = (h.link, refl) }
  by (finds_none j) s t h = record { calls = []; are = h.node; made = refl }
  by (hears_end j l) s t h = record { calls = break l ∷ []; are = closes_end s.node t.node l h.node; made = refl }
  by (loses j) s t h = record { calls = break h.link ∷ []; are = closes_end s.node t.node h.link h.dropped.node; made = record { link = h.link; are = refl } }
  by (misses j) s t h = record { calls = break h.link ∷ []; are = closes_end s.node t.node h.link h.dropped.node; made = record { link = h.link; are = refl } }
  by (is_refused j l given fresh) s t h = record {
    calls = stepping l given fresh (Err refusal.Memory) ∷ break l ∷ [];
    are = two s.node h.node t.node (stepping l given fresh (Err refusal.Memory)) (break l) h.refused.row (λ before. h.refused.sound) h.dropped.node (closes_sound h.node t.node l h.dropped.node);
    made = refl;
  }
  by (is_deaf j l) s t h = record { calls = break l ∷ []; are = closes_end s.node t.node l h.dropped.node; made = refl }
  by (idles j l given fresh) s t h = record { calls = stepping l given fresh (Ok step.Idle) ∷ []; are = one s.node t.node (stepping l given fresh (Ok step.Idle)) h.node.row (λ before. h.node.sound); made = refl }
  by (acts act outs) s t h = record {
    calls = call_of act outs ∷ closings (outs_of outs);
    are = (h.called.node, called act s h.called outs h.calls, (λ before. called_sound act s h.called outs h.calls), carried (outs_of outs) h.called t h.carried);
    made = refl;
  }
  by (spills act outs) s t h =
      let c = made_some act outs h.spilled.done (h.spilled.last ∷ h.spilled.rest) s h.called h.spilled.before t h.spilled.are h.calls h.spilled.carried (ap (λ (z : Stage). z.node) h.spilled.lacks) in
      record { calls = c.0; are = c.1; made = c.2 }
  by (tears act outs) s t h =
      let c = made_some act outs h.torn.done (replace h.torn.bytes ∷ h.torn.rest) s h.called h.torn.before t h.torn.are h.calls h.torn.carried h.torn.node in
      record { calls = c.0; are = c.1; made = c.2 }
  by (writes j bytes) s t h = record { calls = []; are = h.node; made = refl }
  by (breaks j) s t h = let c = ends h.link s.node t.node h.dropped.node in record { calls = c.0; are = c.1; made = c.2 }
  by (closes j) s t h = record { calls = []; are = h.dropped.node; made = refl }
  by (appends texts) s t h = record { calls = []; are = h.node; made = refl }
  by fails s t h = record { calls = []; are = h.node; made = refl }
  by (misses_tick given) s t h = record { calls = []; are = ap (λ (z : Stage). z.node) h.is; made = refl }
  by misses_dial s t h = let c = opens_none s.node t.node h.node in record { calls = c.0; are = c.1; made = c.2 }
  by (settles hurries) s t h = record { calls = []; are = ap (λ (z : Stage). z.node) h.is; made = refl }
  by (stops stop) s t h = record { calls = calls_at stop; are = stopped stop s.node t.node h.why; made = refl }

  all : (es : List Event) (s t : Stage) → Run tells mode s es t → IsByCalls es s.node t.node
  all [] s t run = record { calls = []; are = ap (λ (z : Stage). z.node) run; made = refl }
  all (e ∷ es) s t run =
      let first = by e s run.0 run.2 in
      let rest = all es run.0 t run.3 in record {
        calls = first.calls ++ rest.calls;
        are = joined s.node run.0.node t.node first.calls rest.calls first.are rest.are;
        made = (first.calls, rest.calls, refl, first.made, rest.made);
      }

  -- two lists of events, one behind the other
  both : (es fs : List Event) (a m b : NodeState) → IsByCalls es a m → IsByCalls fs m b → IsByCalls (es ++ fs) a b
  both es fs a m b p q = record { calls = p.calls ++ q.calls; are = joined a m b p.calls q.calls p.are q.are; made = made_both es fs p.calls q.calls p.made q.made }
    where
      made_both : (es fs : List Event) (xs ys : List NodeCall) → MakesAll es xs → MakesAll fs ys → MakesAll (es ++ fs) (xs ++ ys)
      made_both [] fs xs ys p q = subst (λ z. MakesAll fs (z ++ ys)) (sym p) q
      made_both (e ∷ es) fs xs ys p q = (p.0, p.1 ++ ys, ap (λ z. z ++ ys) p.2 ∙ append_assoc p.0 p.1 ys, p.3, made_both es fs p.1 ys p.4 q)

  alone_by : (e : Event) (s t : Stage) → Happens tells mode s e t → IsByCalls (e ∷ []) s.node t.node
  alone_by e s t h = let x = by e s t h in record { calls = x.calls; are = x.are; made = (x.calls, [], sym (append-nil x.calls), x.made, refl) }

pub turns_call : TurnsCall
turns_call tells mode s t events run = all tells mode events s t run

pub faults_call : FaultsCall
faults_call tells mode unused drawn after why s t broke =
    both tells mode broke.went.events (broke.last ∷ []) s.node broke.before.node t.node (all tells mode broke.went.events s broke.before broke.went.run) (alone_by tells mode broke.last broke.before t broke.happens)
