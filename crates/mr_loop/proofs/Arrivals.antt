-- Links that are opened, read and dialled: the rows of these events, out of what the calls promise.
use Rattle.std.proofs.Common.{◌≡◌, ◌<◌, ◌≤◌, ◌≢◌, ◌+◌, ◌-◌, ℕ, zero, suc, List, [], ◌∷◌, Bool, true, length, take, Option, None, Some, Result, Ok, Err, OnOk, OnErr, if◌then◌else◌, arith, refl, sym, ap, subst, ◌∙◌}
use Rattle.std.specs.FinMap.{remove}
use Rattle.std.proofs.lemmas.List.{length-take-le}
use Rattle.mr_links.specs.declared.link_id.LinkId.{LinkId}
use Rattle.mr_node_links.specs.State.{EndState, full, serves, unread_in}
use Rattle.mr_node_links.specs.State.EndState.{client, waiting, replica, shut, upstream}
use Rattle.mr_file.specs.LogFile.{Rose}
use Rattle.mr_file.specs.declared.sync_mode.SyncMode.{SyncMode}
use Rattle.mr_node_output.specs.Outs.{OutsState, outs_of}
use Rattle.mr_node_spec.specs.State.{NodeState, end_of, room_at}
use Rattle.mr_node_spec.specs.LinkRows.{Dials}
use Rattle.mr_node.specs.Calls.{FeedRow, OpensNoMore}
use Rattle.mr_node.specs.declared.fault.NodeFault.{NodeFault}
use Rattle.mr_node.specs.declared.fault.NodeFault.TheVariants as refusal
use Rattle.mr_wire.specs.Wire.{LinkState, AcceptsNone, Opens, WireState}
use Rattle.mr_wire.proofs.Places.{one_more, put_and_removed}
use Rattle.mr_loop.specs.declared.fault.LoopFault.{LoopFault}
use Rattle.mr_loop.specs.declared.fault.LoopFault.TheVariants as fault
use Rattle.mr_loop.specs.declared.lacking.Asked.{Asked}
use Rattle.mr_loop.specs.declared.lacking.Lacked.{Lacked}
use Rattle.mr_loop.specs.Stage.{LoopState, Stage, losing}
use Rattle.mr_loop.specs.Carrying.{CarriesAs, SameFile}
use Rattle.mr_loop.specs.Causes.{Calls, Dropped, HasRoom, TurnsOff, at_dial, stays}
use Rattle.mr_loop.specs.Rows.{TurnsAway, acts, memory_lacked, opens_no_more, spills, tears, wire_failed}
use Rattle.mr_loop.specs.Counting.{MomentState, Renewed, one_where}
use Rattle.mr_loop.specs.Outcomes.{Does}
use Rattle.mr_loop.specs.Quiet.{AllWait}
use Rattle.mr_loop.proofs.Runs.{broke_one, still_one}
use Rattle.mr_loop.proofs.Supplying.{renewed_none, tells_none}
use Rattle.mr_loop.proofs.Waiting.{all_is, carried_all, dialled_all, ended_all, none_some, some_is}

-- ---- the wire

-- a link that was accepted, or opened to a peer, and closed
pub closed_again : (a m b : WireState) (l : LinkId) (e : LinkState) → Opens a l e m → b.open_links ≡ remove m.open_links l → b.opened ≡ m.opened → b.sent ≡ m.sent → AcceptsNone a b
closed_again a m b l e came went kept same = record {
  links = went ∙ (ap (λ (z : WireState). remove z.open_links l) came.links ∙ put_and_removed a.open_links l e came.fresh);
  opened = one_more a.opened b.opened (kept ∙ ap (λ (z : WireState). z.opened) came.links);
  sent = same ∙ ap (λ (z : WireState). z.sent) came.links;
}

-- ---- a host

-- what is answered is no fault
pub ok_no_err : {A : Type 0} (x : A) (why : LoopFault) → ◌≡◌ {A = Result A LoopFault} (Ok x) (Err why) → ⊥
ok_no_err x why e = cc

-- ---- the node

-- Where the bytes were refused, the node stays.
pub fed_none : (a b : NodeState) (l : LinkId) (bytes : List ℕ) (count : ℕ) (why : NodeFault) → FeedRow a l bytes count b (Err why) → b ≡ a
fed_none a b l bytes count refusal.Memory row = row.5
fed_none a b l bytes count refusal.Stopped row = row.1
fed_none a b l bytes count refusal.NoLink row = row.2
fed_none a b l bytes count refusal.InputFull row = row.1

pub dropped_all : {socket : LinkId} {link : Option LinkId} {s t : Stage} → Dropped socket link s t → AllWait s.node → AllWait t.node
dropped_all {socket} {link} {s} {t} d q = all_is d.node (ended_all link s.node q)

-- What is dropped of what the node and the loop's own state became is dropped of these.
pub dropped_from : {socket : LinkId} {link : Option LinkId} (s t : Stage) (b : NodeState) (o p : LoopState) → b ≡ s.node → o ≡ p → Dropped socket link (record s { node = b; own = o }) t → Dropped socket link (record s { own = p }) t
dropped_from {socket} {link} s t b o p e f d = subst (λ x. Dropped socket link (record s { own = x }) t) f (subst (λ n. Dropped socket link (record s { node = n; own = o }) t) e d)

-- ---- what was read, and refused

positive : (n : ℕ) → n ≢ 0 → 0 < n
positive zero some = absurd (some refl)
positive (suc n) some = omega arith

-- an end that takes so many bytes isn't full
too_much : (e : EndState) (count room : ℕ) → room_at (Some e) ≡ Some room → serves e ≡ true → full < length (unread_in e) + count → count ≤ room → 0 < count → ⊥
too_much (client u) count room is served over fits some = let left : full - length u ≡ room = some_is (full - length u) room is in omega (arith, left, over, fits, some)
too_much (waiting t u) count room is served over fits some = let left : full - length u ≡ room = some_is (full - length u) room is in omega (arith, left, over, fits, some)
too_much (replica u) count room is served over fits some = let left : full - length u ≡ room = some_is (full - length u) room is in omega (arith, left, over, fits, some)
too_much upstream count room is served over fits some = cc
too_much shut count room is served over fits some = cc

-- Where the node had room, what refuses bytes is that memory is lacking.
pub fed_lacks : (a b : NodeState) (l : LinkId) (bytes : List ℕ) (count : ℕ) (why : NodeFault) → HasRoom a l count → 0 < count → FeedRow a l bytes count b (Err why) → FeedRow a l bytes count a (Err refusal.Memory)
fed_lacks a b l bytes count refusal.Memory room some row = (row.0, row.1, row.2, row.3, row.4, refl)
fed_lacks a b l bytes count refusal.Stopped room some row = absurd (none_some room.room (sym (ap (λ u. if u then room_at (end_of a l) else None) row.0) ∙ room.is))
fed_lacks a b l bytes count refusal.NoLink room some row = absurd (none_some room.room (sym (ap (λ u. if u then room_at (end_of a l) else None) row.0 ∙ ap room_at row.1) ∙ room.is))
fed_lacks a b l bytes count refusal.InputFull room some row =
    let here = sym (ap (λ u. if u then room_at (end_of a l) else None) row.0.up ∙ ap room_at row.0.found) ∙ room.is in absurd (too_much row.0.end count room.room here row.0.served row.0.over room.fits some)

-- .. of bytes that were read, where it had room for all that may be
pub fed_refused : (a b : NodeState) (l : LinkId) (count : ℕ) (buffer : List ℕ) (why : NodeFault) → HasRoom a l (length buffer) → count ≤ length buffer → count ≢ 0
    → FeedRow a l (take count buffer) (length (take count buffer)) b (Err why) → FeedRow a l (take count buffer) (length (take count buffer)) a (Err refusal.Memory)
fed_refused a b l count buffer why room within some row =
    let all : length (take count buffer) ≡ count = length-take-le count buffer within in
    let few : HasRoom a l (length (take count buffer)) = record { room = room.room; is = room.is; fits = omega (arith, all, within, room.fits) } in
    let any : 0 < length (take count buffer) = omega (arith, all, positive count some) in
    fed_lacks a b l (take count buffer) (length (take count buffer)) why few any row

-- as many bytes as were read
pub room_for : (a : NodeState) (l : LinkId) (count most : ℕ) → HasRoom a l most → count ≤ most → HasRoom a l count
room_for a l count most room within = record { room = room.room; is = room.is; fits = omega (arith, room.fits, within) }

-- ---- no connection comes of a link

own_lacked : (o p : LoopState) (k : Lacked) → p ≡ record o { lacked = k } → p ≡ record o { lacked = p.lacked }
own_lacked o p k e = e ∙ ap (λ n. record o { lacked = n }) (sym (ap (λ (z : LoopState). z.lacked) e))

-- since memory ran out
pub lacks_row : {what : Asked} {s t : Stage} → AcceptsNone s.wire t.wire → s.failed ≤ t.failed → TurnsOff s.node t.node → t.own ≡ losing what s.own → SameFile s t → TurnsAway what s t
lacks_row {what} {s} {t} wire later node own file = record {
  wire = wire;
  later = later;
  node = node;
  own = own_lacked s.own t.own _ own;
  why = memory_lacked (ap (λ (z : LoopState). z.lacked) own);
  file = file;
}

-- .. or the wire failed
pub failed_row : {what : Asked} {s t : Stage} → AcceptsNone s.wire t.wire → Rose s.failed t.failed → s.failed ≤ t.failed → t.node ≡ s.node → t.own ≡ s.own → SameFile s t → TurnsAway what s t
failed_row {what} {s} {t} wire rose later node own file = record {
  wire = wire;
  later = later;
  node = stays node;
  own = own_lacked s.own t.own s.own.lacked own;
  why = wire_failed rose node (ap (λ (z : LoopState). z.lacked) own);
  file = file;
}

-- .. or the node opens no more
pub full_row : {what : Asked} {s t : Stage} (stopped : NodeState) → AcceptsNone s.wire t.wire → s.failed ≤ t.failed → OpensNoMore s.node stopped → t.node ≡ s.node → t.own ≡ s.own → SameFile s t → TurnsAway what s t
full_row {what} {s} {t} stopped wire later opens node own file = record {
  wire = wire;
  later = later;
  node = stays node;
  own = own_lacked s.own t.own s.own.lacked own;
  why = opens_no_more stopped opens node (ap (λ (z : LoopState). z.lacked) own);
  file = file;
}

-- ---- the link to the master

no_id : {a b : NodeState} {l : LinkId} {outs : OutsState} → Dials a l b outs → outs.used ≡ None
no_id d = ap (λ (o : OutsState). o.used) d.outs_are

-- The master was dialled, and what the node gave out was carried out, or wasn't.
pub dialled_as : (tells : Bool) (mode : SyncMode) (r : Result (Unit {0}) LoopFault) (old new : MomentState) (outs : OutsState) (socket link : LinkId) (s m t : Stage)
    → Calls (at_dial socket link) s m outs → CarriesAs r (outs_of outs) m t → OnOk r (Renewed outs.used old new) → OnErr r (new ≡ old) → Does tells mode r old new s t
dialled_as tells mode (Ok done) old new outs socket link s m t calls carried moment kept = still_one (acts (at_dial socket link) outs) old new refl refl refl refl (ap (λ (o : Option (List ℕ)). one_where o) (no_id calls.dials)) refl refl refl (λ ids. (no_id calls.dials, refl))
    (record { called = m; calls = calls; carried = carried })
    (renewed_none outs.used old new (no_id calls.dials) moment)
dialled_as tells mode (Err fault.File) old new outs socket link s m t calls carried moment kept =
    broke_one (tears (at_dial socket link) outs) (old.fresh ∷ []) refl (no_id calls.dials, refl) (tells_none (ap (λ (z : MomentState). z.drawn) kept)) (record { called = m; calls = calls; torn = carried })
dialled_as tells mode (Err fault.Stopped) old new outs socket link s m t calls carried moment kept =
    broke_one (spills (at_dial socket link) outs) (old.fresh ∷ []) refl (no_id calls.dials, refl) (tells_none (ap (λ (z : MomentState). z.drawn) kept)) (record { called = m; calls = calls; spilled = carried })
dialled_as tells mode (Err fault.Listener) old new outs socket link s m t calls carried moment kept = absurd carried

-- .. and what waits then
pub dialled_waits : (r : Result (Unit {0}) LoopFault) (outs : OutsState) (link : LinkId) (a : NodeState) (m t : Stage) → Dials a link m.node outs → CarriesAs r (outs_of outs) m t → AllWait a → OnOk r (AllWait t.node)
dialled_waits (Ok done) outs link a m t dials carried q = carried_all (outs_of outs) m t carried (dialled_all dials q)
dialled_waits (Err why) outs link a m t dials carried q = tt

-- .. where the loop's own state stayed before
pub from_own : {A : Type 0} (tells : Bool) (mode : SyncMode) (r : Result A LoopFault) (old new : MomentState) (s t : Stage) (o : LoopState) → o ≡ s.own → Does tells mode r old new (record s { own = o }) t → Does tells mode r old new s t
from_own tells mode r old new s t o e h = subst (λ x. Does tells mode r old new (record s { own = x }) t) e h
