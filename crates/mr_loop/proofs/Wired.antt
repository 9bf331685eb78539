-- What a wire that tells its bytes tells of the connections.
use Rattle.std.proofs.Common.{◌≡◌, ◌++◌, ℕ, List, [], ◌∷◌, Bool, true, false, cond, Option, None, Some, take, append-nil, append_assoc, refl, sym, ap, subst, ◌∙◌, if◌then◌else◌}
use Rattle.std.specs.Ordering.{eq_by_cmp}
use Rattle.std.specs.Option.{option_map}
use Rattle.std.specs.FinMap.{empty, get, insert, remove, get-insert, get-remove, get-empty}
use Rattle.mr_links.specs.LinkId.{id_cmp}
use Rattle.mr_links.specs.declared.link_id.LinkId.{LinkId}
use Rattle.mr_links.proofs.LinkRows.{ids_total}
use Rattle.mr_file.specs.declared.sync_mode.SyncMode.{SyncMode}
use Rattle.mr_node_output.specs.Outs.{OutState, OutsState, grow, append, replace, send, close, use_id, follow, halt, outs_of}
use Rattle.mr_wire.specs.Wire.{LinkState, Opens, WireState, asked_link, behind_read, behind_write, count_of, new_link, bytes_moved, sent_on}
use Rattle.mr_wire.specs.declared.wire.Moved.{Moved}
use Rattle.mr_wire.specs.declared.wire.Moved.TheVariants as answered
use Rattle.mr_connections.specs.State.{ConnectionState, Rows, begun, changed, left, pushed, where_linked, with_each, wrote}
use Rattle.mr_connections.proofs.Changed.{get-changed}
use Rattle.mr_connections.proofs.Each.{get-with_each}
use Rattle.mr_loop.specs.declared.lacking.Asked.TheVariants as asked
use Rattle.mr_loop.specs.Lacking.{told_with}
use Rattle.mr_loop.specs.Stage.{Stage, LoopState, connection_at, losing}
use Rattle.mr_loop.specs.Carrying.{Carries}
use Rattle.mr_loop.specs.Causes.{Act, Calls, Dropped, Touches, at_dial, at_step, at_tick}
use Rattle.mr_loop.specs.Rows.{Event, fault_of, Happens, Run, acts, appends, behind_refusal, breaks, closes, fails, finds_none, hears_end, idles, is_deaf, is_refused, joins, loses, misses, misses_dial, misses_tick, settles, spills, stops, takes, tears, turns_away, waits, wakes, writes}
use Rattle.mr_loop.specs.Sent.{drops, moved_by, moved_in, moved_of, moved_on, told_by, told_in, StaysIn, HaveSockets, HaveSocketsFirst, HaveSocketsAlways, SendsNothingElse, WireHasWhatIsSent}
use Rattle.mr_loop.proofs.Carried.{carried_by, carried_wire}
use Rattle.mr_loop.proofs.Halting.{no_fault}
use Rattle.mr_loop.proofs.Sending.{in_order, kept}
use Rattle.mr_loop.proofs.Touching.{here_put, other_put, put_at, touched_links, touched_sent}
use Rattle.mr_loop.proofs.Waiting.{is_one, none_some}

-- ---- connections

-- each connection that is there was there
record WereThere (m n : Rows) : Type 0 where
  each : (k : LinkId) (d : ConnectionState) → get n k ≡ Some d → (c : ConnectionState) × (get m k ≡ Some c)

were_same : {m n : Rows} → n ≡ m → WereThere m n
were_same e = record { each = λ k d here. (d, ap (λ r. get r k) (sym e) ∙ here) }

mapped_there : (f : ConnectionState → ConnectionState) (o : Option ConnectionState) (d : ConnectionState) → option_map f o ≡ Some d → (c : ConnectionState) × (o ≡ Some c)
mapped_there f None d e = absurd (none_some d e)
mapped_there f (Some c) d e = (c, refl)

were_each : (f : ConnectionState → ConnectionState) (m n : Rows) → n ≡ with_each f m → WereThere m n
were_each f m n e = record { each = λ k d here. mapped_there f (get m k) d (sym (get-with_each f m k) ∙ (sym (ap (λ r. get r k) e) ∙ here)) }

were_changed : (j : LinkId) (f : ConnectionState → ConnectionState) (m n : Rows) → n ≡ changed j f m → WereThere m n
were_changed j f m n e = record {
  each = λ k d here. elim (eq_by_cmp id_cmp k j) as (λ v. eq_by_cmp id_cmp k j ≡ v → cond v (option_map f (get m j)) (get m k) ≡ Some d → (c : ConnectionState) × (get m k ≡ Some c)) [
    | true ↦ λ h is. let old = mapped_there f (get m j) d is in (old.0, ap (get m) (is_one k j h) ∙ old.1)
    | false ↦ λ h is. (d, is)
  ] refl (sym (get-changed j f m k) ∙ (sym (ap (λ r. get r k) e) ∙ here));
}

-- ---- links

record StaysOpen (v w : WireState) : Type 0 where
  each : (l : LinkId) (e : LinkState) → get v.open_links l ≡ Some e → (f : LinkState) × (get w.open_links l ≡ Some f)

same_open : {v w : WireState} → w.open_links ≡ v.open_links → StaysOpen v w
same_open same = record { each = λ l e there. (e, ap (λ m. get m l) same ∙ there) }

put_open : (v w : WireState) (n : LinkId) (f : LinkState) → w.open_links ≡ insert v.open_links n f → StaysOpen v w
put_open v w n f own = record {
  each = λ l e there. elim (eq_by_cmp id_cmp l n) as (λ b. eq_by_cmp id_cmp l n ≡ b → (z : LinkState) × (get w.open_links l ≡ Some z)) [
    | true ↦ λ h. (f, put_at v w n l f own ∙ ap (λ b. cond b (Some f) (get v.open_links l)) h)
    | false ↦ λ h. (e, put_at v w n l f own ∙ (ap (λ b. cond b (Some f) (get v.open_links l)) h ∙ there))
  ] refl;
}

touched_open : (v w : WireState) (n : LinkId) (f : LinkState → LinkState) (bytes : List ℕ) → Touches v n f bytes w → StaysOpen v w
touched_open v w n f bytes t = elim (get v.open_links n) as (λ o. get v.open_links n ≡ o → StaysOpen v w) [
  | None ↦ λ e. same_open (ap (λ (z : WireState). z.open_links) (t.absent e))
  | Some x ↦ λ e. put_open v w n (f x) (touched_links v w n f bytes x e t.changes)
] refl

-- ---- each connection goes on having its socket

socketed : (s t : Stage) → HaveSockets s → WereThere s.own.connections t.own.connections → StaysOpen s.wire t.wire → HaveSockets t
socketed s t h there stays = record {
  each = λ k d here.
      let old = there.each k d here in
      let socket = h.each k old.0 old.1 in
      stays.each k socket.0 socket.1;
}

by_own : {o p : LoopState} → p ≡ o → WereThere o.connections p.connections
by_own e = were_same (ap (λ (z : LoopState). z.connections) e)

same_wire : {v w : WireState} → w ≡ v → StaysOpen v w
same_wire e = same_open (ap (λ (z : WireState). z.open_links) e)

-- a connection begins on a link that is new
began : (s t : Stage) (j : LinkId) (d : ConnectionState) (e : LinkState) → HaveSockets s → Opens s.wire j e t.wire → t.own.connections ≡ insert s.own.connections j d → HaveSockets t
began s t j d e h wire own = record {
  each = λ k c here. elim (eq_by_cmp id_cmp k j) as (λ v. eq_by_cmp id_cmp k j ≡ v → cond v (Some d) (connection_at s.own k) ≡ Some c → (z : LinkState) × (get t.wire.open_links k ≡ Some z)) [
    | true ↦ λ one is. (e, ap (get t.wire.open_links) (is_one k j one) ∙ here_put s.wire t.wire j e (ap (λ (z : WireState). z.open_links) wire.links))
    | false ↦ λ other is. let socket = h.each k c is in (put_open s.wire t.wire j e (ap (λ (z : WireState). z.open_links) wire.links)).each k socket.0 socket.1
  ] refl (sym (get-insert ids_total s.own.connections j d k) ∙ (sym (ap (λ m. get m k) own) ∙ here));
}

-- a link that is closed, for another
other_closed : (v w : WireState) (n l : LinkId) → eq_by_cmp id_cmp l n ≡ false → w.open_links ≡ remove v.open_links n → get w.open_links l ≡ get v.open_links l
other_closed v w n l other own = ap (λ m. get m l) own ∙ (get-remove ids_total v.open_links n l ∙ ap (λ b. cond b None (get v.open_links l)) other)

-- both are closed
dropped_both : (s t : Stage) (j : LinkId) (link : Option LinkId) → HaveSockets s → Dropped j link s t → HaveSockets t
dropped_both s t j link h d = record {
  each = λ k c here. elim (eq_by_cmp id_cmp k j) as (λ v. eq_by_cmp id_cmp k j ≡ v → cond v None (connection_at s.own k) ≡ Some c → (z : LinkState) × (get t.wire.open_links k ≡ Some z)) [
    | true ↦ λ one is. absurd (none_some c is)
    | false ↦ λ other is. let socket = h.each k c is in (socket.0, other_closed s.wire t.wire j k other d.wire ∙ socket.1)
  ] refl (sym (get-remove ids_total s.own.connections j k) ∙ (sym (ap (λ m. get m k) d.connections) ∙ here));
}

-- .. behind a read or a write
touched_dropped : (s t : Stage) (j : LinkId) (link : Option LinkId) (f : LinkState → LinkState) (bytes : List ℕ) (wire : WireState) (failed : ℕ) → HaveSockets s → Touches s.wire j f bytes wire → Dropped j link (record s { wire = wire; failed = failed }) t → HaveSockets t
touched_dropped s t j link f bytes wire failed h touched d =
    let called = record s { wire = wire; failed = failed } in dropped_both called t j link (socketed s called h (were_same refl) (touched_open s.wire wire j f bytes touched)) d

carries_sockets : (out : OutState) (s t : Stage) → Carries out s t → HaveSockets s → HaveSockets t
carries_sockets (grow bytes) s t c h = subst HaveSockets (sym c) h
carries_sockets (append bytes) s t c h = socketed s t h (were_same (ap (λ (z : Stage). z.own.connections) c)) (same_wire (ap (λ (z : Stage). z.wire) c))
carries_sockets (replace bytes) s t c h = socketed s t h (by_own c.own) (same_wire c.wire)
carries_sockets (send x bytes) s t c h = socketed s t h (were_each (where_linked x (pushed bytes)) s.own.connections t.own.connections (ap (λ (z : Stage). z.own.connections) c)) (same_wire (ap (λ (z : Stage). z.wire) c))
carries_sockets (close x) s t c h = socketed s t h (were_each (where_linked x left) s.own.connections t.own.connections (ap (λ (z : Stage). z.own.connections) c)) (same_wire (ap (λ (z : Stage). z.wire) c))
carries_sockets (use_id id) s t c h = subst HaveSockets (sym c) h
carries_sockets (follow address) s t c h = subst HaveSockets (sym c) h
carries_sockets halt s t c h = socketed s t h (were_same (ap (λ (z : Stage). z.own.connections) c)) (same_wire (ap (λ (z : Stage). z.wire) c))

by_stage : {s t : Stage} → HaveSockets s → t.own ≡ s.own → t.wire ≡ s.wire → HaveSockets t
by_stage {s} {t} h own wire = socketed s t h (by_own own) (same_wire wire)

called_sockets : (act : Act) (s m : Stage) (outs : OutsState) → Calls act s m outs → HaveSockets s → HaveSockets m
called_sockets (at_step socket link given fresh news) s m outs c h = by_stage h (ap (λ (z : Stage). z.own) c.same) (ap (λ (z : Stage). z.wire) c.same)
called_sockets (at_tick given) s m outs c h = by_stage h (ap (λ (z : Stage). z.own) c.same) (ap (λ (z : Stage). z.wire) c.same)
called_sockets (at_dial socket link) s m outs c h = began s m socket (begun link) (asked_link c.connects.0) h c.connects.2 c.connections

module _ (tells : Bool) (mode : SyncMode) where
  sockets_kept : (e : Event) (s t : Stage) → HaveSockets s → fault_of e ≡ None → Happens tells mode s e t → HaveSockets t
  sockets_kept (wakes now) s t held goes_on h = by_stage held (ap (λ (z : Stage). z.own) h.is) (ap (λ (z : Stage). z.wire) h.is)
  sockets_kept waits s t held goes_on h = by_stage held (ap (λ (z : Stage). z.own) h.is) (ap (λ (z : Stage). z.wire) h.is)
  sockets_kept (joins j l) s t held goes_on h = began s t j (begun l) new_link held h.wire h.connections
  sockets_kept turns_away s t held goes_on h = socketed s t held (by_own h.own) (same_open h.wire.links)
  sockets_kept (takes j bytes) s t held goes_on h = socketed s t held (by_own h.own) (touched_open s.wire t.wire j (behind_read tells (answered.Bytes h.count) h.buffer) [] h.wire)
  sockets_kept (finds_none j) s t held goes_on h = socketed s t held (by_own h.own) (touched_open s.wire t.wire j (behind_read tells h.answer h.buffer) [] h.wire)
  sockets_kept (hears_end j x) s t held goes_on h = socketed s t held (were_each (where_linked x left) s.own.connections t.own.connections (ap (λ (z : LoopState). z.connections) h.own)) (touched_open s.wire t.wire j (behind_read tells answered.End h.buffer) [] h.wire)
  sockets_kept (loses j) s t held goes_on h = touched_dropped s t j (Some h.link) (behind_read tells answered.Failed h.buffer) [] h.wire h.failed held h.touched h.dropped
  sockets_kept (misses j) s t held goes_on h = touched_dropped (record s { own = losing (asked.Bytes (told_with h.unread h.count)) s.own }) t j (Some h.link) (behind_read tells (answered.Bytes h.count) h.buffer) [] h.wire h.failed (record { each = held.each }) h.touched h.dropped
  sockets_kept (is_refused j l given fresh) s t held goes_on h = dropped_both (behind_refusal s l h.node h.unread) t j (Some l) (socketed s (behind_refusal s l h.node h.unread) held (were_same refl) (same_open refl)) h.dropped
  sockets_kept (is_deaf j l) s t held goes_on h = dropped_both s t j (Some l) held h.dropped
  sockets_kept (idles j l given fresh) s t held goes_on h = by_stage held (ap (λ (z : Stage). z.own) h.same) (ap (λ (z : Stage). z.wire) h.same)
  sockets_kept (acts act outs) s t held goes_on h = carried_by HaveSockets carries_sockets (outs_of outs) h.called t h.carried (called_sockets act s h.called outs h.calls held)
  sockets_kept (spills act outs) s t held goes_on h = absurd (no_fault goes_on)
  sockets_kept (tears act outs) s t held goes_on h = absurd (no_fault goes_on)
  sockets_kept (writes j bytes) s t held goes_on h = socketed s t held (were_changed j (wrote (count_of h.answer)) s.own.connections t.own.connections (ap (λ (z : LoopState). z.connections) h.own)) (touched_open s.wire t.wire j (behind_write tells h.answer h.waiting) (bytes_moved tells h.answer h.waiting) h.wire)
  sockets_kept (breaks j) s t held goes_on h = touched_dropped s t j h.link (behind_write tells answered.Failed h.waiting) (bytes_moved tells answered.Failed h.waiting) h.wire h.failed held h.touched h.dropped
  sockets_kept (closes j) s t held goes_on h = dropped_both s t j None held h.dropped
  sockets_kept (appends texts) s t held goes_on h = socketed s t held (were_same (ap (λ (z : LoopState). z.connections) h.own)) (same_wire h.wire)
  sockets_kept fails s t held goes_on h = absurd (no_fault goes_on)
  sockets_kept (misses_tick given) s t held goes_on h = socketed s t held (were_same (ap (λ (z : Stage). z.own.connections) h.is)) (same_wire (ap (λ (z : Stage). z.wire) h.is))
  sockets_kept misses_dial s t held goes_on h = socketed s t held (by_own h.own) (same_open h.wire.links)
  sockets_kept (settles hurries) s t held goes_on h = socketed s t held (were_same (ap (λ (z : Stage). z.own.connections) h.is)) (same_wire (ap (λ (z : Stage). z.wire) h.is))
  sockets_kept (stops stop) s t held goes_on h = absurd (no_fault goes_on)

  sockets_stay : (es : List Event) (s t : Stage) → HaveSockets s → Run tells mode s es t → HaveSockets t
  sockets_stay [] s t held run = subst HaveSockets (sym run) held
  sockets_stay (e ∷ es) s t held run = sockets_stay es run.0 t (sockets_kept e s run.0 held run.1 run.2) run.3

-- ---- what was moved

-- a read
not_moved : (v w : WireState) (n l : LinkId) (f : LinkState → LinkState) → ((e : LinkState) → (f e).moved ≡ e.moved) → Touches v n f [] w → moved_on w l ≡ moved_on v l
not_moved v w n l f keeps t = elim (get v.open_links n) as (λ o. get v.open_links n ≡ o → moved_on w l ≡ moved_on v l) [
  | None ↦ λ e. ap (λ (z : WireState). moved_on z l) (t.absent e)
  | Some x ↦ λ e.
      let own = touched_links v w n f [] x e t.changes in
      elim (eq_by_cmp id_cmp l n) as (λ b. eq_by_cmp id_cmp l n ≡ b → moved_on w l ≡ moved_on v l) [
        | true ↦ λ h. ap moved_of (put_at v w n l (f x) own ∙ ap (λ b. cond b (Some (f x)) (get v.open_links l)) h) ∙ (keeps x ∙ sym (ap moved_of (ap (get v.open_links) (is_one l n h) ∙ e)))
        | false ↦ λ h. ap moved_of (other_put v w n l (f x) h own)
      ] refl
] refl

-- a write
moved_here : (v w : WireState) (n : LinkId) (f : LinkState → LinkState) (bytes : List ℕ) (x : LinkState) → get v.open_links n ≡ Some x → Touches v n f bytes w → moved_on w n ≡ (f x).moved
moved_here v w n f bytes x e t = ap moved_of (here_put v w n (f x) (touched_links v w n f bytes x e t.changes))

moved_elsewhere : (v w : WireState) (n l : LinkId) (f : LinkState → LinkState) (bytes : List ℕ) → eq_by_cmp id_cmp l n ≡ false → Touches v n f bytes w → moved_on w l ≡ moved_on v l
moved_elsewhere v w n l f bytes other t = elim (get v.open_links n) as (λ o. get v.open_links n ≡ o → moved_on w l ≡ moved_on v l) [
  | None ↦ λ e. ap (λ (z : WireState). moved_on z l) (t.absent e)
  | Some x ↦ λ e. ap moved_of (other_put v w n l (f x) other (touched_links v w n f bytes x e t.changes))
] refl

-- a link that is new
moved_before : (s : Stage) (w : WireState) (n k : LinkId) (c : ConnectionState) (f : LinkState) → HaveSockets s → connection_at s.own k ≡ Some c → Opens s.wire n f w → moved_on w k ≡ moved_on s.wire k
moved_before s w n k c f h here wire =
    let socket = h.each k c here in
    elim (eq_by_cmp id_cmp k n) as (λ v. eq_by_cmp id_cmp k n ≡ v → moved_on w k ≡ moved_on s.wire k) [
      | true ↦ λ e. absurd (none_some socket.0 (sym wire.fresh ∙ (ap (get s.wire.open_links) (sym (is_one k n e)) ∙ socket.1)))
      | false ↦ λ e. ap moved_of (other_put s.wire w n k f e (ap (λ (z : WireState). z.open_links) wire.links))
    ] refl

-- what one event moved on a connection
quiet : (v w : WireState) (e : Event) (k : LinkId) → moved_by k e ≡ [] → moved_on w k ≡ moved_on v k → moved_on w k ≡ moved_on v k ++ moved_by k e
quiet v w e k none same = same ∙ (sym (append-nil (moved_on v k)) ∙ ap (λ ys. moved_on v k ++ ys) (sym none))

unmoved : {v w : WireState} (e : Event) (k : LinkId) → moved_by k e ≡ [] → w ≡ v → moved_on w k ≡ moved_on v k ++ moved_by k e
unmoved {v} {w} e k none same = quiet v w e k none (ap (λ (z : WireState). moved_on z k) same)

dropped_elsewhere : (s t : Stage) (e : Event) (j k : LinkId) (link : Option LinkId) → moved_by k e ≡ [] → eq_by_cmp id_cmp k j ≡ false → Dropped j link s t → moved_on t.wire k ≡ moved_on s.wire k ++ moved_by k e
dropped_elsewhere s t e j k link none other d = quiet s.wire t.wire e k none (ap moved_of (other_closed s.wire t.wire j k other d.wire))

touched_elsewhere : (s t : Stage) (e : Event) (j k : LinkId) (link : Option LinkId) (f : LinkState → LinkState) (bytes : List ℕ) (wire : WireState) (failed : ℕ) → moved_by k e ≡ [] → eq_by_cmp id_cmp k j ≡ false → Touches s.wire j f bytes wire
    → Dropped j link (record s { wire = wire; failed = failed }) t
    → moved_on t.wire k ≡ moved_on s.wire k ++ moved_by k e
touched_elsewhere s t e j k link f bytes wire failed none other touched d = quiet s.wire t.wire e k none (ap moved_of (other_closed wire t.wire j k other d.wire) ∙ moved_elsewhere s.wire wire j k f bytes other touched)

written : (s : Stage) (w : WireState) (j k : LinkId) (c : ConnectionState) (answer : Moved) (bytes waiting : List ℕ) → HaveSockets s → connection_at s.own k ≡ Some c
    → bytes ≡ take (count_of answer) waiting → Touches s.wire j (behind_write true answer waiting) (bytes_moved true answer waiting) w → moved_on w k ≡ moved_on s.wire k ++ moved_by k (writes j bytes)
written s w j k c answer bytes waiting h here are t = elim (eq_by_cmp id_cmp k j) as (λ v. eq_by_cmp id_cmp k j ≡ v → moved_on w k ≡ moved_on s.wire k ++ (if v then bytes else [])) [
  | true ↦ λ e.
      let socket = h.each k c here in
      let one = is_one k j e in
      let there = ap (get s.wire.open_links) (sym one) ∙ socket.1 in
      ap (moved_on w) one ∙ (moved_here s.wire w j (behind_write true answer waiting) (bytes_moved true answer waiting) socket.0 there t ∙ (ap (λ ys. socket.0.moved ++ ys) (sym are) ∙ ap (λ ys. ys ++ bytes) (sym (ap moved_of socket.1))))
  | false ↦ λ e. moved_elsewhere s.wire w j k (behind_write true answer waiting) (bytes_moved true answer waiting) e t ∙ sym (append-nil (moved_on s.wire k))
] refl

called_moved : (act : Act) (s m : Stage) (outs : OutsState) (k : LinkId) (c : ConnectionState) → HaveSockets s → connection_at s.own k ≡ Some c → Calls act s m outs → moved_on m.wire k ≡ moved_on s.wire k
called_moved (at_step socket link given fresh news) s m outs k c held here h = ap (λ (z : Stage). moved_on z.wire k) h.same
called_moved (at_tick given) s m outs k c held here h = ap (λ (z : Stage). moved_on z.wire k) h.same
called_moved (at_dial socket link) s m outs k c held here h = moved_before s m.wire socket k c (asked_link h.connects.0) held here h.connects.2

module _ (mode : SyncMode) where
  moved_kept : (e : Event) (s t : Stage) (k : LinkId) (c : ConnectionState) → HaveSockets s → connection_at s.own k ≡ Some c → fault_of e ≡ None → drops k e ≡ false → Happens true mode s e t → moved_on t.wire k ≡ moved_on s.wire k ++ moved_by k e
  moved_kept (wakes now) s t k c held here goes_on stays h = unmoved (wakes now) k refl (ap (λ (z : Stage). z.wire) h.is)
  moved_kept waits s t k c held here goes_on stays h = unmoved waits k refl (ap (λ (z : Stage). z.wire) h.is)
  moved_kept (joins j l) s t k c held here goes_on stays h = quiet s.wire t.wire (joins j l) k refl (moved_before s t.wire j k c new_link held here h.wire)
  moved_kept turns_away s t k c held here goes_on stays h = quiet s.wire t.wire turns_away k refl (ap (λ z. moved_of (get z k)) h.wire.links)
  moved_kept (takes j bytes) s t k c held here goes_on stays h = quiet s.wire t.wire (takes j bytes) k refl (not_moved s.wire t.wire j k (behind_read true (answered.Bytes h.count) h.buffer) (λ e. refl) h.wire)
  moved_kept (finds_none j) s t k c held here goes_on stays h = quiet s.wire t.wire (finds_none j) k refl (not_moved s.wire t.wire j k (behind_read true h.answer h.buffer) (λ e. refl) h.wire)
  moved_kept (hears_end j x) s t k c held here goes_on stays h = quiet s.wire t.wire (hears_end j x) k refl (not_moved s.wire t.wire j k (behind_read true answered.End h.buffer) (λ e. refl) h.wire)
  moved_kept (loses j) s t k c held here goes_on stays h = touched_elsewhere s t (loses j) j k (Some h.link) (behind_read true answered.Failed h.buffer) [] h.wire h.failed refl stays h.touched h.dropped
  moved_kept (misses j) s t k c held here goes_on stays h = touched_elsewhere (record s { own = losing (asked.Bytes (told_with h.unread h.count)) s.own }) t (misses j) j k (Some h.link) (behind_read true (answered.Bytes h.count) h.buffer) [] h.wire h.failed refl stays h.touched h.dropped
  moved_kept (is_refused j l given fresh) s t k c held here goes_on stays h = dropped_elsewhere (behind_refusal s l h.node h.unread) t (is_refused j l given fresh) j k (Some l) refl stays h.dropped
  moved_kept (is_deaf j l) s t k c held here goes_on stays h = dropped_elsewhere s t (is_deaf j l) j k (Some l) refl stays h.dropped
  moved_kept (idles j l given fresh) s t k c held here goes_on stays h = unmoved (idles j l given fresh) k refl (ap (λ (z : Stage). z.wire) h.same)
  moved_kept (acts act outs) s t k c held here goes_on stays h = quiet s.wire t.wire (acts act outs) k refl (ap (λ (z : WireState). moved_on z k) (carried_wire (outs_of outs) h.called t h.carried) ∙ called_moved act s h.called outs k c held here h.calls)
  moved_kept (spills act outs) s t k c held here goes_on stays h = absurd (no_fault goes_on)
  moved_kept (tears act outs) s t k c held here goes_on stays h = absurd (no_fault goes_on)
  moved_kept (writes j bytes) s t k c held here goes_on stays h = written s t.wire j k c h.answer bytes h.waiting held here h.bytes_are h.wire
  moved_kept (breaks j) s t k c held here goes_on stays h = touched_elsewhere s t (breaks j) j k h.link (behind_write true answered.Failed h.waiting) (bytes_moved true answered.Failed h.waiting) h.wire h.failed refl stays h.touched h.dropped
  moved_kept (closes j) s t k c held here goes_on stays h = dropped_elsewhere s t (closes j) j k None refl stays h.dropped
  moved_kept (appends texts) s t k c held here goes_on stays h = unmoved (appends texts) k refl h.wire
  moved_kept fails s t k c held here goes_on stays h = absurd (no_fault goes_on)
  moved_kept (misses_tick given) s t k c held here goes_on stays h = unmoved (misses_tick given) k refl (ap (λ (z : Stage). z.wire) h.is)
  moved_kept misses_dial s t k c held here goes_on stays h = quiet s.wire t.wire misses_dial k refl (ap (λ z. moved_of (get z k)) h.wire.links)
  moved_kept (settles hurries) s t k c held here goes_on stays h = unmoved (settles hurries) k refl (ap (λ (z : Stage). z.wire) h.is)
  moved_kept (stops stop) s t k c held here goes_on stays h = absurd (no_fault goes_on)

  all_moved : (es : List Event) (s t : Stage) (k : LinkId) (c : ConnectionState) → HaveSockets s → connection_at s.own k ≡ Some c → Run true mode s es t → StaysIn k es → moved_on t.wire k ≡ moved_on s.wire k ++ moved_in k es
  all_moved [] s t k c held here run stays = ap (λ (z : Stage). moved_on z.wire k) run ∙ sym (append-nil (moved_on s.wire k))
  all_moved (e ∷ es) s t k c held here run stays =
      let one = kept true mode e s run.0 k c here run.1 stays.0 run.2 in
      let first = moved_kept e s run.0 k c held here run.1 stays.0 run.2 in
      let rest = all_moved es run.0 t k one.connection (sockets_kept true mode e s run.0 held run.1 run.2) one.there run.3 stays.1 in
      rest ∙ (ap (λ ys. ys ++ moved_in k es) first ∙ append_assoc (moved_on s.wire k) (moved_by k e) (moved_in k es))

-- ---- what was sent, on links that are closed since too

-- by a read nothing is
none_sent : (v w : WireState) (n : LinkId) (f : LinkState → LinkState) → Touches v n f [] w → w.sent ≡ v.sent
none_sent v w n f t = elim (get v.open_links n) as (λ o. get v.open_links n ≡ o → w.sent ≡ v.sent) [
  | None ↦ λ e. ap (λ (z : WireState). z.sent) (t.absent e)
  | Some x ↦ λ e. touched_sent v w n f [] x e t.changes
] refl

called_sent : (act : Act) (s m : Stage) (outs : OutsState) → Calls act s m outs → m.wire.sent ≡ s.wire.sent
called_sent (at_step socket link given fresh news) s m outs h = ap (λ (z : Stage). z.wire.sent) h.same
called_sent (at_tick given) s m outs h = ap (λ (z : Stage). z.wire.sent) h.same
called_sent (at_dial socket link) s m outs h = ap (λ (z : WireState). z.sent) h.connects.2.links

module _ (mode : SyncMode) where
  -- by an event
  told_of : (e : Event) (s t : Stage) → HaveSockets s → fault_of e ≡ None → Happens true mode s e t → t.wire.sent ≡ told_by e s.wire.sent
  told_of (wakes now) s t held goes_on h = ap (λ (z : Stage). z.wire.sent) h.is
  told_of waits s t held goes_on h = ap (λ (z : Stage). z.wire.sent) h.is
  told_of (joins j l) s t held goes_on h = ap (λ (z : WireState). z.sent) h.wire.links
  told_of turns_away s t held goes_on h = h.wire.sent
  told_of (takes j bytes) s t held goes_on h = none_sent s.wire t.wire j (behind_read true (answered.Bytes h.count) h.buffer) h.wire
  told_of (finds_none j) s t held goes_on h = none_sent s.wire t.wire j (behind_read true h.answer h.buffer) h.wire
  told_of (hears_end j x) s t held goes_on h = none_sent s.wire t.wire j (behind_read true answered.End h.buffer) h.wire
  told_of (loses j) s t held goes_on h = h.dropped.sent ∙ none_sent s.wire h.wire j (behind_read true answered.Failed h.buffer) h.touched
  told_of (misses j) s t held goes_on h = h.dropped.sent ∙ none_sent s.wire h.wire j (behind_read true (answered.Bytes h.count) h.buffer) h.touched
  told_of (is_refused j l given fresh) s t held goes_on h = h.dropped.sent
  told_of (is_deaf j l) s t held goes_on h = h.dropped.sent
  told_of (idles j l given fresh) s t held goes_on h = ap (λ (z : Stage). z.wire.sent) h.same
  told_of (acts act outs) s t held goes_on h = ap (λ (z : WireState). z.sent) (carried_wire (outs_of outs) h.called t h.carried) ∙ called_sent act s h.called outs h.calls
  told_of (spills act outs) s t held goes_on h = absurd (no_fault goes_on)
  told_of (tears act outs) s t held goes_on h = absurd (no_fault goes_on)
  told_of (writes j bytes) s t held goes_on h =
      let socket = held.each j (record { link = h.link; waiting = h.waiting }) h.has.is in
      touched_sent s.wire t.wire j (behind_write true h.answer h.waiting) (bytes_moved true h.answer h.waiting) socket.0 socket.1 h.wire.changes ∙ ap (λ ys. sent_on j ys s.wire.sent) (sym h.bytes_are)
  told_of (breaks j) s t held goes_on h = h.dropped.sent ∙ none_sent s.wire h.wire j (behind_write true answered.Failed h.waiting) h.touched
  told_of (closes j) s t held goes_on h = h.dropped.sent
  told_of (appends texts) s t held goes_on h = ap (λ (z : WireState). z.sent) h.wire
  told_of fails s t held goes_on h = absurd (no_fault goes_on)
  told_of (misses_tick given) s t held goes_on h = ap (λ (z : Stage). z.wire.sent) h.is
  told_of misses_dial s t held goes_on h = h.wire.sent
  told_of (settles hurries) s t held goes_on h = ap (λ (z : Stage). z.wire.sent) h.is
  told_of (stops stop) s t held goes_on h = absurd (no_fault goes_on)

  all_told : (es : List Event) (s t : Stage) → HaveSockets s → Run true mode s es t → t.wire.sent ≡ told_in es s.wire.sent
  all_told [] s t held run = ap (λ (z : Stage). z.wire.sent) run
  all_told (e ∷ es) s t held run = all_told es run.0 t (sockets_kept true mode e s run.0 held run.1 run.2) run.3 ∙ ap (told_in es) (told_of e s run.0 held run.1 run.2)

-- ---- the laws

none_at_first : (s : Stage) (k : LinkId) (c : ConnectionState) → s.own.connections ≡ empty → connection_at s.own k ≡ Some c → ⊥
none_at_first s k c none here = none_some c (sym (get-empty id_cmp k) ∙ (sym (ap (λ m. get m k) none) ∙ here))

pub have_sockets_first : HaveSocketsFirst
have_sockets_first s none = record { each = λ k c here. absurd (none_at_first s k c none here) }

pub have_sockets_always : HaveSocketsAlways
have_sockets_always tells mode s t es held run = sockets_stay tells mode es s t held run

pub wire_has_what_is_sent : WireHasWhatIsSent
wire_has_what_is_sent mode s t es k c held here run stays =
    let order = in_order true mode es s t k c here run stays in
    record {
      connection = order.connection;
      there = order.there;
      told = ap (λ ys. ys ++ order.connection.waiting) (all_moved mode es s t k c held here run stays)
          ∙ (append_assoc (moved_on s.wire k) (moved_in k es) order.connection.waiting
          ∙ ap (λ ys. moved_on s.wire k ++ ys) order.in_order);
    }

pub sends_nothing_else : SendsNothingElse
sends_nothing_else mode s t es held run = all_told mode es s t held run
