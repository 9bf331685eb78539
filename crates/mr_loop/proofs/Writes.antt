-- What is filed and written: the rows of these events, and how the calls that make them go on from one another.
use Rattle.std.proofs.Common.{◌≡◌, ◌≢◌, ◌<◌, ◌≤◌, ◌+◌, ◌-◌, ◌⊎◌, ◌++◌, ◌||◌, inl, inr, ℕ, zero, suc, List, [], Bool, true, cond, length, take, drop, Option, None, Some, MutBor, if◌then◌else◌, arith, refl, sym, ap, subst, ◌∙◌}
use Rattle.std.specs.Option.{option_map}
use Rattle.std.proofs.lemmas.List.{length-append, length-drop, take-append-le}
use Rattle.std.specs.FinMap.{get}
use Rattle.mr_links.specs.declared.link_id.LinkId.{LinkId}
use Rattle.mr_file.specs.LogFile.{Rose}
use Rattle.mr_file.specs.declared.sync_mode.SyncMode.{SyncMode}
use Rattle.mr_node_spec.specs.State.{NodeState}
use Rattle.mr_source.specs.Drawn.{DrawnState}
use Rattle.mr_wire.specs.declared.waited.Waited.{Waited}
use Rattle.mr_wire.specs.Wire.{LinkState, ChangesLink, WireState, behind_write, count_of, is_over, moves_none, bytes_moved, told as told_of}
use Rattle.mr_wire.specs.declared.wire.Moved.{Moved}
use Rattle.mr_wire.specs.declared.wire.Moved.TheVariants as moved
use Rattle.mr_connections.specs.State.{ConnectionState, HasLink, changed, wrote}
use Rattle.mr_connections.proofs.Changed.{get-changed}
use Rattle.mr_loop.specs.declared.host.Host.{Host}
use Rattle.mr_loop.specs.declared.told.Turn.{Turn}
use Rattle.mr_loop.specs.Stage.{Stage, LoopState, connection_at, with_connections}
use Rattle.mr_loop.specs.Hosts.{IsSame, moment_in, stage_in}
use Rattle.mr_loop.specs.Carrying.{SameFile}
use Rattle.mr_loop.specs.Causes.{Dropped, Has, HasInput, IsBurdened, IsStuck}
use Rattle.mr_loop.specs.Writing.{IsWritten, WroteOn, waiting_at, waiting_of}
use Rattle.mr_loop.specs.declared.writing.Wrote.{Wrote}
use Rattle.mr_loop.specs.declared.writing.Wrote.TheVariants as outcome
use Rattle.mr_loop.specs.Rows.{Breaks, IsDeaf, Writes, closes, is_deaf}
use Rattle.mr_loop.specs.Counting.{CountsStill, MomentState, counted}
use Rattle.mr_loop.specs.Going.{Goes}
use Rattle.mr_loop.specs.Quiet.{AllWait}
use Rattle.mr_loop.proofs.Same.{same_here, same_on}
use Rattle.mr_loop.proofs.Runs.{still_event, still_here, still_moded, still_on, still_one, supplies_same}
use Rattle.mr_loop.proofs.Waiting.{itself}
use Rattle.mr_loop.proofs.Touching.{here_put, touched_links}

-- ---- one connection

abbrev with_waiting : Option LinkId → List ℕ → ConnectionState
with_waiting link waiting = record { link = link; waiting = waiting }

-- a connection that is there, by what it tells of itself
pub has_at : (o : LoopState) (socket : LinkId) (c : ConnectionState) (link : Option LinkId) (waiting : List ℕ) → Some c ≡ connection_at o socket → c.link ≡ link → c.waiting ≡ waiting → Has o socket link waiting
has_at o socket c link waiting here l w = record { is = sym here ∙ ap (λ z. Some (with_waiting z c.waiting)) l ∙ ap (λ z. Some (with_waiting link z)) w }

-- a write leaves a connection its link
pub wrote_has : (o p : LoopState) (socket link : LinkId) (count : ℕ) → p ≡ with_connections (changed socket (wrote count)) o → HasLink o.connections socket link → HasLink p.connections socket link
wrote_has o p socket link count is h = record {
  connection = wrote count h.connection;
  is = ap (λ (z : LoopState). connection_at z socket) is
      ∙ get-changed socket (wrote count) o.connections socket
      ∙ ap (λ b. cond b (option_map (wrote count) (get o.connections socket)) (get o.connections socket)) (itself socket)
      ∙ ap (option_map (wrote count)) h.is;
  has = h.has;
}

-- ---- rows

-- two answers that move nothing and are no failure
pub none_moved : (answer : Moved) → (answer ≡ moved.NotReady) ⊎ (answer ≡ moved.End) → count_of answer ≡ 0
none_moved answer (inl e) = ap count_of e
none_moved answer (inr e) = ap count_of e

none_failed : (answer : Moved) → (answer ≡ moved.NotReady) ⊎ (answer ≡ moved.End) → answer ≢ moved.Failed
none_failed answer (inl e) f = cc
none_failed answer (inr e) f = cc

pub some_failed : (count : ℕ) → moved.Bytes count ≢ moved.Failed
some_failed count e = cc

-- these bytes are in front of what waits
abbrev pub IsInFront : List ℕ → List ℕ → Type 0
IsInFront bytes waiting = (rest : List ℕ) × (waiting ≡ bytes ++ rest)

-- what is moved of the bytes in front is moved of all that waits
front_take : (bytes waiting : List ℕ) (count : ℕ) → IsInFront bytes waiting → count ≤ length bytes → take count bytes ≡ take count waiting
front_take bytes waiting count front within = sym (ap (take count) front.1 ∙ take-append-le count bytes front.0 within)

pub front_within : (bytes waiting : List ℕ) (count : ℕ) → IsInFront bytes waiting → count ≤ length bytes → count ≤ length waiting
front_within bytes waiting count front within =
    let all : length waiting ≡ length bytes + length front.0 = ap length front.1 ∙ length-append bytes front.0 in
    omega (arith, all, within)

-- a link of which a write with this answer moved these bytes
abbrev behind_moved : Bool → Moved → List ℕ → LinkState → LinkState
behind_moved tells m bytes e = record e { moved = e.moved ++ told_of tells bytes; ended = e.ended || is_over m; stuck = if tells then moves_none m else e.stuck }

-- a write of the bytes in front is one of all that waits
front_written : (tells : Bool) (v w : WireState) (l : LinkId) (answer : Moved) (bytes waiting : List ℕ) → IsInFront bytes waiting → count_of answer ≤ length bytes → ChangesLink v l (behind_write tells answer bytes) (bytes_moved tells answer bytes) w
    → ChangesLink v l (behind_write tells answer waiting) (bytes_moved tells answer waiting) w
front_written tells v w l answer bytes waiting front within written = subst (λ z. ChangesLink v l (behind_moved tells answer z) (told_of tells z) w) (front_take bytes waiting (count_of answer) front within) written

-- bytes that were moved, as the wire answered it of what is in front on the connection
pub writes_row : {tells : Bool} {s t : Stage} (socket : LinkId) (c : ConnectionState) (answer : Moved) (bytes : List ℕ) → s.own.batch ≡ [] → Some c ≡ connection_at s.own socket → IsInFront bytes c.waiting → answer ≢ moved.Failed
    → count_of answer ≤ length bytes → ChangesLink s.wire socket (behind_write tells answer bytes) (bytes_moved tells answer bytes) t.wire → (get s.wire.open_links socket ≡ None → t.wire ≡ s.wire) → s.failed ≤ t.failed
    → t.own ≡ with_connections (changed socket (wrote (count_of answer))) s.own → t.node ≡ s.node → SameFile s t → Writes tells socket (take (count_of answer) c.waiting) s t
writes_row {tells} {s} {t} socket c answer bytes filed here front goes_on within written absent later own node file = record {
  filed = filed;
  link = c.link;
  waiting = c.waiting;
  has = has_at s.own socket c c.link c.waiting here refl refl;
  answer = answer;
  goes_on = goes_on;
  within = front_within bytes c.waiting (count_of answer) front within;
  bytes_are = refl;
  wire = record { changes = front_written tells s.wire t.wire socket answer bytes c.waiting front within written; absent = absent };
  later = later;
  own = own;
  node = node;
  file = file;
}

-- .. and a write that moved none, where it is answered so
pub writes_none : {tells : Bool} {s t : Stage} (socket : LinkId) (c : ConnectionState) (answer : Moved) (bytes : List ℕ) → (answer ≡ moved.NotReady) ⊎ (answer ≡ moved.End) → s.own.batch ≡ [] → Some c ≡ connection_at s.own socket → IsInFront bytes c.waiting
    → count_of answer ≤ length bytes → ChangesLink s.wire socket (behind_write tells answer bytes) (bytes_moved tells answer bytes) t.wire → (get s.wire.open_links socket ≡ None → t.wire ≡ s.wire) → s.failed ≤ t.failed
    → t.own ≡ with_connections (changed socket (wrote 0)) s.own → t.node ≡ s.node → SameFile s t → Writes tells socket (take 0 c.waiting) s t
writes_none {tells} {s} {t} socket c answer bytes none filed here front within written absent later own node file =
    let zero = none_moved answer none in
    subst (λ n. Writes tells socket (take n c.waiting) s t) zero
    (writes_row socket c answer bytes filed here front (none_failed answer none) within written absent later (own ∙ ap (λ n. with_connections (changed socket (wrote n)) s.own) (sym zero)) node file)

-- .. and one that failed
pub breaks_row : {tells : Bool} {s t : Stage} (socket : LinkId) (c : ConnectionState) (link : Option LinkId) (bytes : List ℕ) (wire : WireState) (failed : ℕ) → s.own.batch ≡ [] → Some c ≡ connection_at s.own socket → link ≡ c.link → IsInFront bytes c.waiting
    → ChangesLink s.wire socket (behind_write tells moved.Failed bytes) (bytes_moved tells moved.Failed bytes) wire → (get s.wire.open_links socket ≡ None → wire ≡ s.wire) → Rose s.failed failed → Dropped socket link (record s { wire = wire; failed = failed }) t → Breaks tells socket s t
breaks_row {tells} {s} {t} socket c link bytes wire failed filed here linked front written absent rose dropped = record {
  filed = filed;
  link = link;
  waiting = c.waiting;
  has = has_at s.own socket c link c.waiting here (sym linked) refl;
  wire = wire;
  touched = record { changes = front_written tells s.wire wire socket moved.Failed bytes c.waiting front (omega arith) written; absent = absent };
  failed = failed;
  rose = rose;
  dropped = dropped;
}

-- ---- what can't be moved

pub no_bytes : (count : ℕ) → count ≤ 0 → moves_none (moved.Bytes count) ≡ true
no_bytes zero h = refl
no_bytes (suc n) h = absurd (omega (arith, h))

-- a write that moved nothing, and didn't fail
pub stuck_now : {tells : Bool} (v w : WireState) (l : LinkId) (answer : Moved) (bytes : List ℕ) → answer ≢ moved.Failed → moves_none answer ≡ true → ChangesLink v l (behind_write tells answer bytes) (bytes_moved tells answer bytes) w → (get v.open_links l ≡ None → answer ≡ moved.Failed) → IsStuck tells w l
stuck_now {tells} v w l answer bytes goes_on none written absent = record {
  told = λ tell. elim (get v.open_links l) as (λ o. get v.open_links l ≡ o → (e : LinkState) × (get w.open_links l ≡ Some e) × (e.stuck ≡ true)) [
    | None ↦ λ e. absurd (goes_on (absent e))
    | Some x ↦ λ e. (behind_write tells answer bytes x, here_put v w l (behind_write tells answer bytes x) (touched_links v w l (behind_write tells answer bytes) (bytes_moved tells answer bytes) x e written), ap (λ b. if b then moves_none answer else x.stuck) tell ∙ none)
  ] refl;
}

pub none_stuck : {tells : Bool} (v w : WireState) (l : LinkId) (answer : Moved) (bytes : List ℕ) → (answer ≡ moved.NotReady) ⊎ (answer ≡ moved.End) → ChangesLink v l (behind_write tells answer bytes) (bytes_moved tells answer bytes) w → (get v.open_links l ≡ None → answer ≡ moved.Failed) → IsStuck tells w l
none_stuck v w l answer bytes (inl e) written absent = stuck_now v w l answer bytes (none_failed answer (inl e)) (ap moves_none e) written absent
none_stuck v w l answer bytes (inr e) written absent = stuck_now v w l answer bytes (none_failed answer (inr e)) (ap moves_none e) written absent

-- what waits on a connection that is there, before a write and behind it
pub waits_at : (o : LoopState) (socket : LinkId) (c : ConnectionState) → Some c ≡ connection_at o socket → waiting_at o socket ≡ c.waiting
waits_at o socket c here = ap waiting_of (sym here)

wrote_at : (o p : LoopState) (socket : LinkId) (c : ConnectionState) (count : ℕ) → Some c ≡ connection_at o socket → p ≡ with_connections (changed socket (wrote count)) o → waiting_at p socket ≡ drop count c.waiting
wrote_at o p socket c count here is =
    ap waiting_of (ap (λ (z : LoopState). connection_at z socket) is
    ∙ (get-changed socket (wrote count) o.connections socket
    ∙ (ap (λ b. cond b (option_map (wrote count) (get o.connections socket)) (get o.connections socket)) (itself socket) ∙ ap (option_map (wrote count)) (sym here))))

-- less waits once something was moved
pub wrote_less : (o p : LoopState) (socket : LinkId) (c : ConnectionState) (count : ℕ) → Some c ≡ connection_at o socket → p ≡ with_connections (changed socket (wrote count)) o → 0 < count → count ≤ length c.waiting → length (waiting_at p socket) < length (waiting_at o socket)
wrote_less o p socket c count here is some within =
    let before : length (waiting_at o socket) ≡ length c.waiting = ap length (waits_at o socket c here) in
    let behind : length (waiting_at p socket) ≡ length c.waiting - count = ap length (wrote_at o p socket c count here is) ∙ length-drop count c.waiting in
    omega (arith, before, behind, some, within)

-- a write that moved something, all that was in front or not
pub moved_on : (tells : Bool) (r : Wrote) (w : WireState) (socket link : LinkId) (a b : NodeState) (o p : LoopState) → (r ≡ outcome.Whole) ⊎ (r ≡ outcome.Some) → WroteOn tells r w socket link a b o p → WroteOn tells outcome.Some w socket link a b o p
moved_on tells r w socket link a b o p (inl e) h = subst (λ z. WroteOn tells z w socket link a b o p) e h
moved_on tells r w socket link a b o p (inr e) h = subst (λ z. WroteOn tells z w socket link a b o p) e h

-- a client that left too much unread is one to whom a write moved nothing
pub burdened_stuck : {tells : Bool} (a : NodeState) (o : LoopState) (w : WireState) (socket link : LinkId) → IsBurdened a o socket link → IsWritten tells w socket link o → IsStuck tells w socket
burdened_stuck {tells} a o w socket link b written = elim written.all [
  | inl none ↦ let much = b.too_much in let empty : length b.connection.waiting ≡ 0 = ap length (sym (ap waiting_of b.is) ∙ none) in absurd (omega (arith, much, empty))
  | inr stuck ↦ stuck
]

-- ---- one call after another

-- a part goes on where another ended, whose log syncs as before
pub still_then : {tells : Bool} {m n : SyncMode} {old mid new : MomentState} {a b c : Stage} → m ≡ n → CountsStill tells n old mid a b → CountsStill tells m mid new b c → CountsStill tells n old new a c
still_then {tells} {m} {n} mode x y = still_on x (still_moded m n mode y)

abbrev at_now : {A : Type 0} → A → MutBor A → MutBor A
at_now x m = record m { now = x }

-- ---- writing in a loop

module _ {W F S : Type 0} (tells : Bool) (links : W → WireState) (failures : W → ℕ) (waited : W → Waited) (broke : F → ℕ) (told : F → Option (List ℕ)) (synced : F → Option ℕ) (drawn : S → DrawnState) where
  -- some connections were written to
  pub record HasWritten (a b : Host W F S) : Type 0 where
    pub went : Goes tells links failures told synced drawn a b
    pub same : IsSame waited broke a b
    pub batch : b.own.now.batch ≡ []
    pub moment : moment_in drawn b ≡ moment_in drawn a
    pub core : b.node.now.core ≡ a.node.now.core
    pub quiet : AllWait a.node.now → AllWait b.node.now

  -- .. or one was, which is still there as it was
  pub record WritesOn (socket link : LinkId) (a b : Host W F S) : Type 0 where
    pub went : Goes tells links failures told synced drawn a b
    pub same : IsSame waited broke a b
    pub batch : b.own.now.batch ≡ []
    pub moment : moment_in drawn b ≡ moment_in drawn a
    pub node : b.node.now ≡ a.node.now
    pub has : HasLink b.own.now.connections socket link

  pub written_first : (a : Host W F S) → a.own.now.batch ≡ [] → HasWritten a a
  written_first a filed = record { went = still_here (moment_in drawn a) _; same = same_here a; batch = filed; moment = refl; core = refl; quiet = λ q. q }

  pub written_on : (a b c : Host W F S) → HasWritten a b → HasWritten b c → HasWritten a c
  written_on a b c x y = record {
    went = still_then x.same.mode x.went y.went;
    same = same_on a b c x.same y.same;
    batch = y.batch;
    moment = y.moment ∙ x.moment;
    core = y.core ∙ x.core;
    quiet = λ q. y.quiet (x.quiet q);
  }

  -- what the host holds was exchanged for the same
  pub written_own : (a b : Host W F S) (own : LoopState) → own ≡ b.own.now → HasWritten a b → HasWritten a (record b { own = at_now own b.own })
  written_own a b own is x = subst (λ o. HasWritten a (record b { own = at_now o b.own })) (sym is) x

  -- .. or closed
  pub record HasClosed (a b : Host W F S) : Type 0 where
    pub went : Goes tells links failures told synced drawn a b
    pub same : IsSame waited broke a b
    pub batch : b.own.now.batch ≡ a.own.now.batch
    pub moment : moment_in drawn b ≡ moment_in drawn a
    pub node : b.node.now ≡ a.node.now

  pub closed_first : (a : Host W F S) → HasClosed a a
  closed_first a = record { went = still_here (moment_in drawn a) _; same = same_here a; batch = refl; moment = refl; node = refl }

  pub closed_on : (a b c : Host W F S) (socket : LinkId) → HasClosed a b → connection_at b.own.now socket ≡ Some (with_waiting None [])
      → Dropped socket None (stage_in links failures told synced b) (stage_in links failures told synced c) → moment_in drawn c ≡ moment_in drawn b → IsSame waited broke b c → HasClosed a c
  closed_on a b c socket x here dropped moment same = record {
    went = still_then x.same.mode x.went (still_one (closes socket) (moment_in drawn b) (moment_in drawn c) refl refl refl refl refl refl refl refl (λ ids. refl) (record { has = record { is = here }; dropped = dropped }) moment);
    same = same_on a b c x.same same;
    batch = dropped.batch ∙ x.batch;
    moment = moment ∙ x.moment;
    node = dropped.node ∙ x.node;
  }

  pub writes_first : (socket link : LinkId) (a : Host W F S) → a.own.now.batch ≡ [] → HasLink a.own.now.connections socket link → WritesOn socket link a a
  writes_first socket link a filed has = record { went = still_here (moment_in drawn a) _; same = same_here a; batch = filed; moment = refl; node = refl; has = has }

  pub writes_on : (socket link : LinkId) (a b c : Host W F S) → WritesOn socket link a b → WritesOn socket link b c → WritesOn socket link a c
  writes_on socket link a b c x y = record {
    went = still_then x.same.mode x.went y.went;
    same = same_on a b c x.same y.same;
    batch = y.batch;
    moment = y.moment ∙ x.moment;
    node = y.node ∙ x.node;
    has = y.has;
  }

-- ---- a client that is given up

abbrev deafened : Turn → Turn
deafened turn = record turn { deaf = counted (turn.deaf + 1) }

pub deaf_still : {tells : Bool} {mode : SyncMode} {s t : Stage} (socket link : LinkId) (old mid new : MomentState) → mid ≡ old → new.turn ≡ deafened mid.turn → new.fresh ≡ mid.fresh → new.drawn ≡ mid.drawn → IsDeaf tells socket link s t
    → CountsStill tells mode old new s t
deaf_still socket link old mid new same is fresh drawn h =
    let all : new.turn ≡ deafened old.turn = is ∙ ap (λ (m : MomentState). deafened m.turn) same in
    still_event (is_deaf socket link) old new refl refl h
    (supplies_same (is_deaf socket link) old new refl (λ ids. refl) (fresh ∙ ap (λ (m : MomentState). m.fresh) same) (drawn ∙ ap (λ (m : MomentState). m.drawn) same))
    (ap (λ (x : Turn). x.steps) all) (ap (λ (x : Turn). x.done) all) (ap (λ (x : Turn). x.used) all) (ap (λ (x : Turn). x.deaf) all) (ap (λ (x : Turn). x.followed) all)

-- the node and the connection are as they were before its bytes were written
pub deaf_row : {tells : Bool} {s t : Stage} (socket link : LinkId) (a : NodeState) → s.node ≡ a → HasInput a link → IsWritten tells s.wire socket link s.own → IsBurdened s.node s.own socket link → Dropped socket (Some link) s t → IsDeaf tells socket link s t
deaf_row {tells} {s} socket link a same input written burdened dropped = record {
  has = written.has;
  input = subst (λ n. HasInput n link) (sym same) input;
  burdened = burdened;
  stuck = burdened_stuck s.node s.own s.wire socket link burdened written;
  dropped = dropped;
}
