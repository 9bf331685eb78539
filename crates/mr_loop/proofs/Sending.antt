-- What goes out on a connection, and what the file has by then: out by out, and event by event.
use Rattle.std.proofs.Common.{◌≡◌, ◌++◌, ◌⊎◌, inl, inr, ℕ, List, [], ◌∷◌, Bool, true, false, ◌||◌, cond, Option, None, Some, IfSome, take, drop, length, append-nil, append_assoc, take_all, refl, sym, ap, subst, ◌∙◌, if◌then◌else◌, arith}
use Rattle.std.specs.Ordering.{eq_by_cmp}
use Rattle.std.specs.Option.{option_map}
use Rattle.std.specs.FinMap.{get, insert, remove, get-insert, get-remove}
use Rattle.std.proofs.lemmas.List.{take-append-drop}
use Rattle.mr_links.specs.LinkId.{id_cmp}
use Rattle.mr_links.specs.declared.link_id.LinkId.{LinkId}
use Rattle.mr_links.proofs.LinkRows.{ids_total}
use Rattle.mr_file.specs.declared.sync_mode.SyncMode.{SyncMode}
use Rattle.mr_file.specs.declared.sync_mode.SyncMode.TheVariants as sync
use Rattle.mr_file.specs.LogFile.{IsSynced}
use Rattle.mr_node_output.specs.Outs.{OutState, OutsState, grow, append, replace, send, close, use_id, follow, halt, outs_of}
use Rattle.mr_wire.specs.Wire.{LinkState, Opens, WireState, asked_link, count_of}
use Rattle.mr_connections.specs.State.{ConnectionState, begun, changed, left, pushed, where_linked, wrote}
use Rattle.mr_connections.proofs.Changed.{get-changed}
use Rattle.mr_connections.proofs.Each.{get-with_each}
use Rattle.mr_loop.specs.declared.fault.LoopFault.{LoopFault}
use Rattle.mr_loop.specs.Stage.{Stage, LoopState, connection_at, with_connections}
use Rattle.mr_loop.specs.Carrying.{Carries, Carried, IsRewritten, SameFile}
use Rattle.mr_loop.specs.Causes.{Act, Calls, at_dial, at_step, at_tick}
use Rattle.mr_loop.specs.Rows.{Event, fault_of, Happens, IsAppended, Run, acts, appends, breaks, closes, fails, finds_none, hears_end, idles, is_deaf, is_refused, joins, loses, misses, misses_dial, misses_tick, settles, spills, stops, takes, tears, turns_away, waits, wakes, writes}
use Rattle.mr_loop.specs.Sent.{drops, filed_by, filed_in, files, moved_by, moved_in, parts, parts_with, sends, sent_by, sent_in, StaysIn, IsInOrder, GoesOutInOrder, IsSyncedWhole, IsFiledFirst, IsSentOnceFiled, IsSilent, IsSilentBehindFaults}
use Rattle.mr_loop.proofs.Carried.{carried_by, spilled_wire, torn_wire}
use Rattle.mr_loop.proofs.Halting.{no_fault}
use Rattle.mr_loop.proofs.Waiting.{is_one, none_some, some_is}

not_told : {why : LoopFault} → ◌≡◌ {A = Option LoopFault} None (Some why) → ⊥
not_told e = cc

-- what holds where something is holds of what is there
pub some_at : {A : Type 0} (P : A → Type 0) (o : Option A) (x : A) → o ≡ Some x → IfSome o P → P x
some_at {A} P o x e h = subst (λ z. IfSome z P) e h

-- ---- one connection, as outs are carried out

-- what an out makes of it
abbrev pub after : OutState → ConnectionState → ConnectionState
after (grow bytes) c = c
after (append bytes) c = c
after (replace bytes) c = c
after (send x bytes) c = where_linked x (pushed bytes) c
after (close x) c = where_linked x left c
after (use_id id) c = c
after (follow address) c = c
after halt c = c

abbrev pub all_after : List OutState → ConnectionState → ConnectionState
all_after [] c = c
all_after (out ∷ outs) c = all_after outs (after out c)

carries_there : (k : LinkId) (out : OutState) (s t : Stage) (c : ConnectionState) → Carries out s t → connection_at s.own k ≡ Some c → connection_at t.own k ≡ Some (after out c)
carries_there k (grow bytes) s t c h here = ap (λ (z : Stage). connection_at z.own k) h ∙ here
carries_there k (append bytes) s t c h here = ap (λ (z : Stage). connection_at z.own k) h ∙ here
carries_there k (replace bytes) s t c h here = ap (λ (z : LoopState). connection_at z k) h.own ∙ here
carries_there k (send x bytes) s t c h here = ap (λ (z : Stage). connection_at z.own k) h ∙ (get-with_each (where_linked x (pushed bytes)) s.own.connections k ∙ ap (option_map (where_linked x (pushed bytes))) here)
carries_there k (close x) s t c h here = ap (λ (z : Stage). connection_at z.own k) h ∙ (get-with_each (where_linked x left) s.own.connections k ∙ ap (option_map (where_linked x left)) here)
carries_there k (use_id id) s t c h here = ap (λ (z : Stage). connection_at z.own k) h ∙ here
carries_there k (follow address) s t c h here = ap (λ (z : Stage). connection_at z.own k) h ∙ here
carries_there k halt s t c h here = ap (λ (z : Stage). connection_at z.own k) h ∙ here

carried_there : (k : LinkId) (outs : List OutState) (s t : Stage) (c : ConnectionState) → Carried outs s t → connection_at s.own k ≡ Some c → connection_at t.own k ≡ Some (all_after outs c)
carried_there k [] s t c h here = ap (λ (z : Stage). connection_at z.own k) h ∙ here
carried_there k (out ∷ outs) s t c h here = carried_there k outs h.0 t (after out c) h.2 (carries_there k out s h.0 c h.1 here)

abbrev as_connection : Option LinkId → List ℕ → ConnectionState
as_connection link waiting = record { link = link; waiting = waiting }

-- nothing is sent to it once the node's end is closed
unlinked : (outs : List OutState) (w : List ℕ) → all_after outs (as_connection None w) ≡ as_connection None w
unlinked [] w = refl
unlinked (grow bytes ∷ outs) w = unlinked outs w
unlinked (append bytes ∷ outs) w = unlinked outs w
unlinked (replace bytes ∷ outs) w = unlinked outs w
unlinked (send x bytes ∷ outs) w = unlinked outs w
unlinked (close x ∷ outs) w = unlinked outs w
unlinked (use_id id ∷ outs) w = unlinked outs w
unlinked (follow address ∷ outs) w = unlinked outs w
unlinked (halt ∷ outs) w = unlinked outs w

abbrev sent_to : LinkId → List OutState → List ℕ → ConnectionState
sent_to l outs w = as_connection (if parts l outs then None else Some l) (w ++ sends l outs)

linked : (l : LinkId) (outs : List OutState) (w : List ℕ) → all_after outs (as_connection (Some l) w) ≡ sent_to l outs w
linked l [] w = ap (as_connection (Some l)) (sym (append-nil w))
linked l (grow bytes ∷ outs) w = linked l outs w
linked l (append bytes ∷ outs) w = linked l outs w
linked l (replace bytes ∷ outs) w = linked l outs w
linked l (send x bytes ∷ outs) w = elim (eq_by_cmp id_cmp l x) as (λ v. all_after outs (cond v (as_connection (Some l) (w ++ bytes)) (as_connection (Some l) w)) ≡ as_connection (if parts l outs then None else Some l) (w ++ ((if v then bytes else []) ++ sends l outs))) [
  | true ↦ linked l outs (w ++ bytes) ∙ ap (as_connection (if parts l outs then None else Some l)) (append_assoc w bytes (sends l outs))
  | false ↦ linked l outs w
]
linked l (close x ∷ outs) w = elim (eq_by_cmp id_cmp l x) as (λ v. all_after outs (cond v (as_connection None w) (as_connection (Some l) w)) ≡ as_connection (if v || parts l outs then None else Some l) (w ++ (if v then [] else sends l outs))) [
  | true ↦ unlinked outs w ∙ ap (as_connection None) (sym (append-nil w))
  | false ↦ linked l outs w
]
linked l (use_id id ∷ outs) w = linked l outs w
linked l (follow address ∷ outs) w = linked l outs w
linked l (halt ∷ outs) w = linked l outs w

-- ---- one connection, and one event

-- what an event lets wait for it
abbrev pub sent_of : Option LinkId → Event → List ℕ
sent_of None e = []
sent_of (Some l) e = sent_by l e

-- its link behind the event
abbrev pub link_behind : Option LinkId → Event → Option LinkId
link_behind None e = None
link_behind (Some l) e = if parts_with l e then None else Some l

-- what one event leaves of a connection that it doesn't close
pub record Kept (k : LinkId) (c : ConnectionState) (e : Event) (o : LoopState) : Type 0 where
  pub connection : ConnectionState
  pub there : connection_at o k ≡ Some connection
  pub link : connection.link ≡ link_behind c.link e
  pub order : moved_by k e ++ connection.waiting ≡ c.waiting ++ sent_of c.link e

none_sent : (e : Event) → ((l : LinkId) → sent_by l e ≡ []) → (o : Option LinkId) → sent_of o e ≡ []
none_sent e none None = refl
none_sent e none (Some l) = none l

same_link : (e : Event) → ((l : LinkId) → parts_with l e ≡ false) → (o : Option LinkId) → link_behind o e ≡ o
same_link e none None = refl
same_link e none (Some l) = ap (λ b. if b then None else Some l) (none l)

-- where nothing is moved, nothing waits anew and the node's end stays
unchanged : (k : LinkId) (c : ConnectionState) (e : Event) (o : LoopState) → connection_at o k ≡ Some c → moved_by k e ≡ [] → ((l : LinkId) → sent_by l e ≡ []) → ((l : LinkId) → parts_with l e ≡ false) → Kept k c e o
unchanged k c e o there none nothing stays = record {
  connection = c;
  there = there;
  link = sym (same_link e stays c.link);
  order = ap (λ xs. xs ++ c.waiting) none ∙ (sym (append-nil c.waiting) ∙ ap (λ ys. c.waiting ++ ys) (sym (none_sent e nothing c.link)));
}

same_own : (e : Event) (o p : LoopState) (k : LinkId) (c : ConnectionState) → connection_at o k ≡ Some c → p.connections ≡ o.connections → moved_by k e ≡ [] → ((l : LinkId) → sent_by l e ≡ []) → ((l : LinkId) → parts_with l e ≡ false) → Kept k c e p
same_own e o p k c here own none nothing stays = unchanged k c e p (ap (λ m. get m k) own ∙ here) none nothing stays

-- a connection that begins is another
begun_other : (o p : LoopState) (j k : LinkId) (d c : ConnectionState) → connection_at o j ≡ None → connection_at o k ≡ Some c → p.connections ≡ insert o.connections j d → connection_at p k ≡ Some c
begun_other o p j k d c fresh here own = ap (λ m. get m k) own ∙ (get-insert ids_total o.connections j d k ∙ (elim (eq_by_cmp id_cmp k j) as (λ v. eq_by_cmp id_cmp k j ≡ v → cond v (Some d) (connection_at o k) ≡ Some c) [
  | true ↦ λ e. absurd (none_some c (sym fresh ∙ (ap (connection_at o) (sym (is_one k j e)) ∙ here)))
  | false ↦ λ e. here
] refl))

-- and so is one that is closed
dropped_other : (o p : LoopState) (j k : LinkId) (c : ConnectionState) → connection_at o k ≡ Some c → eq_by_cmp id_cmp k j ≡ false → p.connections ≡ remove o.connections j → connection_at p k ≡ Some c
dropped_other o p j k c here other own = ap (λ m. get m k) own ∙ (get-remove ids_total o.connections j k ∙ (ap (λ v. cond v None (connection_at o k)) other ∙ here))

-- the node's end of a link is closed
parted_from : (x : LinkId) (o : Option LinkId) (w : List ℕ) (j : LinkId) → (where_linked x left (as_connection o w)).link ≡ link_behind o (hears_end j x)
parted_from x None w j = refl
parted_from x (Some l) w j = elim (eq_by_cmp id_cmp l x) as (λ v. (cond v (as_connection None w) (as_connection (Some l) w)).link ≡ (if v then None else Some l)) [ true ↦ refl | false ↦ refl ]

parted_waits : (x : LinkId) (o : Option LinkId) (w : List ℕ) (j : LinkId) → (where_linked x left (as_connection o w)).waiting ≡ w ++ sent_of o (hears_end j x)
parted_waits x None w j = sym (append-nil w)
parted_waits x (Some l) w j = elim (eq_by_cmp id_cmp l x) as (λ v. (cond v (as_connection None w) (as_connection (Some l) w)).waiting ≡ w ++ []) [ true ↦ sym (append-nil w) | false ↦ sym (append-nil w) ]

heard : (o p : LoopState) (j x k : LinkId) (c : ConnectionState) → connection_at o k ≡ Some c → connection_at p k ≡ Some (where_linked x left c) → Kept k c (hears_end j x) p
heard o p j x k c here there = record {
  connection = where_linked x left c;
  there = there;
  link = parted_from x c.link c.waiting j;
  order = parted_waits x c.link c.waiting j;
}

-- what a call gave out is carried out
acted_by : (k : LinkId) (o : Option LinkId) (w : List ℕ) (act : Act) (outs : OutsState) (p : LoopState) → connection_at p k ≡ Some (all_after (outs_of outs) (as_connection o w)) → Kept k (as_connection o w) (acts act outs) p
acted_by k None w act outs p there = record {
  connection = as_connection None w;
  there = there ∙ ap Some (unlinked (outs_of outs) w);
  link = refl;
  order = sym (append-nil w);
}
acted_by k (Some l) w act outs p there = record {
  connection = sent_to l (outs_of outs) w;
  there = there ∙ ap Some (linked l (outs_of outs) w);
  link = refl;
  order = refl;
}

called_there : (act : Act) (s m : Stage) (outs : OutsState) (k : LinkId) (c : ConnectionState) → Calls act s m outs → connection_at s.own k ≡ Some c → connection_at m.own k ≡ Some c
called_there (at_step socket link given fresh news) s m outs k c h here = ap (λ (z : Stage). connection_at z.own k) h.same ∙ here
called_there (at_tick given) s m outs k c h here = ap (λ (z : Stage). connection_at z.own k) h.same ∙ here
called_there (at_dial socket link) s m outs k c h here = begun_other s.own m.own socket k (begun link) c h.fresh here h.connections

-- bytes are moved
written : (bytes w : List ℕ) (link : Option LinkId) (n : ℕ) (o p : LoopState) (j k : LinkId) (c : ConnectionState) → connection_at o j ≡ Some (as_connection link w) → connection_at o k ≡ Some c → bytes ≡ take n w
    → p ≡ with_connections (changed j (wrote n)) o → Kept k c (writes j bytes) p
written bytes w link n o p j k c there here front own =
    let now : connection_at p k ≡ cond (eq_by_cmp id_cmp k j) (option_map (wrote n) (connection_at o j)) (connection_at o k) = ap (λ (z : LoopState). connection_at z k) own ∙ get-changed j (wrote n) o.connections k in
    elim (eq_by_cmp id_cmp k j) as (λ v. eq_by_cmp id_cmp k j ≡ v → Kept k c (writes j bytes) p) [
      | true ↦ λ e.
          let one : as_connection link w ≡ c = some_is (as_connection link w) c (sym there ∙ (ap (connection_at o) (sym (is_one k j e)) ∙ here)) in
          let same : w ≡ c.waiting = ap (λ (z : ConnectionState). z.waiting) one in
          record {
            connection = wrote n c;
            there = now ∙ (ap (λ v. cond v (option_map (wrote n) (connection_at o j)) (connection_at o k)) e ∙ (ap (option_map (wrote n)) there ∙ ap (λ (z : ConnectionState). Some (wrote n z)) one));
            link = sym (same_link (writes j bytes) (λ l. refl) c.link);
            order = ap (λ v. (if v then bytes else []) ++ drop n c.waiting) e ∙ (ap (λ z. z ++ drop n c.waiting) (front ∙ ap (take n) same) ∙ (take-append-drop n c.waiting ∙ (sym (append-nil c.waiting) ∙ ap (λ ys. c.waiting ++ ys) (sym (none_sent (writes j bytes) (λ l. refl) c.link)))));
          }
      | false ↦ λ e. unchanged k c (writes j bytes) p (now ∙ (ap (λ v. cond v (option_map (wrote n) (connection_at o j)) (connection_at o k)) e ∙ here)) (ap (λ v. if v then bytes else []) e) (λ l. refl) (λ l. refl)
    ] refl

by_own : {o p : LoopState} → p ≡ o → p.connections ≡ o.connections
by_own e = ap (λ (z : LoopState). z.connections) e

by_stage : {s t : Stage} → t ≡ s → t.own.connections ≡ s.own.connections
by_stage e = ap (λ (z : Stage). z.own.connections) e

module _ (tells : Bool) (mode : SyncMode) where
  pub kept : (e : Event) (s t : Stage) (k : LinkId) (c : ConnectionState) → connection_at s.own k ≡ Some c → fault_of e ≡ None → drops k e ≡ false → Happens tells mode s e t → Kept k c e t.own
  kept (wakes now) s t k c here goes_on stays h = same_own (wakes now) s.own t.own k c here (by_stage h.is) refl (λ l. refl) (λ l. refl)
  kept waits s t k c here goes_on stays h = same_own waits s.own t.own k c here (by_stage h.is) refl (λ l. refl) (λ l. refl)
  kept (joins j l) s t k c here goes_on stays h = unchanged k c (joins j l) t.own (begun_other s.own t.own j k (begun l) c h.fresh here h.connections) refl (λ l. refl) (λ l. refl)
  kept turns_away s t k c here goes_on stays h = same_own turns_away s.own t.own k c here (by_own h.own) refl (λ l. refl) (λ l. refl)
  kept (takes j bytes) s t k c here goes_on stays h = same_own (takes j bytes) s.own t.own k c here (by_own h.own) refl (λ l. refl) (λ l. refl)
  kept (finds_none j) s t k c here goes_on stays h = same_own (finds_none j) s.own t.own k c here (by_own h.own) refl (λ l. refl) (λ l. refl)
  kept (hears_end j x) s t k c here goes_on stays h = heard s.own t.own j x k c here (ap (λ (z : LoopState). connection_at z k) h.own ∙ (get-with_each (where_linked x left) s.own.connections k ∙ ap (option_map (where_linked x left)) here))
  kept (loses j) s t k c here goes_on stays h = unchanged k c (loses j) t.own (dropped_other s.own t.own j k c here stays h.dropped.connections) refl (λ l. refl) (λ l. refl)
  kept (misses j) s t k c here goes_on stays h = unchanged k c (misses j) t.own (dropped_other s.own t.own j k c here stays h.dropped.connections) refl (λ l. refl) (λ l. refl)
  kept (is_refused j l given fresh) s t k c here goes_on stays h = unchanged k c (is_refused j l given fresh) t.own (dropped_other s.own t.own j k c here stays h.dropped.connections) refl (λ l. refl) (λ l. refl)
  kept (is_deaf j l) s t k c here goes_on stays h = unchanged k c (is_deaf j l) t.own (dropped_other s.own t.own j k c here stays h.dropped.connections) refl (λ l. refl) (λ l. refl)
  kept (idles j l given fresh) s t k c here goes_on stays h = same_own (idles j l given fresh) s.own t.own k c here (by_stage h.same) refl (λ l. refl) (λ l. refl)
  kept (acts act outs) s t k c here goes_on stays h = acted_by k c.link c.waiting act outs t.own (carried_there k (outs_of outs) h.called t c h.carried (called_there act s h.called outs k c h.calls here))
  kept (spills act outs) s t k c here goes_on stays h = absurd (no_fault goes_on)
  kept (tears act outs) s t k c here goes_on stays h = absurd (no_fault goes_on)
  kept (writes j bytes) s t k c here goes_on stays h = written bytes h.waiting h.link (count_of h.answer) s.own t.own j k c h.has.is here h.bytes_are h.own
  kept (breaks j) s t k c here goes_on stays h = unchanged k c (breaks j) t.own (dropped_other s.own t.own j k c here stays h.dropped.connections) refl (λ l. refl) (λ l. refl)
  kept (closes j) s t k c here goes_on stays h = unchanged k c (closes j) t.own (dropped_other s.own t.own j k c here stays h.dropped.connections) refl (λ l. refl) (λ l. refl)
  kept (appends texts) s t k c here goes_on stays h = same_own (appends texts) s.own t.own k c here (by_own h.own) refl (λ l. refl) (λ l. refl)
  kept fails s t k c here goes_on stays h = absurd (no_fault goes_on)
  kept (misses_tick given) s t k c here goes_on stays h = same_own (misses_tick given) s.own t.own k c here (by_stage h.is) refl (λ l. refl) (λ l. refl)
  kept misses_dial s t k c here goes_on stays h = same_own misses_dial s.own t.own k c here (by_own h.own) refl (λ l. refl) (λ l. refl)
  kept (settles hurries) s t k c here goes_on stays h = same_own (settles hurries) s.own t.own k c here (by_stage h.is) refl (λ l. refl) (λ l. refl)
  kept (stops stop) s t k c here goes_on stays h = absurd (no_fault goes_on)

-- ---- a run

sent_next : (o : Option LinkId) (e : Event) (es : List Event) → sent_in o (e ∷ es) ≡ sent_of o e ++ sent_in (link_behind o e) es
sent_next None e es = refl
sent_next (Some l) e es = refl

sent_none : (o : Option LinkId) → sent_in o [] ≡ []
sent_none None = refl
sent_none (Some l) = refl

module _ (tells : Bool) (mode : SyncMode) where
  pub in_order : (es : List Event) (s t : Stage) (k : LinkId) (c : ConnectionState) → connection_at s.own k ≡ Some c → Run tells mode s es t → StaysIn k es → IsInOrder k c es t
  in_order [] s t k c here run stays = record {
    connection = c;
    there = ap (λ (z : Stage). connection_at z.own k) run ∙ here;
    in_order = sym (append-nil c.waiting) ∙ ap (λ ys. c.waiting ++ ys) (sym (sent_none c.link));
  }
  in_order (e ∷ es) s t k c here run stays =
      let one = kept tells mode e s run.0 k c here run.1 stays.0 run.2 in
      let next = in_order es run.0 t k one.connection one.there run.3 stays.1 in
      record {
        connection = next.connection;
        there = next.there;
        in_order = append_assoc (moved_by k e) (moved_in k es) next.connection.waiting
            ∙ (ap (λ ys. moved_by k e ++ ys) next.in_order
            ∙ (sym (append_assoc (moved_by k e) one.connection.waiting (sent_in one.connection.link es))
            ∙ (ap (λ ys. ys ++ sent_in one.connection.link es) one.order
            ∙ (append_assoc c.waiting (sent_of c.link e) (sent_in one.connection.link es)
            ∙ ap (λ ys. c.waiting ++ ys) (ap (λ o. sent_of c.link e ++ sent_in o es) one.link ∙ sym (sent_next c.link e es))))));
      }

pub goes_out_in_order : GoesOutInOrder
goes_out_in_order tells mode s t es k c here run stays = in_order tells mode es s t k c here run stays

-- ---- the file, as outs are carried out

-- the file's bytes, and behind them what waits for it
record Holds (s : Stage) (xs : List ℕ) : Type 0 where
  bytes : List ℕ
  told : s.told ≡ Some bytes
  all : bytes ++ s.own.batch ≡ xs

holds_same : (s t : Stage) (xs : List ℕ) → t.told ≡ s.told → t.own.batch ≡ s.own.batch → Holds s xs → Holds t xs
holds_same s t xs told batch h = record { bytes = h.bytes; told = told ∙ h.told; all = ap (λ ys. h.bytes ++ ys) batch ∙ h.all }

holds_is : (s t : Stage) (xs : List ℕ) → t ≡ s → Holds s xs → Holds t xs
holds_is s t xs e h = subst (λ (z : Stage). Holds z xs) (sym e) h

holds_more : (s t : Stage) (xs texts : List ℕ) → t.told ≡ s.told → t.own.batch ≡ s.own.batch ++ texts → Holds s xs → Holds t (xs ++ texts)
holds_more s t xs texts told batch h = record {
  bytes = h.bytes;
  told = told ∙ h.told;
  all = ap (λ ys. h.bytes ++ ys) batch ∙ (sym (append_assoc h.bytes s.own.batch texts) ∙ ap (λ ys. ys ++ texts) h.all);
}

holds_rewritten : (s t : Stage) (xs bytes : List ℕ) → IsRewritten bytes s t → Holds s xs → Holds t bytes
holds_rewritten s t xs bytes w h = record {
  bytes = bytes;
  told = some_at (λ _. t.told ≡ Some bytes) s.told h.bytes h.told w.written;
  all = ap (λ (z : LoopState). bytes ++ z.batch) w.own ∙ append-nil bytes;
}

carried_holds : (outs : List OutState) (s t : Stage) (xs : List ℕ) → Carried outs s t → Holds s xs → Holds t (files outs xs)
carried_holds [] s t xs c h = holds_is s t xs c h
carried_holds (grow bytes ∷ outs) s t xs c h = carried_holds outs c.0 t xs c.2 (holds_is s c.0 xs c.1 h)
carried_holds (append bytes ∷ outs) s t xs c h = carried_holds outs c.0 t (xs ++ bytes) c.2 (holds_more s c.0 xs bytes (ap (λ (z : Stage). z.told) c.1) (ap (λ (z : Stage). z.own.batch) c.1) h)
carried_holds (replace bytes ∷ outs) s t xs c h = carried_holds outs c.0 t bytes c.2 (holds_rewritten s c.0 xs bytes c.1 h)
carried_holds (send x bytes ∷ outs) s t xs c h = carried_holds outs c.0 t xs c.2 (holds_same s c.0 xs (ap (λ (z : Stage). z.told) c.1) (ap (λ (z : Stage). z.own.batch) c.1) h)
carried_holds (close x ∷ outs) s t xs c h = carried_holds outs c.0 t xs c.2 (holds_same s c.0 xs (ap (λ (z : Stage). z.told) c.1) (ap (λ (z : Stage). z.own.batch) c.1) h)
carried_holds (use_id id ∷ outs) s t xs c h = carried_holds outs c.0 t xs c.2 (holds_is s c.0 xs c.1 h)
carried_holds (follow address ∷ outs) s t xs c h = carried_holds outs c.0 t xs c.2 (holds_is s c.0 xs c.1 h)
carried_holds (halt ∷ outs) s t xs c h = carried_holds outs c.0 t xs c.2 (holds_same s c.0 xs (ap (λ (z : Stage). z.told) c.1) (ap (λ (z : Stage). z.own.batch) c.1) h)

-- a call itself does nothing to the file
called_told : (act : Act) (s m : Stage) (outs : OutsState) → Calls act s m outs → SameFile s m
called_told (at_step socket link given fresh news) s m outs h = (ap (λ (z : Stage). z.told) h.same, ap (λ (z : Stage). z.synced) h.same)
called_told (at_tick given) s m outs h = (ap (λ (z : Stage). z.told) h.same, ap (λ (z : Stage). z.synced) h.same)
called_told (at_dial socket link) s m outs h = h.file

called_batch : (act : Act) (s m : Stage) (outs : OutsState) → Calls act s m outs → m.own.batch ≡ s.own.batch
called_batch (at_step socket link given fresh news) s m outs h = ap (λ (z : Stage). z.own.batch) h.same
called_batch (at_tick given) s m outs h = ap (λ (z : Stage). z.own.batch) h.same
called_batch (at_dial socket link) s m outs h = h.batch

appended_holds : (mode : SyncMode) (texts : List ℕ) (s t : Stage) (xs : List ℕ) → IsAppended mode texts s t → Holds s xs → Holds t xs
appended_holds mode texts s t xs a h =
    let all = take_all (length texts) texts (omega arith) in
    let now = some_at (λ z. t.told ≡ Some (z ++ take (length texts) texts)) s.told h.bytes h.told a.written in
    record {
      bytes = h.bytes ++ texts;
      told = now ∙ ap (λ z. Some (h.bytes ++ z)) all;
      all = ap (λ (z : LoopState). (h.bytes ++ texts) ++ z.batch) a.own ∙ (append-nil (h.bytes ++ texts) ∙ (ap (λ z. h.bytes ++ z) a.texts_are ∙ h.all));
    }

-- ---- what of the file is synced, with `Always`

synced_same : (s t : Stage) → SameFile s t → t.own.batch ≡ s.own.batch → IsSyncedWhole s → IsSyncedWhole t
synced_same s t file batch whole none = subst (λ z. IsSynced z t.synced) (sym file.0) (subst (λ z. IsSynced s.told z) (sym file.1) (whole (sym batch ∙ none)))

front_none : (xs ys : List ℕ) → xs ++ ys ≡ [] → xs ≡ []
front_none [] ys e = refl
front_none (x ∷ xs) ys e = absurd (let wrong : x ∷ (xs ++ ys) ≡ [] = e in cc)

synced_more : (s t : Stage) (texts : List ℕ) → SameFile s t → t.own.batch ≡ s.own.batch ++ texts → IsSyncedWhole s → IsSyncedWhole t
synced_more s t texts file batch whole none = subst (λ z. IsSynced z t.synced) (sym file.0) (subst (λ z. IsSynced s.told z) (sym file.1) (whole (front_none s.own.batch texts (sym batch ∙ none))))

carries_synced : (out : OutState) (s t : Stage) → Carries out s t → IsSyncedWhole s → IsSyncedWhole t
carries_synced (grow bytes) s t c whole = subst IsSyncedWhole (sym c) whole
carries_synced (append bytes) s t c whole = synced_more s t bytes (ap (λ (z : Stage). z.told) c, ap (λ (z : Stage). z.synced) c) (ap (λ (z : Stage). z.own.batch) c) whole
carries_synced (replace bytes) s t c whole = λ none. c.synced
carries_synced (send x bytes) s t c whole = synced_same s t (ap (λ (z : Stage). z.told) c, ap (λ (z : Stage). z.synced) c) (ap (λ (z : Stage). z.own.batch) c) whole
carries_synced (close x) s t c whole = synced_same s t (ap (λ (z : Stage). z.told) c, ap (λ (z : Stage). z.synced) c) (ap (λ (z : Stage). z.own.batch) c) whole
carries_synced (use_id id) s t c whole = subst IsSyncedWhole (sym c) whole
carries_synced (follow address) s t c whole = subst IsSyncedWhole (sym c) whole
carries_synced halt s t c whole = synced_same s t (ap (λ (z : Stage). z.told) c, ap (λ (z : Stage). z.synced) c) (ap (λ (z : Stage). z.own.batch) c) whole

-- ---- the file, event by event

pub batch_of : {o p : LoopState} → p ≡ o → p.batch ≡ o.batch
batch_of e = ap (λ (z : LoopState). z.batch) e

module _ (tells : Bool) (mode : SyncMode) where
  filed : (e : Event) (s t : Stage) (xs : List ℕ) → fault_of e ≡ None → Happens tells mode s e t → Holds s xs → Holds t (filed_by e xs)
  filed (wakes now) s t xs goes_on h held = holds_same s t xs (ap (λ (z : Stage). z.told) h.is) (ap (λ (z : Stage). z.own.batch) h.is) held
  filed waits s t xs goes_on h held = holds_same s t xs (ap (λ (z : Stage). z.told) h.is) (ap (λ (z : Stage). z.own.batch) h.is) held
  filed (joins j l) s t xs goes_on h held = holds_same s t xs h.file.0 h.batch held
  filed turns_away s t xs goes_on h held = holds_same s t xs h.file.0 (batch_of h.own) held
  filed (takes j bytes) s t xs goes_on h held = holds_same s t xs h.file.0 (batch_of h.own) held
  filed (finds_none j) s t xs goes_on h held = holds_same s t xs h.file.0 (batch_of h.own) held
  filed (hears_end j x) s t xs goes_on h held = holds_same s t xs h.file.0 (batch_of h.own) held
  filed (loses j) s t xs goes_on h held = holds_same s t xs h.dropped.file.0 h.dropped.batch held
  filed (misses j) s t xs goes_on h held = holds_same s t xs h.dropped.file.0 h.dropped.batch held
  filed (is_refused j l given fresh) s t xs goes_on h held = holds_same s t xs h.dropped.file.0 h.dropped.batch held
  filed (is_deaf j l) s t xs goes_on h held = holds_same s t xs h.dropped.file.0 h.dropped.batch held
  filed (idles j l given fresh) s t xs goes_on h held = holds_same s t xs (ap (λ (z : Stage). z.told) h.same) (ap (λ (z : Stage). z.own.batch) h.same) held
  filed (acts act outs) s t xs goes_on h held = carried_holds (outs_of outs) h.called t xs h.carried (holds_same s h.called xs (called_told act s h.called outs h.calls).0 (called_batch act s h.called outs h.calls) held)
  filed (spills act outs) s t xs goes_on h held = absurd (no_fault goes_on)
  filed (tears act outs) s t xs goes_on h held = absurd (no_fault goes_on)
  filed (writes j bytes) s t xs goes_on h held = holds_same s t xs h.file.0 (batch_of h.own) held
  filed (breaks j) s t xs goes_on h held = holds_same s t xs h.dropped.file.0 h.dropped.batch held
  filed (closes j) s t xs goes_on h held = holds_same s t xs h.dropped.file.0 h.dropped.batch held
  filed (appends texts) s t xs goes_on h held = appended_holds mode texts s t xs h held
  filed fails s t xs goes_on h held = absurd (no_fault goes_on)
  filed (misses_tick given) s t xs goes_on h held = holds_same s t xs (ap (λ (z : Stage). z.told) h.is) (ap (λ (z : Stage). z.own.batch) h.is) held
  filed misses_dial s t xs goes_on h held = holds_same s t xs h.file.0 (batch_of h.own) held
  filed (settles hurries) s t xs goes_on h held = holds_same s t xs (ap (λ (z : Stage). z.told) h.is) (ap (λ (z : Stage). z.own.batch) h.is) held
  filed (stops stop) s t xs goes_on h held = absurd (no_fault goes_on)

  all_filed : (es : List Event) (s t : Stage) (xs : List ℕ) → Run tells mode s es t → Holds s xs → Holds t (filed_in es xs)
  all_filed [] s t xs run held = holds_is s t xs run held
  all_filed (e ∷ es) s t xs run held = all_filed es run.0 t (filed_by e xs) run.3 (filed e s run.0 xs run.1 run.2 held)

-- Of all events behind which a turn goes on: what holds however the file is synced, as long as what waits for it and its bytes stay, or are synced.
module _ (tells : Bool) (P : Stage → Type 0) (same : (s t : Stage) → SameFile s t → t.own.batch ≡ s.own.batch → P s → P t) (carries : (out : OutState) (s t : Stage) → Carries out s t → P s → P t)
    (synced : (t : Stage) → IsSynced t.told t.synced → P t) where
  lasts : (e : Event) (s t : Stage) → fault_of e ≡ None → Happens tells sync.Always s e t → P s → P t
  lasts (wakes now) s t goes_on h held = same s t (ap (λ (z : Stage). z.told) h.is, ap (λ (z : Stage). z.synced) h.is) (ap (λ (z : Stage). z.own.batch) h.is) held
  lasts waits s t goes_on h held = same s t (ap (λ (z : Stage). z.told) h.is, ap (λ (z : Stage). z.synced) h.is) (ap (λ (z : Stage). z.own.batch) h.is) held
  lasts (joins j l) s t goes_on h held = same s t h.file h.batch held
  lasts turns_away s t goes_on h held = same s t h.file (batch_of h.own) held
  lasts (takes j bytes) s t goes_on h held = same s t h.file (batch_of h.own) held
  lasts (finds_none j) s t goes_on h held = same s t h.file (batch_of h.own) held
  lasts (hears_end j x) s t goes_on h held = same s t h.file (batch_of h.own) held
  lasts (loses j) s t goes_on h held = same s t h.dropped.file h.dropped.batch held
  lasts (misses j) s t goes_on h held = same s t h.dropped.file h.dropped.batch held
  lasts (is_refused j l given fresh) s t goes_on h held = same s t h.dropped.file h.dropped.batch held
  lasts (is_deaf j l) s t goes_on h held = same s t h.dropped.file h.dropped.batch held
  lasts (idles j l given fresh) s t goes_on h held = same s t (ap (λ (z : Stage). z.told) h.same, ap (λ (z : Stage). z.synced) h.same) (ap (λ (z : Stage). z.own.batch) h.same) held
  lasts (acts act outs) s t goes_on h held = carried_by P carries (outs_of outs) h.called t h.carried (same s h.called (called_told act s h.called outs h.calls) (called_batch act s h.called outs h.calls) held)
  lasts (spills act outs) s t goes_on h held = absurd (no_fault goes_on)
  lasts (tears act outs) s t goes_on h held = absurd (no_fault goes_on)
  lasts (writes j bytes) s t goes_on h held = same s t h.file (batch_of h.own) held
  lasts (breaks j) s t goes_on h held = same s t h.dropped.file h.dropped.batch held
  lasts (closes j) s t goes_on h held = same s t h.dropped.file h.dropped.batch held
  lasts (appends texts) s t goes_on h held = synced t (h.synced refl)
  lasts fails s t goes_on h held = absurd (no_fault goes_on)
  lasts (misses_tick given) s t goes_on h held = same s t (ap (λ (z : Stage). z.told) h.is, ap (λ (z : Stage). z.synced) h.is) (ap (λ (z : Stage). z.own.batch) h.is) held
  lasts misses_dial s t goes_on h held = same s t h.file (batch_of h.own) held
  lasts (settles hurries) s t goes_on h held = same s t (ap (λ (z : Stage). z.told) h.is, ap (λ (z : Stage). z.synced) h.is) (ap (λ (z : Stage). z.own.batch) h.is) held
  lasts (stops stop) s t goes_on h held = absurd (no_fault goes_on)

  all_last : (es : List Event) (s t : Stage) → Run tells sync.Always s es t → P s → P t
  all_last [] s t run held = subst P (sym run) held
  all_last (e ∷ es) s t run held = all_last es run.0 t run.3 (lasts e s run.0 run.1 run.2 held)

all_synced : (tells : Bool) (es : List Event) (s t : Stage) → Run tells sync.Always s es t → IsSyncedWhole s → IsSyncedWhole t
all_synced tells = all_last tells IsSyncedWhole synced_same carries_synced (λ t is none. is)

-- .. or nothing has gone into the file since, and nothing waits for it
abbrev Covered : Option (List ℕ) → Stage → Type 0
Covered first t = IsSyncedWhole t ⊎ ((t.told ≡ first) × (t.own.batch ≡ []))

covered_same : (first : Option (List ℕ)) (s t : Stage) → SameFile s t → t.own.batch ≡ s.own.batch → Covered first s → Covered first t
covered_same first s t file batch (inl whole) = inl (synced_same s t file batch whole)
covered_same first s t file batch (inr still) = inr (file.0 ∙ still.0, batch ∙ still.1)

covered_more : (first : Option (List ℕ)) (s t : Stage) (texts : List ℕ) → SameFile s t → t.own.batch ≡ s.own.batch ++ texts → Covered first s → Covered first t
covered_more first s t texts file batch (inl whole) = inl (synced_more s t texts file batch whole)
covered_more first s t [] file batch (inr still) = inr (file.0 ∙ still.0, batch ∙ ap (λ z. z ++ []) still.1)
covered_more first s t (b ∷ texts) file batch (inr still) = inl (λ none. absurd (let wrong : b ∷ texts ≡ [] = sym (batch ∙ ap (λ z. z ++ b ∷ texts) still.1) ∙ none in cc))

carries_covered : (first : Option (List ℕ)) (out : OutState) (s t : Stage) → Carries out s t → Covered first s → Covered first t
carries_covered first (grow bytes) s t c held = subst (Covered first) (sym c) held
carries_covered first (append bytes) s t c held = covered_more first s t bytes (ap (λ (z : Stage). z.told) c, ap (λ (z : Stage). z.synced) c) (ap (λ (z : Stage). z.own.batch) c) held
carries_covered first (replace bytes) s t c held = inl (λ none. c.synced)
carries_covered first (send x bytes) s t c held = covered_same first s t (ap (λ (z : Stage). z.told) c, ap (λ (z : Stage). z.synced) c) (ap (λ (z : Stage). z.own.batch) c) held
carries_covered first (close x) s t c held = covered_same first s t (ap (λ (z : Stage). z.told) c, ap (λ (z : Stage). z.synced) c) (ap (λ (z : Stage). z.own.batch) c) held
carries_covered first (use_id id) s t c held = subst (Covered first) (sym c) held
carries_covered first (follow address) s t c held = subst (Covered first) (sym c) held
carries_covered first halt s t c held = covered_same first s t (ap (λ (z : Stage). z.told) c, ap (λ (z : Stage). z.synced) c) (ap (λ (z : Stage). z.own.batch) c) held

covered_first : (s : Stage) (batch : List ℕ) → s.own.batch ≡ batch → Covered s.told s
covered_first s [] e = inr (refl, e)
covered_first s (b ∷ batch) e = inl (λ none. absurd (let wrong : b ∷ batch ≡ [] = sym e ∙ none in cc))

covered_last : (first : Option (List ℕ)) (t : Stage) → t.own.batch ≡ [] → Covered first t → IsSynced t.told t.synced ⊎ (t.told ≡ first)
covered_last first t none (inl whole) = inl (whole none)
covered_last first t none (inr still) = inr still.0

-- where a run ends with nothing that waits for the file
all_covered : (tells : Bool) (es : List Event) (s t : Stage) → Run tells sync.Always s es t → t.own.batch ≡ [] → IsSynced t.told t.synced ⊎ (t.told ≡ s.told)
all_covered tells es s t run none = covered_last s.told t none (all_last tells (Covered s.told) (covered_same s.told) (carries_covered s.told) (λ z is. inl (λ empty. is)) es s t run (covered_first s s.own.batch refl))

-- ---- a run in two

module _ (tells : Bool) (mode : SyncMode) where
  run_split : (xs ys : List Event) (s t : Stage) → Run tells mode s (xs ++ ys) t → (mid : Stage) × (Run tells mode s xs mid × Run tells mode mid ys t)
  run_split [] ys s t run = (s, (refl, run))
  run_split (x ∷ xs) ys s t run =
      let next = run_split xs ys run.0 t run.3 in
      (next.0, ((run.0, run.1, run.2, next.1.0), next.1.1))

  filed_first : (s t : Stage) (before after : List Event) (k : LinkId) (c : ConnectionState) (bytes xs : List ℕ) → connection_at s.own k ≡ Some c → s.told ≡ Some xs
      → StaysIn k before → Run tells mode s (before ++ writes k bytes ∷ after) t → IsFiledFirst tells mode s before k c bytes xs
  filed_first s t before after k c bytes xs here is stays run =
      let cut = run_split before (writes k bytes ∷ after) s t run in
      let now = cut.0 in
      let write = cut.1.1.2 in
      let order = in_order tells mode before s now k c here cut.1.0 stays in
      let file = all_filed tells mode before s now (xs ++ s.own.batch) cut.1.0 (record { bytes = xs; told = is; all = refl }) in
      let same : as_connection write.link write.waiting ≡ order.connection = some_is (as_connection write.link write.waiting) order.connection (sym write.has.is ∙ order.there) in
      let count = count_of write.answer in
      let whole : bytes ++ drop count write.waiting ≡ order.connection.waiting =
      ap (λ z. z ++ drop count write.waiting) write.bytes_are ∙ (take-append-drop count write.waiting ∙ ap (λ (z : ConnectionState). z.waiting) same) in
      record {
        now = now;
        run = cut.1.0;
        rest = drop count write.waiting;
        in_order = append_assoc (moved_in k before) bytes (drop count write.waiting) ∙ (ap (λ z. moved_in k before ++ z) whole ∙ order.in_order);
        filed = file.told ∙ ap Some (sym (append-nil file.bytes) ∙ (ap (λ z. file.bytes ++ z) (sym write.filed) ∙ file.all));
        synced = λ always whole. all_synced tells before s now (subst (λ m. Run tells m s before now) always cut.1.0) whole write.filed;
        covered = λ always. all_covered tells before s now (subst (λ m. Run tells m s before now) always cut.1.0) write.filed;
      }

pub is_sent_once_filed : IsSentOnceFiled
is_sent_once_filed tells mode s t before after k c bytes xs here is stays run = filed_first tells mode s t before after k c bytes xs here is stays run

-- ---- a fault

silent_same : {v w : WireState} → w.open_links ≡ v.open_links → w.sent ≡ v.sent → IsSilent v w
silent_same {v} {w} e same = record {
  each = λ l x there. ap (λ m. get m l) e ∙ there;
  new = λ l x none there. absurd (none_some x (sym none ∙ (sym (ap (λ m. get m l) e) ∙ there)));
  sent = same;
}

-- one link more, on which nothing was moved
silent_new : (v w : WireState) (n : LinkId) (f : LinkState) → f.moved ≡ [] → Opens v n f w → IsSilent v w
silent_new v w n f none o = record { each = each; new = new; sent = ap (λ (z : WireState). z.sent) o.links }
  where
    found : (l : LinkId) → get w.open_links l ≡ cond (eq_by_cmp id_cmp l n) (Some f) (get v.open_links l)
    found l = ap (λ (z : WireState). get z.open_links l) o.links ∙ get-insert ids_total v.open_links n f l

    each : (l : LinkId) (e : LinkState) → get v.open_links l ≡ Some e → get w.open_links l ≡ Some e
    each l e there = found l ∙ (elim (eq_by_cmp id_cmp l n) as (λ b. eq_by_cmp id_cmp l n ≡ b → cond b (Some f) (get v.open_links l) ≡ Some e) [
      | true ↦ λ h. absurd (none_some e (sym o.fresh ∙ (ap (get v.open_links) (sym (is_one l n h)) ∙ there)))
      | false ↦ λ h. there
    ] refl)

    new : (l : LinkId) (e : LinkState) → get v.open_links l ≡ None → get w.open_links l ≡ Some e → e.moved ≡ []
    new l e absent there = elim (eq_by_cmp id_cmp l n) as (λ b. cond b (Some f) (get v.open_links l) ≡ Some e → e.moved ≡ []) [
      | true ↦ λ h. ap (λ (z : LinkState). z.moved) (sym (some_is f e h)) ∙ none
      | false ↦ λ h. absurd (none_some e (sym absent ∙ h))
    ] (sym (found l) ∙ there)

called_silent : (act : Act) (s m : Stage) (outs : OutsState) → Calls act s m outs → IsSilent s.wire m.wire
called_silent (at_step socket link given fresh news) s m outs h = silent_same (ap (λ (z : Stage). z.wire.open_links) h.same) (ap (λ (z : Stage). z.wire.sent) h.same)
called_silent (at_tick given) s m outs h = silent_same (ap (λ (z : Stage). z.wire.open_links) h.same) (ap (λ (z : Stage). z.wire.sent) h.same)
called_silent (at_dial socket link) s m outs h = silent_new s.wire m.wire socket (asked_link h.connects.0) refl h.connects.2

silent_on : {v w x : WireState} → x ≡ w → IsSilent v w → IsSilent v x
silent_on {v} {w} {x} e h = subst (IsSilent v) (sym e) h

module _ (tells : Bool) (mode : SyncMode) where
  silent : (e : Event) (why : LoopFault) (s t : Stage) → fault_of e ≡ Some why → Happens tells mode s e t → IsSilent s.wire t.wire
  silent (spills act outs) why s t told h = silent_on (spilled_wire (outs_of outs) h.called t h.spilled) (called_silent act s h.called outs h.calls)
  silent (tears act outs) why s t told h = silent_on (torn_wire (outs_of outs) h.called t h.torn) (called_silent act s h.called outs h.calls)
  silent fails why s t told h = silent_same (ap (λ (z : WireState). z.open_links) h.wire) (ap (λ (z : WireState). z.sent) h.wire)
  silent (stops stop) why s t told h = silent_same (ap (λ (z : WireState). z.open_links) h.wire) (ap (λ (z : WireState). z.sent) h.wire)
  silent _ why s t told h = absurd (not_told told)

pub is_silent_behind_faults : IsSilentBehindFaults
is_silent_behind_faults tells mode unused drawn after why s t b = silent_on (ap (λ (z : Stage). z.wire) b.stopped.is) (silent tells mode b.broke.last why b.broke.before b.behind b.broke.told b.broke.happens)
