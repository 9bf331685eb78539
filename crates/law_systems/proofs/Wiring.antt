-- What is true of servers and their connections whatever happens holds at the beginning, and each step keeps it.
use Rattle.std.proofs.Common.{◌≡◌, ◌≢◌, ◌≤◌, ◌<◌, ◌+◌, ◌++◌, ◌⊎◌, inl, inr, ℕ, List, [], ◌∷◌, true, Option, None, Some, length, refl, sym, ap, subst, ◌∙◌, arith}
use Rattle.std.specs.Prelude.{slice_get, slice_set}
use Rattle.std.specs.FinMap.{empty}
use Rattle.mr_links.specs.declared.link_id.LinkId.{LinkId}
use Rattle.mr_connections.specs.State.{ConnectionState}
use Rattle.mr_links.specs.declared.side.Side.{Side}
use Rattle.mr_keyspace.specs.Dataset.{Dataset}
use Rattle.mr_node_spec.specs.State.{Core, NodeState}
use Rattle.mr_loop.specs.declared.fault.LoopFault.{LoopFault}
use Rattle.mr_loop.specs.Stage.{Stage, connection_at}
use Rattle.mr_loop.specs.Rows.{fault_of}
use Rattle.law_refinement.proofs.Places.{push_cases, push_none, push_old, set_cases, set_here}
use Rattle.law_systems.specs.System.{Connection, Doing, End, IsAt, Server, System, gives_up, no_system, rests, runs}
use Rattle.law_systems.specs.Network.{HasEnd, end_of}
use Rattle.law_systems.specs.Steps.{AsksItself, Begins, Step, asks_itself, begins, begins_again, behind, ends, stops_its_node, turns}
use Rattle.law_systems.proofs.Wired.{IsAttached, IsKeptStage, IsPast, IsWired}
use Rattle.law_systems.proofs.WiringNodes.{asked_up}
use Rattle.law_systems.proofs.WiringRows.{none_in}
use Rattle.law_systems.proofs.WiringStages.{Moves, alone_kept}
use Rattle.law_systems.proofs.WiringEvents.{came_by, came_next, event_moves}
use Rattle.law_systems.proofs.WiringConnections.{Grows, Has, IsNew, goes_grow, none_grow, set_stays, itself_grow}

-- ---- what holds of a stage that a server runs at
record IsStageOf (y : System) (n life : ℕ) (t : Stage) : Type 0 where
  attached : (socket : LinkId) (c : ConnectionState) → connection_at t.own socket ≡ Some c → IsAttached y (end_of n life socket)
  older : (c : ℕ) (at : Side) (k : Connection) (e : End) → HasEnd y.connections c at k e → e.server ≡ n → e.life ≡ life
      → e.socket.generation < t.wire.opened
  kept : IsKeptStage t

run_at : {x : System} {n m life now : ℕ} {s : Stage} → n ≡ m → life ≡ now → IsAt x n life s → IsAt x m now s
run_at {x} {n} {m} {life} {now} {s} e f at = subst (λ i. IsAt x i now s) e (subst (λ j. IsAt x n j s) f at)

stage_of : (x : System) (n life : ℕ) (s : Stage) → IsWired x → IsAt x n life s → IsStageOf x n life s
stage_of x n life s wired at = record {
  attached = λ socket c there. wired.attached n life s socket c at there;
  older = λ c side k e h same now. wired.older c side k e s h (run_at (sym same) (sym now) at);
  kept = wired.kept n life s at;
}

attached_by : {x y : System} {e : End} → ((c : ℕ) (at : Side) → Has x.connections c at e → Has y.connections c at e) → IsAttached x e → IsAttached y e
attached_by {x} {y} {e} stays a =
    let h = stays a.number a.at (record { connection = a.connection; end = a.end }) in record { number = a.number; at = a.at; connection = h.connection; end = h.end }

attached_as : {y : System} {c : ℕ} {at : Side} {e : End} → Has y.connections c at e → IsAttached y e
attached_as {y} {c} {at} h = record { number = c; at = at; connection = h.connection; end = h.end }

module _ (x y : System) (n life : ℕ) (new : Option LinkId) (g : Grows n life new x.connections y.connections) where
  -- the stage of another server, or where no connection comes
  stage_stays : (m now : ℕ) (t : Stage) → ((socket : LinkId) → new ≡ Some socket → m ≢ n) → IsStageOf x m now t → IsStageOf y m now t
  stage_stays m now t apart h = record {
    attached = λ socket c there. attached_by (λ c at old. g.stays c at (end_of m now socket) old) (h.attached socket c there);
    older = λ c at k e here same in_life. go c at e same in_life (g.was c at e (record { connection = k; end = here }));
    kept = h.kept;
  } where
    go : (c : ℕ) (at : Side) (e : End) → e.server ≡ m → e.life ≡ now → Has x.connections c at e ⊎ IsNew n life new g.number g.side c at e
        → e.socket.generation < t.wire.opened
    go c at e same in_life (inl old) = h.older c at old.connection e old.end same in_life
    go c at e same in_life (inr came) = absurd (apart came.socket came.is (sym same ∙ ap (λ (z : End). z.server) came.end_is))

  -- the stage of the server that moves
  stage_moves : (s t : Stage) → Moves new s t → IsStageOf x n life s → IsStageOf y n life t
  stage_moves s t moves h = record {
    attached = λ socket c there. attached_to socket (moves.there socket c there);
    older = λ c at k e here same in_life. go c at e same in_life (g.was c at e (record { connection = k; end = here }));
    kept = moves.kept h.kept;
  } where
    attached_to : (socket : LinkId) → ((d : ConnectionState) × (connection_at s.own socket ≡ Some d)) ⊎ (new ≡ Some socket)
        → IsAttached y (end_of n life socket)
    attached_to socket (inl old) = attached_by (λ c at had. g.stays c at (end_of n life socket) had) (h.attached socket old.0 old.1)
    attached_to socket (inr came) = attached_as (g.there socket came)

    go : (c : ℕ) (at : Side) (e : End) → e.server ≡ n → e.life ≡ life → Has x.connections c at e ⊎ IsNew n life new g.number g.side c at e
        → e.socket.generation < t.wire.opened
    go c at e same in_life (inl old) =
        let below : e.socket.generation < s.wire.opened = h.older c at old.connection e old.end same in_life in
        let more : s.wire.opened ≤ t.wire.opened = moves.wire in
        omega (arith, below, more)
    go c at e same in_life (inr came) = subst (λ (z : End). z.socket.generation < t.wire.opened) (sym came.end_is) (moves.newer came.socket came.is).1

  -- no two sides have one end
  apart_still : IsWired x → ((c : ℕ) (at : Side) (socket : LinkId) → new ≡ Some socket → Has x.connections c at (end_of n life socket) → ⊥)
      → (c d : ℕ) (at to : Side) (e : End) → Has y.connections c at e → Has y.connections d to e → (c ≡ d) × (at ≡ to)
  apart_still wired fresh c d at to e h i = go (g.was c at e h) (g.was d to e i) where
    none : (b : ℕ) (to : Side) (socket : LinkId) → new ≡ Some socket → e ≡ end_of n life socket → Has x.connections b to e → ⊥
    none b to socket some is old = fresh b to socket some (subst (λ z. Has x.connections b to z) is old)

    go : Has x.connections c at e ⊎ IsNew n life new g.number g.side c at e
        → Has x.connections d to e ⊎ IsNew n life new g.number g.side d to e → (c ≡ d) × (at ≡ to)
    go (inl p) (inl q) = wired.apart c d at to p.connection q.connection e p.end q.end
    go (inl p) (inr q) = absurd (none c at q.socket q.is q.end_is p)
    go (inr p) (inl q) = absurd (none d to p.socket p.is p.end_is q)
    go (inr p) (inr q) = (p.number_is ∙ sym q.number_is, p.side_is ∙ sym q.side_is)

  -- the servers of ends are there
  past_still : IsWired x → ((e : End) → IsPast x e → IsPast y e)
      → ((socket : LinkId) → new ≡ Some socket → IsPast y (end_of n life socket)) → (c : ℕ) (at : Side) (e : End)
      → Has y.connections c at e → IsPast y e
  past_still wired still there c at e h = go (g.was c at e h) where
    go : Has x.connections c at e ⊎ IsNew n life new g.number g.side c at e → IsPast y e
    go (inl p) = still e (wired.past c at p.connection e p.end)
    go (inr p) = subst (λ z. IsPast y z) (sym p.end_is) (there p.socket p.is)

wired_of : (y : System) → ((n life : ℕ) (t : Stage) → IsAt y n life t → IsStageOf y n life t)
    → ((c d : ℕ) (at to : Side) (e : End) → Has y.connections c at e → Has y.connections d to e → (c ≡ d) × (at ≡ to))
    → ((c : ℕ) (at : Side) (e : End) → Has y.connections c at e → IsPast y e) → IsWired y
wired_of y stages apart past = record {
  attached = λ n life s socket c at there. (stages n life s at).attached socket c there;
  apart = λ c d at to k m e h i. apart c d at to e (record { connection = k; end = h }) (record { connection = m; end = i });
  past = λ c at k e h. past c at e (record { connection = k; end = h });
  older = λ c at k e s h here. (stages e.server e.life s here).older c at k e h refl refl;
  kept = λ n life s at. (stages n life s at).kept;
}

abbrev as_server : ℕ → Doing → Server
as_server life doing = record { life = life; doing = doing }

-- ---- a server does something else
module _ (x y : System) (n : ℕ) (u v : Server) (found : slice_get x.servers n ≡ Some u) (is : y.servers ≡ slice_set x.servers n v)
    (later : u.life ≤ v.life) where
  set_past : (e : End) → IsPast x e → IsPast y e
  set_past e p = go (set_stays x.servers n e.server v p.server p.found) where
    go : ((e.server ≡ n) × (slice_get (slice_set x.servers n v) e.server ≡ Some v)) ⊎ (slice_get (slice_set x.servers n v) e.server ≡ Some p.server) → IsPast y e
    go (inl q) =
        let here : slice_get x.servers e.server ≡ Some u = subst (λ i. slice_get x.servers i ≡ Some u) (sym q.0) found in
        let there = p.found in
        let one : p.server ≡ u = cc in
        let old : e.life ≤ u.life = subst (λ (z : Server). e.life ≤ z.life) one p.life in
        record { server = v; found = ap (λ zs. slice_get zs e.server) is ∙ q.1; life = omega (arith, old, later) }
    go (inr q) = record { server = p.server; found = ap (λ zs. slice_get zs e.server) is ∙ q; life = p.life }

  -- who runs
  set_at : (m now : ℕ) (t : Stage) → IsAt y m now t → ((m ≡ n) × (v ≡ as_server now (runs t))) ⊎ ((m ≢ n) × IsAt x m now t)
  set_at m now t at = go (set_cases x.servers n m v (as_server now (runs t)) (sym (ap (λ zs. slice_get zs m) is) ∙ at.found)) where
    go : ((m ≡ n) × (as_server now (runs t) ≡ v)) ⊎ ((m ≢ n) × (slice_get x.servers m ≡ Some (as_server now (runs t))))
        → ((m ≡ n) × (v ≡ as_server now (runs t))) ⊎ ((m ≢ n) × IsAt x m now t)
    go (inl p) = inl (p.0, sym p.1)
    go (inr p) = inr (p.0, record { found = p.1 })

  set_there : slice_get y.servers n ≡ Some v
  set_there = ap (λ zs. slice_get zs n) is ∙ set_here x.servers n v u found

-- .. in the same life
module _ (x y : System) (n life : ℕ) (s : Stage) (doing : Doing) (new : Option LinkId) (wired : IsWired x) (at : IsAt x n life s)
    (is : y.servers ≡ slice_set x.servers n (as_server life doing))
    (g : Grows n life new x.connections y.connections) (next : (socket : LinkId) → new ≡ Some socket → socket.generation ≡ s.wire.opened)
    (moves : (t : Stage) → doing ≡ runs t → Moves new s t) where
  turned_past : (e : End) → IsPast x e → IsPast y e
  turned_past e p = set_past x y n (as_server life (runs s)) (as_server life doing) at.found is (omega arith) e p

  turned_stage : (m now : ℕ) (t : Stage) → IsAt y m now t → IsStageOf y m now t
  turned_stage m now t here = go (set_at x y n (as_server life (runs s)) (as_server life doing) at.found is (omega arith) m now t here) where
    go : ((m ≡ n) × (as_server life doing ≡ as_server now (runs t))) ⊎ ((m ≢ n) × IsAt x m now t) → IsStageOf y m now t
    go (inl p) =
        let same : life ≡ now = ap (λ (z : Server). z.life) p.1 in
        let does : doing ≡ runs t = ap (λ (z : Server). z.doing) p.1 in
        subst (λ i. IsStageOf y i now t) (sym p.0) (subst (λ j. IsStageOf y n j t) same (stage_moves x y n life new g s t (moves t does) (stage_of x n life s wired at)))
    go (inr p) = stage_stays x y n life new g m now t (λ socket some. p.0) (stage_of x m now t wired p.1)

  turned_fresh : (c : ℕ) (side : Side) (socket : LinkId) → new ≡ Some socket → Has x.connections c side (end_of n life socket) → ⊥
  turned_fresh c side socket some h =
      let below : socket.generation < s.wire.opened = wired.older c side h.connection (end_of n life socket) s h.end at in
      let newest : socket.generation ≡ s.wire.opened = next socket some in
      omega (arith, below, newest)

  turned_there : (socket : LinkId) → new ≡ Some socket → IsPast y (end_of n life socket)
  turned_there socket some = record {
    server = as_server life doing;
    found = set_there x y n (as_server life (runs s)) (as_server life doing) at.found is (omega arith);
    life = omega arith;
  }

  turned : IsWired y
  turned = wired_of y turned_stage (apart_still x y n life new g wired turned_fresh) (past_still x y n life new g wired turned_past turned_there)

-- .. or begins, or ends, and the connections are the same
module _ (x y : System) (wired : IsWired x) (same : y.connections ≡ x.connections) (still : (e : End) → IsPast x e → IsPast y e) where
  no_new : Grows 0 0 None x.connections y.connections
  no_new = none_grow 0 0 x.connections y.connections same

  else_stays : (m now : ℕ) (t : Stage) → IsAt x m now t → IsStageOf y m now t
  else_stays m now t at = stage_stays x y 0 0 None no_new m now t (λ socket some. absurd (cc)) (stage_of x m now t wired at)

  -- a life that had no connection
  new_stage : (m now : ℕ) (t : Stage) → t.own.connections ≡ empty → t.node.core.up ≡ true
      → ((e : End) → IsPast x e → e.server ≡ m → e.life ≡ now → ⊥) → IsStageOf y m now t
  new_stage m now t none up nobody = record {
    attached = λ socket c there. absurd (none_in t.own.connections socket c none there);
    older = λ c at k e h of_server of_life. absurd (nobody e (past_of c at k e h) of_server of_life);
    kept = alone_kept t none up;
  } where
    past_of : (c : ℕ) (at : Side) (k : Connection) (e : End) → HasEnd y.connections c at k e → IsPast x e
    past_of c at k e h = wired.past c at k e (record { found = ap (λ zs. slice_get zs c) (sym same) ∙ h.found; has = h.has })

  else_wired : ((m now : ℕ) (t : Stage) → IsAt y m now t → IsStageOf y m now t) → IsWired y
  else_wired stages =
      wired_of y stages (apart_still x y 0 0 None no_new wired (λ c at socket some. absurd (cc))) (past_still x y 0 0 None no_new wired still (λ socket some. absurd (cc)))

-- ---- steps
begins_up : (s : Stage) (id file : List ℕ) (held : Dataset) → Begins id file held s → s.node.core.up ≡ true
begins_up s id file held b = ap (λ (z : NodeState). z.core.up) b.node

-- a server begins for the first time
module _ (x y : System) (wired : IsWired x) (s : Stage) (id file : List ℕ) (held : Dataset) (b : Begins id file held s) where
  module _ (same : y.connections ≡ x.connections) (is : y.servers ≡ x.servers ++ as_server 0 (runs s) ∷ []) where
    first_past : (e : End) → IsPast x e → IsPast y e
    first_past e p = record {
      server = p.server;
      found = ap (λ zs. slice_get zs e.server) is ∙ push_old x.servers (as_server 0 (runs s)) e.server p.server p.found;
      life = p.life;
    }

    first_stage : (m now : ℕ) (t : Stage) → IsAt y m now t → IsStageOf y m now t
    first_stage m now t at =
        go (push_cases x.servers (as_server 0 (runs s)) m (as_server now (runs t)) (ap (λ zs. slice_get zs m) (sym is) ∙ at.found)) where
          nobody : m ≡ length x.servers → (e : End) → IsPast x e → e.server ≡ m → ⊥
          nobody last e p of_server =
              let none : slice_get x.servers e.server ≡ None = ap (slice_get x.servers) (of_server ∙ last) ∙ push_none x.servers in
              let some = p.found in cc

          go : ((m ≡ length x.servers) × (as_server now (runs t) ≡ as_server 0 (runs s))) ⊎ (slice_get x.servers m ≡ Some (as_server now (runs t))) → IsStageOf y m now t
          go (inl p) =
              let does : runs t ≡ runs s = ap (λ (z : Server). z.doing) p.1 in
              let one : t ≡ s = cc in
              new_stage x y wired same first_past m now t (ap (λ (z : Stage). z.own.connections) one ∙ b.alone) (ap (λ (z : Stage). z.node.core.up) one ∙ begins_up s id file held b)
              (λ e past of_server of_life. nobody p.0 e past of_server)
          go (inr p) = else_stays x y wired same first_past m now t (record { found = p })

    first_wired : IsWired y
    first_wired = else_wired x y wired same first_past first_stage

  -- .. and again
  module _ (n : ℕ) (u : Server) (found : slice_get x.servers n ≡ Some u) (same : y.connections ≡ x.connections)
      (is : y.servers ≡ slice_set x.servers n (as_server (u.life + 1) (runs s))) where
    again_past : (e : End) → IsPast x e → IsPast y e
    again_past e p = set_past x y n u (as_server (u.life + 1) (runs s)) found is (omega arith) e p

    again_stage : (m now : ℕ) (t : Stage) → IsAt y m now t → IsStageOf y m now t
    again_stage m now t at = go (set_at x y n u (as_server (u.life + 1) (runs s)) found is (omega arith) m now t at) where
      nobody : m ≡ n → now ≡ u.life + 1 → (e : End) → IsPast x e → e.server ≡ m → e.life ≡ now → ⊥
      nobody there later e p of_server of_life =
          let here : slice_get x.servers e.server ≡ Some u = ap (slice_get x.servers) (of_server ∙ there) ∙ found in
          let was = p.found in
          let one : p.server ≡ u = cc in
          let old : e.life ≤ u.life = subst (λ (z : Server). e.life ≤ z.life) one p.life in
          omega (arith, old, later, of_life)

      go : ((m ≡ n) × (as_server (u.life + 1) (runs s) ≡ as_server now (runs t))) ⊎ ((m ≢ n) × IsAt x m now t) → IsStageOf y m now t
      go (inl p) =
          let does : runs s ≡ runs t = ap (λ (z : Server). z.doing) p.1 in
          let one : s ≡ t = cc in
          let later : now ≡ u.life + 1 = sym (ap (λ (z : Server). z.life) p.1) in
          new_stage x y wired same again_past m now t (ap (λ (z : Stage). z.own.connections) (sym one) ∙ b.alone) (ap (λ (z : Stage). z.node.core.up) (sym one) ∙ begins_up s id file held b)
          (nobody p.0 later)
      go (inr p) = else_stays x y wired same again_past m now t p.1

    again_wired : IsWired y
    again_wired = else_wired x y wired same again_past again_stage

-- one that doesn't run any more
module _ (x y : System) (wired : IsWired x) (n : ℕ) (u : Server) (found : slice_get x.servers n ≡ Some u) (doing : Doing)
    (not : (t : Stage) → doing ≡ runs t → ⊥)
    (same : y.connections ≡ x.connections) (is : y.servers ≡ slice_set x.servers n (as_server u.life doing)) where
  gone_past : (e : End) → IsPast x e → IsPast y e
  gone_past e p = set_past x y n u (as_server u.life doing) found is (omega arith) e p

  gone_stage : (m now : ℕ) (t : Stage) → IsAt y m now t → IsStageOf y m now t
  gone_stage m now t at = go (set_at x y n u (as_server u.life doing) found is (omega arith) m now t at) where
    go : ((m ≡ n) × (as_server u.life doing ≡ as_server now (runs t))) ⊎ ((m ≢ n) × IsAt x m now t) → IsStageOf y m now t
    go (inl p) = absurd (not t (ap (λ (z : Server). z.doing) p.1))
    go (inr p) = else_stays x y wired same gone_past m now t p.1

  gone_wired : IsWired y
  gone_wired = else_wired x y wired same gone_past gone_stage

-- a server that asks its node something itself has no connection
asked_moves : (x : System) (s t : Stage) (taken : List (List ℕ)) → IsKeptStage s → AsksItself x s t taken → Moves None s t
asked_moves x s t taken kept a = record {
  wire = let same : t.wire.opened ≡ s.wire.opened = ap (λ (z : Stage). z.wire.opened) a.is in omega (arith, same);
  newer = λ socket some. absurd (cc);
  there = λ socket c there. absurd (none_in t.own.connections socket c none there);
  kept = λ old. alone_kept t none (ap (λ (z : Stage). z.node.core.up) a.is ∙ stepped);
} where
  none : t.own.connections ≡ empty
  none = ap (λ (z : Stage). z.own.connections) a.is ∙ a.alone

  up : a.fed.core.up ≡ true
  up = ap (λ (z : Core). z.up) a.feeds.core ∙ (ap (λ (z : NodeState). z.core.up) a.opens.node ∙ kept.up)

  stepped : a.stepped.core.up ≡ true
  stepped = asked_up a.fed a.stepped a.link ([] ++ a.bytes) a.given a.fresh a.outs (a.feeds.at_client [] a.opens.agrees) up a.steps

runs_one : (s t : Stage) → runs s ≡ runs t → s ≡ t
runs_one s t e = cc

behind_none : (f : Option LoopFault) (t u : Stage) → behind f t ≡ runs u → (f ≡ None) × (t ≡ u)
behind_none None t u e = (refl, runs_one t u e)
behind_none (Some why) t u e = absurd (cc)

pub steps_wired : (x y : System) → Step x y → IsWired x → IsWired y
steps_wired x y (begins id file s new b is) wired =
    first_wired x y wired s id file empty b (ap (λ (z : System). z.connections) is) (ap (λ (z : System). z.servers) is)
steps_wired x y (begins_again n server id file held s found new b is) wired =
    again_wired x y wired s id file held b n server found (ap (λ (z : System). z.connections) is) (ap (λ (z : System). z.servers) is)
steps_wired x y (asks_itself n life s t taken at asks is) wired =
    turned x y n life s (runs t) None wired at (ap (λ (z : System). z.servers) is) (itself_grow n life x.connections y.connections (ap (λ (z : System). z.connections) is))
    (λ socket some. absurd (cc))
    (λ u e. subst (λ z. Moves None s z) (runs_one t u e) (asked_moves x s t taken (wired.kept n life s at) asks))
steps_wired x y (turns n life s t tells mode event connections at new h goes is) wired =
    let listed : y.connections ≡ connections = ap (λ (z : System). z.connections) is in
    turned x y n life s (behind (fault_of event) t) (came_by event) wired at (ap (λ (z : System). z.servers) is)
    (subst (λ zs. Grows n life (came_by event) x.connections zs) (sym listed) (goes_grow n life x.connections connections event goes))
    (λ socket some. came_next tells mode event s t socket some h)
    (λ u e. let goes_on = behind_none (fault_of event) t u e in
    subst (λ z. Moves (came_by event) s z) goes_on.1 (event_moves tells mode event s t goes_on.0 (wired.kept n life s at).up h))
steps_wired x y (stops_its_node n life s t found told is) wired =
    gone_wired x y wired n (as_server life (gives_up s)) found (gives_up t) (λ u e. absurd (cc)) (ap (λ (z : System). z.connections) is) (ap (λ (z : System). z.servers) is)
steps_wired x y (ends n server found is) wired =
    gone_wired x y wired n server found rests (λ u e. absurd (cc)) (ap (λ (z : System). z.connections) is) (ap (λ (z : System). z.servers) is)

-- ---- nothing has begun
no_server : (n : ℕ) (server : Server) → slice_get no_system.servers n ≡ Some server → ⊥
no_server n server e = cc

no_connection : (n : ℕ) (k : Connection) → slice_get no_system.connections n ≡ Some k → ⊥
no_connection n k e = cc

pub wired_begins : IsWired no_system
wired_begins = record {
  attached = λ n life s socket c at there. absurd (no_server n (as_server life (runs s)) at.found);
  apart = λ c d at to k m e h i. absurd (no_connection c k h.found);
  past = λ c at k e h. absurd (no_connection c k h.found);
  older = λ c at k e s h here. absurd (no_connection c k h.found);
  kept = λ n life s at. absurd (no_server n (as_server life (runs s)) at.found);
}
