-- What an event makes of a server's stage: no connection comes to it but one under the next name of the wire, on the next link of the node,
-- which runs on.
use Rattle.std.proofs.Common.{◌≡◌, ◌≢◌, ◌≤◌, ◌<◌, ◌⊎◌, inl, inr, true, Option, None, Some, sym, ap, subst, ◌∙◌, arith}
use Rattle.std.specs.FinMap.{empty, get, insert}
use Rattle.mr_links.specs.declared.link_id.LinkId.{LinkId}
use Rattle.mr_connections.specs.State.{ConnectionState, begun}
use Rattle.mr_loop.specs.Stage.{Stage, connection_at}
use Rattle.mr_loop.proofs.Waiting.{some_is}
use Rattle.law_systems.proofs.Wired.{IsKeptStage}
use Rattle.law_systems.proofs.WiringRows.{WasIn, none_in, put_was}

-- A connection came under this name, and since then nothing but what was there is there.
pub record Begins (new : Option LinkId) (s t : Stage) : Type 0 where
  pub socket : LinkId
  pub link : LinkId
  pub is : new ≡ Some socket
  pub socket_is : socket.generation ≡ s.wire.opened
  pub socket_newer : socket.generation < t.wire.opened
  pub link_is : link.generation ≡ s.node.ends.opened
  pub link_newer : link.generation < t.node.ends.opened
  pub was : WasIn (insert s.own.connections socket (begun link)) t.own.connections

-- none came, or this one
pub data RowsGo (new : Option LinkId) (s t : Stage) : Type 0 where
  stay : new ≡ None → WasIn s.own.connections t.own.connections → RowsGo new s t
  begin : Begins new s t → RowsGo new s t

pub record Moves (new : Option LinkId) (s t : Stage) : Type 0 where
  pub wire : s.wire.opened ≤ t.wire.opened
  pub newer : (socket : LinkId) → new ≡ Some socket → (socket.generation ≡ s.wire.opened) × (socket.generation < t.wire.opened)
  pub there : (socket : LinkId) (c : ConnectionState) → connection_at t.own socket ≡ Some c
      → ((d : ConnectionState) × (connection_at s.own socket ≡ Some d)) ⊎ (new ≡ Some socket)
  pub kept : IsKeptStage s → IsKeptStage t

-- ---- a stage without connections
pub alone_kept : (t : Stage) → t.own.connections ≡ empty → t.node.core.up ≡ true → IsKeptStage t
alone_kept t none up = record {
  up = up;
  apart = record { apart = λ j k b c link at_j at_k has_b has_c. absurd (none_in t.own.connections j b none at_j) };
  older = λ socket c link at has. absurd (none_in t.own.connections socket c none at);
}

-- ---- no connection comes
was_kept : (s t : Stage) → WasIn s.own.connections t.own.connections → s.node.ends.opened ≤ t.node.ends.opened
    → t.node.core.up ≡ s.node.core.up → IsKeptStage s → IsKeptStage t
was_kept s t was opened up kept = record {
  up = up ∙ kept.up;
  apart = record {
    apart = λ j k b c link at_j at_k has_b has_c.
        let x = was.each j b at_j in
        let y = was.each k c at_k in
        kept.apart.apart j k x.0 y.0 link x.1 y.1 (x.2 link has_b) (y.2 link has_c);
  };
  older = λ socket c link at has.
      let x = was.each socket c at in
      let below : link.generation < s.node.ends.opened = kept.older socket x.0 link x.1 (x.2 link has) in
      omega (arith, below, opened);
}

none_came : {A : Type 0} (new : Option LinkId) (socket : LinkId) → new ≡ None → new ≡ Some socket → A
none_came new socket none some = let wrong : ◌≡◌ {A = Option LinkId} None (Some socket) = sym none ∙ some in absurd (cc)

stays_moves : (new : Option LinkId) (s t : Stage) → new ≡ None → WasIn s.own.connections t.own.connections → s.wire.opened ≤ t.wire.opened
    → s.node.ends.opened ≤ t.node.ends.opened
    → t.node.core.up ≡ s.node.core.up → Moves new s t
stays_moves new s t none was wire opened up = record {
  wire = wire;
  newer = λ socket some. none_came new socket none some;
  there = λ socket c at. let x = was.each socket c at in inl (x.0, x.1);
  kept = λ kept. was_kept s t was opened up kept;
}

-- ---- one comes
module _ (new : Option LinkId) (s t : Stage) (b : Begins new s t) where
  -- a link of a connection that was there is older than that of the one that came
  older_link : IsKeptStage s → (k : LinkId) (c : ConnectionState) (link : LinkId) → get s.own.connections k ≡ Some c → c.link ≡ Some link
      → link ≢ b.link
  older_link kept k c link at has same =
      let below : link.generation < s.node.ends.opened = kept.older k c link at has in
      let one : link.generation ≡ b.link.generation = ap (λ (z : LinkId). z.generation) same in
      let is : b.link.generation ≡ s.node.ends.opened = b.link_is in
      omega (arith, below, one, is)

  begun_link : (c : ConnectionState) (link : LinkId) → c ≡ begun b.link → c.link ≡ Some link → link ≡ b.link
  begun_link c link is has = some_is link b.link (sym has ∙ ap (λ (z : ConnectionState). z.link) is)

  begun_apart : IsKeptStage s → (j k : LinkId) (c d : ConnectionState) (link : LinkId)
      → get (insert s.own.connections b.socket (begun b.link)) j ≡ Some c
      → get (insert s.own.connections b.socket (begun b.link)) k ≡ Some d → c.link ≡ Some link → d.link ≡ Some link → j ≡ k
  begun_apart kept j k c d link at_j at_k has_c has_d = go (put_was s.own.connections b.socket b.link j c at_j) (put_was s.own.connections b.socket b.link k d at_k) where
    go : ((j ≡ b.socket) × (c ≡ begun b.link)) ⊎ (get s.own.connections j ≡ Some c)
        → ((k ≡ b.socket) × (d ≡ begun b.link)) ⊎ (get s.own.connections k ≡ Some d) → j ≡ k
    go (inl x) (inl y) = x.0 ∙ sym y.0
    go (inl x) (inr y) = absurd (older_link kept k d link y has_d (begun_link c link x.1 has_c))
    go (inr x) (inl y) = absurd (older_link kept j c link x has_c (begun_link d link y.1 has_d))
    go (inr x) (inr y) = kept.apart.apart j k c d link x y has_c has_d

  begun_older : IsKeptStage s → s.node.ends.opened ≤ t.node.ends.opened → (k : LinkId) (c : ConnectionState) (link : LinkId)
      → get (insert s.own.connections b.socket (begun b.link)) k ≡ Some c → c.link ≡ Some link → link.generation < t.node.ends.opened
  begun_older kept opened k c link at has = go (put_was s.own.connections b.socket b.link k c at) where
    go : ((k ≡ b.socket) × (c ≡ begun b.link)) ⊎ (get s.own.connections k ≡ Some c) → link.generation < t.node.ends.opened
    go (inl x) =
        let one : link.generation ≡ b.link.generation = ap (λ (z : LinkId). z.generation) (begun_link c link x.1 has) in
        let newer : b.link.generation < t.node.ends.opened = b.link_newer in
        omega (arith, one, newer)
    go (inr x) = let below : link.generation < s.node.ends.opened = kept.older k c link x has in omega (arith, below, opened)

  begun_kept : s.node.ends.opened ≤ t.node.ends.opened → t.node.core.up ≡ s.node.core.up → IsKeptStage s → IsKeptStage t
  begun_kept opened up kept = record {
    up = up ∙ kept.up;
    apart = record {
      apart = λ j k c d link at_j at_k has_c has_d.
          let x = b.was.each j c at_j in
          let y = b.was.each k d at_k in
          begun_apart kept j k x.0 y.0 link x.1 y.1 (x.2 link has_c) (y.2 link has_d);
    };
    older = λ socket c link at has. let x = b.was.each socket c at in begun_older kept opened socket x.0 link x.1 (x.2 link has);
  }

  begun_there : (socket : LinkId) (c : ConnectionState) → connection_at t.own socket ≡ Some c
      → ((d : ConnectionState) × (connection_at s.own socket ≡ Some d)) ⊎ (new ≡ Some socket)
  begun_there socket c at = let x = b.was.each socket c at in go x.0 (put_was s.own.connections b.socket b.link socket x.0 x.1) where
    go : (d : ConnectionState) → ((socket ≡ b.socket) × (d ≡ begun b.link)) ⊎ (get s.own.connections socket ≡ Some d)
        → ((d : ConnectionState) × (connection_at s.own socket ≡ Some d)) ⊎ (new ≡ Some socket)
    go d (inl y) = inr (b.is ∙ ap Some (sym y.0))
    go d (inr y) = inl (d, y)

  begun_newer : (socket : LinkId) → new ≡ Some socket → (socket.generation ≡ s.wire.opened) × (socket.generation < t.wire.opened)
  begun_newer socket some =
      let one : b.socket ≡ socket = some_is b.socket socket (sym b.is ∙ some) in
      (sym (ap (λ (z : LinkId). z.generation) one) ∙ b.socket_is, subst (λ (z : LinkId). z.generation < t.wire.opened) one b.socket_newer)

  begun_moves : s.wire.opened ≤ t.wire.opened → s.node.ends.opened ≤ t.node.ends.opened → t.node.core.up ≡ s.node.core.up → Moves new s t
  begun_moves wire opened up = record { wire = wire; newer = begun_newer; there = begun_there; kept = begun_kept opened up }

-- ---- either
pub rows_move : (new : Option LinkId) (s t : Stage) → RowsGo new s t → s.wire.opened ≤ t.wire.opened
    → s.node.ends.opened ≤ t.node.ends.opened → t.node.core.up ≡ s.node.core.up → Moves new s t
rows_move new s t (stay none was) wire opened up = stays_moves new s t none was wire opened up
rows_move new s t (begin b) wire opened up = begun_moves new s t b wire opened up
