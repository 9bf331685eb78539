-- What an event leaves of a loop's connections: what is there was there, with the link that it has, or one came.
use Rattle.std.proofs.Common.{◌≡◌, ◌⊎◌, inl, inr, ℕ, List, Bool, true, false, cond, Option, None, Some, refl, sym, ap, ◌∙◌}
use Rattle.std.specs.Ordering.{eq_by_cmp}
use Rattle.std.specs.Option.{option_map}
use Rattle.std.specs.FinMap.{empty, get, insert, remove, get-empty, get-insert, get-remove}
use Rattle.mr_links.specs.LinkId.{id_cmp}
use Rattle.mr_links.specs.declared.link_id.LinkId.{LinkId}
use Rattle.mr_links.proofs.LinkRows.{ids_total}
use Rattle.mr_node_output.specs.Outs.{OutState, append, close, follow, grow, halt, replace, send, use_id}
use Rattle.mr_connections.specs.State.{ConnectionState, Rows, begun, changed, is_link, left, pushed, where_linked, with_each, wrote}
use Rattle.mr_connections.proofs.Changed.{get-changed}
use Rattle.mr_connections.proofs.Each.{get-with_each}
use Rattle.mr_loop.specs.Stage.{LoopState, Stage}
use Rattle.mr_loop.specs.Carrying.{Carried, Carries}
use Rattle.mr_loop.proofs.Carried.{carried_by}
use Rattle.mr_loop.proofs.Waiting.{is_one, none_some, some_is}

-- Each connection that is there was there, with its link if it has one.
pub record WasIn (m n : Rows) : Type 0 where
  pub each : (k : LinkId) (d : ConnectionState) → get n k ≡ Some d
      → (c : ConnectionState) × (get m k ≡ Some c) × ((l : LinkId) → d.link ≡ Some l → c.link ≡ Some l)

pub was_same : {m n : Rows} → n ≡ m → WasIn m n
was_same e = record { each = λ k d here. (d, ap (λ r. get r k) (sym e) ∙ here, λ l is. is) }

pub was_behind : {m n o : Rows} → WasIn m n → WasIn n o → WasIn m o
was_behind f g = record {
  each = λ k d here.
      let mid = g.each k d here in
      let old = f.each k mid.0 mid.1 in
      (old.0, old.1, λ l is. old.2 l (mid.2 l is));
}

-- what gives no connection a link
abbrev Keeps : (ConnectionState → ConnectionState) → Type 0
Keeps f = (c : ConnectionState) (l : LinkId) → (f c).link ≡ Some l → c.link ≡ Some l

mapped_was : (f : ConnectionState → ConnectionState) → Keeps f → (o : Option ConnectionState) (d : ConnectionState) → option_map f o ≡ Some d
    → (c : ConnectionState) × (o ≡ Some c) × ((l : LinkId) → d.link ≡ Some l → c.link ≡ Some l)
mapped_was f keeps None d e = absurd (none_some d e)
mapped_was f keeps (Some c) d e = (c, refl, λ l is. keeps c l (ap (λ (z : ConnectionState). z.link) (some_is (f c) d e) ∙ is))

was_each : (f : ConnectionState → ConnectionState) → Keeps f → (m n : Rows) → n ≡ with_each f m → WasIn m n
was_each f keeps m n e = record { each = λ k d here. mapped_was f keeps (get m k) d (sym (get-with_each f m k) ∙ (sym (ap (λ r. get r k) e) ∙ here)) }

was_changed : (j : LinkId) (f : ConnectionState → ConnectionState) → Keeps f → (m n : Rows) → n ≡ changed j f m → WasIn m n
was_changed j f keeps m n e = record {
  each = λ k d here. elim (eq_by_cmp id_cmp k j) as (λ v. eq_by_cmp id_cmp k j ≡ v → cond v (option_map f (get m j)) (get m k) ≡ Some d
      → (c : ConnectionState) × (get m k ≡ Some c) × ((l : LinkId) → d.link ≡ Some l → c.link ≡ Some l)) [
        | true ↦ λ h is. let old = mapped_was f keeps (get m j) d is in (old.0, ap (get m) (is_one k j h) ∙ old.1, old.2)
        | false ↦ λ h is. (d, is, λ l same. same)
      ] refl (sym (get-changed j f m k) ∙ (sym (ap (λ r. get r k) e) ∙ here));
}

pub was_wrote : (j : LinkId) (n : ℕ) (o p : LoopState) → p.connections ≡ changed j (wrote n) o.connections → WasIn o.connections p.connections
was_wrote j n o p e = was_changed j (wrote n) (λ c l is. is) o.connections p.connections e

left_keeps : (x : LinkId) → Keeps (where_linked x left)
left_keeps x c l is = go (is_link x c.link) is where
  go : (v : Bool) → (cond v (left c) c).link ≡ Some l → c.link ≡ Some l
  go true e = absurd (none_some l e)
  go false e = e

pushed_keeps : (x : LinkId) (bytes : List ℕ) → Keeps (where_linked x (pushed bytes))
pushed_keeps x bytes c l is = go (is_link x c.link) is where
  go : (v : Bool) → (cond v (pushed bytes c) c).link ≡ Some l → c.link ≡ Some l
  go true e = e
  go false e = e

pub was_parted : (x : LinkId) (m n : Rows) → n ≡ with_each (where_linked x left) m → WasIn m n
was_parted x m n e = was_each (where_linked x left) (left_keeps x) m n e

was_sent : (x : LinkId) (bytes : List ℕ) (m n : Rows) → n ≡ with_each (where_linked x (pushed bytes)) m → WasIn m n
was_sent x bytes m n e = was_each (where_linked x (pushed bytes)) (pushed_keeps x bytes) m n e

pub was_dropped : (j : LinkId) (m n : Rows) → n ≡ remove m j → WasIn m n
was_dropped j m n e = record {
  each = λ k d here. go k d (eq_by_cmp id_cmp k j) (sym (get-remove ids_total m j k) ∙ (sym (ap (λ r. get r k) e) ∙ here));
} where
  go : (k : LinkId) (d : ConnectionState) (v : Bool) → cond v None (get m k) ≡ Some d
      → (c : ConnectionState) × (get m k ≡ Some c) × ((l : LinkId) → d.link ≡ Some l → c.link ≡ Some l)
  go k d true is = absurd (none_some d is)
  go k d false is = (d, is, λ l same. same)

-- ---- as outs are carried out
was_carried : (out : OutState) (s t : Stage) → Carries out s t → WasIn s.own.connections t.own.connections
was_carried (grow bytes) s t c = was_same (ap (λ (z : Stage). z.own.connections) c)
was_carried (append bytes) s t c = was_same (ap (λ (z : Stage). z.own.connections) c)
was_carried (replace bytes) s t c = was_same (ap (λ (z : LoopState). z.connections) c.own)
was_carried (send x bytes) s t c = was_sent x bytes s.own.connections t.own.connections (ap (λ (z : Stage). z.own.connections) c)
was_carried (close x) s t c = was_parted x s.own.connections t.own.connections (ap (λ (z : Stage). z.own.connections) c)
was_carried (use_id id) s t c = was_same (ap (λ (z : Stage). z.own.connections) c)
was_carried (follow address) s t c = was_same (ap (λ (z : Stage). z.own.connections) c)
was_carried halt s t c = was_same (ap (λ (z : Stage). z.own.connections) c)

pub all_carried : (outs : List OutState) (s t : Stage) → Carried outs s t → WasIn s.own.connections t.own.connections
all_carried outs s t c =
    carried_by (λ (z : Stage). WasIn s.own.connections z.own.connections) (λ out a b h p. was_behind p (was_carried out a b h)) outs s t c (was_same refl)

-- ---- one that comes
-- what is there once one was put
pub put_was : (m : Rows) (j : LinkId) (link : LinkId) (k : LinkId) (d : ConnectionState) → get (insert m j (begun link)) k ≡ Some d
    → ((k ≡ j) × (d ≡ begun link)) ⊎ (get m k ≡ Some d)
put_was m j link k d here = elim (eq_by_cmp id_cmp k j) as (λ v. eq_by_cmp id_cmp k j ≡ v → cond v (Some (begun link)) (get m k) ≡ Some d → ((k ≡ j) × (d ≡ begun link)) ⊎ (get m k ≡ Some d)) [
  | true ↦ λ h is. inl (is_one k j h, sym (some_is (begun link) d is))
  | false ↦ λ h is. inr is
] refl (sym (get-insert ids_total m j (begun link) k) ∙ here)

-- there is none in none
pub none_in : (m : Rows) (k : LinkId) (c : ConnectionState) → m ≡ empty → get m k ≡ Some c → ⊥
none_in m k c none here = none_some c (sym (get-empty id_cmp k) ∙ (sym (ap (λ r. get r k) none) ∙ here))
