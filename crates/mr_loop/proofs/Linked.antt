-- That a connection keeps its link while the node has an end of it.
use Rattle.std.proofs.Common.{◌≡◌, ◌≢◌, ℕ, List, Bool, true, false, cond, None, Some, refl, sym, ap, subst, ◌∙◌}
use Rattle.std.specs.Ordering.{eq_by_cmp}
use Rattle.std.specs.Option.{option_map}
use Rattle.std.specs.FinMap.{get-remove}
use Rattle.mr_links.specs.LinkId.{id_cmp}
use Rattle.mr_links.specs.declared.link_id.LinkId.{LinkId}
use Rattle.mr_links.proofs.LinkRows.{ids_total}
use Rattle.mr_node_output.specs.Outs.{OutState, grow, append, replace, send, close, use_id, follow, halt}
use Rattle.mr_node_spec.specs.State.{NodeState, end_of}
use Rattle.mr_node_spec.specs.LinkRows.{closed_at}
use Rattle.mr_connections.specs.State.{ConnectionState, HasLink, Rows, is_link, left, pushed, sent, parted, where_linked, with_each}
use Rattle.mr_connections.proofs.Each.{get-with_each}
use Rattle.mr_loop.specs.Stage.{Stage, LoopState}
use Rattle.mr_loop.specs.Carrying.{Carries, Carried}
use Rattle.mr_loop.specs.Causes.{IsLinked, gone, has}
use Rattle.mr_loop.proofs.Carried.{carried_by}
use Rattle.mr_loop.proofs.Waiting.{by_name, is_one, itself}

-- ---- of the connections

made_link : (x : LinkId) (f : ConnectionState → ConnectionState) (c : ConnectionState) (link : LinkId) → ((d : ConnectionState) → d.link ≡ Some link → is_link x d.link ≡ true → (f d).link ≡ Some link) → c.link ≡ Some link → (where_linked x f c).link ≡ Some link
made_link x f c link keeps own = elim (is_link x c.link) as (λ v. is_link x c.link ≡ v → (cond v (f c) c).link ≡ Some link) [ true ↦ λ e. keeps c own e | false ↦ λ e. own ] refl

each_has : (m : Rows) (socket link x : LinkId) (f : ConnectionState → ConnectionState) → ((d : ConnectionState) → d.link ≡ Some link → is_link x d.link ≡ true → (f d).link ≡ Some link) → HasLink m socket link → HasLink (with_each (where_linked x f) m) socket link
each_has m socket link x f keeps h = record {
  connection = where_linked x f h.connection;
  is = get-with_each (where_linked x f) m socket ∙ ap (option_map (where_linked x f)) h.is;
  has = made_link x f h.connection link keeps h.has;
}

sent_has : (m : Rows) (socket link x : LinkId) (bytes : List ℕ) → HasLink m socket link → HasLink (sent x bytes m) socket link
sent_has m socket link x bytes h = each_has m socket link x (pushed bytes) (λ d is one. is) h

other_link : (x link : LinkId) (d : ConnectionState) → x ≢ link → d.link ≡ Some link → is_link x d.link ≡ true → (left d).link ≡ Some link
other_link x link d ne is one = absurd (ne (sym (is_one link x (sym (ap (is_link x) is) ∙ one))))

parted_has : (m : Rows) (socket link x : LinkId) → x ≢ link → HasLink m socket link → HasLink (parted x m) socket link
parted_has m socket link x ne h = each_has m socket link x left (λ d is one. other_link x link d ne is one) h

-- ---- as outs are carried out

linked_own : (n : NodeState) (o p : LoopState) (socket link : LinkId) → p.connections ≡ o.connections → IsLinked n o socket link → IsLinked n p socket link
linked_own n o p socket link e (gone none) = gone none
linked_own n o p socket link e (has h) = has (subst (λ m. HasLink m socket link) (sym e) h)

pub linked_as : (s t : Stage) (socket link : LinkId) → t.node ≡ s.node → t.own.connections ≡ s.own.connections → IsLinked s.node s.own socket link → IsLinked t.node t.own socket link
linked_as s t socket link node own h = subst (λ n. IsLinked n t.own socket link) (sym node) (linked_own s.node s.own t.own socket link own h)

none_closed : (x link : LinkId) (a : NodeState) → end_of a link ≡ None → end_of (closed_at x a) link ≡ None
none_closed x link a none = get-remove ids_total a.ends.open_links x link ∙ either (eq_by_cmp id_cmp link x) where
  either : (b : Bool) → cond b None (end_of a link) ≡ None
  either true = refl
  either false = none

itself_closed : (link : LinkId) (a : NodeState) → end_of (closed_at link a) link ≡ None
itself_closed link a = get-remove ids_total a.ends.open_links link link ∙ ap (λ b. cond b None (end_of a link)) (itself link)

to_stage : (s t : Stage) (socket link : LinkId) → t ≡ s → IsLinked s.node s.own socket link → IsLinked t.node t.own socket link
to_stage s t socket link e h = subst (λ (z : Stage). IsLinked z.node z.own socket link) (sym e) h

carries_linked : (socket link : LinkId) (out : OutState) (s t : Stage) → Carries out s t → IsLinked s.node s.own socket link → IsLinked t.node t.own socket link
carries_linked socket link (grow bytes) s t c h = to_stage s t socket link c h
carries_linked socket link (append bytes) s t c h = linked_as s t socket link (ap (λ (z : Stage). z.node) c) (ap (λ (z : Stage). z.own.connections) c) h
carries_linked socket link (replace bytes) s t c h = linked_as s t socket link c.node (ap (λ (z : LoopState). z.connections) c.own) h
carries_linked socket link (send x bytes) s t c (gone none) = gone (ap (λ (z : Stage). end_of z.node link) c ∙ none)
carries_linked socket link (send x bytes) s t c (has h) = has (subst (λ m. HasLink m socket link) (sym (ap (λ (z : Stage). z.own.connections) c)) (sent_has s.own.connections socket link x bytes h))
carries_linked socket link (close x) s t c (gone none) = gone (ap (λ (z : Stage). end_of z.node link) c ∙ none_closed x link s.node none)
carries_linked socket link (close x) s t c (has h) = by_name (IsLinked t.node t.own socket link) x link
    (λ one. gone (ap (λ (z : Stage). end_of z.node link) c ∙ (ap (λ y. end_of (closed_at y s.node) link) one ∙ itself_closed link s.node)))
    (λ ne. has (subst (λ m. HasLink m socket link) (sym (ap (λ (z : Stage). z.own.connections) c)) (parted_has s.own.connections socket link x ne h)))
carries_linked socket link (use_id id) s t c h = to_stage s t socket link c h
carries_linked socket link (follow address) s t c h = to_stage s t socket link c h
carries_linked socket link halt s t c h = linked_as s t socket link (ap (λ (z : Stage). z.node) c) (ap (λ (z : Stage). z.own.connections) c) h

pub carried_linked : (socket link : LinkId) (outs : List OutState) (s t : Stage) → Carried outs s t → IsLinked s.node s.own socket link → IsLinked t.node t.own socket link
carried_linked socket link outs s t c h = carried_by (λ (z : Stage). IsLinked z.node z.own socket link) (carries_linked socket link) outs s t c h
