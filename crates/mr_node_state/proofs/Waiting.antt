-- Ends where transactions are begun, open and ended.
use Rattle.std.proofs.Common.{◌≡◌, ℕ, List, Bool, true, false, drop, take, Some, refl, sym, subst, ◌∙◌}
use Rattle.std.specs.Prelude.{Result, Ok, Err, OnOk, OnErr}
use Rattle.mr_links.specs.Links.{Links}
use Rattle.mr_links.specs.declared.link_id.LinkId.{LinkId}
use Rattle.mr_node_links.specs.State.{EndState, Transaction, begun, with_text, as_marked, end_at, put_end, streams}
use Rattle.mr_node_links.specs.State.EndState.{client, waiting, upstream}
use Rattle.mr_node_links.specs.Parts.{BeginsAt, HasOpen, IsClient, MarksAt, PutsBack, TakesOut, WaitsAt}
use Rattle.mr_node_spec.specs.State.{IsNode, NodeState}
use Rattle.mr_node_state.specs.Parts.{with_ends}
use Rattle.mr_node_state.proofs.Nodes.{put_node}

-- an end to which no stream is sent, of a client, in the place of another
abbrev IsQuiet : EndState → Type 0
IsQuiet e = (e ≡ upstream → ⊥) × (streams (Some e) ≡ false)

no_true : (b : Bool) → b ≡ false → b ≡ true → ⊥
no_true b p q = let wrong : false ≡ true = sym p ∙ q in cc

quiet_client : (u : List ℕ) → IsQuiet (client u)
quiet_client u = ((λ e. cc), refl)

quiet_waiting : (t : Transaction) (u : List ℕ) → IsQuiet (waiting t u)
quiet_waiting t u = ((λ e. cc), refl)

quiet_node : (a : NodeState) (l : LinkId) (e f : EndState) (ends : Links EndState) → IsNode a → end_at a.ends l ≡ Some e → IsQuiet e → IsQuiet f → ends ≡ put_end a.ends l f → IsNode (with_ends a ends)
quiet_node a l e f ends i found was is put = subst (λ z. IsNode (with_ends a z)) (sym put) (put_node a l e f i found was.0 is.0 (λ goes. absurd (no_true (streams (Some f)) is.1 goes)))

pub begun_node : (a : NodeState) (l : LinkId) (n : ℕ) (ends : Links EndState) → IsNode a → IsClient a.ends l n → BeginsAt a.ends l n ends → IsNode (with_ends a ends)
begun_node a l n ends i is b =
    quiet_node a l (client is.unread) (waiting begun (drop n is.unread)) ends i is.found (quiet_client is.unread) (quiet_waiting begun (drop n is.unread)) (b is.unread is.found)

pub waits_node : {A E : Type 0} (a : NodeState) (l : LinkId) (n : ℕ) (ends : Links EndState) (r : Result A E) → IsNode a → HasOpen a.ends l n → OnOk r (WaitsAt a.ends l n ends) → OnErr r (ends ≡ a.ends) → IsNode (with_ends a ends)
waits_node a l n ends (Ok x) i is w k =
    let t = is.transaction in let u = is.unread in
    quiet_node a l (waiting t u) (waiting (with_text (take n u) t) (drop n u)) ends i is.found (quiet_waiting t u) (quiet_waiting (with_text (take n u) t) (drop n u)) (w t u is.found)
waits_node a l n ends (Err x) i is w k = subst (λ z. IsNode (with_ends a z)) (sym k) i

pub marks_node : (a : NodeState) (l : LinkId) (n : ℕ) (ends : Links EndState) → IsNode a → HasOpen a.ends l n → MarksAt a.ends l n ends → IsNode (with_ends a ends)
marks_node a l n ends i is m =
    let t = is.transaction in let u = is.unread in
    quiet_node a l (waiting t u) (waiting (as_marked t) (drop n u)) ends i is.found (quiet_waiting t u) (quiet_waiting (as_marked t) (drop n u)) (m t u is.found)

pub taken_out_node : (a : NodeState) (l : LinkId) (t : Transaction) (ends : Links EndState) → IsNode a → TakesOut a.ends l t ends → IsNode (with_ends a ends)
taken_out_node a l t ends i h = quiet_node a l (waiting t h.unread) (client h.unread) ends i h.found (quiet_waiting t h.unread) (quiet_client h.unread) h.left

pub put_back_node : (a : NodeState) (l : LinkId) (t : Transaction) (ends : Links EndState) → IsNode a → IsClient a.ends l 0 → PutsBack a.ends l t ends → IsNode (with_ends a ends)
put_back_node a l t ends i is p = quiet_node a l (client is.unread) (waiting t is.unread) ends i is.found (quiet_client is.unread) (quiet_waiting t is.unread) (p is.unread is.found)
