use Rattle.std.proofs.Common.{◌∙◌, ap, cond, false, subst, sym, vec_len}
use Rattle.std.specs.Ordering.{eq_by_cmp}
use Rattle.mr_links.specs.LinkId.{id_cmp}
use Rattle.mr_connections.specs.State.{AreOnce, is_among}
use Rattle.mr_connections.proofs.Listed.{among-others, once-others, ended, without_last}
use Rattle.mr_connections.proofs.connections.unlist.Goals as goal

pub returns-then-is_last-clause-others : goal.returns-then-is_last-clause-others
returns-then-is_last-clause-others c =
    let old = c.args.done.now in let new = c.pop-last.new.self.items in let socket = c.args.socket in
    let last = c.is_last.ensures c.if-is_last.true in
    let is = ended old.items new socket c.deref.result.now (vec_len old) c.pop-last.result c.deref.ensures.value c.deref.ensures.len last.0 last.1 (c.pop-last.ensures.value socket) c.pop-last.ensures.items in
    λ q. (without_last new socket (subst AreOnce is c.requires)).1 q ∙ ap (λ xs. cond (eq_by_cmp id_cmp q socket) false (is_among q xs)) (sym is)

pub returns-then-is_last-clause-once : goal.returns-then-is_last-clause-once
returns-then-is_last-clause-once c =
    let old = c.args.done.now in let new = c.pop-last.new.self.items in let socket = c.args.socket in
    let last = c.is_last.ensures c.if-is_last.true in
    let is = ended old.items new socket c.deref.result.now (vec_len old) c.pop-last.result c.deref.ensures.value c.deref.ensures.len last.0 last.1 (c.pop-last.ensures.value socket) c.pop-last.ensures.items in
    (without_last new socket (subst AreOnce is c.requires)).0

pub returns-else-is_last-clause-others : goal.returns-else-is_last-clause-others
returns-else-is_last-clause-others c = λ q. ap (is_among q) c.drop_socket.ensures.items ∙ among-others c.args.socket c.args.done.now.items q

pub returns-else-is_last-clause-once : goal.returns-else-is_last-clause-once
returns-else-is_last-clause-once c = subst AreOnce (sym c.drop_socket.ensures.items) (once-others c.args.socket c.args.done.now.items c.requires)
