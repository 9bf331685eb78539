use Rattle.std.proofs.Common.{arith, ◌≤◌, map, take, length, subst, sym, ap, All, IsTrue, IfOk}
use Rattle.std.proofs.lemmas.List.{length-map}
use Rattle.std.specs.Cow.{cow_slice_items}
use Rattle.std.specs.List.{list_all}
use Rattle.mr_bytes.specs.Words.{fits}
use Rattle.mr_resp.specs.Scans.{BeginsWithRequest}
use Rattle.mr_resp.specs.declared.request.Scan.TheVariants.{Whole}
use Rattle.mr_resp.specs.Resumed.{Agrees}
use Rattle.mr_resp.specs.Usual.{usual-word, usual-words, commands-words}
use Rattle.mr_node_spec.specs.ClientRows.{MayLack}
use Rattle.mr_node.specs.Reading.{IsDone}
use Rattle.mr_node.proofs.Reading.{agrees_now, all_fit, asked_at, read_as, done_all, in_any_case, may_lack}
use Rattle.mr_node.proofs.todo.todo_of.Goals as goal

pub next_request_from-requires : goal.next_request_from-requires
next_request_from-requires c =
    subst (λ limits. Agrees limits c.args.progress c.args.unread.now) (sym c.usual-limits.ensures.same) (agrees_now c.args.progress c.args.unread.now c.requires)

pub returns-in_err-words-clause-lacks : goal.returns-in_err-words-clause-lacks
returns-in_err-words-clause-lacks c =
    in_any_case c.from_residual.result (MayLack c.args.unread.now) (may_lack c.args.unread.now (subst (λ limits. BeginsWithRequest limits c.args.unread.now) c.usual-limits.ensures.same c.in_err-words.ensures.refused))

pub request_todo-requires-clause-fit : goal.request_todo-requires-clause-fit
request_todo-requires-clause-fit c =
    let input = c.args.unread.now in
    let r = read_as input (Whole c.in-Whole.words c.in-Whole.used) c.usual-limits.ensures.same c.in-Whole.is c.in_ok-words.ensures.found in
    let ws = map cow_slice_items c.in-Whole.words.items in
    subst (λ xs. IsTrue (list_all fits (map cow_slice_items xs))) (sym c.as_slice.ensures.value)
    (all_fit ws (subst (λ n. All (λ w. length w ≤ n) ws) usual-word (c.words_fit.ensures.each (take c.in-Whole.used input) ws r.1)))

pub request_todo-requires-clause-few : goal.request_todo-requires-clause-few
request_todo-requires-clause-few c =
    let input = c.args.unread.now in
    let r = read_as input (Whole c.in-Whole.words c.in-Whole.used) c.usual-limits.ensures.same c.in-Whole.is c.in_ok-words.ensures.found in
    let ws = map cow_slice_items c.in-Whole.words.items in
    let same = ap length c.as_slice.ensures.value in
    omega (arith, same, c.words_fit.ensures.count (take c.in-Whole.used input) ws r.1, usual-words, commands-words, length-map c.in-Whole.words.items cow_slice_items)

pub returns-in-Whole-clause-todo : goal.returns-in-Whole-clause-todo
returns-in-Whole-clause-todo c =
    let input = c.args.unread.now in
    let r = read_as input (Whole c.in-Whole.words c.in-Whole.used) c.usual-limits.ensures.same c.in-Whole.is c.in_ok-words.ensures.found in
    let ws = map cow_slice_items c.in-Whole.words.items in
    done_all c.request_todo.result c.args.replica ws input c.in-Whole.used c.args.given c.args.held.now r.0 (asked_at input c.in-Whole.used ws r.1)
    (subst (λ xs. IfOk c.request_todo.result (λ t. IsDone c.args.replica (map cow_slice_items xs) c.in-Whole.used c.args.given c.args.held.now t)) c.as_slice.ensures.value c.request_todo.ensures)

pub returns-in-Whole-clause-lacks : goal.returns-in-Whole-clause-lacks
returns-in-Whole-clause-lacks c =
    let input = c.args.unread.now in
    let r = read_as input (Whole c.in-Whole.words c.in-Whole.used) c.usual-limits.ensures.same c.in-Whole.is c.in_ok-words.ensures.found in
    in_any_case c.request_todo.result (MayLack input) (MayLack.asks _ _ (asked_at input c.in-Whole.used (map cow_slice_items c.in-Whole.words.items) r.1))
