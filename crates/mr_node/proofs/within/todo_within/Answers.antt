use Rattle.std.proofs.Common.{map, subst, sym}
use Rattle.std.specs.Cow.{cow_slice_items}
use Rattle.mr_resp.specs.Resumed.{Agrees}
use Rattle.mr_resp.specs.Scans.{BeginsWithRequest}
use Rattle.mr_resp.specs.declared.request.Scan.TheVariants.{Whole}
use Rattle.mr_commands.specs.Transactions.{IsWithin, coming}
use Rattle.mr_node_spec.specs.ClientRows.{MayLack}
use Rattle.mr_node.proofs.Reading.{agrees_now, asked_at, in_any_case, may_lack, read_as}
use Rattle.mr_node.proofs.within.todo_within.Goals as goal

pub next_request_from-requires : goal.next_request_from-requires
next_request_from-requires c =
    subst (λ limits. Agrees limits c.args.progress c.args.unread.now) (sym c.usual-limits.ensures.same) (agrees_now c.args.progress c.args.unread.now c.requires)

pub returns-in_err-words-clause-lacks : goal.returns-in_err-words-clause-lacks
returns-in_err-words-clause-lacks c =
    in_any_case c.from_residual.result (MayLack c.args.unread.now) (may_lack c.args.unread.now (subst (λ limits. BeginsWithRequest limits c.args.unread.now) c.usual-limits.ensures.same c.in_err-words.ensures.refused))

pub returns-in-Whole-clause-todo : goal.returns-in-Whole-clause-todo
returns-in-Whole-clause-todo c =
    let input = c.args.unread.now in
    let r = read_as input (Whole c.in-Whole.words c.in-Whole.used) c.usual-limits.ensures.same c.in-Whole.is c.in_ok-words.ensures.found in
    let ws = map cow_slice_items c.in-Whole.words.items in
    record { words = ws; reads = record { enough = r.0; asks = asked_at input c.in-Whole.used ws r.1 }; is_within = subst (λ xs. IsWithin (coming c.args.replica (map cow_slice_items xs)) c.words_within.result) c.as_slice.ensures.value c.words_within.ensures }
