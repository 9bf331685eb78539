use Rattle.std.proofs.Common.{map, subst, sym}
use Rattle.std.specs.Cow.{cow_slice_items}
use Rattle.mr_resp.specs.Scans.{BeginsWithRequest}
use Rattle.mr_resp.specs.declared.request.Scan.TheVariants.{Whole, Bad}
use Rattle.mr_resp.specs.Resumed.{Agrees}
use Rattle.mr_node_spec.specs.ReplicaRows.{IsUnwanted}
use Rattle.mr_node.specs.Noting.{AcknowledgesNothing, BeginsWithWords}
use Rattle.mr_node.proofs.Noting.{begins_with_words}
use Rattle.mr_node.proofs.Reading.{agrees_now, asked_at, read_as, in_any_case}
use Rattle.mr_node.proofs.noted.noted_of.Goals as goal

pub next_request_from-requires : goal.next_request_from-requires
next_request_from-requires c =
    subst (λ limits. Agrees limits c.args.progress c.args.unread.now) (sym c.usual-limits.ensures.same) (agrees_now c.args.progress c.args.unread.now c.requires)

pub returns-in_err-words-clause-lacks : goal.returns-in_err-words-clause-lacks
returns-in_err-words-clause-lacks c =
    in_any_case c.from_residual.result (BeginsWithWords c.args.unread.now)
    (begins_with_words c.args.unread.now (subst (λ limits. BeginsWithRequest limits c.args.unread.now) c.usual-limits.ensures.same c.in_err-words.ensures.refused))

pub returns-in-Whole-clause-noted : goal.returns-in-Whole-clause-noted
returns-in-Whole-clause-noted c =
    let input = c.args.unread.now in
    let ws = map cow_slice_items c.in-Whole.words.items in
    let r = read_as input (Whole c.in-Whole.words c.in-Whole.used) c.usual-limits.ensures.same c.in-Whole.is c.in_ok-words.ensures.found in
    IsUnwanted.other ws _ (asked_at input c.in-Whole.used ws r.1) (subst (λ xs. AcknowledgesNothing (map cow_slice_items xs)) c.as_slice.ensures.value c.in-None.ensures.none)

pub returns-clause-noted : goal.returns-clause-noted
returns-clause-noted c =
    let input = c.args.unread.now in
    let r = read_as input (Bad c.in-Bad.field-0) c.usual-limits.ensures.same c.in-Bad.is c.in_ok-words.ensures.found in
    IsUnwanted.doomed c.in-Bad.field-0 (record { fails = r })
