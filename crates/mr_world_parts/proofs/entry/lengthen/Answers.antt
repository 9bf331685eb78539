use Rattle.std.proofs.Common.{rules, ◌<◌, length, ◌≡◌, ◌∙◌, ◌++◌, sym, ap, true, Some}
use Rattle.std.specs.Prelude.{slice_get, slice_set, bytes_eq}
use Rattle.mr_node.proofs.Results.{on_ok_map}
use Rattle.law_refinement.specs.State.{BookEntry}
use Rattle.mr_world_parts.proofs.Undone.{extended_here}
use Rattle.mr_world_parts.proofs.Places.{stands}
use Rattle.mr_world_parts.proofs.entry.lengthen.Goals as goal

pub returns-then-is_of-clause-ok : goal.returns-then-is_of-clause-ok
returns-then-is_of-clause-ok c = on_ok_map c.lengthen.result _ _ c.lengthen.ensures.ok (λ h.
    let inside : c.loop-entry.entry-index < length c.loop-entry.book = search rules in
    let found : slice_get c.args.book.now c.loop-entry.entry-index ≡ Some c.entry-item.result =
    ap (λ z. slice_get z c.loop-entry.entry-index) (sym c.loop-entry.invariant.0) ∙ stands c.loop-entry.book c.loop-entry.entry-index c.entry-item.result inside c.entry-item.is in
    let same : bytes_eq c.entry-item.result.id c.args.id ≡ true = ap (λ (e : BookEntry). bytes_eq e.id c.args.id) c.entry-item.is ∙ (sym c.is_of.ensures ∙ c.if-is_of.true) in
    ap (λ z. slice_set z c.loop-entry.entry-index c.lengthen.new.self) c.loop-entry.invariant.0
    ∙ (ap (slice_set c.args.book.now c.loop-entry.entry-index) (h ∙ ap (λ (e : BookEntry). record e { texts = e.texts ++ c.args.bytes.now }) (sym c.entry-item.is))
    ∙ (extended_here c.args.book.now c.loop-entry.entry-index c.entry-item.result c.args.id c.args.bytes.now found same ∙ sym c.loop-entry.invariant.1)))
