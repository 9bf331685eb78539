use Rattle.std.proofs.Common.{sym, ◌∙◌, ap}
use Rattle.std.specs.Prelude.{is_some}
use Rattle.std.specs.FinMap.{get, insert, remove}
use Rattle.mr_map.proofs.Domains.{put_back, put_both}
use Rattle.mr_map.proofs.keyed_map.KeyedMap.insert_long.Goals as goal

pub invariant_of-self-in-Ok : goal.invariant_of-self-in-Ok
invariant_of-self-in-Ok g c q =
    let o = c.self.inside.order in
    ap (λ m. is_some (get m q)) (c.in_ok-insert_copy.ensures.ok ∙ ap (λ x. insert o x tt) c.as_slice.ensures.value)
    ∙ put_both o c.self.inside.tables c.args.key.items c.self.invariant tt c.args.value q
    ∙ sym (ap (λ m. is_some (get m q)) c.in-Ok.ensures.ok)

pub invariant_of-self-in-Err : goal.invariant_of-self-in-Err
invariant_of-self-in-Err g c q =
    let o = c.self.inside.order in
    let came = c.in_ok-insert_copy.ensures.ok ∙ ap (λ x. insert o x tt) c.as_slice.ensures.value in
    let went = c.as_slice-in-Err.ensures.value ∙ ap (λ pair. pair.0.items) c.in-Err.ensures.back in
    ap (λ m. is_some (get m q)) (c.remove.ensures.removed ∙ (λ i. remove (came i) (went i)))
    ∙ put_back o c.self.inside.tables c.args.key.items c.self.invariant tt (ap is_some c.in-Err.ensures.absent) q
    ∙ sym (ap (λ m. is_some (get m q)) c.in-Err.ensures.err)
