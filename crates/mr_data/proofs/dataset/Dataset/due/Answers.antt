use Rattle.std.proofs.Common.{◌≡◌, map, false, true, Some, sym, ◌∙◌, ap, to_z, of_z, w64}
use Rattle.std.specs.Prelude.{option_copied, int_le}
use Rattle.std.specs.Option.{option_map}
use Rattle.std.proofs.lemmas.Int.{to_z-of_z}
use Rattle.mr_keyspace.specs.TimedKeys.{dated as entered}
use Rattle.mr_data.proofs.Dues.{first_expired, first_later, none_first, is_none, is_due}
use Rattle.mr_data.proofs.dataset.Dataset.due.Goals as goal

pub returns-in_err-first : goal.returns-in_err-first
returns-in_err-first c =
    ap option_copied c.from_residual.ensures ∙ ap (option_map (λ d. d.0)) (sym (none_first c.args.now c.args.self.now c.timed_keys.result c.in_err-first.ensures.steps.0 c.timed_keys.ensures.all))

pub returns-in_err-due : goal.returns-in_err-due
returns-in_err-due c =
    let x = c.in_ok-first.first.now in
    let later : int_le x.deadline c.args.now ≡ false = ap (int_le x.deadline) (sym (to_z-of_z w64 c.args.now c.ranges.now)) ∙ is_none (to_z w64 (of_z w64 c.args.now)) x c.if_expired.result c.if_expired.ensures c.in_err-due.was in
    ap option_copied c.from_residual-in_err-due.ensures
    ∙ ap (option_map (λ d. d.0)) (sym (first_later c.args.now c.args.self.now x c.next.new.self (ap (map entered) (sym c.in_ok-first.ensures.steps) ∙ c.timed_keys.ensures.all) later))

pub returns : goal.returns
returns c =
    let x = c.in_ok-first.first.now in
    let returned = is_due (to_z w64 (of_z w64 c.args.now)) x c.if_expired.result c.in_ok-due.due c.if_expired.ensures c.in_ok-due.was in
    let here : int_le x.deadline c.args.now ≡ true = ap (int_le x.deadline) (sym (to_z-of_z w64 c.args.now c.ranges.now)) ∙ returned.1 in
    ap (λ d. Some d.0) returned.0
    ∙ ap (option_map (λ d. d.0)) (sym (first_expired c.args.now c.args.self.now x c.next.new.self (ap (map entered) (sym c.in_ok-first.ensures.steps) ∙ c.timed_keys.ensures.all) here))
