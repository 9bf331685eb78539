use Rattle.std.proofs.Common.{◌≡◌, true, false, Some, refl, sym, ◌∙◌, ap, subst, to_z, of_z, w64}
use Rattle.std.specs.Ordering.{int_eq}
use Rattle.std.proofs.lemmas.Int.{to_z-of_z}
use Rattle.mr_keyspace.specs.TimedKeys.{IsDeadlineOf}
use Rattle.mr_keyspace.proofs.Index.{unmoved, moves, same_deadline}
use Rattle.mr_keyspace.proofs.keyspace.move_deadline.Goals as goal

pub returns-then-before-after-clause-ok : goal.returns-then-before-after-clause-ok
returns-then-before-after-clause-ok c =
    let k = c.args.key in
    let s = c.args.timed_keys.now in
    let same : c.args.before ≡ c.args.after = sym (to_z-of_z w64 c.args.before c.ranges.before) ∙ ap (to_z w64) c.if-before-after.true ∙ to_z-of_z w64 c.args.after c.ranges.after in
    unmoved k (Some c.args.after) s (subst (λ d. IsDeadlineOf k (Some d) s) same c.requires)

pub returns-clause-ok : goal.returns-clause-ok
returns-clause-ok c =
    let apart : int_eq c.args.before c.args.after ≡ false = elim (int_eq c.args.before c.args.after) as (λ t. int_eq c.args.before c.args.after ≡ t → t ≡ false) [
      | true ↦ λ e. absurd (c.if-before-after.false (ap (of_z w64) (same_deadline c.args.before c.args.after e)))
      | false ↦ λ e. refl
    ] refl in
    moves (record { deadline = c.args.before; key = c.args.key }) (record { deadline = c.args.after; key = c.in_ok-name.name }) c.args.timed_keys.now c.insert.new.self c.remove.new.self
    (c.in_ok-name.ensures ∙ c.as_slice.ensures) apart c.requires
    (rw (sym (to_z-of_z w64 c.args.after c.ranges.after)) c.in_ok-insert.ensures.ok)
    (rw (sym (to_z-of_z w64 c.args.before c.ranges.before)) c.remove.ensures)
