use Rattle.std.proofs.Common.{rules, ◌≡◌, ◌∙◌, ap, to_z, of_z, w64, length, take, ℤ}
use Rattle.std.proofs.lemmas.Int.{to_z-of_z}
use Rattle.mr_data.specs.Due.{due}
use Rattle.mr_data.proofs.Dues.{at_end, at_later, at_full, each_is_word, is_out}
use Rattle.mr_data.proofs.dataset.Dataset.due_keys.Goals as goal

pub returns-then-len-most-clause-keys : goal.returns-then-len-most-clause-keys
returns-then-len-most-clause-keys c =
    let full : length c.loop-timed.keys.items ≡ c.args.most = search rules in
    at_full c.loop-timed.invariant full ∙ ap (λ (n : ℤ). take c.args.most (due n c.args.self.now)) (to_z-of_z w64 c.args.now c.ranges.now)

pub returns-then-len-most-clause-words : goal.returns-then-len-most-clause-words
returns-then-len-most-clause-words c = each_is_word c.loop-timed.invariant c.timed_keys-timed-items.ensures.kept

pub returns-in_default-clause-keys : goal.returns-in_default-clause-keys
returns-in_default-clause-keys c =
    let x = c.in-Some.timed.now in
    at_later c.loop-timed.invariant x c.next.new.self c.in-Some.ensures.steps (is_out (to_z w64 (of_z w64 c.args.now)) x c.if_expired.result c.if_expired.ensures c.in_default.not-Some)
    ∙ ap (λ (n : ℤ). take c.args.most (due n c.args.self.now)) (to_z-of_z w64 c.args.now c.ranges.now)

pub returns-in_default-clause-words : goal.returns-in_default-clause-words
returns-in_default-clause-words c = each_is_word c.loop-timed.invariant c.timed_keys-timed-items.ensures.kept

pub returns-clause-keys : goal.returns-clause-keys
returns-clause-keys c = at_end c.loop-timed.invariant c.in-None.ensures.steps.0 ∙ ap (λ (n : ℤ). take c.args.most (due n c.args.self.now)) (to_z-of_z w64 c.args.now c.ranges.now)

pub returns-clause-words : goal.returns-clause-words
returns-clause-words c = each_is_word c.loop-timed.invariant c.timed_keys-timed-items.ensures.kept
