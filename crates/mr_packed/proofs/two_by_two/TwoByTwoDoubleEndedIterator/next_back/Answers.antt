use Rattle.std.proofs.Common.{rules, ◌++◌, ◌∷◌, [], length, sym, ap, ◌∙◌, length-append}
use Rattle.mr_packed.proofs.Pairing.{last_gone}
use Rattle.mr_packed.proofs.two_by_two.TwoByTwoDoubleEndedIterator.next_back.Goals as goal

pub invariant_of-self-2 : goal.invariant_of-self-2
invariant_of-self-2 c =
    (last_gone c.self.inside.strings c.next_back-2.new.self c.in_ok-first.first.now c.in_ok-second.second.now c.self.invariant
    (c.in_ok-second.ensures.steps ∙ ap (λ l. l ++ c.in_ok-second.second.now ∷ []) c.in_ok-first.ensures.steps)).0

pub returns-clause-steps : goal.returns-clause-steps
returns-clause-steps c =
    sym c.self.view_is ∙ (last_gone c.self.inside.strings c.next_back-2.new.self c.in_ok-first.first.now c.in_ok-second.second.now c.self.invariant
    (c.in_ok-second.ensures.steps ∙ ap (λ l. l ++ c.in_ok-second.second.now ∷ []) c.in_ok-first.ensures.steps)).1

pub returns-clause-goes : goal.returns-clause-goes
returns-clause-goes c = let fewer = ap length (returns-clause-steps c) ∙ length-append _ ((c.in_ok-first.first.now, c.in_ok-second.second.now) ∷ []) in search rules
