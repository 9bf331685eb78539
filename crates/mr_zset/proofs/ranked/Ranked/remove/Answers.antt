use Rattle.std.proofs.Common.{◌≡◌, ◌∙◌, None, sym, ap}
use Rattle.std.specs.FinMap.{get, remove}
use Rattle.mr_zset.proofs.NameLemmas.{len_removed, named_changed}
use Rattle.mr_zset.proofs.StoredChanges.{remove_absent}
use Rattle.mr_zset.proofs.ranked.Ranked.remove.Goals as goal

pub invariant_of-self : goal.invariant_of-self
invariant_of-self c =
    let member = c.args.member.now in
    let scores = c.self.inside.scores in
    let absent : get scores member ≡ None = sym c.take_name.ensures.before ∙ c.in_err-score.was in
    named_changed c.self.inside.names c.take_name.new.names scores scores (λ m. remove m member) c.self.invariant c.take_name.ensures.removed (sym (remove_absent scores member absent)) (len_removed scores member)

pub returns-in_err-score-clause-removed : goal.returns-in_err-score-clause-removed
returns-in_err-score-clause-removed c =
    let absent : get c.self.inside.scores c.args.member.now ≡ None = sym c.take_name.ensures.before ∙ c.in_err-score.was in
    sym (remove_absent c.self.inside.scores c.args.member.now absent) ∙ ap (λ m. remove m c.args.member.now) c.self.view_is

pub invariant_of-self-2 : goal.invariant_of-self-2
invariant_of-self-2 c =
    let member = c.args.member.now in
    let scores = c.self.inside.scores in
    named_changed c.self.inside.names c.take_name.new.names scores c.take.new.self (λ m. remove m member) c.self.invariant c.take_name.ensures.removed c.take.ensures (len_removed scores member)
