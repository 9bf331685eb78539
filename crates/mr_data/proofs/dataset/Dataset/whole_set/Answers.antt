use Rattle.std.proofs.Common.{rules, ◌≡◌, ℤ, List, true, subst}
use Rattle.std.specs.Bool.{⊤, MatchBool}
use Rattle.mr_map.specs.Bytes.{Bytes}
use Rattle.mr_data.specs.Whole.{names, TakeAll}
use Rattle.mr_data.proofs.Leaving.{whole_goes, key_fits}
use Rattle.mr_data.proofs.dataset.Dataset.whole_set.Goals as goal

pub returns-clause-fits : goal.returns-clause-fits
returns-clause-fits c = key_fits c.args.self.now c.in_ok-key.key.now c.in-Some.set.now c.sorted_set.ensures.kept c.in-Some.ensures.set

pub returns-clause-goes : goal.returns-clause-goes
returns-clause-goes c =
    let all : c.take_all.result ≡ true = search rules in
    let out : TakeAll c.in_ok-key.key.now c.args.effects.now (names c.iter.result) = subst (λ b. MatchBool b (TakeAll c.in_ok-key.key.now c.args.effects.now (names c.iter.result)) ⊤) all c.take_all.ensures in
    whole_goes c.args.self.now c.in_ok-key.key.now c.in-Some.set.now c.sorted_set.ensures.kept c.in-Some.ensures.set c.args.effects.now
    (subst (λ (ps : List (Bytes × ℤ)). TakeAll c.in_ok-key.key.now c.args.effects.now (names ps)) c.iter.ensures out)
