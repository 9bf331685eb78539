use Rattle.std.proofs.Common.{◌≡◌, ◌∙◌, ℕ, List, [], ◌∷◌, Some, length, sym, subst, ap, arith}
use Rattle.std.specs.Prelude.{option_copied}
use Rattle.std.specs.FinMap.{entries}
use Rattle.std.specs.Iterator.{YieldsFirstBy}
use Rattle.mr_map.specs.Bytes.{deref_pair}
use Rattle.mr_zset.specs.Few.{behind}
use Rattle.mr_zset.specs.Stored.{scores_of}
use Rattle.mr_zset.proofs.ScanLemmas.{none_behind, one_behind}
use Rattle.mr_zset.proofs.few_scores.FewScoresIterator.next.Goals as goal

pub returns-in_err-entry-clause-steps : goal.returns-in_err-entry-clause-steps
returns-in_err-entry-clause-steps c =
    let none : c.args.self.now ≡ [] = sym c.self.view_is ∙ none_behind c.self.inside.pairs.now (option_copied c.self.inside.last) (option_copied c.first_behind.result) c.first_behind.ensures (ap option_copied c.in_err-entry.was) in
    subst (λ r. YieldsFirstBy deref_pair (λ s. s) c.args.self.now r c.args.self.now) (sym c.from_residual.ensures) (none, none)

pub returns-clause-steps : goal.returns-clause-steps
returns-clause-steps c =
    let all = entries (scores_of c.self.inside.pairs.now) in
    let entry = c.in_ok-entry.entry.now in
    sym c.self.view_is ∙ one_behind c.self.inside.pairs.now (option_copied c.self.inside.last) (option_copied c.first_behind.result) c.first_behind.ensures entry (ap option_copied c.in_ok-entry.was)
    ∙ ap (λ (k : List ℕ). (k, entry.score) ∷ behind (Some k) all) (sym c.as_slice-member.ensures)

pub returns-clause-goes : goal.returns-clause-goes
returns-clause-goes c =
    let all = entries (scores_of c.self.inside.pairs.now) in
    let entry = c.in_ok-entry.entry.now in
    let steps : c.args.self.now ≡ (c.as_slice-member.result.now, entry.score) ∷ behind (Some c.as_slice-member.result.now) all =
    (sym c.self.view_is ∙ one_behind c.self.inside.pairs.now (option_copied c.self.inside.last) (option_copied c.first_behind.result) c.first_behind.ensures entry (ap option_copied c.in_ok-entry.was)
    ∙ ap (λ (k : List ℕ). (k, entry.score) ∷ behind (Some k) all) (sym c.as_slice-member.ensures)) in
    let count = ap length steps in
    record { on = λ _. (tt, tt, omega (arith, count)); keeps = tt; rests = λ _. tt }
