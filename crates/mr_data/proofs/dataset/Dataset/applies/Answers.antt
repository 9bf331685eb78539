use Rattle.std.proofs.Common.{rules, ◌≡◌, ◌&&◌, ◌∙◌, true, ap}
use Rattle.std.specs.Prelude.{is_some}
use Rattle.mr_effect.specs.Effects.{has_spelling, words_fit}
use Rattle.mr_data.specs.Meaning.{apply}
use Rattle.mr_data.proofs.Answering.{is_change}
use Rattle.mr_data.proofs.dataset.Dataset.applies.Goals as goal

pub returns-then-is_possible : goal.returns-then-is_possible
returns-then-is_possible c =
    let e = c.args.effect.now in
    let possible : has_spelling e && words_fit e ≡ true = search rules in
    c.applies.ensures ∙ ap is_some (is_change e c.self.inside.entries possible) ∙ ap (λ m. is_some (apply e m)) c.self.view_is
