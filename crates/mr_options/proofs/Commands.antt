-- What a command of clap comes to, one option after another.
use Rattle.std.proofs.Common.{◌≡◌, ◌∙◌, ap}
use Rattle.std.specs.Prelude.{IfOk, Result, Ok, Err}
use Rattle.clap.specs.Words.{App, Rule, app_of, with_rule}
use Rattle.clap.specs.declared.builder.command.Command.{Command}

-- with one more option
pub grown : {before now after : App} (rule : Rule) → before ≡ now → after ≡ with_rule before rule → after ≡ with_rule now rule
grown rule is more = more ∙ ap (λ x. with_rule x rule) is

-- with the last option
pub with_last : {E : Type 0} (result : Result Command E) {before now : App} (rule : Rule) → before ≡ now
    → IfOk result (λ made. app_of made ≡ with_rule before rule) → IfOk result (λ made. app_of made ≡ with_rule now rule)
with_last (Ok made) rule is more = grown rule is more
with_last (Err fault) rule is more = more
