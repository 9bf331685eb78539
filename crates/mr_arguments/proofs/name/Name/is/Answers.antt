use Rattle.std.proofs.Common.{◌∙◌}
use Rattle.mr_arguments.proofs.NameLemmas.{is_same}
use Rattle.mr_arguments.proofs.name.Name.is.Goals as goal

pub returns : goal.returns
returns c = is_same _ c.args.word.now _ _ (c.as_bytes.ensures.value ∙ c.text.ensures) c.eq_ignore_ascii_case.ensures.test
