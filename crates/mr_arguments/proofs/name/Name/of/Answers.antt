use Rattle.std.proofs.Common.{rules, ◌∙◌, ◌≡◌, ap, slice_index_or}
use Rattle.std.specs.Prelude.{find}
use Rattle.mr_arguments.specs.Names.{lowered_byte, lowered, is_named}
use Rattle.mr_arguments.proofs.NameLemmas.{named_by_start, named_empty}
use Rattle.mr_arguments.proofs.name.Name.of.Goals as goal

pub returns-in-empty : goal.returns-in-empty
returns-in-empty c = named_empty c.args.word.now c.in-empty.len_below

pub returns-in-len1-up : goal.returns-in-len1-up
returns-in-len1-up c =
    let word = c.args.word.now in
    let letter : c.to_ascii_lowercase.result ≡ lowered_byte (slice_index_or word 0 0) = search rules in
    c.among.ensures ∙ ap (find (is_named (lowered word))) c.starting-alike.ensures ∙ named_by_start word _ c.in-len1-up.len_at_least letter
