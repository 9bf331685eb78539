use Rattle.std.proofs.Common.{◌∙◌, sym, map, string_bytes}
use Rattle.mr_options.proofs.Lines.{line_of, of_some}
use Rattle.mr_options.proofs.options.Goals as goal

pub options_of-requires : goal.options_of-requires
options_of-requires c = (map string_bytes c.args.words.now, line_of (map string_bytes c.args.words.now) c.in-Ok.matches c.in_ok-command.ensures c.in-Ok.ensures.kinds c.in-Ok.ensures.matches c.in-Some.ensures.name c.in-Some.ensures.rows)

pub returns-clause-ok : goal.returns-clause-ok
returns-clause-ok c =
    let is = line_of (map string_bytes c.args.words.now) c.in-Ok.matches c.in_ok-command.ensures c.in-Ok.ensures.kinds c.in-Ok.ensures.matches c.in-Some.ensures.name c.in-Some.ensures.rows in
    of_some string_bytes c.args.words.now c.options_of.result (sym c.is_empty.ensures ∙ c.if-is_empty.false) (c.options_of.ensures.ok (map string_bytes c.args.words.now) is)

pub returns-clause-err : goal.returns-clause-err
returns-clause-err c =
    let is = line_of (map string_bytes c.args.words.now) c.in-Ok.matches c.in_ok-command.ensures c.in-Ok.ensures.kinds c.in-Ok.ensures.matches c.in-Some.ensures.name c.in-Some.ensures.rows in
    c.options_of.ensures.err (map string_bytes c.args.words.now) is
