use Rattle.std.proofs.Common.{◌∙◌, ℕ, sym, subst}
use Rattle.clap.specs.Words.{found_of, rows_of}
use Rattle.mr_options.specs.Values.{NamesNumber}
use Rattle.mr_options.proofs.Numbers.{named_read}
use Rattle.mr_options.proofs.Rows.{some_of}
use Rattle.mr_options.proofs.values.needed_number_of.Goals as goal

pub unreachable-requires : goal.unreachable-requires
unreachable-requires c =
    let read = named_read (found_of c.args.matches.now) c.args.name.now c.requires.0 c.get_one.result c.requires.1 c.get_one.ensures.value in
    c.in_default.not-Some read.0 read.1.0

pub returns : goal.returns
returns c =
    let f = found_of c.args.matches.now in
    let read = named_read f c.args.name.now c.requires.0 c.get_one.result c.requires.1 c.get_one.ensures.value in
    let P : ℕ → Type 0 = NamesNumber (rows_of f) c.args.name.now in
    subst P (some_of read.0 c.in-Some.number (sym read.1.0 ∙ c.in-Some.is)) read.1.1
