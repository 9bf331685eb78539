use Rattle.std.proofs.Common.{ℕ, sym, subst}
use Rattle.clap.specs.Words.{found_of, rows_of}
use Rattle.mr_options.specs.Values.{HasNumber}
use Rattle.mr_options.proofs.Numbers.{number_read}
use Rattle.mr_options.proofs.values.number_of.Goals as goal

pub returns : goal.returns
returns c =
    let f = found_of c.args.matches.now in
    let P : ℕ → Type 0 = HasNumber (rows_of f) c.args.name.now c.args.usual in
    subst P (sym c.unwrap_or.ensures) (number_read f c.args.name.now c.args.usual c.requires.0 c.get_one.result c.requires.1 c.get_one.ensures.none c.get_one.ensures.value)
