use Rattle.std.proofs.Common.{subst}
use Rattle.clap.specs.Words.{Text, found_of, rows_of}
use Rattle.mr_options.specs.Outcomes.{IsLineOf}
use Rattle.mr_options.proofs.Lines.{explained}
use Rattle.mr_options.proofs.Passing.{pipe_numbers, serve_numbers, world_numbers}
use Rattle.mr_options.proofs.options_of.Goals as goal

pub pipe_of-requires : goal.pipe_of-requires
pipe_of-requires c =
    let rows = rows_of (found_of c.args.matches.now) in
    let P : Text → Type 0 = λ name. IsLineOf name c.requires.0 rows in
    pipe_numbers c.requires.0 rows (subst P c.in-pipe.is c.requires.1)

pub serve_of-requires : goal.serve_of-requires
serve_of-requires c =
    let rows = rows_of (found_of c.args.matches.now) in
    let P : Text → Type 0 = λ name. IsLineOf name c.requires.0 rows in
    serve_numbers c.requires.0 rows (subst P c.in-serve.is c.requires.1)

pub returns-in-None-clause-err : goal.returns-in-None-clause-err
returns-in-None-clause-err c = λ words is.
    let rows = rows_of (found_of c.args.matches.now) in
    let P : Text → Type 0 = λ name. IsLineOf name words rows in
    (rows, (subst P c.in-pipe.is is, c.in-None.ensures.none))

pub returns-in-Err-clause-err : goal.returns-in-Err-clause-err
returns-in-Err-clause-err c = λ words is.
    let rows = rows_of (found_of c.args.matches.now) in
    let P : Text → Type 0 = λ name. IsLineOf name words rows in
    explained words rows c.in-Err.fault (subst P c.in-serve.is is) c.in-Err.ensures.err

pub world_of-requires : goal.world_of-requires
world_of-requires c =
    let rows = rows_of (found_of c.args.matches.now) in
    let P : Text → Type 0 = λ name. IsLineOf name c.requires.0 rows in
    world_numbers c.requires.0 rows (subst P c.in-world.is c.requires.1)
