use Rattle.std.proofs.Common.{rules, ◌≡◌, refl}
use Rattle.std.specs.Prelude.{None}
use Rattle.mr_pipe.specs.Outside.{Kept, kept_of, outside}
use Rattle.mr_pipe.specs.Piped.{begun_with, begun_empty, no_file}
use Rattle.mr_pipe.proofs.Relaying.{is_alone, piped_alone, never_fails}
use Rattle.mr_pipe.proofs.relay.pipe.Goals as goal

pub returns-clause-piped : goal.returns-clause-piped
returns-clause-piped g c =
    let left = g.R.Read.remaining in let told = g.W.Write.contents in
    let id = c.args.config.now.id in
    let k : Kept = kept_of (λ _. None) (λ _. None) (λ _. 0) c.none-log.result in
    let n : Kept = kept_of (λ _. None) (λ _. None) (λ _. 0) c.pipe_with.new.log in
    let none : k ≡ no_file = is_alone k refl refl refl c.none-log.ensures.mode c.none-log.ensures.whole in
    let fresh : begun_with id c.new.result ≡ begun_empty id = search rules in
    piped_alone c.args.config.now.given (begun_with id c.new.result) (begun_empty id) (left c.args.input.now) (left c.pipe_with.new.input) (told c.args.output.now) (told c.pipe_with.new.output) k n c.pipe_with.result fresh none c.pipe_with.ensures

pub returns-clause-no_file : goal.returns-clause-no_file
returns-clause-no_file g c = λ e.
    let out = outside g.W.Write.contents (λ _. None) (λ _. None) (λ _. 0) in
    let id = c.args.config.now.id in
    never_fails c.args.config.now.given (begun_with id c.new.result) (g.R.Read.remaining c.args.input.now) (g.R.Read.remaining c.pipe_with.new.input) (out c.args.output.now c.none-log.result) (out c.pipe_with.new.output c.pipe_with.new.log)
    c.pipe_with.result c.none-log.ensures.whole refl c.pipe_with.ensures e
