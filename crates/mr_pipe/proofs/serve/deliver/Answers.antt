use Rattle.std.proofs.Common.{◌++◌, Ok, refl}
use Rattle.mr_pipe.specs.Outside.{outside}
use Rattle.mr_pipe.specs.Serving.{IsDrained}
use Rattle.mr_pipe.proofs.Deliveries.{flushed, not_flushed}
use Rattle.mr_pipe.proofs.serve.deliver.Goals as goal

pub returns-then-is_err : goal.returns-then-is_err
returns-then-is_err g c = λ s u x w.
    let out = outside g.W.Write.contents g.F.LogFile.told g.F.LogFile.synced g.F.LogFile.failures in
    let y = out c.serve_bytes.new.output c.serve_bytes.new.log in let z = out c.flush.new.self c.serve_bytes.new.log in
    let v = u ++ c.args.bytes.now in
    let d : IsDrained c.args.given s v x c.serve_bytes.new.linked y (Ok c.in_ok-goes_on.goes_on) = c.in_ok-goes_on.ensures s u x w in
    not_flushed c.args.given s v x c.serve_bytes.new.linked y z c.in_ok-goes_on.goes_on d c.flush.ensures.bytes refl

pub returns : goal.returns
returns g c = λ s u x w.
    let out = outside g.W.Write.contents g.F.LogFile.told g.F.LogFile.synced g.F.LogFile.failures in
    let y = out c.serve_bytes.new.output c.serve_bytes.new.log in let z = out c.flush.new.self c.serve_bytes.new.log in
    let v = u ++ c.args.bytes.now in
    let d : IsDrained c.args.given s v x c.serve_bytes.new.linked y (Ok c.in_ok-goes_on.goes_on) = c.in_ok-goes_on.ensures s u x w in
    flushed c.args.given s v x c.serve_bytes.new.linked y z c.in_ok-goes_on.goes_on d c.flush.ensures.bytes refl
