use Rattle.std.proofs.Common.{subst}
use Rattle.mr_wire.specs.Wire.{WaitsOnce}
use Rattle.mr_loop.proofs.turning.wait.Goals as goal

pub returns-clause-hurries : goal.returns-clause-hurries
returns-clause-hurries g c = λ tells hurries. subst (λ n. WaitsOnce n (g.W.Wire.waited c.args.wire.now) (g.W.Wire.waited c.wait.new.self)) (c.longest_wait.ensures.hurries hurries) (c.wait.ensures.waited tells)

pub returns-clause-waits : goal.returns-clause-waits
returns-clause-waits g c = λ tells calm. subst (λ n. WaitsOnce n (g.W.Wire.waited c.args.wire.now) (g.W.Wire.waited c.wait.new.self)) (c.longest_wait.ensures.waits calm) (c.wait.ensures.waited tells)
