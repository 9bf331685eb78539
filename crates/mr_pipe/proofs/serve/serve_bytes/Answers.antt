use Rattle.std.proofs.Common.{rules, ◌≡◌, ◌++◌, Err, sym, subst}
use Rattle.mr_node_spec.specs.LinkRows.{Feeds}
use Rattle.mr_pipe.specs.Outside.{outside}
use Rattle.mr_pipe.specs.State.{Stands}
use Rattle.mr_pipe.specs.Serving.{IsDrained}
use Rattle.mr_pipe.specs.Faults.{fault_of}
use Rattle.mr_pipe.proofs.Steps.{hears}
use Rattle.mr_pipe.proofs.Deliveries.{drained_join, not_fed}
use Rattle.mr_pipe.proofs.serve.serve_bytes.Goals as goal

pub returns-in_err-feed : goal.returns-in_err-feed
returns-in_err-feed g c = λ s u x w.
    let out = outside g.W.Write.contents g.F.LogFile.told g.F.LogFile.synced g.F.LogFile.failures in
    let y = out c.args.output.now c.args.log.now in
    let e = c.in_err-feed.field-0.0 in
    let told : c.from_residual.result ≡ Err (fault_of e) = search rules in
    subst (λ r. IsDrained c.args.given s (u ++ c.args.bytes.now) x (record c.args.linked.now { node = c.feed.new.self }) y r) (sym told) (not_fed c.args.given s u x c.args.bytes.now c.args.linked.now y c.feed.new.self e w c.in_err-feed.ensures)

pub returns : goal.returns
returns g c = λ s u x w.
    let out = outside g.W.Write.contents g.F.LogFile.told g.F.LogFile.synced g.F.LogFile.failures in
    let p = c.args.linked.now in
    let y = out c.args.output.now c.args.log.now in let z = out c.drain.new.output c.drain.new.log in
    let fed : Feeds p.node p.link c.args.bytes.now c.feed.new.self = c.in_ok-feed.ensures.3 in
    let stands : Stands (record p { node = c.feed.new.self }) w.at (w.done.rest ++ c.args.bytes.now) = hears p w.at w.done.rest c.args.bytes.now c.feed.new.self w.stands fed in
    drained_join c.args.given s u x c.args.bytes.now w.at y c.drain.new.linked z w.done c.drain.result (c.drain.ensures w.at (w.done.rest ++ c.args.bytes.now) stands)
