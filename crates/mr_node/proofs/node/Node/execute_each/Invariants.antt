use Rattle.std.proofs.Common.{map, take}
use Rattle.mr_node.specs.Executing.{DidAll}
use Rattle.mr_node.proofs.node.Node.execute_each.Given as goal

-- those in front are done
abbrev pub invariant-loop-request : goal.invariant-loop-request
invariant-loop-request l = DidAll l.fn.self l.fn.given (take l.request-index (map (λ r. r.items) l.fn.requests)) l.fn.outs l.count l.self l.outs
