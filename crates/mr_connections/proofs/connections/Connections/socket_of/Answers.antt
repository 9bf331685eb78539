use Rattle.std.proofs.Common.{subst}
use Rattle.mr_connections.specs.State.{AreToldApart}
use Rattle.mr_connections.proofs.Indexed.{told_apart}
use Rattle.mr_connections.proofs.connections.Connections.socket_of.Goals as goal

pub returns-in_err-socket-clause-apart : goal.returns-in_err-socket-clause-apart
returns-in_err-socket-clause-apart c = subst AreToldApart c.self.view_is (told_apart c.self.inside.rows c.self.inside.sockets c.self.inside.count c.self.invariant.0)

pub returns-then-has_link-clause-apart : goal.returns-then-has_link-clause-apart
returns-then-has_link-clause-apart c = subst AreToldApart c.self.view_is (told_apart c.self.inside.rows c.self.inside.sockets c.self.inside.count c.self.invariant.0)

pub returns-else-has_link-clause-apart : goal.returns-else-has_link-clause-apart
returns-else-has_link-clause-apart c = subst AreToldApart c.self.view_is (told_apart c.self.inside.rows c.self.inside.sockets c.self.inside.count c.self.invariant.0)
