use Rattle.mr_wire.proofs.Places.{came_and_went}
use Rattle.mr_wire.proofs.socket_wire.SocketWire.open.Goals as goal

pub returns-clause-err : goal.returns-clause-err
returns-clause-err c = came_and_went c.args.self.now.links c.insert.new.self c.settle.new.self.links c.remove.new.self c.in-Ok.link c.args.connection
    c.in-Ok.ensures.fresh c.in-Ok.ensures.inserted c.in-Ok.ensures.opened c.settle.ensures.links c.remove.ensures.removed c.remove.ensures.opened
