use Rattle.mr_connections.proofs.Changed.{put_same}
use Rattle.mr_connections.proofs.one.widen.Goals as goal

pub returns-in-Some : goal.returns-in-Some
returns-in-Some c = put_same c.args.rows.now c.args.socket c.in-Some.connection.now c.widen.new.self c.widen.ensures c.in-Some.ensures.value
