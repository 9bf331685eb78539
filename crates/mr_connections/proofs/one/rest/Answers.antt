use Rattle.mr_connections.proofs.Changed.{put_same}
use Rattle.mr_connections.proofs.one.rest.Goals as goal

pub returns-in-Some : goal.returns-in-Some
returns-in-Some c = put_same c.args.rows.now c.args.socket c.in-Some.connection.now c.rest.new.self c.rest.ensures c.in-Some.ensures.value
