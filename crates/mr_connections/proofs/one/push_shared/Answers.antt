use Rattle.mr_connections.proofs.Changed.{put_same, on_err_map}
use Rattle.mr_connections.proofs.one.push_shared.Goals as goal

pub returns-in-Some-clause-err : goal.returns-in-Some-clause-err
returns-in-Some-clause-err c = on_err_map c.push_shared.result c.push_shared.ensures.err (λ same. put_same c.args.rows.now c.args.socket c.in-Some.connection.now c.push_shared.new.self same c.in-Some.ensures.value)
