use Rattle.std.proofs.Common.{rules, ◌≡◌, sym, to_z, of_z, w64}
use Rattle.mr_keyspace.proofs.Index.{goes_out}
use Rattle.mr_keyspace.proofs.keyspace.unindex.Goals as goal

pub returns : goal.returns
returns c =
    let fits : to_z w64 (of_z w64 c.args.deadline) ≡ c.args.deadline = search rules in
    goes_out (record { deadline = c.args.deadline; key = c.args.key }) c.args.timed_keys.now c.remove.new.self c.requires (rw (sym fits) c.remove.ensures)
