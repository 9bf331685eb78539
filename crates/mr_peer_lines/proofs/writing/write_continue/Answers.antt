use Rattle.std.proofs.Common.{◌++◌}
use Rattle.mr_peer_lines.specs.Written.{reply_line}
use Rattle.mr_peer_lines.specs.declared.psync.PsyncReply.TheVariants.{Continue}
use Rattle.mr_peer_lines.proofs.Written.{continue_put, says_reply, on_ok_same}
use Rattle.mr_peer_lines.proofs.writing.write_continue.Goals as goal

pub returns-clause-ok : goal.returns-clause-ok
returns-clause-ok c = on_ok_same c.write_pieces.result c.write_pieces.new.out.items _ (c.args.out.now.items ++ reply_line (Continue c.args.id)) c.write_pieces.ensures.ok
    (continue_put c.args.id c.digits.result c.args.out.now.items c.digits.ensures)

pub returns-clause-says : goal.returns-clause-says
returns-clause-says c = says_reply (Continue c.args.id) c.bytes.ensures.id
