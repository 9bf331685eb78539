use Rattle.std.proofs.Common.{◌++◌, ◌∙◌}
use Rattle.mr_peer_lines.specs.Written.{reply_line}
use Rattle.mr_peer_lines.specs.declared.psync.PsyncReply.TheVariants.{FullResync}
use Rattle.mr_peer_lines.proofs.Written.{full_put, says_reply, on_ok_same}
use Rattle.mr_peer_lines.proofs.writing.write_full.Goals as goal

pub returns-clause-ok : goal.returns-clause-ok
returns-clause-ok c = on_ok_same c.write_pieces.result c.write_pieces.new.out.items _ (c.args.out.now.items ++ reply_line (FullResync c.args.id c.args.offset)) c.write_pieces.ensures.ok
    (full_put c.args.id c.digits-digits.result c.as_bytes-number.result.now c.args.out.now.items c.args.offset c.digits-digits.ensures (c.as_bytes-number.ensures.value ∙ c.format.ensures.text))

pub returns-clause-says : goal.returns-clause-says
returns-clause-says c = says_reply (FullResync c.args.id c.args.offset) (c.bytes.ensures.id, c.requires)
