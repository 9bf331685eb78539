use Rattle.std.proofs.Common.{◌++◌, ◌∙◌}
use Rattle.mr_peer_lines.specs.Written.{length_line}
use Rattle.mr_peer_lines.proofs.Written.{length_put, says_length, on_ok_same}
use Rattle.mr_peer_lines.proofs.writing.write_length.Goals as goal

pub returns-clause-ok : goal.returns-clause-ok
returns-clause-ok c = on_ok_same c.write_pieces.result c.write_pieces.new.out.items _ (c.args.out.now.items ++ length_line c.args.length) c.write_pieces.ensures.ok
    (length_put c.as_bytes-number.result.now c.args.out.now.items c.args.length (c.as_bytes-number.ensures.value ∙ c.format.ensures.text))

pub returns-clause-says : goal.returns-clause-says
returns-clause-says c = says_length c.args.length c.requires
