use Rattle.mr_inline.proofs.scan.next_line.Goals as goal

pub next_line_from-requires-clause-agrees : goal.next_line_from-requires-clause-agrees
next_line_from-requires-clause-agrees c = c.new-progress.ensures c.args.limit c.args.input.now
