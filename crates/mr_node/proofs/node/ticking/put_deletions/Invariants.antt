use Rattle.std.proofs.Common.{◌≡◌}
use Rattle.mr_effect.specs.Spelling.{texts}
use Rattle.mr_node_output.specs.Outs.{no_outs}
use Rattle.mr_node.proofs.Ticking.{Growing, deletions_of}
use Rattle.mr_node.proofs.node.ticking.put_deletions.Given as goal

-- the deletions so far, whose texts stand in the outs, and those of the keys to come
abbrev pub invariant-loop-due : goal.invariant-loop-due
invariant-loop-due l = Growing l.room (deletions_of l.fn.dues.items) l.effects.items l.due-iterator.rest.items × (l.outs ≡ record no_outs { grown = texts l.effects.items; appended = texts l.effects.items })
