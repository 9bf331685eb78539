use Rattle.std.proofs.Common.{nat_le, sym, ◌∙◌}
use Rattle.mr_links.specs.declared.link_id.LinkId.{LinkId}
use Rattle.mr_wire.proofs.Places.{found_is_there}
use Rattle.mr_wire.proofs.mem_wire.MemWireWire.ready.Goals as goal

pub returns-clause-there : goal.returns-clause-there
returns-clause-there c = found_is_there (λ (l : LinkId). nat_le c.args.self.now.unnamed l.index) c.args.self.now.links.open_links c.in_ok-link.link (sym c.first_from.ensures ∙ c.in_ok-link.was)
