use Rattle.std.proofs.Common.{◌≡◌, nat_le}
use Rattle.std.specs.List.{find}
use Rattle.mr_links.specs.declared.link_id.LinkId.{LinkId}
use Rattle.mr_wire.specs.Wire.{first_from}
use Rattle.mr_wire.proofs.mem_wire.MemWire.first_from.Given as goal

abbrev pub invariant-loop-link : goal.invariant-loop-link
invariant-loop-link l = find (λ (id : LinkId). nat_le l.place id.index) l.link-iterator ≡ first_from l.place l.self.links
