-- Which faults come from where.
use Rattle.mr_trio_script.specs.declared.fault.TrioFault.{TrioFault}
use Rattle.mr_trio_script.specs.declared.fault.TrioFault.TheVariants.{Stream, Stopped, Socket, Late}

-- of the nodes, the sockets or the memory
abbrev pub IsInner : TrioFault → Type 0
IsInner Stream = ⊥
IsInner Stopped = Unit {0}
IsInner Socket = Unit {0}
IsInner Late = ⊥

-- .. or that a line is late
abbrev pub IsOfPlay : TrioFault → Type 0
IsOfPlay Stream = ⊥
IsOfPlay Stopped = Unit {0}
IsOfPlay Socket = Unit {0}
IsOfPlay Late = Unit {0}
