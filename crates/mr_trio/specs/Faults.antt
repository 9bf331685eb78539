-- Which fault a part's comes to.
use Rattle.mr_trio_script.specs.declared.client.ClientFault.{ClientFault}
use Rattle.mr_trio_script.specs.declared.client.ClientFault.TheVariants as client
use Rattle.mr_trio_script.specs.declared.fault.TrioFault.{TrioFault}
use Rattle.mr_trio_script.specs.declared.fault.TrioFault.TheVariants.{Stopped, Socket}
use Rattle.mr_loop.specs.declared.fault.LoopFault.{LoopFault}
use Rattle.mr_loop.specs.declared.fault.LoopFault.TheVariants as loop

-- a node without a file whose file failed was stopped
abbrev pub of_loop : LoopFault → TrioFault
of_loop loop.Listener = Socket
of_loop loop.File = Stopped
of_loop loop.Stopped = Stopped

abbrev pub of_client : ClientFault → TrioFault
of_client client.Link = Socket
of_client client.Memory = Stopped
