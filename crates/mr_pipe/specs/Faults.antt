-- With which fault a pipe ends where a call on its node is refused.
use Rattle.mr_node.specs.declared.fault.NodeFault.{NodeFault}
use Rattle.mr_node.specs.declared.fault.NodeFault.TheVariants as refused
use Rattle.mr_pipe.specs.declared.fault.PipeFault.{PipeFault}
use Rattle.mr_pipe.specs.declared.fault.PipeFault.TheVariants as ended

-- A stopped node ends it as stopped. The other refusals are for memory; of those, a full input and an absent link do not come.
abbrev pub fault_of : NodeFault → PipeFault
fault_of refused.Stopped = ended.Stopped
fault_of refused.Memory = ended.Memory
fault_of refused.InputFull = ended.Memory
fault_of refused.NoLink = ended.Memory
