-- The names of commands on sets.
use Rattle.mr_arguments.specs.declared.name.Name.{Name}
use Rattle.mr_arguments.specs.declared.name.Name.TheVariants as name
use Rattle.mr_cmd_set.specs.declared.set_ask.SetOperation.TheVariants.{Intersection, Union, Difference}
use Rattle.mr_cmd_set.specs.declared.set_ask.SetAsk.{SetAsk}
use Rattle.mr_cmd_set.specs.declared.set_ask.SetAsk.TheVariants as set

-- of a command on sets
abbrev pub set_name : SetAsk → Name
set_name (set.SAdd key members) = name.SAdd
set_name (set.SRem key members) = name.SRem
set_name (set.SIsMember key member) = name.SIsMember
set_name (set.SMIsMember key members) = name.SMIsMember
set_name (set.SMembers key) = name.SMembers
set_name (set.SCard key) = name.SCard
set_name (set.SPop key count) = name.SPop
set_name (set.SRandMember key count) = name.SRandMember
set_name (set.SMove from to member) = name.SMove
set_name (set.Combine Intersection keys) = name.SInter
set_name (set.Combine Union keys) = name.SUnion
set_name (set.Combine Difference keys) = name.SDiff
