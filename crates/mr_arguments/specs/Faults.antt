-- The texts of faults.
use Rattle.std.specs.Prelude.{ℕ, List, ◌++◌, codes}
use Rattle.mr_arguments.specs.Names.{text_of}
use Rattle.mr_arguments.specs.declared.name.Name.{Name}
use Rattle.mr_arguments.specs.declared.name.Name.TheVariants as name
use Rattle.mr_arguments.specs.declared.fault.BadValue.{BadValue}
use Rattle.mr_arguments.specs.declared.fault.BadValue.TheVariants.{Negative, Database, Cursor, Offset, Decrement, Bound}
use Rattle.mr_arguments.specs.declared.fault.ExpiringCommand.{ExpiringCommand}
use Rattle.mr_arguments.specs.declared.fault.ExpiringCommand.TheVariants as expiring
use Rattle.mr_arguments.specs.declared.fault.AskFault.{AskFault}
use Rattle.mr_arguments.specs.declared.fault.AskFault.TheVariants.{Unknown, Arity, Syntax, Integer, ExpireTime, Other}

abbrev pub wrong_count : Name → List ℕ
wrong_count name = codes "ERR wrong number of arguments for '" ++ text_of name ++ codes "' command"

abbrev pub bad_value : BadValue → List ℕ
bad_value Negative = codes "ERR value is out of range, must be positive"
bad_value Database = codes "ERR DB index is out of range"
bad_value Cursor = codes "ERR invalid cursor"
bad_value Offset = codes "ERR offset is out of range"
bad_value Decrement = codes "ERR decrement would overflow"
bad_value Bound = codes "ERR min or max is not a score"

-- the name of a command that may set a deadline
abbrev pub expiring_name : ExpiringCommand → Name
expiring_name expiring.Set = name.Set
expiring_name expiring.SetEx = name.SetEx
expiring_name expiring.PSetEx = name.PSetEx
expiring_name expiring.Expire = name.Expire
expiring_name expiring.PExpire = name.PExpire
expiring_name expiring.ExpireAt = name.ExpireAt
expiring_name expiring.PExpireAt = name.PExpireAt

abbrev pub invalid_time : ExpiringCommand → List ℕ
invalid_time command = codes "ERR invalid expire time in '" ++ text_of (expiring_name command) ++ codes "' command"

-- what is answered, behind the mark of an error
abbrev pub fault_text : AskFault → List ℕ
fault_text Unknown = codes "ERR unknown command"
fault_text (Arity name) = wrong_count name
fault_text Syntax = codes "ERR syntax error"
fault_text Integer = codes "ERR value is not an integer or out of range"
fault_text (ExpireTime command) = invalid_time command
fault_text (Other value) = bad_value value
