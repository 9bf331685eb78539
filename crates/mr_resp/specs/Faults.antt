-- What is answered to each fault.
use Rattle.std.specs.Prelude.{ℕ, List, ◌∷◌, ◌++◌, codes, nat_le, ◌&&◌, if◌then◌else◌}
use Rattle.mr_resp.specs.declared.fault.Fault.{Fault}
use Rattle.mr_resp.specs.declared.fault.Fault.TheVariants.{MultibulkLength, BulkLength, ExpectedDollar, UnbalancedQuotes, TooBigInline, WordTooBig, TooManyWords}

-- how a byte is shown: itself where it is a printable character of ASCII, else `?`
abbrev pub printable : ℕ → ℕ
printable b = if nat_le 32 b && nat_le b 126 then b else 63

-- The error text of a fault, without the `-` and the line end of its reply. Both limits are told as a length that is invalid.
abbrev pub fault_text : Fault → List ℕ
fault_text MultibulkLength = codes "ERR Protocol error: invalid multibulk length"
fault_text BulkLength = codes "ERR Protocol error: invalid bulk length"
fault_text (ExpectedDollar b) = codes "ERR Protocol error: expected '$', got '" ++ printable b ∷ codes "'"
fault_text UnbalancedQuotes = codes "ERR Protocol error: unbalanced quotes in request"
fault_text TooBigInline = codes "ERR Protocol error: too big inline request"
fault_text WordTooBig = codes "ERR Protocol error: invalid bulk length"
fault_text TooManyWords = codes "ERR Protocol error: invalid multibulk length"

-- the fault whose text shows a byte
abbrev pub ShowsByte : Fault → Type 0
ShowsByte MultibulkLength = ⊥
ShowsByte BulkLength = ⊥
ShowsByte (ExpectedDollar b) = Unit {0}
ShowsByte UnbalancedQuotes = ⊥
ShowsByte TooBigInline = ⊥
ShowsByte WordTooBig = ⊥
ShowsByte TooManyWords = ⊥
