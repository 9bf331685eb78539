use Rattle.mr_bytes.proofs.Numbers.{IsRead}
use Rattle.mr_bytes.proofs.number.read_digits.Given as goal

abbrev pub invariant-loop-byte : goal.invariant-loop-byte
invariant-loop-byte l = IsRead l.text l.value l.byte-index
