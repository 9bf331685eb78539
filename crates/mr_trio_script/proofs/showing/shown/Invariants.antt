use Rattle.std.proofs.Common.{◌≡◌, take}
use Rattle.mr_trio_script.specs.Shown.{escaped}
use Rattle.mr_trio_script.proofs.showing.shown.Given as goal

-- the bytes so far stand in the text
abbrev pub invariant-loop-byte : goal.invariant-loop-byte
invariant-loop-byte l = l.text.items ≡ escaped (take l.byte-index l.bytes)
