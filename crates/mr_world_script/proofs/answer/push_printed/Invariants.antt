use Rattle.std.proofs.Common.{◌≡◌, ◌++◌, drop}
use Rattle.mr_resp.specs.Appends.{Extends}
use Rattle.mr_world_script.specs.Answers.{printed}
use Rattle.mr_world_script.proofs.answer.push_printed.Given as goal

abbrev pub invariant-loop-byte : goal.invariant-loop-byte
invariant-loop-byte l = record {
  text : l.out.items ++ printed (drop l.byte-index l.bytes) ≡ l.fn.out.items ++ printed l.bytes;
  kept : Extends l.fn.out.items l.out.items;
}
