use Rattle.std.proofs.Common.{arith}
use Rattle.mr_resp.proofs.Resuming.{array_less, fresh_array}
use Rattle.mr_resp.proofs.scan.ArrayProgress.within.Goals as goal

pub returns-then-self-len : goal.returns-then-self-len
returns-then-self-len c = λ limits input more size a. fresh_array limits c.new.result input c.new.ensures

pub returns : goal.returns
returns c = λ limits input more size a. array_less limits c.args.self input more (omega arith) a
