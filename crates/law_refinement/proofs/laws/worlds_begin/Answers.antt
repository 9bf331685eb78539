use Rattle.law_refinement.proofs.Beginning.{worlds_begin}
use Rattle.law_refinement.proofs.laws.worlds_begin.Goals as goal

pub returns : goal.returns
returns c = worlds_begin
