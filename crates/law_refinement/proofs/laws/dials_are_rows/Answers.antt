use Rattle.law_refinement.proofs.Linking.{dials}
use Rattle.law_refinement.proofs.laws.dials_are_rows.Goals as goal

pub returns : goal.returns
returns c = dials
