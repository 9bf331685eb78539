use Rattle.std.proofs.Common.{eqb}
use Rattle.mr_glob.proofs.MaskLemmas.{compared}
use Rattle.mr_glob.proofs.pattern.mask.equal_to.Goals as goal

pub returns : goal.returns
returns c = compared eqb c.args.bytes c.args.byte c.fits-bytes.0
