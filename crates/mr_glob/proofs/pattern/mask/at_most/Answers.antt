use Rattle.std.proofs.Common.{leb}
use Rattle.mr_glob.proofs.MaskLemmas.{compared}
use Rattle.mr_glob.proofs.pattern.mask.at_most.Goals as goal

pub returns : goal.returns
returns c = compared leb c.args.bytes c.args.most c.fits-bytes.0
