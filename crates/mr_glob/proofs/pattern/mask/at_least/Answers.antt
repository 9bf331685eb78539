use Rattle.std.proofs.Common.{leb}
use Rattle.mr_glob.proofs.MaskLemmas.{compared_from}
use Rattle.mr_glob.proofs.pattern.mask.at_least.Goals as goal

pub returns : goal.returns
returns c = compared_from leb c.args.bytes c.args.least c.fits-bytes.0
