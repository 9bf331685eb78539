use Rattle.std.proofs.Common.{◌&&◌, ◌∙◌}
use Rattle.std.specs.Prelude.{slice_index, nat_le}
use Rattle.mr_glob.proofs.MaskLemmas.{is_set-and}
use Rattle.mr_glob.proofs.pattern.mask.between.Goals as goal

pub returns : goal.returns
returns c k small =
    let byte = slice_index c.args.bytes k in
    is_set-and c.at_least.result c.at_most.result k
    ∙ (λ i. c.at_least.ensures k small i && c.at_most.ensures k small i)
    ∙ (λ i. nat_le (c.min.ensures i) byte && nat_le byte (c.max.ensures i))
