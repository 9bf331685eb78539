use Rattle.std.proofs.Common.{◌++◌, ◌∷◌, [], ap, ◌∙◌}
use Rattle.mr_packed.specs.Packing.{spelled_all}
use Rattle.mr_packed.proofs.Packing.{packing, strings_are, last_put}
use Rattle.mr_packed.proofs.packed.Packed.push.Goals as goal

pub invariant_of-self-2 : goal.invariant_of-self-2
invariant_of-self-2 c =
    packing _ (c.args.self.now ++ c.args.string.now ∷ []) (c.in_ok-append.ensures.ok ∙ last_put _ _ _ (c.self.invariant ∙ ap spelled_all c.self.view_is))

pub returns-clause-ok : goal.returns-clause-ok
returns-clause-ok c =
    strings_are _ (c.args.self.now ++ c.args.string.now ∷ []) (c.in_ok-append.ensures.ok ∙ last_put _ _ _ (c.self.invariant ∙ ap spelled_all c.self.view_is))
