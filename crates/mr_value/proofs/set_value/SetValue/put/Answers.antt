use Rattle.std.proofs.Common.{◌∙◌, ap, ap₂}
use Rattle.std.specs.Prelude.{nat_lt, not}
use Rattle.std.specs.FinMap.{contains_key, insert}
use Rattle.mr_value.specs.Members.{set_of}
use Rattle.mr_value.proofs.SetLemmas.{more_members, set_put}
use Rattle.mr_value.proofs.set_value.SetValue.put.Goals as goal

pub returns-clause-new : goal.returns-clause-new
returns-clause-new c =
    ap₂ nat_lt c.len-before.ensures.len c.len.ensures.len
    ∙ more_members c.self.inside.members c.insert.new.self c.args.member c.len-before.ensures.ordered c.len.ensures.ordered c.in_ok-insert.ensures.ok
    ∙ ap (λ s. not (contains_key s c.args.member)) c.self.view_is

pub returns-clause-ok : goal.returns-clause-ok
returns-clause-ok c =
    ap set_of c.in_ok-insert.ensures.ok ∙ set_put c.self.inside.members c.args.member
    ∙ ap (λ s. insert s c.args.member tt) c.self.view_is
