use Rattle.std.proofs.Common.{rules, ◌≡◌, true, Ok, refl, sym, subst}
use Rattle.std.specs.FinMap.{contains_key}
use Rattle.mr_keyspace.specs.Outcome.{Applies}
use Rattle.mr_keyspace.proofs.Renaming.{renamed_onto_itself}
use Rattle.mr_keyspace.proofs.entries.Entries.keep.Goals as goal

pub returns : goal.returns
returns c =
    let m = c.args.self.now in
    let there : contains_key m c.args.key.now ≡ true = search rules in
    subst (λ o. Applies o m (Ok tt) m) (sym (renamed_onto_itself m c.args.key.now there)) ((λ h. cc), refl)
