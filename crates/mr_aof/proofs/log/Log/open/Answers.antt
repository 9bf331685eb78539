use Rattle.std.proofs.Common.{rules, subst}
use Rattle.mr_file.specs.LogFile.{SetsAsideOrNot}
use Rattle.mr_aof.proofs.log.Log.open.Goals as goal

-- nothing was set aside as the file was read
pub returns-then-is_err-clause-spared : goal.returns-then-is_err-clause-spared
returns-then-is_err-clause-spared g c =
    let told = g.F.LogFile.told in
    let aside = g.F.LogFile.aside in
    let read = c.load_file.new.file in
    let after = aside c.cut_rest.new.file in
    let spared : SetsAsideOrNot (told read) (aside read) after = search rules in
    subst (λ xs. SetsAsideOrNot xs (aside c.args.file) after) c.load_file.ensures.same (subst (λ ys. SetsAsideOrNot (told read) ys after) c.load_file.ensures.beside spared)
