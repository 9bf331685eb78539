use Rattle.std.proofs.Common.{◌≡◌, ◌++◌, ◌∷◌, [], sym, lit<}
use Rattle.std.specs.Prelude.{codes}
use Rattle.std.specs.Fmt.{decimal}
use Rattle.std.proofs.lemmas.Fmt.{decimal_digit}
use Rattle.mr_resp.specs.Spelling.{line_end}
use Rattle.mr_groups.specs.Groups.{multi}
use Rattle.mr_groups.proofs.encoding.multi_text.Goals as goal

pub returns : goal.returns
unfolding multi
returns c =
    let one : decimal 1 ≡ 49 ∷ [] = decimal_digit 1 (lit< tt) in
    let size : decimal 5 ≡ 53 ∷ [] = decimal_digit 5 (lit< tt) in
    λ i. (42 ∷ (sym one i ++ line_end)) ++ (((36 ∷ (sym size i ++ line_end)) ++ (codes "MULTI" ++ line_end)) ++ [])
