use Rattle.std.proofs.Common.{◌≡◌, ◌++◌, ◌∷◌, [], sym, lit<}
use Rattle.std.specs.Prelude.{codes}
use Rattle.std.specs.Fmt.{decimal}
use Rattle.std.proofs.lemmas.Fmt.{decimal_digit}
use Rattle.mr_resp.specs.Spelling.{line_end}
use Rattle.mr_follower.proofs.handshake.first_line.Goals as goal

pub returns : goal.returns
returns c =
    let one : decimal 1 ≡ 49 ∷ [] = decimal_digit 1 (lit< tt) in
    let four : decimal 4 ≡ 52 ∷ [] = decimal_digit 4 (lit< tt) in
    λ i. (42 ∷ (sym one i ++ line_end)) ++ (((36 ∷ (sym four i ++ line_end)) ++ (codes "PING" ++ line_end)) ++ [])
