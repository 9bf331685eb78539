-- How long texts of effects are, alone and in their frame.
use Rattle.std.proofs.Common.{◌≡◌, ◌≤◌, ◌+◌, List, [], ◌∷◌, ◌++◌, length, refl, ap, arith, lit<}
use Rattle.std.specs.Prelude.{codes}
use Rattle.std.specs.Fmt.{decimal}
use Rattle.std.proofs.lemmas.Fmt.{decimal_digit}
use Rattle.std.proofs.lemmas.List.{append-nil, length-append}
use Rattle.mr_resp.specs.Spelling.{line_end}
use Rattle.mr_effect.specs.Spelling.{text, texts}
use Rattle.mr_effect.specs.declared.effect.Effect.{Effect}
use Rattle.mr_groups.specs.Groups.{multi, exec, frame_for, grown_text}

pub multi_length : length multi ≡ 15
unfolding multi
multi_length =
    let one : decimal 1 ≡ 49 ∷ [] = decimal_digit 1 (lit< tt) in
    let size : decimal 5 ≡ 53 ∷ [] = decimal_digit 5 (lit< tt) in
    ap length (λ i. (42 ∷ (one i ++ line_end)) ++ (((36 ∷ (size i ++ line_end)) ++ (codes "MULTI" ++ line_end)) ++ []))

pub exec_length : length exec ≡ 14
unfolding exec
exec_length =
    let one : decimal 1 ≡ 49 ∷ [] = decimal_digit 1 (lit< tt) in
    let size : decimal 4 ≡ 52 ∷ [] = decimal_digit 4 (lit< tt) in
    ap length (λ i. (42 ∷ (one i ++ line_end)) ++ (((36 ∷ (size i ++ line_end)) ++ (codes "EXEC" ++ line_end)) ++ []))

-- what a stream grows by is their texts, and their frame
pub grown_length : (es : List Effect) → length (grown_text es) ≡ frame_for (length es) + length (texts es)
grown_length [] = refl
grown_length (e ∷ []) = omega (arith, ap length (append-nil (text e)))
grown_length (e ∷ f ∷ es) =
    omega (arith, length-append multi (texts (e ∷ f ∷ es) ++ exec), length-append (texts (e ∷ f ∷ es)) exec, multi_length, exec_length)

-- none of them is empty
pub as_many : (es : List Effect) → length es ≤ length (texts es)
as_many [] = omega arith
as_many (e ∷ es) =
    let some : 1 ≤ length (text e) = omega arith in
    omega (arith, as_many es, some, length-append (text e) (texts es))
