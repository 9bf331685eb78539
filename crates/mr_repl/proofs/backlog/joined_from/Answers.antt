use Rattle.std.proofs.Common.{◌≡◌, ℕ, ◌-◌, List, ◌++◌, length, take, drop, ◌∙◌, arith, length-drop, take_all}
use Rattle.mr_repl.proofs.Windows.{drop-parts}
use Rattle.mr_repl.proofs.backlog.joined_from.Goals as goal

-- what is copied of a slice from here on is all the rest of it
rest : (xs : List ℕ) (i : ℕ) → take (length xs - i) (drop i xs) ≡ drop i xs
rest xs i = take_all (length xs - i) (drop i xs) (omega (arith, length-drop i xs))

pub returns : goal.returns
returns g c =
    let xs = c.args.front.now in let ys = c.args.back.now in let i = c.min-in_front.result in let k = c.args.skipped - i in
    let copied = c.in_ok-extend_from_slice-2.ensures.items ∙ (λ j. (c.in_ok-extend_from_slice.ensures.items ∙ (λ l. c.in_ok-bytes.ensures.items l ++ rest xs i l)) j ++ rest ys k j) in
    copied ∙ drop-parts xs ys c.args.skipped i k (omega (arith, c.min-in_front.ensures)) (omega (arith, c.min-in_front.ensures)) (λ less. omega (arith, c.min-in_front.ensures, less))
