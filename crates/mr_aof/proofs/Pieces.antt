-- A piece that is appended part by part.
use Rattle.std.proofs.Common.{◌≡◌, ℕ, ◌+◌, ◌-◌, ◌≤◌, List, ◌++◌, length, take, drop, Option, Some, None, sym, ap, subst, ◌∙◌, arith, length-drop, take_all, take-add, append_assoc}
use Rattle.mr_file.specs.LogFile.{Appends, AppendsSome}

-- what follows the first n
abbrev pub rest_of : ℕ → List ℕ → List ℕ
rest_of n piece = take (length piece - n) (drop n piece)

rest_is : (n : ℕ) (piece : List ℕ) → rest_of n piece ≡ drop n piece
rest_is n piece = take_all (length piece - n) (drop n piece) (omega (arith, length-drop n piece))

joined : (xs piece : List ℕ) (n k : ℕ) → (xs ++ take n piece) ++ take k (rest_of n piece) ≡ xs ++ take (n + k) piece
joined xs piece n k = append_assoc xs (take n piece) (take k (rest_of n piece)) ∙ ap (λ l. xs ++ l) (ap (λ r. take n piece ++ take k r) (rest_is n piece) ∙ sym (take-add n k piece))

pub more : (a b d : Option (List ℕ)) (piece : List ℕ) (n k : ℕ) → Appends a b piece n → Appends b d (rest_of n piece) k → Appends a d piece (n + k)
more None b d piece n k one two = tt
more (Some xs) b d piece n k one two =
    let there = subst (λ o. Appends o d (rest_of n piece) k) one two in there ∙ ap Some (joined xs piece n k)

pub some_more : (a b d : Option (List ℕ)) (piece : List ℕ) (n : ℕ) → n ≤ length piece → Appends a b piece n → AppendsSome b d (rest_of n piece) → AppendsSome a d piece
some_more None b d piece n within one two = tt
some_more (Some xs) b d piece n within one two =
    let there = subst (λ o. AppendsSome o d (rest_of n piece)) one two in
    (n + there.0, (omega (arith, there.1.0, ap length (rest_is n piece), length-drop n piece), there.1.1 ∙ ap Some (joined xs piece n there.0)))
