-- The last items of a list, and a list in two parts without its first items.
use Rattle.std.proofs.Common.{◌≡◌, ℕ, ◌+◌, ◌-◌, ◌≤◌, ◌<◌, List, ◌++◌, length, take, drop, ap, sym, ◌∙◌, arith, inl, inr, append_assoc, length-append, length-drop, drop-drop}
use Rattle.std.proofs.lemmas.Bool.{cases_lt}
use Rattle.std.proofs.lemmas.List.{drop-append-le, drop_all, take-append-drop}
use Rattle.std.proofs.Math.Seq.{drop-append-add}
use Rattle.mr_repl.specs.Backlog.{Window, last_of, after_bytes}
use Rattle.mr_repl.specs.Pieces.{IsEndOf}

module _ {X : Type 0} where
  -- i of the first part and k of the second go, where i + k is the number of all, and k only past the whole first part
  pub drop-parts : (xs ys : List X) (n i k : ℕ) → i + k ≡ n → i ≤ length xs → (i < length xs → k ≡ 0) → drop i xs ++ drop k ys ≡ drop n (xs ++ ys)
  drop-parts xs ys n i k sum fits only = elim (cases_lt i (length xs)) [
    | inl less ↦
        let none = only less in let same : i ≡ n = omega arith in
        ap (λ j. drop i xs ++ drop j ys) none ∙ sym (drop-append-le i xs ys fits) ∙ ap (λ j. drop j (xs ++ ys)) same
    | inr all ↦
        let same : length xs + k ≡ n = omega arith in
        ap (λ l. l ++ drop k ys) (drop_all i xs all) ∙ sym (drop-append-add xs ys k) ∙ ap (λ j. drop j (xs ++ ys)) same
  ]

  -- the last items are an end of the list
  pub last_of-IsEndOf : (n : ℕ) (xs : List X) → IsEndOf n xs (last_of n xs)
  last_of-IsEndOf n xs = record {
    gone = take (length xs - n) xs;
    split = sym (take-append-drop (length xs - n) xs);
    size = omega (arith, length-drop (length xs - n) xs);
  }

  -- what gave way to the first items doesn't matter to the next ones
  pub last_of-append-last_of : (n : ℕ) (xs ys : List X) → last_of n (last_of n xs ++ ys) ≡ last_of n (xs ++ ys)
  last_of-append-last_of n xs ys =
      let gone = length xs - n in let k = length (last_of n xs ++ ys) - n in
      let within : gone ≤ length xs = omega arith in
      let sizes = length-append (last_of n xs) ys in let left = length-drop gone xs in let all = length-append xs ys in
      let whole : gone + k ≡ length (xs ++ ys) - n = omega arith in
      ap (drop k) (sym (drop-append-le gone xs ys within)) ∙ drop-drop k gone (xs ++ ys) ∙ ap (λ j. drop j (xs ++ ys)) whole

-- two pieces are one
pub after_bytes-after_bytes : (w : Window) (first second : List ℕ) → after_bytes (after_bytes w first) second ≡ after_bytes w (first ++ second)
after_bytes-after_bytes w first second =
    let held = last_of-append-last_of w.capacity (w.held ++ first) second ∙ ap (last_of w.capacity) (append_assoc w.held first second) in
    let offset : w.offset + length first + length second ≡ w.offset + length (first ++ second) = omega (arith, length-append first second) in
    λ i. record { held = held i; capacity = w.capacity; offset = offset i }
