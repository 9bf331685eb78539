-- What is moved of the pieces that wait.
use Rattle.std.proofs.Common.{◌≡◌, ◌≤◌, ◌-◌, ◌+◌, ℕ, List, [], ◌∷◌, ◌++◌, length, drop, arith, refl, sym, ap, ◌∙◌}
use Rattle.std.proofs.lemmas.List.{append-nil, drop-append-le, drop-drop, drop_at, length-drop}

-- all of the first piece is moved, and some of what comes after it
drop_past : (own rest : List ℕ) (count : ℕ) → length own ≤ count → drop count (own ++ rest) ≡ drop (count - length own) rest
drop_past own rest count past =
    let sum : count ≡ length own + (count - length own) = omega (arith, past) in
    ap (λ n. drop n (own ++ rest)) sum ∙ (sym (drop-drop (count - length own) (length own) (own ++ rest)) ∙ ap (drop (count - length own)) (drop_at own rest (length own) refl))

-- .. of the text, no more than waits of it
pub moved_within : (own text later : List ℕ) (gone count : ℕ) → length own ≤ count → count - length own ≤ length text - gone → drop (gone + (count - length own)) text ++ later ≡ drop count (own ++ (drop gone text ++ later))
moved_within own text later gone count past within =
    let rest : length (drop gone text) ≡ length text - gone = length-drop gone text in
    sym (drop_past own (drop gone text ++ later) count past
    ∙ (drop-append-le (count - length own) (drop gone text) later (omega (arith, within, rest)) ∙ ap (λ l. l ++ later) (drop-drop (count - length own) gone text)))

-- .. and more
pub moved_past : (own text later : List ℕ) (gone count : ℕ) → length own ≤ count → length text - gone ≤ count - length own → drop (count - length own - (length text - gone)) later ++ [] ≡ drop count (own ++ (drop gone text ++ later))
moved_past own text later gone count past more =
    let rest : length (drop gone text) ≡ length text - gone = length-drop gone text in
    append-nil (drop (count - length own - (length text - gone)) later)
    ∙ sym (drop_past own (drop gone text ++ later) count past
    ∙ (drop_past (drop gone text) later (count - length own) (omega (arith, more, rest)) ∙ ap (λ n. drop (count - length own - n) later) rest))

-- where nothing waits, nothing is in front
pub none_in_front : (front rest : List ℕ) → [] ≡ front ++ rest → front ≡ []
none_in_front [] rest is = refl
none_in_front (b ∷ front) rest is = cc
