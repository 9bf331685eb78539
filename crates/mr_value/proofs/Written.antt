-- Bytes over which a text is written.
use Rattle.std.proofs.Common.{◌≡◌, ◌+◌, ◌-◌, ◌≤◌, ℕ, List, [], ◌++◌, length, take, drop, replicate, refl, ◌∙◌, ap, arith, append-nil}
use Rattle.std.proofs.Math.ListN.{drop_of_length-le}
use Rattle.std.proofs.Math.Seq.{take-length}
use Rattle.std.proofs.lemmas.List.{drop-replicate, take-replicate}
use Rattle.mr_bytes.specs.Texts.{overwritten}
use Rattle.mr_bytes.proofs.Texts.{overwritten_is}

-- written over from its end on, a text has the other behind it
pub overwritten_end : (t v : List ℕ) → overwritten (length t) v t ≡ t ++ v
unfolding overwritten
overwritten_end t v =
    let none : length t - length t ≡ 0 = omega arith in
    let past : length t ≤ length t + length v = omega arith in
    let rest : drop (length t + length v) t ≡ [] = drop_of_length-le t past in
    rw (take-length t, none, rest, append-nil v) refl

-- zeros of which the first were written over by one text are written over by another
pub zeros_overwritten : (t v z : List ℕ) (offset n m : ℕ) → m ≤ n → m - length t ≡ offset + length v - length t → z ≡ t ++ drop (0 + length t) (take m (replicate n 0)) → take offset z ++ (v ++ drop (offset + length v) z) ≡ overwritten offset v t
zeros_overwritten t v z offset n m within left is =
    let front : 0 + length t ≡ length t = omega arith in
    overwritten_is t v offset z (is ∙ ap (λ (r : List ℕ). t ++ r)
    (ap (λ (k : ℕ). drop k (take m (replicate n 0))) front
    ∙ (ap (drop (length t)) (take-replicate m n 0 within)
    ∙ (drop-replicate (length t) m 0 ∙ ap (λ (k : ℕ). replicate k 0) left))))
