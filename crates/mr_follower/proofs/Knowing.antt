-- What is known of the command text at the front of the unread bytes.
use Rattle.std.proofs.Common.{◌≡◌, ℕ, ◌≤◌, List, ◌++◌, length, take, drop, sym, ap, subst, ◌∙◌}
use Rattle.std.proofs.lemmas.List.{take-append-drop, drop-append-le}
use Rattle.mr_resp.specs.Resumed.{AgreesCommand, MayAgree}
use Rattle.mr_resp.specs.declared.progress.CommandProgress.{CommandProgress}

-- the first of some bytes, and the others
cut_is : (u front : List ℕ) (most : ℕ) → front ≡ take most u → u ≡ front ++ drop most u
cut_is u front most is = sym (take-append-drop most u) ∙ ap (λ (l : List ℕ). l ++ drop most u) (sym is)

pub may_front : (known : CommandProgress) (u front : List ℕ) (most : ℕ) → front ≡ take most u → AgreesCommand known u → MayAgree known front
may_front known u front most is agrees = (drop most u, subst (AgreesCommand known) (cut_is u front most is) agrees)

pub known_whole : (known : CommandProgress) (u front : List ℕ) (most : ℕ) → front ≡ take most u → ((more : List ℕ) → AgreesCommand known (front ++ more)) → AgreesCommand known u
known_whole known u front most is agrees = subst (AgreesCommand known) (sym (cut_is u front most is)) (agrees (drop most u))

pub known_rest : (known : CommandProgress) (u front : List ℕ) (most used : ℕ) → front ≡ take most u → used ≤ length front → ((more : List ℕ) → AgreesCommand known (drop used front ++ more)) → AgreesCommand known (drop used u)
known_rest known u front most used is within agrees =
    subst (AgreesCommand known) (sym (ap (drop used) (cut_is u front most is) ∙ drop-append-le used front (drop most u) within)) (agrees (drop most u))
