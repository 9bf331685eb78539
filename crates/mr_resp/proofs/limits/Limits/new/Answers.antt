use Rattle.std.proofs.Common.{◌≡◌, ◌↔◌, Option, None, IsSome, length, ap, arith, refl}
use Rattle.mr_resp.proofs.LimitsLemmas.{least_text}
use Rattle.mr_resp.proofs.limits.Limits.new.Goals as goal
use Rattle.mr_resp.proofs.limits.Limits.new.Goals.{then-word-eq0-via-then-word-eq0, then-word-eq0-via-else-word-eq0+then-words-eq0, then-word-eq0-via-else-word-eq0+else-words-eq0+then-text-least}

impossible : {X : Type 0} (r : Option X) (P : Type 0) → r ≡ None → (P → ⊥) → IsSome r ↔ P
impossible r P e never = (λ some. absurd (let none = rw e at some in cc none), λ p. absurd (never p))

pub returns-in_err-checked_mul-clause-possible : goal.returns-in_err-checked_mul-clause-possible
returns-in_err-checked_mul-clause-possible c = impossible c.from_residual.result _ c.from_residual.ensures (λ p. c.in_err-checked_mul.ensures (omega (arith, least_text c.args.words, p.2)))

pub returns-in_err-least-clause-possible : goal.returns-in_err-least-clause-possible
returns-in_err-least-clause-possible c =
    impossible c.from_residual-in_err-least.result _ c.from_residual-in_err-least.ensures
    (λ p. c.in_err-least.ensures (omega (arith, least_text c.args.words, p.2, c.in_ok-checked_mul.ensures, ap length c.format.ensures.text)))

pub returns-then-word-eq0-clause-possible : goal.returns-then-word-eq0-clause-possible
returns-then-word-eq0-clause-possible c =
    let digits = ap length c.format.ensures.text in (
      λ e. absurd (cc e),
      λ p. elim c.then-word-eq0.branch [
        | then-word-eq0-via-then-word-eq0 w ↦ absurd (omega (arith, w.if-word-eq0, p.0))
        | then-word-eq0-via-else-word-eq0+then-words-eq0 w ↦ absurd (omega (arith, w.if-words-eq0, p.1))
        | then-word-eq0-via-else-word-eq0+else-words-eq0+then-text-least w ↦ absurd (omega (arith, w.if-text-least, p.2, least_text c.args.words, c.in_ok-checked_mul.ensures, c.in_ok-least.ensures, digits))
      ],
    )

pub returns-clause-possible : goal.returns-clause-possible
returns-clause-possible c =
    let digits = ap length c.format.ensures.text in
    (λ some. (omega arith, omega arith, omega (arith, least_text c.args.words, c.in_ok-checked_mul.ensures, c.in_ok-least.ensures, digits)), λ p. refl)
