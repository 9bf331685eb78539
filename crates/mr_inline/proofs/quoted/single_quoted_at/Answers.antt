use Rattle.std.proofs.Common.{ℕ, ◌+◌, get_or, refl, sym, subst, arith}
use Rattle.mr_inline.specs.Parts.{Spells}
use Rattle.mr_inline.specs.declared.place.Place.TheVariants.{Single}
use Rattle.mr_inline.proofs.CutSteps.{quote_spells, backslash_spells, sign_spells}
use Rattle.mr_inline.proofs.quoted.single_quoted_at.Goals as goal
use Rattle.mr_inline.proofs.quoted.single_quoted_at.Goals.{else-byte-eq92-via-then-byte-eq92+then-next-line+else-line-next-eq39, else-byte-eq92-via-then-byte-eq92+else-next-line, else-byte-eq92-via-else-byte-eq92}

pub returns-then-line-next-eq39 : goal.returns-then-line-next-eq39
returns-then-line-next-eq39 c = quote_spells c.args.line.now c.args.at c.if-next-line.true c.if-byte-eq92.true c.if-line-next-eq39.true

pub returns-else-byte-eq92 : goal.returns-else-byte-eq92
returns-else-byte-eq92 c =
    let line = c.args.line.now in
    let at = c.args.at in
    elim c.else-byte-eq92.branch [
      | else-byte-eq92-via-then-byte-eq92+then-next-line+else-line-next-eq39 w ↦ subst (λ (b : ℕ). Spells Single Single line at b (at + 1)) (sym w.if-byte-eq92.true) (backslash_spells line at c.requires.inside w.if-byte-eq92.true (λ lt. w.if-line-next-eq39.false))
      | else-byte-eq92-via-then-byte-eq92+else-next-line w ↦ subst (λ (b : ℕ). Spells Single Single line at b (at + 1)) (sym w.if-byte-eq92.true) (backslash_spells line at c.requires.inside w.if-byte-eq92.true (λ lt. absurd (omega (arith, lt, w.if-next-line.false))))
      | else-byte-eq92-via-else-byte-eq92 w ↦ sign_spells line at (get_or line at 0) c.requires.inside refl c.requires.open w.if-byte-eq92.false
    ]
