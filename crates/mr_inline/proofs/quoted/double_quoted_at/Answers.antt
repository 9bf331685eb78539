use Rattle.std.proofs.Common.{ℕ, ◌+◌, get_or, refl, sym, subst}
use Rattle.mr_inline.specs.Parts.{Spells}
use Rattle.mr_inline.specs.declared.place.Place.TheVariants.{Double}
use Rattle.mr_inline.proofs.CutSteps.{slash_spells, last_slash_spells, itself_spells}
use Rattle.mr_inline.proofs.quoted.double_quoted_at.Goals as goal
use Rattle.mr_inline.proofs.quoted.double_quoted_at.Goals.{else-byte-eq92-via-then-byte-eq92+else-next-line, else-byte-eq92-via-else-byte-eq92}

pub returns-then-next-line : goal.returns-then-next-line
returns-then-next-line c = slash_spells c.args.line.now c.args.at c.escaped_at.result.byte c.escaped_at.result.end c.requires.inside c.if-next-line.true c.if-byte-eq92.true c.escaped_at.ensures

pub returns-else-byte-eq92 : goal.returns-else-byte-eq92
returns-else-byte-eq92 c =
    elim c.else-byte-eq92.branch [
      | else-byte-eq92-via-then-byte-eq92+else-next-line w ↦
          subst (λ (b : ℕ). Spells Double Double c.args.line.now c.args.at b (c.args.at + 1)) (sym w.if-byte-eq92.true) (last_slash_spells c.args.line.now c.args.at c.requires.inside w.if-next-line.false w.if-byte-eq92.true)
      | else-byte-eq92-via-else-byte-eq92 w ↦ itself_spells c.args.line.now c.args.at (get_or c.args.line.now c.args.at 0) c.requires.inside refl c.requires.open w.if-byte-eq92.false
    ]
