use Rattle.std.proofs.Common.{◌≡◌, ◌==◌, ◌&&◌, ℕ, ◌+◌, false, get_or, drop, refl, sym, ◌∙◌, subst, arith}
use Rattle.std.specs.Char.{is_ascii_hexdigit}
use Rattle.std.proofs.lemmas.Bool.{ne_eqb, and_left, and_right}
use Rattle.mr_inline.specs.Bytes.{letter_x}
use Rattle.mr_inline.specs.Line.{begins_hex, escape_value}
use Rattle.mr_inline.specs.Parts.{Spells}
use Rattle.mr_inline.specs.declared.place.Place.TheVariants.{Double, DoubleEscape}
use Rattle.mr_inline.proofs.CutSteps.{hex_spells, escape_spells, no_digits, digits_at, value_n, value_r, value_t, value_other}
use Rattle.mr_inline.proofs.quoted.escaped_at.Goals as goal
use Rattle.mr_inline.proofs.quoted.escaped_at.Goals.{in-110, in-114, in-116, in_default, else-letter-eq120-via-then-letter-eq120+then-line-at-gt2+then-is_ascii_hexdigit+else-is_ascii_hexdigit-2, else-letter-eq120-via-then-letter-eq120+then-line-at-gt2+else-is_ascii_hexdigit, else-letter-eq120-via-then-letter-eq120+else-line-at-gt2, else-letter-eq120-via-else-letter-eq120}

pub returns-then-is_ascii_hexdigit-2 : goal.returns-then-is_ascii_hexdigit-2
returns-then-is_ascii_hexdigit-2 c =
    let first = sym c.is_ascii_hexdigit.ensures.value ∙ c.if-is_ascii_hexdigit.true in
    let second = sym c.is_ascii_hexdigit-then-is_ascii_hexdigit.ensures.value ∙ c.if-is_ascii_hexdigit-2.true in
    rw (c.hex_value.ensures.value, c.hex_value-then-is_ascii_hexdigit-2.ensures.value)
    (hex_spells c.args.line.now c.args.at (get_or c.args.line.now (c.args.at + 1) 0) (get_or c.args.line.now (c.args.at + 2) 0) (omega (arith, c.if-line-at-gt2.true)) c.if-letter-eq120.true refl refl first second)

pub returns : goal.returns
returns c =
    let line = c.args.line.now in
    let at = c.args.at in
    let letter = get_or line at 0 in
    let begins = begins_hex (drop (at + 1) line) in
    let test : (letter == letter_x && begins) ≡ false =
    elim c.else-letter-eq120.branch [
      | else-letter-eq120-via-then-letter-eq120+then-line-at-gt2+then-is_ascii_hexdigit+else-is_ascii_hexdigit-2 w ↦
          and_right (letter == letter_x) begins (digits_at line (at + 1) (at + 2) w.is_ascii_hexdigit.result w.is_ascii_hexdigit-then-is_ascii_hexdigit.result (omega (arith, w.if-line-at-gt2.true)) (omega arith) w.is_ascii_hexdigit.ensures.value w.is_ascii_hexdigit-then-is_ascii_hexdigit.ensures.value
          ∙ and_right w.is_ascii_hexdigit.result w.is_ascii_hexdigit-then-is_ascii_hexdigit.result w.if-is_ascii_hexdigit-2.false)
      | else-letter-eq120-via-then-letter-eq120+then-line-at-gt2+else-is_ascii_hexdigit w ↦
          and_right (letter == letter_x) begins (digits_at line (at + 1) (at + 2) w.is_ascii_hexdigit.result (is_ascii_hexdigit (get_or line (at + 2) 0)) (omega (arith, w.if-line-at-gt2.true)) (omega arith) w.is_ascii_hexdigit.ensures.value refl
          ∙ and_left w.is_ascii_hexdigit.result (is_ascii_hexdigit (get_or line (at + 2) 0)) w.if-is_ascii_hexdigit.false)
      | else-letter-eq120-via-then-letter-eq120+else-line-at-gt2 w ↦ and_right (letter == letter_x) begins (no_digits line (at + 1) (omega (arith, w.if-line-at-gt2.false)))
      | else-letter-eq120-via-else-letter-eq120 w ↦ and_left (letter == letter_x) begins (ne_eqb letter letter_x w.if-letter-eq120.false)
    ] in
    let value : c.match-letter.byte ≡ escape_value letter =
    elim c.match-letter.branch [
      | in-110 w ↦ (w.byte-is ∙ value_n letter w.in-110.is)
      | in-114 w ↦ (w.byte-is ∙ value_r letter w.in-114.is)
      | in-116 w ↦ (w.byte-is ∙ value_t letter w.in-116.is)
      | in_default w ↦ (w.byte-is ∙ value_other letter (λ e. omega (arith, e)) (λ e. omega (arith, e)) (λ e. omega (arith, e)))
    ] in
    subst (λ (b : ℕ). Spells DoubleEscape Double line at b (at + 1)) (sym value) (escape_spells line at letter c.requires refl test)
