use Rattle.std.proofs.Common.{◌≡◌, true, false, decimal, ◌∙◌, ap, sym, subst, arith}
use Rattle.std.specs.Str.{IsUtf8}
use Rattle.std.proofs.lemmas.Fmt.{IsAscii-decimal, parse-decimal}
use Rattle.std.proofs.lemmas.Slice.Eq.{bytes_eq-Decides}
use Rattle.std.proofs.lemmas.Str.{IsUtf8-from_ascii}
use Rattle.mr_bytes.proofs.Numbers.{same_bytes}
use Rattle.mr_world_script.proofs.Counts.{count_is, no_count}
use Rattle.mr_world_script.proofs.numbers.read_count.Goals as goal

pub returns-in_default : goal.returns-in_default
returns-in_default c = sym (no_count c.args.word.now (λ n small e.
    c.in_default.ensures.cases.0 (subst IsUtf8 (sym e) (IsUtf8-from_ascii (decimal n) (IsAscii-decimal n small)))))

pub returns-in_default-parse : goal.returns-in_default-parse
returns-in_default-parse c = sym (no_count c.args.word.now (λ n small e.
    let read = parse-decimal 64 n c.in-Ok.text.now c.parse.result small small (c.in-Ok.ensures.cases.0 ∙ e) c.parse.ensures.value.0 in
    let other = c.in_default-parse.is in
    cc))

pub returns-then-eq : goal.returns-then-eq
returns-then-eq c =
    let same = same_bytes c.as_bytes.result.now c.args.word.now (sym c.eq.ensures ∙ c.if-eq.true) in
    sym (count_is c.args.word.now c.in-Ok-parse.number (omega (arith, c.in-Ok-parse.ensures.value)) (sym same ∙ c.as_bytes.ensures.value ∙ c.format.ensures.text))

pub returns : goal.returns
returns c = sym (no_count c.args.word.now (λ n small e.
    let read = parse-decimal 64 n c.in-Ok.text.now c.parse.result small small (c.in-Ok.ensures.cases.0 ∙ e) c.parse.ensures.value.0 in
    let here = c.in-Ok-parse.is in
    let number : c.in-Ok-parse.number ≡ n = cc in
    let same = c.as_bytes.ensures.value ∙ c.format.ensures.text ∙ ap decimal number ∙ sym e in
    let both : true ≡ false = sym ((bytes_eq-Decides c.as_bytes.result.now c.args.word.now).1 same) ∙ sym c.eq.ensures ∙ c.if-eq.false in
    cc))
