use Rattle.std.proofs.Common.{rules, ◌≡◌, IfSome, ℕ, List, ◌-◌, ◌+◌, length, ◌≤◌, ◌∙◌, subst}
use Rattle.mr_bytes.specs.Texts.{overwritten}
use Rattle.mr_value.proofs.Written.{zeros_overwritten}
use Rattle.mr_value.proofs.compact_bytes.few_overwritten.Goals as goal

pub returns : goal.returns
returns c =
    let t : List ℕ = c.args.bytes.now in
    let v : List ℕ = c.args.text.now in
    let within : c.max.result ≤ 23 = search rules in
    let left : c.max.result - length t ≡ c.args.offset + length v - length t = search rules in
    let written : c.put-2.new.bytes ≡ overwritten c.args.offset v t = c.put-2.ensures ∙ zeros_overwritten t v c.put.new.bytes c.args.offset 23 c.max.result within left c.put.ensures in
    subst (λ (x : List ℕ). IfSome c.of.result (λ all. all ≡ x)) written c.of.ensures.same
