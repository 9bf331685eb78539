use Rattle.std.proofs.Common.{◌≡◌, ◌<◌, ◌⊎◌, ◌∷◌, ◌++◌, ℕ, Bool, true, false, IsTrue, List, length, get_or, drop, inl, inr, sym, ap, ◌∙◌, subst, arith}
use Rattle.mr_resp.specs.Command.{ReadsCommand}
use Rattle.mr_resp.specs.Scans.{CopiesNothing, ReadsArray}
use Rattle.mr_resp.specs.Usual.{commands, commands-word, commands-words, commands-text}
use Rattle.mr_resp.specs.declared.fault.Fault.TheVariants.{MultibulkLength}
use Rattle.mr_resp.specs.declared.limits.Limits.{Limits}
use Rattle.mr_resp.specs.declared.request.Scan.{Scan}
use Rattle.mr_resp.specs.declared.request.Scan.TheVariants.{More, Bad}
use Rattle.mr_resp.proofs.LineEnds.{drop_two}
use Rattle.mr_resp.proofs.Commands.{IsClear, empty_fails, reads_command}
use Rattle.mr_resp.proofs.Resuming.{fresh_command}
use Rattle.mr_resp.proofs.command.next_command_from.Goals as goal
use Rattle.mr_resp.proofs.command.next_command_from.Goals.{then-begins_empty, else-begins_empty+in_ok-scan}

clear_of : (input : List ℕ) → ((1 < length input) × (get_or input 0 0 ≡ 42) × ((get_or input 1 0 ≡ 48) ⊎ (get_or input 1 0 ≡ 45)) → ⊥) → IsClear input
clear_of input never = λ b rest e.
    let long : 1 < length input = omega (arith, ap length e) in
    let first : get_or input 0 0 ≡ 42 = ap (λ (x : List ℕ). get_or x 0 0) e in
    let second : get_or input 1 0 ≡ b = ap (λ (x : List ℕ). get_or x 1 0) e in
    (λ is. never (long, first, inl (second ∙ is)), λ is. never (long, first, inr (second ∙ is)))

empty_reads : (input : List ℕ) → ((1 < length input) × (get_or input 0 0 ≡ 42) × ((get_or input 1 0 ≡ 48) ⊎ (get_or input 1 0 ≡ 45))) → ReadsCommand commands input (Bad MultibulkLength)
empty_reads input begun = empty_fails commands commands-word commands-words commands-text input (get_or input 1 0) (drop 2 input)
    (drop_two input 0 begun.0 ∙ ap (λ (x : ℕ). x ∷ get_or input 1 0 ∷ drop 2 input) begun.1) begun.2

array_reads : (input : List ℕ) (limits : Limits) (scan : Scan) (empty : Bool) → limits ≡ commands
    → (((1 < length input) × (get_or input 0 0 ≡ 42) × ((get_or input 1 0 ≡ 48) ⊎ (get_or input 1 0 ≡ 45))) → IsTrue empty) → empty ≡ false → ReadsArray limits input scan → ReadsCommand commands input scan
array_reads input limits scan empty same begins none found =
    reads_command commands commands-word commands-words commands-text input scan
    (clear_of input (λ begun. absurd (let both : true ≡ false = sym (begins begun) ∙ none in cc both)))
    (subst (λ (l : Limits). ReadsArray l input scan) same found)

pub returns-in-More-clause-found : goal.returns-in-More-clause-found
returns-in-More-clause-found c =
    let input = c.args.input.now in
    elim c.if-begins_empty.branch [
      | then-begins_empty w ↦ absurd (let both : Bad MultibulkLength ≡ More = sym w.scan-is ∙ c.in-More.is in cc both)
      | else-begins_empty+in_ok-scan w ↦ subst (λ (s : Scan). ReadsCommand commands input s) (sym w.scan-is ∙ c.in-More.is)
          (array_reads input w.commands.result w.in_ok-scan.scan c.begins_empty.result w.commands.ensures c.begins_empty.ensures.1 w.if-begins_empty.false w.in_ok-scan.ensures.found)
    ]

pub returns : goal.returns
returns c =
    let input = c.args.input.now in
    elim c.if-begins_empty.branch [
      | then-begins_empty w ↦ record {
        found = subst (λ (s : Scan). ReadsCommand commands input s) (sym w.scan-is) (empty_reads input (c.begins_empty.ensures.0 w.if-begins_empty.true));
        borrowed = subst (λ (s : Scan). CopiesNothing s) (sym w.scan-is) tt;
        refused = tt;
        more = λ more. fresh_command c.new.result (input ++ more) c.new.ensures;
        spent = inr c.new.ensures;
      }
      | else-begins_empty+in_ok-scan w ↦ record {
        found = subst (λ (s : Scan). ReadsCommand commands input s) (sym w.scan-is)
            (array_reads input w.commands.result w.in_ok-scan.scan c.begins_empty.result w.commands.ensures c.begins_empty.ensures.1 w.if-begins_empty.false w.in_ok-scan.ensures.found);
        borrowed = subst (λ (s : Scan). CopiesNothing s) (sym w.scan-is) w.in_ok-scan.ensures.borrowed;
        refused = tt;
        more = λ more. fresh_command c.new.result (input ++ more) c.new.ensures;
        spent = inr c.new.ensures;
      }
    ]
