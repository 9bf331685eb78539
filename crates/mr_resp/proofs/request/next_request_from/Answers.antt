use Rattle.std.proofs.Common.{◌≡◌, ℕ, ◌<◌, ◌++◌, Bool, true, false, eqb, inr, sym, ◌∙◌, subst, arith}
use Rattle.std.proofs.lemmas.List.{nil_from_length}
use Rattle.std.proofs.lemmas.Bool.Decides.{nat_tests}
use Rattle.mr_resp.specs.Scans.{Reads, CopiesOnlyQuoted}
use Rattle.mr_resp.proofs.Forms.{empty_continues, array_reads, line_reads, array_copies, star_first, no_star_first}
use Rattle.mr_resp.proofs.Resuming.{fresh_agrees}
use Rattle.mr_resp.proofs.request.next_request_from.Goals as goal
use Rattle.mr_resp.proofs.request.next_request_from.Goals.{then-input-eq42+in_ok-scan, else-input-eq42+in_ok-scan-2}

empty_true : (n : ℕ) (t : Bool) → t ≡ eqb n 0 → t ≡ true → n ≡ 0
empty_true n t e h = let k : eqb n 0 ≡ true = sym e ∙ h in grind (arith, nat_tests, k)

empty_false : (n : ℕ) (t : Bool) → t ≡ eqb n 0 → t ≡ false → 0 < n
empty_false n t e h = let k : eqb n 0 ≡ false = sym e ∙ h in grind (arith, nat_tests, k)

pub returns-then-is_empty-clause-found : goal.returns-then-is_empty-clause-found
returns-then-is_empty-clause-found c = empty_continues c.args.limits.now c.args.input.now (nil_from_length c.args.input.now (empty_true _ _ c.is_empty.ensures c.if-is_empty.true))

pub returns : goal.returns
returns c =
    let input = c.args.input.now in
    let limits = c.args.limits.now in
    let some = empty_false _ _ c.is_empty.ensures c.if-is_empty.false in
    elim c.if-input-eq42.branch [
      | then-input-eq42+in_ok-scan w ↦ record {
        found = subst (λ s. Reads limits input s) (sym w.scan-is) (array_reads limits input w.in_ok-scan.scan (star_first input some w.if-input-eq42.true) w.in_ok-scan.ensures.found);
        borrowed = subst (λ s. CopiesOnlyQuoted input s) (sym w.scan-is) (array_copies input w.in_ok-scan.scan w.in_ok-scan.ensures.borrowed);
        refused = tt;
        more = λ more. fresh_agrees limits c.new.result (input ++ more) c.new.ensures;
        spent = inr c.new.ensures;
      }
      | else-input-eq42+in_ok-scan-2 w ↦ record {
        found = subst (λ s. Reads limits input s) (sym w.scan-is) (line_reads limits input w.in_ok-scan-2.scan (no_star_first input w.if-input-eq42.false) w.in_ok-scan-2.ensures.found);
        borrowed = subst (λ s. CopiesOnlyQuoted input s) (sym w.scan-is) w.in_ok-scan-2.ensures.borrowed;
        refused = tt;
        more = λ more. fresh_agrees limits c.new.result (input ++ more) c.new.ensures;
        spent = inr c.new.ensures;
      }
    ]
