use Rattle.std.proofs.Common.{◌≡◌, ◌≤◌, ◌++◌, ℕ, length, take, drop}
use Rattle.std.specs.List.{flat_map}
use Rattle.mr_resp.specs.Parts.{IsMeasured}
use Rattle.mr_resp.specs.Spelling.{bulk}
use Rattle.mr_resp.proofs.few.few_words_of.Given as goal

abbrev pub invariant-loop : goal.invariant-loop
invariant-loop l = record {
  inside : l.at ≤ length l.input;
  counted : length l.words ≡ l.counter;
  done : (used : ℕ) (m : IsMeasured l.limits l.input l.count l.first used)
      → (l.words ≡ take l.counter m.words) × (drop l.at l.input ≡ flat_map bulk (drop l.counter m.words) ++ drop used l.input);
}
