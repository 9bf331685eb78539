use Rattle.std.proofs.Common.{◌≡◌}
use Rattle.mr_trio.proofs.desk.Desk.wait.Given as goal

-- the ends stay
abbrev pub invariant-loop : goal.invariant-loop
invariant-loop l = record {
  first : l.self.first ≡ l.fn.self.first;
  second : l.self.second ≡ l.fn.self.second;
  third : l.self.third ≡ l.fn.self.third;
}
