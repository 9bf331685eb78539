use Rattle.std.proofs.Common.{◌≡◌, ℕ, List, Option, Some, None, sym, ap, ◌∙◌}
use Rattle.std.specs.Prelude.{ℤ, Result, Ok, Err, MatchOption}
use Rattle.mr_order.specs.Changes.{IsItemAt, IsTaken, left_at}
use Rattle.mr_order.specs.Standing.{IsPlaceOf}
use Rattle.mr_zset.specs.declared.entry.Entry.{Entry}
use Rattle.mr_zset.specs.Pairs.{pair_cmp, lent_pair}
use Rattle.mr_zset.specs.Stored.{stored}
use Rattle.mr_zset.proofs.Cuts.{taken_out}
use Rattle.mr_zset.proofs.PairLemmas.{exact_pair, pairs_total}
use Rattle.mr_zset.proofs.stored.take_out.Goals as goal

pair_taken : (p : List ℕ × ℤ) (xs ys : List Entry) (t : Option Entry) → IsTaken (λ y. pair_cmp p (stored y)) xs t ys → MatchOption t (ys ≡ xs) (λ e. stored e ≡ p)
pair_taken p xs ys t k = by k.place t k.is k.item k.left where
  by : (r : Result ℕ ℕ) (u : Option Entry) → IsPlaceOf (λ y. pair_cmp p (stored y)) xs r → IsItemAt r xs u → ys ≡ left_at r xs → MatchOption u (ys ≡ xs) (λ e. stored e ≡ p)
  by (Ok at) None stands h e = absurd h
  by (Ok at) (Some x) stands h e = ap stored h ∙ sym (exact_pair p _ (stands.here x))
  by (Err at) None stands h e = e
  by (Err at) (Some x) stands h e = absurd h

pub returns-clause-answer : goal.returns-clause-answer
returns-clause-answer c = pair_taken (lent_pair c.args.pair) c.args.pairs.now c.taken.new.pairs c.taken.result c.taken.ensures

pub returns-clause-rest : goal.returns-clause-rest
returns-clause-rest c = taken_out pairs_total stored (lent_pair c.args.pair) c.args.pairs.now c.taken.new.pairs c.taken.result c.taken.ensures
