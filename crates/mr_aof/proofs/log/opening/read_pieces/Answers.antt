use Rattle.std.proofs.Common.{◌≡◌, ◌∙◌, length, arith, rules}
use Rattle.mr_aof.proofs.Opened.{goes_on, under_way, stops}
use Rattle.mr_aof.proofs.log.opening.read_pieces.Goals as goal

pub returns-in-Bad-clause-through : goal.returns-in-Bad-clause-through
returns-in-Bad-clause-through g c =
    let long : length c.read.new.into ≡ length c.pieces.buffer = search rules in
    let on = goes_on _ _ c.pieces.at c.in_ok-read.read c.count_before-count.result c.pieces.buffer c.read.new.into _ _ _ _ _ c.in_ok-rest.rest c.pieces.invariant.read c.pieces.invariant.same
    c.in_ok-read.ensures.read long c.in_ok-read.ensures.within c.count_before-count.ensures.fewer c.in_ok-rest.ensures.read c.in_ok-rest.ensures.left c.in_ok-rest.ensures.shorter (first_of (search rules, grind arith)) in
    stops _ _ _ _ _ c.in_ok-rest.rest (λ p. search rules) on

pub returns-in-Torn-clause-through : goal.returns-in-Torn-clause-through
returns-in-Torn-clause-through g c =
    let long : length c.read.new.into ≡ length c.pieces.buffer = search rules in
    let on = goes_on _ _ c.pieces.at c.in_ok-read.read c.count_before-count.result c.pieces.buffer c.read.new.into _ _ _ _ _ c.in_ok-rest.rest c.pieces.invariant.read c.pieces.invariant.same
    c.in_ok-read.ensures.read long c.in_ok-read.ensures.within c.count_before-count.ensures.fewer c.in_ok-rest.ensures.read c.in_ok-rest.ensures.left c.in_ok-rest.ensures.shorter (first_of (search rules, grind arith)) in
    stops _ _ _ _ _ c.in_ok-rest.rest (λ p. search rules) on

pub pieces-preserved : goal.pieces-preserved
pieces-preserved g c =
    let long : length c.read.new.into ≡ length c.pieces.buffer = search rules in
    let on = goes_on _ _ c.pieces.at c.in_ok-read.read c.count_before-count.result c.pieces.buffer c.read.new.into _ _ _ _ _ c.in_ok-rest.rest c.pieces.invariant.read c.pieces.invariant.same
    c.in_ok-read.ensures.read long c.in_ok-read.ensures.within c.count_before-count.ensures.fewer c.in_ok-rest.ensures.read c.in_ok-rest.ensures.left c.in_ok-rest.ensures.shorter (first_of (search rules, grind arith)) in
    record {
      read = under_way _ _ _ _ c.in_ok-rest.rest c.in-Open.is on;
      within = c.count_before-count.ensures.within;
      kept = c.in_ok-rest.ensures.kept;
      same = c.in_ok-read.ensures.same.0 ∙ c.pieces.invariant.same;
      beside = c.in_ok-read.ensures.beside ∙ c.pieces.invariant.beside;
      later = omega (arith, c.pieces.invariant.later, c.in_ok-read.ensures.later);
      room = omega (arith, c.pieces.invariant.room, long);
    }
