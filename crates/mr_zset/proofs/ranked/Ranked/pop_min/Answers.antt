use Rattle.mr_zset.specs.Pairs.{without}
use Rattle.mr_zset.proofs.NameLemmas.{len_without, named_changed}
use Rattle.mr_zset.proofs.ranked.Ranked.pop_min.Goals as goal

pub invariant_of-self-2 : goal.invariant_of-self-2
invariant_of-self-2 c =
    let popped = c.in_ok-popped.popped in
    named_changed c.self.inside.names c.drop_popped.new.names c.self.inside.scores c.pop_min.new.self (without popped) c.self.invariant c.drop_popped.ensures c.in_ok-popped.ensures.ok (len_without popped c.self.inside.scores)
