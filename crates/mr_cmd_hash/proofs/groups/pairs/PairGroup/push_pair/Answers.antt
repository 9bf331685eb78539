use Rattle.std.proofs.Common.{rules, ◌≡◌, [], ◌∷◌, ◌++◌, List, ℕ, length}
use Rattle.mr_keyspace.specs.Cuts.{most_items}
use Rattle.mr_cmd_shared.proofs.GroupLemmas.{takes_more, takes_first}
use Rattle.mr_cmd_hash.proofs.groups.pairs.PairGroup.push_pair.Goals as goal
use Rattle.mr_cmd_hash.proofs.groups.pairs.PairGroup.push_pair.Goals.{then-len-eq-MOST_ITEMS+in_ok-flush, else-len-eq-MOST_ITEMS}

pub returns-clause-takes : goal.returns-clause-takes
returns-clause-takes c =
    let pair : List ℕ × List ℕ = (c.args.field.now, c.args.value.now) in
    elim c.if-len-eq-MOST_ITEMS.branch [
      | then-len-eq-MOST_ITEMS+in_ok-flush w ↦
          let full : length c.args.self.now.pairs ≡ most_items = search rules in
          let first : c.push.new.self ≡ pair ∷ [] = search rules in
          takes_first _ _ _ _ _ _ full first (search rules)
      | else-len-eq-MOST_ITEMS w ↦
          let more : c.push.new.self ≡ c.args.self.now.pairs ++ pair ∷ [] = search rules in
          takes_more _ _ _ _ _ _ more (search rules)
    ]
