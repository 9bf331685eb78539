use Rattle.std.proofs.Common.{rules, ◌≡◌, [], ◌∷◌, ◌++◌, length}
use Rattle.mr_keyspace.specs.Cuts.{most_items}
use Rattle.mr_cmd_shared.proofs.GroupLemmas.{takes_more, takes_first}
use Rattle.mr_cmd_zset.proofs.groups.members.MemberGroup.push.Goals as goal
use Rattle.mr_cmd_zset.proofs.groups.members.MemberGroup.push.Goals.{then-len-eq-MOST_ITEMS+in_ok-flush, else-len-eq-MOST_ITEMS}

pub returns-clause-takes : goal.returns-clause-takes
returns-clause-takes c =
    elim c.if-len-eq-MOST_ITEMS.branch [
      | then-len-eq-MOST_ITEMS+in_ok-flush w ↦
          let full : length c.args.self.now.members ≡ most_items = search rules in
          let first : c.push.new.self ≡ c.args.member.now ∷ [] = search rules in
          takes_first _ _ _ _ _ _ full first (search rules)
      | else-len-eq-MOST_ITEMS w ↦
          let more : c.push.new.self ≡ c.args.self.now.members ++ c.args.member.now ∷ [] = search rules in
          takes_more _ _ _ _ _ _ more (search rules)
    ]
