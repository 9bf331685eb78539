use Rattle.std.proofs.Common.{◌∙◌, sym, ap}
use Rattle.std.specs.Prelude.{option_map}
use Rattle.mr_map.specs.Bytes.{lent}
use Rattle.mr_zset.specs.Leaving.{without_scores}
use Rattle.mr_zset.proofs.NameLemmas.{len_without_scores, named_changed}
use Rattle.mr_zset.proofs.ranked.Ranked.remove_all.Goals as goal

pub invariant_of-self-2 : goal.invariant_of-self-2
invariant_of-self-2 c =
    let members = lent c.args.members.now in
    let names = c.self.inside.names in
    let none = c.in_default.is ∙ sym (ap (option_map (without_scores members)) c.in_default.is) in
    named_changed names names c.self.inside.scores c.take_each.new.self (without_scores members) c.self.invariant none c.take_each.ensures (len_without_scores members c.self.inside.scores)
