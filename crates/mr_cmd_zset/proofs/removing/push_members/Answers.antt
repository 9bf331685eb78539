use Rattle.std.proofs.Common.{List, ◌∙◌, ap, sym, map, length, ◌++◌}
use Rattle.std.specs.Borrow.{Bor}
use Rattle.std.proofs.lemmas.List.{length-map}
use Rattle.std.specs.FinMap.{keys}
use Rattle.mr_map.specs.Bytes.{lent, Bytes}
use Rattle.mr_effect.specs.declared.effect.Effect.TheVariants as made
use Rattle.mr_keyspace.specs.Cuts.{cut}
use Rattle.mr_zset.specs.Pairs.{lent_pair}
use Rattle.mr_cmd_zset.specs.Removing.{members_of, as_set}
use Rattle.mr_cmd_zset.proofs.Removals.{one_pair, one_key, one_member, len_keys}
use Rattle.mr_cmd_zset.proofs.removing.push_members.Goals as goal

pub returns-in-len1-clause-removed : goal.returns-in-len1-clause-removed
returns-in-len1-clause-removed c = one_member c.args.pairs.now c.in-len1.len_at_least c.in-len1.len_below

pub returns-in-len1-clause-effects : goal.returns-in-len1-clause-effects
returns-in-len1-clause-effects c =
    c.in_ok-push_lost_alone.ensures
    ∙ ap (λ (ms : List Bytes). c.args.effects.now ++ map (made.RemoveScores c.args.key.now) (cut ms)) (sym (one_key _))
    ∙ ap (λ (xs : List Bytes). c.args.effects.now ++ map (made.RemoveScores c.args.key.now) (cut (keys (as_set xs)))) (sym (one_pair c.args.pairs.now _ c.in-len1.len_at_least c.in-len1.len_below))

pub returns-clause-removed : goal.returns-clause-removed
returns-clause-removed c =
    let lost = c.in_ok-lost.lost in
    c.len.ensures ∙ lost.ok.0 ∙ sym (length-map lost.items (λ (m : Bor Bytes). m.now)) ∙ ap length c.in_ok-lost.ensures
    ∙ sym (len_keys (as_set (members_of (map lent_pair c.args.pairs.now))))

pub returns-clause-effects : goal.returns-clause-effects
returns-clause-effects c =
    c.in_ok-push_lost.ensures
    ∙ ap (λ (ms : List (Bor Bytes)). c.args.effects.now ++ map (made.RemoveScores c.args.key.now) (cut (lent ms))) c.deref.ensures.value
    ∙ ap (λ (ms : List Bytes). c.args.effects.now ++ map (made.RemoveScores c.args.key.now) (cut ms)) c.in_ok-lost.ensures
