use Rattle.std.proofs.Common.{◌≡◌, ◌∙◌, ◌++◌, List, ℤ, ap, sym, map, slice_range}
use Rattle.std.specs.FinMap.{keys, len}
use Rattle.mr_map.specs.Bytes.{Bytes}
use Rattle.mr_zset.specs.Pairs.{pairs_of}
use Rattle.mr_effect.specs.declared.effect.Effect.TheVariants as made
use Rattle.mr_keyspace.specs.Cuts.{cut}
use Rattle.mr_cmd_zset.specs.Scores.{number}
use Rattle.mr_cmd_zset.specs.Removing.{as_set, members_of}
use Rattle.mr_cmd_zset.proofs.Wholes.{all_counted, all_keys, all_places}
use Rattle.mr_cmd_zset.proofs.removing.remove_places.Goals as goal

-- the places are those of all pairs
whole : (c : goal.After-count) → slice_range (pairs_of c.args.set.now) c.args.first c.args.past ≡ pairs_of c.args.set.now
whole c = all_places c.args.set.now c.args.first c.args.past c.requires.ordered c.requires.within (c.if-past-first.true ∙ c.len.ensures.len)

pub returns-then-past-first-clause-reply : goal.returns-then-past-first-clause-reply
returns-then-past-first-clause-reply c =
    c.count.ensures ∙ ap number (c.len-then-past-first.ensures.len ∙ all_counted c.args.set.now)
    ∙ ap (λ (ps : List (Bytes × ℤ)). number (len (as_set (members_of ps)))) (sym (whole c))

pub returns-then-past-first-clause-effects : goal.returns-then-past-first-clause-effects
returns-then-past-first-clause-effects c =
    c.in_ok-push_all.ensures
    ∙ ap (λ (ms : List Bytes). c.args.effects.now ++ map (made.RemoveScores c.args.key.now) (cut ms)) (sym (all_keys c.args.set.now))
    ∙ ap (λ (ps : List (Bytes × ℤ)). c.args.effects.now ++ map (made.RemoveScores c.args.key.now) (cut (keys (as_set (members_of ps))))) (sym (whole c))
