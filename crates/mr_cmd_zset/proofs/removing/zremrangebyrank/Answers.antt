use Rattle.std.proofs.Common.{◌≡◌, ◌∙◌, ◌∷◌, ◌++◌, [], List, ap, sym, map, ℤ, w64, to_z, of_z}
use Rattle.std.proofs.lemmas.Int.{to_z-of_z}
use Rattle.std.specs.FinMap.{len}
use Rattle.mr_map.specs.Bytes.{Bytes}
use Rattle.mr_bytes.specs.Window.{window_of, windowed}
use Rattle.mr_zset.specs.Pairs.{pairs_of, lent_pair}
use Rattle.mr_effect.specs.declared.effect.Effect.TheVariants as made
use Rattle.mr_keyspace.specs.Cuts.{cut}
use Rattle.mr_cmd_zset.specs.Scores.{number}
use Rattle.mr_cmd_zset.proofs.Removals.{one_key, one_length, pairs_made, windowed_in, pairs_are_in}
use Rattle.mr_cmd_zset.proofs.removing.zremrangebyrank.Goals as goal

pub returns-in-Some : goal.returns-in-Some
returns-in-Some c =
    let s = c.args.set.now in
    let a = c.args.first in
    let b = c.args.last in
    let x = c.in-Some.pair.member.now in
    let only : lent_pair c.in-Some.pair ∷ [] ≡ windowed (window_of a b (len s)) (pairs_of s) = sym c.in-Some.ensures ∙ ap (λ (i : ℤ). windowed (window_of i (to_z w64 (of_z w64 b)) (len s)) (pairs_of s)) (to_z-of_z w64 a c.ranges.first) ∙ ap (λ (i : ℤ). windowed (window_of a i (len s)) (pairs_of s)) (to_z-of_z w64 b c.ranges.last) in
    pairs_made c.args.key.now (windowed (window_of a b (len s)) (pairs_of s)) (lent_pair c.in-Some.pair ∷ []) s _ _ _ only (windowed_in s (window_of a b (len s)) (pairs_of s) (pairs_are_in s))
    (c.count.ensures ∙ ap number (one_length x))
    (c.in_ok-push_lost_alone.ensures ∙ ap (λ (ms : List Bytes). c.args.effects.now ++ map (made.RemoveScores c.args.key.now) (cut ms)) (sym (one_key x)))

pub returns : goal.returns
returns c =
    let s = c.args.set.now in
    let a = c.args.first in
    let b = c.args.last in
    let range = sym c.places_at-first.ensures.range ∙ ap (λ (i : ℤ). windowed (window_of i (to_z w64 (of_z w64 b)) (len s)) (pairs_of s)) (to_z-of_z w64 a c.ranges.first) ∙ ap (λ (i : ℤ). windowed (window_of a i (len s)) (pairs_of s)) (to_z-of_z w64 b c.ranges.last) in
    pairs_made c.args.key.now (windowed (window_of a b (len s)) (pairs_of s)) _ s _ _ _ range (windowed_in s (window_of a b (len s)) (pairs_of s) (pairs_are_in s)) c.in_ok-reply.ensures.reply c.in_ok-reply.ensures.effects
