use Rattle.std.proofs.Common.{◌≡◌, ◌∙◌, ◌++◌, List, refl, sym, ap, length, map, take}
use Rattle.std.specs.FinMap.{keys, len}
use Rattle.std.proofs.lemmas.List.{length-map}
use Rattle.mr_map.specs.Bytes.{Bytes}
use Rattle.mr_effect.specs.declared.effect.Effect.TheVariants as made
use Rattle.mr_keyspace.specs.Cuts.{cut}
use Rattle.mr_zset.specs.Pairs.{lent_pair}
use Rattle.mr_cmd_zset.specs.Scores.{pairs_in}
use Rattle.mr_cmd_zset.specs.Removing.{members_of, as_set}
use Rattle.mr_cmd_zset.specs.Ranges.{pairs_reply}
use Rattle.mr_zset_options.specs.declared.choices.RangeReply.TheVariants.{WithScores}
use Rattle.mr_cmd_zset.proofs.Removals.{taken_made, take_in, turned_in}
use Rattle.mr_cmd_zset.proofs.Wholes.{whole_keys}
use Rattle.mr_cmd_zset.proofs.removing.take_from.Goals as goal
use Rattle.mr_cmd_zset.proofs.removing.take_from.Goals.{then-len+in_ok-push_all, else-len+in_ok-push_members}

pub returns : goal.returns
returns c =
    let s = c.args.set.now in
    let ps = take c.args.count (pairs_in c.args.order s) in
    let qs = map lent_pair c.in_ok-pairs.pairs.items in
    let are_in = take_in s c.args.count (pairs_in c.args.order s) (turned_in s c.args.order) in
    let replied = c.in_ok-reply.ensures ∙ ap (λ xs. pairs_reply WithScores (map lent_pair xs)) c.deref-2.ensures.value in
    let put : c.if-len.effects ≡ c.args.effects.now ++ map (made.RemoveScores c.args.key.now) (cut (keys (as_set (members_of qs)))) = elim c.if-len.branch [
      | then-len+in_ok-push_all w ↦
          let all : length qs ≡ len s = length-map c.in_ok-pairs.pairs.items lent_pair ∙ sym c.in_ok-pairs.pairs.ok.0 ∙ sym c.len.ensures ∙ w.if-len.true ∙ c.len-2.ensures.len in
          w.effects-is ∙ w.in_ok-push_all.ensures
          ∙ ap (λ (ks : List Bytes). c.args.effects.now ++ map (made.RemoveScores c.args.key.now) (cut ks)) (sym (whole_keys s c.args.order c.args.count qs c.in_ok-pairs.ensures all))
      | else-len+in_ok-push_members w ↦
          w.effects-is ∙ w.in_ok-push_members.ensures.effects
          ∙ ap (λ xs. c.args.effects.now ++ map (made.RemoveScores c.args.key.now) (cut (keys (as_set (members_of (map lent_pair xs)))))) w.deref.ensures.value
    ] in
    taken_made c.args.key.now ps qs s _ (as_set (members_of qs)) _ _ c.in_ok-pairs.ensures are_in refl replied put
