use Rattle.std.proofs.Common.{◌≡◌, ◌∙◌, ◌++◌, List, ap, sym, map, length}
use Rattle.std.specs.Borrow.{Bor}
use Rattle.std.proofs.lemmas.List.{length-map}
use Rattle.mr_map.specs.Bytes.{lent, Bytes}
use Rattle.mr_effect.specs.declared.effect.Effect.TheVariants as made
use Rattle.mr_keyspace.specs.Cuts.{cut}
use Rattle.mr_cmd_zset.proofs.Removals.{reduced_made}
use Rattle.mr_cmd_zset.proofs.removing.zrem.Goals as goal

pub returns : goal.returns
returns c =
    let lost = c.in_ok-lost.lost in
    let counted : c.len.result ≡ length (lent lost.items) = c.len.ensures ∙ lost.ok.0 ∙ sym (length-map lost.items (λ (m : Bor Bytes). m.now)) in
    reduced_made c.args.key.now c.args.members.now c.args.set.now (lent lost.items) _ _ _ _ c.in_ok-lost.ensures c.count.ensures counted
    (c.in_ok-push_lost.ensures ∙ ap (λ (ms : List (Bor Bytes)). c.args.effects.now ++ map (made.RemoveScores c.args.key.now) (cut (lent ms))) c.deref.ensures.value)
