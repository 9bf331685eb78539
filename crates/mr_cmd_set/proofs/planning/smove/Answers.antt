use Rattle.std.proofs.Common.{◌≡◌, ◌∙◌, ap, sym, true, false}
use Rattle.std.specs.Prelude.{option_copied}
use Rattle.std.specs.FinMap.{get}
use Rattle.std.specs.Str.{bytes_eq}
use Rattle.mr_bytes.proofs.Numbers.{same_bytes}
use Rattle.mr_map.specs.Bytes.{Bytes}
use Rattle.mr_data.specs.Dataset.{live}
use Rattle.mr_cmd_shared.proofs.PlanLemmas.{if_ok}
use Rattle.mr_cmd_set.proofs.Moves.{move_plans, looked_one, looked_two}
use Rattle.mr_cmd_set.proofs.planning.smove.Goals as goal
use Rattle.mr_cmd_set.proofs.planning.smove.Goals.{then-same, else-same+in_ok-target}

pub returns-clause-reply : goal.returns-clause-reply
returns-clause-reply c =
    let from = c.args.asked.now.from.now in
    let to = c.args.asked.now.to.now in
    let m = c.args.held.now in
    let now = c.args.given.now in
    elim c.if-same.branch [
      | then-same w ↦
          let equal : bytes_eq from to ≡ true = sym c.same.ensures ∙ w.if-same.true in
          if_ok c.moved.result (λ r gives. move_plans from to c.args.asked.now.member.now now m (option_copied c.in_ok-source.source) (option_copied c.if-same.target) _ _ c.if-same.effects _
          c.in_ok-source.ensures.live_entry
          (ap option_copied w.target-is ∙ c.in_ok-source.ensures.live_entry ∙ ap (λ (k : Bytes). live now (get m k)) (same_bytes from to equal))
          (w.effects-is ∙ looked_one from to c.args.asked.now.member.now now m equal _ _ c.in_ok-source.ensures.expired)
          gives) c.moved.ensures
      | else-same+in_ok-target w ↦
          let differ : bytes_eq from to ≡ false = sym c.same.ensures ∙ w.if-same.false in
          if_ok c.moved.result (λ r gives. move_plans from to c.args.asked.now.member.now now m (option_copied c.in_ok-source.source) (option_copied c.if-same.target) _ _ c.if-same.effects _
          c.in_ok-source.ensures.live_entry
          (ap option_copied w.target-is ∙ w.in_ok-target.ensures.live_entry)
          (w.effects-is ∙ looked_two from to c.args.asked.now.member.now now m differ _ _ _ c.in_ok-source.ensures.expired w.in_ok-target.ensures.expired)
          gives) c.moved.ensures
    ]
