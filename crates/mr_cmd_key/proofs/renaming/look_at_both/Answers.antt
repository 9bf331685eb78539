use Rattle.std.proofs.Common.{◌≡◌, ◌∙◌, sym, true, false}
use Rattle.std.specs.Str.{bytes_eq}
use Rattle.mr_cmd_key.proofs.Renamings.{looked_one, looked_two}
use Rattle.mr_cmd_key.proofs.renaming.look_at_both.Goals as goal
use Rattle.mr_cmd_key.proofs.renaming.look_at_both.Goals.{then-same, else-same+in_ok-target}

pub returns-clause-expired : goal.returns-clause-expired
returns-clause-expired c =
    let from = c.args.from.now in
    let to = c.args.to.now in
    let m = c.args.held.now in
    let now = c.args.given.now in
    elim c.if-same.branch [
      | then-same w ↦
          let equal : bytes_eq from to ≡ true = sym c.same.ensures ∙ w.if-same.true in
          w.effects-is ∙ looked_one now from to m equal _ _ c.in_ok-source.ensures.expired
      | else-same+in_ok-target w ↦
          let differ : bytes_eq from to ≡ false = sym c.same.ensures ∙ w.if-same.false in
          w.effects-is ∙ looked_two now from to m differ _ _ _ c.in_ok-source.ensures.expired w.in_ok-target.ensures.expired
    ]
