use Rattle.std.proofs.Common.{ℕ, Global, Vec, Option, subst}
use Rattle.std.specs.Prelude.{IfNone, IfSome}
use Rattle.mr_trio.specs.Asking.{MovesIf, MovesToReply, end_at}
use Rattle.mr_trio.proofs.Ends.{move_on, none_moves, reply_after}
use Rattle.mr_trio.proofs.three.Three.settle.Goals as goal

pub loop-turn-init : goal.loop-turn-init
loop-turn-init c = none_moves _

pub returns-in-Ok-Some-clause-taken : goal.returns-in-Ok-Some-clause-taken
returns-in-Ok-Some-clause-taken c =
    let before = end_at c.args.place c.loop-turn.self.desk in
    let after = end_at c.args.place c.turn.new.self.desk in
    let T : Option (Vec ℕ Global) → Type 0 = λ o. IfSome o (λ text. MovesToReply before after text.items) in
    reply_after _ _ _ _ c.loop-turn.invariant (subst T c.in-Ok-Some.field-0-is c.in-Ok-Some.ensures.taken)

pub loop-turn-preserved : goal.loop-turn-preserved
loop-turn-preserved c =
    let before = end_at c.args.place c.loop-turn.self.desk in
    let after = end_at c.args.place c.turn.new.self.desk in
    let T : Option (Vec ℕ Global) → Type 0 = λ o. IfNone o (MovesIf before after) in
    move_on _ _ _ c.loop-turn.invariant (subst T c.in-Ok-None.field-0-is c.in-Ok-None.ensures.none)
