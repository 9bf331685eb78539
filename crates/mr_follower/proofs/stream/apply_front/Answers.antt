use Rattle.std.proofs.Common.{ℕ, List, subst, sym, ◌∙◌}
use Rattle.mr_follower.specs.Stream.{AppliesSingle, HasFrame, WaitsWithin}
use Rattle.mr_follower.specs.declared.single.Single.{Single}
use Rattle.mr_follower.proofs.Fronts.{open_waits}
use Rattle.mr_follower.proofs.stream.apply_front.Goals as goal

pub returns-in-Open-clause-applied : goal.returns-in-Open-clause-applied
returns-in-Open-clause-applied c =
    let u = c.args.inbox.now in
    let same = c.unread.ensures ∙ c.apply_single.ensures.kept in
    open_waits u c.args.room c.args.held.now c.apply_single.new.held c.apply_single.result c.waits.result c.args.out.now.items c.apply_single.new.out.items c.in-Open.is c.apply_single.ensures.applied
    (subst (λ (l : List ℕ). WaitsWithin l c.args.room c.waits.result) same c.waits.ensures)

pub apply_framed-requires : goal.apply_framed-requires
apply_framed-requires c =
    let u = c.args.inbox.now in
    let framed = subst (λ (x : Single). AppliesSingle u c.args.room c.args.held.now x c.apply_single.new.held c.args.out.now.items c.apply_single.new.out.items) c.in-Framed.is c.apply_single.ensures.applied in
    subst (λ (l : List ℕ). HasFrame l c.args.room) (sym c.apply_single.ensures.kept) framed.0
