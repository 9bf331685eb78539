use Rattle.std.proofs.Common.{rules, ◌≡◌, take}
use Rattle.std.specs.FinMap.{empty}
use Rattle.mr_groups.specs.Fronts.{AppliesFront}
use Rattle.mr_groups.specs.declared.front.Rest.TheVariants.{Torn}
use Rattle.mr_groups.proofs.Going.{loads_again, no_tear}
use Rattle.mr_groups.proofs.loading.load_again.Goals as goal

pub unreachable-requires : goal.unreachable-requires
unreachable-requires c =
    let front = take c.args.used c.args.bytes.now in
    let applied = c.apply_front-applied.result in
    let new = c.apply_front-applied.new.dataset in
    let done : AppliesFront front applied.used empty new applied.rest = search rules in
    no_tear c.args.bytes.now c.args.used applied.used new applied.rest c.in_ok-rest.rest c.in_ok-rest.was c.in-Torn.is c.requires done

pub returns : goal.returns
returns c =
    let front = take c.args.used c.args.bytes.now in
    let applied = c.apply_front-applied.result in
    let new = c.apply_front-applied.new.dataset in
    let done : AppliesFront front applied.used empty new applied.rest = search rules in
    let whole : c.in_ok-rest.rest ≡ Torn → ⊥ = λ torn. search rules in
    loads_again c.args.bytes.now c.args.used applied.used new applied.rest c.in_ok-rest.rest c.in_ok-rest.was whole c.requires done
