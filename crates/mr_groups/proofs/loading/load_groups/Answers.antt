use Rattle.std.proofs.Common.{rules, ◌≡◌}
use Rattle.std.specs.FinMap.{empty}
use Rattle.mr_groups.specs.Fronts.{AppliesFront}
use Rattle.mr_groups.specs.declared.front.Rest.TheVariants.{Torn}
use Rattle.mr_groups.proofs.Going.{loads_all, ends_at}
use Rattle.mr_groups.proofs.loading.load_groups.Goals as goal

pub load_again-requires : goal.load_again-requires
load_again-requires c =
    let bytes = c.args.bytes.now in
    let applied = c.apply_front-applied.result in
    let new = c.apply_front-applied.new.dataset in
    let done : AppliesFront bytes applied.used empty new applied.rest = search rules in
    ends_at bytes applied.used new applied.rest c.in_ok-rest.rest c.in_ok-rest.was done

pub returns-in-Open : goal.returns-in-Open
returns-in-Open c =
    let bytes = c.args.bytes.now in
    let applied = c.apply_front-applied.result in
    let new = c.apply_front-applied.new.dataset in
    let done : AppliesFront bytes applied.used empty new applied.rest = search rules in
    let whole : c.in_ok-rest.rest ≡ Torn → ⊥ = λ torn. search rules in
    loads_all bytes applied.used new applied.rest c.in_ok-rest.rest c.in_ok-rest.was whole done
