-- What a replica does about a request.
use Rattle.std.proofs.Common.{◌≡◌, ℕ, List, [], Bool, true, subst}
use Rattle.std.specs.Prelude.{Result, Ok, Err}
use Rattle.mr_resp.specs.Replies.{Tree}
use Rattle.mr_keyspace.specs.Dataset.{Dataset}
use Rattle.mr_data.specs.declared.given.Given.{Given}
use Rattle.mr_effect.specs.declared.effect.Effect.{Effect}
use Rattle.mr_ask.specs.Asks.{asked}
use Rattle.mr_ask.specs.declared.ask.Ask.{Ask}
use Rattle.mr_arguments.specs.declared.fault.AskFault.{AskFault}
use Rattle.mr_commands.specs.Requests.{IsPlannedAs, IsPlanned}

no_effects : (r : Result Ask AskFault) (given : Given) (m : Dataset) (reply : Tree) (es : List Effect) → IsPlannedAs r true given m reply es → es ≡ []
no_effects (Ok command) given m reply es h = h.1
no_effects (Err fault) given m reply es h = h.1

-- nothing has an effect there
pub none_on_replica : (replica : Bool) (words : List (List ℕ)) (given : Given) (m : Dataset) (reply : Tree) (es : List Effect) → replica ≡ true → IsPlanned replica words given m reply es → es ≡ []
none_on_replica replica words given m reply es is p =
    no_effects (asked words) given m reply es (subst (λ b. IsPlannedAs (asked words) b given m reply es) is p.planned)
