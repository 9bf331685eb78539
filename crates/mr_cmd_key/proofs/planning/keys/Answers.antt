use Rattle.std.proofs.Common.{◌∙◌, ap, sym, Some, None}
use Rattle.mr_cmd_shared.proofs.PlanLemmas.{if_ok}
use Rattle.mr_cmd_key.specs.Listing.{bulks, listed_at}
use Rattle.mr_cmd_key.proofs.Listed.{listed_seen}
use Rattle.mr_cmd_key.proofs.planning.keys.Goals as goal

pub returns : goal.returns
returns c = if_ok c.list_keys.result (λ r shown. shown
    ∙ ap (λ p. bulks (listed_at c.args.given.now (Some p) None c.args.held.now)) c.as_slice.ensures
    ∙ ap bulks (sym (listed_seen c.args.given.now (Some c.args.pattern.now) None c.args.held.now))) c.list_keys.ensures
