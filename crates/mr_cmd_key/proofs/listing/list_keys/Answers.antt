use Rattle.std.proofs.Common.{◌∙◌, ap, sym, option_copied}
use Rattle.std.specs.Prelude.{not}
use Rattle.mr_cmd_shared.proofs.PlanLemmas.{if_ok}
use Rattle.mr_cmd_key.specs.Listing.{bulks}
use Rattle.mr_cmd_key.proofs.Listed.{listed_all}
use Rattle.mr_cmd_key.proofs.listing.list_keys.Goals as goal

pub returns-then-is_all_live : goal.returns-then-is_all_live
returns-then-is_all_live c = if_ok c.list_matched.result (λ r shown. shown
    ∙ ap bulks (sym (listed_all c.args.given.now (option_copied c.args.filter.pattern) c.args.filter.kind c.args.held.now (c.is_none.ensures ∙ ap not c.if-is_none.true) (c.is_all_live.ensures.0 c.if-is_all_live.true)))) c.list_matched.ensures
