use Rattle.std.proofs.Common.{◌∙◌, ap, sym, option_copied}
use Rattle.mr_cmd_shared.proofs.PlanLemmas.{if_ok}
use Rattle.mr_cmd_key.specs.Listing.{scan_reply, from_cursor}
use Rattle.mr_cmd_key.proofs.Listed.{listed_seen}
use Rattle.mr_cmd_key.proofs.planning.scan.Goals as goal

pub returns : goal.returns
returns c = if_ok c.scan.result (λ r shown. shown
    ∙ ap (λ ks. scan_reply (from_cursor c.args.cursor ks)) (sym (listed_seen c.args.given.now (option_copied c.args.filter.pattern) c.args.filter.kind c.args.held.now))) c.scan.ensures
