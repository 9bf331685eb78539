use Rattle.std.proofs.Common.{rules, ◌≡◌, [], true}
use Rattle.std.specs.Prelude.{is_some}
use Rattle.std.specs.FinMap.{get}
use Rattle.mr_keyspace.specs.Steps.{held, strings}
use Rattle.mr_keyspace.proofs.TextSteps.{same_done}
use Rattle.mr_keyspace.proofs.entries.Entries.keep_text.Goals as goal

pub returns : goal.returns
returns c =
    let some : is_some (held (strings []) (get c.args.self.now c.args.key.now)) ≡ true = search rules in
    same_done [] c.args.key.now c.args.self.now some
