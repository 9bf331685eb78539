use Rattle.std.proofs.Common.{rules, ◌≡◌, None}
use Rattle.std.specs.FinMap.{get, remove}
use Rattle.mr_keyspace.proofs.Renaming.{absent_is_refused}
use Rattle.mr_keyspace.proofs.entries.Entries.rename.Goals as goal

pub returns-in_default : goal.returns-in_default
returns-in_default c =
    let m = c.args.self.now in
    let none : get m c.args.from.now ≡ None = search rules in
    let left : c.remove.new.self ≡ remove m c.args.from.now = search rules in
    absent_is_refused m c.remove.new.self c.args.from.now c.args.to none left
