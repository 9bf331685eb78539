use Rattle.std.proofs.Common.{rules, ◌≡◌, ◌==◌, true}
use Rattle.mr_groups.proofs.Resuming.{starts_at}
use Rattle.mr_groups.proofs.reader.Reader.next.Goals as goal

pub begin-requires-clause-start : goal.begin-requires-clause-start
begin-requires-clause-start c =
    let none : (c.args.self.now.used == 0) ≡ true = search rules in
    (starts_at c.args.self.now c.args.bytes.now c.requires none).0
