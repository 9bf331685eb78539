use Rattle.std.proofs.Common.{◌≡◌, ◌<◌, ◌≤◌, ◌-◌, ◌^◌, length}
use Rattle.mr_groups.specs.Readers.{HasRead}
use Rattle.mr_aof.specs.ReadThrough.{IsWithin}
use Rattle.mr_aof.proofs.Opened.{IsUnderWay}
use Rattle.mr_aof.proofs.log.opening.read_pieces.Given as goal

-- the bytes before this place were read
abbrev pub invariant-pieces : goal.invariant-pieces
invariant-pieces g l = record {
  read : IsUnderWay (g.F.LogFile.told l.fn.file) l.at l.replay.dataset l.replay.unread.items;
  within : IsWithin l.at l.end;
  kept : HasRead l.replay.reader l.replay.unread.items;
  same : g.F.LogFile.told l.file ≡ g.F.LogFile.told l.fn.file;
  beside : g.F.LogFile.aside l.file ≡ g.F.LogFile.aside l.fn.file;
  later : g.F.LogFile.failures l.fn.file ≤ g.F.LogFile.failures l.file;
  room : 0 < length l.buffer;
}

abbrev pub decreases-pieces : goal.decreases-pieces
decreases-pieces g l = 2 ^ 64 - l.at
