-- What is known of the peer on one link, and when it has been silent for too long. Moments are in milliseconds.
use Rattle.std.specs.Prelude.{ℕ, ◌-◌, ◌==◌, Bool, true, false, ◌||◌, Option, Some, None, if◌then◌else◌, nat_le, option_map}
use Rattle.mr_silence.specs.declared.peer.Peer.{Peer}
use Rattle.mr_silence.specs.declared.peer.Peer.TheVariants as peer
use Rattle.mr_silence.specs.declared.peer.Cause.{Cause}
use Rattle.mr_silence.specs.declared.peer.Cause.TheVariants as cause
use Rattle.mr_silence.specs.declared.peer.Limits.{Limits}
use Rattle.mr_silence.specs.declared.watch.Watch.{Watch}

-- whether two peers are of one kind
abbrev pub is_same : Peer → Peer → Bool
is_same peer.Client peer.Client = true
is_same peer.Replica peer.Replica = true
is_same peer.Master peer.Master = true
is_same peer.Parting peer.Parting = true
is_same a b = false

-- a master counts as heard when it is dialled
abbrev pub heard_first : Peer → ℕ → Option ℕ
heard_first peer.Client now = None
heard_first peer.Replica now = None
heard_first peer.Master now = Some now
heard_first peer.Parting now = None

-- a link to a peer that is opened now
abbrev pub opened : Peer → ℕ → Watch
opened who now = record { peer = who; moved = now; heard = heard_first who now; untaken = None }

-- so many bytes came
abbrev pub came : ℕ → ℕ → Watch → Watch
came count now w = if count == 0 then w else record { peer = w.peer; moved = now; heard = Some now; untaken = w.untaken }

-- **Since when nothing is taken**: no write that moved a byte has been made since, and something waits
abbrev pub since_or : Option ℕ → ℕ → Option ℕ
since_or None now = Some now
since_or (Some since) now = Some since

abbrev pub untaken_after : Option ℕ → ℕ → ℕ → ℕ → Option ℕ
untaken_after before waiting count now = if nat_le waiting count then None else if count == 0 then since_or before now else Some now

-- a write of all that waits moved so many bytes
abbrev pub went : ℕ → ℕ → ℕ → Watch → Watch
went waiting count now w = record { peer = w.peer; moved = if count == 0 then w.moved else now; heard = w.heard; untaken = untaken_after w.untaken waiting count now }

-- the node says whom the link leads to: where that is another than before, its silence begins now
abbrev pub led_since : Option ℕ → ℕ → Option ℕ
led_since None now = None
led_since (Some since) now = Some now

abbrev pub led : Peer → ℕ → Watch → Watch
led who now w = if is_same who w.peer then w else record { peer = who; moved = w.moved; heard = None; untaken = led_since w.untaken now }

-- whether so much time has passed since a moment, where there was one
abbrev pub has_come : Option ℕ → ℕ → ℕ → Bool
has_come None longest now = false
has_come (Some since) longest now = nat_le longest (now - since)

-- a client that neither says nor takes a byte, where there is a limit
abbrev pub idle_cause : Option ℕ → ℕ → ℕ → Option Cause
idle_cause None moved now = None
idle_cause (Some longest) moved now = if nat_le longest (now - moved) then Some cause.Idle else None

-- **Who has been silent for too long, and why**: a master that says nothing; a replica that said something and says nothing more, or takes nothing of
-- what waits for it; whoever takes nothing of what waits on a link that the node has closed; and a client, also of such a link, that is idle
abbrev pub silent_as : Peer → Limits → ℕ → Watch → Option Cause
silent_as peer.Master limits now w = if has_come w.heard limits.replication now then Some cause.Master else None
silent_as peer.Replica limits now w = if has_come w.heard limits.replication now || has_come w.untaken limits.replication now then Some cause.Replica else None
silent_as peer.Parting limits now w = if has_come w.untaken limits.replication now then Some cause.Parting else idle_cause limits.clients w.moved now
silent_as peer.Client limits now w = idle_cause limits.clients w.moved now

abbrev pub silent : Limits → ℕ → Watch → Option Cause
silent limits now w = silent_as w.peer limits now w
