-- One direction of a link.
use Rattle.std.specs.Prelude.{ℕ, ◌+◌, ◌-◌, ◌≤◌, List, [], ◌++◌, length, take, drop}

-- All bytes that were sent, how many of them were taken, and how many were used.
pub record WayState : Type 0 where
  pub sent : List ℕ
  pub taken : ℕ
  pub used : ℕ

pub record IsWay (w : WayState) : Type 0 where
  pub used_within : w.used ≤ w.taken
  pub taken_within : w.taken ≤ length w.sent

abbrev pub no_way : WayState
no_way = record { sent = []; taken = 0; used = 0 }

abbrev pub sent_on : List ℕ → WayState → WayState
sent_on bytes w = record w { sent = w.sent ++ bytes }

abbrev pub taken_on : ℕ → WayState → WayState
taken_on n w = record w { taken = w.taken + n }

abbrev pub used_on : ℕ → WayState → WayState
used_on n w = record w { used = w.used + n }

-- so many bytes are left unread
abbrev pub left_on : ℕ → WayState → WayState
left_on n w = record w { used = w.taken - n }

-- taken, and not used
abbrev pub unread : WayState → List ℕ
unread w = take (w.taken - w.used) (drop w.used w.sent)
