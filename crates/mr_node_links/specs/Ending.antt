-- What one end does.
use Rattle.std.specs.Prelude.{◌≡◌, ◌≤◌, ◌+◌, ◌++◌, ℕ, List, Option, None, Some, length, drop}
use Rattle.mr_resp.specs.declared.progress.Progress.{Progress}
use Rattle.mr_node_links.specs.State.{EndState, Transaction, full}
use Rattle.mr_node_links.specs.State.EndState.{client, waiting, replica, upstream, shut}
use Rattle.mr_node_links.specs.Progresses.{AgreesAlong}
use Rattle.mr_node_links.specs.declared.kind.Kind.{Kind}
use Rattle.mr_node_links.specs.declared.kind.Kind.TheVariants as kind

-- an end of this kind, with what is open there and these unread bytes
abbrev pub end_as : Kind → Option Transaction → List ℕ → EndState
end_as kind.Client None unread = client unread
end_as kind.Client (Some t) unread = waiting t unread
end_as kind.Replica held unread = replica unread
end_as kind.Upstream held unread = upstream
end_as kind.Shut held unread = shut

abbrev pub kind_of : EndState → Kind
kind_of (client unread) = kind.Client
kind_of (waiting t unread) = kind.Client
kind_of (replica unread) = kind.Replica
kind_of upstream = kind.Upstream
kind_of shut = kind.Shut

-- the node serves it, and it has so many unread bytes or more
abbrev pub HasUnread : ℕ → EndState → Type 0
HasUnread count (client unread) = count ≤ length unread
HasUnread count (waiting t unread) = count ≤ length unread
HasUnread count (replica unread) = count ≤ length unread
HasUnread count upstream = ⊥
HasUnread count shut = ⊥

-- .. and it takes so many bytes more
abbrev pub Takes : ℕ → EndState → Type 0
Takes count (client unread) = length unread + count ≤ full
Takes count (waiting t unread) = length unread + count ≤ full
Takes count (replica unread) = length unread + count ≤ full
Takes count upstream = ⊥
Takes count shut = ⊥

-- .. and the progress holds of its unread bytes
abbrev pub AgreesAt : Progress → EndState → Type 0
AgreesAt progress (client unread) = AgreesAlong progress unread
AgreesAt progress (waiting t unread) = AgreesAlong progress unread
AgreesAt progress (replica unread) = AgreesAlong progress unread
AgreesAt progress upstream = ⊥
AgreesAt progress shut = ⊥

-- .. and it takes this many bytes
abbrev pub IsRoom : ℕ → EndState → Type 0
IsRoom room (client unread) = room + length unread ≡ full
IsRoom room (waiting t unread) = room + length unread ≡ full
IsRoom room (replica unread) = room + length unread ≡ full
IsRoom room upstream = ⊥
IsRoom room shut = ⊥

-- so many of its unread bytes are used
abbrev pub used_of : ℕ → EndState → EndState
used_of count (client unread) = client (drop count unread)
used_of count (waiting t unread) = waiting t (drop count unread)
used_of count (replica unread) = replica (drop count unread)
used_of count upstream = upstream
used_of count shut = shut

-- bytes are put behind its unread ones
abbrev pub heard_of : List ℕ → EndState → EndState
heard_of bytes (client unread) = client (unread ++ bytes)
heard_of bytes (waiting t unread) = waiting t (unread ++ bytes)
heard_of bytes (replica unread) = replica (unread ++ bytes)
heard_of bytes upstream = upstream
heard_of bytes shut = shut
