-- What a pipe is between two steps.
use Rattle.std.specs.Prelude.{◌≡◌, ◌≢◌, ◌+◌, ◌-◌, ◌^◌, ℕ, List, Bool, true, false, Option, None, Some, min}
use Rattle.mr_repl.specs.ReplId.{id_of_number}
use Rattle.mr_links.specs.declared.link_id.LinkId.{LinkId}
use Rattle.mr_node_links.specs.State.{EndState, Transaction}
use Rattle.mr_node_links.specs.State.EndState.{client, waiting, replica}
use Rattle.mr_node_spec.specs.State.{Core, end_of}
use Rattle.mr_pipe.specs.declared.linked_node.LinkedNode.{LinkedNode}

pub record PipeState : Type 0 where
  pub core : Core  -- the node, its links apart
  pub replica : Bool  -- the link is a replica's: it was answered CONTINUE or FULLRESYNC
  pub transaction : Option Transaction  -- what its client has begun and not ended
  pub used : ℕ  -- so many fresh ids were taken

-- no number of an id is greater
abbrev pub most_numbered : ℕ
most_numbered = 2 ^ 64 - 1

-- the fresh id of a step, where so many were taken before
abbrev pub fresh_id : ℕ → List ℕ
fresh_id used = id_of_number (min (used + 1) most_numbered)

-- how many were taken behind a step that took this one
abbrev pub counted : Option (List ℕ) → ℕ → ℕ
counted None used = used
counted (Some id) used = min (used + 1) most_numbered

-- the node's end of the link: of a replica's, and of a client's where no transaction is open, or where this one is
abbrev pub end_as : (as_replica : Bool) → Option Transaction → List ℕ → EndState
end_as true held unread = replica unread
end_as false None unread = client unread
end_as false (Some t) unread = waiting t unread

-- The node runs and has one link, with these unread bytes, and the link to a master isn't there.
pub record Stands (p : LinkedNode) (s : PipeState) (unread : List ℕ) : Type 0 where
  pub up : s.core.up ≡ true
  pub core : p.node.core ≡ s.core
  pub end : end_of p.node p.link ≡ Some (end_as s.replica s.transaction unread)
  pub alone : (x : LinkId) → x ≢ p.link → end_of p.node x ≡ None
  pub follow : p.node.follow ≡ None
  pub used : p.used ≡ min s.used most_numbered
