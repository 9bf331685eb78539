-- A node, as far as the headline speaks of it, and from where it can be continued.
use Rattle.std.specs.Prelude.{ℕ, List, ◌++◌, ◌+◌, ◌-◌, ◌≤◌, ◌≡◌, ◌⊎◌, Option, None, Some, Bool, cond, length, drop}
use Rattle.law_protocol.specs.Language.{Language}

-- where a replica's reading of its master's link stands
pub data Phase (I : Type 0) : Type 0 where
  Greet : ℕ → Phase I  -- the line of the handshake of this number was sent, the last one not
  Asked : Phase I  -- PSYNC was sent
  Loading : I → ℕ → Phase I  -- a snapshot for this id and offset comes
  Stream : Phase I

-- a replica's end of the link to its master, while it's open
pub record Follow (I : Type 0) : Type 0 where
  pub link : ℕ
  pub phase : Phase I

pub record Node (L : Language) : Type 0 where
  pub up : Bool  -- it hasn't stopped
  pub master : Bool
  pub id : L.Id
  pub offset : ℕ
  pub second : Option (L.Id × ℕ)  -- the id before it, and the offset of the first byte that is no longer that one's
  pub backlog : List ℕ  -- the last bytes of its stream
  pub held : L.Dataset
  pub offers : Bool  -- as a replica it has something to continue
  pub follow : Option (Follow L.Id)
  pub upstream : List ℕ  -- the host and port that it follows
  pub starts_as_master : Bool  -- the role in which it starts

abbrev pub at_phase : {L : Language} → Node L → ℕ → Phase L.Id → Node L
at_phase a l p = record a { follow = Some (record { link = l; phase = p }) }

-- A replica under this id, which wants the stream from this byte on, may go on: the id is the node's, or it's the one before
-- and what is wanted isn't past the change, and the backlog holds what is wanted.
pub record Continues {L : Language} (a : Node L) (i : L.Id) (wanted : ℕ) : Type 0 where
  pub known : (i ≡ a.id) ⊎ ((o : ℕ) × (a.second ≡ Some (i, o)) × (wanted ≤ o))
  pub from_first : a.offset + 1 ≤ wanted + length a.backlog
  pub to_end : wanted ≤ a.offset + 1

-- the bytes of the stream from the one wanted on
abbrev pub tail : {L : Language} → Node L → ℕ → List ℕ
tail a wanted = drop (wanted + length a.backlog - (a.offset + 1)) a.backlog

-- what a replica asks for: the byte after its last one, or all where it has nothing to continue
abbrev pub wanted : {L : Language} → Node L → Option (L.Id × ℕ)
wanted a = cond a.offers (Some (a.id, a.offset + 1)) None

-- the same stream, which goes on under an id that may be its own
abbrev pub continued : {L : Language} → Node L → L.Id → Node L
continued {L} a i = cond (L.same a.id i) a (record a { id = i; second = Some (a.id, a.offset + 1) })

-- the new list is the end of the old one and then bytes
abbrev pub EndsAs : List ℕ → List ℕ → List ℕ → Type 0
EndsAs old bytes new = (cut : List ℕ) × (old ++ bytes ≡ cut ++ new)
