-- What a contract sees of a follower.
use Rattle.std.specs.Prelude.{◌≡◌, ℕ, ◌+◌, ◌≤◌, List, [], ◌++◌, length, Option, Some, None, IfSome, refl}
use Rattle.std.specs.Coded.{Coded, code_by, coded×, coded_ℕ, coded_list, coded_option}
use Rattle.mr_repl.specs.Backlog.{offset_limit}
use Rattle.mr_peer_lines.specs.Lines.{most, size, IsPeerLine}
use Rattle.mr_repl.specs.ReplId.{IsId}
use Rattle.mr_groups.specs.Effects.{Makes}
use Rattle.mr_follower.specs.contracts.phase.Phase as waited
use Rattle.mr_follower.specs.contracts.taking.Taking as begun
use Rattle.mr_follower.specs.declared.taking.Taking.{Taking}
use Rattle.mr_follower.specs.declared.phase.Phase.{Phase}
use Rattle.mr_follower.specs.declared.phase.Phase.TheVariants.{Ping, Port, Capabilities, Psync, Snapshot, Stream}

-- What it waits for; the stream that it has to go on from, if any, and the offset of its last byte there; its port; what was
-- taken of a snapshot, once the line of its length was read; and the bytes that were fed and aren't taken.
pub record FollowState : Type 0 where
  pub phase : Phase
  pub offer : Option (List ℕ × ℕ)
  pub port : ℕ
  pub taking : Option Taking
  pub kept : List ℕ

abbrev pub follow_code : Coded FollowState
follow_code = code_by (Phase × (Option (List ℕ × ℕ) × (ℕ × (Option Taking × List ℕ))))
    (coded× waited.the_row.coded (coded× (coded_option (coded× (coded_list coded_ℕ) coded_ℕ)) (coded× coded_ℕ (coded× (coded_option begun.the_row.coded) (coded_list coded_ℕ)))))
    (λ a. (a.phase, (a.offer, (a.port, (a.taking, a.kept)))))
    (λ p. record { phase = p.0; offer = p.1.0; port = p.1.1.0; taking = p.1.1.1.0; kept = p.1.1.1.1 }) (λ _. refl)

-- the id of what it has to go on from is one, and its offset is within the limit
abbrev pub IsOffer : Option (List ℕ × ℕ) → Type 0
IsOffer offer = IfSome offer (λ o. IsId o.0 × (o.1 ≤ offset_limit))

-- the id of a snapshot that is announced is one, and its offset is within the limit
abbrev pub IsPlaced : Phase → Type 0
IsPlaced Ping = Unit {0}
IsPlaced Port = Unit {0}
IsPlaced Capabilities = Unit {0}
IsPlaced Psync = Unit {0}
IsPlaced (Snapshot id offset) = IsId id × (offset ≤ offset_limit)
IsPlaced Stream = Unit {0}

-- no more was taken of a snapshot than it has, and its line has no more bytes than a line may
pub record IsTaking (t : Taking) : Type 0 where
  pub head : t.head ≤ most + 2
  pub size : t.size ≤ offset_limit
  pub done : t.done ≤ t.size

pub record IsFollower (a : FollowState) : Type 0 where
  pub offer : IsOffer a.offer
  pub place : IsPlaced a.phase
  pub taking : IfSome a.taking IsTaking

-- The unread bytes are the line of a snapshot's length, texts of effects that make this dataset out of nothing, and what is kept.
pub record IsTaken (t : Taking) (kept unread : List ℕ) : Type 0 where
  pub line : List ℕ
  pub front : List ℕ
  pub is : unread ≡ line ++ (front ++ kept)
  pub says : IsPeerLine line (size t.size)
  pub makes : Makes front t.made
  pub head : length line ≡ t.head
  pub done : length front ≡ t.done

-- bytes are taken of a snapshot alone
abbrev pub AgreesBy : Phase → Option Taking → List ℕ → List ℕ → Type 0
AgreesBy p None kept unread = unread ≡ kept
AgreesBy Ping (Some t) kept unread = ⊥
AgreesBy Port (Some t) kept unread = ⊥
AgreesBy Capabilities (Some t) kept unread = ⊥
AgreesBy Psync (Some t) kept unread = ⊥
AgreesBy (Snapshot id offset) (Some t) kept unread = IsTaken t kept unread
AgreesBy Stream (Some t) kept unread = ⊥

-- The unread bytes, those that were fed and not used, can be these.
pub record Agrees (a : FollowState) (unread : List ℕ) : Type 0 where
  pub by : AgreesBy a.phase a.taking a.kept unread

-- It waits for this now, with these bytes left to read, and is the same otherwise.
pub record Moves (a : FollowState) (phase : Phase) (rest : List ℕ) (b : FollowState) : Type 0 where
  pub waits : b.phase ≡ phase
  pub offer : b.offer ≡ a.offer
  pub port : b.port ≡ a.port
  pub agrees : Agrees b rest

-- one whose first line was sent
abbrev pub started : Option (List ℕ × ℕ) → ℕ → FollowState
started offer port = record { phase = Ping; offer = offer; port = port; taking = None; kept = [] }

-- the same with more bytes to read
abbrev pub heard : FollowState → List ℕ → FollowState
heard a bytes = record a { kept = a.kept ++ bytes }

-- what is fed comes behind the unread bytes
abbrev pub FedIsUnread : Type 0
FedIsUnread = (a : FollowState) (unread bytes : List ℕ) → Agrees a unread → Agrees (heard a bytes) (unread ++ bytes)
