-- The lines that a replica sends to its master before the stream.
use Rattle.std.specs.Prelude.{ℕ, ◌+◌, List, [], ◌∷◌, codes, Option, Some, None}
use Rattle.std.specs.Fmt.{decimal}
use Rattle.mr_repl.specs.ReplId.{digits_of}
use Rattle.mr_resp.specs.Spelling.{array}
use Rattle.mr_follower.specs.declared.phase.Phase.{Phase}
use Rattle.mr_follower.specs.declared.phase.Phase.TheVariants.{Ping, Port, Capabilities, Psync, Snapshot, Stream}

abbrev pub ping_line : List ℕ
ping_line = array (codes "PING" ∷ [])

abbrev pub port_line : ℕ → List ℕ
port_line port = array (codes "REPLCONF" ∷ codes "listening-port" ∷ decimal port ∷ [])

abbrev pub capabilities_line : List ℕ
capabilities_line = array (codes "REPLCONF" ∷ codes "capa" ∷ codes "eof" ∷ codes "capa" ∷ codes "psync2" ∷ [])

-- it asks for the byte behind what it holds, or for all where it has nothing to go on from
abbrev pub psync_line : Option (List ℕ × ℕ) → List ℕ
psync_line None = array (codes "PSYNC" ∷ codes "?" ∷ codes "-1" ∷ [])
psync_line (Some offer) = array (codes "PSYNC" ∷ digits_of offer.0 ∷ decimal (offer.1 + 1) ∷ [])

-- an answer to a line brings the next line
abbrev pub IsGreeting : Phase → Type 0
IsGreeting Ping = Unit {0}
IsGreeting Port = Unit {0}
IsGreeting Capabilities = Unit {0}
IsGreeting Psync = ⊥
IsGreeting (Snapshot id offset) = ⊥
IsGreeting Stream = ⊥

-- what is waited for once the next line is sent
abbrev pub next_of : Phase → Phase
next_of Ping = Port
next_of Port = Capabilities
next_of Capabilities = Psync
next_of Psync = Psync
next_of (Snapshot id offset) = Snapshot id offset
next_of Stream = Stream

-- the next line
abbrev pub line_after : Phase → ℕ → Option (List ℕ × ℕ) → List ℕ
line_after Ping port offer = port_line port
line_after Port port offer = capabilities_line
line_after Capabilities port offer = psync_line offer
line_after Psync port offer = []
line_after (Snapshot id offset) port offer = []
line_after Stream port offer = []
