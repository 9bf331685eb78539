-- A run in which links wait. A replica opens its end of a link. Before the master accepts it the master does a client's command, of
-- which nothing is sent on a link that waits; then the handshake's first line is answered. The replica opens its end of two more. It
-- closes the one before a node accepts it, and the master answers a line that nobody hears; the other it accepts itself.
use Rattle.std.specs.Prelude.{ℕ, List, [], ◌∷◌, ◌≡◌, Option, None, Some, true, false, is_some}
use Rattle.law_protocol.specs.Node.{Follow, Node}
use Rattle.law_protocol.specs.Node.Phase.{Greet}
use Rattle.law_protocol.specs.World.{Link, World, Shows}
use Rattle.law_protocol.specs.World.Caller.{Peer}
use Rattle.law_protocol.specs.Event.{Event}
use Rattle.law_protocol.specs.Event.Side.{Server, Dialler}
use Rattle.law_protocol_example.specs.Looks.{look}
use Rattle.law_protocol_example.specs.Tiny.{tiny}
use Rattle.law_protocol_example.specs.Transfer.{master_at, before, history, link}

-- the master after the command
abbrev pub later : Node tiny
later = master_at 2 (1 ∷ 7 ∷ []) (7 ∷ [])

-- the replica, which follows this link or none
abbrev pub replica : Option (Follow ℕ) → Node tiny
replica follow = record {
  up = true;
  master = false;
  id = 1;
  offset = 0;
  second = None;
  backlog = [];
  held = [];
  offers = false;
  follow = follow;
  upstream = [];
  starts_as_master = false;
}

-- .. where the line of the handshake of this number was sent
abbrev pub greeting : ℕ → ℕ → Option (Follow ℕ)
greeting link number = Some (record { link = link; phase = Greet number })

-- a link of the replica: who serves it, what that one and the replica have to use, and how much of it was taken
abbrev pub dialled : Option ℕ → List ℕ → ℕ → List ℕ → ℕ → Link
dialled to asked asked_taken told told_taken = record {
  caller = Peer 1;
  to = to;
  serving = is_some to;
  streams = false;
  ask = record { left = asked; taken = asked_taken };
  tell = record { left = told; taken = told_taken };
  transaction = None;
}

-- A line of the handshake stands on a link that waits, or at a node's end, where it was taken or not.
abbrev pub waits : Link
waits = dialled None (6 ∷ []) 0 [] 0

abbrev pub asks : ℕ → ℕ → Link
asks n taken = dialled (Some n) (6 ∷ []) taken [] 0

-- The master's answer to it stands at the replica's end.
abbrev pub hears : ℕ → Link
hears taken = dialled (Some 0) [] 0 (4 ∷ []) taken

abbrev pub client_0 : Link
client_0 = link [] 0 [] None

abbrev pub client_1 : Link
client_1 = link (10 ∷ []) 0 [] None

abbrev pub client_2 : Link
client_2 = link (10 ∷ []) 1 [] None

abbrev pub client_3 : Link
client_3 = link [] 0 (99 ∷ []) None

abbrev pub moment : Node tiny → Option (Follow ℕ) → List Link → List ℕ → World tiny
moment master follow links effects = record { node = look (master ∷ replica follow ∷ []); link = look links; book = look (history effects ∷ history [] ∷ []) }

abbrev pub moment_1 : World tiny
moment_1 = record { node = look (before ∷ []); link = look []; book = look (history [] ∷ []) }

abbrev pub moment_2 : World tiny
moment_2 = moment before None [] []

abbrev pub moment_3 : World tiny
moment_3 = moment before (greeting 0 0) (waits ∷ []) []

abbrev pub moment_4 : World tiny
moment_4 = moment before (greeting 0 0) (waits ∷ client_0 ∷ []) []

abbrev pub moment_5 : World tiny
moment_5 = moment before (greeting 0 0) (waits ∷ client_1 ∷ []) []

abbrev pub moment_6 : World tiny
moment_6 = moment before (greeting 0 0) (waits ∷ client_2 ∷ []) []

abbrev pub moment_7 : World tiny
moment_7 = moment later (greeting 0 0) (waits ∷ client_3 ∷ []) (7 ∷ [])

abbrev pub moment_8 : World tiny
moment_8 = moment later (greeting 0 0) (asks 0 0 ∷ client_3 ∷ []) (7 ∷ [])

abbrev pub moment_9 : World tiny
moment_9 = moment later (greeting 0 0) (asks 0 1 ∷ client_3 ∷ []) (7 ∷ [])

abbrev pub moment_10 : World tiny
moment_10 = moment later (greeting 0 0) (hears 0 ∷ client_3 ∷ []) (7 ∷ [])

abbrev pub moment_11 : World tiny
moment_11 = moment later (greeting 0 0) (hears 1 ∷ client_3 ∷ []) (7 ∷ [])

abbrev pub moment_12 : World tiny
moment_12 = moment later (greeting 0 1) (asks 0 0 ∷ client_3 ∷ []) (7 ∷ [])

abbrev pub moment_13 : World tiny
moment_13 = moment later None (asks 0 0 ∷ client_3 ∷ []) (7 ∷ [])

abbrev pub moment_14 : World tiny
moment_14 = moment later (greeting 2 0) (asks 0 0 ∷ client_3 ∷ waits ∷ []) (7 ∷ [])

abbrev pub moment_15 : World tiny
moment_15 = moment later None (asks 0 0 ∷ client_3 ∷ waits ∷ []) (7 ∷ [])

abbrev pub moment_16 : World tiny
moment_16 = moment later None (asks 0 0 ∷ client_3 ∷ asks 0 0 ∷ []) (7 ∷ [])

abbrev pub moment_17 : World tiny
moment_17 = moment later None (asks 0 0 ∷ client_3 ∷ asks 0 1 ∷ []) (7 ∷ [])

abbrev pub moment_18 : World tiny
moment_18 = moment later None (asks 0 0 ∷ client_3 ∷ hears 0 ∷ []) (7 ∷ [])

abbrev pub moment_19 : World tiny
moment_19 = moment later (greeting 3 0) (asks 0 0 ∷ client_3 ∷ hears 0 ∷ waits ∷ []) (7 ∷ [])

abbrev pub moment_20 : World tiny
moment_20 = moment later (greeting 3 0) (asks 0 0 ∷ client_3 ∷ hears 0 ∷ asks 1 0 ∷ []) (7 ∷ [])

abbrev pub events : List (Event tiny)
events = Event.Start 0 true
    ∷ Event.Start 1 false
    ∷ Event.Connect 1
    ∷ Event.Client 0
    ∷ Event.Command 1 (10 ∷ [])
    ∷ Event.Deliver 1 Server 1
    ∷ Event.Step 1 Server tt 2
    ∷ Event.Accept 0 0
    ∷ Event.Deliver 0 Server 1
    ∷ Event.Step 0 Server tt 2
    ∷ Event.Deliver 0 Dialler 1
    ∷ Event.Step 0 Dialler tt 2
    ∷ Event.Break 0 Dialler
    ∷ Event.Connect 1
    ∷ Event.Break 2 Dialler
    ∷ Event.Accept 2 0
    ∷ Event.Deliver 2 Server 1
    ∷ Event.Step 2 Server tt 2
    ∷ Event.Connect 1
    ∷ Event.Accept 3 1
    ∷ []

abbrev pub moments : List (World tiny)
moments = moment_1 ∷ moment_2 ∷ moment_3 ∷ moment_4 ∷ moment_5 ∷ moment_6 ∷ moment_7 ∷ moment_8 ∷ moment_9 ∷ moment_10 ∷ moment_11 ∷ moment_12 ∷ moment_13 ∷ moment_14 ∷ moment_15 ∷ moment_16 ∷ moment_17 ∷ moment_18 ∷ moment_19 ∷ moment_20 ∷ []

-- After the command the link still waits with what was sent on it; at the end of the handshake's first line the replica is at its second.
abbrev pub IsAnsweredLate : Type 0
IsAnsweredLate = Shows moment_7 0 0 2 (7 ∷ []) × (moment_7.link 0 ≡ Some waits) × (moment_12.node 1 ≡ Some (replica (greeting 0 1)))
