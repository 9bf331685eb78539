-- A run with a transaction. A client of a master begins one, and two requests wait in it: the dataset and the offset stay. At its end both
-- are carried out at once.
use Rattle.std.specs.Prelude.{ℕ, List, [], ◌∷◌, Option, None, Some, true, false}
use Rattle.law_protocol.specs.Language.{Transaction}
use Rattle.law_protocol.specs.History.{History}
use Rattle.law_protocol.specs.Node.{Node}
use Rattle.law_protocol.specs.World.{Link, World, Shows}
use Rattle.law_protocol.specs.World.Caller.{Client}
use Rattle.law_protocol.specs.Event.{Event}
use Rattle.law_protocol.specs.Event.Side.{Server}
use Rattle.law_protocol_example.specs.Looks.{look}
use Rattle.law_protocol_example.specs.Tiny.{tiny}

-- the master, which holds this at this offset
abbrev pub master_at : ℕ → List ℕ → List ℕ → Node tiny
master_at offset backlog held = record {
  up = true;
  master = true;
  id = 0;
  offset = offset;
  second = None;
  backlog = backlog;
  held = held;
  offers = true;
  follow = None;
  upstream = [];
  starts_as_master = true;
}

abbrev pub before : Node tiny
before = master_at 0 [] []

abbrev pub after : Node tiny
after = master_at 4 (1 ∷ 7 ∷ 1 ∷ 8 ∷ []) (8 ∷ 7 ∷ [])

abbrev pub history : List ℕ → History tiny
history effects = record { start = []; effects = effects }

-- the client's link: so much is unread, was taken, and was answered, and this is open
abbrev pub link : List ℕ → ℕ → List ℕ → Option Transaction → Link
link unread taken replies transaction = record {
  caller = Client true;
  to = Some 0;
  serving = true;
  streams = false;
  ask = record { left = unread; taken = taken };
  tell = record { left = replies; taken = 0 };
  transaction = transaction;
}

abbrev pub waiting : List (List ℕ) → Option Transaction
waiting queued = Some (record { queued = queued; marked = false })

abbrev pub command : List ℕ
command = 10 ∷ []

abbrev pub moment : Node tiny → List Link → List ℕ → World tiny
moment node links effects = record { node = look (node ∷ []); link = look links; book = look (history effects ∷ []) }

-- What is answered is 90 where the transaction is begun, 91 where a request waits, and 92 at its end.
abbrev pub link_0 : Link
link_0 = link [] 0 [] None

abbrev pub link_1 : Link
link_1 = link (16 ∷ []) 0 [] None

abbrev pub link_2 : Link
link_2 = link (16 ∷ []) 1 [] None

abbrev pub link_3 : Link
link_3 = link [] 0 (90 ∷ []) (waiting [])

abbrev pub link_4 : Link
link_4 = link (10 ∷ 10 ∷ []) 0 (90 ∷ []) (waiting [])

abbrev pub link_5 : Link
link_5 = link (10 ∷ 10 ∷ []) 2 (90 ∷ []) (waiting [])

abbrev pub link_6 : Link
link_6 = link (10 ∷ []) 1 (90 ∷ 91 ∷ []) (waiting (command ∷ []))

abbrev pub link_7 : Link
link_7 = link [] 0 (90 ∷ 91 ∷ 91 ∷ []) (waiting (command ∷ command ∷ []))

abbrev pub link_8 : Link
link_8 = link (17 ∷ []) 0 (90 ∷ 91 ∷ 91 ∷ []) (waiting (command ∷ command ∷ []))

abbrev pub link_9 : Link
link_9 = link (17 ∷ []) 1 (90 ∷ 91 ∷ 91 ∷ []) (waiting (command ∷ command ∷ []))

abbrev pub link_10 : Link
link_10 = link [] 0 (90 ∷ 91 ∷ 91 ∷ 92 ∷ []) None

abbrev pub moment_1 : World tiny
moment_1 = moment before [] []

abbrev pub moment_2 : World tiny
moment_2 = moment before (link_0 ∷ []) []

abbrev pub moment_3 : World tiny
moment_3 = moment before (link_1 ∷ []) []

abbrev pub moment_4 : World tiny
moment_4 = moment before (link_2 ∷ []) []

abbrev pub moment_5 : World tiny
moment_5 = moment before (link_3 ∷ []) []

abbrev pub moment_6 : World tiny
moment_6 = moment before (link_4 ∷ []) []

abbrev pub moment_7 : World tiny
moment_7 = moment before (link_5 ∷ []) []

abbrev pub moment_8 : World tiny
moment_8 = moment before (link_6 ∷ []) []

abbrev pub moment_9 : World tiny
moment_9 = moment before (link_7 ∷ []) []

abbrev pub moment_10 : World tiny
moment_10 = moment before (link_8 ∷ []) []

abbrev pub moment_11 : World tiny
moment_11 = moment before (link_9 ∷ []) []

abbrev pub moment_12 : World tiny
moment_12 = moment after (link_10 ∷ []) (7 ∷ 8 ∷ [])

abbrev pub events : List (Event tiny)
events = Event.Start 0 true
    ∷ Event.Client 0
    ∷ Event.Command 0 (16 ∷ [])
    ∷ Event.Deliver 0 Server 1
    ∷ Event.Step 0 Server tt 1
    ∷ Event.Command 0 (10 ∷ 10 ∷ [])
    ∷ Event.Deliver 0 Server 2
    ∷ Event.Step 0 Server tt 1
    ∷ Event.Step 0 Server tt 1
    ∷ Event.Command 0 (17 ∷ [])
    ∷ Event.Deliver 0 Server 1
    ∷ Event.Step 0 Server tt 1
    ∷ []

abbrev pub moments : List (World tiny)
moments = moment_1 ∷ moment_2 ∷ moment_3 ∷ moment_4 ∷ moment_5 ∷ moment_6 ∷ moment_7 ∷ moment_8 ∷ moment_9 ∷ moment_10 ∷ moment_11 ∷ moment_12 ∷ []

-- before the end the master shows what it showed, and behind it both at once
abbrev pub ActsAtItsEnd : Type 0
ActsAtItsEnd = Shows moment_11 0 0 0 [] × Shows moment_12 0 0 4 (8 ∷ 7 ∷ [])
