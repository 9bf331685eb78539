-- A run in which much goes wrong. Node 0 is a master, nodes 1 and 2 are replicas. Node 1 takes node 0's snapshot and stream, and acknowledges.
-- A client asks nothing, asks for more than the limit leaves room for, and sends what is no request; another says goodbye. Node 2 asks a
-- replica for its stream, is refused and leaves, is turned to another host, and is promoted. A client asks for the stream as a replica does,
-- and is shut out when it goes on as a client. Ends break; node 0 stops in the midst of a command, and node 2 where it is dialled; and node 0
-- starts again from what the tiny language reads in any file: nothing.
use Rattle.std.specs.Prelude.{List, [], ◌∷◌, None, Some, true, false}
use Rattle.law_protocol.specs.History.{History}
use Rattle.law_protocol.specs.Node.{Node}
use Rattle.law_protocol.specs.Node.Phase.{Greet, Asked, Loading, Stream}
use Rattle.law_protocol.specs.World.{Link, World, Shows}
use Rattle.law_protocol.specs.World.Caller.{Client, Peer}
use Rattle.law_protocol.specs.Event.{Event}
use Rattle.law_protocol.specs.Event.Side.{Server, Dialler}
use Rattle.law_protocol_example.specs.Looks.{look}
use Rattle.law_protocol_example.specs.Tiny.{tiny}

abbrev pub nodes_0 : List (Node tiny)
nodes_0 = []

abbrev pub links_0 : List (Link)
links_0 = []

abbrev pub book_0 : List (History tiny)
book_0 = []

abbrev pub node0_0 : Node tiny
node0_0 = record { up = true; master = true; id = 0; offset = 0; second = None; backlog = []; held = []; offers = true; follow = None; upstream = []; starts_as_master = true }

abbrev pub nodes_1 : List (Node tiny)
nodes_1 = node0_0 ∷ []

abbrev pub history0_0 : History tiny
history0_0 = record { start = []; effects = [] }

abbrev pub book_1 : List (History tiny)
book_1 = history0_0 ∷ []

abbrev pub moment_1 : World tiny
moment_1 = record { node = look nodes_1; link = look links_0; book = look book_1 }

abbrev pub node1_0 : Node tiny
node1_0 = record { up = true; master = false; id = 1; offset = 0; second = None; backlog = []; held = []; offers = false; follow = None; upstream = []; starts_as_master = false }

abbrev pub nodes_2 : List (Node tiny)
nodes_2 = node0_0 ∷ node1_0 ∷ []

abbrev pub history1_0 : History tiny
history1_0 = record { start = []; effects = [] }

abbrev pub book_2 : List (History tiny)
book_2 = history0_0 ∷ history1_0 ∷ []

abbrev pub moment_2 : World tiny
moment_2 = record { node = look nodes_2; link = look links_0; book = look book_2 }

abbrev pub node2_0 : Node tiny
node2_0 = record { up = true; master = false; id = 2; offset = 0; second = None; backlog = []; held = []; offers = false; follow = None; upstream = []; starts_as_master = false }

abbrev pub nodes_3 : List (Node tiny)
nodes_3 = node0_0 ∷ node1_0 ∷ node2_0 ∷ []

abbrev pub history2_0 : History tiny
history2_0 = record { start = []; effects = [] }

abbrev pub book_3 : List (History tiny)
book_3 = history0_0 ∷ history1_0 ∷ history2_0 ∷ []

abbrev pub moment_3 : World tiny
moment_3 = record { node = look nodes_3; link = look links_0; book = look book_3 }

abbrev pub link0_0 : Link
link0_0 = record { caller = Client true; to = Some 0; serving = true; streams = false; ask = record { left = []; taken = 0 }; tell = record { left = []; taken = 0 }; transaction = None }

abbrev pub links_1 : List (Link)
links_1 = link0_0 ∷ []

abbrev pub moment_4 : World tiny
moment_4 = record { node = look nodes_3; link = look links_1; book = look book_3 }

abbrev pub node1_1 : Node tiny
node1_1 = record { up = true; master = false; id = 1; offset = 0; second = None; backlog = []; held = []; offers = false; follow = Some (record { link = 1; phase = Greet 0 }); upstream = []; starts_as_master = false }

abbrev pub nodes_4 : List (Node tiny)
nodes_4 = node0_0 ∷ node1_1 ∷ node2_0 ∷ []

abbrev pub link1_0 : Link
link1_0 = record { caller = Peer 1; to = Some 0; serving = true; streams = false; ask = record { left = 6 ∷ []; taken = 0 }; tell = record { left = []; taken = 0 }; transaction = None }

abbrev pub links_2 : List (Link)
links_2 = link0_0 ∷ link1_0 ∷ []

abbrev pub moment_5 : World tiny
moment_5 = record { node = look nodes_4; link = look links_2; book = look book_3 }

abbrev pub link1_1 : Link
link1_1 = record { caller = Peer 1; to = Some 0; serving = true; streams = false; ask = record { left = 6 ∷ []; taken = 1 }; tell = record { left = []; taken = 0 }; transaction = None }

abbrev pub links_3 : List (Link)
links_3 = link0_0 ∷ link1_1 ∷ []

abbrev pub moment_6 : World tiny
moment_6 = record { node = look nodes_4; link = look links_3; book = look book_3 }

abbrev pub link1_2 : Link
link1_2 = record { caller = Peer 1; to = Some 0; serving = true; streams = false; ask = record { left = []; taken = 0 }; tell = record { left = 4 ∷ []; taken = 0 }; transaction = None }

abbrev pub links_4 : List (Link)
links_4 = link0_0 ∷ link1_2 ∷ []

abbrev pub moment_7 : World tiny
moment_7 = record { node = look nodes_4; link = look links_4; book = look book_3 }

abbrev pub link1_3 : Link
link1_3 = record { caller = Peer 1; to = Some 0; serving = true; streams = false; ask = record { left = []; taken = 0 }; tell = record { left = 4 ∷ []; taken = 1 }; transaction = None }

abbrev pub links_5 : List (Link)
links_5 = link0_0 ∷ link1_3 ∷ []

abbrev pub moment_8 : World tiny
moment_8 = record { node = look nodes_4; link = look links_5; book = look book_3 }

abbrev pub node1_2 : Node tiny
node1_2 = record { up = true; master = false; id = 1; offset = 0; second = None; backlog = []; held = []; offers = false; follow = Some (record { link = 1; phase = Greet 1 }); upstream = []; starts_as_master = false }

abbrev pub nodes_5 : List (Node tiny)
nodes_5 = node0_0 ∷ node1_2 ∷ node2_0 ∷ []

abbrev pub moment_9 : World tiny
moment_9 = record { node = look nodes_5; link = look links_2; book = look book_3 }

abbrev pub moment_10 : World tiny
moment_10 = record { node = look nodes_5; link = look links_3; book = look book_3 }

abbrev pub moment_11 : World tiny
moment_11 = record { node = look nodes_5; link = look links_4; book = look book_3 }

abbrev pub moment_12 : World tiny
moment_12 = record { node = look nodes_5; link = look links_5; book = look book_3 }

abbrev pub node1_3 : Node tiny
node1_3 = record { up = true; master = false; id = 1; offset = 0; second = None; backlog = []; held = []; offers = false; follow = Some (record { link = 1; phase = Greet 2 }); upstream = []; starts_as_master = false }

abbrev pub nodes_6 : List (Node tiny)
nodes_6 = node0_0 ∷ node1_3 ∷ node2_0 ∷ []

abbrev pub moment_13 : World tiny
moment_13 = record { node = look nodes_6; link = look links_2; book = look book_3 }

abbrev pub moment_14 : World tiny
moment_14 = record { node = look nodes_6; link = look links_3; book = look book_3 }

abbrev pub moment_15 : World tiny
moment_15 = record { node = look nodes_6; link = look links_4; book = look book_3 }

abbrev pub moment_16 : World tiny
moment_16 = record { node = look nodes_6; link = look links_5; book = look book_3 }

abbrev pub node1_4 : Node tiny
node1_4 = record { up = true; master = false; id = 1; offset = 0; second = None; backlog = []; held = []; offers = false; follow = Some (record { link = 1; phase = Asked }); upstream = []; starts_as_master = false }

abbrev pub nodes_7 : List (Node tiny)
nodes_7 = node0_0 ∷ node1_4 ∷ node2_0 ∷ []

abbrev pub link1_4 : Link
link1_4 = record { caller = Peer 1; to = Some 0; serving = true; streams = false; ask = record { left = 7 ∷ 0 ∷ []; taken = 0 }; tell = record { left = []; taken = 0 }; transaction = None }

abbrev pub links_6 : List (Link)
links_6 = link0_0 ∷ link1_4 ∷ []

abbrev pub moment_17 : World tiny
moment_17 = record { node = look nodes_7; link = look links_6; book = look book_3 }

abbrev pub link1_5 : Link
link1_5 = record { caller = Peer 1; to = Some 0; serving = true; streams = false; ask = record { left = 7 ∷ 0 ∷ []; taken = 2 }; tell = record { left = []; taken = 0 }; transaction = None }

abbrev pub links_7 : List (Link)
links_7 = link0_0 ∷ link1_5 ∷ []

abbrev pub moment_18 : World tiny
moment_18 = record { node = look nodes_7; link = look links_7; book = look book_3 }

abbrev pub link1_6 : Link
link1_6 = record { caller = Peer 1; to = Some 0; serving = true; streams = true; ask = record { left = []; taken = 0 }; tell = record { left = 2 ∷ 0 ∷ 0 ∷ 12 ∷ 0 ∷ []; taken = 0 }; transaction = None }

abbrev pub links_8 : List (Link)
links_8 = link0_0 ∷ link1_6 ∷ []

abbrev pub moment_19 : World tiny
moment_19 = record { node = look nodes_7; link = look links_8; book = look book_3 }

abbrev pub link1_7 : Link
link1_7 = record { caller = Peer 1; to = Some 0; serving = true; streams = true; ask = record { left = []; taken = 0 }; tell = record { left = 2 ∷ 0 ∷ 0 ∷ 12 ∷ 0 ∷ []; taken = 5 }; transaction = None }

abbrev pub links_9 : List (Link)
links_9 = link0_0 ∷ link1_7 ∷ []

abbrev pub moment_20 : World tiny
moment_20 = record { node = look nodes_7; link = look links_9; book = look book_3 }

abbrev pub node1_5 : Node tiny
node1_5 = record { up = true; master = false; id = 1; offset = 0; second = None; backlog = []; held = []; offers = false; follow = Some (record { link = 1; phase = (Loading 0 0) }); upstream = []; starts_as_master = false }

abbrev pub nodes_8 : List (Node tiny)
nodes_8 = node0_0 ∷ node1_5 ∷ node2_0 ∷ []

abbrev pub link1_8 : Link
link1_8 = record { caller = Peer 1; to = Some 0; serving = true; streams = true; ask = record { left = []; taken = 0 }; tell = record { left = 12 ∷ 0 ∷ []; taken = 2 }; transaction = None }

abbrev pub links_10 : List (Link)
links_10 = link0_0 ∷ link1_8 ∷ []

abbrev pub moment_21 : World tiny
moment_21 = record { node = look nodes_8; link = look links_10; book = look book_3 }

abbrev pub node1_6 : Node tiny
node1_6 = record { up = true; master = false; id = 0; offset = 0; second = None; backlog = []; held = []; offers = true; follow = Some (record { link = 1; phase = Stream }); upstream = []; starts_as_master = false }

abbrev pub nodes_9 : List (Node tiny)
nodes_9 = node0_0 ∷ node1_6 ∷ node2_0 ∷ []

abbrev pub link1_9 : Link
link1_9 = record { caller = Peer 1; to = Some 0; serving = true; streams = true; ask = record { left = []; taken = 0 }; tell = record { left = []; taken = 0 }; transaction = None }

abbrev pub links_11 : List (Link)
links_11 = link0_0 ∷ link1_9 ∷ []

abbrev pub moment_22 : World tiny
moment_22 = record { node = look nodes_9; link = look links_11; book = look book_3 }

abbrev pub node0_1 : Node tiny
node0_1 = record { up = true; master = true; id = 0; offset = 2; second = None; backlog = 1 ∷ 7 ∷ []; held = 7 ∷ []; offers = true; follow = None; upstream = []; starts_as_master = true }

abbrev pub nodes_10 : List (Node tiny)
nodes_10 = node0_1 ∷ node1_6 ∷ node2_0 ∷ []

abbrev pub link1_10 : Link
link1_10 = record { caller = Peer 1; to = Some 0; serving = true; streams = true; ask = record { left = []; taken = 0 }; tell = record { left = 1 ∷ 7 ∷ []; taken = 0 }; transaction = None }

abbrev pub links_12 : List (Link)
links_12 = link0_0 ∷ link1_10 ∷ []

abbrev pub history0_1 : History tiny
history0_1 = record { start = []; effects = 7 ∷ [] }

abbrev pub book_4 : List (History tiny)
book_4 = history0_1 ∷ history1_0 ∷ history2_0 ∷ []

abbrev pub moment_23 : World tiny
moment_23 = record { node = look nodes_10; link = look links_12; book = look book_4 }

abbrev pub link1_11 : Link
link1_11 = record { caller = Peer 1; to = Some 0; serving = true; streams = true; ask = record { left = []; taken = 0 }; tell = record { left = 1 ∷ 7 ∷ []; taken = 2 }; transaction = None }

abbrev pub links_13 : List (Link)
links_13 = link0_0 ∷ link1_11 ∷ []

abbrev pub moment_24 : World tiny
moment_24 = record { node = look nodes_10; link = look links_13; book = look book_4 }

abbrev pub node1_7 : Node tiny
node1_7 = record { up = true; master = false; id = 0; offset = 2; second = None; backlog = 1 ∷ 7 ∷ []; held = 7 ∷ []; offers = true; follow = Some (record { link = 1; phase = Stream }); upstream = []; starts_as_master = false }

abbrev pub nodes_11 : List (Node tiny)
nodes_11 = node0_1 ∷ node1_7 ∷ node2_0 ∷ []

abbrev pub moment_25 : World tiny
moment_25 = record { node = look nodes_11; link = look links_11; book = look book_4 }

abbrev pub link1_12 : Link
link1_12 = record { caller = Peer 1; to = Some 0; serving = true; streams = true; ask = record { left = 9 ∷ []; taken = 0 }; tell = record { left = []; taken = 0 }; transaction = None }

abbrev pub links_14 : List (Link)
links_14 = link0_0 ∷ link1_12 ∷ []

abbrev pub moment_26 : World tiny
moment_26 = record { node = look nodes_11; link = look links_14; book = look book_4 }

abbrev pub link1_13 : Link
link1_13 = record { caller = Peer 1; to = Some 0; serving = true; streams = true; ask = record { left = 9 ∷ []; taken = 1 }; tell = record { left = []; taken = 0 }; transaction = None }

abbrev pub links_15 : List (Link)
links_15 = link0_0 ∷ link1_13 ∷ []

abbrev pub moment_27 : World tiny
moment_27 = record { node = look nodes_11; link = look links_15; book = look book_4 }

abbrev pub moment_28 : World tiny
moment_28 = record { node = look nodes_11; link = look links_11; book = look book_4 }

abbrev pub link0_1 : Link
link0_1 = record { caller = Client true; to = Some 0; serving = true; streams = false; ask = record { left = 14 ∷ 10 ∷ []; taken = 0 }; tell = record { left = []; taken = 0 }; transaction = None }

abbrev pub links_16 : List (Link)
links_16 = link0_1 ∷ link1_9 ∷ []

abbrev pub moment_29 : World tiny
moment_29 = record { node = look nodes_11; link = look links_16; book = look book_4 }

abbrev pub link0_2 : Link
link0_2 = record { caller = Client true; to = Some 0; serving = true; streams = false; ask = record { left = 14 ∷ 10 ∷ []; taken = 2 }; tell = record { left = []; taken = 0 }; transaction = None }

abbrev pub links_17 : List (Link)
links_17 = link0_2 ∷ link1_9 ∷ []

abbrev pub moment_30 : World tiny
moment_30 = record { node = look nodes_11; link = look links_17; book = look book_4 }

abbrev pub link0_3 : Link
link0_3 = record { caller = Client true; to = Some 0; serving = true; streams = false; ask = record { left = 10 ∷ []; taken = 1 }; tell = record { left = []; taken = 0 }; transaction = None }

abbrev pub links_18 : List (Link)
links_18 = link0_3 ∷ link1_9 ∷ []

abbrev pub moment_31 : World tiny
moment_31 = record { node = look nodes_11; link = look links_18; book = look book_4 }

abbrev pub link0_4 : Link
link0_4 = record { caller = Client true; to = Some 0; serving = true; streams = false; ask = record { left = []; taken = 0 }; tell = record { left = 96 ∷ []; taken = 0 }; transaction = None }

abbrev pub links_19 : List (Link)
links_19 = link0_4 ∷ link1_9 ∷ []

abbrev pub moment_32 : World tiny
moment_32 = record { node = look nodes_11; link = look links_19; book = look book_4 }

abbrev pub link0_5 : Link
link0_5 = record { caller = Client true; to = Some 0; serving = true; streams = false; ask = record { left = 0 ∷ []; taken = 0 }; tell = record { left = 96 ∷ []; taken = 0 }; transaction = None }

abbrev pub links_20 : List (Link)
links_20 = link0_5 ∷ link1_9 ∷ []

abbrev pub moment_33 : World tiny
moment_33 = record { node = look nodes_11; link = look links_20; book = look book_4 }

abbrev pub link0_6 : Link
link0_6 = record { caller = Client true; to = Some 0; serving = true; streams = false; ask = record { left = 0 ∷ []; taken = 1 }; tell = record { left = 96 ∷ []; taken = 0 }; transaction = None }

abbrev pub links_21 : List (Link)
links_21 = link0_6 ∷ link1_9 ∷ []

abbrev pub moment_34 : World tiny
moment_34 = record { node = look nodes_11; link = look links_21; book = look book_4 }

abbrev pub link0_7 : Link
link0_7 = record { caller = Client true; to = Some 0; serving = false; streams = false; ask = record { left = 0 ∷ []; taken = 1 }; tell = record { left = 96 ∷ 95 ∷ []; taken = 0 }; transaction = None }

abbrev pub links_22 : List (Link)
links_22 = link0_7 ∷ link1_9 ∷ []

abbrev pub moment_35 : World tiny
moment_35 = record { node = look nodes_11; link = look links_22; book = look book_4 }

abbrev pub link2_0 : Link
link2_0 = record { caller = Client true; to = Some 0; serving = true; streams = false; ask = record { left = []; taken = 0 }; tell = record { left = []; taken = 0 }; transaction = None }

abbrev pub links_23 : List (Link)
links_23 = link0_7 ∷ link1_9 ∷ link2_0 ∷ []

abbrev pub moment_36 : World tiny
moment_36 = record { node = look nodes_11; link = look links_23; book = look book_4 }

abbrev pub link2_1 : Link
link2_1 = record { caller = Client true; to = Some 0; serving = true; streams = false; ask = record { left = 15 ∷ []; taken = 0 }; tell = record { left = []; taken = 0 }; transaction = None }

abbrev pub links_24 : List (Link)
links_24 = link0_7 ∷ link1_9 ∷ link2_1 ∷ []

abbrev pub moment_37 : World tiny
moment_37 = record { node = look nodes_11; link = look links_24; book = look book_4 }

abbrev pub link2_2 : Link
link2_2 = record { caller = Client true; to = Some 0; serving = true; streams = false; ask = record { left = 15 ∷ []; taken = 1 }; tell = record { left = []; taken = 0 }; transaction = None }

abbrev pub links_25 : List (Link)
links_25 = link0_7 ∷ link1_9 ∷ link2_2 ∷ []

abbrev pub moment_38 : World tiny
moment_38 = record { node = look nodes_11; link = look links_25; book = look book_4 }

abbrev pub link2_3 : Link
link2_3 = record { caller = Client true; to = Some 0; serving = false; streams = false; ask = record { left = 15 ∷ []; taken = 1 }; tell = record { left = 98 ∷ []; taken = 0 }; transaction = None }

abbrev pub links_26 : List (Link)
links_26 = link0_7 ∷ link1_9 ∷ link2_3 ∷ []

abbrev pub moment_39 : World tiny
moment_39 = record { node = look nodes_11; link = look links_26; book = look book_4 }

abbrev pub node2_1 : Node tiny
node2_1 = record { up = true; master = false; id = 2; offset = 0; second = None; backlog = []; held = []; offers = false; follow = Some (record { link = 3; phase = Greet 0 }); upstream = []; starts_as_master = false }

abbrev pub nodes_12 : List (Node tiny)
nodes_12 = node0_1 ∷ node1_7 ∷ node2_1 ∷ []

abbrev pub link3_0 : Link
link3_0 = record { caller = Peer 2; to = Some 1; serving = true; streams = false; ask = record { left = 6 ∷ []; taken = 0 }; tell = record { left = []; taken = 0 }; transaction = None }

abbrev pub links_27 : List (Link)
links_27 = link0_7 ∷ link1_9 ∷ link2_3 ∷ link3_0 ∷ []

abbrev pub moment_40 : World tiny
moment_40 = record { node = look nodes_12; link = look links_27; book = look book_4 }

abbrev pub link3_1 : Link
link3_1 = record { caller = Peer 2; to = Some 1; serving = true; streams = false; ask = record { left = 6 ∷ []; taken = 1 }; tell = record { left = []; taken = 0 }; transaction = None }

abbrev pub links_28 : List (Link)
links_28 = link0_7 ∷ link1_9 ∷ link2_3 ∷ link3_1 ∷ []

abbrev pub moment_41 : World tiny
moment_41 = record { node = look nodes_12; link = look links_28; book = look book_4 }

abbrev pub link3_2 : Link
link3_2 = record { caller = Peer 2; to = Some 1; serving = true; streams = false; ask = record { left = []; taken = 0 }; tell = record { left = 4 ∷ []; taken = 0 }; transaction = None }

abbrev pub links_29 : List (Link)
links_29 = link0_7 ∷ link1_9 ∷ link2_3 ∷ link3_2 ∷ []

abbrev pub moment_42 : World tiny
moment_42 = record { node = look nodes_12; link = look links_29; book = look book_4 }

abbrev pub link3_3 : Link
link3_3 = record { caller = Peer 2; to = Some 1; serving = true; streams = false; ask = record { left = []; taken = 0 }; tell = record { left = 4 ∷ []; taken = 1 }; transaction = None }

abbrev pub links_30 : List (Link)
links_30 = link0_7 ∷ link1_9 ∷ link2_3 ∷ link3_3 ∷ []

abbrev pub moment_43 : World tiny
moment_43 = record { node = look nodes_12; link = look links_30; book = look book_4 }

abbrev pub node2_2 : Node tiny
node2_2 = record { up = true; master = false; id = 2; offset = 0; second = None; backlog = []; held = []; offers = false; follow = Some (record { link = 3; phase = Greet 1 }); upstream = []; starts_as_master = false }

abbrev pub nodes_13 : List (Node tiny)
nodes_13 = node0_1 ∷ node1_7 ∷ node2_2 ∷ []

abbrev pub moment_44 : World tiny
moment_44 = record { node = look nodes_13; link = look links_27; book = look book_4 }

abbrev pub moment_45 : World tiny
moment_45 = record { node = look nodes_13; link = look links_28; book = look book_4 }

abbrev pub moment_46 : World tiny
moment_46 = record { node = look nodes_13; link = look links_29; book = look book_4 }

abbrev pub moment_47 : World tiny
moment_47 = record { node = look nodes_13; link = look links_30; book = look book_4 }

abbrev pub node2_3 : Node tiny
node2_3 = record { up = true; master = false; id = 2; offset = 0; second = None; backlog = []; held = []; offers = false; follow = Some (record { link = 3; phase = Greet 2 }); upstream = []; starts_as_master = false }

abbrev pub nodes_14 : List (Node tiny)
nodes_14 = node0_1 ∷ node1_7 ∷ node2_3 ∷ []

abbrev pub moment_48 : World tiny
moment_48 = record { node = look nodes_14; link = look links_27; book = look book_4 }

abbrev pub moment_49 : World tiny
moment_49 = record { node = look nodes_14; link = look links_28; book = look book_4 }

abbrev pub moment_50 : World tiny
moment_50 = record { node = look nodes_14; link = look links_29; book = look book_4 }

abbrev pub moment_51 : World tiny
moment_51 = record { node = look nodes_14; link = look links_30; book = look book_4 }

abbrev pub node2_4 : Node tiny
node2_4 = record { up = true; master = false; id = 2; offset = 0; second = None; backlog = []; held = []; offers = false; follow = Some (record { link = 3; phase = Asked }); upstream = []; starts_as_master = false }

abbrev pub nodes_15 : List (Node tiny)
nodes_15 = node0_1 ∷ node1_7 ∷ node2_4 ∷ []

abbrev pub link3_4 : Link
link3_4 = record { caller = Peer 2; to = Some 1; serving = true; streams = false; ask = record { left = 7 ∷ 0 ∷ []; taken = 0 }; tell = record { left = []; taken = 0 }; transaction = None }

abbrev pub links_31 : List (Link)
links_31 = link0_7 ∷ link1_9 ∷ link2_3 ∷ link3_4 ∷ []

abbrev pub moment_52 : World tiny
moment_52 = record { node = look nodes_15; link = look links_31; book = look book_4 }

abbrev pub link3_5 : Link
link3_5 = record { caller = Peer 2; to = Some 1; serving = true; streams = false; ask = record { left = 7 ∷ 0 ∷ []; taken = 2 }; tell = record { left = []; taken = 0 }; transaction = None }

abbrev pub links_32 : List (Link)
links_32 = link0_7 ∷ link1_9 ∷ link2_3 ∷ link3_5 ∷ []

abbrev pub moment_53 : World tiny
moment_53 = record { node = look nodes_15; link = look links_32; book = look book_4 }

abbrev pub link3_6 : Link
link3_6 = record { caller = Peer 2; to = Some 1; serving = true; streams = false; ask = record { left = []; taken = 0 }; tell = record { left = 5 ∷ []; taken = 0 }; transaction = None }

abbrev pub links_33 : List (Link)
links_33 = link0_7 ∷ link1_9 ∷ link2_3 ∷ link3_6 ∷ []

abbrev pub moment_54 : World tiny
moment_54 = record { node = look nodes_15; link = look links_33; book = look book_4 }

abbrev pub link3_7 : Link
link3_7 = record { caller = Peer 2; to = Some 1; serving = true; streams = false; ask = record { left = []; taken = 0 }; tell = record { left = 5 ∷ []; taken = 1 }; transaction = None }

abbrev pub links_34 : List (Link)
links_34 = link0_7 ∷ link1_9 ∷ link2_3 ∷ link3_7 ∷ []

abbrev pub moment_55 : World tiny
moment_55 = record { node = look nodes_15; link = look links_34; book = look book_4 }

abbrev pub moment_56 : World tiny
moment_56 = record { node = look nodes_11; link = look links_34; book = look book_4 }

abbrev pub link4_0 : Link
link4_0 = record { caller = Client true; to = Some 2; serving = true; streams = false; ask = record { left = []; taken = 0 }; tell = record { left = []; taken = 0 }; transaction = None }

abbrev pub links_35 : List (Link)
links_35 = link0_7 ∷ link1_9 ∷ link2_3 ∷ link3_7 ∷ link4_0 ∷ []

abbrev pub moment_57 : World tiny
moment_57 = record { node = look nodes_11; link = look links_35; book = look book_4 }

abbrev pub link4_1 : Link
link4_1 = record { caller = Client true; to = Some 2; serving = true; streams = false; ask = record { left = 13 ∷ 1 ∷ 5 ∷ []; taken = 0 }; tell = record { left = []; taken = 0 }; transaction = None }

abbrev pub links_36 : List (Link)
links_36 = link0_7 ∷ link1_9 ∷ link2_3 ∷ link3_7 ∷ link4_1 ∷ []

abbrev pub moment_58 : World tiny
moment_58 = record { node = look nodes_11; link = look links_36; book = look book_4 }

abbrev pub link4_2 : Link
link4_2 = record { caller = Client true; to = Some 2; serving = true; streams = false; ask = record { left = 13 ∷ 1 ∷ 5 ∷ []; taken = 3 }; tell = record { left = []; taken = 0 }; transaction = None }

abbrev pub links_37 : List (Link)
links_37 = link0_7 ∷ link1_9 ∷ link2_3 ∷ link3_7 ∷ link4_2 ∷ []

abbrev pub moment_59 : World tiny
moment_59 = record { node = look nodes_11; link = look links_37; book = look book_4 }

abbrev pub node2_5 : Node tiny
node2_5 = record { up = true; master = false; id = 2; offset = 0; second = None; backlog = []; held = []; offers = false; follow = None; upstream = 5 ∷ []; starts_as_master = false }

abbrev pub nodes_16 : List (Node tiny)
nodes_16 = node0_1 ∷ node1_7 ∷ node2_5 ∷ []

abbrev pub link4_3 : Link
link4_3 = record { caller = Client true; to = Some 2; serving = true; streams = false; ask = record { left = []; taken = 0 }; tell = record { left = 98 ∷ []; taken = 0 }; transaction = None }

abbrev pub links_38 : List (Link)
links_38 = link0_7 ∷ link1_9 ∷ link2_3 ∷ link3_7 ∷ link4_3 ∷ []

abbrev pub moment_60 : World tiny
moment_60 = record { node = look nodes_16; link = look links_38; book = look book_4 }

abbrev pub link4_4 : Link
link4_4 = record { caller = Client true; to = Some 2; serving = true; streams = false; ask = record { left = 11 ∷ []; taken = 0 }; tell = record { left = 98 ∷ []; taken = 0 }; transaction = None }

abbrev pub links_39 : List (Link)
links_39 = link0_7 ∷ link1_9 ∷ link2_3 ∷ link3_7 ∷ link4_4 ∷ []

abbrev pub moment_61 : World tiny
moment_61 = record { node = look nodes_16; link = look links_39; book = look book_4 }

abbrev pub link4_5 : Link
link4_5 = record { caller = Client true; to = Some 2; serving = true; streams = false; ask = record { left = 11 ∷ []; taken = 1 }; tell = record { left = 98 ∷ []; taken = 0 }; transaction = None }

abbrev pub links_40 : List (Link)
links_40 = link0_7 ∷ link1_9 ∷ link2_3 ∷ link3_7 ∷ link4_5 ∷ []

abbrev pub moment_62 : World tiny
moment_62 = record { node = look nodes_16; link = look links_40; book = look book_4 }

abbrev pub node2_6 : Node tiny
node2_6 = record { up = true; master = true; id = 3; offset = 0; second = Some (2, 1); backlog = []; held = []; offers = true; follow = None; upstream = []; starts_as_master = false }

abbrev pub nodes_17 : List (Node tiny)
nodes_17 = node0_1 ∷ node1_7 ∷ node2_6 ∷ []

abbrev pub link4_6 : Link
link4_6 = record { caller = Client true; to = Some 2; serving = true; streams = false; ask = record { left = []; taken = 0 }; tell = record { left = 98 ∷ 98 ∷ []; taken = 0 }; transaction = None }

abbrev pub links_41 : List (Link)
links_41 = link0_7 ∷ link1_9 ∷ link2_3 ∷ link3_7 ∷ link4_6 ∷ []

abbrev pub history3_0 : History tiny
history3_0 = record { start = []; effects = [] }

abbrev pub book_5 : List (History tiny)
book_5 = history0_1 ∷ history1_0 ∷ history2_0 ∷ history3_0 ∷ []

abbrev pub moment_63 : World tiny
moment_63 = record { node = look nodes_17; link = look links_41; book = look book_5 }

abbrev pub link5_0 : Link
link5_0 = record { caller = Client true; to = Some 0; serving = true; streams = false; ask = record { left = []; taken = 0 }; tell = record { left = []; taken = 0 }; transaction = None }

abbrev pub links_42 : List (Link)
links_42 = link0_7 ∷ link1_9 ∷ link2_3 ∷ link3_7 ∷ link4_6 ∷ link5_0 ∷ []

abbrev pub moment_64 : World tiny
moment_64 = record { node = look nodes_17; link = look links_42; book = look book_5 }

abbrev pub link5_1 : Link
link5_1 = record { caller = Client true; to = Some 0; serving = true; streams = false; ask = record { left = 7 ∷ 0 ∷ []; taken = 0 }; tell = record { left = []; taken = 0 }; transaction = None }

abbrev pub links_43 : List (Link)
links_43 = link0_7 ∷ link1_9 ∷ link2_3 ∷ link3_7 ∷ link4_6 ∷ link5_1 ∷ []

abbrev pub moment_65 : World tiny
moment_65 = record { node = look nodes_17; link = look links_43; book = look book_5 }

abbrev pub link5_2 : Link
link5_2 = record { caller = Client true; to = Some 0; serving = true; streams = false; ask = record { left = 7 ∷ 0 ∷ []; taken = 2 }; tell = record { left = []; taken = 0 }; transaction = None }

abbrev pub links_44 : List (Link)
links_44 = link0_7 ∷ link1_9 ∷ link2_3 ∷ link3_7 ∷ link4_6 ∷ link5_2 ∷ []

abbrev pub moment_66 : World tiny
moment_66 = record { node = look nodes_17; link = look links_44; book = look book_5 }

abbrev pub link5_3 : Link
link5_3 = record { caller = Client true; to = Some 0; serving = true; streams = true; ask = record { left = []; taken = 0 }; tell = record { left = 2 ∷ 0 ∷ 2 ∷ 12 ∷ 1 ∷ 7 ∷ []; taken = 0 }; transaction = None }

abbrev pub links_45 : List (Link)
links_45 = link0_7 ∷ link1_9 ∷ link2_3 ∷ link3_7 ∷ link4_6 ∷ link5_3 ∷ []

abbrev pub moment_67 : World tiny
moment_67 = record { node = look nodes_17; link = look links_45; book = look book_5 }

abbrev pub link5_4 : Link
link5_4 = record { caller = Client true; to = Some 0; serving = true; streams = true; ask = record { left = 10 ∷ []; taken = 0 }; tell = record { left = 2 ∷ 0 ∷ 2 ∷ 12 ∷ 1 ∷ 7 ∷ []; taken = 0 }; transaction = None }

abbrev pub links_46 : List (Link)
links_46 = link0_7 ∷ link1_9 ∷ link2_3 ∷ link3_7 ∷ link4_6 ∷ link5_4 ∷ []

abbrev pub moment_68 : World tiny
moment_68 = record { node = look nodes_17; link = look links_46; book = look book_5 }

abbrev pub link5_5 : Link
link5_5 = record { caller = Client true; to = Some 0; serving = true; streams = true; ask = record { left = 10 ∷ []; taken = 1 }; tell = record { left = 2 ∷ 0 ∷ 2 ∷ 12 ∷ 1 ∷ 7 ∷ []; taken = 0 }; transaction = None }

abbrev pub links_47 : List (Link)
links_47 = link0_7 ∷ link1_9 ∷ link2_3 ∷ link3_7 ∷ link4_6 ∷ link5_5 ∷ []

abbrev pub moment_69 : World tiny
moment_69 = record { node = look nodes_17; link = look links_47; book = look book_5 }

abbrev pub link5_6 : Link
link5_6 = record { caller = Client true; to = Some 0; serving = false; streams = true; ask = record { left = 10 ∷ []; taken = 1 }; tell = record { left = 2 ∷ 0 ∷ 2 ∷ 12 ∷ 1 ∷ 7 ∷ []; taken = 0 }; transaction = None }

abbrev pub links_48 : List (Link)
links_48 = link0_7 ∷ link1_9 ∷ link2_3 ∷ link3_7 ∷ link4_6 ∷ link5_6 ∷ []

abbrev pub moment_70 : World tiny
moment_70 = record { node = look nodes_17; link = look links_48; book = look book_5 }

abbrev pub link1_14 : Link
link1_14 = record { caller = Peer 1; to = Some 0; serving = false; streams = true; ask = record { left = []; taken = 0 }; tell = record { left = []; taken = 0 }; transaction = None }

abbrev pub links_49 : List (Link)
links_49 = link0_7 ∷ link1_14 ∷ link2_3 ∷ link3_7 ∷ link4_6 ∷ link5_6 ∷ []

abbrev pub moment_71 : World tiny
moment_71 = record { node = look nodes_17; link = look links_49; book = look book_5 }

abbrev pub node1_8 : Node tiny
node1_8 = record { up = true; master = false; id = 0; offset = 2; second = None; backlog = 1 ∷ 7 ∷ []; held = 7 ∷ []; offers = true; follow = None; upstream = []; starts_as_master = false }

abbrev pub nodes_18 : List (Node tiny)
nodes_18 = node0_1 ∷ node1_8 ∷ node2_6 ∷ []

abbrev pub moment_72 : World tiny
moment_72 = record { node = look nodes_18; link = look links_49; book = look book_5 }

abbrev pub moment_73 : World tiny
moment_73 = record { node = look nodes_18; link = look links_49; book = look book_5 }

abbrev pub link0_8 : Link
link0_8 = record { caller = Client false; to = Some 0; serving = false; streams = false; ask = record { left = 0 ∷ []; taken = 1 }; tell = record { left = 96 ∷ 95 ∷ []; taken = 0 }; transaction = None }

abbrev pub links_50 : List (Link)
links_50 = link0_8 ∷ link1_14 ∷ link2_3 ∷ link3_7 ∷ link4_6 ∷ link5_6 ∷ []

abbrev pub moment_74 : World tiny
moment_74 = record { node = look nodes_18; link = look links_50; book = look book_5 }

abbrev pub link6_0 : Link
link6_0 = record { caller = Client true; to = Some 0; serving = true; streams = false; ask = record { left = []; taken = 0 }; tell = record { left = []; taken = 0 }; transaction = None }

abbrev pub links_51 : List (Link)
links_51 = link0_8 ∷ link1_14 ∷ link2_3 ∷ link3_7 ∷ link4_6 ∷ link5_6 ∷ link6_0 ∷ []

abbrev pub moment_75 : World tiny
moment_75 = record { node = look nodes_18; link = look links_51; book = look book_5 }

abbrev pub link6_1 : Link
link6_1 = record { caller = Client true; to = Some 0; serving = true; streams = false; ask = record { left = 10 ∷ []; taken = 0 }; tell = record { left = []; taken = 0 }; transaction = None }

abbrev pub links_52 : List (Link)
links_52 = link0_8 ∷ link1_14 ∷ link2_3 ∷ link3_7 ∷ link4_6 ∷ link5_6 ∷ link6_1 ∷ []

abbrev pub moment_76 : World tiny
moment_76 = record { node = look nodes_18; link = look links_52; book = look book_5 }

abbrev pub link6_2 : Link
link6_2 = record { caller = Client true; to = Some 0; serving = true; streams = false; ask = record { left = 10 ∷ []; taken = 1 }; tell = record { left = []; taken = 0 }; transaction = None }

abbrev pub links_53 : List (Link)
links_53 = link0_8 ∷ link1_14 ∷ link2_3 ∷ link3_7 ∷ link4_6 ∷ link5_6 ∷ link6_2 ∷ []

abbrev pub moment_77 : World tiny
moment_77 = record { node = look nodes_18; link = look links_53; book = look book_5 }

abbrev pub node0_2 : Node tiny
node0_2 = record { up = false; master = true; id = 0; offset = 2; second = None; backlog = 1 ∷ 7 ∷ []; held = 7 ∷ 7 ∷ []; offers = true; follow = None; upstream = []; starts_as_master = true }

abbrev pub nodes_19 : List (Node tiny)
nodes_19 = node0_2 ∷ node1_8 ∷ node2_6 ∷ []

abbrev pub moment_78 : World tiny
moment_78 = record { node = look nodes_19; link = look links_53; book = look book_5 }

abbrev pub moment_79 : World tiny
moment_79 = record { node = look nodes_19; link = look links_53; book = look book_5 }

abbrev pub node2_7 : Node tiny
node2_7 = record { up = false; master = true; id = 3; offset = 0; second = Some (2, 1); backlog = []; held = []; offers = true; follow = None; upstream = []; starts_as_master = false }

abbrev pub nodes_20 : List (Node tiny)
nodes_20 = node0_2 ∷ node1_8 ∷ node2_7 ∷ []

abbrev pub moment_80 : World tiny
moment_80 = record { node = look nodes_20; link = look links_53; book = look book_5 }

abbrev pub node0_3 : Node tiny
node0_3 = record { up = true; master = true; id = 4; offset = 0; second = None; backlog = []; held = []; offers = true; follow = None; upstream = []; starts_as_master = true }

abbrev pub nodes_21 : List (Node tiny)
nodes_21 = node0_3 ∷ node1_8 ∷ node2_7 ∷ []

abbrev pub link6_3 : Link
link6_3 = record { caller = Client true; to = Some 0; serving = false; streams = false; ask = record { left = 10 ∷ []; taken = 1 }; tell = record { left = []; taken = 0 }; transaction = None }

abbrev pub links_54 : List (Link)
links_54 = link0_8 ∷ link1_14 ∷ link2_3 ∷ link3_7 ∷ link4_6 ∷ link5_6 ∷ link6_3 ∷ []

abbrev pub history4_0 : History tiny
history4_0 = record { start = []; effects = [] }

abbrev pub book_6 : List (History tiny)
book_6 = history0_1 ∷ history1_0 ∷ history2_0 ∷ history3_0 ∷ history4_0 ∷ []

abbrev pub moment_81 : World tiny
moment_81 = record { node = look nodes_21; link = look links_54; book = look book_6 }

abbrev pub events : List (Event tiny)
events =
    Event.Start 0 true
    ∷ Event.Start 1 false
    ∷ Event.Start 2 false
    ∷ Event.Client 0
    ∷ Event.Dial 1 0
    ∷ Event.Deliver 1 Server 1
    ∷ Event.Step 1 Server tt 3
    ∷ Event.Deliver 1 Dialler 1
    ∷ Event.Step 1 Dialler tt 3
    ∷ Event.Deliver 1 Server 1
    ∷ Event.Step 1 Server tt 3
    ∷ Event.Deliver 1 Dialler 1
    ∷ Event.Step 1 Dialler tt 3
    ∷ Event.Deliver 1 Server 1
    ∷ Event.Step 1 Server tt 3
    ∷ Event.Deliver 1 Dialler 1
    ∷ Event.Step 1 Dialler tt 3
    ∷ Event.Deliver 1 Server 2
    ∷ Event.Step 1 Server tt 3
    ∷ Event.Deliver 1 Dialler 5
    ∷ Event.Step 1 Dialler tt 3
    ∷ Event.Step 1 Dialler tt 3
    ∷ Event.Tick 0 tt
    ∷ Event.Deliver 1 Dialler 2
    ∷ Event.Step 1 Dialler tt 3
    ∷ Event.Tick 1 tt
    ∷ Event.Deliver 1 Server 1
    ∷ Event.Step 1 Server tt 3
    ∷ Event.Command 0 (14 ∷ 10 ∷ [])
    ∷ Event.Deliver 0 Server 2
    ∷ Event.Step 0 Server tt 3
    ∷ Event.Step 0 Server tt 3
    ∷ Event.Command 0 (0 ∷ [])
    ∷ Event.Deliver 0 Server 1
    ∷ Event.Step 0 Server tt 3
    ∷ Event.Client 0
    ∷ Event.Command 2 (15 ∷ [])
    ∷ Event.Deliver 2 Server 1
    ∷ Event.Step 2 Server tt 3
    ∷ Event.Dial 2 1
    ∷ Event.Deliver 3 Server 1
    ∷ Event.Step 3 Server tt 3
    ∷ Event.Deliver 3 Dialler 1
    ∷ Event.Step 3 Dialler tt 3
    ∷ Event.Deliver 3 Server 1
    ∷ Event.Step 3 Server tt 3
    ∷ Event.Deliver 3 Dialler 1
    ∷ Event.Step 3 Dialler tt 3
    ∷ Event.Deliver 3 Server 1
    ∷ Event.Step 3 Server tt 3
    ∷ Event.Deliver 3 Dialler 1
    ∷ Event.Step 3 Dialler tt 3
    ∷ Event.Deliver 3 Server 2
    ∷ Event.Step 3 Server tt 3
    ∷ Event.Deliver 3 Dialler 1
    ∷ Event.Step 3 Dialler tt 3
    ∷ Event.Client 2
    ∷ Event.Command 4 (13 ∷ 1 ∷ 5 ∷ [])
    ∷ Event.Deliver 4 Server 3
    ∷ Event.Step 4 Server tt 3
    ∷ Event.Command 4 (11 ∷ [])
    ∷ Event.Deliver 4 Server 1
    ∷ Event.Step 4 Server tt 3
    ∷ Event.Client 0
    ∷ Event.Command 5 (7 ∷ 0 ∷ [])
    ∷ Event.Deliver 5 Server 2
    ∷ Event.Step 5 Server tt 3
    ∷ Event.Command 5 (10 ∷ [])
    ∷ Event.Deliver 5 Server 1
    ∷ Event.Step 5 Server tt 3
    ∷ Event.Break 1 Server
    ∷ Event.Break 1 Dialler
    ∷ Event.Tick 1 tt
    ∷ Event.Break 0 Dialler
    ∷ Event.Client 0
    ∷ Event.Command 6 (10 ∷ [])
    ∷ Event.Deliver 6 Server 1
    ∷ Event.Step 6 Server tt 3
    ∷ Event.Tick 0 tt
    ∷ Event.Dial 1 2
    ∷ Event.Restart 0 (1 ∷ 7 ∷ []) 4 ∷ []

abbrev pub moments : List (World tiny)
moments = moment_1 ∷ moment_2 ∷ moment_3 ∷ moment_4 ∷ moment_5 ∷ moment_6 ∷ moment_7 ∷ moment_8 ∷ moment_9 ∷ moment_10 ∷ moment_11 ∷ moment_12 ∷ moment_13 ∷ moment_14 ∷ moment_15 ∷ moment_16 ∷ moment_17 ∷ moment_18 ∷ moment_19 ∷ moment_20 ∷ moment_21 ∷ moment_22 ∷ moment_23 ∷ moment_24 ∷ moment_25 ∷ moment_26 ∷ moment_27 ∷ moment_28 ∷ moment_29 ∷ moment_30 ∷ moment_31 ∷ moment_32 ∷ moment_33 ∷ moment_34 ∷ moment_35 ∷ moment_36 ∷ moment_37 ∷ moment_38 ∷ moment_39 ∷ moment_40 ∷ moment_41 ∷ moment_42 ∷ moment_43 ∷ moment_44 ∷ moment_45 ∷ moment_46 ∷ moment_47 ∷ moment_48 ∷ moment_49 ∷ moment_50 ∷ moment_51 ∷ moment_52 ∷ moment_53 ∷ moment_54 ∷ moment_55 ∷ moment_56 ∷ moment_57 ∷ moment_58 ∷ moment_59 ∷ moment_60 ∷ moment_61 ∷ moment_62 ∷ moment_63 ∷ moment_64 ∷ moment_65 ∷ moment_66 ∷ moment_67 ∷ moment_68 ∷ moment_69 ∷ moment_70 ∷ moment_71 ∷ moment_72 ∷ moment_73 ∷ moment_74 ∷ moment_75 ∷ moment_76 ∷ moment_77 ∷ moment_78 ∷ moment_79 ∷ moment_80 ∷ moment_81 ∷ []

-- at its end the node that stopped shows nothing but its new id
abbrev pub EndsAnew : Type 0
EndsAnew = Shows moment_81 0 4 0 []
