-- A run: a replica takes a snapshot and an effect of its master, is promoted, and applies an effect of its own. The old master then
-- follows it, and goes on from where it stands by the id before. Nodes 0 and 1, their links, and the ids 0, 1 and 2 change as follows.
use Rattle.std.specs.Prelude.{ℕ, zero, suc, List, [], ◌∷◌, Option, None, Some, true, false}
use Rattle.law_protocol.specs.History.{History}
use Rattle.law_protocol.specs.Node.{Node}
use Rattle.law_protocol.specs.Node.Phase.{Greet, Asked, Loading, Stream}
use Rattle.law_protocol.specs.World.{Link, World}
use Rattle.law_protocol.specs.World.Caller.{Client, Peer}
use Rattle.law_protocol.specs.Event.{Event}
use Rattle.law_protocol.specs.Event.Side.{Server, Dialler}
use Rattle.law_protocol.specs.Runs.{CaughtUp}
use Rattle.law_protocol_example.specs.Tiny.{tiny}

abbrev pub nodes : {A : Type 0} → Option A → Option A → ℕ → Option A
nodes a b zero = a
nodes a b (suc zero) = b
nodes a b (suc (suc n)) = None

abbrev pub links : {A : Type 0} → Option A → Option A → Option A → Option A → ℕ → Option A
links a b c d zero = a
links a b c d (suc zero) = b
links a b c d (suc (suc zero)) = c
links a b c d (suc (suc (suc zero))) = d
links a b c d (suc (suc (suc (suc n)))) = None

abbrev pub ids : {A : Type 0} → Option A → Option A → Option A → ℕ → Option A
ids a b c zero = a
ids a b c (suc zero) = b
ids a b c (suc (suc zero)) = c
ids a b c (suc (suc (suc n))) = None

abbrev pub node0_0 : Node tiny
node0_0 = record { up = true; master = true; id = 0; offset = 0; second = None; backlog = []; held = []; offers = true; follow = None; upstream = []; starts_as_master = true }

abbrev pub history0_0 : History tiny
history0_0 = record { start = []; effects = [] }

abbrev pub moment_1 : World tiny
moment_1 = record { node = nodes (Some node0_0) None; link = links None None None None; book = ids (Some history0_0) None None }

abbrev pub node1_0 : Node tiny
node1_0 = record { up = true; master = false; id = 1; offset = 0; second = None; backlog = []; held = []; offers = false; follow = None; upstream = []; starts_as_master = false }

abbrev pub history1_0 : History tiny
history1_0 = record { start = []; effects = [] }

abbrev pub moment_2 : World tiny
moment_2 = record { node = nodes (Some node0_0) (Some node1_0); link = links None None None None; book = ids (Some history0_0) (Some history1_0) None }

abbrev pub link0_0 : Link
link0_0 = record { caller = Client true; to = Some 0; serving = true; streams = false; ask = record { left = []; taken = 0 }; tell = record { left = []; taken = 0 }; transaction = None }

abbrev pub moment_3 : World tiny
moment_3 = record { node = nodes (Some node0_0) (Some node1_0); link = links (Some link0_0) None None None; book = ids (Some history0_0) (Some history1_0) None }

abbrev pub node1_1 : Node tiny
node1_1 = record { up = true; master = false; id = 1; offset = 0; second = None; backlog = []; held = []; offers = false; follow = Some (record { link = 1; phase = Greet 0 }); upstream = []; starts_as_master = false }

abbrev pub link1_0 : Link
link1_0 = record { caller = Peer 1; to = Some 0; serving = true; streams = false; ask = record { left = 6 ∷ []; taken = 0 }; tell = record { left = []; taken = 0 }; transaction = None }

abbrev pub moment_4 : World tiny
moment_4 = record { node = nodes (Some node0_0) (Some node1_1); link = links (Some link0_0) (Some link1_0) None None; book = ids (Some history0_0) (Some history1_0) None }

abbrev pub link1_1 : Link
link1_1 = record { caller = Peer 1; to = Some 0; serving = true; streams = false; ask = record { left = 6 ∷ []; taken = 1 }; tell = record { left = []; taken = 0 }; transaction = None }

abbrev pub moment_5 : World tiny
moment_5 = record { node = nodes (Some node0_0) (Some node1_1); link = links (Some link0_0) (Some link1_1) None None; book = ids (Some history0_0) (Some history1_0) None }

abbrev pub link1_2 : Link
link1_2 = record { caller = Peer 1; to = Some 0; serving = true; streams = false; ask = record { left = []; taken = 0 }; tell = record { left = 4 ∷ []; taken = 0 }; transaction = None }

abbrev pub moment_6 : World tiny
moment_6 = record { node = nodes (Some node0_0) (Some node1_1); link = links (Some link0_0) (Some link1_2) None None; book = ids (Some history0_0) (Some history1_0) None }

abbrev pub link1_3 : Link
link1_3 = record { caller = Peer 1; to = Some 0; serving = true; streams = false; ask = record { left = []; taken = 0 }; tell = record { left = 4 ∷ []; taken = 1 }; transaction = None }

abbrev pub moment_7 : World tiny
moment_7 = record { node = nodes (Some node0_0) (Some node1_1); link = links (Some link0_0) (Some link1_3) None None; book = ids (Some history0_0) (Some history1_0) None }

abbrev pub node1_2 : Node tiny
node1_2 = record { up = true; master = false; id = 1; offset = 0; second = None; backlog = []; held = []; offers = false; follow = Some (record { link = 1; phase = Greet 1 }); upstream = []; starts_as_master = false }

abbrev pub moment_8 : World tiny
moment_8 = record { node = nodes (Some node0_0) (Some node1_2); link = links (Some link0_0) (Some link1_0) None None; book = ids (Some history0_0) (Some history1_0) None }

abbrev pub moment_9 : World tiny
moment_9 = record { node = nodes (Some node0_0) (Some node1_2); link = links (Some link0_0) (Some link1_1) None None; book = ids (Some history0_0) (Some history1_0) None }

abbrev pub moment_10 : World tiny
moment_10 = record { node = nodes (Some node0_0) (Some node1_2); link = links (Some link0_0) (Some link1_2) None None; book = ids (Some history0_0) (Some history1_0) None }

abbrev pub moment_11 : World tiny
moment_11 = record { node = nodes (Some node0_0) (Some node1_2); link = links (Some link0_0) (Some link1_3) None None; book = ids (Some history0_0) (Some history1_0) None }

abbrev pub node1_3 : Node tiny
node1_3 = record { up = true; master = false; id = 1; offset = 0; second = None; backlog = []; held = []; offers = false; follow = Some (record { link = 1; phase = Greet 2 }); upstream = []; starts_as_master = false }

abbrev pub moment_12 : World tiny
moment_12 = record { node = nodes (Some node0_0) (Some node1_3); link = links (Some link0_0) (Some link1_0) None None; book = ids (Some history0_0) (Some history1_0) None }

abbrev pub moment_13 : World tiny
moment_13 = record { node = nodes (Some node0_0) (Some node1_3); link = links (Some link0_0) (Some link1_1) None None; book = ids (Some history0_0) (Some history1_0) None }

abbrev pub moment_14 : World tiny
moment_14 = record { node = nodes (Some node0_0) (Some node1_3); link = links (Some link0_0) (Some link1_2) None None; book = ids (Some history0_0) (Some history1_0) None }

abbrev pub moment_15 : World tiny
moment_15 = record { node = nodes (Some node0_0) (Some node1_3); link = links (Some link0_0) (Some link1_3) None None; book = ids (Some history0_0) (Some history1_0) None }

abbrev pub node1_4 : Node tiny
node1_4 = record { up = true; master = false; id = 1; offset = 0; second = None; backlog = []; held = []; offers = false; follow = Some (record { link = 1; phase = Asked }); upstream = []; starts_as_master = false }

abbrev pub link1_4 : Link
link1_4 = record { caller = Peer 1; to = Some 0; serving = true; streams = false; ask = record { left = 7 ∷ 0 ∷ []; taken = 0 }; tell = record { left = []; taken = 0 }; transaction = None }

abbrev pub moment_16 : World tiny
moment_16 = record { node = nodes (Some node0_0) (Some node1_4); link = links (Some link0_0) (Some link1_4) None None; book = ids (Some history0_0) (Some history1_0) None }

abbrev pub link1_5 : Link
link1_5 = record { caller = Peer 1; to = Some 0; serving = true; streams = false; ask = record { left = 7 ∷ 0 ∷ []; taken = 2 }; tell = record { left = []; taken = 0 }; transaction = None }

abbrev pub moment_17 : World tiny
moment_17 = record { node = nodes (Some node0_0) (Some node1_4); link = links (Some link0_0) (Some link1_5) None None; book = ids (Some history0_0) (Some history1_0) None }

abbrev pub link1_6 : Link
link1_6 = record { caller = Peer 1; to = Some 0; serving = true; streams = true; ask = record { left = []; taken = 0 }; tell = record { left = 2 ∷ 0 ∷ 0 ∷ 12 ∷ 0 ∷ []; taken = 0 }; transaction = None }

abbrev pub moment_18 : World tiny
moment_18 = record { node = nodes (Some node0_0) (Some node1_4); link = links (Some link0_0) (Some link1_6) None None; book = ids (Some history0_0) (Some history1_0) None }

abbrev pub link1_7 : Link
link1_7 = record { caller = Peer 1; to = Some 0; serving = true; streams = true; ask = record { left = []; taken = 0 }; tell = record { left = 2 ∷ 0 ∷ 0 ∷ 12 ∷ 0 ∷ []; taken = 5 }; transaction = None }

abbrev pub moment_19 : World tiny
moment_19 = record { node = nodes (Some node0_0) (Some node1_4); link = links (Some link0_0) (Some link1_7) None None; book = ids (Some history0_0) (Some history1_0) None }

abbrev pub node1_5 : Node tiny
node1_5 = record { up = true; master = false; id = 1; offset = 0; second = None; backlog = []; held = []; offers = false; follow = Some (record { link = 1; phase = (Loading 0 0) }); upstream = []; starts_as_master = false }

abbrev pub link1_8 : Link
link1_8 = record { caller = Peer 1; to = Some 0; serving = true; streams = true; ask = record { left = []; taken = 0 }; tell = record { left = 12 ∷ 0 ∷ []; taken = 2 }; transaction = None }

abbrev pub moment_20 : World tiny
moment_20 = record { node = nodes (Some node0_0) (Some node1_5); link = links (Some link0_0) (Some link1_8) None None; book = ids (Some history0_0) (Some history1_0) None }

abbrev pub node1_6 : Node tiny
node1_6 = record { up = true; master = false; id = 0; offset = 0; second = None; backlog = []; held = []; offers = true; follow = Some (record { link = 1; phase = Stream }); upstream = []; starts_as_master = false }

abbrev pub link1_9 : Link
link1_9 = record { caller = Peer 1; to = Some 0; serving = true; streams = true; ask = record { left = []; taken = 0 }; tell = record { left = []; taken = 0 }; transaction = None }

abbrev pub moment_21 : World tiny
moment_21 = record { node = nodes (Some node0_0) (Some node1_6); link = links (Some link0_0) (Some link1_9) None None; book = ids (Some history0_0) (Some history1_0) None }

abbrev pub link0_1 : Link
link0_1 = record { caller = Client true; to = Some 0; serving = true; streams = false; ask = record { left = 10 ∷ []; taken = 0 }; tell = record { left = []; taken = 0 }; transaction = None }

abbrev pub moment_22 : World tiny
moment_22 = record { node = nodes (Some node0_0) (Some node1_6); link = links (Some link0_1) (Some link1_9) None None; book = ids (Some history0_0) (Some history1_0) None }

abbrev pub link0_2 : Link
link0_2 = record { caller = Client true; to = Some 0; serving = true; streams = false; ask = record { left = 10 ∷ []; taken = 1 }; tell = record { left = []; taken = 0 }; transaction = None }

abbrev pub moment_23 : World tiny
moment_23 = record { node = nodes (Some node0_0) (Some node1_6); link = links (Some link0_2) (Some link1_9) None None; book = ids (Some history0_0) (Some history1_0) None }

abbrev pub link0_3 : Link
link0_3 = record { caller = Client true; to = Some 0; serving = true; streams = false; ask = record { left = []; taken = 0 }; tell = record { left = 99 ∷ []; taken = 0 }; transaction = None }

abbrev pub link1_10 : Link
link1_10 = record { caller = Peer 1; to = Some 0; serving = true; streams = true; ask = record { left = []; taken = 0 }; tell = record { left = 1 ∷ 7 ∷ []; taken = 0 }; transaction = None }

abbrev pub node0_1 : Node tiny
node0_1 = record { up = true; master = true; id = 0; offset = 2; second = None; backlog = 1 ∷ 7 ∷ []; held = 7 ∷ []; offers = true; follow = None; upstream = []; starts_as_master = true }

abbrev pub history0_1 : History tiny
history0_1 = record { start = []; effects = 7 ∷ [] }

abbrev pub moment_24 : World tiny
moment_24 = record { node = nodes (Some node0_1) (Some node1_6); link = links (Some link0_3) (Some link1_10) None None; book = ids (Some history0_1) (Some history1_0) None }

abbrev pub link1_11 : Link
link1_11 = record { caller = Peer 1; to = Some 0; serving = true; streams = true; ask = record { left = []; taken = 0 }; tell = record { left = 1 ∷ 7 ∷ []; taken = 2 }; transaction = None }

abbrev pub moment_25 : World tiny
moment_25 = record { node = nodes (Some node0_1) (Some node1_6); link = links (Some link0_3) (Some link1_11) None None; book = ids (Some history0_1) (Some history1_0) None }

abbrev pub node1_7 : Node tiny
node1_7 = record { up = true; master = false; id = 0; offset = 2; second = None; backlog = 1 ∷ 7 ∷ []; held = 7 ∷ []; offers = true; follow = Some (record { link = 1; phase = Stream }); upstream = []; starts_as_master = false }

abbrev pub moment_26 : World tiny
moment_26 = record { node = nodes (Some node0_1) (Some node1_7); link = links (Some link0_3) (Some link1_9) None None; book = ids (Some history0_1) (Some history1_0) None }

abbrev pub link2_0 : Link
link2_0 = record { caller = Client true; to = Some 1; serving = true; streams = false; ask = record { left = []; taken = 0 }; tell = record { left = []; taken = 0 }; transaction = None }

abbrev pub moment_27 : World tiny
moment_27 = record { node = nodes (Some node0_1) (Some node1_7); link = links (Some link0_3) (Some link1_9) (Some link2_0) None; book = ids (Some history0_1) (Some history1_0) None }

abbrev pub link2_1 : Link
link2_1 = record { caller = Client true; to = Some 1; serving = true; streams = false; ask = record { left = 11 ∷ []; taken = 0 }; tell = record { left = []; taken = 0 }; transaction = None }

abbrev pub moment_28 : World tiny
moment_28 = record { node = nodes (Some node0_1) (Some node1_7); link = links (Some link0_3) (Some link1_9) (Some link2_1) None; book = ids (Some history0_1) (Some history1_0) None }

abbrev pub link2_2 : Link
link2_2 = record { caller = Client true; to = Some 1; serving = true; streams = false; ask = record { left = 11 ∷ []; taken = 1 }; tell = record { left = []; taken = 0 }; transaction = None }

abbrev pub moment_29 : World tiny
moment_29 = record { node = nodes (Some node0_1) (Some node1_7); link = links (Some link0_3) (Some link1_9) (Some link2_2) None; book = ids (Some history0_1) (Some history1_0) None }

abbrev pub node1_8 : Node tiny
node1_8 = record { up = true; master = true; id = 2; offset = 2; second = Some (0, 3); backlog = 1 ∷ 7 ∷ []; held = 7 ∷ []; offers = true; follow = None; upstream = []; starts_as_master = false }

abbrev pub link2_3 : Link
link2_3 = record { caller = Client true; to = Some 1; serving = true; streams = false; ask = record { left = []; taken = 0 }; tell = record { left = 98 ∷ []; taken = 0 }; transaction = None }

abbrev pub history2_0 : History tiny
history2_0 = record { start = []; effects = 7 ∷ [] }

abbrev pub moment_30 : World tiny
moment_30 = record { node = nodes (Some node0_1) (Some node1_8); link = links (Some link0_3) (Some link1_9) (Some link2_3) None; book = ids (Some history0_1) (Some history1_0) (Some history2_0) }

abbrev pub link2_4 : Link
link2_4 = record { caller = Client true; to = Some 1; serving = true; streams = false; ask = record { left = 10 ∷ []; taken = 0 }; tell = record { left = 98 ∷ []; taken = 0 }; transaction = None }

abbrev pub moment_31 : World tiny
moment_31 = record { node = nodes (Some node0_1) (Some node1_8); link = links (Some link0_3) (Some link1_9) (Some link2_4) None; book = ids (Some history0_1) (Some history1_0) (Some history2_0) }

abbrev pub link2_5 : Link
link2_5 = record { caller = Client true; to = Some 1; serving = true; streams = false; ask = record { left = 10 ∷ []; taken = 1 }; tell = record { left = 98 ∷ []; taken = 0 }; transaction = None }

abbrev pub moment_32 : World tiny
moment_32 = record { node = nodes (Some node0_1) (Some node1_8); link = links (Some link0_3) (Some link1_9) (Some link2_5) None; book = ids (Some history0_1) (Some history1_0) (Some history2_0) }

abbrev pub link2_6 : Link
link2_6 = record { caller = Client true; to = Some 1; serving = true; streams = false; ask = record { left = []; taken = 0 }; tell = record { left = 98 ∷ 99 ∷ []; taken = 0 }; transaction = None }

abbrev pub node1_9 : Node tiny
node1_9 = record { up = true; master = true; id = 2; offset = 4; second = Some (0, 3); backlog = 1 ∷ 7 ∷ 1 ∷ 8 ∷ []; held = 8 ∷ 7 ∷ []; offers = true; follow = None; upstream = []; starts_as_master = false }

abbrev pub history2_1 : History tiny
history2_1 = record { start = []; effects = 7 ∷ 8 ∷ [] }

abbrev pub moment_33 : World tiny
moment_33 = record { node = nodes (Some node0_1) (Some node1_9); link = links (Some link0_3) (Some link1_9) (Some link2_6) None; book = ids (Some history0_1) (Some history1_0) (Some history2_1) }

abbrev pub link0_4 : Link
link0_4 = record { caller = Client true; to = Some 0; serving = true; streams = false; ask = record { left = 13 ∷ 1 ∷ 5 ∷ []; taken = 0 }; tell = record { left = 99 ∷ []; taken = 0 }; transaction = None }

abbrev pub moment_34 : World tiny
moment_34 = record { node = nodes (Some node0_1) (Some node1_9); link = links (Some link0_4) (Some link1_9) (Some link2_6) None; book = ids (Some history0_1) (Some history1_0) (Some history2_1) }

abbrev pub link0_5 : Link
link0_5 = record { caller = Client true; to = Some 0; serving = true; streams = false; ask = record { left = 13 ∷ 1 ∷ 5 ∷ []; taken = 3 }; tell = record { left = 99 ∷ []; taken = 0 }; transaction = None }

abbrev pub moment_35 : World tiny
moment_35 = record { node = nodes (Some node0_1) (Some node1_9); link = links (Some link0_5) (Some link1_9) (Some link2_6) None; book = ids (Some history0_1) (Some history1_0) (Some history2_1) }

abbrev pub link0_6 : Link
link0_6 = record { caller = Client true; to = Some 0; serving = true; streams = false; ask = record { left = []; taken = 0 }; tell = record { left = 99 ∷ 97 ∷ []; taken = 0 }; transaction = None }

abbrev pub link1_12 : Link
link1_12 = record { caller = Peer 1; to = Some 0; serving = false; streams = true; ask = record { left = []; taken = 0 }; tell = record { left = []; taken = 0 }; transaction = None }

abbrev pub node0_2 : Node tiny
node0_2 = record { up = true; master = false; id = 0; offset = 2; second = None; backlog = 1 ∷ 7 ∷ []; held = 7 ∷ []; offers = true; follow = None; upstream = 5 ∷ []; starts_as_master = true }

abbrev pub moment_36 : World tiny
moment_36 = record { node = nodes (Some node0_2) (Some node1_9); link = links (Some link0_6) (Some link1_12) (Some link2_6) None; book = ids (Some history0_1) (Some history1_0) (Some history2_1) }

abbrev pub node0_3 : Node tiny
node0_3 = record { up = true; master = false; id = 0; offset = 2; second = None; backlog = 1 ∷ 7 ∷ []; held = 7 ∷ []; offers = true; follow = Some (record { link = 3; phase = Greet 0 }); upstream = 5 ∷ []; starts_as_master = true }

abbrev pub link3_0 : Link
link3_0 = record { caller = Peer 0; to = Some 1; serving = true; streams = false; ask = record { left = 6 ∷ []; taken = 0 }; tell = record { left = []; taken = 0 }; transaction = None }

abbrev pub moment_37 : World tiny
moment_37 = record { node = nodes (Some node0_3) (Some node1_9); link = links (Some link0_6) (Some link1_12) (Some link2_6) (Some link3_0); book = ids (Some history0_1) (Some history1_0) (Some history2_1) }

abbrev pub link3_1 : Link
link3_1 = record { caller = Peer 0; to = Some 1; serving = true; streams = false; ask = record { left = 6 ∷ []; taken = 1 }; tell = record { left = []; taken = 0 }; transaction = None }

abbrev pub moment_38 : World tiny
moment_38 = record { node = nodes (Some node0_3) (Some node1_9); link = links (Some link0_6) (Some link1_12) (Some link2_6) (Some link3_1); book = ids (Some history0_1) (Some history1_0) (Some history2_1) }

abbrev pub link3_2 : Link
link3_2 = record { caller = Peer 0; to = Some 1; serving = true; streams = false; ask = record { left = []; taken = 0 }; tell = record { left = 4 ∷ []; taken = 0 }; transaction = None }

abbrev pub moment_39 : World tiny
moment_39 = record { node = nodes (Some node0_3) (Some node1_9); link = links (Some link0_6) (Some link1_12) (Some link2_6) (Some link3_2); book = ids (Some history0_1) (Some history1_0) (Some history2_1) }

abbrev pub link3_3 : Link
link3_3 = record { caller = Peer 0; to = Some 1; serving = true; streams = false; ask = record { left = []; taken = 0 }; tell = record { left = 4 ∷ []; taken = 1 }; transaction = None }

abbrev pub moment_40 : World tiny
moment_40 = record { node = nodes (Some node0_3) (Some node1_9); link = links (Some link0_6) (Some link1_12) (Some link2_6) (Some link3_3); book = ids (Some history0_1) (Some history1_0) (Some history2_1) }

abbrev pub node0_4 : Node tiny
node0_4 = record { up = true; master = false; id = 0; offset = 2; second = None; backlog = 1 ∷ 7 ∷ []; held = 7 ∷ []; offers = true; follow = Some (record { link = 3; phase = Greet 1 }); upstream = 5 ∷ []; starts_as_master = true }

abbrev pub moment_41 : World tiny
moment_41 = record { node = nodes (Some node0_4) (Some node1_9); link = links (Some link0_6) (Some link1_12) (Some link2_6) (Some link3_0); book = ids (Some history0_1) (Some history1_0) (Some history2_1) }

abbrev pub moment_42 : World tiny
moment_42 = record { node = nodes (Some node0_4) (Some node1_9); link = links (Some link0_6) (Some link1_12) (Some link2_6) (Some link3_1); book = ids (Some history0_1) (Some history1_0) (Some history2_1) }

abbrev pub moment_43 : World tiny
moment_43 = record { node = nodes (Some node0_4) (Some node1_9); link = links (Some link0_6) (Some link1_12) (Some link2_6) (Some link3_2); book = ids (Some history0_1) (Some history1_0) (Some history2_1) }

abbrev pub moment_44 : World tiny
moment_44 = record { node = nodes (Some node0_4) (Some node1_9); link = links (Some link0_6) (Some link1_12) (Some link2_6) (Some link3_3); book = ids (Some history0_1) (Some history1_0) (Some history2_1) }

abbrev pub node0_5 : Node tiny
node0_5 = record { up = true; master = false; id = 0; offset = 2; second = None; backlog = 1 ∷ 7 ∷ []; held = 7 ∷ []; offers = true; follow = Some (record { link = 3; phase = Greet 2 }); upstream = 5 ∷ []; starts_as_master = true }

abbrev pub moment_45 : World tiny
moment_45 = record { node = nodes (Some node0_5) (Some node1_9); link = links (Some link0_6) (Some link1_12) (Some link2_6) (Some link3_0); book = ids (Some history0_1) (Some history1_0) (Some history2_1) }

abbrev pub moment_46 : World tiny
moment_46 = record { node = nodes (Some node0_5) (Some node1_9); link = links (Some link0_6) (Some link1_12) (Some link2_6) (Some link3_1); book = ids (Some history0_1) (Some history1_0) (Some history2_1) }

abbrev pub moment_47 : World tiny
moment_47 = record { node = nodes (Some node0_5) (Some node1_9); link = links (Some link0_6) (Some link1_12) (Some link2_6) (Some link3_2); book = ids (Some history0_1) (Some history1_0) (Some history2_1) }

abbrev pub moment_48 : World tiny
moment_48 = record { node = nodes (Some node0_5) (Some node1_9); link = links (Some link0_6) (Some link1_12) (Some link2_6) (Some link3_3); book = ids (Some history0_1) (Some history1_0) (Some history2_1) }

abbrev pub node0_6 : Node tiny
node0_6 = record { up = true; master = false; id = 0; offset = 2; second = None; backlog = 1 ∷ 7 ∷ []; held = 7 ∷ []; offers = true; follow = Some (record { link = 3; phase = Asked }); upstream = 5 ∷ []; starts_as_master = true }

abbrev pub link3_4 : Link
link3_4 = record { caller = Peer 0; to = Some 1; serving = true; streams = false; ask = record { left = 7 ∷ 1 ∷ 0 ∷ 3 ∷ []; taken = 0 }; tell = record { left = []; taken = 0 }; transaction = None }

abbrev pub moment_49 : World tiny
moment_49 = record { node = nodes (Some node0_6) (Some node1_9); link = links (Some link0_6) (Some link1_12) (Some link2_6) (Some link3_4); book = ids (Some history0_1) (Some history1_0) (Some history2_1) }

abbrev pub link3_5 : Link
link3_5 = record { caller = Peer 0; to = Some 1; serving = true; streams = false; ask = record { left = 7 ∷ 1 ∷ 0 ∷ 3 ∷ []; taken = 4 }; tell = record { left = []; taken = 0 }; transaction = None }

abbrev pub moment_50 : World tiny
moment_50 = record { node = nodes (Some node0_6) (Some node1_9); link = links (Some link0_6) (Some link1_12) (Some link2_6) (Some link3_5); book = ids (Some history0_1) (Some history1_0) (Some history2_1) }

abbrev pub link3_6 : Link
link3_6 = record { caller = Peer 0; to = Some 1; serving = true; streams = true; ask = record { left = []; taken = 0 }; tell = record { left = 3 ∷ 2 ∷ 1 ∷ 8 ∷ []; taken = 0 }; transaction = None }

abbrev pub moment_51 : World tiny
moment_51 = record { node = nodes (Some node0_6) (Some node1_9); link = links (Some link0_6) (Some link1_12) (Some link2_6) (Some link3_6); book = ids (Some history0_1) (Some history1_0) (Some history2_1) }

abbrev pub link3_7 : Link
link3_7 = record { caller = Peer 0; to = Some 1; serving = true; streams = true; ask = record { left = []; taken = 0 }; tell = record { left = 3 ∷ 2 ∷ 1 ∷ 8 ∷ []; taken = 4 }; transaction = None }

abbrev pub moment_52 : World tiny
moment_52 = record { node = nodes (Some node0_6) (Some node1_9); link = links (Some link0_6) (Some link1_12) (Some link2_6) (Some link3_7); book = ids (Some history0_1) (Some history1_0) (Some history2_1) }

abbrev pub node0_7 : Node tiny
node0_7 = record { up = true; master = false; id = 2; offset = 2; second = Some (0, 3); backlog = 1 ∷ 7 ∷ []; held = 7 ∷ []; offers = true; follow = Some (record { link = 3; phase = Stream }); upstream = 5 ∷ []; starts_as_master = true }

abbrev pub link3_8 : Link
link3_8 = record { caller = Peer 0; to = Some 1; serving = true; streams = true; ask = record { left = []; taken = 0 }; tell = record { left = 1 ∷ 8 ∷ []; taken = 2 }; transaction = None }

abbrev pub moment_53 : World tiny
moment_53 = record { node = nodes (Some node0_7) (Some node1_9); link = links (Some link0_6) (Some link1_12) (Some link2_6) (Some link3_8); book = ids (Some history0_1) (Some history1_0) (Some history2_1) }

abbrev pub node0_8 : Node tiny
node0_8 = record { up = true; master = false; id = 2; offset = 4; second = Some (0, 3); backlog = 1 ∷ 7 ∷ 1 ∷ 8 ∷ []; held = 8 ∷ 7 ∷ []; offers = true; follow = Some (record { link = 3; phase = Stream }); upstream = 5 ∷ []; starts_as_master = true }

abbrev pub link3_9 : Link
link3_9 = record { caller = Peer 0; to = Some 1; serving = true; streams = true; ask = record { left = []; taken = 0 }; tell = record { left = []; taken = 0 }; transaction = None }

abbrev pub moment_54 : World tiny
moment_54 = record { node = nodes (Some node0_8) (Some node1_9); link = links (Some link0_6) (Some link1_12) (Some link2_6) (Some link3_9); book = ids (Some history0_1) (Some history1_0) (Some history2_1) }

abbrev pub events : List (Event tiny)
events =
    Event.Start 0 true
    ∷ Event.Start 1 false
    ∷ Event.Client 0
    ∷ Event.Dial 1 0
    ∷ Event.Deliver 1 Server 1
    ∷ Event.Step 1 Server tt 2
    ∷ Event.Deliver 1 Dialler 1
    ∷ Event.Step 1 Dialler tt 2
    ∷ Event.Deliver 1 Server 1
    ∷ Event.Step 1 Server tt 2
    ∷ Event.Deliver 1 Dialler 1
    ∷ Event.Step 1 Dialler tt 2
    ∷ Event.Deliver 1 Server 1
    ∷ Event.Step 1 Server tt 2
    ∷ Event.Deliver 1 Dialler 1
    ∷ Event.Step 1 Dialler tt 2
    ∷ Event.Deliver 1 Server 2
    ∷ Event.Step 1 Server tt 2
    ∷ Event.Deliver 1 Dialler 5
    ∷ Event.Step 1 Dialler tt 2
    ∷ Event.Step 1 Dialler tt 2
    ∷ Event.Command 0 (10 ∷ [])
    ∷ Event.Deliver 0 Server 1
    ∷ Event.Step 0 Server tt 2
    ∷ Event.Deliver 1 Dialler 2
    ∷ Event.Step 1 Dialler tt 2
    ∷ Event.Client 1
    ∷ Event.Command 2 (11 ∷ [])
    ∷ Event.Deliver 2 Server 1
    ∷ Event.Step 2 Server tt 2
    ∷ Event.Command 2 (10 ∷ [])
    ∷ Event.Deliver 2 Server 1
    ∷ Event.Step 2 Server tt 2
    ∷ Event.Command 0 (13 ∷ 1 ∷ 5 ∷ [])
    ∷ Event.Deliver 0 Server 3
    ∷ Event.Step 0 Server tt 2
    ∷ Event.Dial 0 1
    ∷ Event.Deliver 3 Server 1
    ∷ Event.Step 3 Server tt 2
    ∷ Event.Deliver 3 Dialler 1
    ∷ Event.Step 3 Dialler tt 2
    ∷ Event.Deliver 3 Server 1
    ∷ Event.Step 3 Server tt 2
    ∷ Event.Deliver 3 Dialler 1
    ∷ Event.Step 3 Dialler tt 2
    ∷ Event.Deliver 3 Server 1
    ∷ Event.Step 3 Server tt 2
    ∷ Event.Deliver 3 Dialler 1
    ∷ Event.Step 3 Dialler tt 2
    ∷ Event.Deliver 3 Server 4
    ∷ Event.Step 3 Server tt 2
    ∷ Event.Deliver 3 Dialler 4
    ∷ Event.Step 3 Dialler tt 2
    ∷ Event.Step 3 Dialler tt 2 ∷ []

abbrev pub moments : List (World tiny)
moments = moment_1 ∷ moment_2 ∷ moment_3 ∷ moment_4 ∷ moment_5 ∷ moment_6 ∷ moment_7 ∷ moment_8 ∷ moment_9 ∷ moment_10 ∷ moment_11 ∷ moment_12 ∷ moment_13 ∷ moment_14 ∷ moment_15 ∷ moment_16 ∷ moment_17 ∷ moment_18 ∷ moment_19 ∷ moment_20 ∷ moment_21 ∷ moment_22 ∷ moment_23 ∷ moment_24 ∷ moment_25 ∷ moment_26 ∷ moment_27 ∷ moment_28 ∷ moment_29 ∷ moment_30 ∷ moment_31 ∷ moment_32 ∷ moment_33 ∷ moment_34 ∷ moment_35 ∷ moment_36 ∷ moment_37 ∷ moment_38 ∷ moment_39 ∷ moment_40 ∷ moment_41 ∷ moment_42 ∷ moment_43 ∷ moment_44 ∷ moment_45 ∷ moment_46 ∷ moment_47 ∷ moment_48 ∷ moment_49 ∷ moment_50 ∷ moment_51 ∷ moment_52 ∷ moment_53 ∷ moment_54 ∷ []

-- at its end the old master has caught up with the new one
abbrev pub EndsLevel : Type 0
EndsLevel = CaughtUp moment_54 3 node0_8 node1_9
