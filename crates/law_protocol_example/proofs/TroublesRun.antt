-- Each moment of the run in which much goes wrong follows by its row.
use Rattle.std.proofs.Common.{ℕ, [], ◌∷◌, ◌≢◌, List, None, true, false, refl, inl, inr, ◌≤◌, ◌<◌, arith}
use Rattle.std.proofs.lemmas.List.Elements.{All-nil, All-cons}
use Rattle.law_protocol.specs.Language.{Request}
use Rattle.law_protocol.specs.Language.Line.{Plain, Refusal}
use Rattle.law_protocol.specs.Language.Request.{Handshake, Psync, Ack, Command, ReplicaOfNoOne, ReplicaOf, Empty, Quit}
use Rattle.law_protocol.specs.Node.Phase.{Greet, Asked, Loading, Stream}
use Rattle.law_protocol.specs.World.{is_to, dropped, hears, shut, told_if}
use Rattle.law_protocol.specs.Changing.{Unless}
use Rattle.law_protocol.specs.ServerRows.{ServerRow, Unwanted}
use Rattle.law_protocol.specs.FollowerRows.{BadAnswer, Leaves, FollowerRow}
use Rattle.law_protocol.specs.Rows.{Opens, Dials, Ticks, Row}
use Rattle.law_protocol.specs.Runs.{nowhere, Moments}
use Rattle.law_protocol.specs.Event.{Event}
use Rattle.law_protocol.specs.Event.Side.{Server, Dialler}
use Rattle.law_protocol.proofs.Keeping.{none_some}
use Rattle.law_protocol_example.specs.Tiny.{tiny, Said}
use Rattle.law_protocol_example.specs.Troubles.{events, moments, EndsAnew, nodes_0, links_0, book_0, node0_0, nodes_1, history0_0, book_1, node1_0, nodes_2, history1_0, book_2, node2_0, nodes_3, history2_0, book_3, link0_0, links_1, node1_1, nodes_4, link1_0, links_2, link1_1, links_3, link1_2, links_4, link1_3, links_5, node1_2, nodes_5, node1_3, nodes_6, node1_4, nodes_7, link1_4, links_6, link1_5, links_7, link1_6, links_8, link1_7, links_9, node1_5, nodes_8, link1_8, links_10, node1_6, nodes_9, link1_9, links_11, node0_1, nodes_10, link1_10, links_12, history0_1, book_4, link1_11, links_13, node1_7, nodes_11, link1_12, links_14, link1_13, links_15, link0_1, links_16, link0_2, links_17, link0_3, links_18, link0_4, links_19, link0_5, links_20, link0_6, links_21, link0_7, links_22, link2_0, links_23, link2_1, links_24, link2_2, links_25, link2_3, links_26, node2_1, nodes_12, link3_0, links_27, link3_1, links_28, link3_2, links_29, link3_3, links_30, node2_2, nodes_13, node2_3, nodes_14, node2_4, nodes_15, link3_4, links_31, link3_5, links_32, link3_6, links_33, link3_7, links_34, link4_0, links_35, link4_1, links_36, link4_2, links_37, node2_5, nodes_16, link4_3, links_38, link4_4, links_39, link4_5, links_40, node2_6, nodes_17, link4_6, links_41, history3_0, book_5, link5_0, links_42, link5_1, links_43, link5_2, links_44, link5_3, links_45, link5_4, links_46, link5_5, links_47, link5_6, links_48, link1_14, links_49, node1_8, nodes_18, link0_8, links_50, link6_0, links_51, link6_1, links_52, link6_2, links_53, node0_2, nodes_19, node2_7, nodes_20, node0_3, history4_0, moment_1, moment_2, moment_3, moment_4, moment_5, moment_6, moment_7, moment_8, moment_9, moment_10, moment_11, moment_12, moment_13, moment_14, moment_15, moment_16, moment_17, moment_18, moment_19, moment_20, moment_21, moment_22, moment_23, moment_24, moment_25, moment_26, moment_27, moment_28, moment_29, moment_30, moment_31, moment_32, moment_33, moment_34, moment_35, moment_36, moment_37, moment_38, moment_39, moment_40, moment_41, moment_42, moment_43, moment_44, moment_45, moment_46, moment_47, moment_48, moment_49, moment_50, moment_51, moment_52, moment_53, moment_54, moment_55, moment_56, moment_57, moment_58, moment_59, moment_60, moment_61, moment_62, moment_63, moment_64, moment_65, moment_66, moment_67, moment_68, moment_69, moment_70, moment_71, moment_72, moment_73, moment_74, moment_75, moment_76, moment_77, moment_78, moment_79, moment_80, moment_81}
use Rattle.law_protocol_example.proofs.Looking.{added, changed, each_none, each_some}
use Rattle.law_protocol_example.proofs.StoryRun.{plain_is_no_refusal, nothing_asked}

command_is_no_ack : let command : Request ℕ = Command in let ack : Request ℕ = Ack in command ≢ ack
command_is_no_ack e = cc

command_is_some : let command : Request ℕ = Command in let empty : Request ℕ = Empty in command ≢ empty
command_is_some e = cc

nowhere_is_no_host : let nobody : List ℕ = [] in let host : List ℕ = 5 ∷ [] in nobody ≢ host
nowhere_is_no_host e = cc

step_1 : Row (nowhere tiny) (Event.Start 0 true) moment_1
step_1 = record { node = 0; new_node = refl; unnamed = λ l k e. none_some None k refl e; nodes = added nodes_0 node0_0; links = λ m. refl; book = record { new_id = refl; book = added book_0 history0_0 } }

step_2 : Row moment_1 (Event.Start 1 false) moment_2
step_2 = record { node = 1; new_node = refl; unnamed = λ l k e. none_some None k refl e; nodes = added nodes_1 node1_0; links = λ m. refl; book = record { new_id = refl; book = added book_1 history1_0 } }

step_3 : Row moment_2 (Event.Start 2 false) moment_3
step_3 = record { node = 2; new_node = refl; unnamed = λ l k e. none_some None k refl e; nodes = added nodes_2 node2_0; links = λ m. refl; book = record { new_id = refl; book = added book_2 history2_0 } }

step_4 : Row moment_3 (Event.Client 0) moment_4
step_4 = record { node = node0_0; found = refl; does = Unless.acts refl (Opens.opens 0 refl (record { nodes = λ m. refl; links = added links_0 link0_0; book = λ m. refl })) }

step_5 : Row moment_4 (Event.Dial 1 0) moment_5
step_5 = record { node = node1_0; found = refl; replica = refl; waiting = refl; server = node0_0; server_found = refl; does = Unless.acts refl (Unless.acts refl (Dials.connects (record { link = 1; new_link = refl; request = 6 ∷ []; asks = (Said.Asks Handshake, refl, refl); nodes = changed nodes_3 1 _ node1_1 refl; links = added links_1 link1_0; book = λ m. refl }))) }

step_6 : Row moment_5 (Event.Deliver 1 Server 1) moment_6
step_6 = record { at = record { link = link1_0; found = refl; n = 0; to = refl; serving = refl; node = node0_0; node_found = refl }; sent = let h : 1 ≤ 1 = omega arith in h; does = Unless.acts refl (record { nodes = λ m. refl; links = changed links_2 1 _ link1_1 refl; book = λ m. refl }) }

step_7 : Row moment_6 (Event.Step 1 Server tt 3) moment_7
step_7 = record { at = record { link = link1_1; found = refl; n = 0; to = refl; serving = refl; node = node0_0; node_found = refl }; does = Unless.acts refl (ServerRow.greets (record { client = refl; uses = record { text = 6 ∷ []; asks = (Said.Asks Handshake, refl, refl); left = record { left = []; taken = 0 }; reads = record { rest = []; begins = refl; new_is = refl } }; reply = 4 ∷ []; plain = refl; becomes = record { nodes = λ m. refl; links = changed links_3 1 _ link1_2 refl; book = λ m. refl } })) }

step_8 : Row moment_7 (Event.Deliver 1 Dialler 1) moment_8
step_8 = inl (record { at = record { link = link1_2; found = refl; n = 1; node = node1_1; node_found = refl; phase = Greet 0; follow = refl }; sent = let h : 1 ≤ 1 = omega arith in h; does = Unless.acts refl (record { nodes = λ m. refl; links = changed links_4 1 _ link1_3 refl; book = λ m. refl }) })

step_9 : Row moment_8 (Event.Step 1 Dialler tt 3) moment_9
step_9 = record { at = record { link = link1_3; found = refl; n = 1; node = node1_1; node_found = refl; phase = Greet 0; follow = refl }; does = Unless.acts refl (FollowerRow.hears_reply (record { number = 0; phase = refl; not_last = omega arith; line = Plain; plus = plain_is_no_refusal; hears = record { text = 4 ∷ []; says = refl; left = record { left = []; taken = 0 }; reads = record { rest = []; begins = refl; new_is = refl } }; request = 6 ∷ []; asks = (Said.Asks Handshake, refl, refl); becomes = record { nodes = changed nodes_4 1 _ node1_2 refl; links = changed links_5 1 _ link1_0 refl; book = λ m. refl } })) }

step_10 : Row moment_9 (Event.Deliver 1 Server 1) moment_10
step_10 = record { at = record { link = link1_0; found = refl; n = 0; to = refl; serving = refl; node = node0_0; node_found = refl }; sent = let h : 1 ≤ 1 = omega arith in h; does = Unless.acts refl (record { nodes = λ m. refl; links = changed links_2 1 _ link1_1 refl; book = λ m. refl }) }

step_11 : Row moment_10 (Event.Step 1 Server tt 3) moment_11
step_11 = record { at = record { link = link1_1; found = refl; n = 0; to = refl; serving = refl; node = node0_0; node_found = refl }; does = Unless.acts refl (ServerRow.greets (record { client = refl; uses = record { text = 6 ∷ []; asks = (Said.Asks Handshake, refl, refl); left = record { left = []; taken = 0 }; reads = record { rest = []; begins = refl; new_is = refl } }; reply = 4 ∷ []; plain = refl; becomes = record { nodes = λ m. refl; links = changed links_3 1 _ link1_2 refl; book = λ m. refl } })) }

step_12 : Row moment_11 (Event.Deliver 1 Dialler 1) moment_12
step_12 = inl (record { at = record { link = link1_2; found = refl; n = 1; node = node1_2; node_found = refl; phase = Greet 1; follow = refl }; sent = let h : 1 ≤ 1 = omega arith in h; does = Unless.acts refl (record { nodes = λ m. refl; links = changed links_4 1 _ link1_3 refl; book = λ m. refl }) })

step_13 : Row moment_12 (Event.Step 1 Dialler tt 3) moment_13
step_13 = record { at = record { link = link1_3; found = refl; n = 1; node = node1_2; node_found = refl; phase = Greet 1; follow = refl }; does = Unless.acts refl (FollowerRow.hears_reply (record { number = 1; phase = refl; not_last = omega arith; line = Plain; plus = plain_is_no_refusal; hears = record { text = 4 ∷ []; says = refl; left = record { left = []; taken = 0 }; reads = record { rest = []; begins = refl; new_is = refl } }; request = 6 ∷ []; asks = (Said.Asks Handshake, refl, refl); becomes = record { nodes = changed nodes_5 1 _ node1_3 refl; links = changed links_5 1 _ link1_0 refl; book = λ m. refl } })) }

step_14 : Row moment_13 (Event.Deliver 1 Server 1) moment_14
step_14 = record { at = record { link = link1_0; found = refl; n = 0; to = refl; serving = refl; node = node0_0; node_found = refl }; sent = let h : 1 ≤ 1 = omega arith in h; does = Unless.acts refl (record { nodes = λ m. refl; links = changed links_2 1 _ link1_1 refl; book = λ m. refl }) }

step_15 : Row moment_14 (Event.Step 1 Server tt 3) moment_15
step_15 = record { at = record { link = link1_1; found = refl; n = 0; to = refl; serving = refl; node = node0_0; node_found = refl }; does = Unless.acts refl (ServerRow.greets (record { client = refl; uses = record { text = 6 ∷ []; asks = (Said.Asks Handshake, refl, refl); left = record { left = []; taken = 0 }; reads = record { rest = []; begins = refl; new_is = refl } }; reply = 4 ∷ []; plain = refl; becomes = record { nodes = λ m. refl; links = changed links_3 1 _ link1_2 refl; book = λ m. refl } })) }

step_16 : Row moment_15 (Event.Deliver 1 Dialler 1) moment_16
step_16 = inl (record { at = record { link = link1_2; found = refl; n = 1; node = node1_3; node_found = refl; phase = Greet 2; follow = refl }; sent = let h : 1 ≤ 1 = omega arith in h; does = Unless.acts refl (record { nodes = λ m. refl; links = changed links_4 1 _ link1_3 refl; book = λ m. refl }) })

step_17 : Row moment_16 (Event.Step 1 Dialler tt 3) moment_17
step_17 = record { at = record { link = link1_3; found = refl; n = 1; node = node1_3; node_found = refl; phase = Greet 2; follow = refl }; does = Unless.acts refl (FollowerRow.hears_last_reply (record { phase = refl; line = Plain; plus = plain_is_no_refusal; hears = record { text = 4 ∷ []; says = refl; left = record { left = []; taken = 0 }; reads = record { rest = []; begins = refl; new_is = refl } }; request = 7 ∷ 0 ∷ []; asks = (Said.Asks (Psync None), refl, refl); becomes = record { nodes = changed nodes_6 1 _ node1_4 refl; links = changed links_5 1 _ link1_4 refl; book = λ m. refl } })) }

step_18 : Row moment_17 (Event.Deliver 1 Server 2) moment_18
step_18 = record { at = record { link = link1_4; found = refl; n = 0; to = refl; serving = refl; node = node0_0; node_found = refl }; sent = let h : 2 ≤ 2 = omega arith in h; does = Unless.acts refl (record { nodes = λ m. refl; links = changed links_6 1 _ link1_5 refl; book = λ m. refl }) }

step_19 : Row moment_18 (Event.Step 1 Server tt 3) moment_19
step_19 = record { at = record { link = link1_5; found = refl; n = 0; to = refl; serving = refl; node = node0_0; node_found = refl }; does = Unless.acts refl (ServerRow.resynchronizes (record { client = refl; master = refl; query = None; uses = record { text = 7 ∷ 0 ∷ []; asks = (Said.Asks (Psync None), refl, refl); left = record { left = []; taken = 0 }; reads = record { rest = []; begins = refl; new_is = refl } }; apart = nothing_asked _; line = 2 ∷ 0 ∷ 0 ∷ []; says = refl; snapshot = 12 ∷ 0 ∷ []; loads = refl; becomes = record { nodes = λ m. refl; links = changed links_7 1 _ link1_6 refl; book = λ m. refl } })) }

step_20 : Row moment_19 (Event.Deliver 1 Dialler 5) moment_20
step_20 = inl (record { at = record { link = link1_6; found = refl; n = 1; node = node1_4; node_found = refl; phase = Asked; follow = refl }; sent = let h : 5 ≤ 5 = omega arith in h; does = Unless.acts refl (record { nodes = λ m. refl; links = changed links_8 1 _ link1_7 refl; book = λ m. refl }) })

step_21 : Row moment_20 (Event.Step 1 Dialler tt 3) moment_21
step_21 = record { at = record { link = link1_7; found = refl; n = 1; node = node1_4; node_found = refl; phase = Asked; follow = refl }; does = Unless.acts refl (FollowerRow.hears_full_resync (record { phase = refl; id = 0; offset = 0; hears = record { text = 2 ∷ 0 ∷ 0 ∷ []; says = refl; left = record { left = 12 ∷ 0 ∷ []; taken = 2 }; reads = record { rest = 12 ∷ 0 ∷ []; begins = refl; new_is = refl } }; becomes = record { nodes = changed nodes_7 1 _ node1_5 refl; links = changed links_9 1 _ link1_8 refl; book = λ m. refl } })) }

step_22 : Row moment_21 (Event.Step 1 Dialler tt 3) moment_22
step_22 = record { at = record { link = link1_8; found = refl; n = 1; node = node1_5; node_found = refl; phase = (Loading 0 0); follow = refl }; does = Unless.acts refl (FollowerRow.loads (record { id = 0; offset = 0; phase = refl; text = 12 ∷ 0 ∷ []; held = []; loads = refl; left = record { left = []; taken = 0 }; reads = record { rest = []; begins = refl; new_is = refl }; becomes = record { nodes = changed nodes_8 1 _ node1_6 refl; links = changed links_10 1 _ link1_9 refl; book = λ m. refl } })) }

step_23 : Row moment_22 (Event.Tick 0 tt) moment_23
step_23 = record { node = node0_0; found = refl; does = Unless.acts refl (Ticks.beats (record { master = refl; effects = 7 ∷ []; due = tt; grown = record { good = All-cons tiny.IsGood 7 [] tt (All-nil tiny.IsGood); within = let h : 2 ≤ 6 = omega arith in h; held = 7 ∷ []; folds = refl; backlog = 1 ∷ 7 ∷ []; last_bytes = ([], refl); nodes = changed nodes_9 0 _ node0_1 refl; book = record { history = history0_0; found = refl; book = changed book_3 0 _ history0_1 refl } }; no_links = each_none (λ x. told_if (hears 0 x) x (1 ∷ 7 ∷ [])) links_11; links = each_some (λ x. told_if (hears 0 x) x (1 ∷ 7 ∷ [])) links_11 })) }

step_24 : Row moment_23 (Event.Deliver 1 Dialler 2) moment_24
step_24 = inl (record { at = record { link = link1_10; found = refl; n = 1; node = node1_6; node_found = refl; phase = Stream; follow = refl }; sent = let h : 2 ≤ 2 = omega arith in h; does = Unless.acts refl (record { nodes = λ m. refl; links = changed links_12 1 _ link1_11 refl; book = λ m. refl }) })

step_25 : Row moment_24 (Event.Step 1 Dialler tt 3) moment_25
step_25 = record { at = record { link = link1_11; found = refl; n = 1; node = node1_6; node_found = refl; phase = Stream; follow = refl }; does = Unless.acts refl (FollowerRow.applies (record { phase = refl; effect = 7; good = tt; left = record { left = []; taken = 0 }; reads = record { rest = []; begins = refl; new_is = refl }; held = 7 ∷ []; applies = refl; within = let h : 2 ≤ 6 = omega arith in h; backlog = 1 ∷ 7 ∷ []; last_bytes = ([], refl); becomes = record { nodes = changed nodes_10 1 _ node1_7 refl; links = changed links_13 1 _ link1_9 refl; book = λ m. refl } })) }

step_26 : Row moment_25 (Event.Tick 1 tt) moment_26
step_26 = record { node = node1_7; found = refl; does = Unless.acts refl (Ticks.acknowledges (record { replica = refl; l = 1; follow = refl; link = link1_9; found = refl; bytes = 9 ∷ []; becomes = record { nodes = λ m. refl; links = changed links_11 1 _ link1_12 refl; book = λ m. refl } })) }

step_27 : Row moment_26 (Event.Deliver 1 Server 1) moment_27
step_27 = record { at = record { link = link1_12; found = refl; n = 0; to = refl; serving = refl; node = node0_1; node_found = refl }; sent = let h : 1 ≤ 1 = omega arith in h; does = Unless.acts refl (record { nodes = λ m. refl; links = changed links_14 1 _ link1_13 refl; book = λ m. refl }) }

step_28 : Row moment_27 (Event.Step 1 Server tt 3) moment_28
step_28 = record { at = record { link = link1_13; found = refl; n = 0; to = refl; serving = refl; node = node0_1; node_found = refl }; does = Unless.acts refl (ServerRow.notes (record { streams = refl; uses = record { text = 9 ∷ []; asks = (Said.Asks Ack, refl, refl); left = record { left = []; taken = 0 }; reads = record { rest = []; begins = refl; new_is = refl } }; becomes = record { nodes = λ m. refl; links = changed links_15 1 _ link1_9 refl; book = λ m. refl } })) }

step_29 : Row moment_28 (Event.Command 0 (14 ∷ 10 ∷ [])) moment_29
step_29 = record { link = link0_0; found = refl; client = refl; becomes = record { nodes = λ m. refl; links = changed links_11 0 _ link0_1 refl; book = λ m. refl } }

step_30 : Row moment_29 (Event.Deliver 0 Server 2) moment_30
step_30 = record { at = record { link = link0_1; found = refl; n = 0; to = refl; serving = refl; node = node0_1; node_found = refl }; sent = let h : 2 ≤ 2 = omega arith in h; does = Unless.acts refl (record { nodes = λ m. refl; links = changed links_16 0 _ link0_2 refl; book = λ m. refl }) }

step_31 : Row moment_30 (Event.Step 0 Server tt 3) moment_31
step_31 = record { at = record { link = link0_2; found = refl; n = 0; to = refl; serving = refl; node = node0_1; node_found = refl }; does = Unless.acts refl (ServerRow.skips (record { uses = record { text = 14 ∷ []; asks = (Said.Asks Empty, refl, refl); left = record { left = 10 ∷ []; taken = 1 }; reads = record { rest = 10 ∷ []; begins = refl; new_is = refl } }; becomes = record { nodes = λ m. refl; links = changed links_17 0 _ link0_3 refl; book = λ m. refl } })) }

step_32 : Row moment_31 (Event.Step 0 Server tt 3) moment_32
step_32 = record { at = record { link = link0_3; found = refl; n = 0; to = refl; serving = refl; node = node0_1; node_found = refl }; does = Unless.acts refl (ServerRow.passes_limit (record { client = refl; master = refl; uses = record { text = 10 ∷ []; asks = (Said.Asks Command, refl, refl); left = record { left = []; taken = 0 }; reads = record { rest = []; begins = refl; new_is = refl } }; effects = 1 ∷ 2 ∷ 3 ∷ []; of_request = tt; transaction = None; leads = refl; beyond = let h : 6 < 8 = omega arith in h; reply = 96 ∷ []; becomes = record { nodes = λ m. refl; links = changed links_18 0 _ link0_4 refl; book = λ m. refl } })) }

step_33 : Row moment_32 (Event.Command 0 (0 ∷ [])) moment_33
step_33 = record { link = link0_4; found = refl; client = refl; becomes = record { nodes = λ m. refl; links = changed links_19 0 _ link0_5 refl; book = λ m. refl } }

step_34 : Row moment_33 (Event.Deliver 0 Server 1) moment_34
step_34 = record { at = record { link = link0_5; found = refl; n = 0; to = refl; serving = refl; node = node0_1; node_found = refl }; sent = let h : 1 ≤ 1 = omega arith in h; does = Unless.acts refl (record { nodes = λ m. refl; links = changed links_20 0 _ link0_6 refl; book = λ m. refl }) }

step_35 : Row moment_34 (Event.Step 0 Server tt 3) moment_35
step_35 = record { at = record { link = link0_6; found = refl; n = 0; to = refl; serving = refl; node = node0_1; node_found = refl }; does = Unless.acts refl (ServerRow.faults (record { client = refl; doomed = tt; reply = 95 ∷ []; becomes = record { nodes = λ m. refl; links = changed links_21 0 _ link0_7 refl; book = λ m. refl } })) }

step_36 : Row moment_35 (Event.Client 0) moment_36
step_36 = record { node = node0_1; found = refl; does = Unless.acts refl (Opens.opens 2 refl (record { nodes = λ m. refl; links = added links_22 link2_0; book = λ m. refl })) }

step_37 : Row moment_36 (Event.Command 2 (15 ∷ [])) moment_37
step_37 = record { link = link2_0; found = refl; client = refl; becomes = record { nodes = λ m. refl; links = changed links_23 2 _ link2_1 refl; book = λ m. refl } }

step_38 : Row moment_37 (Event.Deliver 2 Server 1) moment_38
step_38 = record { at = record { link = link2_1; found = refl; n = 0; to = refl; serving = refl; node = node0_1; node_found = refl }; sent = let h : 1 ≤ 1 = omega arith in h; does = Unless.acts refl (record { nodes = λ m. refl; links = changed links_24 2 _ link2_2 refl; book = λ m. refl }) }

step_39 : Row moment_38 (Event.Step 2 Server tt 3) moment_39
step_39 = record { at = record { link = link2_2; found = refl; n = 0; to = refl; serving = refl; node = node0_1; node_found = refl }; does = Unless.acts refl (ServerRow.quits (record { client = refl; uses = record { text = 15 ∷ []; asks = (Said.Asks Quit, refl, refl); left = record { left = []; taken = 0 }; reads = record { rest = []; begins = refl; new_is = refl } }; reply = 98 ∷ []; becomes = record { nodes = λ m. refl; links = changed links_25 2 _ link2_3 refl; book = λ m. refl } })) }

step_40 : Row moment_39 (Event.Dial 2 1) moment_40
step_40 = record { node = node2_0; found = refl; replica = refl; waiting = refl; server = node1_7; server_found = refl; does = Unless.acts refl (Unless.acts refl (Dials.connects (record { link = 3; new_link = refl; request = 6 ∷ []; asks = (Said.Asks Handshake, refl, refl); nodes = changed nodes_11 2 _ node2_1 refl; links = added links_26 link3_0; book = λ m. refl }))) }

step_41 : Row moment_40 (Event.Deliver 3 Server 1) moment_41
step_41 = record { at = record { link = link3_0; found = refl; n = 1; to = refl; serving = refl; node = node1_7; node_found = refl }; sent = let h : 1 ≤ 1 = omega arith in h; does = Unless.acts refl (record { nodes = λ m. refl; links = changed links_27 3 _ link3_1 refl; book = λ m. refl }) }

step_42 : Row moment_41 (Event.Step 3 Server tt 3) moment_42
step_42 = record { at = record { link = link3_1; found = refl; n = 1; to = refl; serving = refl; node = node1_7; node_found = refl }; does = Unless.acts refl (ServerRow.greets (record { client = refl; uses = record { text = 6 ∷ []; asks = (Said.Asks Handshake, refl, refl); left = record { left = []; taken = 0 }; reads = record { rest = []; begins = refl; new_is = refl } }; reply = 4 ∷ []; plain = refl; becomes = record { nodes = λ m. refl; links = changed links_28 3 _ link3_2 refl; book = λ m. refl } })) }

step_43 : Row moment_42 (Event.Deliver 3 Dialler 1) moment_43
step_43 = inl (record { at = record { link = link3_2; found = refl; n = 2; node = node2_1; node_found = refl; phase = Greet 0; follow = refl }; sent = let h : 1 ≤ 1 = omega arith in h; does = Unless.acts refl (record { nodes = λ m. refl; links = changed links_29 3 _ link3_3 refl; book = λ m. refl }) })

step_44 : Row moment_43 (Event.Step 3 Dialler tt 3) moment_44
step_44 = record { at = record { link = link3_3; found = refl; n = 2; node = node2_1; node_found = refl; phase = Greet 0; follow = refl }; does = Unless.acts refl (FollowerRow.hears_reply (record { number = 0; phase = refl; not_last = omega arith; line = Plain; plus = plain_is_no_refusal; hears = record { text = 4 ∷ []; says = refl; left = record { left = []; taken = 0 }; reads = record { rest = []; begins = refl; new_is = refl } }; request = 6 ∷ []; asks = (Said.Asks Handshake, refl, refl); becomes = record { nodes = changed nodes_12 2 _ node2_2 refl; links = changed links_30 3 _ link3_0 refl; book = λ m. refl } })) }

step_45 : Row moment_44 (Event.Deliver 3 Server 1) moment_45
step_45 = record { at = record { link = link3_0; found = refl; n = 1; to = refl; serving = refl; node = node1_7; node_found = refl }; sent = let h : 1 ≤ 1 = omega arith in h; does = Unless.acts refl (record { nodes = λ m. refl; links = changed links_27 3 _ link3_1 refl; book = λ m. refl }) }

step_46 : Row moment_45 (Event.Step 3 Server tt 3) moment_46
step_46 = record { at = record { link = link3_1; found = refl; n = 1; to = refl; serving = refl; node = node1_7; node_found = refl }; does = Unless.acts refl (ServerRow.greets (record { client = refl; uses = record { text = 6 ∷ []; asks = (Said.Asks Handshake, refl, refl); left = record { left = []; taken = 0 }; reads = record { rest = []; begins = refl; new_is = refl } }; reply = 4 ∷ []; plain = refl; becomes = record { nodes = λ m. refl; links = changed links_28 3 _ link3_2 refl; book = λ m. refl } })) }

step_47 : Row moment_46 (Event.Deliver 3 Dialler 1) moment_47
step_47 = inl (record { at = record { link = link3_2; found = refl; n = 2; node = node2_2; node_found = refl; phase = Greet 1; follow = refl }; sent = let h : 1 ≤ 1 = omega arith in h; does = Unless.acts refl (record { nodes = λ m. refl; links = changed links_29 3 _ link3_3 refl; book = λ m. refl }) })

step_48 : Row moment_47 (Event.Step 3 Dialler tt 3) moment_48
step_48 = record { at = record { link = link3_3; found = refl; n = 2; node = node2_2; node_found = refl; phase = Greet 1; follow = refl }; does = Unless.acts refl (FollowerRow.hears_reply (record { number = 1; phase = refl; not_last = omega arith; line = Plain; plus = plain_is_no_refusal; hears = record { text = 4 ∷ []; says = refl; left = record { left = []; taken = 0 }; reads = record { rest = []; begins = refl; new_is = refl } }; request = 6 ∷ []; asks = (Said.Asks Handshake, refl, refl); becomes = record { nodes = changed nodes_13 2 _ node2_3 refl; links = changed links_30 3 _ link3_0 refl; book = λ m. refl } })) }

step_49 : Row moment_48 (Event.Deliver 3 Server 1) moment_49
step_49 = record { at = record { link = link3_0; found = refl; n = 1; to = refl; serving = refl; node = node1_7; node_found = refl }; sent = let h : 1 ≤ 1 = omega arith in h; does = Unless.acts refl (record { nodes = λ m. refl; links = changed links_27 3 _ link3_1 refl; book = λ m. refl }) }

step_50 : Row moment_49 (Event.Step 3 Server tt 3) moment_50
step_50 = record { at = record { link = link3_1; found = refl; n = 1; to = refl; serving = refl; node = node1_7; node_found = refl }; does = Unless.acts refl (ServerRow.greets (record { client = refl; uses = record { text = 6 ∷ []; asks = (Said.Asks Handshake, refl, refl); left = record { left = []; taken = 0 }; reads = record { rest = []; begins = refl; new_is = refl } }; reply = 4 ∷ []; plain = refl; becomes = record { nodes = λ m. refl; links = changed links_28 3 _ link3_2 refl; book = λ m. refl } })) }

step_51 : Row moment_50 (Event.Deliver 3 Dialler 1) moment_51
step_51 = inl (record { at = record { link = link3_2; found = refl; n = 2; node = node2_3; node_found = refl; phase = Greet 2; follow = refl }; sent = let h : 1 ≤ 1 = omega arith in h; does = Unless.acts refl (record { nodes = λ m. refl; links = changed links_29 3 _ link3_3 refl; book = λ m. refl }) })

step_52 : Row moment_51 (Event.Step 3 Dialler tt 3) moment_52
step_52 = record { at = record { link = link3_3; found = refl; n = 2; node = node2_3; node_found = refl; phase = Greet 2; follow = refl }; does = Unless.acts refl (FollowerRow.hears_last_reply (record { phase = refl; line = Plain; plus = plain_is_no_refusal; hears = record { text = 4 ∷ []; says = refl; left = record { left = []; taken = 0 }; reads = record { rest = []; begins = refl; new_is = refl } }; request = 7 ∷ 0 ∷ []; asks = (Said.Asks (Psync None), refl, refl); becomes = record { nodes = changed nodes_14 2 _ node2_4 refl; links = changed links_30 3 _ link3_4 refl; book = λ m. refl } })) }

step_53 : Row moment_52 (Event.Deliver 3 Server 2) moment_53
step_53 = record { at = record { link = link3_4; found = refl; n = 1; to = refl; serving = refl; node = node1_7; node_found = refl }; sent = let h : 2 ≤ 2 = omega arith in h; does = Unless.acts refl (record { nodes = λ m. refl; links = changed links_31 3 _ link3_5 refl; book = λ m. refl }) }

step_54 : Row moment_53 (Event.Step 3 Server tt 3) moment_54
step_54 = record { at = record { link = link3_5; found = refl; n = 1; to = refl; serving = refl; node = node1_7; node_found = refl }; does = Unless.acts refl (ServerRow.refuses (record { client = refl; replica = refl; query = None; uses = record { text = 7 ∷ 0 ∷ []; asks = (Said.Asks (Psync None), refl, refl); left = record { left = []; taken = 0 }; reads = record { rest = []; begins = refl; new_is = refl } }; reply = 5 ∷ []; refusal = refl; becomes = record { nodes = λ m. refl; links = changed links_32 3 _ link3_6 refl; book = λ m. refl } })) }

step_55 : Row moment_54 (Event.Deliver 3 Dialler 1) moment_55
step_55 = inl (record { at = record { link = link3_6; found = refl; n = 2; node = node2_4; node_found = refl; phase = Asked; follow = refl }; sent = let h : 1 ≤ 1 = omega arith in h; does = Unless.acts refl (record { nodes = λ m. refl; links = changed links_33 3 _ link3_7 refl; book = λ m. refl }) })

step_56 : Row moment_55 (Event.Step 3 Dialler tt 3) moment_56
step_56 = record { at = record { link = link3_7; found = refl; n = 2; node = node2_4; node_found = refl; phase = Asked; follow = refl }; does = Unless.acts refl (FollowerRow.leaves (Leaves.at_an_answer (BadAnswer.no_answer (5 ∷ []) [] Refusal refl refl refl tt) (record { nodes = changed nodes_15 2 _ node2_0 refl; links = λ m. refl; book = λ m. refl }))) }

step_57 : Row moment_56 (Event.Client 2) moment_57
step_57 = record { node = node2_0; found = refl; does = Unless.acts refl (Opens.opens 4 refl (record { nodes = λ m. refl; links = added links_34 link4_0; book = λ m. refl })) }

step_58 : Row moment_57 (Event.Command 4 (13 ∷ 1 ∷ 5 ∷ [])) moment_58
step_58 = record { link = link4_0; found = refl; client = refl; becomes = record { nodes = λ m. refl; links = changed links_35 4 _ link4_1 refl; book = λ m. refl } }

step_59 : Row moment_58 (Event.Deliver 4 Server 3) moment_59
step_59 = record { at = record { link = link4_1; found = refl; n = 2; to = refl; serving = refl; node = node2_0; node_found = refl }; sent = let h : 3 ≤ 3 = omega arith in h; does = Unless.acts refl (record { nodes = λ m. refl; links = changed links_36 4 _ link4_2 refl; book = λ m. refl }) }

step_60 : Row moment_59 (Event.Step 4 Server tt 3) moment_60
step_60 = record { at = record { link = link4_2; found = refl; n = 2; to = refl; serving = refl; node = node2_0; node_found = refl }; does = Unless.acts refl (ServerRow.turns (record { client = refl; replica = refl; host = 5 ∷ []; another = nowhere_is_no_host; uses = record { text = 13 ∷ 1 ∷ 5 ∷ []; asks = (Said.Asks (ReplicaOf (5 ∷ [])), refl, refl); left = record { left = []; taken = 0 }; reads = record { rest = []; begins = refl; new_is = refl } }; nodes = changed nodes_11 2 _ node2_5 refl; reply = 98 ∷ []; links = changed links_37 4 _ link4_3 refl; book = λ m. refl })) }

step_61 : Row moment_60 (Event.Command 4 (11 ∷ [])) moment_61
step_61 = record { link = link4_3; found = refl; client = refl; becomes = record { nodes = λ m. refl; links = changed links_38 4 _ link4_4 refl; book = λ m. refl } }

step_62 : Row moment_61 (Event.Deliver 4 Server 1) moment_62
step_62 = record { at = record { link = link4_4; found = refl; n = 2; to = refl; serving = refl; node = node2_5; node_found = refl }; sent = let h : 1 ≤ 1 = omega arith in h; does = Unless.acts refl (record { nodes = λ m. refl; links = changed links_39 4 _ link4_5 refl; book = λ m. refl }) }

step_63 : Row moment_62 (Event.Step 4 Server tt 3) moment_63
step_63 = record { at = record { link = link4_5; found = refl; n = 2; to = refl; serving = refl; node = node2_5; node_found = refl }; does = Unless.acts refl (ServerRow.promotes (record { client = refl; replica = refl; uses = record { text = 11 ∷ []; asks = (Said.Asks ReplicaOfNoOne, refl, refl); left = record { left = []; taken = 0 }; reads = record { rest = []; begins = refl; new_is = refl } }; nodes = changed nodes_16 2 _ node2_6 refl; reply = 98 ∷ []; links = changed links_40 4 _ link4_6 refl; book = record { new_id = refl; start = []; earlier = []; later = []; front = record { found = refl; place = refl }; book = added book_4 history3_0 } })) }

step_64 : Row moment_63 (Event.Client 0) moment_64
step_64 = record { node = node0_1; found = refl; does = Unless.acts refl (Opens.opens 5 refl (record { nodes = λ m. refl; links = added links_41 link5_0; book = λ m. refl })) }

step_65 : Row moment_64 (Event.Command 5 (7 ∷ 0 ∷ [])) moment_65
step_65 = record { link = link5_0; found = refl; client = refl; becomes = record { nodes = λ m. refl; links = changed links_42 5 _ link5_1 refl; book = λ m. refl } }

step_66 : Row moment_65 (Event.Deliver 5 Server 2) moment_66
step_66 = record { at = record { link = link5_1; found = refl; n = 0; to = refl; serving = refl; node = node0_1; node_found = refl }; sent = let h : 2 ≤ 2 = omega arith in h; does = Unless.acts refl (record { nodes = λ m. refl; links = changed links_43 5 _ link5_2 refl; book = λ m. refl }) }

step_67 : Row moment_66 (Event.Step 5 Server tt 3) moment_67
step_67 = record { at = record { link = link5_2; found = refl; n = 0; to = refl; serving = refl; node = node0_1; node_found = refl }; does = Unless.acts refl (ServerRow.resynchronizes (record { client = refl; master = refl; query = None; uses = record { text = 7 ∷ 0 ∷ []; asks = (Said.Asks (Psync None), refl, refl); left = record { left = []; taken = 0 }; reads = record { rest = []; begins = refl; new_is = refl } }; apart = nothing_asked _; line = 2 ∷ 0 ∷ 2 ∷ []; says = refl; snapshot = 12 ∷ 1 ∷ 7 ∷ []; loads = refl; becomes = record { nodes = λ m. refl; links = changed links_44 5 _ link5_3 refl; book = λ m. refl } })) }

step_68 : Row moment_67 (Event.Command 5 (10 ∷ [])) moment_68
step_68 = record { link = link5_3; found = refl; client = refl; becomes = record { nodes = λ m. refl; links = changed links_45 5 _ link5_4 refl; book = λ m. refl } }

step_69 : Row moment_68 (Event.Deliver 5 Server 1) moment_69
step_69 = record { at = record { link = link5_4; found = refl; n = 0; to = refl; serving = refl; node = node0_1; node_found = refl }; sent = let h : 1 ≤ 1 = omega arith in h; does = Unless.acts refl (record { nodes = λ m. refl; links = changed links_46 5 _ link5_5 refl; book = λ m. refl }) }

step_70 : Row moment_69 (Event.Step 5 Server tt 3) moment_70
step_70 = record { at = record { link = link5_5; found = refl; n = 0; to = refl; serving = refl; node = node0_1; node_found = refl }; does = Unless.acts refl (ServerRow.shuts (record { streams = refl; unwanted = Unwanted.other Command (record { text = 10 ∷ []; asks = (Said.Asks Command, refl, refl); left = record { left = []; taken = 0 }; reads = record { rest = []; begins = refl; new_is = refl } }) command_is_no_ack command_is_some; becomes = record { nodes = λ m. refl; links = changed links_47 5 _ link5_6 refl; book = λ m. refl } })) }

step_71 : Row moment_70 (Event.Break 1 Server) moment_71
step_71 = record { at = record { link = link1_9; found = refl; n = 0; to = refl; serving = refl; node = node0_1; node_found = refl }; does = Unless.acts refl (record { nodes = λ m. refl; links = changed links_48 1 _ link1_14 refl; book = λ m. refl }) }

step_72 : Row moment_71 (Event.Break 1 Dialler) moment_72
step_72 = inl (record { at = record { link = link1_14; found = refl; n = 1; node = node1_7; node_found = refl; phase = Stream; follow = refl }; does = Unless.acts refl (record { nodes = changed nodes_17 1 _ node1_8 refl; links = λ m. refl; book = λ m. refl }) })

step_73 : Row moment_72 (Event.Tick 1 tt) moment_73
step_73 = record { node = node1_8; found = refl; does = Unless.acts refl (Ticks.rests refl (record { nodes = λ m. refl; links = λ m. refl; book = λ m. refl })) }

step_74 : Row moment_73 (Event.Break 0 Dialler) moment_74
step_74 = inr (record { at = record { link = link0_7; found = refl; client = refl }; becomes = record { nodes = λ m. refl; links = changed links_49 0 _ link0_8 refl; book = λ m. refl } })

step_75 : Row moment_74 (Event.Client 0) moment_75
step_75 = record { node = node0_1; found = refl; does = Unless.acts refl (Opens.opens 6 refl (record { nodes = λ m. refl; links = added links_50 link6_0; book = λ m. refl })) }

step_76 : Row moment_75 (Event.Command 6 (10 ∷ [])) moment_76
step_76 = record { link = link6_0; found = refl; client = refl; becomes = record { nodes = λ m. refl; links = changed links_51 6 _ link6_1 refl; book = λ m. refl } }

step_77 : Row moment_76 (Event.Deliver 6 Server 1) moment_77
step_77 = record { at = record { link = link6_1; found = refl; n = 0; to = refl; serving = refl; node = node0_1; node_found = refl }; sent = let h : 1 ≤ 1 = omega arith in h; does = Unless.acts refl (record { nodes = λ m. refl; links = changed links_52 6 _ link6_2 refl; book = λ m. refl }) }

step_78 : Row moment_77 (Event.Step 6 Server tt 3) moment_78
step_78 = record { at = record { link = link6_2; found = refl; n = 0; to = refl; serving = refl; node = node0_1; node_found = refl }; does = Unless.acts refl (ServerRow.stops (record { wreck = node0_2; down = refl; role = refl; nodes = changed nodes_18 0 _ node0_2 refl; no_links = each_none (λ x. dropped (is_to 0 x.to) x) links_53; links = each_some (λ x. dropped (is_to 0 x.to) x) links_53; book = λ m. refl })) }

step_79 : Row moment_78 (Event.Tick 0 tt) moment_79
step_79 = record { node = node0_2; found = refl; does = Unless.stopped refl (record { nodes = λ m. refl; links = λ m. refl; book = λ m. refl }) }

step_80 : Row moment_79 (Event.Dial 1 2) moment_80
step_80 = record { node = node1_8; found = refl; replica = refl; waiting = refl; server = node2_6; server_found = refl; does = Unless.acts refl (Unless.acts refl (Dials.server_stops (record { wreck = node2_7; down = refl; role = refl; nodes = changed nodes_19 2 _ node2_7 refl; no_links = each_none (λ x. dropped (is_to 2 x.to) x) links_53; links = each_some (λ x. dropped (is_to 2 x.to) x) links_53; book = λ m. refl }))) }

step_81 : Row moment_80 (Event.Restart 0 (1 ∷ 7 ∷ []) 4) moment_81
step_81 = record { old = node0_2; found = refl; held = []; restored = refl; nodes = changed nodes_20 0 _ node0_3 refl; no_links = each_none (λ x. shut (is_to 0 x.to) x) links_53; links = each_some (λ x. shut (is_to 0 x.to) x) links_53; book = record { new_id = refl; book = added book_5 history4_0 } }

pub troubles_are_a_run : Moments (nowhere tiny) events moments
troubles_are_a_run = (step_1, (step_2, (step_3, (step_4, (step_5, (step_6, (step_7, (step_8, (step_9, (step_10, (step_11, (step_12, (step_13, (step_14, (step_15, (step_16, (step_17, (step_18, (step_19, (step_20, (step_21, (step_22, (step_23, (step_24, (step_25, (step_26, (step_27, (step_28, (step_29, (step_30, (step_31, (step_32, (step_33, (step_34, (step_35, (step_36, (step_37, (step_38, (step_39, (step_40, (step_41, (step_42, (step_43, (step_44, (step_45, (step_46, (step_47, (step_48, (step_49, (step_50, (step_51, (step_52, (step_53, (step_54, (step_55, (step_56, (step_57, (step_58, (step_59, (step_60, (step_61, (step_62, (step_63, (step_64, (step_65, (step_66, (step_67, (step_68, (step_69, (step_70, (step_71, (step_72, (step_73, (step_74, (step_75, (step_76, (step_77, (step_78, (step_79, (step_80, (step_81, tt)))))))))))))))))))))))))))))))))))))))))))))))))))))))))))))))))))))))))))))))))

pub ends_anew : EndsAnew
ends_anew = record { node = node0_3; found = refl; up = refl; id = refl; offset = refl; held = refl }
