-- Each moment of the story follows by its row.
use Rattle.std.proofs.Common.{ℕ, zero, suc, [], ◌∷◌, ◌≡◌, ◌≢◌, Option, None, Some, true, false, refl, sym, ap, inl, inr, ◌≤◌, arith}
use Rattle.std.proofs.lemmas.List.Elements.{All-nil, All-cons}
use Rattle.law_protocol.specs.Language.{Line}
use Rattle.law_protocol.specs.Language.Line.{Plain, Refusal}
use Rattle.law_protocol.specs.Changes.{SetAt}
use Rattle.law_protocol.specs.Node.{Node, Continues}
use Rattle.law_protocol.specs.Language.Request.{Handshake, Psync, Command, ReplicaOfNoOne, ReplicaOf}
use Rattle.law_protocol.specs.Node.Phase.{Greet, Asked, Loading, Stream}
use Rattle.law_protocol.specs.World.{Link, hears, shut, told_if}
use Rattle.law_protocol.specs.Changing.{Unless}
use Rattle.law_protocol.specs.ServerRows.{ServerRow}
use Rattle.law_protocol.specs.FollowerRows.{Usable, FollowerRow}
use Rattle.law_protocol.specs.FollowerRows.Usable.{a_reply, an_answer, a_snapshot, an_effect}
use Rattle.law_protocol.specs.Rows.{Opens, Dials, Row}
use Rattle.law_protocol.specs.Runs.{nowhere, Moments}
use Rattle.law_protocol.specs.Event.{Event}
use Rattle.law_protocol.specs.Event.Side.{Server, Dialler}
use Rattle.law_protocol.proofs.Fronts.{some_is}
use Rattle.law_protocol.proofs.Keeping.{none_some}
use Rattle.law_protocol_example.specs.Tiny.{tiny, Said}
use Rattle.law_protocol_example.specs.Story.{nodes, links, ids, events, moments, EndsLevel, node0_0, history0_0, node1_0, link0_0, node1_1, link1_0, link1_1, link1_2, link1_3, node1_2, node1_3, node1_4, link1_4, link1_5, link1_6, link1_7, node1_5, link1_8, node1_6, link1_9, link0_1, link0_2, link0_3, link1_10, node0_1, link1_11, node1_7, link2_0, link2_1, link2_2, node1_8, link2_3, history2_0, link2_4, link2_5, link2_6, node1_9, link0_4, link0_5, link0_6, link1_12, node0_2, node0_3, link3_0, link3_1, link3_2, link3_3, node0_4, node0_5, node0_6, link3_4, link3_5, link3_6, link3_7, node0_7, link3_8, link3_9, moment_1, moment_2, moment_3, moment_4, moment_5, moment_6, moment_7, moment_8, moment_9, moment_10, moment_11, moment_12, moment_13, moment_14, moment_15, moment_16, moment_17, moment_18, moment_19, moment_20, moment_21, moment_22, moment_23, moment_24, moment_25, moment_26, moment_27, moment_28, moment_29, moment_30, moment_31, moment_32, moment_33, moment_34, moment_35, moment_36, moment_37, moment_38, moment_39, moment_40, moment_41, moment_42, moment_43, moment_44, moment_45, moment_46, moment_47, moment_48, moment_49, moment_50, moment_51, moment_52, moment_53, moment_54}

pub plain_is_no_refusal : let plain : Line ℕ = Plain in let refusal : Line ℕ = Refusal in plain ≢ refusal
plain_is_no_refusal e = cc

pub nothing_asked : (s : Node tiny) (i o : ℕ) → (let none : Option (ℕ × ℕ) = None in none ≡ Some (i, o)) → Continues s i o → ⊥
nothing_asked s i o e c = cc

no_links : (l : ℕ) → links {A = Link} None None None None l ≡ None
no_links zero = refl
no_links (suc zero) = refl
no_links (suc (suc zero)) = refl
no_links (suc (suc (suc zero))) = refl
no_links (suc (suc (suc (suc l)))) = refl

first_node : {A : Type 0} (x : A) → SetAt (λ n. None) (nodes (Some x) None) 0 x
first_node {A} x = (refl, go)
  where
    go : (m : ℕ) → m ≢ 0 → nodes (Some x) None m ≡ None
    go zero h = absurd (h refl)
    go (suc zero) h = refl
    go (suc (suc m)) h = refl

first_id : {A : Type 0} (x : A) → SetAt (λ n. None) (ids (Some x) None None) 0 x
first_id {A} x = (refl, go)
  where
    go : (m : ℕ) → m ≢ 0 → ids (Some x) None None m ≡ None
    go zero h = absurd (h refl)
    go (suc zero) h = refl
    go (suc (suc zero)) h = refl
    go (suc (suc (suc m))) h = refl

set_node_0 : {A : Type 0} (a b : Option A) (x : A) → SetAt (nodes a b) (nodes (Some x) b) 0 x
set_node_0 {A} a b x = (refl, go)
  where
    go : (m : ℕ) → m ≢ 0 → nodes (Some x) b m ≡ nodes a b m
    go zero h = absurd (h refl)
    go (suc zero) h = refl
    go (suc (suc m)) h = refl

set_node_1 : {A : Type 0} (a b : Option A) (x : A) → SetAt (nodes a b) (nodes a (Some x)) 1 x
set_node_1 {A} a b x = (refl, go)
  where
    go : (m : ℕ) → m ≢ 1 → nodes a (Some x) m ≡ nodes a b m
    go zero h = refl
    go (suc zero) h = absurd (h refl)
    go (suc (suc m)) h = refl

set_link_0 : {A : Type 0} (a b c d : Option A) (x : A) → SetAt (links a b c d) (links (Some x) b c d) 0 x
set_link_0 {A} a b c d x = (refl, go)
  where
    go : (m : ℕ) → m ≢ 0 → links (Some x) b c d m ≡ links a b c d m
    go zero h = absurd (h refl)
    go (suc zero) h = refl
    go (suc (suc zero)) h = refl
    go (suc (suc (suc zero))) h = refl
    go (suc (suc (suc (suc m)))) h = refl

set_link_1 : {A : Type 0} (a b c d : Option A) (x : A) → SetAt (links a b c d) (links a (Some x) c d) 1 x
set_link_1 {A} a b c d x = (refl, go)
  where
    go : (m : ℕ) → m ≢ 1 → links a (Some x) c d m ≡ links a b c d m
    go zero h = refl
    go (suc zero) h = absurd (h refl)
    go (suc (suc zero)) h = refl
    go (suc (suc (suc zero))) h = refl
    go (suc (suc (suc (suc m)))) h = refl

set_link_2 : {A : Type 0} (a b c d : Option A) (x : A) → SetAt (links a b c d) (links a b (Some x) d) 2 x
set_link_2 {A} a b c d x = (refl, go)
  where
    go : (m : ℕ) → m ≢ 2 → links a b (Some x) d m ≡ links a b c d m
    go zero h = refl
    go (suc zero) h = refl
    go (suc (suc zero)) h = absurd (h refl)
    go (suc (suc (suc zero))) h = refl
    go (suc (suc (suc (suc m)))) h = refl

set_link_3 : {A : Type 0} (a b c d : Option A) (x : A) → SetAt (links a b c d) (links a b c (Some x)) 3 x
set_link_3 {A} a b c d x = (refl, go)
  where
    go : (m : ℕ) → m ≢ 3 → links a b c (Some x) m ≡ links a b c d m
    go zero h = refl
    go (suc zero) h = refl
    go (suc (suc zero)) h = refl
    go (suc (suc (suc zero))) h = absurd (h refl)
    go (suc (suc (suc (suc m)))) h = refl

set_id_0 : {A : Type 0} (a b c : Option A) (x : A) → SetAt (ids a b c) (ids (Some x) b c) 0 x
set_id_0 {A} a b c x = (refl, go)
  where
    go : (m : ℕ) → m ≢ 0 → ids (Some x) b c m ≡ ids a b c m
    go zero h = absurd (h refl)
    go (suc zero) h = refl
    go (suc (suc zero)) h = refl
    go (suc (suc (suc m))) h = refl

set_id_1 : {A : Type 0} (a b c : Option A) (x : A) → SetAt (ids a b c) (ids a (Some x) c) 1 x
set_id_1 {A} a b c x = (refl, go)
  where
    go : (m : ℕ) → m ≢ 1 → ids a (Some x) c m ≡ ids a b c m
    go zero h = refl
    go (suc zero) h = absurd (h refl)
    go (suc (suc zero)) h = refl
    go (suc (suc (suc m))) h = refl

set_id_2 : {A : Type 0} (a b c : Option A) (x : A) → SetAt (ids a b c) (ids a b (Some x)) 2 x
set_id_2 {A} a b c x = (refl, go)
  where
    go : (m : ℕ) → m ≢ 2 → ids a b (Some x) m ≡ ids a b c m
    go zero h = refl
    go (suc zero) h = refl
    go (suc (suc zero)) h = absurd (h refl)
    go (suc (suc (suc m))) h = refl

told_links_0_none : (j : ℕ) → j ≢ 0 → links (Some link0_2) (Some link1_9) None None j ≡ None → links (Some link0_3) (Some link1_10) None None j ≡ None
told_links_0_none zero h e = absurd (h refl)
told_links_0_none (suc zero) h e = absurd (none_some None link1_9 refl (sym e))
told_links_0_none (suc (suc zero)) h e = refl
told_links_0_none (suc (suc (suc zero))) h e = refl
told_links_0_none (suc (suc (suc (suc j)))) h e = refl

told_links_0 : (j : ℕ) (x : Link) → j ≢ 0 → links (Some link0_2) (Some link1_9) None None j ≡ Some x → links (Some link0_3) (Some link1_10) None None j ≡ Some (told_if (hears 0 x) x (1 ∷ 7 ∷ []))
told_links_0 zero x h e = absurd (h refl)
told_links_0 (suc zero) x h e = ap (λ x. Some (told_if (hears 0 x) x (1 ∷ 7 ∷ []))) (some_is link1_9 x e)
told_links_0 (suc (suc zero)) x h e = none_some None x refl e
told_links_0 (suc (suc (suc zero))) x h e = none_some None x refl e
told_links_0 (suc (suc (suc (suc j)))) x h e = none_some None x refl e

told_links_1_none : (j : ℕ) → j ≢ 2 → links (Some link0_3) (Some link1_9) (Some link2_5) None j ≡ None → links (Some link0_3) (Some link1_9) (Some link2_6) None j ≡ None
told_links_1_none zero h e = absurd (none_some None link0_3 refl (sym e))
told_links_1_none (suc zero) h e = absurd (none_some None link1_9 refl (sym e))
told_links_1_none (suc (suc zero)) h e = absurd (h refl)
told_links_1_none (suc (suc (suc zero))) h e = refl
told_links_1_none (suc (suc (suc (suc j)))) h e = refl

told_links_1 : (j : ℕ) (x : Link) → j ≢ 2 → links (Some link0_3) (Some link1_9) (Some link2_5) None j ≡ Some x → links (Some link0_3) (Some link1_9) (Some link2_6) None j ≡ Some (told_if (hears 1 x) x (1 ∷ 8 ∷ []))
told_links_1 zero x h e = ap (λ x. Some (told_if (hears 1 x) x (1 ∷ 8 ∷ []))) (some_is link0_3 x e)
told_links_1 (suc zero) x h e = ap (λ x. Some (told_if (hears 1 x) x (1 ∷ 8 ∷ []))) (some_is link1_9 x e)
told_links_1 (suc (suc zero)) x h e = absurd (h refl)
told_links_1 (suc (suc (suc zero))) x h e = none_some None x refl e
told_links_1 (suc (suc (suc (suc j)))) x h e = none_some None x refl e

shut_links_none : (j : ℕ) → j ≢ 0 → links (Some link0_5) (Some link1_9) (Some link2_6) None j ≡ None → links (Some link0_6) (Some link1_12) (Some link2_6) None j ≡ None
shut_links_none zero h e = absurd (h refl)
shut_links_none (suc zero) h e = absurd (none_some None link1_9 refl (sym e))
shut_links_none (suc (suc zero)) h e = absurd (none_some None link2_6 refl (sym e))
shut_links_none (suc (suc (suc zero))) h e = refl
shut_links_none (suc (suc (suc (suc j)))) h e = refl

shut_links : (j : ℕ) (x : Link) → j ≢ 0 → links (Some link0_5) (Some link1_9) (Some link2_6) None j ≡ Some x → links (Some link0_6) (Some link1_12) (Some link2_6) None j ≡ Some (shut (hears 0 x) x)
shut_links zero x h e = absurd (h refl)
shut_links (suc zero) x h e = ap (λ x. Some (shut (hears 0 x) x)) (some_is link1_9 x e)
shut_links (suc (suc zero)) x h e = ap (λ x. Some (shut (hears 0 x) x)) (some_is link2_6 x e)
shut_links (suc (suc (suc zero))) x h e = none_some None x refl e
shut_links (suc (suc (suc (suc j)))) x h e = none_some None x refl e

step_1 : Row (nowhere tiny) (Event.Start 0 true) moment_1
step_1 = record { node = 0; new_node = refl; unnamed = λ l k e. none_some None k refl e; nodes = first_node _; links = no_links; book = record { new_id = refl; book = first_id _ } }

step_2 : Row (moment_1) (Event.Start 1 false) moment_2
step_2 = record { node = 1; new_node = refl; unnamed = λ l k e. none_some (links None None None None l) k (no_links l) e; nodes = set_node_1 _ _ _; links = λ m. refl; book = record { new_id = refl; book = set_id_1 _ _ _ _ } }

step_3 : Row (moment_2) (Event.Client 0) moment_3
step_3 = record { node = node0_0; found = refl; does = Unless.acts refl (Opens.opens 0 refl (record { nodes = λ m. refl; links = set_link_0 _ _ _ _ _; book = λ m. refl })) }

step_4 : Row (moment_3) (Event.Dial 1 0) moment_4
step_4 = record { node = node1_0; found = refl; replica = refl; waiting = refl; server = node0_0; server_found = refl; does = Unless.acts refl (Unless.acts refl (Dials.connects (record { link = 1; new_link = refl; request = 6 ∷ []; asks = (Said.Asks Handshake, refl, refl); nodes = set_node_1 _ _ _; links = set_link_1 _ _ _ _ _; book = λ m. refl }))) }

step_5 : Row (moment_4) (Event.Deliver 1 Server 1) moment_5
step_5 = record { at = record { link = link1_0; found = refl; n = 0; to = refl; serving = refl; node = node0_0; node_found = refl }; sent = let h : 1 ≤ 1 = omega arith in h; does = Unless.acts refl (record { nodes = λ m. refl; links = set_link_1 _ _ _ _ _; book = λ m. refl }) }

step_6 : Row (moment_5) (Event.Step 1 Server tt 2) moment_6
step_6 = record { at = record { link = link1_1; found = refl; n = 0; to = refl; serving = refl; node = node0_0; node_found = refl }; does = Unless.acts refl (ServerRow.greets (record { client = refl; uses = record { text = 6 ∷ []; asks = (Said.Asks Handshake, refl, refl); left = record { left = []; taken = 0 }; reads = record { rest = []; begins = refl; new_is = refl } }; reply = 4 ∷ []; plain = refl; becomes = record { nodes = λ m. refl; links = set_link_1 _ _ _ _ _; book = λ m. refl } })) }

step_7 : Row (moment_6) (Event.Deliver 1 Dialler 1) moment_7
step_7 = inl (record { at = record { link = link1_2; found = refl; n = 1; node = node1_1; node_found = refl; phase = Greet 0; follow = refl }; sent = let h : 1 ≤ 1 = omega arith in h; does = Unless.acts refl (record { nodes = λ m. refl; links = set_link_1 _ _ _ _ _; book = λ m. refl }) })

step_8 : Row (moment_7) (Event.Step 1 Dialler tt 2) moment_8
step_8 = record { at = record { link = link1_3; found = refl; n = 1; node = node1_1; node_found = refl; phase = Greet 0; follow = refl }; does = Unless.acts refl (FollowerRow.hears_reply (record { number = 0; phase = refl; not_last = omega arith; line = Plain; plus = plain_is_no_refusal; hears = record { text = 4 ∷ []; says = refl; left = record { left = []; taken = 0 }; reads = record { rest = []; begins = refl; new_is = refl } }; request = 6 ∷ []; asks = (Said.Asks Handshake, refl, refl); becomes = record { nodes = set_node_1 _ _ _; links = set_link_1 _ _ _ _ _; book = λ m. refl } })) }

step_9 : Row (moment_8) (Event.Deliver 1 Server 1) moment_9
step_9 = record { at = record { link = link1_0; found = refl; n = 0; to = refl; serving = refl; node = node0_0; node_found = refl }; sent = let h : 1 ≤ 1 = omega arith in h; does = Unless.acts refl (record { nodes = λ m. refl; links = set_link_1 _ _ _ _ _; book = λ m. refl }) }

step_10 : Row (moment_9) (Event.Step 1 Server tt 2) moment_10
step_10 = record { at = record { link = link1_1; found = refl; n = 0; to = refl; serving = refl; node = node0_0; node_found = refl }; does = Unless.acts refl (ServerRow.greets (record { client = refl; uses = record { text = 6 ∷ []; asks = (Said.Asks Handshake, refl, refl); left = record { left = []; taken = 0 }; reads = record { rest = []; begins = refl; new_is = refl } }; reply = 4 ∷ []; plain = refl; becomes = record { nodes = λ m. refl; links = set_link_1 _ _ _ _ _; book = λ m. refl } })) }

step_11 : Row (moment_10) (Event.Deliver 1 Dialler 1) moment_11
step_11 = inl (record { at = record { link = link1_2; found = refl; n = 1; node = node1_2; node_found = refl; phase = Greet 1; follow = refl }; sent = let h : 1 ≤ 1 = omega arith in h; does = Unless.acts refl (record { nodes = λ m. refl; links = set_link_1 _ _ _ _ _; book = λ m. refl }) })

step_12 : Row (moment_11) (Event.Step 1 Dialler tt 2) moment_12
step_12 = record { at = record { link = link1_3; found = refl; n = 1; node = node1_2; node_found = refl; phase = Greet 1; follow = refl }; does = Unless.acts refl (FollowerRow.hears_reply (record { number = 1; phase = refl; not_last = omega arith; line = Plain; plus = plain_is_no_refusal; hears = record { text = 4 ∷ []; says = refl; left = record { left = []; taken = 0 }; reads = record { rest = []; begins = refl; new_is = refl } }; request = 6 ∷ []; asks = (Said.Asks Handshake, refl, refl); becomes = record { nodes = set_node_1 _ _ _; links = set_link_1 _ _ _ _ _; book = λ m. refl } })) }

step_13 : Row (moment_12) (Event.Deliver 1 Server 1) moment_13
step_13 = record { at = record { link = link1_0; found = refl; n = 0; to = refl; serving = refl; node = node0_0; node_found = refl }; sent = let h : 1 ≤ 1 = omega arith in h; does = Unless.acts refl (record { nodes = λ m. refl; links = set_link_1 _ _ _ _ _; book = λ m. refl }) }

step_14 : Row (moment_13) (Event.Step 1 Server tt 2) moment_14
step_14 = record { at = record { link = link1_1; found = refl; n = 0; to = refl; serving = refl; node = node0_0; node_found = refl }; does = Unless.acts refl (ServerRow.greets (record { client = refl; uses = record { text = 6 ∷ []; asks = (Said.Asks Handshake, refl, refl); left = record { left = []; taken = 0 }; reads = record { rest = []; begins = refl; new_is = refl } }; reply = 4 ∷ []; plain = refl; becomes = record { nodes = λ m. refl; links = set_link_1 _ _ _ _ _; book = λ m. refl } })) }

step_15 : Row (moment_14) (Event.Deliver 1 Dialler 1) moment_15
step_15 = inl (record { at = record { link = link1_2; found = refl; n = 1; node = node1_3; node_found = refl; phase = Greet 2; follow = refl }; sent = let h : 1 ≤ 1 = omega arith in h; does = Unless.acts refl (record { nodes = λ m. refl; links = set_link_1 _ _ _ _ _; book = λ m. refl }) })

step_16 : Row (moment_15) (Event.Step 1 Dialler tt 2) moment_16
step_16 = record { at = record { link = link1_3; found = refl; n = 1; node = node1_3; node_found = refl; phase = Greet 2; follow = refl }; does = Unless.acts refl (FollowerRow.hears_last_reply (record { phase = refl; line = Plain; plus = plain_is_no_refusal; hears = record { text = 4 ∷ []; says = refl; left = record { left = []; taken = 0 }; reads = record { rest = []; begins = refl; new_is = refl } }; request = 7 ∷ 0 ∷ []; asks = (Said.Asks (Psync None), refl, refl); becomes = record { nodes = set_node_1 _ _ _; links = set_link_1 _ _ _ _ _; book = λ m. refl } })) }

step_17 : Row (moment_16) (Event.Deliver 1 Server 2) moment_17
step_17 = record { at = record { link = link1_4; found = refl; n = 0; to = refl; serving = refl; node = node0_0; node_found = refl }; sent = let h : 2 ≤ 2 = omega arith in h; does = Unless.acts refl (record { nodes = λ m. refl; links = set_link_1 _ _ _ _ _; book = λ m. refl }) }

step_18 : Row (moment_17) (Event.Step 1 Server tt 2) moment_18
step_18 = record { at = record { link = link1_5; found = refl; n = 0; to = refl; serving = refl; node = node0_0; node_found = refl }; does = Unless.acts refl (ServerRow.resynchronizes (record { client = refl; master = refl; query = None; uses = record { text = 7 ∷ 0 ∷ []; asks = (Said.Asks (Psync None), refl, refl); left = record { left = []; taken = 0 }; reads = record { rest = []; begins = refl; new_is = refl } }; apart = nothing_asked _; line = 2 ∷ 0 ∷ 0 ∷ []; says = refl; snapshot = 12 ∷ 0 ∷ []; loads = refl; becomes = record { nodes = λ m. refl; links = set_link_1 _ _ _ _ _; book = λ m. refl } })) }

step_19 : Row (moment_18) (Event.Deliver 1 Dialler 5) moment_19
step_19 = inl (record { at = record { link = link1_6; found = refl; n = 1; node = node1_4; node_found = refl; phase = Asked; follow = refl }; sent = let h : 5 ≤ 5 = omega arith in h; does = Unless.acts refl (record { nodes = λ m. refl; links = set_link_1 _ _ _ _ _; book = λ m. refl }) })

step_20 : Row (moment_19) (Event.Step 1 Dialler tt 2) moment_20
step_20 = record { at = record { link = link1_7; found = refl; n = 1; node = node1_4; node_found = refl; phase = Asked; follow = refl }; does = Unless.acts refl (FollowerRow.hears_full_resync (record { phase = refl; id = 0; offset = 0; hears = record { text = 2 ∷ 0 ∷ 0 ∷ []; says = refl; left = record { left = 12 ∷ 0 ∷ []; taken = 2 }; reads = record { rest = 12 ∷ 0 ∷ []; begins = refl; new_is = refl } }; becomes = record { nodes = set_node_1 _ _ _; links = set_link_1 _ _ _ _ _; book = λ m. refl } })) }

step_21 : Row (moment_20) (Event.Step 1 Dialler tt 2) moment_21
step_21 = record { at = record { link = link1_8; found = refl; n = 1; node = node1_5; node_found = refl; phase = (Loading 0 0); follow = refl }; does = Unless.acts refl (FollowerRow.loads (record { id = 0; offset = 0; phase = refl; text = 12 ∷ 0 ∷ []; held = []; loads = refl; left = record { left = []; taken = 0 }; reads = record { rest = []; begins = refl; new_is = refl }; becomes = record { nodes = set_node_1 _ _ _; links = set_link_1 _ _ _ _ _; book = λ m. refl } })) }

step_22 : Row (moment_21) (Event.Command 0 (10 ∷ [])) moment_22
step_22 = record { link = link0_0; found = refl; client = refl; becomes = record { nodes = λ m. refl; links = set_link_0 _ _ _ _ _; book = λ m. refl } }

step_23 : Row (moment_22) (Event.Deliver 0 Server 1) moment_23
step_23 = record { at = record { link = link0_1; found = refl; n = 0; to = refl; serving = refl; node = node0_0; node_found = refl }; sent = let h : 1 ≤ 1 = omega arith in h; does = Unless.acts refl (record { nodes = λ m. refl; links = set_link_0 _ _ _ _ _; book = λ m. refl }) }

step_24 : Row (moment_23) (Event.Step 0 Server tt 2) moment_24
step_24 = record { at = record { link = link0_2; found = refl; n = 0; to = refl; serving = refl; node = node0_0; node_found = refl }; does = Unless.acts refl (ServerRow.runs (record { client = refl; master = refl; uses = record { text = 10 ∷ []; asks = (Said.Asks Command, refl, refl); left = record { left = []; taken = 0 }; reads = record { rest = []; begins = refl; new_is = refl } }; effects = 7 ∷ []; of_request = tt; transaction = None; leads = refl; grown = record { good = All-cons tiny.IsGood 7 [] tt (All-nil tiny.IsGood); within = let h : 2 ≤ 6 = omega arith in h; held = 7 ∷ []; folds = refl; backlog = 1 ∷ 7 ∷ []; last_bytes = ([], refl); nodes = set_node_0 _ _ _; book = record { history = history0_0; found = refl; book = set_id_0 _ _ _ _ } }; reply = 99 ∷ []; link = refl; no_links = told_links_0_none; links = told_links_0 })) }

step_25 : Row (moment_24) (Event.Deliver 1 Dialler 2) moment_25
step_25 = inl (record { at = record { link = link1_10; found = refl; n = 1; node = node1_6; node_found = refl; phase = Stream; follow = refl }; sent = let h : 2 ≤ 2 = omega arith in h; does = Unless.acts refl (record { nodes = λ m. refl; links = set_link_1 _ _ _ _ _; book = λ m. refl }) })

step_26 : Row (moment_25) (Event.Step 1 Dialler tt 2) moment_26
step_26 = record { at = record { link = link1_11; found = refl; n = 1; node = node1_6; node_found = refl; phase = Stream; follow = refl }; does = Unless.acts refl (FollowerRow.applies (record { phase = refl; effect = 7; good = tt; left = record { left = []; taken = 0 }; reads = record { rest = []; begins = refl; new_is = refl }; held = 7 ∷ []; applies = refl; within = let h : 2 ≤ 6 = omega arith in h; backlog = 1 ∷ 7 ∷ []; last_bytes = ([], refl); becomes = record { nodes = set_node_1 _ _ _; links = set_link_1 _ _ _ _ _; book = λ m. refl } })) }

step_27 : Row (moment_26) (Event.Client 1) moment_27
step_27 = record { node = node1_7; found = refl; does = Unless.acts refl (Opens.opens 2 refl (record { nodes = λ m. refl; links = set_link_2 _ _ _ _ _; book = λ m. refl })) }

step_28 : Row (moment_27) (Event.Command 2 (11 ∷ [])) moment_28
step_28 = record { link = link2_0; found = refl; client = refl; becomes = record { nodes = λ m. refl; links = set_link_2 _ _ _ _ _; book = λ m. refl } }

step_29 : Row (moment_28) (Event.Deliver 2 Server 1) moment_29
step_29 = record { at = record { link = link2_1; found = refl; n = 1; to = refl; serving = refl; node = node1_7; node_found = refl }; sent = let h : 1 ≤ 1 = omega arith in h; does = Unless.acts refl (record { nodes = λ m. refl; links = set_link_2 _ _ _ _ _; book = λ m. refl }) }

step_30 : Row (moment_29) (Event.Step 2 Server tt 2) moment_30
step_30 = record { at = record { link = link2_2; found = refl; n = 1; to = refl; serving = refl; node = node1_7; node_found = refl }; does = Unless.acts refl (ServerRow.promotes (record { client = refl; replica = refl; uses = record { text = 11 ∷ []; asks = (Said.Asks ReplicaOfNoOne, refl, refl); left = record { left = []; taken = 0 }; reads = record { rest = []; begins = refl; new_is = refl } }; nodes = set_node_1 _ _ _; reply = 98 ∷ []; links = set_link_2 _ _ _ _ _; book = record { new_id = refl; start = []; earlier = 7 ∷ []; later = []; front = record { found = refl; place = refl }; book = set_id_2 _ _ _ _ } })) }

step_31 : Row (moment_30) (Event.Command 2 (10 ∷ [])) moment_31
step_31 = record { link = link2_3; found = refl; client = refl; becomes = record { nodes = λ m. refl; links = set_link_2 _ _ _ _ _; book = λ m. refl } }

step_32 : Row (moment_31) (Event.Deliver 2 Server 1) moment_32
step_32 = record { at = record { link = link2_4; found = refl; n = 1; to = refl; serving = refl; node = node1_8; node_found = refl }; sent = let h : 1 ≤ 1 = omega arith in h; does = Unless.acts refl (record { nodes = λ m. refl; links = set_link_2 _ _ _ _ _; book = λ m. refl }) }

step_33 : Row (moment_32) (Event.Step 2 Server tt 2) moment_33
step_33 = record { at = record { link = link2_5; found = refl; n = 1; to = refl; serving = refl; node = node1_8; node_found = refl }; does = Unless.acts refl (ServerRow.runs (record { client = refl; master = refl; uses = record { text = 10 ∷ []; asks = (Said.Asks Command, refl, refl); left = record { left = []; taken = 0 }; reads = record { rest = []; begins = refl; new_is = refl } }; effects = 8 ∷ []; of_request = tt; transaction = None; leads = refl; grown = record { good = All-cons tiny.IsGood 8 [] tt (All-nil tiny.IsGood); within = let h : 4 ≤ 6 = omega arith in h; held = 8 ∷ 7 ∷ []; folds = refl; backlog = 1 ∷ 7 ∷ 1 ∷ 8 ∷ []; last_bytes = ([], refl); nodes = set_node_1 _ _ _; book = record { history = history2_0; found = refl; book = set_id_2 _ _ _ _ } }; reply = 99 ∷ []; link = refl; no_links = told_links_1_none; links = told_links_1 })) }

step_34 : Row (moment_33) (Event.Command 0 (13 ∷ 1 ∷ 5 ∷ [])) moment_34
step_34 = record { link = link0_3; found = refl; client = refl; becomes = record { nodes = λ m. refl; links = set_link_0 _ _ _ _ _; book = λ m. refl } }

step_35 : Row (moment_34) (Event.Deliver 0 Server 3) moment_35
step_35 = record { at = record { link = link0_4; found = refl; n = 0; to = refl; serving = refl; node = node0_1; node_found = refl }; sent = let h : 3 ≤ 3 = omega arith in h; does = Unless.acts refl (record { nodes = λ m. refl; links = set_link_0 _ _ _ _ _; book = λ m. refl }) }

step_36 : Row (moment_35) (Event.Step 0 Server tt 2) moment_36
step_36 = record { at = record { link = link0_5; found = refl; n = 0; to = refl; serving = refl; node = node0_1; node_found = refl }; does = Unless.acts refl (ServerRow.demotes (record { client = refl; master = refl; host = 5 ∷ []; uses = record { text = 13 ∷ 1 ∷ 5 ∷ []; asks = (Said.Asks (ReplicaOf (5 ∷ [])), refl, refl); left = record { left = []; taken = 0 }; reads = record { rest = []; begins = refl; new_is = refl } }; nodes = set_node_0 _ _ _; reply = 97 ∷ []; link = refl; no_links = shut_links_none; links = shut_links; book = λ m. refl })) }

step_37 : Row (moment_36) (Event.Dial 0 1) moment_37
step_37 = record { node = node0_2; found = refl; replica = refl; waiting = refl; server = node1_9; server_found = refl; does = Unless.acts refl (Unless.acts refl (Dials.connects (record { link = 3; new_link = refl; request = 6 ∷ []; asks = (Said.Asks Handshake, refl, refl); nodes = set_node_0 _ _ _; links = set_link_3 _ _ _ _ _; book = λ m. refl }))) }

step_38 : Row (moment_37) (Event.Deliver 3 Server 1) moment_38
step_38 = record { at = record { link = link3_0; found = refl; n = 1; to = refl; serving = refl; node = node1_9; node_found = refl }; sent = let h : 1 ≤ 1 = omega arith in h; does = Unless.acts refl (record { nodes = λ m. refl; links = set_link_3 _ _ _ _ _; book = λ m. refl }) }

step_39 : Row (moment_38) (Event.Step 3 Server tt 2) moment_39
step_39 = record { at = record { link = link3_1; found = refl; n = 1; to = refl; serving = refl; node = node1_9; node_found = refl }; does = Unless.acts refl (ServerRow.greets (record { client = refl; uses = record { text = 6 ∷ []; asks = (Said.Asks Handshake, refl, refl); left = record { left = []; taken = 0 }; reads = record { rest = []; begins = refl; new_is = refl } }; reply = 4 ∷ []; plain = refl; becomes = record { nodes = λ m. refl; links = set_link_3 _ _ _ _ _; book = λ m. refl } })) }

step_40 : Row (moment_39) (Event.Deliver 3 Dialler 1) moment_40
step_40 = inl (record { at = record { link = link3_2; found = refl; n = 0; node = node0_3; node_found = refl; phase = Greet 0; follow = refl }; sent = let h : 1 ≤ 1 = omega arith in h; does = Unless.acts refl (record { nodes = λ m. refl; links = set_link_3 _ _ _ _ _; book = λ m. refl }) })

step_41 : Row (moment_40) (Event.Step 3 Dialler tt 2) moment_41
step_41 = record { at = record { link = link3_3; found = refl; n = 0; node = node0_3; node_found = refl; phase = Greet 0; follow = refl }; does = Unless.acts refl (FollowerRow.hears_reply (record { number = 0; phase = refl; not_last = omega arith; line = Plain; plus = plain_is_no_refusal; hears = record { text = 4 ∷ []; says = refl; left = record { left = []; taken = 0 }; reads = record { rest = []; begins = refl; new_is = refl } }; request = 6 ∷ []; asks = (Said.Asks Handshake, refl, refl); becomes = record { nodes = set_node_0 _ _ _; links = set_link_3 _ _ _ _ _; book = λ m. refl } })) }

step_42 : Row (moment_41) (Event.Deliver 3 Server 1) moment_42
step_42 = record { at = record { link = link3_0; found = refl; n = 1; to = refl; serving = refl; node = node1_9; node_found = refl }; sent = let h : 1 ≤ 1 = omega arith in h; does = Unless.acts refl (record { nodes = λ m. refl; links = set_link_3 _ _ _ _ _; book = λ m. refl }) }

step_43 : Row (moment_42) (Event.Step 3 Server tt 2) moment_43
step_43 = record { at = record { link = link3_1; found = refl; n = 1; to = refl; serving = refl; node = node1_9; node_found = refl }; does = Unless.acts refl (ServerRow.greets (record { client = refl; uses = record { text = 6 ∷ []; asks = (Said.Asks Handshake, refl, refl); left = record { left = []; taken = 0 }; reads = record { rest = []; begins = refl; new_is = refl } }; reply = 4 ∷ []; plain = refl; becomes = record { nodes = λ m. refl; links = set_link_3 _ _ _ _ _; book = λ m. refl } })) }

step_44 : Row (moment_43) (Event.Deliver 3 Dialler 1) moment_44
step_44 = inl (record { at = record { link = link3_2; found = refl; n = 0; node = node0_4; node_found = refl; phase = Greet 1; follow = refl }; sent = let h : 1 ≤ 1 = omega arith in h; does = Unless.acts refl (record { nodes = λ m. refl; links = set_link_3 _ _ _ _ _; book = λ m. refl }) })

step_45 : Row (moment_44) (Event.Step 3 Dialler tt 2) moment_45
step_45 = record { at = record { link = link3_3; found = refl; n = 0; node = node0_4; node_found = refl; phase = Greet 1; follow = refl }; does = Unless.acts refl (FollowerRow.hears_reply (record { number = 1; phase = refl; not_last = omega arith; line = Plain; plus = plain_is_no_refusal; hears = record { text = 4 ∷ []; says = refl; left = record { left = []; taken = 0 }; reads = record { rest = []; begins = refl; new_is = refl } }; request = 6 ∷ []; asks = (Said.Asks Handshake, refl, refl); becomes = record { nodes = set_node_0 _ _ _; links = set_link_3 _ _ _ _ _; book = λ m. refl } })) }

step_46 : Row (moment_45) (Event.Deliver 3 Server 1) moment_46
step_46 = record { at = record { link = link3_0; found = refl; n = 1; to = refl; serving = refl; node = node1_9; node_found = refl }; sent = let h : 1 ≤ 1 = omega arith in h; does = Unless.acts refl (record { nodes = λ m. refl; links = set_link_3 _ _ _ _ _; book = λ m. refl }) }

step_47 : Row (moment_46) (Event.Step 3 Server tt 2) moment_47
step_47 = record { at = record { link = link3_1; found = refl; n = 1; to = refl; serving = refl; node = node1_9; node_found = refl }; does = Unless.acts refl (ServerRow.greets (record { client = refl; uses = record { text = 6 ∷ []; asks = (Said.Asks Handshake, refl, refl); left = record { left = []; taken = 0 }; reads = record { rest = []; begins = refl; new_is = refl } }; reply = 4 ∷ []; plain = refl; becomes = record { nodes = λ m. refl; links = set_link_3 _ _ _ _ _; book = λ m. refl } })) }

step_48 : Row (moment_47) (Event.Deliver 3 Dialler 1) moment_48
step_48 = inl (record { at = record { link = link3_2; found = refl; n = 0; node = node0_5; node_found = refl; phase = Greet 2; follow = refl }; sent = let h : 1 ≤ 1 = omega arith in h; does = Unless.acts refl (record { nodes = λ m. refl; links = set_link_3 _ _ _ _ _; book = λ m. refl }) })

step_49 : Row (moment_48) (Event.Step 3 Dialler tt 2) moment_49
step_49 = record { at = record { link = link3_3; found = refl; n = 0; node = node0_5; node_found = refl; phase = Greet 2; follow = refl }; does = Unless.acts refl (FollowerRow.hears_last_reply (record { phase = refl; line = Plain; plus = plain_is_no_refusal; hears = record { text = 4 ∷ []; says = refl; left = record { left = []; taken = 0 }; reads = record { rest = []; begins = refl; new_is = refl } }; request = 7 ∷ 1 ∷ 0 ∷ 3 ∷ []; asks = (Said.Asks (Psync (Some (0, 3))), refl, refl); becomes = record { nodes = set_node_0 _ _ _; links = set_link_3 _ _ _ _ _; book = λ m. refl } })) }

step_50 : Row (moment_49) (Event.Deliver 3 Server 4) moment_50
step_50 = record { at = record { link = link3_4; found = refl; n = 1; to = refl; serving = refl; node = node1_9; node_found = refl }; sent = let h : 4 ≤ 4 = omega arith in h; does = Unless.acts refl (record { nodes = λ m. refl; links = set_link_3 _ _ _ _ _; book = λ m. refl }) }

step_51 : Row (moment_50) (Event.Step 3 Server tt 2) moment_51
step_51 = record { at = record { link = link3_5; found = refl; n = 1; to = refl; serving = refl; node = node1_9; node_found = refl }; does = Unless.acts refl (ServerRow.goes_on (record { client = refl; master = refl; id = 0; from = 3; uses = record { text = 7 ∷ 1 ∷ 0 ∷ 3 ∷ []; asks = (Said.Asks (Psync (Some (0, 3))), refl, refl); left = record { left = []; taken = 0 }; reads = record { rest = []; begins = refl; new_is = refl } }; continues = record { known = inr (3, refl, let h : 3 ≤ 3 = omega arith in h); from_first = let h : 5 ≤ 7 = omega arith in h; to_end = let h : 3 ≤ 5 = omega arith in h }; line = 3 ∷ 2 ∷ []; says = refl; becomes = record { nodes = λ m. refl; links = set_link_3 _ _ _ _ _; book = λ m. refl } })) }

step_52 : Row (moment_51) (Event.Deliver 3 Dialler 4) moment_52
step_52 = inl (record { at = record { link = link3_6; found = refl; n = 0; node = node0_6; node_found = refl; phase = Asked; follow = refl }; sent = let h : 4 ≤ 4 = omega arith in h; does = Unless.acts refl (record { nodes = λ m. refl; links = set_link_3 _ _ _ _ _; book = λ m. refl }) })

step_53 : Row (moment_52) (Event.Step 3 Dialler tt 2) moment_53
step_53 = record { at = record { link = link3_7; found = refl; n = 0; node = node0_6; node_found = refl; phase = Asked; follow = refl }; does = Unless.acts refl (FollowerRow.hears_continue (record { phase = refl; offered = refl; id = 2; hears = record { text = 3 ∷ 2 ∷ []; says = refl; left = record { left = 1 ∷ 8 ∷ []; taken = 2 }; reads = record { rest = 1 ∷ 8 ∷ []; begins = refl; new_is = refl } }; becomes = record { nodes = set_node_0 _ _ _; links = set_link_3 _ _ _ _ _; book = λ m. refl } })) }

step_54 : Row (moment_53) (Event.Step 3 Dialler tt 2) moment_54
step_54 = record { at = record { link = link3_8; found = refl; n = 0; node = node0_7; node_found = refl; phase = Stream; follow = refl }; does = Unless.acts refl (FollowerRow.applies (record { phase = refl; effect = 8; good = tt; left = record { left = []; taken = 0 }; reads = record { rest = []; begins = refl; new_is = refl }; held = 8 ∷ 7 ∷ []; applies = refl; within = let h : 4 ≤ 6 = omega arith in h; backlog = 1 ∷ 7 ∷ 1 ∷ 8 ∷ []; last_bytes = ([], refl); becomes = record { nodes = set_node_0 _ _ _; links = set_link_3 _ _ _ _ _; book = λ m. refl } })) }

pub story_is_a_run : Moments (nowhere tiny) events moments
story_is_a_run = (step_1, (step_2, (step_3, (step_4, (step_5, (step_6, (step_7, (step_8, (step_9, (step_10, (step_11, (step_12, (step_13, (step_14, (step_15, (step_16, (step_17, (step_18, (step_19, (step_20, (step_21, (step_22, (step_23, (step_24, (step_25, (step_26, (step_27, (step_28, (step_29, (step_30, (step_31, (step_32, (step_33, (step_34, (step_35, (step_36, (step_37, (step_38, (step_39, (step_40, (step_41, (step_42, (step_43, (step_44, (step_45, (step_46, (step_47, (step_48, (step_49, (step_50, (step_51, (step_52, (step_53, (step_54, tt))))))))))))))))))))))))))))))))))))))))))))))))))))))

nothing_left : Usable tiny Stream [] → ⊥
nothing_left (a_reply j text rest line p says e) = absurd (cc)
nothing_left (an_answer text rest line p says e) = absurd (cc)
nothing_left (a_snapshot i o text rest m p loads e) = absurd (cc)
nothing_left (an_effect e rest p good q) = absurd (cc)

pub ends_level : EndsLevel
ends_level = record {
  link = link3_9;
  found = refl;
  n = 0;
  replica_found = refl;
  replica_up = refl;
  phase = Stream;
  follow = refl;
  m = 1;
  to = refl;
  master_found = refl;
  master_up = refl;
  serving = refl;
  streams = refl;
  all_taken = let h : 0 ≤ 0 = omega arith in h;
  nothing_left = nothing_left;
}
