-- Each moment of the run in which links wait follows by its row.
use Rattle.std.proofs.Common.{ℕ, zero, suc, [], ◌∷◌, ◌≤◌, ◌≡◌, ◌≢◌, None, Some, true, false, refl, sym, ap, inl, arith}
use Rattle.std.proofs.lemmas.List.Elements.{All-nil, All-cons}
use Rattle.law_protocol.specs.Language.Line.{Plain}
use Rattle.law_protocol.specs.Language.Request.{Handshake, Command}
use Rattle.law_protocol.specs.Node.Phase.{Greet}
use Rattle.law_protocol.specs.World.{Link, told_if}
use Rattle.law_protocol.specs.World as world
use Rattle.law_protocol.specs.Changing.{Unless}
use Rattle.law_protocol.specs.ServerRows.{ServerRow}
use Rattle.law_protocol.specs.FollowerRows.{FollowerRow}
use Rattle.law_protocol.specs.Rows.{Opens, Calls, Accepts, Row}
use Rattle.law_protocol.specs.Runs.{nowhere, Moments}
use Rattle.law_protocol.specs.Event.{Event}
use Rattle.law_protocol.specs.Event.Side.{Server, Dialler}
use Rattle.law_protocol.proofs.Fronts.{some_is}
use Rattle.law_protocol.proofs.Keeping.{none_some}
use Rattle.law_protocol_example.specs.Looks.{look}
use Rattle.law_protocol_example.specs.Tiny.{tiny, Said}
use Rattle.law_protocol_example.specs.Transfer.{before, history}
use Rattle.law_protocol_example.specs.LateAccept.{later, replica, greeting, waits, asks, hears, client_0, client_1, client_2, client_3, events, moments, IsAnsweredLate, moment_1, moment_2, moment_3, moment_4, moment_5, moment_6, moment_7, moment_8, moment_9, moment_10, moment_11, moment_12, moment_13, moment_14, moment_15, moment_16, moment_17, moment_18, moment_19, moment_20}
use Rattle.law_protocol_example.proofs.Looking.{added, changed}
use Rattle.law_protocol_example.proofs.StoryRun.{plain_is_no_refusal}

none_comes : (j : ℕ) → j ≢ 1 → look (waits ∷ client_2 ∷ []) j ≡ None → look (waits ∷ client_3 ∷ []) j ≡ None
none_comes zero h e = absurd (none_some None waits refl (sym e))
none_comes (suc zero) h e = absurd (h refl)
none_comes (suc (suc j)) h e = refl

-- the link that waits isn't sent what the stream grew by
waits_on : (j : ℕ) (x : Link) → j ≢ 1 → look (waits ∷ client_2 ∷ []) j ≡ Some x → look (waits ∷ client_3 ∷ []) j ≡ Some (told_if (world.hears 0 x) x (1 ∷ 7 ∷ []))
waits_on zero x h e = ap (λ x. Some (told_if (world.hears 0 x) x (1 ∷ 7 ∷ []))) (some_is waits x e)
waits_on (suc zero) x h e = absurd (h refl)
waits_on (suc (suc j)) x h e = none_some None x refl e

step_1 : Row (nowhere tiny) (Event.Start 0 true) moment_1
step_1 = record { node = 0; new_node = refl; unnamed = λ l k e. none_some None k refl e; nodes = added [] before; links = λ m. refl; book = record { new_id = refl; book = added [] (history []) } }

step_2 : Row moment_1 (Event.Start 1 false) moment_2
step_2 = record { node = 1; new_node = refl; unnamed = λ l k e. none_some None k refl e; nodes = added (before ∷ []) (replica None); links = λ m. refl; book = record { new_id = refl; book = added (history [] ∷ []) (history []) } }

step_3 : Row moment_2 (Event.Connect 1) moment_3
step_3 = record { node = replica None; found = refl; replica = refl; waiting = refl; does = Unless.acts refl (Calls.connects (record { link = 0; new_link = refl; request = 6 ∷ []; asks = (Said.Asks Handshake, refl, refl); nodes = changed (before ∷ replica None ∷ []) 1 _ (replica (greeting 0 0)) refl; links = added [] waits; book = λ m. refl })) }

step_4 : Row moment_3 (Event.Client 0) moment_4
step_4 = record { node = before; found = refl; does = Unless.acts refl (Opens.opens 1 refl (record { nodes = λ m. refl; links = added (waits ∷ []) client_0; book = λ m. refl })) }

step_5 : Row moment_4 (Event.Command 1 (10 ∷ [])) moment_5
step_5 = record { link = client_0; found = refl; client = refl; becomes = record { nodes = λ m. refl; links = changed (waits ∷ client_0 ∷ []) 1 _ client_1 refl; book = λ m. refl } }

step_6 : Row moment_5 (Event.Deliver 1 Server 1) moment_6
step_6 = record { at = record { link = client_1; found = refl; n = 0; to = refl; serving = refl; node = before; node_found = refl }; sent = let h : 1 ≤ 1 = omega arith in h; does = Unless.acts refl (record { nodes = λ m. refl; links = changed (waits ∷ client_1 ∷ []) 1 _ client_2 refl; book = λ m. refl }) }

step_7 : Row moment_6 (Event.Step 1 Server tt 2) moment_7
step_7 = record {
  at = record { link = client_2; found = refl; n = 0; to = refl; serving = refl; node = before; node_found = refl };
  does = Unless.acts refl (ServerRow.runs (record {
    client = refl;
    master = refl;
    uses = record { text = 10 ∷ []; asks = (Said.Asks Command, refl, refl); left = record { left = []; taken = 0 }; reads = record { rest = []; begins = refl; new_is = refl } };
    effects = 7 ∷ [];
    of_request = tt;
    grown = record { good = All-cons tiny.IsGood 7 [] tt (All-nil tiny.IsGood); within = let h : 2 ≤ 6 = omega arith in h; held = 7 ∷ []; folds = refl; backlog = 1 ∷ 7 ∷ []; last_bytes = ([], refl); nodes = changed (before ∷ replica (greeting 0 0) ∷ []) 0 _ later refl; book = record { history = history []; found = refl; book = changed (history [] ∷ history [] ∷ []) 0 _ (history (7 ∷ [])) refl } };
    transaction = None;
    leads = refl;
    reply = 99 ∷ [];
    link = refl;
    no_links = none_comes;
    links = waits_on;
  }));
}

step_8 : Row moment_7 (Event.Accept 0 0) moment_8
step_8 = record { link = waits; found = refl; waiting = refl; node = later; node_found = refl; does = Unless.acts refl (Accepts.accepts (record { nodes = λ m. refl; links = changed (waits ∷ client_3 ∷ []) 0 _ (asks 0 0) refl; book = λ m. refl })) }

step_9 : Row moment_8 (Event.Deliver 0 Server 1) moment_9
step_9 = record { at = record { link = asks 0 0; found = refl; n = 0; to = refl; serving = refl; node = later; node_found = refl }; sent = let h : 1 ≤ 1 = omega arith in h; does = Unless.acts refl (record { nodes = λ m. refl; links = changed (asks 0 0 ∷ client_3 ∷ []) 0 _ (asks 0 1) refl; book = λ m. refl }) }

step_10 : Row moment_9 (Event.Step 0 Server tt 2) moment_10
step_10 = record { at = record { link = asks 0 1; found = refl; n = 0; to = refl; serving = refl; node = later; node_found = refl }; does = Unless.acts refl (ServerRow.greets (record { client = refl; uses = record { text = 6 ∷ []; asks = (Said.Asks Handshake, refl, refl); left = record { left = []; taken = 0 }; reads = record { rest = []; begins = refl; new_is = refl } }; reply = 4 ∷ []; plain = refl; becomes = record { nodes = λ m. refl; links = changed (asks 0 1 ∷ client_3 ∷ []) 0 _ (hears 0) refl; book = λ m. refl } })) }

step_11 : Row moment_10 (Event.Deliver 0 Dialler 1) moment_11
step_11 = inl (record { at = record { link = hears 0; found = refl; n = 1; node = replica (greeting 0 0); node_found = refl; phase = Greet 0; follow = refl }; sent = let h : 1 ≤ 1 = omega arith in h; does = Unless.acts refl (record { nodes = λ m. refl; links = changed (hears 0 ∷ client_3 ∷ []) 0 _ (hears 1) refl; book = λ m. refl }) })

step_12 : Row moment_11 (Event.Step 0 Dialler tt 2) moment_12
step_12 = record { at = record { link = hears 1; found = refl; n = 1; node = replica (greeting 0 0); node_found = refl; phase = Greet 0; follow = refl }; does = Unless.acts refl (FollowerRow.hears_reply (record { number = 0; phase = refl; not_last = omega arith; line = Plain; plus = plain_is_no_refusal; hears = record { text = 4 ∷ []; says = refl; left = record { left = []; taken = 0 }; reads = record { rest = []; begins = refl; new_is = refl } }; request = 6 ∷ []; asks = (Said.Asks Handshake, refl, refl); becomes = record { nodes = changed (later ∷ replica (greeting 0 0) ∷ []) 1 _ (replica (greeting 0 1)) refl; links = changed (hears 1 ∷ client_3 ∷ []) 0 _ (asks 0 0) refl; book = λ m. refl } })) }

step_13 : Row moment_12 (Event.Break 0 Dialler) moment_13
step_13 = inl (record { at = record { link = asks 0 0; found = refl; n = 1; node = replica (greeting 0 1); node_found = refl; phase = Greet 1; follow = refl }; does = Unless.acts refl (record { nodes = changed (later ∷ replica (greeting 0 1) ∷ []) 1 _ (replica None) refl; links = λ m. refl; book = λ m. refl }) })

step_14 : Row moment_13 (Event.Connect 1) moment_14
step_14 = record { node = replica None; found = refl; replica = refl; waiting = refl; does = Unless.acts refl (Calls.connects (record { link = 2; new_link = refl; request = 6 ∷ []; asks = (Said.Asks Handshake, refl, refl); nodes = changed (later ∷ replica None ∷ []) 1 _ (replica (greeting 2 0)) refl; links = added (asks 0 0 ∷ client_3 ∷ []) waits; book = λ m. refl })) }

step_15 : Row moment_14 (Event.Break 2 Dialler) moment_15
step_15 = inl (record { at = record { link = waits; found = refl; n = 1; node = replica (greeting 2 0); node_found = refl; phase = Greet 0; follow = refl }; does = Unless.acts refl (record { nodes = changed (later ∷ replica (greeting 2 0) ∷ []) 1 _ (replica None) refl; links = λ m. refl; book = λ m. refl }) })

step_16 : Row moment_15 (Event.Accept 2 0) moment_16
step_16 = record { link = waits; found = refl; waiting = refl; node = later; node_found = refl; does = Unless.acts refl (Accepts.accepts (record { nodes = λ m. refl; links = changed (asks 0 0 ∷ client_3 ∷ waits ∷ []) 2 _ (asks 0 0) refl; book = λ m. refl })) }

step_17 : Row moment_16 (Event.Deliver 2 Server 1) moment_17
step_17 = record { at = record { link = asks 0 0; found = refl; n = 0; to = refl; serving = refl; node = later; node_found = refl }; sent = let h : 1 ≤ 1 = omega arith in h; does = Unless.acts refl (record { nodes = λ m. refl; links = changed (asks 0 0 ∷ client_3 ∷ asks 0 0 ∷ []) 2 _ (asks 0 1) refl; book = λ m. refl }) }

step_18 : Row moment_17 (Event.Step 2 Server tt 2) moment_18
step_18 = record { at = record { link = asks 0 1; found = refl; n = 0; to = refl; serving = refl; node = later; node_found = refl }; does = Unless.acts refl (ServerRow.greets (record { client = refl; uses = record { text = 6 ∷ []; asks = (Said.Asks Handshake, refl, refl); left = record { left = []; taken = 0 }; reads = record { rest = []; begins = refl; new_is = refl } }; reply = 4 ∷ []; plain = refl; becomes = record { nodes = λ m. refl; links = changed (asks 0 0 ∷ client_3 ∷ asks 0 1 ∷ []) 2 _ (hears 0) refl; book = λ m. refl } })) }

step_19 : Row moment_18 (Event.Connect 1) moment_19
step_19 = record { node = replica None; found = refl; replica = refl; waiting = refl; does = Unless.acts refl (Calls.connects (record { link = 3; new_link = refl; request = 6 ∷ []; asks = (Said.Asks Handshake, refl, refl); nodes = changed (later ∷ replica None ∷ []) 1 _ (replica (greeting 3 0)) refl; links = added (asks 0 0 ∷ client_3 ∷ hears 0 ∷ []) waits; book = λ m. refl })) }

step_20 : Row moment_19 (Event.Accept 3 1) moment_20
step_20 = record { link = waits; found = refl; waiting = refl; node = replica (greeting 3 0); node_found = refl; does = Unless.acts refl (Accepts.accepts (record { nodes = λ m. refl; links = changed (asks 0 0 ∷ client_3 ∷ hears 0 ∷ waits ∷ []) 3 _ (asks 1 0) refl; book = λ m. refl })) }

pub late_accepts_are_a_run : Moments (nowhere tiny) events moments
late_accepts_are_a_run = (step_1, (step_2, (step_3, (step_4, (step_5, (step_6, (step_7, (step_8, (step_9, (step_10, (step_11, (step_12, (step_13, (step_14, (step_15, (step_16, (step_17, (step_18, (step_19, (step_20, tt))))))))))))))))))))

pub is_answered_late : IsAnsweredLate
is_answered_late = (record { node = later; found = refl; up = refl; id = refl; offset = refl; held = refl }, refl, refl)
