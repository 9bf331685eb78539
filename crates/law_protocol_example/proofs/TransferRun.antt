-- Each moment of the run with a transaction follows by its row.
use Rattle.std.proofs.Common.{ℕ, zero, suc, [], ◌∷◌, None, Some, true, false, refl, ◌≤◌, ◌≡◌, ◌≢◌, arith}
use Rattle.std.proofs.lemmas.List.Elements.{All-nil, All-cons}
use Rattle.law_protocol.specs.Language.Request.{Command}
use Rattle.law_protocol.specs.World.{Link}
use Rattle.law_protocol.specs.Changing.{Unless}
use Rattle.law_protocol.specs.ServerRows.{ServerRow}
use Rattle.law_protocol.specs.Rows.{Opens, Row}
use Rattle.law_protocol.specs.Runs.{nowhere, Moments}
use Rattle.law_protocol.specs.Event.{Event}
use Rattle.law_protocol.specs.Event.Side.{Server}
use Rattle.law_protocol.proofs.Keeping.{none_some}
use Rattle.law_protocol_example.specs.Looks.{look}
use Rattle.law_protocol_example.specs.Tiny.{tiny, Said}
use Rattle.law_protocol_example.specs.Transfer.{before, after, history, command, events, moments, ActsAtItsEnd, link_0, link_1, link_2, link_3, link_4, link_5, link_6, link_7, link_8, link_9, link_10, moment_1, moment_2, moment_3, moment_4, moment_5, moment_6, moment_7, moment_8, moment_9, moment_10, moment_11, moment_12}
use Rattle.law_protocol_example.proofs.Looking.{added, changed}

-- where there is one link no other is
no_other_none : (k m : Link) (j : ℕ) → j ≢ 0 → look (k ∷ []) j ≡ None → look (m ∷ []) j ≡ None
no_other_none k m zero h e = absurd (h refl)
no_other_none k m (suc j) h e = refl

no_other : {P : Type 0} (k x : Link) (j : ℕ) → j ≢ 0 → look (k ∷ []) j ≡ Some x → P
no_other k x zero h e = absurd (h refl)
no_other k x (suc j) h e = none_some None x refl e

step_1 : Row (nowhere tiny) (Event.Start 0 true) moment_1
step_1 = record { node = 0; new_node = refl; unnamed = λ l k e. none_some None k refl e; nodes = added [] before; links = λ m. refl; book = record { new_id = refl; book = added [] (history []) } }

step_2 : Row moment_1 (Event.Client 0) moment_2
step_2 = record { node = before; found = refl; does = Unless.acts refl (Opens.opens 0 refl (record { nodes = λ m. refl; links = added [] link_0; book = λ m. refl })) }

step_3 : Row moment_2 (Event.Command 0 (16 ∷ [])) moment_3
step_3 = record { link = link_0; found = refl; client = refl; becomes = record { nodes = λ m. refl; links = changed (link_0 ∷ []) 0 _ link_1 refl; book = λ m. refl } }

step_4 : Row moment_3 (Event.Deliver 0 Server 1) moment_4
step_4 = record { at = record { link = link_1; found = refl; n = 0; to = refl; serving = refl; node = before; node_found = refl }; sent = let h : 1 ≤ 1 = omega arith in h; does = Unless.acts refl (record { nodes = λ m. refl; links = changed (link_1 ∷ []) 0 _ link_2 refl; book = λ m. refl }) }

step_5 : Row moment_4 (Event.Step 0 Server tt 1) moment_5
step_5 = record {
  at = record { link = link_2; found = refl; n = 0; to = refl; serving = refl; node = before; node_found = refl };
  does = Unless.acts refl (ServerRow.runs (record {
    client = refl;
    master = refl;
    uses = record { text = 16 ∷ []; asks = (Said.Begin, refl, refl); left = record { left = []; taken = 0 }; reads = record { rest = []; begins = refl; new_is = refl } };
    effects = [];
    of_request = refl;
    grown = record { good = All-nil tiny.IsGood; within = let h : 0 ≤ 6 = omega arith in h; held = []; folds = refl; backlog = []; last_bytes = ([], refl); nodes = changed (before ∷ []) 0 _ before refl; book = record { history = history []; found = refl; book = changed (history [] ∷ []) 0 _ (history ([])) refl } };
    transaction = Some (record { queued = []; marked = false });
    leads = refl;
    reply = 90 ∷ [];
    link = refl;
    no_links = λ j h e. no_other_none link_2 link_3 j h e;
    links = λ j x h e. no_other link_2 x j h e;
  }));
}

step_6 : Row moment_5 (Event.Command 0 (10 ∷ 10 ∷ [])) moment_6
step_6 = record { link = link_3; found = refl; client = refl; becomes = record { nodes = λ m. refl; links = changed (link_3 ∷ []) 0 _ link_4 refl; book = λ m. refl } }

step_7 : Row moment_6 (Event.Deliver 0 Server 2) moment_7
step_7 = record { at = record { link = link_4; found = refl; n = 0; to = refl; serving = refl; node = before; node_found = refl }; sent = let h : 2 ≤ 2 = omega arith in h; does = Unless.acts refl (record { nodes = λ m. refl; links = changed (link_4 ∷ []) 0 _ link_5 refl; book = λ m. refl }) }

step_8 : Row moment_7 (Event.Step 0 Server tt 1) moment_8
step_8 = record {
  at = record { link = link_5; found = refl; n = 0; to = refl; serving = refl; node = before; node_found = refl };
  does = Unless.acts refl (ServerRow.runs (record {
    client = refl;
    master = refl;
    uses = record { text = 10 ∷ []; asks = (Said.Asks Command, refl, refl); left = record { left = 10 ∷ []; taken = 1 }; reads = record { rest = 10 ∷ []; begins = refl; new_is = refl } };
    effects = [];
    of_request = refl;
    grown = record { good = All-nil tiny.IsGood; within = let h : 0 ≤ 6 = omega arith in h; held = []; folds = refl; backlog = []; last_bytes = ([], refl); nodes = changed (before ∷ []) 0 _ before refl; book = record { history = history []; found = refl; book = changed (history [] ∷ []) 0 _ (history ([])) refl } };
    transaction = Some (record { queued = command ∷ []; marked = false });
    leads = refl;
    reply = 91 ∷ [];
    link = refl;
    no_links = λ j h e. no_other_none link_5 link_6 j h e;
    links = λ j x h e. no_other link_5 x j h e;
  }));
}

step_9 : Row moment_8 (Event.Step 0 Server tt 1) moment_9
step_9 = record {
  at = record { link = link_6; found = refl; n = 0; to = refl; serving = refl; node = before; node_found = refl };
  does = Unless.acts refl (ServerRow.runs (record {
    client = refl;
    master = refl;
    uses = record { text = 10 ∷ []; asks = (Said.Asks Command, refl, refl); left = record { left = []; taken = 0 }; reads = record { rest = []; begins = refl; new_is = refl } };
    effects = [];
    of_request = refl;
    grown = record { good = All-nil tiny.IsGood; within = let h : 0 ≤ 6 = omega arith in h; held = []; folds = refl; backlog = []; last_bytes = ([], refl); nodes = changed (before ∷ []) 0 _ before refl; book = record { history = history []; found = refl; book = changed (history [] ∷ []) 0 _ (history ([])) refl } };
    transaction = Some (record { queued = command ∷ command ∷ []; marked = false });
    leads = refl;
    reply = 91 ∷ [];
    link = refl;
    no_links = λ j h e. no_other_none link_6 link_7 j h e;
    links = λ j x h e. no_other link_6 x j h e;
  }));
}

step_10 : Row moment_9 (Event.Command 0 (17 ∷ [])) moment_10
step_10 = record { link = link_7; found = refl; client = refl; becomes = record { nodes = λ m. refl; links = changed (link_7 ∷ []) 0 _ link_8 refl; book = λ m. refl } }

step_11 : Row moment_10 (Event.Deliver 0 Server 1) moment_11
step_11 = record { at = record { link = link_8; found = refl; n = 0; to = refl; serving = refl; node = before; node_found = refl }; sent = let h : 1 ≤ 1 = omega arith in h; does = Unless.acts refl (record { nodes = λ m. refl; links = changed (link_8 ∷ []) 0 _ link_9 refl; book = λ m. refl }) }

step_12 : Row moment_11 (Event.Step 0 Server tt 1) moment_12
step_12 = record {
  at = record { link = link_9; found = refl; n = 0; to = refl; serving = refl; node = before; node_found = refl };
  does = Unless.acts refl (ServerRow.runs (record {
    client = refl;
    master = refl;
    uses = record { text = 17 ∷ []; asks = (Said.End, refl, refl); left = record { left = []; taken = 0 }; reads = record { rest = []; begins = refl; new_is = refl } };
    effects = 7 ∷ 8 ∷ [];
    of_request = refl;
    grown = record { good = All-cons tiny.IsGood 7 (8 ∷ []) tt (All-cons tiny.IsGood 8 [] tt (All-nil tiny.IsGood)); within = let h : 4 ≤ 6 = omega arith in h; held = 8 ∷ 7 ∷ []; folds = refl; backlog = 1 ∷ 7 ∷ 1 ∷ 8 ∷ []; last_bytes = ([], refl); nodes = changed (before ∷ []) 0 _ after refl; book = record { history = history []; found = refl; book = changed (history [] ∷ []) 0 _ (history (7 ∷ 8 ∷ [])) refl } };
    transaction = None;
    leads = refl;
    reply = 92 ∷ [];
    link = refl;
    no_links = λ j h e. no_other_none link_9 link_10 j h e;
    links = λ j x h e. no_other link_9 x j h e;
  }));
}

pub transfer_is_a_run : Moments (nowhere tiny) events moments
transfer_is_a_run = (step_1, (step_2, (step_3, (step_4, (step_5, (step_6, (step_7, (step_8, (step_9, (step_10, (step_11, (step_12, tt))))))))))))

pub acts_at_its_end : ActsAtItsEnd
acts_at_its_end = (record { node = before; found = refl; up = refl; id = refl; offset = refl; held = refl }, record { node = after; found = refl; up = refl; id = refl; offset = refl; held = refl })
