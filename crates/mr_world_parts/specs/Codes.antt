-- Worlds as pairs, by which a proof tells them apart.
use Rattle.std.specs.Prelude.{◌≡◌, ℕ, List, Bool, true, Option, None, Some, refl}
use Rattle.std.specs.Coded.{Coded, code_by, coded×, coded_ℕ, coded_bool, coded_list, coded_option}
use Rattle.mr_links.specs.LinkId.{coded_id}
use Rattle.mr_links.specs.declared.link_id.LinkId.{LinkId}
use Rattle.mr_node_spec.specs.State.{NodeState, node_code}
use Rattle.law_refinement.specs.Way.{WayState}
use Rattle.law_refinement.specs.State.{Caller, a_client, a_node, Link, Slot, BookEntry, WorldState}

abbrev pub way_code : Coded WayState
way_code = code_by (List ℕ × (ℕ × ℕ)) (coded× (coded_list coded_ℕ) (coded× coded_ℕ coded_ℕ)) (λ w. (w.sent, (w.taken, w.used))) (λ p. record { sent = p.0; taken = p.1.0; used = p.1.1 }) (λ _. refl)

abbrev pub caller_as : Option (ℕ × LinkId) → Bool → Caller
caller_as None asking = a_client asking
caller_as (Some p) asking = a_node p.0 p.1

abbrev pub caller_parts : Caller → Option (ℕ × LinkId) × Bool
caller_parts (a_client b) = (None, b)
caller_parts (a_node n name) = (Some (n, name), true)

abbrev pub caller_again : (c : Caller) → caller_as (caller_parts c).0 (caller_parts c).1 ≡ c
caller_again (a_client b) = refl
caller_again (a_node n name) = refl

abbrev pub caller_code : Coded Caller
caller_code = code_by (Option (ℕ × LinkId) × Bool) (coded× (coded_option (coded× coded_ℕ coded_id)) coded_bool) caller_parts (λ p. caller_as p.0 p.1) caller_again

abbrev pub slot_code : Coded Slot
slot_code = code_by (NodeState × (List ℕ × (Bool × ℕ))) (coded× node_code (coded× (coded_list coded_ℕ) (coded× coded_bool coded_ℕ))) (λ s. (s.node, (s.file, (s.as_master, s.dialled))))
    (λ p. record { node = p.0; file = p.1.0; as_master = p.1.1.0; dialled = p.1.1.1 }) (λ _. refl)

abbrev pub link_code : Coded Link
link_code = code_by (Caller × (Bool × (ℕ × (LinkId × (Bool × (Bool × (WayState × WayState)))))))
    (coded× caller_code (coded× coded_bool (coded× coded_ℕ (coded× coded_id (coded× coded_bool (coded× coded_bool (coded× way_code way_code)))))))
    (λ k. (k.caller, (k.waits, (k.to, (k.name, (k.serving, (k.streams, (k.ask, k.tell))))))))
    (λ p. record { caller = p.0; waits = p.1.0; to = p.1.1.0; name = p.1.1.1.0; serving = p.1.1.1.1.0; streams = p.1.1.1.1.1.0; ask = p.1.1.1.1.1.1.0; tell = p.1.1.1.1.1.1.1 }) (λ _. refl)

abbrev pub entry_code : Coded BookEntry
entry_code = code_by (List ℕ × (List ℕ × List ℕ)) (coded× (coded_list coded_ℕ) (coded× (coded_list coded_ℕ) (coded_list coded_ℕ))) (λ e. (e.id, (e.start, e.texts)))
    (λ p. record { id = p.0; start = p.1.0; texts = p.1.1 }) (λ _. refl)

abbrev pub world_code : Coded WorldState
world_code = code_by (List Slot × (List Link × List BookEntry)) (coded× (coded_list slot_code) (coded× (coded_list link_code) (coded_list entry_code))) (λ w. (w.slots, (w.links, w.book)))
    (λ p. record { slots = p.0; links = p.1.0; book = p.1.1 }) (λ _. refl)
