-- How what was carried of outs is taken back, where there is no memory for the rest.
use Rattle.std.specs.Prelude.{◌-◌, ◌&&◌, ℕ, List, Bool, true, false, Option, None, Some, length, take, slice_get, slice_set}
use Rattle.mr_links.specs.declared.link_id.LinkId.{LinkId}
use Rattle.mr_node_links.specs.Replicas.{is_named}
use Rattle.mr_node_output.specs.Outs.{OutsState}
use Rattle.law_refinement.specs.Way.{WayState, sent_on}
use Rattle.law_refinement.specs.State.{Link}
use Rattle.law_refinement.specs.Carrying.{fed_if, is_at, shut_if}

-- the last bytes weren't sent, so many
abbrev pub unsent : ℕ → WayState → WayState
unsent count w = record w { sent = take (length w.sent - count) w.sent }

abbrev pub untold : ℕ → Link → Link
untold count k = record k { tell = unsent count k.tell }

-- what the caller sends, and what it didn't
abbrev pub asked : List ℕ → Link → Link
asked bytes k = record k { ask = sent_on bytes k.ask }

abbrev pub unasked : ℕ → Link → Link
unasked count k = record k { ask = unsent count k.ask }

abbrev pub unfed_if : Bool → ℕ → Link → Link
unfed_if true count k = untold count k
unfed_if false count k = k

-- what the outs of a node do to one link: what the stream grew by is sent, taken back, and the end closes
abbrev pub fed_by : ℕ → OutsState → Link → Link
fed_by n outs k = fed_if (is_at n k && is_named outs.fed k.name) outs.grown k

abbrev pub unfed_by : ℕ → OutsState → Link → Link
unfed_by n outs k = unfed_if (is_at n k && is_named outs.fed k.name) (length outs.grown) k

abbrev pub shut_by : ℕ → OutsState → Link → Link
shut_by n outs k = shut_if (is_at n k && is_named outs.closed k.name) k

-- what a node said to its master, taken back
abbrev pub unsaid_by : Option Link → ℕ → ℕ → List Link → List Link
unsaid_by None l count links = links
unsaid_by (Some k) l count links = slice_set links l (unasked count k)

abbrev pub unsaid_on : Option LinkId → ℕ → ℕ → List Link → List Link
unsaid_on None l count links = links
unsaid_on (Some name) l count links = unsaid_by (slice_get links l) l count links
