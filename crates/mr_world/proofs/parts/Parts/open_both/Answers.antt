use Rattle.std.proofs.Common.{rules, ◌≡◌, ◌<◌, ◌++◌, ◌∷◌, [], ◌∙◌, true, Err, List, length, sym, ap, subst}
use Rattle.std.specs.Prelude.{slice_set}
use Rattle.mr_follower.specs.Handshake.{ping_line}
use Rattle.mr_node.specs.Calls.{OpenRow}
use Rattle.law_refinement.specs.Way.{no_way, sent_on}
use Rattle.law_refinement.specs.State.{Link, Slot, WorldState}
use Rattle.law_refinement.proofs.Places.{is_within}
use Rattle.mr_world_parts.specs.AtNode.{DialsBy}
use Rattle.mr_world.specs.Connecting.{BothRun, Dialled}
use Rattle.mr_world.proofs.Meeting.{connects_here, read_of, same_again, same_none, server_stops_here, set_within, still_last, still_open, stood, stops_again, waits_alone, waits_replica}
use Rattle.mr_world.proofs.parts.Parts.open_both.Goals as goal

pub index_mut-requires : goal.index_mut-requires
index_mut-requires c =
    let w : WorldState = record { slots = c.self.inside.slots.items; links = c.self.inside.links.items; book = c.self.inside.book.items } in
    let runs : BothRun w c.args.n c.args.m = subst (λ (z : WorldState). BothRun z c.args.n c.args.m) (sym c.self.view_is) c.requires.both in
    let m_in : c.args.m < length c.self.inside.slots.items = is_within c.self.inside.slots.items c.args.m runs.can.server runs.can.found in
    search rules

pub index_mut-requires-2 : goal.index_mut-requires-2
index_mut-requires-2 c =
    let w : WorldState = record { slots = c.self.inside.slots.items; links = c.self.inside.links.items; book = c.self.inside.book.items } in
    let runs : BothRun w c.args.n c.args.m = subst (λ (z : WorldState). BothRun z c.args.n c.args.m) (sym c.self.view_is) c.requires.both in
    let n_in : c.args.n < length c.self.inside.slots.items = is_within c.self.inside.slots.items c.args.n runs.can.dialler runs.can.at in
    let still : c.args.n < length (slice_set c.self.inside.slots.items c.args.m c.open.new.self) = set_within c.self.inside.slots.items c.args.m c.args.n c.open.new.self n_in in
    search rules

pub dial-requires-clause-replica : goal.dial-requires-clause-replica
dial-requires-clause-replica c =
    let w : WorldState = record { slots = c.self.inside.slots.items; links = c.self.inside.links.items; book = c.self.inside.book.items } in
    let runs : BothRun w c.args.n c.args.m = subst (λ (z : WorldState). BothRun z c.args.n c.args.m) (sym c.self.view_is) c.requires.both in
    let n_in : c.args.n < length c.self.inside.slots.items = is_within c.self.inside.slots.items c.args.n runs.can.dialler runs.can.at in
    let m_in : c.args.m < length c.self.inside.slots.items = is_within c.self.inside.slots.items c.args.m runs.can.server runs.can.found in
    let serving : c.index_mut.result.now.node.core.up ≡ true = subst (λ (z : Slot). z.node.core.up ≡ true) (read_of c.self.inside.slots.items c.args.m runs.can.server c.index_mut.result.now runs.can.found c.index_mut.ensures.value) runs.server_up in
    let opens = c.in-Ok-open.ensures.row.1 in
    waits_replica w c.args.n c.args.m runs.can.dialler c.index_mut.result.now n_in (stood c.self.inside.slots.items c.args.n runs.can.dialler runs.can.at) m_in c.index_mut.ensures.value runs.can.replica runs.can.alone runs.dialler_up serving c.open.new.self c.index_mut-2.result.now c.in-Ok-open.at c.open.ensures.rest opens c.index_mut-2.ensures.value

pub dial-requires-clause-alone : goal.dial-requires-clause-alone
dial-requires-clause-alone c =
    let w : WorldState = record { slots = c.self.inside.slots.items; links = c.self.inside.links.items; book = c.self.inside.book.items } in
    let runs : BothRun w c.args.n c.args.m = subst (λ (z : WorldState). BothRun z c.args.n c.args.m) (sym c.self.view_is) c.requires.both in
    let n_in : c.args.n < length c.self.inside.slots.items = is_within c.self.inside.slots.items c.args.n runs.can.dialler runs.can.at in
    let m_in : c.args.m < length c.self.inside.slots.items = is_within c.self.inside.slots.items c.args.m runs.can.server runs.can.found in
    let serving : c.index_mut.result.now.node.core.up ≡ true = subst (λ (z : Slot). z.node.core.up ≡ true) (read_of c.self.inside.slots.items c.args.m runs.can.server c.index_mut.result.now runs.can.found c.index_mut.ensures.value) runs.server_up in
    let opens = c.in-Ok-open.ensures.row.1 in
    waits_alone w c.args.n c.args.m runs.can.dialler c.index_mut.result.now n_in (stood c.self.inside.slots.items c.args.n runs.can.dialler runs.can.at) m_in c.index_mut.ensures.value runs.can.replica runs.can.alone runs.dialler_up serving c.open.new.self c.index_mut-2.result.now c.in-Ok-open.at c.open.ensures.rest opens c.index_mut-2.ensures.value

pub returns-then-is_err : goal.returns-then-is_err
returns-then-is_err c =
    let w : WorldState = record { slots = c.self.inside.slots.items; links = c.self.inside.links.items; book = c.self.inside.book.items } in
    (c.requires.both, ap (λ (z : List Link). record w { links = z }) c.reserve.ensures.items ∙ c.self.view_is)

pub returns-in-Err-Memory : goal.returns-in-Err-Memory
returns-in-Err-Memory c =
    let w : WorldState = record { slots = c.self.inside.slots.items; links = c.self.inside.links.items; book = c.self.inside.book.items } in
    let runs : BothRun w c.args.n c.args.m = subst (λ (z : WorldState). BothRun z c.args.n c.args.m) (sym c.self.view_is) c.requires.both in
    let n_in : c.args.n < length c.self.inside.slots.items = is_within c.self.inside.slots.items c.args.n runs.can.dialler runs.can.at in
    let m_in : c.args.m < length c.self.inside.slots.items = is_within c.self.inside.slots.items c.args.m runs.can.server runs.can.found in
    let serving : c.index_mut.result.now.node.core.up ≡ true = subst (λ (z : Slot). z.node.core.up ≡ true) (read_of c.self.inside.slots.items c.args.m runs.can.server c.index_mut.result.now runs.can.found c.index_mut.ensures.value) runs.server_up in
    let row = subst (λ r. OpenRow c.index_mut.result.now.node c.open.new.self.node r) (c.in-Err-Memory.is ∙ ap Err c.in-Err-Memory.field-0-is) c.open.ensures.row in
    (c.requires.both, same_none w c.args.n c.args.m runs.can.dialler c.index_mut.result.now n_in (stood c.self.inside.slots.items c.args.n runs.can.dialler runs.can.at) m_in c.index_mut.ensures.value runs.can.replica runs.can.alone runs.dialler_up serving c.open.new.self c.reserve.new.self.items row.1 c.open.ensures.rest c.reserve.ensures.items ∙ c.self.view_is)

pub returns-in-Err-Stopped : goal.returns-in-Err-Stopped
returns-in-Err-Stopped c =
    let w : WorldState = record { slots = c.self.inside.slots.items; links = c.self.inside.links.items; book = c.self.inside.book.items } in
    let runs : BothRun w c.args.n c.args.m = subst (λ (z : WorldState). BothRun z c.args.n c.args.m) (sym c.self.view_is) c.requires.both in
    let n_in : c.args.n < length c.self.inside.slots.items = is_within c.self.inside.slots.items c.args.n runs.can.dialler runs.can.at in
    let m_in : c.args.m < length c.self.inside.slots.items = is_within c.self.inside.slots.items c.args.m runs.can.server runs.can.found in
    let serving : c.index_mut.result.now.node.core.up ≡ true = subst (λ (z : Slot). z.node.core.up ≡ true) (read_of c.self.inside.slots.items c.args.m runs.can.server c.index_mut.result.now runs.can.found c.index_mut.ensures.value) runs.server_up in
    let row = subst (λ r. OpenRow c.index_mut.result.now.node c.open.new.self.node r) (c.in-Err-Stopped.is ∙ ap Err c.in-Err-Stopped.field-0-is) c.open.ensures.row in
    (c.requires.both.can, subst (λ (z : WorldState). Dialled z c.args.n c.args.m (record w { slots = slice_set w.slots c.args.m c.open.new.self; links = c.reserve.new.self.items })) c.self.view_is (server_stops_here w c.args.n c.args.m runs.can.dialler c.index_mut.result.now n_in (stood c.self.inside.slots.items c.args.n runs.can.dialler runs.can.at) m_in c.index_mut.ensures.value runs.can.replica runs.can.alone runs.dialler_up serving c.open.new.self c.reserve.new.self.items row c.open.ensures.rest c.reserve.ensures.items))

pub returns-in-Ok-dial : goal.returns-in-Ok-dial
returns-in-Ok-dial c =
    let w : WorldState = record { slots = c.self.inside.slots.items; links = c.self.inside.links.items; book = c.self.inside.book.items } in
    let runs : BothRun w c.args.n c.args.m = subst (λ (z : WorldState). BothRun z c.args.n c.args.m) (sym c.self.view_is) c.requires.both in
    let n_in : c.args.n < length c.self.inside.slots.items = is_within c.self.inside.slots.items c.args.n runs.can.dialler runs.can.at in
    let m_in : c.args.m < length c.self.inside.slots.items = is_within c.self.inside.slots.items c.args.m runs.can.server runs.can.found in
    let serving : c.index_mut.result.now.node.core.up ≡ true = subst (λ (z : Slot). z.node.core.up ≡ true) (read_of c.self.inside.slots.items c.args.m runs.can.server c.index_mut.result.now runs.can.found c.index_mut.ensures.value) runs.server_up in
    let opens = c.in-Ok-open.ensures.row.1 in
    let row = c.in-Ok-dial.ensures.row in
    let ask : c.in-Ok.ask ≡ sent_on ping_line no_way = search rules in
    let links : c.push.new.self.items ≡ c.self.inside.links.items ++ c.of_node.result ∷ [] = c.in-Ok-push.ensures.items ∙ ap (λ (z : List Link). z ++ c.of_node.result ∷ []) c.reserve.ensures.items in
    let place : c.len-l.result ≡ length c.self.inside.links.items = search rules in (
      c.requires.both.can,
      subst (λ (z : WorldState). Dialled z c.args.n c.args.m (record w { slots = slice_set (slice_set w.slots c.args.m c.open.new.self) c.args.n c.dial.new.self; links = c.push.new.self.items })) c.self.view_is
          (connects_here w c.args.n c.args.m runs.can.dialler c.index_mut.result.now n_in (stood c.self.inside.slots.items c.args.n runs.can.dialler runs.can.at) m_in c.index_mut.ensures.value runs.can.replica runs.can.alone runs.dialler_up serving c.open.new.self c.index_mut-2.result.now c.in-Ok-open.at c.open.ensures.rest opens c.index_mut-2.ensures.value
          c.dial.new.self c.in-Ok-dial.name row.0 c.of_node.result c.push.new.self.items c.len-l.result c.in-Ok.ask place row.2 c.dial.ensures.sound c.in-Ok-dial.ensures.ok ask c.of_node.ensures links),
    )

pub index_mut-requires-in-Err : goal.index_mut-requires-in-Err
index_mut-requires-in-Err c =
    let w : WorldState = record { slots = c.self.inside.slots.items; links = c.self.inside.links.items; book = c.self.inside.book.items } in
    let runs : BothRun w c.args.n c.args.m = subst (λ (z : WorldState). BothRun z c.args.n c.args.m) (sym c.self.view_is) c.requires.both in
    let m_in : c.args.m < length c.self.inside.slots.items = is_within c.self.inside.slots.items c.args.m runs.can.server runs.can.found in
    let still : c.args.m < length (slice_set (slice_set c.self.inside.slots.items c.args.m c.open.new.self) c.args.n c.dial.new.self) = set_within (slice_set c.self.inside.slots.items c.args.m c.open.new.self) c.args.n c.args.m c.dial.new.self (set_within c.self.inside.slots.items c.args.m c.args.m c.open.new.self m_in) in
    search rules

pub take_back-requires-clause-open : goal.take_back-requires-clause-open
take_back-requires-clause-open c =
    let w : WorldState = record { slots = c.self.inside.slots.items; links = c.self.inside.links.items; book = c.self.inside.book.items } in
    let runs : BothRun w c.args.n c.args.m = subst (λ (z : WorldState). BothRun z c.args.n c.args.m) (sym c.self.view_is) c.requires.both in
    let n_in : c.args.n < length c.self.inside.slots.items = is_within c.self.inside.slots.items c.args.n runs.can.dialler runs.can.at in
    let m_in : c.args.m < length c.self.inside.slots.items = is_within c.self.inside.slots.items c.args.m runs.can.server runs.can.found in
    let serving : c.index_mut.result.now.node.core.up ≡ true = subst (λ (z : Slot). z.node.core.up ≡ true) (read_of c.self.inside.slots.items c.args.m runs.can.server c.index_mut.result.now runs.can.found c.index_mut.ensures.value) runs.server_up in
    let opens = c.in-Ok-open.ensures.row.1 in
    still_open w c.args.n c.args.m runs.can.dialler c.index_mut.result.now n_in (stood c.self.inside.slots.items c.args.n runs.can.dialler runs.can.at) m_in c.index_mut.ensures.value runs.can.replica runs.can.alone runs.dialler_up serving c.open.new.self c.index_mut-2.result.now c.in-Ok-open.at c.open.ensures.rest opens c.index_mut-2.ensures.value c.dial.new.self c.index_mut-in-Err.result.now c.reserve.new.self.items c.in-Err.ensures.err c.index_mut-in-Err.ensures.value c.in-Err.fault c.in-Err.ensures.row

pub take_back-requires-clause-last : goal.take_back-requires-clause-last
take_back-requires-clause-last c =
    let w : WorldState = record { slots = c.self.inside.slots.items; links = c.self.inside.links.items; book = c.self.inside.book.items } in
    let runs : BothRun w c.args.n c.args.m = subst (λ (z : WorldState). BothRun z c.args.n c.args.m) (sym c.self.view_is) c.requires.both in
    let n_in : c.args.n < length c.self.inside.slots.items = is_within c.self.inside.slots.items c.args.n runs.can.dialler runs.can.at in
    let m_in : c.args.m < length c.self.inside.slots.items = is_within c.self.inside.slots.items c.args.m runs.can.server runs.can.found in
    let serving : c.index_mut.result.now.node.core.up ≡ true = subst (λ (z : Slot). z.node.core.up ≡ true) (read_of c.self.inside.slots.items c.args.m runs.can.server c.index_mut.result.now runs.can.found c.index_mut.ensures.value) runs.server_up in
    let opens = c.in-Ok-open.ensures.row.1 in
    still_last w c.args.n c.args.m runs.can.dialler c.index_mut.result.now n_in (stood c.self.inside.slots.items c.args.n runs.can.dialler runs.can.at) m_in c.index_mut.ensures.value runs.can.replica runs.can.alone runs.dialler_up serving c.open.new.self c.index_mut-2.result.now c.in-Ok-open.at c.open.ensures.rest opens c.index_mut-2.ensures.value c.dial.new.self c.index_mut-in-Err.result.now c.reserve.new.self.items c.in-Err.ensures.err c.index_mut-in-Err.ensures.value c.in-Err.fault c.in-Err.ensures.row

pub returns-in-Memory : goal.returns-in-Memory
returns-in-Memory c =
    let w : WorldState = record { slots = c.self.inside.slots.items; links = c.self.inside.links.items; book = c.self.inside.book.items } in
    let runs : BothRun w c.args.n c.args.m = subst (λ (z : WorldState). BothRun z c.args.n c.args.m) (sym c.self.view_is) c.requires.both in
    let n_in : c.args.n < length c.self.inside.slots.items = is_within c.self.inside.slots.items c.args.n runs.can.dialler runs.can.at in
    let m_in : c.args.m < length c.self.inside.slots.items = is_within c.self.inside.slots.items c.args.m runs.can.server runs.can.found in
    let serving : c.index_mut.result.now.node.core.up ≡ true = subst (λ (z : Slot). z.node.core.up ≡ true) (read_of c.self.inside.slots.items c.args.m runs.can.server c.index_mut.result.now runs.can.found c.index_mut.ensures.value) runs.server_up in
    let opens = c.in-Ok-open.ensures.row.1 in
    let row = subst (λ f. DialsBy c.index_mut-2.result.now.node c.dial.new.self.node (Err f)) c.in-Memory.is c.in-Err.ensures.row in (
      c.requires.both,
      same_again w c.args.n c.args.m runs.can.dialler c.index_mut.result.now n_in (stood c.self.inside.slots.items c.args.n runs.can.dialler runs.can.at) m_in c.index_mut.ensures.value runs.can.replica runs.can.alone runs.dialler_up serving c.open.new.self c.index_mut-2.result.now c.in-Ok-open.at c.open.ensures.rest opens c.index_mut-2.ensures.value
          c.dial.new.self c.index_mut-in-Err.result.now c.reserve.new.self.items c.in-Err.ensures.err c.index_mut-in-Err.ensures.value c.take_back.new.self c.take_back.ensures.row c.take_back.ensures.rest c.reserve.ensures.items row.1 ∙ c.self.view_is,
    )

pub returns-in-Stopped : goal.returns-in-Stopped
returns-in-Stopped c =
    let w : WorldState = record { slots = c.self.inside.slots.items; links = c.self.inside.links.items; book = c.self.inside.book.items } in
    let runs : BothRun w c.args.n c.args.m = subst (λ (z : WorldState). BothRun z c.args.n c.args.m) (sym c.self.view_is) c.requires.both in
    let n_in : c.args.n < length c.self.inside.slots.items = is_within c.self.inside.slots.items c.args.n runs.can.dialler runs.can.at in
    let m_in : c.args.m < length c.self.inside.slots.items = is_within c.self.inside.slots.items c.args.m runs.can.server runs.can.found in
    let serving : c.index_mut.result.now.node.core.up ≡ true = subst (λ (z : Slot). z.node.core.up ≡ true) (read_of c.self.inside.slots.items c.args.m runs.can.server c.index_mut.result.now runs.can.found c.index_mut.ensures.value) runs.server_up in
    let opens = c.in-Ok-open.ensures.row.1 in
    let row = subst (λ f. DialsBy c.index_mut-2.result.now.node c.dial.new.self.node (Err f)) c.in-Stopped.is c.in-Err.ensures.row in (
      c.requires.both.can,
      subst (λ (z : WorldState). Dialled z c.args.n c.args.m (record w { slots = slice_set (slice_set (slice_set w.slots c.args.m c.open.new.self) c.args.n c.dial.new.self) c.args.m c.take_back.new.self; links = c.reserve.new.self.items })) c.self.view_is
          (stops_again w c.args.n c.args.m runs.can.dialler c.index_mut.result.now n_in (stood c.self.inside.slots.items c.args.n runs.can.dialler runs.can.at) m_in c.index_mut.ensures.value runs.can.replica runs.can.alone runs.dialler_up serving c.open.new.self c.index_mut-2.result.now c.in-Ok-open.at c.open.ensures.rest opens c.index_mut-2.ensures.value
          c.dial.new.self c.index_mut-in-Err.result.now c.reserve.new.self.items c.in-Err.ensures.err c.index_mut-in-Err.ensures.value c.take_back.new.self c.take_back.ensures.row c.take_back.ensures.rest c.reserve.ensures.items row),
    )
