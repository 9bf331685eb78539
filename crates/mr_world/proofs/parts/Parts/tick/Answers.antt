use Rattle.std.proofs.Common.{rules, ◌≡◌, ◌<◌, ◌∙◌, Err, length, map, sym, ap, subst}
use Rattle.std.specs.Prelude.{slice_set}
use Rattle.law_refinement.specs.State.{Slot, WorldState}
use Rattle.law_refinement.specs.Carrying.{booked_as, filed, reached, said_on}
use Rattle.mr_node.specs.Calls.{TickStep}
use Rattle.mr_world_parts.specs.Memory.{TakesMemory}
use Rattle.mr_world.specs.Stepping.{NeedsTick, Ticks}
use Rattle.mr_world.proofs.Joins.{read_twice}
use Rattle.mr_world.proofs.Ticking.{carried, failed, rests_shown, shown_id, shown_offset, tick_lacks}
use Rattle.mr_world.proofs.parts.Parts.tick.Goals as goal

pub returns-in_default : goal.returns-in_default
returns-in_default c =
    let w : WorldState = record { slots = c.self.inside.slots.items; links = c.self.inside.links.items; book = c.self.inside.book.items } in
    let within : c.args.n < length c.self.inside.slots.items = search rules in
    subst (λ (z : WorldState). Ticks z c.args.n c.args.given.now z) c.self.view_is (rests_shown w c.args.n c.args.given.now c.index.result.now within c.index.ensures (sym c.shows.ensures ∙ c.in_default.is))

pub returns-then-is_err : goal.returns-then-is_err
returns-then-is_err c =
    let w : WorldState = record { slots = c.self.inside.slots.items; links = c.self.inside.links.items; book = c.self.inside.book.items } in
    let within : c.args.n < length c.self.inside.slots.items = search rules in
    let slot : c.give_tick-carried.new.slot ≡ c.index_mut-in-Ok.result.now = search rules in
    let links : c.give_tick-carried.new.links.items ≡ c.self.inside.links.items = search rules in
    let book : c.give_tick-carried.new.book.items ≡ c.self.inside.book.items = search rules in
    let takes : TakesMemory c.in-Ok.outs = search rules in
    subst (λ (z : WorldState). Ticks z c.args.n c.args.given.now (record { slots = slice_set (slice_set (slice_set c.self.inside.slots.items c.args.n c.tick.new.self) c.args.n c.give_tick-carried.new.slot) c.args.n c.fail.new.self; links = c.give_tick-carried.new.links.items; book = c.give_tick-carried.new.book.items })) c.self.view_is
    (failed w c.args.n c.args.given.now c.index_mut.result.now within c.index_mut.ensures.value c.tick.new.self c.tick.ensures.rest c.in-Ok.outs c.in-Ok.ensures.row c.tick.ensures.sound takes
    c.index_mut-in-Ok.result.now c.give_tick-carried.new.slot c.index_mut-then-is_err.result.now c.fail.new.self c.give_tick-carried.new.links.items c.give_tick-carried.new.book.items
    c.index_mut-in-Ok.ensures.value slot c.index_mut-then-is_err.ensures.value c.fail.ensures links book)

pub returns-else-is_err : goal.returns-else-is_err
returns-else-is_err c =
    let w : WorldState = record { slots = c.self.inside.slots.items; links = c.self.inside.links.items; book = c.self.inside.book.items } in
    let within : c.args.n < length c.self.inside.slots.items = search rules in
    let slot : c.give_tick-carried.new.slot ≡ record c.index_mut-in-Ok.result.now { file = filed c.in-Ok.outs c.index_mut-in-Ok.result.now.file } = search rules in
    let links : c.give_tick-carried.new.links.items ≡ said_on c.in-Ok.outs.link c.index_mut-in-Ok.result.now.dialled c.in-Ok.outs.reply (map (reached c.args.n c.in-Ok.outs) c.self.inside.links.items) = search rules in
    let book : c.give_tick-carried.new.book.items ≡ booked_as c.in-Ok.outs.used c.self.inside.book.items c.in-Some.id c.in-Some.offset c.in-Ok.outs.grown = search rules in
    let same : c.index.result.now ≡ c.index_mut.result.now = read_twice c.self.inside.slots.items c.args.n c.index.result.now c.index_mut.result.now within c.index.ensures c.index_mut.ensures.value in
    let shows = sym c.shows.ensures ∙ c.in-Some.is in
    let id : c.in-Some.id ≡ c.index_mut.result.now.node.core.lineage.id = shown_id c.index.result.now.node.core _ shows ∙ ap (λ (z : Slot). z.node.core.lineage.id) same in
    let offset : c.in-Some.offset ≡ c.index_mut.result.now.node.core.lineage.stream.offset = shown_offset c.index.result.now.node.core _ shows ∙ ap (λ (z : Slot). z.node.core.lineage.stream.offset) same in
    subst (λ (z : WorldState). Ticks z c.args.n c.args.given.now (record { slots = slice_set (slice_set c.self.inside.slots.items c.args.n c.tick.new.self) c.args.n c.give_tick-carried.new.slot; links = c.give_tick-carried.new.links.items; book = c.give_tick-carried.new.book.items })) c.self.view_is
    (carried w c.args.n c.args.given.now c.index_mut.result.now within c.index_mut.ensures.value c.tick.new.self c.tick.ensures.rest c.in-Ok.outs c.in-Ok.ensures.row c.tick.ensures.sound
    c.index_mut-in-Ok.result.now c.give_tick-carried.new.slot c.give_tick-carried.new.links.items c.give_tick-carried.new.book.items c.in-Some.id c.in-Some.offset
    c.index_mut-in-Ok.ensures.value slot links book id offset)

pub returns-in-Err-Memory : goal.returns-in-Err-Memory
returns-in-Err-Memory c =
    let w : WorldState = record { slots = c.self.inside.slots.items; links = c.self.inside.links.items; book = c.self.inside.book.items } in
    let within : c.args.n < length c.self.inside.slots.items = search rules in
    let row = subst (λ r. TickStep c.index_mut.result.now.node c.args.given.now c.tick.new.self.node r) (c.in-Err-Memory.is ∙ ap Err c.in-Err-Memory.field-0-is) c.tick.ensures.row in
    let lacks = tick_lacks w c.args.n c.args.given.now c.index_mut.result.now within c.index_mut.ensures.value c.tick.new.self c.tick.ensures.rest row.0 row.1 row.2 in
    (subst (λ (z : WorldState). NeedsTick z c.args.n c.args.given.now) c.self.view_is lacks.0, lacks.1 ∙ c.self.view_is)
