use Rattle.std.proofs.Common.{rules, ◌≡◌, ◌+◌, ◌<◌, ◌≤◌, ◌∙◌, ℕ, true, false, Err, length, refl, sym, ap, subst}
use Rattle.std.specs.Prelude.{slice_set}
use Rattle.mr_links.specs.declared.link_id.LinkId.{LinkId}
use Rattle.mr_node.specs.Calls.{FeedRow, FitsMore}
use Rattle.mr_node_spec.specs.State.{IsTooMuch}
use Rattle.law_refinement.specs.State.{WorldState, Link, Slot}
use Rattle.law_refinement.specs.Way.{taken_on}
use Rattle.law_refinement.specs.Worlds.{IsWorld}
use Rattle.mr_world.specs.Linking.{Delivers, IsOverfull, NeedsRoom}
use Rattle.mr_world.proofs.Joins.{read_twice, same_slots, server_there}
use Rattle.mr_world.proofs.Feeding.{counted, has_end, hears_here, needs_room, overfull, rests_unheard}
use Rattle.mr_world.proofs.parts.Parts.deliver_to_server.Goals as goal

pub index-requires : goal.index-requires
index-requires c =
    let w : WorldState = record { slots = c.self.inside.slots.items; links = c.self.inside.links.items; book = c.self.inside.book.items } in
    let within : c.args.l < length c.self.inside.links.items = search rules in
    let world : IsWorld w = subst (λ (z : WorldState). IsWorld z) (sym c.self.view_is) c.requires in
    let there : c.to-to.result < length c.self.inside.slots.items = server_there w c.args.l c.to-to.result c.index-link.result.now within c.index-link.ensures c.to-to.ensures world in
    search rules

pub index-requires-2 : goal.index-requires-2
index-requires-2 c =
    let w : WorldState = record { slots = c.self.inside.slots.items; links = c.self.inside.links.items; book = c.self.inside.book.items } in
    let within : c.args.l < length c.self.inside.links.items = search rules in
    let world : IsWorld w = subst (λ (z : WorldState). IsWorld z) (sym c.self.view_is) c.requires in
    let there : c.to-to.result < length c.self.inside.slots.items = server_there w c.args.l c.to-to.result c.index-link.result.now within c.index-link.ensures c.to-to.ensures world in
    search rules

pub index_mut-requires : goal.index_mut-requires
index_mut-requires c =
    let w : WorldState = record { slots = c.self.inside.slots.items; links = c.self.inside.links.items; book = c.self.inside.book.items } in
    let within : c.args.l < length c.self.inside.links.items = search rules in
    let world : IsWorld w = subst (λ (z : WorldState). IsWorld z) (sym c.self.view_is) c.requires in
    let there : c.to-to.result < length c.self.inside.slots.items = server_there w c.args.l c.to-to.result c.index-link.result.now within c.index-link.ensures c.to-to.ensures world in
    search rules

pub returns-then-not-is_up : goal.returns-then-not-is_up
returns-then-not-is_up c =
    let w : WorldState = record { slots = c.self.inside.slots.items; links = c.self.inside.links.items; book = c.self.inside.book.items } in
    let within : c.args.l < length c.self.inside.links.items = search rules in
    let world : IsWorld w = subst (λ (z : WorldState). IsWorld z) (sym c.self.view_is) c.requires in
    let there : c.to-to.result < length c.self.inside.slots.items = server_there w c.args.l c.to-to.result c.index-link.result.now within c.index-link.ensures c.to-to.ensures world in
    let serving : c.index-link.result.now.serving ≡ true = sym c.serving.ensures ∙ c.if-not-serving.false in
    let sent : c.index-link.result.now.ask.taken + c.args.count ≤ length c.index-link.result.now.ask.sent = c.has_asked.ensures.0 c.if-not-has_asked.false in
    subst (λ (z : WorldState). Delivers z c.args.l c.args.count z) c.self.view_is
    (rests_unheard w c.args.l c.to-to.result c.args.count c.index-link.result.now within c.index-link.ensures c.to-to.ensures serving sent c.index.result.now there c.index.ensures (sym c.is_up.ensures ∙ c.if-not-is_up.true))

pub returns-then-is_too_much : goal.returns-then-is_too_much
returns-then-is_too_much c =
    let w : WorldState = record { slots = c.self.inside.slots.items; links = c.self.inside.links.items; book = c.self.inside.book.items } in
    let within : c.args.l < length c.self.inside.links.items = search rules in
    let world : IsWorld w = subst (λ (z : WorldState). IsWorld z) (sym c.self.view_is) c.requires in
    let there : c.to-to.result < length c.self.inside.slots.items = server_there w c.args.l c.to-to.result c.index-link.result.now within c.index-link.ensures c.to-to.ensures world in
    let serving : c.index-link.result.now.serving ≡ true = sym c.serving.ensures ∙ c.if-not-serving.false in
    let sent : c.index-link.result.now.ask.taken + c.args.count ≤ length c.index-link.result.now.ask.sent = c.has_asked.ensures.0 c.if-not-has_asked.false in
    let much : IsTooMuch c.index-2.result.now.node c.index-link.result.now.name c.args.count = subst (λ (z : LinkId). IsTooMuch c.index-2.result.now.node z c.args.count) c.name-name.ensures (c.is_too_much.ensures.yes c.if-is_too_much.true) in (
      subst (λ (z : WorldState). IsOverfull z c.args.l c.args.count) c.self.view_is (overfull w c.args.l c.to-to.result c.args.count c.index-link.result.now within c.index-link.ensures c.to-to.ensures serving sent c.index-2.result.now there c.index-2.ensures much),
      refl,
    )

pub unreachable-requires : goal.unreachable-requires
unreachable-requires c =
    let w : WorldState = record { slots = c.self.inside.slots.items; links = c.self.inside.links.items; book = c.self.inside.book.items } in
    let within : c.args.l < length c.self.inside.links.items = search rules in
    let world : IsWorld w = subst (λ (z : WorldState). IsWorld z) (sym c.self.view_is) c.requires in
    let there : c.to-to.result < length c.self.inside.slots.items = server_there w c.args.l c.to-to.result c.index-link.result.now within c.index-link.ensures c.to-to.ensures world in
    let node : c.index.result.now ≡ c.index_mut.result.now = read_twice c.self.inside.slots.items c.to-to.result c.index.result.now c.index_mut.result.now there c.index.ensures c.index_mut.ensures.value in
    let up : c.index_mut.result.now.node.core.up ≡ true = subst (λ (z : Slot). z.node.core.up ≡ true) node (sym c.is_up.ensures ∙ c.if-not-is_up.false) in
    let row = subst (λ r. FeedRow c.index_mut.result.now.node c.name-name.result c.next_asked.result.now (length c.next_asked.result.now) c.feed.new.self.node r) (c.in-Err-Stopped.is ∙ ap Err c.in-Err-Stopped.field-0-is) c.feed.ensures.row in
    let wrong : false ≡ true = sym row.0 ∙ up in cc

pub unreachable-requires-in-Err-NoLink : goal.unreachable-requires-in-Err-NoLink
unreachable-requires-in-Err-NoLink c =
    let w : WorldState = record { slots = c.self.inside.slots.items; links = c.self.inside.links.items; book = c.self.inside.book.items } in
    let within : c.args.l < length c.self.inside.links.items = search rules in
    let world : IsWorld w = subst (λ (z : WorldState). IsWorld z) (sym c.self.view_is) c.requires in
    let there : c.to-to.result < length c.self.inside.slots.items = server_there w c.args.l c.to-to.result c.index-link.result.now within c.index-link.ensures c.to-to.ensures world in
    let serving : c.index-link.result.now.serving ≡ true = sym c.serving.ensures ∙ c.if-not-serving.false in
    let sent : c.index-link.result.now.ask.taken + c.args.count ≤ length c.index-link.result.now.ask.sent = c.has_asked.ensures.0 c.if-not-has_asked.false in
    let row = subst (λ r. FeedRow c.index_mut.result.now.node c.name-name.result c.next_asked.result.now (length c.next_asked.result.now) c.feed.new.self.node r) (c.in-Err-NoLink.is ∙ ap Err c.in-Err-NoLink.field-0-is) c.feed.ensures.row in
    has_end w c.args.l c.to-to.result c.args.count c.index-link.result.now within c.index-link.ensures c.to-to.ensures serving sent c.index_mut.result.now there c.index_mut.ensures.value world row.0 c.name-name.result c.name-name.ensures row.1

pub returns-in-Err-Memory : goal.returns-in-Err-Memory
returns-in-Err-Memory c =
    let w : WorldState = record { slots = c.self.inside.slots.items; links = c.self.inside.links.items; book = c.self.inside.book.items } in
    let within : c.args.l < length c.self.inside.links.items = search rules in
    let world : IsWorld w = subst (λ (z : WorldState). IsWorld z) (sym c.self.view_is) c.requires in
    let there : c.to-to.result < length c.self.inside.slots.items = server_there w c.args.l c.to-to.result c.index-link.result.now within c.index-link.ensures c.to-to.ensures world in
    let serving : c.index-link.result.now.serving ≡ true = sym c.serving.ensures ∙ c.if-not-serving.false in
    let sent : c.index-link.result.now.ask.taken + c.args.count ≤ length c.index-link.result.now.ask.sent = c.has_asked.ensures.0 c.if-not-has_asked.false in
    let again : c.index-2.result.now ≡ c.index_mut.result.now = read_twice c.self.inside.slots.items c.to-to.result c.index-2.result.now c.index_mut.result.now there c.index-2.ensures c.index_mut.ensures.value in
    let fits : FitsMore c.index_mut.result.now.node c.index-link.result.now.name c.args.count = subst (λ (z : Slot). FitsMore z.node c.index-link.result.now.name c.args.count) again
    (subst (λ (z : LinkId). FitsMore c.index-2.result.now.node z c.args.count) c.name-name.ensures (c.is_too_much.ensures.no c.if-is_too_much.false)) in
    let row = subst (λ r. FeedRow c.index_mut.result.now.node c.name-name.result c.next_asked.result.now (length c.next_asked.result.now) c.feed.new.self.node r) (c.in-Err-Memory.is ∙ ap Err c.in-Err-Memory.field-0-is) c.feed.ensures.row in (
      subst (λ (z : WorldState). NeedsRoom z c.args.l c.args.count) c.self.view_is
          (needs_room w c.args.l c.to-to.result c.args.count c.index-link.result.now within c.index-link.ensures c.to-to.ensures serving sent c.index_mut.result.now there c.index_mut.ensures.value row.0 c.next_asked.result.now c.next_asked.ensures row.3 fits),
      same_slots w c.to-to.result c.index_mut.result.now there c.index_mut.ensures.value c.feed.new.self c.self.inside.links.items row.5 c.feed.ensures.rest refl ∙ c.self.view_is,
    )

pub returns-in-Err-InputFull : goal.returns-in-Err-InputFull
returns-in-Err-InputFull c =
    let w : WorldState = record { slots = c.self.inside.slots.items; links = c.self.inside.links.items; book = c.self.inside.book.items } in
    let within : c.args.l < length c.self.inside.links.items = search rules in
    let world : IsWorld w = subst (λ (z : WorldState). IsWorld z) (sym c.self.view_is) c.requires in
    let there : c.to-to.result < length c.self.inside.slots.items = server_there w c.args.l c.to-to.result c.index-link.result.now within c.index-link.ensures c.to-to.ensures world in
    let serving : c.index-link.result.now.serving ≡ true = sym c.serving.ensures ∙ c.if-not-serving.false in
    let sent : c.index-link.result.now.ask.taken + c.args.count ≤ length c.index-link.result.now.ask.sent = c.has_asked.ensures.0 c.if-not-has_asked.false in
    let row = subst (λ r. FeedRow c.index_mut.result.now.node c.name-name.result c.next_asked.result.now (length c.next_asked.result.now) c.feed.new.self.node r) (c.in-Err-InputFull.is ∙ ap Err c.in-Err-InputFull.field-0-is) c.feed.ensures.row in
    let size : length c.next_asked.result.now ≡ c.args.count = ap length c.next_asked.ensures ∙ counted c.index-link.result.now.ask.taken c.args.count c.index-link.result.now.ask.sent sent in
    let much : IsTooMuch c.index_mut.result.now.node c.index-link.result.now.name c.args.count = subst (λ (z : LinkId). IsTooMuch c.index_mut.result.now.node z c.args.count) c.name-name.ensures (subst (λ (z : ℕ). IsTooMuch c.index_mut.result.now.node c.name-name.result z) size row.0) in (
      subst (λ (z : WorldState). IsOverfull z c.args.l c.args.count) c.self.view_is (overfull w c.args.l c.to-to.result c.args.count c.index-link.result.now within c.index-link.ensures c.to-to.ensures serving sent c.index_mut.result.now there c.index_mut.ensures.value much),
      same_slots w c.to-to.result c.index_mut.result.now there c.index_mut.ensures.value c.feed.new.self c.self.inside.links.items row.1 c.feed.ensures.rest refl ∙ c.self.view_is,
    )

pub returns-in-Ok : goal.returns-in-Ok
returns-in-Ok c =
    let w : WorldState = record { slots = c.self.inside.slots.items; links = c.self.inside.links.items; book = c.self.inside.book.items } in
    let within : c.args.l < length c.self.inside.links.items = search rules in
    let world : IsWorld w = subst (λ (z : WorldState). IsWorld z) (sym c.self.view_is) c.requires in
    let there : c.to-to.result < length c.self.inside.slots.items = server_there w c.args.l c.to-to.result c.index-link.result.now within c.index-link.ensures c.to-to.ensures world in
    let serving : c.index-link.result.now.serving ≡ true = sym c.serving.ensures ∙ c.if-not-serving.false in
    let sent : c.index-link.result.now.ask.taken + c.args.count ≤ length c.index-link.result.now.ask.sent = c.has_asked.ensures.0 c.if-not-has_asked.false in
    let node : c.index.result.now ≡ c.index_mut.result.now = read_twice c.self.inside.slots.items c.to-to.result c.index.result.now c.index_mut.result.now there c.index.ensures c.index_mut.ensures.value in
    let up : c.index_mut.result.now.node.core.up ≡ true = subst (λ (z : Slot). z.node.core.up ≡ true) node (sym c.is_up.ensures ∙ c.if-not-is_up.false) in
    let again : c.index-2.result.now ≡ c.index_mut.result.now = read_twice c.self.inside.slots.items c.to-to.result c.index-2.result.now c.index_mut.result.now there c.index-2.ensures c.index_mut.ensures.value in
    let fits : FitsMore c.index_mut.result.now.node c.index-link.result.now.name c.args.count = subst (λ (z : Slot). FitsMore z.node c.index-link.result.now.name c.args.count) again
    (subst (λ (z : LinkId). FitsMore c.index-2.result.now.node z c.args.count) c.name-name.ensures (c.is_too_much.ensures.no c.if-is_too_much.false)) in
    let link : c.index-link.result.now ≡ c.index_mut-in-Ok.result.now = read_twice c.self.inside.links.items c.args.l c.index-link.result.now c.index_mut-in-Ok.result.now within c.index-link.ensures c.index_mut-in-Ok.ensures.value in
    subst (λ (z : WorldState). Delivers z c.args.l c.args.count (record w { slots = slice_set w.slots c.to-to.result c.feed.new.self; links = slice_set w.links c.args.l c.take_asked.new.self })) c.self.view_is
    (hears_here w c.args.l c.to-to.result c.args.count c.index-link.result.now within c.index-link.ensures c.to-to.ensures serving sent c.index_mut.result.now there c.index_mut.ensures.value world c.feed.new.self c.take_asked.new.self c.name-name.result c.next_asked.result.now
    up c.name-name.ensures c.next_asked.ensures c.in-Ok.ensures.row.3 c.feed.ensures.sound fits c.feed.ensures.rest (c.take_asked.ensures ∙ ap (λ (z : Link). record z { ask = taken_on c.args.count z.ask }) (sym link)))
