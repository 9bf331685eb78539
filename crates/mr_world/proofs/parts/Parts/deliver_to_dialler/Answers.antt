use Rattle.std.proofs.Common.{rules, ◌≡◌, ◌+◌, ◌<◌, ◌≤◌, ◌∙◌, true, Err, length, refl, sym, ap, subst}
use Rattle.std.specs.Prelude.{slice_set}
use Rattle.mr_node.specs.Calls.{FeedRow}
use Rattle.law_refinement.specs.State.{WorldState, Link}
use Rattle.law_refinement.specs.Way.{taken_on}
use Rattle.law_refinement.specs.Worlds.{IsWorld}
use Rattle.mr_world.specs.Linking.{IsDialler}
use Rattle.mr_world.specs.Hearing.{KeepsTold, Tells, WereNotTold}
use Rattle.mr_world.proofs.Joins.{read_twice, same_slots}
use Rattle.mr_world.proofs.Dialling.{link_within, slot_within}
use Rattle.mr_world.proofs.Telling.{has_end, keeps_told, listens_here, not_full, not_told, runs_still, untold_here}
use Rattle.mr_world.proofs.parts.Parts.deliver_to_dialler.Goals as goal

pub index-link-requires : goal.index-link-requires
index-link-requires c =
    let w : WorldState = record { slots = c.self.inside.slots.items; links = c.self.inside.links.items; book = c.self.inside.book.items } in
    let who : IsDialler w c.args.l c.in-Some.n c.in-Some.name = search rules in
    let near : c.args.l < length c.self.inside.links.items = link_within w c.args.l c.in-Some.n c.in-Some.name who in
    search rules

pub index-requires : goal.index-requires
index-requires c =
    let w : WorldState = record { slots = c.self.inside.slots.items; links = c.self.inside.links.items; book = c.self.inside.book.items } in
    let who : IsDialler w c.args.l c.in-Some.n c.in-Some.name = search rules in
    let near : c.in-Some.n < length c.self.inside.slots.items = slot_within w c.args.l c.in-Some.n c.in-Some.name who in
    search rules

pub index_mut-requires : goal.index_mut-requires
index_mut-requires c =
    let w : WorldState = record { slots = c.self.inside.slots.items; links = c.self.inside.links.items; book = c.self.inside.book.items } in
    let who : IsDialler w c.args.l c.in-Some.n c.in-Some.name = search rules in
    let near : c.in-Some.n < length c.self.inside.slots.items = slot_within w c.args.l c.in-Some.n c.in-Some.name who in
    search rules

pub index_mut-requires-in-Ok : goal.index_mut-requires-in-Ok
index_mut-requires-in-Ok c =
    let w : WorldState = record { slots = c.self.inside.slots.items; links = c.self.inside.links.items; book = c.self.inside.book.items } in
    let who : IsDialler w c.args.l c.in-Some.n c.in-Some.name = search rules in
    let near : c.args.l < length c.self.inside.links.items = link_within w c.args.l c.in-Some.n c.in-Some.name who in
    search rules

pub returns-then-not-has_told : goal.returns-then-not-has_told
returns-then-not-has_told c =
    let w : WorldState = record { slots = c.self.inside.slots.items; links = c.self.inside.links.items; book = c.self.inside.book.items } in
    let who : IsDialler w c.args.l c.in-Some.n c.in-Some.name = search rules in (
      subst (λ (z : WorldState). WereNotTold z c.args.l c.args.count) c.self.view_is
          (not_told w c.args.l c.in-Some.n c.in-Some.name who c.index-link.result.now c.index-link.ensures c.args.count c.has_told.result c.if-not-has_told.true c.has_told.ensures.1),
      refl,
    )

pub returns-then-not-is_up : goal.returns-then-not-is_up
returns-then-not-is_up c =
    let w : WorldState = record { slots = c.self.inside.slots.items; links = c.self.inside.links.items; book = c.self.inside.book.items } in
    let who : IsDialler w c.args.l c.in-Some.n c.in-Some.name = search rules in
    let sent : c.index-link.result.now.tell.taken + c.args.count ≤ length c.index-link.result.now.tell.sent = c.has_told.ensures.0 c.if-not-has_told.false in
    subst (λ (z : WorldState). Tells z c.args.l c.args.count z) c.self.view_is
    (untold_here w c.args.l c.in-Some.n c.in-Some.name who c.index-link.result.now c.index-link.ensures c.args.count c.index.result.now c.index.ensures sent (sym c.is_up.ensures ∙ c.if-not-is_up.true))

pub unreachable-requires : goal.unreachable-requires
unreachable-requires c =
    let w : WorldState = record { slots = c.self.inside.slots.items; links = c.self.inside.links.items; book = c.self.inside.book.items } in
    let world : IsWorld w = subst (λ (z : WorldState). IsWorld z) (sym c.self.view_is) c.requires in
    let who : IsDialler w c.args.l c.in-Some.n c.in-Some.name = search rules in
    let sent : c.index-link.result.now.tell.taken + c.args.count ≤ length c.index-link.result.now.tell.sent = c.has_told.ensures.0 c.if-not-has_told.false in
    let up : c.index.result.now.node.core.up ≡ true = sym c.is_up.ensures ∙ c.if-not-is_up.false in
    let row = subst (λ r. FeedRow c.index_mut.result.now.node c.in-Some.name c.next_told.result.now (length c.next_told.result.now) c.feed.new.self.node r) (c.in-Err-Stopped.is ∙ ap Err c.in-Err-Stopped.field-0-is) c.feed.ensures.row in
    runs_still w c.args.l c.in-Some.n c.in-Some.name who c.index-link.result.now c.index-link.ensures c.args.count c.index.result.now c.index.ensures sent world up c.index_mut.result.now c.index_mut.ensures.value row.0

pub unreachable-requires-in-Err-NoLink : goal.unreachable-requires-in-Err-NoLink
unreachable-requires-in-Err-NoLink c =
    let w : WorldState = record { slots = c.self.inside.slots.items; links = c.self.inside.links.items; book = c.self.inside.book.items } in
    let world : IsWorld w = subst (λ (z : WorldState). IsWorld z) (sym c.self.view_is) c.requires in
    let who : IsDialler w c.args.l c.in-Some.n c.in-Some.name = search rules in
    let sent : c.index-link.result.now.tell.taken + c.args.count ≤ length c.index-link.result.now.tell.sent = c.has_told.ensures.0 c.if-not-has_told.false in
    let up : c.index.result.now.node.core.up ≡ true = sym c.is_up.ensures ∙ c.if-not-is_up.false in
    let row = subst (λ r. FeedRow c.index_mut.result.now.node c.in-Some.name c.next_told.result.now (length c.next_told.result.now) c.feed.new.self.node r) (c.in-Err-NoLink.is ∙ ap Err c.in-Err-NoLink.field-0-is) c.feed.ensures.row in
    has_end w c.args.l c.in-Some.n c.in-Some.name who c.index-link.result.now c.index-link.ensures c.args.count c.index.result.now c.index.ensures sent world up c.index_mut.result.now c.index_mut.ensures.value row.1

pub unreachable-requires-in-Err-InputFull : goal.unreachable-requires-in-Err-InputFull
unreachable-requires-in-Err-InputFull c =
    let w : WorldState = record { slots = c.self.inside.slots.items; links = c.self.inside.links.items; book = c.self.inside.book.items } in
    let world : IsWorld w = subst (λ (z : WorldState). IsWorld z) (sym c.self.view_is) c.requires in
    let who : IsDialler w c.args.l c.in-Some.n c.in-Some.name = search rules in
    let sent : c.index-link.result.now.tell.taken + c.args.count ≤ length c.index-link.result.now.tell.sent = c.has_told.ensures.0 c.if-not-has_told.false in
    let up : c.index.result.now.node.core.up ≡ true = sym c.is_up.ensures ∙ c.if-not-is_up.false in
    let row = subst (λ r. FeedRow c.index_mut.result.now.node c.in-Some.name c.next_told.result.now (length c.next_told.result.now) c.feed.new.self.node r) (c.in-Err-InputFull.is ∙ ap Err c.in-Err-InputFull.field-0-is) c.feed.ensures.row in
    not_full w c.args.l c.in-Some.n c.in-Some.name who c.index-link.result.now c.index-link.ensures c.args.count c.index.result.now c.index.ensures sent world up c.index_mut.result.now c.index_mut.ensures.value (length c.next_told.result.now) row.0

pub returns-in-Err-Memory : goal.returns-in-Err-Memory
returns-in-Err-Memory c =
    let w : WorldState = record { slots = c.self.inside.slots.items; links = c.self.inside.links.items; book = c.self.inside.book.items } in
    let world : IsWorld w = subst (λ (z : WorldState). IsWorld z) (sym c.self.view_is) c.requires in
    let who : IsDialler w c.args.l c.in-Some.n c.in-Some.name = search rules in
    let sent : c.index-link.result.now.tell.taken + c.args.count ≤ length c.index-link.result.now.tell.sent = c.has_told.ensures.0 c.if-not-has_told.false in
    let up : c.index.result.now.node.core.up ≡ true = sym c.is_up.ensures ∙ c.if-not-is_up.false in
    let row = subst (λ r. FeedRow c.index_mut.result.now.node c.in-Some.name c.next_told.result.now (length c.next_told.result.now) c.feed.new.self.node r) (c.in-Err-Memory.is ∙ ap Err c.in-Err-Memory.field-0-is) c.feed.ensures.row in (
      subst (λ (z : WorldState). KeepsTold z c.args.l c.args.count) c.self.view_is (keeps_told w c.args.l c.in-Some.n c.in-Some.name who c.index-link.result.now c.index-link.ensures c.args.count c.index.result.now c.index.ensures sent world up c.index_mut.result.now c.index_mut.ensures.value c.next_told.result.now c.next_told.ensures row.3),
      same_slots w c.in-Some.n c.index_mut.result.now (slot_within w c.args.l c.in-Some.n c.in-Some.name who) c.index_mut.ensures.value c.feed.new.self c.self.inside.links.items row.5 c.feed.ensures.rest refl ∙ c.self.view_is,
    )

pub returns-in-Ok : goal.returns-in-Ok
returns-in-Ok c =
    let w : WorldState = record { slots = c.self.inside.slots.items; links = c.self.inside.links.items; book = c.self.inside.book.items } in
    let world : IsWorld w = subst (λ (z : WorldState). IsWorld z) (sym c.self.view_is) c.requires in
    let who : IsDialler w c.args.l c.in-Some.n c.in-Some.name = search rules in
    let sent : c.index-link.result.now.tell.taken + c.args.count ≤ length c.index-link.result.now.tell.sent = c.has_told.ensures.0 c.if-not-has_told.false in
    let up : c.index.result.now.node.core.up ≡ true = sym c.is_up.ensures ∙ c.if-not-is_up.false in
    let near : c.args.l < length c.self.inside.links.items = link_within w c.args.l c.in-Some.n c.in-Some.name who in
    let link : c.index-link.result.now ≡ c.index_mut-in-Ok.result.now = read_twice c.self.inside.links.items c.args.l c.index-link.result.now c.index_mut-in-Ok.result.now near c.index-link.ensures c.index_mut-in-Ok.ensures.value in
    subst (λ (z : WorldState). Tells z c.args.l c.args.count (record w { slots = slice_set w.slots c.in-Some.n c.feed.new.self; links = slice_set w.links c.args.l c.take_told.new.self })) c.self.view_is
    (listens_here w c.args.l c.in-Some.n c.in-Some.name who c.index-link.result.now c.index-link.ensures c.args.count c.index.result.now c.index.ensures sent world up c.index_mut.result.now c.index_mut.ensures.value c.next_told.result.now c.next_told.ensures c.feed.new.self c.take_told.new.self
    c.in-Ok.ensures.row.3 c.feed.ensures.sound c.feed.ensures.rest (c.take_told.ensures ∙ ap (λ (z : Link). record z { tell = taken_on c.args.count z.tell }) (sym link)))
