use Rattle.std.proofs.Common.{rules, ◌≡◌, ◌<◌, ◌∙◌, Ok, Err, is_err, true, false, length, refl, sym, ap, subst}
use Rattle.std.specs.Prelude.{slice_set}
use Rattle.mr_node.specs.Steps.{MasterStep}
use Rattle.law_refinement.specs.State.{WorldState}
use Rattle.law_refinement.specs.Worlds.{IsWorld}
use Rattle.law_refinement.specs.Carrying.{filed}
use Rattle.mr_world_parts.specs.AtNode.{is_spent}
use Rattle.mr_world_parts.specs.AtLink.{heard_by}
use Rattle.mr_world_parts.specs.Memory.{TakesMemory}
use Rattle.mr_world_parts.proofs.Lacking.{where_err}
use Rattle.mr_world.specs.Following.{Follows, HasLacked, IsFollower}
use Rattle.mr_world.specs.Linking.{IsDialler}
use Rattle.mr_world.proofs.Dialling.{rests_here, slot_within}
use Rattle.mr_world.proofs.Heard.{carried, comes_to, failed, follower_here, lacks_here, spends_here, waits_here}
use Rattle.mr_world.proofs.Joins.{put_same}
use Rattle.mr_world.proofs.parts.Parts.step_dialler.Goals as goal

pub index-requires : goal.index-requires
index-requires c =
    let w : WorldState = record { slots = c.self.inside.slots.items; links = c.self.inside.links.items; book = c.self.inside.book.items } in
    let end : IsDialler w c.args.l c.in-Some.n c.in-Some.name = search rules in
    let near : c.in-Some.n < length c.self.inside.slots.items = slot_within w c.args.l c.in-Some.n c.in-Some.name end in
    search rules

pub index_mut-requires : goal.index_mut-requires
index_mut-requires c =
    let w : WorldState = record { slots = c.self.inside.slots.items; links = c.self.inside.links.items; book = c.self.inside.book.items } in
    let end : IsDialler w c.args.l c.in-Some.n c.in-Some.name = search rules in
    let near : c.in-Some.n < length c.self.inside.slots.items = slot_within w c.args.l c.in-Some.n c.in-Some.name end in
    search rules

pub returns-then-not-is_up : goal.returns-then-not-is_up
returns-then-not-is_up c =
    let w : WorldState = record { slots = c.self.inside.slots.items; links = c.self.inside.links.items; book = c.self.inside.book.items } in
    let end : IsDialler w c.args.l c.in-Some.n c.in-Some.name = search rules in
    let fresh : is_spent c.args.self.now.book c.args.fresh ≡ false = search rules in (
      fresh,
      subst (λ (z : WorldState). Follows z c.args.l z) c.self.view_is
          (Follows.rests (rests_here w c.args.l c.in-Some.n c.in-Some.name end c.index.result.now c.index.ensures (sym c.is_up.ensures ∙ c.if-not-is_up.true)) refl),
    )

pub returns-then-is_err : goal.returns-then-is_err
returns-then-is_err c =
    let w : WorldState = record { slots = c.self.inside.slots.items; links = c.self.inside.links.items; book = c.self.inside.book.items } in
    let world : IsWorld w = subst (λ (z : WorldState). IsWorld z) (sym c.self.view_is) c.requires in
    let end : IsDialler w c.args.l c.in-Some.n c.in-Some.name = search rules in
    let who : IsFollower w c.args.l c.in-Some.n c.in-Some.name = follower_here w c.args.l c.in-Some.n c.in-Some.name world end c.index.result.now c.index.ensures (sym c.is_up.ensures ∙ c.if-not-is_up.false) in
    let fresh : is_spent c.args.self.now.book c.args.fresh ≡ false = search rules in
    let row = subst (λ r. MasterStep who.slot.node c.in-Some.name c.step.new.self.node r) (c.in-Ok-Done.is ∙ ap Ok c.in-Ok-Done.field-0-is)
    (comes_to w c.args.l c.in-Some.n c.in-Some.name world who c.index_mut.result.now c.step.new.self c.index_mut.ensures.value c.step.ensures.rest c.args.given c.args.fresh c.step.result c.step.ensures.row) in
    let err : is_err c.give_heard-heard.result ≡ true = sym c.is_err.ensures.value ∙ c.if-is_err.true in
    let slot : c.give_heard-heard.new.slot ≡ c.index_mut-in-Ok-Done.result.now = where_err c.give_heard-heard.result (c.give_heard-heard.new.slot ≡ c.index_mut-in-Ok-Done.result.now) err c.give_heard-heard.ensures.no_file in
    let link : c.give_heard-heard.new.link ≡ c.index_mut-in-Ok-Done-2.result.now = where_err c.give_heard-heard.result (c.give_heard-heard.new.link ≡ c.index_mut-in-Ok-Done-2.result.now) err c.give_heard-heard.ensures.no_link in
    let takes : TakesMemory c.in-Ok-Done.outs = where_err c.give_heard-heard.result (TakesMemory c.in-Ok-Done.outs) err c.give_heard-heard.ensures.memory in
    let links : slice_set c.self.inside.links.items c.args.l c.give_heard-heard.new.link ≡ c.self.inside.links.items = put_same c.self.inside.links.items c.args.l c.index_mut-in-Ok-Done-2.result.now c.give_heard-heard.new.link c.index_mut-in-Ok-Done-2.ensures.value link in (
      fresh,
      subst (λ (z : WorldState). Follows z c.args.l (record w { slots = slice_set (slice_set (slice_set w.slots c.in-Some.n c.step.new.self) c.in-Some.n c.give_heard-heard.new.slot) c.in-Some.n c.fail.new.self; links = slice_set w.links c.args.l c.give_heard-heard.new.link })) c.self.view_is
          (failed w c.args.l c.in-Some.n c.in-Some.name world who c.index_mut.result.now c.step.new.self c.index_mut.ensures.value c.step.ensures.rest row.0 row.1 c.in-Ok-Done.outs row.2 c.step.ensures.sound takes
          c.index_mut-in-Ok-Done.result.now c.give_heard-heard.new.slot c.index_mut-then-is_err.result.now c.fail.new.self (slice_set w.links c.args.l c.give_heard-heard.new.link)
          c.index_mut-in-Ok-Done.ensures.value slot c.index_mut-then-is_err.ensures.value c.fail.ensures links),
    )

pub unreachable-requires : goal.unreachable-requires
unreachable-requires c =
    let w : WorldState = record { slots = c.self.inside.slots.items; links = c.self.inside.links.items; book = c.self.inside.book.items } in
    let world : IsWorld w = subst (λ (z : WorldState). IsWorld z) (sym c.self.view_is) c.requires in
    let end : IsDialler w c.args.l c.in-Some.n c.in-Some.name = search rules in
    let who : IsFollower w c.args.l c.in-Some.n c.in-Some.name = follower_here w c.args.l c.in-Some.n c.in-Some.name world end c.index.result.now c.index.ensures (sym c.is_up.ensures ∙ c.if-not-is_up.false) in
    let row = subst (λ r. MasterStep who.slot.node c.in-Some.name c.step.new.self.node r) (c.in-Ok-Closed.is ∙ ap Ok c.in-Ok-Closed.field-0-is)
    (comes_to w c.args.l c.in-Some.n c.in-Some.name world who c.index_mut.result.now c.step.new.self c.index_mut.ensures.value c.step.ensures.rest c.args.given c.args.fresh c.step.result c.step.ensures.row) in
    row

pub unreachable-requires-in-Err-NoLink : goal.unreachable-requires-in-Err-NoLink
unreachable-requires-in-Err-NoLink c =
    let w : WorldState = record { slots = c.self.inside.slots.items; links = c.self.inside.links.items; book = c.self.inside.book.items } in
    let world : IsWorld w = subst (λ (z : WorldState). IsWorld z) (sym c.self.view_is) c.requires in
    let end : IsDialler w c.args.l c.in-Some.n c.in-Some.name = search rules in
    let who : IsFollower w c.args.l c.in-Some.n c.in-Some.name = follower_here w c.args.l c.in-Some.n c.in-Some.name world end c.index.result.now c.index.ensures (sym c.is_up.ensures ∙ c.if-not-is_up.false) in
    let row = subst (λ r. MasterStep who.slot.node c.in-Some.name c.step.new.self.node r) (c.in-Err-NoLink.is ∙ ap Err c.in-Err-NoLink.field-0-is)
    (comes_to w c.args.l c.in-Some.n c.in-Some.name world who c.index_mut.result.now c.step.new.self c.index_mut.ensures.value c.step.ensures.rest c.args.given c.args.fresh c.step.result c.step.ensures.row) in
    row

pub unreachable-requires-in-Err-InputFull : goal.unreachable-requires-in-Err-InputFull
unreachable-requires-in-Err-InputFull c =
    let w : WorldState = record { slots = c.self.inside.slots.items; links = c.self.inside.links.items; book = c.self.inside.book.items } in
    let world : IsWorld w = subst (λ (z : WorldState). IsWorld z) (sym c.self.view_is) c.requires in
    let end : IsDialler w c.args.l c.in-Some.n c.in-Some.name = search rules in
    let who : IsFollower w c.args.l c.in-Some.n c.in-Some.name = follower_here w c.args.l c.in-Some.n c.in-Some.name world end c.index.result.now c.index.ensures (sym c.is_up.ensures ∙ c.if-not-is_up.false) in
    let row = subst (λ r. MasterStep who.slot.node c.in-Some.name c.step.new.self.node r) (c.in-Err-InputFull.is ∙ ap Err c.in-Err-InputFull.field-0-is)
    (comes_to w c.args.l c.in-Some.n c.in-Some.name world who c.index_mut.result.now c.step.new.self c.index_mut.ensures.value c.step.ensures.rest c.args.given c.args.fresh c.step.result c.step.ensures.row) in
    row

pub returns-else-is_err : goal.returns-else-is_err
returns-else-is_err c =
    let w : WorldState = record { slots = c.self.inside.slots.items; links = c.self.inside.links.items; book = c.self.inside.book.items } in
    let world : IsWorld w = subst (λ (z : WorldState). IsWorld z) (sym c.self.view_is) c.requires in
    let end : IsDialler w c.args.l c.in-Some.n c.in-Some.name = search rules in
    let who : IsFollower w c.args.l c.in-Some.n c.in-Some.name = follower_here w c.args.l c.in-Some.n c.in-Some.name world end c.index.result.now c.index.ensures (sym c.is_up.ensures ∙ c.if-not-is_up.false) in
    let fresh : is_spent c.args.self.now.book c.args.fresh ≡ false = search rules in
    let row = subst (λ r. MasterStep who.slot.node c.in-Some.name c.step.new.self.node r) (c.in-Ok-Done.is ∙ ap Ok c.in-Ok-Done.field-0-is)
    (comes_to w c.args.l c.in-Some.n c.in-Some.name world who c.index_mut.result.now c.step.new.self c.index_mut.ensures.value c.step.ensures.rest c.args.given c.args.fresh c.step.result c.step.ensures.row) in
    let slot : c.give_heard-heard.new.slot ≡ record c.index_mut-in-Ok-Done.result.now { file = filed c.in-Ok-Done.outs c.index_mut-in-Ok-Done.result.now.file } = search rules in
    let link : c.give_heard-heard.new.link ≡ heard_by c.unread_of_master-left.result c.in-Ok-Done.outs.reply c.index_mut-in-Ok-Done-2.result.now = search rules in (
      fresh,
      subst (λ (z : WorldState). Follows z c.args.l (record w { slots = slice_set (slice_set w.slots c.in-Some.n c.step.new.self) c.in-Some.n c.give_heard-heard.new.slot; links = slice_set w.links c.args.l c.give_heard-heard.new.link })) c.self.view_is
          (carried w c.args.l c.in-Some.n c.in-Some.name world who c.index_mut.result.now c.step.new.self c.index_mut.ensures.value c.step.ensures.rest row.0 row.1 c.in-Ok-Done.outs row.2 c.step.ensures.sound
          c.index-in-Ok-Done.result.now c.index_mut-in-Ok-Done.result.now c.give_heard-heard.new.slot c.unread_of_master-left.result c.index_mut-in-Ok-Done-2.result.now c.give_heard-heard.new.link
          c.index-in-Ok-Done.ensures c.unread_of_master-left.ensures.alone c.unread_of_master-left.ensures.there c.index_mut-in-Ok-Done.ensures.value slot c.index_mut-in-Ok-Done-2.ensures.value link),
    )

pub returns-in-Ok-Idle : goal.returns-in-Ok-Idle
returns-in-Ok-Idle c =
    let w : WorldState = record { slots = c.self.inside.slots.items; links = c.self.inside.links.items; book = c.self.inside.book.items } in
    let world : IsWorld w = subst (λ (z : WorldState). IsWorld z) (sym c.self.view_is) c.requires in
    let end : IsDialler w c.args.l c.in-Some.n c.in-Some.name = search rules in
    let who : IsFollower w c.args.l c.in-Some.n c.in-Some.name = follower_here w c.args.l c.in-Some.n c.in-Some.name world end c.index.result.now c.index.ensures (sym c.is_up.ensures ∙ c.if-not-is_up.false) in
    let fresh : is_spent c.args.self.now.book c.args.fresh ≡ false = search rules in
    let row = subst (λ r. MasterStep who.slot.node c.in-Some.name c.step.new.self.node r) (c.in-Ok-Idle.is ∙ ap Ok c.in-Ok-Idle.field-0-is)
    (comes_to w c.args.l c.in-Some.n c.in-Some.name world who c.index_mut.result.now c.step.new.self c.index_mut.ensures.value c.step.ensures.rest c.args.given c.args.fresh c.step.result c.step.ensures.row) in (
      fresh,
      subst (λ (z : WorldState). Follows z c.args.l (record w { slots = slice_set w.slots c.in-Some.n c.step.new.self })) c.self.view_is
          (Follows.waits (waits_here w c.args.l c.in-Some.n c.in-Some.name world who c.index_mut.result.now c.step.new.self c.index_mut.ensures.value c.step.ensures.rest c.step.ensures.sound row)),
    )

pub returns-in-Err-Memory : goal.returns-in-Err-Memory
returns-in-Err-Memory c =
    let w : WorldState = record { slots = c.self.inside.slots.items; links = c.self.inside.links.items; book = c.self.inside.book.items } in
    let world : IsWorld w = subst (λ (z : WorldState). IsWorld z) (sym c.self.view_is) c.requires in
    let end : IsDialler w c.args.l c.in-Some.n c.in-Some.name = search rules in
    let who : IsFollower w c.args.l c.in-Some.n c.in-Some.name = follower_here w c.args.l c.in-Some.n c.in-Some.name world end c.index.result.now c.index.ensures (sym c.is_up.ensures ∙ c.if-not-is_up.false) in
    let fresh : is_spent c.args.self.now.book c.args.fresh ≡ false = search rules in
    let row = subst (λ r. MasterStep who.slot.node c.in-Some.name c.step.new.self.node r) (c.in-Err-Memory.is ∙ ap Err c.in-Err-Memory.field-0-is)
    (comes_to w c.args.l c.in-Some.n c.in-Some.name world who c.index_mut.result.now c.step.new.self c.index_mut.ensures.value c.step.ensures.rest c.args.given c.args.fresh c.step.result c.step.ensures.row) in (
      fresh,
      subst (λ (z : WorldState). HasLacked z c.args.l (record w { slots = slice_set w.slots c.in-Some.n c.step.new.self })) c.self.view_is
          (lacks_here w c.args.l c.in-Some.n c.in-Some.name world who c.index_mut.result.now c.step.new.self c.index_mut.ensures.value c.step.ensures.rest c.step.ensures.sound row),
    )

pub returns-in-Err-Stopped : goal.returns-in-Err-Stopped
returns-in-Err-Stopped c =
    let w : WorldState = record { slots = c.self.inside.slots.items; links = c.self.inside.links.items; book = c.self.inside.book.items } in
    let world : IsWorld w = subst (λ (z : WorldState). IsWorld z) (sym c.self.view_is) c.requires in
    let end : IsDialler w c.args.l c.in-Some.n c.in-Some.name = search rules in
    let who : IsFollower w c.args.l c.in-Some.n c.in-Some.name = follower_here w c.args.l c.in-Some.n c.in-Some.name world end c.index.result.now c.index.ensures (sym c.is_up.ensures ∙ c.if-not-is_up.false) in
    let fresh : is_spent c.args.self.now.book c.args.fresh ≡ false = search rules in
    let row = subst (λ r. MasterStep who.slot.node c.in-Some.name c.step.new.self.node r) (c.in-Err-Stopped.is ∙ ap Err c.in-Err-Stopped.field-0-is)
    (comes_to w c.args.l c.in-Some.n c.in-Some.name world who c.index_mut.result.now c.step.new.self c.index_mut.ensures.value c.step.ensures.rest c.args.given c.args.fresh c.step.result c.step.ensures.row) in (
      fresh,
      subst (λ (z : WorldState). Follows z c.args.l (record w { slots = slice_set w.slots c.in-Some.n c.step.new.self })) c.self.view_is
          (Follows.spends (spends_here w c.args.l c.in-Some.n c.in-Some.name world who c.index_mut.result.now c.step.new.self c.index_mut.ensures.value c.step.ensures.rest c.step.ensures.sound row)),
    )
