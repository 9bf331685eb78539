use Rattle.std.proofs.Common.{rules, ◌∙◌, Ok, Err, sym, ap, subst}
use Rattle.std.specs.Prelude.{slice_set}
use Rattle.law_refinement.specs.State.{WorldState}
use Rattle.law_refinement.specs.Worlds.{IsWorld}
use Rattle.mr_world_parts.specs.Answering.{IsServing}
use Rattle.mr_world.specs.Serving.{IsCarried, NeedsMemory, ServesLink}
use Rattle.mr_world.proofs.Servings.{behind_there, carries_there, idles_there, lacks_there, never_absent, never_closed, never_full, spends_there}
use Rattle.mr_world.proofs.parts.Parts.step_at.Goals as goal

pub carry_step-requires-clause-behind : goal.carry_step-requires-clause-behind
carry_step-requires-clause-behind c =
    let w : WorldState = record { slots = c.self.inside.slots.items; links = c.self.inside.links.items; book = c.self.inside.book.items } in
    let world : IsWorld w = subst (λ (z : WorldState). IsWorld z) (sym c.self.view_is) c.requires.world in
    let serving : IsServing w c.args.at.link c.args.at.node c.args.at.name = subst (λ (z : WorldState). IsServing z c.args.at.link c.args.at.node c.args.at.name) (sym c.self.view_is) c.requires.serving in
    behind_there w c.args.at.link c.args.at.node c.args.at.name c.args.given c.args.fresh world serving c.index_mut.result.now c.index_mut.ensures.value c.step.new.self c.step.result c.step.ensures.row c.step.ensures.rest
    c.in-Ok-Done.outs (c.in-Ok-Done.is ∙ ap Ok c.in-Ok-Done.field-0-is)

pub unreachable-requires-in-Ok-Closed : goal.unreachable-requires-in-Ok-Closed
unreachable-requires-in-Ok-Closed c =
    let w : WorldState = record { slots = c.self.inside.slots.items; links = c.self.inside.links.items; book = c.self.inside.book.items } in
    let world : IsWorld w = subst (λ (z : WorldState). IsWorld z) (sym c.self.view_is) c.requires.world in
    let serving : IsServing w c.args.at.link c.args.at.node c.args.at.name = subst (λ (z : WorldState). IsServing z c.args.at.link c.args.at.node c.args.at.name) (sym c.self.view_is) c.requires.serving in
    never_closed w c.args.at.link c.args.at.node c.args.at.name c.args.given c.args.fresh world serving c.index_mut.result.now c.index_mut.ensures.value c.step.new.self c.step.result c.step.ensures.row c.step.ensures.rest
    (c.in-Ok-Closed.is ∙ ap Ok c.in-Ok-Closed.field-0-is)

pub unreachable-requires-in-Err-NoLink : goal.unreachable-requires-in-Err-NoLink
unreachable-requires-in-Err-NoLink c =
    let w : WorldState = record { slots = c.self.inside.slots.items; links = c.self.inside.links.items; book = c.self.inside.book.items } in
    let world : IsWorld w = subst (λ (z : WorldState). IsWorld z) (sym c.self.view_is) c.requires.world in
    let serving : IsServing w c.args.at.link c.args.at.node c.args.at.name = subst (λ (z : WorldState). IsServing z c.args.at.link c.args.at.node c.args.at.name) (sym c.self.view_is) c.requires.serving in
    never_absent w c.args.at.link c.args.at.node c.args.at.name c.args.given c.args.fresh world serving c.index_mut.result.now c.index_mut.ensures.value c.step.new.self c.step.result c.step.ensures.row c.step.ensures.rest
    (c.in-Err-NoLink.is ∙ ap Err c.in-Err-NoLink.field-0-is)

pub unreachable-requires-in-Err-InputFull : goal.unreachable-requires-in-Err-InputFull
unreachable-requires-in-Err-InputFull c =
    let w : WorldState = record { slots = c.self.inside.slots.items; links = c.self.inside.links.items; book = c.self.inside.book.items } in
    let world : IsWorld w = subst (λ (z : WorldState). IsWorld z) (sym c.self.view_is) c.requires.world in
    let serving : IsServing w c.args.at.link c.args.at.node c.args.at.name = subst (λ (z : WorldState). IsServing z c.args.at.link c.args.at.node c.args.at.name) (sym c.self.view_is) c.requires.serving in
    never_full w c.args.at.link c.args.at.node c.args.at.name c.args.given c.args.fresh world serving c.index_mut.result.now c.index_mut.ensures.value c.step.new.self c.step.result c.step.ensures.row c.step.ensures.rest
    (c.in-Err-InputFull.is ∙ ap Err c.in-Err-InputFull.field-0-is)

pub returns-in-Ok-Done : goal.returns-in-Ok-Done
returns-in-Ok-Done c =
    let w : WorldState = record { slots = c.self.inside.slots.items; links = c.self.inside.links.items; book = c.self.inside.book.items } in
    let world : IsWorld w = subst (λ (z : WorldState). IsWorld z) (sym c.self.view_is) c.requires.world in
    let serving : IsServing w c.args.at.link c.args.at.node c.args.at.name = subst (λ (z : WorldState). IsServing z c.args.at.link c.args.at.node c.args.at.name) (sym c.self.view_is) c.requires.serving in
    let carried : IsCarried (record w { slots = slice_set w.slots c.args.at.node c.step.new.self }) c.args.at.node c.args.at.link c.in-Some.id c.in-Some.offset c.in-Ok-Done.outs c.carry_step.new.self = search rules in (
      c.requires.unspent,
      subst (λ (z : WorldState). ServesLink z c.args.at.link c.args.given c.args.fresh c.carry_step.new.self) c.self.view_is
          (carries_there w c.args.at.link c.args.at.node c.args.at.name c.args.given c.args.fresh world serving c.index_mut.result.now c.index_mut.ensures.value c.step.new.self c.step.result c.step.ensures.row c.step.ensures.rest
          c.in-Ok-Done.outs (c.in-Ok-Done.is ∙ ap Ok c.in-Ok-Done.field-0-is) c.step.ensures.sound c.in-Some.id c.in-Some.offset c.index.result.now c.carry_step.new.self c.index.ensures (sym c.shows.ensures ∙ c.in-Some.is) carried.carries),
    )

pub returns-in-Ok-Idle : goal.returns-in-Ok-Idle
returns-in-Ok-Idle c =
    let w : WorldState = record { slots = c.self.inside.slots.items; links = c.self.inside.links.items; book = c.self.inside.book.items } in
    let world : IsWorld w = subst (λ (z : WorldState). IsWorld z) (sym c.self.view_is) c.requires.world in
    let serving : IsServing w c.args.at.link c.args.at.node c.args.at.name = subst (λ (z : WorldState). IsServing z c.args.at.link c.args.at.node c.args.at.name) (sym c.self.view_is) c.requires.serving in (
      c.requires.unspent,
      subst (λ (z : WorldState). ServesLink z c.args.at.link c.args.given c.args.fresh (record w { slots = slice_set w.slots c.args.at.node c.step.new.self })) c.self.view_is
          (idles_there w c.args.at.link c.args.at.node c.args.at.name c.args.given c.args.fresh world serving c.index_mut.result.now c.index_mut.ensures.value c.step.new.self c.step.result c.step.ensures.row c.step.ensures.rest (c.in-Ok-Idle.is ∙ ap Ok c.in-Ok-Idle.field-0-is)),
    )

pub returns-in-Err-Memory : goal.returns-in-Err-Memory
returns-in-Err-Memory c =
    let w : WorldState = record { slots = c.self.inside.slots.items; links = c.self.inside.links.items; book = c.self.inside.book.items } in
    let world : IsWorld w = subst (λ (z : WorldState). IsWorld z) (sym c.self.view_is) c.requires.world in
    let serving : IsServing w c.args.at.link c.args.at.node c.args.at.name = subst (λ (z : WorldState). IsServing z c.args.at.link c.args.at.node c.args.at.name) (sym c.self.view_is) c.requires.serving in
    let lacks = lacks_there w c.args.at.link c.args.at.node c.args.at.name c.args.given c.args.fresh world serving c.index_mut.result.now c.index_mut.ensures.value c.step.new.self c.step.result c.step.ensures.row c.step.ensures.rest (c.in-Err-Memory.is ∙ ap Err c.in-Err-Memory.field-0-is) in (
      c.requires.unspent,
      subst (λ (z : WorldState). NeedsMemory z c.args.at.link) c.self.view_is lacks.0,
      lacks.1 ∙ c.self.view_is,
    )

pub returns-in-Err-Stopped : goal.returns-in-Err-Stopped
returns-in-Err-Stopped c =
    let w : WorldState = record { slots = c.self.inside.slots.items; links = c.self.inside.links.items; book = c.self.inside.book.items } in
    let world : IsWorld w = subst (λ (z : WorldState). IsWorld z) (sym c.self.view_is) c.requires.world in
    let serving : IsServing w c.args.at.link c.args.at.node c.args.at.name = subst (λ (z : WorldState). IsServing z c.args.at.link c.args.at.node c.args.at.name) (sym c.self.view_is) c.requires.serving in (
      c.requires.unspent,
      subst (λ (z : WorldState). ServesLink z c.args.at.link c.args.given c.args.fresh (record w { slots = slice_set w.slots c.args.at.node c.step.new.self })) c.self.view_is
          (spends_there w c.args.at.link c.args.at.node c.args.at.name c.args.given c.args.fresh world serving c.index_mut.result.now c.index_mut.ensures.value c.step.new.self c.step.result c.step.ensures.row c.step.ensures.rest (c.in-Err-Stopped.is ∙ ap Err c.in-Err-Stopped.field-0-is)),
    )
