use Rattle.std.proofs.Common.{rules, ◌≡◌, ◌<◌, inl, inr, ◌∙◌, not, Some, length, sym, ap, subst}
use Rattle.std.specs.Prelude.{slice_get, slice_set}
use Rattle.law_refinement.specs.State.{Link, WorldState}
use Rattle.law_refinement.specs.Carrying.{booked_as, filed}
use Rattle.mr_world_parts.specs.Answering.{answered_links}
use Rattle.mr_world_parts.specs.Memory.{TakesMemory}
use Rattle.mr_world_parts.proofs.Places.{stands}
use Rattle.mr_world_parts.proofs.Lacking.{where_err}
use Rattle.mr_world.specs.Serving.{IsCarried}
use Rattle.mr_world.proofs.Servings.{carries_here, stops_here}
use Rattle.mr_world.proofs.parts.Parts.carry_step.Goals as goal

pub give_step-carried-requires-clause-behind : goal.give_step-carried-requires-clause-behind
give_step-carried-requires-clause-behind c =
    let within : c.args.giving.now.node < length c.self.inside.slots.items = search rules in
    λ k found. c.requires.behind c.index_mut.result.now k
    (ap (λ (z : WorldState). slice_get z.slots c.args.giving.now.node) (sym c.self.view_is) ∙ stands c.self.inside.slots.items c.args.giving.now.node c.index_mut.result.now within c.index_mut.ensures.value)
    (ap (λ (z : WorldState). slice_get z.links c.args.l) (sym c.self.view_is) ∙ found)

pub returns-then-is_ok : goal.returns-then-is_ok
returns-then-is_ok c =
    let w : WorldState = record { slots = c.self.inside.slots.items; links = c.self.inside.links.items; book = c.self.inside.book.items } in
    let within : c.args.giving.now.node < length c.self.inside.slots.items = search rules in
    let slot : c.give_step-carried.new.slot ≡ record c.index_mut.result.now { file = filed c.args.giving.now.outs.now c.index_mut.result.now.file } = search rules in
    let links : (k : Link) → slice_get c.self.inside.links.items c.args.l ≡ Some k → c.give_step-carried.new.links.items ≡ answered_links c.args.giving.now.node c.args.l k c.index_mut.result.now.node c.args.giving.now.outs.now c.self.inside.links.items = search rules in
    let book : c.give_step-carried.new.book.items ≡ booked_as c.args.giving.now.outs.now.used c.self.inside.book.items c.args.giving.now.id c.args.giving.now.offset c.args.giving.now.outs.now.grown = search rules in
    subst (λ (z : WorldState). IsCarried z c.args.giving.now.node c.args.l c.args.giving.now.id c.args.giving.now.offset c.args.giving.now.outs.now
    (record { slots = slice_set c.self.inside.slots.items c.args.giving.now.node c.give_step-carried.new.slot; links = c.give_step-carried.new.links.items; book = c.give_step-carried.new.book.items })) c.self.view_is
    (record {
      carries = λ s k at found. inl (carries_here w c.args.giving.now.node c.args.l s c.index_mut.result.now k within c.index_mut.ensures.value at found
          c.args.giving.now.id c.args.giving.now.offset c.args.giving.now.outs.now c.give_step-carried.new.slot c.give_step-carried.new.links.items c.give_step-carried.new.book.items slot links book);
    })

pub returns : goal.returns
returns c =
    let w : WorldState = record { slots = c.self.inside.slots.items; links = c.self.inside.links.items; book = c.self.inside.book.items } in
    let within : c.args.giving.now.node < length c.self.inside.slots.items = search rules in
    let slot : c.give_step-carried.new.slot ≡ c.index_mut.result.now = search rules in
    let links : c.give_step-carried.new.links.items ≡ c.self.inside.links.items = search rules in
    let book : c.give_step-carried.new.book.items ≡ c.self.inside.book.items = search rules in
    let takes : TakesMemory c.args.giving.now.outs.now = where_err c.give_step-carried.result (TakesMemory c.args.giving.now.outs.now) (c.is_ok.ensures.negation ∙ ap not c.if-is_ok.false) c.give_step-carried.ensures.memory in
    subst (λ (z : WorldState). IsCarried z c.args.giving.now.node c.args.l c.args.giving.now.id c.args.giving.now.offset c.args.giving.now.outs.now
    (record { slots = slice_set (slice_set c.self.inside.slots.items c.args.giving.now.node c.give_step-carried.new.slot) c.args.giving.now.node c.fail.new.self; links = c.give_step-carried.new.links.items; book = c.give_step-carried.new.book.items })) c.self.view_is
    (record {
      carries = λ s k at found. inr (
        takes,
        stops_here w c.args.giving.now.node c.args.l s c.index_mut.result.now k within c.index_mut.ensures.value at found
            c.give_step-carried.new.slot c.index_mut-2.result.now c.fail.new.self c.give_step-carried.new.links.items c.give_step-carried.new.book.items slot c.index_mut-2.ensures.value c.fail.ensures links book,
      );
    })
