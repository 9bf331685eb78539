use Rattle.std.proofs.Common.{rules, ◌≡◌, ◌<◌, ◌∙◌, true, length, refl, sym, subst}
use Rattle.std.specs.Prelude.{slice_set}
use Rattle.law_refinement.specs.State.{WorldState}
use Rattle.law_refinement.specs.Worlds.{IsWorld}
use Rattle.mr_world.specs.Linking.{BreaksOff, IsDialler}
use Rattle.mr_world.proofs.Dialling.{drops_here, rests_here, slot_within}
use Rattle.mr_world.proofs.parts.Parts.break_dialler.Goals as goal

pub index-requires : goal.index-requires
index-requires c =
    let w : WorldState = record { slots = c.self.inside.slots.items; links = c.self.inside.links.items; book = c.self.inside.book.items } in
    let who : IsDialler w c.args.l c.in-Some.n c.in-Some.name = search rules in
    let near : c.in-Some.n < length c.self.inside.slots.items = slot_within w c.args.l c.in-Some.n c.in-Some.name who in
    search rules

pub index_mut-requires : goal.index_mut-requires
index_mut-requires c =
    let w : WorldState = record { slots = c.self.inside.slots.items; links = c.self.inside.links.items; book = c.self.inside.book.items } in
    let who : IsDialler w c.args.l c.in-Some.n c.in-Some.name = search rules in
    let near : c.in-Some.n < length c.self.inside.slots.items = slot_within w c.args.l c.in-Some.n c.in-Some.name who in
    search rules

pub returns-then-not-is_up : goal.returns-then-not-is_up
returns-then-not-is_up c =
    let w : WorldState = record { slots = c.self.inside.slots.items; links = c.self.inside.links.items; book = c.self.inside.book.items } in
    let who : IsDialler w c.args.l c.in-Some.n c.in-Some.name = search rules in
    subst (λ (z : WorldState). BreaksOff z c.args.l z) c.self.view_is
    (BreaksOff.rests (rests_here w c.args.l c.in-Some.n c.in-Some.name who c.index.result.now c.index.ensures (sym c.is_up.ensures ∙ c.if-not-is_up.true)) refl)

pub returns : goal.returns
returns c =
    let w : WorldState = record { slots = c.self.inside.slots.items; links = c.self.inside.links.items; book = c.self.inside.book.items } in
    let world : IsWorld w = subst (λ (z : WorldState). IsWorld z) (sym c.self.view_is) c.requires in
    let who : IsDialler w c.args.l c.in-Some.n c.in-Some.name = search rules in
    let up : c.index.result.now.node.core.up ≡ true = sym c.is_up.ensures ∙ c.if-not-is_up.false in
    subst (λ (z : WorldState). BreaksOff z c.args.l (record w { slots = slice_set w.slots c.in-Some.n c.close.new.self })) c.self.view_is
    (BreaksOff.drops (drops_here w c.args.l c.in-Some.n c.in-Some.name who c.index.result.now c.index.ensures world up c.index_mut.result.now c.close.new.self c.index_mut.ensures.value c.close.ensures))
