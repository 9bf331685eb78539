use Rattle.std.proofs.Common.{rules, ◌≡◌, ◌<◌, ◌∙◌, true, false, length, sym, subst}
use Rattle.law_refinement.specs.State.{WorldState}
use Rattle.law_refinement.specs.Worlds.{IsWorld}
use Rattle.mr_world_parts.specs.AtNode.{is_spent}
use Rattle.mr_world_parts.specs.Answering.{IsServing}
use Rattle.mr_world.specs.Serving.{ServesLink}
use Rattle.mr_world.proofs.Joins.{server_there}
use Rattle.mr_world.proofs.Servings.{rests_there, serving_there}
use Rattle.mr_world.proofs.parts.Parts.step_server.Goals as goal

pub index-requires : goal.index-requires
index-requires c =
    let w : WorldState = record { slots = c.self.inside.slots.items; links = c.self.inside.links.items; book = c.self.inside.book.items } in
    let within : c.args.l < length c.self.inside.links.items = search rules in
    let there : c.to-to.result < length c.self.inside.slots.items = server_there w c.args.l c.to-to.result c.index-link.result.now within c.index-link.ensures c.to-to.ensures (subst (λ (z : WorldState). IsWorld z) (sym c.self.view_is) c.requires) in
    search rules

pub returns-then-not-is_up : goal.returns-then-not-is_up
returns-then-not-is_up c =
    let w : WorldState = record { slots = c.self.inside.slots.items; links = c.self.inside.links.items; book = c.self.inside.book.items } in
    let within : c.args.l < length c.self.inside.links.items = search rules in
    let there : c.to-to.result < length c.self.inside.slots.items = server_there w c.args.l c.to-to.result c.index-link.result.now within c.index-link.ensures c.to-to.ensures (subst (λ (z : WorldState). IsWorld z) (sym c.self.view_is) c.requires) in
    let open_now : c.index-link.result.now.serving ≡ true = sym c.serving.ensures ∙ c.if-not-serving.false in
    let unspent : is_spent c.self.inside.book.items c.args.fresh ≡ false = search rules in
    subst (λ (z : WorldState). (is_spent z.book c.args.fresh ≡ false) × ServesLink z c.args.l c.args.given c.args.fresh z) c.self.view_is
    (unspent, rests_there w c.args.l c.to-to.result c.index-link.result.now within c.index-link.ensures c.to-to.ensures open_now c.index.result.now there c.index.ensures c.args.given c.args.fresh (sym c.is_up.ensures ∙ c.if-not-is_up.true))

pub step_at-requires-clause-serving : goal.step_at-requires-clause-serving
step_at-requires-clause-serving c =
    let w : WorldState = record { slots = c.self.inside.slots.items; links = c.self.inside.links.items; book = c.self.inside.book.items } in
    let within : c.args.l < length c.self.inside.links.items = search rules in
    let there : c.to-to.result < length c.self.inside.slots.items = server_there w c.args.l c.to-to.result c.index-link.result.now within c.index-link.ensures c.to-to.ensures (subst (λ (z : WorldState). IsWorld z) (sym c.self.view_is) c.requires) in
    let open_now : c.index-link.result.now.serving ≡ true = sym c.serving.ensures ∙ c.if-not-serving.false in
    subst (λ (z : WorldState). IsServing z c.args.l c.to-to.result c.name-name.result) c.self.view_is
    (serving_there w c.args.l c.to-to.result c.index-link.result.now within c.index-link.ensures c.to-to.ensures open_now c.index.result.now there c.index.ensures c.name-name.result c.name-name.ensures (sym c.is_up.ensures ∙ c.if-not-is_up.false))
