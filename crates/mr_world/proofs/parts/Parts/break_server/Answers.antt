use Rattle.std.proofs.Common.{rules, ◌≡◌, ◌<◌, ◌∙◌, length, true, false, sym, ap, subst}
use Rattle.std.specs.Prelude.{slice_set}
use Rattle.law_refinement.specs.State.{WorldState, Link, Slot}
use Rattle.law_refinement.specs.Worlds.{IsWorld}
use Rattle.mr_world.specs.Calls.{Breaks}
use Rattle.mr_world.proofs.Joins.{closes_here, idles_here, read_twice, server_there}
use Rattle.mr_world.proofs.parts.Parts.break_server.Goals as goal

pub index-requires : goal.index-requires
index-requires c =
    let w : WorldState = record { slots = c.self.inside.slots.items; links = c.self.inside.links.items; book = c.self.inside.book.items } in
    let within : c.args.l < length c.self.inside.links.items = search rules in
    let there : c.to-to.result < length c.self.inside.slots.items = server_there w c.args.l c.to-to.result c.index-link.result.now within c.index-link.ensures c.to-to.ensures (subst (λ (z : WorldState). IsWorld z) (sym c.self.view_is) c.requires) in
    search rules

pub returns-then-not-is_up : goal.returns-then-not-is_up
returns-then-not-is_up c =
    let w : WorldState = record { slots = c.self.inside.slots.items; links = c.self.inside.links.items; book = c.self.inside.book.items } in
    let within : c.args.l < length c.self.inside.links.items = search rules in
    let there : c.to-to.result < length c.self.inside.slots.items = server_there w c.args.l c.to-to.result c.index-link.result.now within c.index-link.ensures c.to-to.ensures (subst (λ (z : WorldState). IsWorld z) (sym c.self.view_is) c.requires) in
    let open_now : c.index-link.result.now.serving ≡ true = sym c.serving.ensures ∙ c.if-not-serving.false in
    subst (λ (z : WorldState). Breaks z c.args.l z) c.self.view_is
    (idles_here w c.args.l c.to-to.result c.index-link.result.now within c.index-link.ensures c.to-to.ensures c.index.result.now there c.index.ensures open_now (sym c.is_up.ensures ∙ c.if-not-is_up.true))

pub index_mut-requires : goal.index_mut-requires
index_mut-requires c =
    let w : WorldState = record { slots = c.self.inside.slots.items; links = c.self.inside.links.items; book = c.self.inside.book.items } in
    let within : c.args.l < length c.self.inside.links.items = search rules in
    let there : c.to-to.result < length c.self.inside.slots.items = server_there w c.args.l c.to-to.result c.index-link.result.now within c.index-link.ensures c.to-to.ensures (subst (λ (z : WorldState). IsWorld z) (sym c.self.view_is) c.requires) in
    search rules

pub returns : goal.returns
returns c =
    let w : WorldState = record { slots = c.self.inside.slots.items; links = c.self.inside.links.items; book = c.self.inside.book.items } in
    let within : c.args.l < length c.self.inside.links.items = search rules in
    let there : c.to-to.result < length c.self.inside.slots.items = server_there w c.args.l c.to-to.result c.index-link.result.now within c.index-link.ensures c.to-to.ensures (subst (λ (z : WorldState). IsWorld z) (sym c.self.view_is) c.requires) in
    let open_now : c.index-link.result.now.serving ≡ true = sym c.serving.ensures ∙ c.if-not-serving.false in
    let node : c.index.result.now ≡ c.index_mut.result.now = read_twice c.self.inside.slots.items c.to-to.result c.index.result.now c.index_mut.result.now there c.index.ensures c.index_mut.ensures.value in
    let up : c.index_mut.result.now.node.core.up ≡ true = subst (λ (z : Slot). z.node.core.up ≡ true) node (sym c.is_up.ensures ∙ c.if-not-is_up.false) in
    let link : c.index-link.result.now ≡ c.index_mut-2.result.now = read_twice c.self.inside.links.items c.args.l c.index-link.result.now c.index_mut-2.result.now within c.index-link.ensures c.index_mut-2.ensures.value in
    subst (λ (z : WorldState). Breaks z c.args.l (record w { slots = slice_set w.slots c.to-to.result c.close.new.self; links = slice_set w.links c.args.l c.shut.new.self })) c.self.view_is
    (closes_here w c.args.l c.to-to.result c.index-link.result.now within c.index-link.ensures c.to-to.ensures c.index_mut.result.now there c.index_mut.ensures.value open_now c.close.new.self c.name-name.result c.shut.new.self
    up c.name-name.ensures c.close.ensures (c.shut.ensures ∙ ap (λ (z : Link). record z { serving = false }) (sym link)))
