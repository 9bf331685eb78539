use Rattle.std.proofs.Common.{rules, ◌≡◌, ◌<◌, length, subst}
use Rattle.law_refinement.specs.State.{WorldState, Link}
use Rattle.mr_world_parts.specs.AtLink.{IsAsking}
use Rattle.mr_world.specs.Calls.{Leaves, put_link}
use Rattle.mr_world.proofs.Joins.{leaves_here, read_twice}
use Rattle.mr_world.proofs.parts.Parts.break_client.Goals as goal

pub leave-requires : goal.leave-requires
leave-requires c =
    let w : WorldState = record { slots = c.self.inside.slots.items; links = c.self.inside.links.items; book = c.self.inside.book.items } in
    let within : c.args.l < length c.self.inside.links.items = search rules in
    let before : IsAsking c.index-link.result.now = search rules in
    let same : c.index-link.result.now ≡ c.index_mut.result.now = read_twice c.self.inside.links.items c.args.l c.index-link.result.now c.index_mut.result.now within c.index-link.ensures c.index_mut.ensures.value in
    let asking : IsAsking c.index_mut.result.now = subst (λ (z : Link). IsAsking z) same before in
    asking

pub returns : goal.returns
returns c =
    let w : WorldState = record { slots = c.self.inside.slots.items; links = c.self.inside.links.items; book = c.self.inside.book.items } in
    let within : c.args.l < length c.self.inside.links.items = search rules in
    let before : IsAsking c.index-link.result.now = search rules in
    let same : c.index-link.result.now ≡ c.index_mut.result.now = read_twice c.self.inside.links.items c.args.l c.index-link.result.now c.index_mut.result.now within c.index-link.ensures c.index_mut.ensures.value in
    let asking : IsAsking c.index_mut.result.now = subst (λ (z : Link). IsAsking z) same before in
    subst (λ (z : WorldState). Leaves z c.args.l (put_link w c.args.l c.leave.new.self)) c.self.view_is
    (leaves_here w c.args.l c.index_mut.result.now within c.index_mut.ensures.value c.leave.new.self asking c.leave.ensures)
