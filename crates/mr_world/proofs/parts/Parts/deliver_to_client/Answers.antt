use Rattle.std.proofs.Common.{rules, ◌≡◌, ◌+◌, ◌<◌, ◌≤◌, length, refl, subst}
use Rattle.law_refinement.specs.State.{WorldState, Link}
use Rattle.mr_world_parts.specs.AtLink.{IsAsking}
use Rattle.mr_world.specs.Calls.{Takes, WereNotSent, put_link}
use Rattle.mr_world.proofs.Joins.{not_sent, read_twice, takes_here}
use Rattle.mr_world.proofs.parts.Parts.deliver_to_client.Goals as goal

pub returns-then-not-has_told : goal.returns-then-not-has_told
returns-then-not-has_told c =
    let w : WorldState = record { slots = c.self.inside.slots.items; links = c.self.inside.links.items; book = c.self.inside.book.items } in
    let within : c.args.l < length c.self.inside.links.items = search rules in
    let asking : IsAsking c.index-link.result.now = search rules in (
      subst (λ (z : WorldState). WereNotSent z c.args.l c.args.count) c.self.view_is
          (not_sent w c.args.l c.index-link.result.now within c.index-link.ensures c.args.count asking c.has_told.result c.if-not-has_told.true c.has_told.ensures.1),
      refl,
    )

pub take_told-requires : goal.take_told-requires
take_told-requires c =
    let w : WorldState = record { slots = c.self.inside.slots.items; links = c.self.inside.links.items; book = c.self.inside.book.items } in
    let within : c.args.l < length c.self.inside.links.items = search rules in
    let before : IsAsking c.index-link.result.now = search rules in
    let same : c.index-link.result.now ≡ c.index_mut.result.now = read_twice c.self.inside.links.items c.args.l c.index-link.result.now c.index_mut.result.now within c.index-link.ensures c.index_mut.ensures.value in
    let asking : IsAsking c.index_mut.result.now = subst (λ (z : Link). IsAsking z) same before in
    let sent : c.index_mut.result.now.tell.taken + c.args.count ≤ length c.index_mut.result.now.tell.sent = subst (λ (z : Link). z.tell.taken + c.args.count ≤ length z.tell.sent) same (c.has_told.ensures.0 c.if-not-has_told.false) in
    sent

pub returns : goal.returns
returns c =
    let w : WorldState = record { slots = c.self.inside.slots.items; links = c.self.inside.links.items; book = c.self.inside.book.items } in
    let within : c.args.l < length c.self.inside.links.items = search rules in
    let before : IsAsking c.index-link.result.now = search rules in
    let same : c.index-link.result.now ≡ c.index_mut.result.now = read_twice c.self.inside.links.items c.args.l c.index-link.result.now c.index_mut.result.now within c.index-link.ensures c.index_mut.ensures.value in
    let asking : IsAsking c.index_mut.result.now = subst (λ (z : Link). IsAsking z) same before in
    let sent : c.index_mut.result.now.tell.taken + c.args.count ≤ length c.index_mut.result.now.tell.sent = subst (λ (z : Link). z.tell.taken + c.args.count ≤ length z.tell.sent) same (c.has_told.ensures.0 c.if-not-has_told.false) in
    subst (λ (z : WorldState). Takes z c.args.l c.args.count (put_link w c.args.l c.take_told.new.self)) c.self.view_is
    (takes_here w c.args.l c.index_mut.result.now within c.index_mut.ensures.value c.args.count c.take_told.new.self asking sent c.take_told.ensures)
