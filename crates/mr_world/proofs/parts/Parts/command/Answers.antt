use Rattle.std.proofs.Common.{rules, [], ◌≡◌, ◌≢◌, ◌<◌, ◌∙◌, length, sym, subst}
use Rattle.law_refinement.specs.Way.{sent_on}
use Rattle.law_refinement.specs.State.{WorldState, Link}
use Rattle.law_refinement.proofs.Places.{some_is}
use Rattle.law_refinement.specs.OwnEnds.{IsAClients}
use Rattle.mr_world_parts.specs.AtLink.{IsAsking}
use Rattle.mr_world_parts.proofs.Places.{stands}
use Rattle.mr_world.specs.Calls.{Sends, put_link}
use Rattle.mr_world.proofs.Joins.{asks_here, same_links, sends_here}
use Rattle.mr_world.proofs.parts.Parts.command.Goals as goal

pub returns-then-is_err : goal.returns-then-is_err
returns-then-is_err c =
    let w : WorldState = record { slots = c.self.inside.slots.items; links = c.self.inside.links.items; book = c.self.inside.book.items } in
    let within : c.args.l < length c.self.inside.links.items = search rules in
    let asking : IsAsking c.index.result.now = search rules in
    let same : c.ask.new.self ≡ c.index_mut.result.now = search rules in
    let some : c.args.bytes.now ≢ [] = search rules in (
      (c.index.result.now, subst (λ (z : WorldState). IsAClients z c.args.l c.index.result.now) c.self.view_is (asks_here w c.args.l c.index.result.now within c.index.ensures asking)),
      some,
      same_links w c.args.l c.index_mut.result.now within c.index_mut.ensures.value c.ask.new.self same ∙ c.self.view_is,
    )

pub returns : goal.returns
returns c =
    let w : WorldState = record { slots = c.self.inside.slots.items; links = c.self.inside.links.items; book = c.self.inside.book.items } in
    let within : c.args.l < length c.self.inside.links.items = search rules in
    let before : IsAsking c.index.result.now = search rules in
    let same : c.index.result.now ≡ c.index_mut.result.now = some_is c.index.result.now c.index_mut.result.now
    (sym (stands c.self.inside.links.items c.args.l c.index.result.now within c.index.ensures) ∙ stands c.self.inside.links.items c.args.l c.index_mut.result.now within c.index_mut.ensures.value) in
    let asking : IsAsking c.index_mut.result.now = subst (λ (z : Link). IsAsking z) same before in
    let sent : c.ask.new.self ≡ record c.index_mut.result.now { ask = sent_on c.args.bytes.now c.index_mut.result.now.ask } = search rules in
    subst (λ (z : WorldState). Sends z c.args.l c.args.bytes.now (put_link w c.args.l c.ask.new.self)) c.self.view_is
    (sends_here w c.args.l c.index_mut.result.now within c.index_mut.ensures.value c.args.bytes.now c.ask.new.self asking sent)
