use Rattle.std.proofs.Common.{rules, ◌≡◌, ◌<◌, ◌≤◌, ℕ, length, subst}
use Rattle.mr_links.specs.declared.link_id.LinkId.{LinkId}
use Rattle.law_refinement.specs.State.{WorldState, a_node}
use Rattle.mr_world_parts.specs.AtNode.{IsFollowing}
use Rattle.mr_world.specs.Linking.{IsDialler, NoneFollows}
use Rattle.mr_world.proofs.Dialling.{dialler_here, none_follows, none_of_client, none_there}
use Rattle.mr_world.proofs.parts.Parts.dialler.Goals as goal

pub returns-in_default-clause-none : goal.returns-in_default-clause-none
returns-in_default-clause-none c =
    let w : WorldState = record { slots = c.self.inside.slots.items; links = c.self.inside.links.items; book = c.self.inside.book.items } in
    let within : c.args.l < length c.self.inside.links.items = search rules in
    let client : (n : ℕ) (name : LinkId) → c.index.result.now.caller ≡ a_node n name → ⊥ = search rules in
    subst (λ (z : WorldState). NoneFollows z c.args.l) c.self.view_is (none_of_client w c.args.l c.index.result.now within c.index.ensures client)

pub returns-then-n-len-clause-none : goal.returns-then-n-len-clause-none
returns-then-n-len-clause-none c =
    let w : WorldState = record { slots = c.self.inside.slots.items; links = c.self.inside.links.items; book = c.self.inside.book.items } in
    let within : c.args.l < length c.self.inside.links.items = search rules in
    let caller : c.index.result.now.caller ≡ a_node c.in-Some.n c.in-Some.name = search rules in
    let far : length c.self.inside.slots.items ≤ c.in-Some.n = search rules in
    subst (λ (z : WorldState). NoneFollows z c.args.l) c.self.view_is (none_there w c.args.l c.index.result.now within c.index.ensures c.in-Some.n c.in-Some.name caller far)

pub returns-then-not-follows_by-clause-none : goal.returns-then-not-follows_by-clause-none
returns-then-not-follows_by-clause-none c =
    let w : WorldState = record { slots = c.self.inside.slots.items; links = c.self.inside.links.items; book = c.self.inside.book.items } in
    let within : c.args.l < length c.self.inside.links.items = search rules in
    let caller : c.index.result.now.caller ≡ a_node c.in-Some.n c.in-Some.name = search rules in
    let there : c.in-Some.n < length c.self.inside.slots.items = search rules in
    let others : IsFollowing c.index-2.result.now c.args.l → ⊥ = search rules in
    subst (λ (z : WorldState). NoneFollows z c.args.l) c.self.view_is (none_follows w c.args.l c.index.result.now within c.index.ensures c.in-Some.n c.in-Some.name caller c.index-2.result.now there c.index-2.ensures others)

pub returns-clause-some : goal.returns-clause-some
returns-clause-some c =
    let w : WorldState = record { slots = c.self.inside.slots.items; links = c.self.inside.links.items; book = c.self.inside.book.items } in
    let within : c.args.l < length c.self.inside.links.items = search rules in
    let caller : c.index.result.now.caller ≡ a_node c.in-Some.n c.in-Some.name = search rules in
    let there : c.in-Some.n < length c.self.inside.slots.items = search rules in
    let following : IsFollowing c.index-2.result.now c.args.l = c.follows_by.ensures.0 c.if-not-follows_by.false in
    subst (λ (z : WorldState). IsDialler z c.args.l c.in-Some.n c.in-Some.name) c.self.view_is
    (dialler_here w c.args.l c.index.result.now within c.index.ensures c.in-Some.n c.in-Some.name caller c.index-2.result.now there c.index-2.ensures following)
