use Rattle.std.proofs.Common.{◌≡◌, ◌∙◌, [], refl, sym, ap, subst}
use Rattle.std.specs.FinMap.{FinMap, get, insert}
use Rattle.mr_links.specs.Links.{Links}
use Rattle.mr_links.specs.LinkId.{id_cmp}
use Rattle.mr_node_links.specs.State.{EndState, end_at}
use Rattle.mr_node_links.specs.State.EndState.{client}
use Rattle.mr_node_links.specs.Replicas.{Lists}
use Rattle.mr_node_links.proofs.Naming.{unput_lists}
use Rattle.mr_node_links.proofs.Places.{get_put, some_is}
use Rattle.mr_node_links.proofs.ends.Ends.take_back.Goals as goal

pub invariant_of-self : goal.invariant_of-self
invariant_of-self c =
    let i = c.self.inside in let new = c.take_back.new.self.open_links in let put = c.take_back.ensures.inserted in
    let its : c.take_back.result ≡ client [] = some_is c.take_back.result (client [])
    (sym (get_put new c.args.link c.take_back.result) ∙ (ap (λ (m : FinMap id_cmp EndState). get m c.args.link) (sym put) ∙ (ap (λ (z : Links EndState). end_at z c.args.link) c.self.view_is ∙ c.requires.open))) in
    unput_lists i.replicas.items new c.args.link (client []) c.take_back.ensures.fresh refl
    (subst (λ (m : FinMap id_cmp EndState). Lists i.replicas.items m) (put ∙ ap (λ (e : EndState). insert new c.args.link e) its) c.self.invariant)

pub returns-clause-opens : goal.returns-clause-opens
returns-clause-opens c =
    let new = c.take_back.new.self in let put = c.take_back.ensures.inserted in
    let its : c.take_back.result ≡ client [] = some_is c.take_back.result (client [])
    (sym (get_put new.open_links c.args.link c.take_back.result) ∙ (ap (λ (m : FinMap id_cmp EndState). get m c.args.link) (sym put) ∙ (ap (λ (z : Links EndState). end_at z c.args.link) c.self.view_is ∙ c.requires.open))) in
    let ends = put ∙ ap (λ (e : EndState). insert new.open_links c.args.link e) its in
    sym c.self.view_is ∙ (λ k. record { open_links = ends k; opened = c.take_back.ensures.opened k })
