use Rattle.std.proofs.Common.{◌≡◌, ◌∙◌, ap, sym, [], ◌∷◌, true, false}
use Rattle.std.specs.FinMap.{keys}
use Rattle.std.proofs.lemmas.List.{nil_from_length}
use Rattle.mr_resp.specs.ReplyView.{views}
use Rattle.mr_resp.specs.Replies as reply
use Rattle.mr_resp.proofs.ViewLemmas.{view-Array}
use Rattle.mr_cmd_shared.proofs.PlanLemmas.{if_ok}
use Rattle.mr_cmd_set.specs.Sets.{bulks}
use Rattle.mr_cmd_set.specs.Grouping.{members_of}
use Rattle.mr_cmd_set.specs.Combining.{combined}
use Rattle.mr_cmd_set.proofs.Sets.{no_members}
use Rattle.mr_cmd_set.proofs.Combinations.{wanted_members}
use Rattle.mr_cmd_set.proofs.combining.combined.Goals as goal

pub returns-in_default : goal.returns-in_default
returns-in_default c =
    let none : c.in_order-sets.result.items ≡ [] = sym c.deref.ensures.value ∙ nil_from_length _ c.in_default.ensures.cases in
    view-Array c.new.result ∙ ap (λ rs. reply.array (views rs)) c.new.ensures.items
    ∙ sym (ap bulks (sym c.in_order-sets.ensures) ∙ ap (λ ss. bulks (keys (combined c.args.operation (members_of ss)))) none ∙ ap bulks no_members)

pub returns-in-Intersection : goal.returns-in-Intersection
returns-in-Intersection c =
    let all = sym c.deref.ensures.value ∙ c.in-Some.ensures.cases.0 in
    if_ok c.members_where.result (λ r h. h ∙ ap bulks (sym (wanted_members true c.in-Some.others.now c.in-Some.first.now.now)) ∙ sym (ap bulks (sym c.in_order-sets.ensures) ∙ ap (λ ss. bulks (keys (combined c.args.operation (members_of ss)))) all ∙ ap (λ op. bulks (keys (combined op (members_of (c.in-Some.first.now ∷ c.in-Some.others.now))))) c.in-Intersection.is)) c.members_where.ensures

pub returns-in-Union : goal.returns-in-Union
returns-in-Union c =
    let all = sym c.deref.ensures.value ∙ c.in-Some.ensures.cases.0 in
    if_ok c.union.result (λ r h. h ∙ sym (ap bulks (sym c.in_order-sets.ensures) ∙ ap (λ ss. bulks (keys (combined c.args.operation (members_of ss)))) all ∙ ap (λ op. bulks (keys (combined op (members_of (c.in-Some.first.now ∷ c.in-Some.others.now))))) c.in-Union.is)) c.union.ensures

pub returns : goal.returns
returns c =
    let all = sym c.deref.ensures.value ∙ c.in-Some.ensures.cases.0 in
    if_ok c.members_where-in-Difference.result (λ r h. h ∙ ap bulks (sym (wanted_members false c.in-Some.others.now c.in-Some.first.now.now)) ∙ sym (ap bulks (sym c.in_order-sets.ensures) ∙ ap (λ ss. bulks (keys (combined c.args.operation (members_of ss)))) all ∙ ap (λ op. bulks (keys (combined op (members_of (c.in-Some.first.now ∷ c.in-Some.others.now))))) c.in-Difference.is)) c.members_where-in-Difference.ensures
