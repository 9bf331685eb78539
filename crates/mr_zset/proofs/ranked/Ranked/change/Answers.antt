use Rattle.std.proofs.Common.{◌≡◌, ◌∙◌, ℕ, List, Some, sym, ap, rules, to_z, of_z, w64}
use Rattle.std.specs.Prelude.{ℤ, option_map}
use Rattle.std.specs.FinMap.{get, insert}
use Rattle.std.proofs.lemmas.Bool.Decides.{Decides-int_eq}
use Rattle.mr_map.specs.Bytes.{ByteMap}
use Rattle.mr_zset.proofs.NameLemmas.{len_changed, named_changed}
use Rattle.mr_zset.proofs.StoredChanges.{insert_same}
use Rattle.mr_zset.proofs.ranked.Ranked.change.Goals as goal

pub returns-then-score-before-clause-ok : goal.returns-then-score-before-clause-ok
returns-then-score-before-clause-ok c =
    let same : c.args.before ≡ c.args.score = search (rules, Decides-int_eq) in
    sym (insert_same c.args.self.now c.args.member.now c.args.score (c.requires.there ∙ ap (λ z. Some z) same))

pub invariant_of-self-2 : goal.invariant_of-self-2
invariant_of-self-2 c =
    let member = c.args.member.now in
    let scores = c.self.inside.scores in
    let z : ℤ = to_z w64 (of_z w64 c.args.score) in
    let there : get scores member ≡ Some c.args.before = ap (λ m. get m member) c.self.view_is ∙ c.requires.there in
    named_changed c.self.inside.names c.change_name.new.names scores c.change.new.self (λ m. insert m member z) c.self.invariant
    (c.change_name.ensures ∙ ap (λ (k : List ℕ). option_map (λ (m : ByteMap ℤ). insert m k z) c.self.inside.names) c.in_ok-name.ensures.name) c.in_ok-name.ensures.ok (len_changed scores member c.args.before z there)
