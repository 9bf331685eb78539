use Rattle.std.proofs.Common.{◌++◌, ◌∷◌, [], List, ℕ, ℤ, map, take, drop, length, ◌-◌, sym, ap, ◌∙◌}
use Rattle.std.specs.Cow.{cow_slice_items}
use Rattle.std.specs.Option.{option_map}
use Rattle.mr_effect.specs.Reading.{score_of, scores_of}
use Rattle.mr_effect.proofs.Readings.{scores_on, scores_odd, same_score}
use Rattle.mr_effect.proofs.reading.scores_of.Goals as goal

pub loop-rest-preserved : goal.loop-rest-preserved
loop-rest-preserved c =
    let number = c.in-Some.number in
    let spelled = sym (c.score_of.ensures ∙ ap score_of c.as_slice.ensures.value) ∙ c.in-Some.is in
    c.loop-rest.invariant
    ∙ scores_on cow_slice_items c.loop-rest.scores c.loop-rest.rest.now c.score-item.result c.member-item.result number c.in-len2-up.len_at_least c.score-item.is c.member-item.is spelled
    ∙ ap (λ (ps : List (List ℕ × ℤ)). option_map (λ (qs : List (List ℕ × ℤ)). ps ++ qs) (scores_of (map cow_slice_items (take (length c.loop-rest.rest.now - 2) (drop 2 c.loop-rest.rest.now))))) (sym (c.in_ok-push.ensures.ok
    ∙ ap (λ (n : ℤ). c.loop-rest.scores ++ (c.borrowed.result, n) ∷ []) (same_score _ number spelled)
    ∙ ap (λ (m : List ℕ). c.loop-rest.scores ++ (m, number) ∷ []) c.borrowed.ensures))

pub returns : goal.returns
returns c = sym (c.loop-rest.invariant ∙ ap (option_map (λ (qs : List (List ℕ × ℤ)). c.loop-rest.scores ++ qs)) (scores_odd cow_slice_items c.loop-rest.rest.now c.in_default.len_below (sym c.if-is_empty.ensures)))
