-- What the words of ranges spell.
use Rattle.std.proofs.Common.{ℕ, ℤ, ◌≡◌, List, [], ◌∷◌, ◌++◌, Option, Some, None, inl, inr, refl, subst}
use Rattle.std.specs.Prelude.{IfOk, IsPermutation}
use Rattle.mr_arguments.specs.Spelling.{Part, Number, AreParts, in_a_row}
use Rattle.mr_arguments.proofs.OptionLemmas.{parts_joined}
use Rattle.mr_arguments.proofs.PartLemmas.{if_with, with_integer, number_part, is_number_part}
use Rattle.mr_arguments.specs.declared.name.Name.{Name}
use Rattle.mr_arguments.specs.declared.name.Name.TheVariants as name
use Rattle.mr_zset_options.specs.RangeOptions.{no_range_options, range_options}
use Rattle.mr_zset_options.specs.Parts.{limit_if_any}
use Rattle.mr_cmd_zset.specs.Arguments.{range_by_score, range_with, ranks, reversed_with, scores_with, zrange, zrevrange}
use Rattle.mr_zset_options.specs.Spelled.{bound_parts, order_option, scores_option}
use Rattle.mr_cmd_zset.specs.Spelled.{score_range_name, ZSetSpells}
use Rattle.mr_zset_options.specs.RangeWords.{by_option}
use Rattle.mr_zset_options.proofs.PartLemmas.{limit_if_any_read, with_bounds}
use Rattle.mr_zset_options.specs.declared.range_options.LimitWords.{LimitWords}
use Rattle.mr_zset_options.specs.declared.range_options.RangeBy.{RangeBy}
use Rattle.mr_zset_options.specs.declared.range_options.RangeBy.TheVariants.{Rank, Score}
use Rattle.mr_zset_options.specs.declared.choices.Order.{Order}
use Rattle.mr_zset_options.specs.declared.choices.Order.TheVariants.{Ascending, Descending}
use Rattle.mr_zset_options.specs.declared.choices.RangeReply.{RangeReply}
use Rattle.mr_cmd_zset.specs.declared.zset_ask.ZSetAsk.TheVariants as ask
use Rattle.mr_zset_options.proofs.RangeLemmas.{parts, options_read, AreOptions}

-- with the words behind LIMIT as numbers
abbrev range_spelled : RangeBy → Order → Option LimitWords → RangeReply → List (List Part)
range_spelled = parts number_part is_number_part

ranks_spelled : (n : Name) (k a b : List ℕ) (ws : List (List ℕ)) (o : Order) (r : RangeReply)
    → ((x y : ℤ) → AreParts (a ∷ b ∷ []) (Number x ∷ Number y ∷ []) → ZSetSpells n (k ∷ a ∷ b ∷ ws) (ask.RangeByRank k x y o r))
    → IfOk (ranks k a b o r) (ZSetSpells n (k ∷ a ∷ b ∷ ws))
ranks_spelled n k a b ws o r h = with_integer a _ _ (λ x e. with_integer b _ _ (λ y d. h x y (e, (d, tt))))

ranged_spelled : (k a b : List ℕ) (ws : List (List ℕ)) (by : RangeBy) (o : Order) (l : Option LimitWords) (r : RangeReply)
    → AreOptions ws (range_spelled by o l r) → IfOk (range_with k a b by o l r) (ZSetSpells name.ZRange (k ∷ a ∷ b ∷ ws))
ranged_spelled k a b ws Rank Ascending None r s = ranks_spelled name.ZRange k a b ws Ascending r (λ x y is. inl (refl, (s.0, (s.1.0, (refl, (is.0, (is.1.0, s.1.1)))))))
ranged_spelled k a b ws Rank Descending None r s = ranks_spelled name.ZRange k a b ws Descending r (λ x y is. inl (refl, (s.0, (s.1.0, (refl, (is.0, (is.1.0, s.1.1)))))))
ranged_spelled k a b ws Rank o (Some l) r s = tt
ranged_spelled k a b ws Score o l r s = if_with (limit_if_any l) _ _ (λ p e. with_bounds o a b _ _ (λ ends is.
    inl (
      refl,
      (
        s.0,
        (
          subst (λ (x : List (List Part)). IsPermutation (by_option Score ++ order_option o ++ x ++ scores_option r) s.0) (limit_if_any_read l p e) s.1.0,
          (refl, parts_joined (a ∷ b ∷ []) ws (bound_parts o ends.0 ends.1) (in_a_row s.0) is s.1.1),
        ),
      ),
    )))

reversed_spelled : (k a b : List ℕ) (ws : List (List ℕ)) (by : RangeBy) (o : Order) (l : Option LimitWords) (r : RangeReply)
    → AreOptions ws (range_spelled by o l r) → IfOk (reversed_with k a b by o l r) (ZSetSpells name.ZRevRange (k ∷ a ∷ b ∷ ws))
reversed_spelled k a b ws Rank Ascending None r s = ranks_spelled name.ZRevRange k a b ws Descending r (λ x y is. inr (refl, refl, (s.0, (s.1.0, (refl, (is.0, (is.1.0, s.1.1)))))))
reversed_spelled k a b ws Rank Ascending (Some l) r s = tt
reversed_spelled k a b ws Rank Descending l r s = tt
reversed_spelled k a b ws Score o l r s = tt

scores_spelled : (n : Name) (d : Order) (k a b : List ℕ) (ws : List (List ℕ)) (by : RangeBy) (o : Order) (l : Option LimitWords) (r : RangeReply) → n ≡ score_range_name d
    → AreOptions ws (range_spelled by o l r) → IfOk (scores_with d k a b by o l r) (ZSetSpells n (k ∷ a ∷ b ∷ ws))
scores_spelled n d k a b ws Rank Ascending l r called s = if_with (limit_if_any l) _ _ (λ p e. with_bounds d a b _ _ (λ ends is.
    inr (
      called,
      (
        s.0,
        (
          subst (λ (x : List (List Part)). IsPermutation (x ++ scores_option r) s.0) (limit_if_any_read l p e) s.1.0,
          (refl, parts_joined (a ∷ b ∷ []) ws (bound_parts d ends.0 ends.1) (in_a_row s.0) is s.1.1),
        ),
      ),
    )))
scores_spelled n d k a b ws Rank Descending l r called s = tt
scores_spelled n d k a b ws Score o l r called s = tt

pub zrange_spells : (ws : List (List ℕ)) → IfOk (zrange ws) (ZSetSpells name.ZRange ws)
zrange_spells (k ∷ a ∷ b ∷ ws) = if_with (range_options no_range_options ws) _ _ (λ t h. ranged_spelled k a b ws t.by t.order t.limit t.reply (options_read number_part is_number_part ws t h))
zrange_spells _ = tt

pub zrevrange_spells : (ws : List (List ℕ)) → IfOk (zrevrange ws) (ZSetSpells name.ZRevRange ws)
zrevrange_spells (k ∷ a ∷ b ∷ ws) = if_with (range_options no_range_options ws) _ _ (λ t h. reversed_spelled k a b ws t.by t.order t.limit t.reply (options_read number_part is_number_part ws t h))
zrevrange_spells _ = tt

pub range_by_score_spells : (n : Name) (o : Order) → n ≡ score_range_name o → (ws : List (List ℕ)) → IfOk (range_by_score n o ws) (ZSetSpells n ws)
range_by_score_spells n o called (k ∷ a ∷ b ∷ ws) =
    if_with (range_options no_range_options ws) _ _ (λ t h. scores_spelled n o k a b ws t.by t.order t.limit t.reply called (options_read number_part is_number_part ws t h))
range_by_score_spells n o called _ = tt
