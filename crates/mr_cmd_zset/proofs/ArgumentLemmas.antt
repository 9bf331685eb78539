-- What is read of a command on sorted sets is spelled by the words, and carries no others.
use Rattle.std.proofs.Common.{ℕ, ℤ, ◌≡◌, List, [], ◌∷◌, ◌++◌, map, inl, inr, refl, ◌∙◌, ap, subst}
use Rattle.std.specs.Prelude.{IsTrue, IfOk}
use Rattle.std.specs.List.{list_all}
use Rattle.std.proofs.lemmas.List.Folds.{list_all-append}
use Rattle.mr_bytes.specs.Words.{fits}
use Rattle.mr_bytes.proofs.Both.{first, second}
use Rattle.mr_arguments.specs.Spelling.{Part, Word, Score, AreParts, in_a_row}
use Rattle.mr_arguments.proofs.FitLemmas.{all_words, both, carried, carried-joined, carried-words, of_parts_fit, parts_fit}
use Rattle.mr_arguments.proofs.PartLemmas.{with_count, with_integer}
use Rattle.mr_arguments.specs.declared.name.Name.{Name}
use Rattle.mr_arguments.specs.declared.name.Name.TheVariants as name
use Rattle.mr_cmd_zset.specs.Carried.{members_of, zset_words}
use Rattle.mr_cmd_zset.specs.Arguments.{zcard, zcount, zincrby, zmscore, zpop, zrank, zrem, zremrangebyrank, zremrangebyscore, zscore}
use Rattle.mr_cmd_zset.specs.Spelled.{pair_parts, pop_name, rank_name, ZSetSpells}
use Rattle.mr_zset_options.proofs.PartLemmas.{with_bounds, with_score}
use Rattle.mr_zset_options.specs.declared.choices.Order.{Order}
use Rattle.mr_zset_options.specs.declared.choices.Order.TheVariants.{Ascending}
use Rattle.mr_cmd_zset.specs.declared.zset_ask.ZSetAsk.{ZSetAsk}
use Rattle.mr_cmd_zset.specs.declared.zset_ask.ZSetAsk.TheVariants as ask

pub zincrby_spells : (ws : List (List ℕ)) → IfOk (zincrby ws) (ZSetSpells name.ZIncrBy ws)
zincrby_spells (k ∷ n ∷ m ∷ []) = with_score n _ _ (λ z e. (refl, (refl, (e, (refl, tt)))))
zincrby_spells _ = tt

pub zrem_spells : (ws : List (List ℕ)) → IfOk (zrem ws) (ZSetSpells name.ZRem ws)
zrem_spells [] = tt
zrem_spells (k ∷ []) = tt
zrem_spells (k ∷ m ∷ ms) = (refl, (refl, all_words (m ∷ ms)))

pub zcard_spells : (ws : List (List ℕ)) → IfOk (zcard ws) (ZSetSpells name.ZCard ws)
zcard_spells (k ∷ []) = (refl, (refl, tt))
zcard_spells _ = tt

pub zcount_spells : (ws : List (List ℕ)) → IfOk (zcount ws) (ZSetSpells name.ZCount ws)
zcount_spells (k ∷ a ∷ b ∷ []) = with_bounds Ascending a b _ _ (λ ends is. (refl, (refl, is)))
zcount_spells _ = tt

pub zscore_spells : (ws : List (List ℕ)) → IfOk (zscore ws) (ZSetSpells name.ZScore ws)
zscore_spells (k ∷ m ∷ []) = (refl, (refl, (refl, tt)))
zscore_spells _ = tt

pub zmscore_spells : (ws : List (List ℕ)) → IfOk (zmscore ws) (ZSetSpells name.ZMScore ws)
zmscore_spells [] = tt
zmscore_spells (k ∷ []) = tt
zmscore_spells (k ∷ m ∷ ms) = (refl, (refl, all_words (m ∷ ms)))

pub zrank_spells : (n : Name) (o : Order) → n ≡ rank_name o → (ws : List (List ℕ)) → IfOk (zrank n o ws) (ZSetSpells n ws)
zrank_spells n o called (k ∷ m ∷ []) = (called, (refl, (refl, tt)))
zrank_spells n o called _ = tt

pub zpop_spells : (n : Name) (o : Order) → n ≡ pop_name o → (ws : List (List ℕ)) → IfOk (zpop n o ws) (ZSetSpells n ws)
zpop_spells n o called (k ∷ []) = (called, (refl, tt))
zpop_spells n o called (k ∷ w ∷ []) = with_count w _ _ (λ m e. (called, (refl, (e, tt))))
zpop_spells n o called _ = tt

pub zremrangebyrank_spells : (ws : List (List ℕ)) → IfOk (zremrangebyrank ws) (ZSetSpells name.ZRemRangeByRank ws)
zremrangebyrank_spells (k ∷ a ∷ b ∷ []) = with_integer a _ _ (λ m e. with_integer b _ _ (λ n d. (refl, (refl, (e, (d, tt))))))
zremrangebyrank_spells _ = tt

pub zremrangebyscore_spells : (ws : List (List ℕ)) → IfOk (zremrangebyscore ws) (ZSetSpells name.ZRemRangeByScore ws)
zremrangebyscore_spells (k ∷ a ∷ b ∷ []) = with_bounds Ascending a b _ _ (λ ends is. (refl, (refl, is)))
zremrangebyscore_spells _ = tt

carried_pairs : (ps : List (ℤ × List ℕ)) → carried (pair_parts ps) ≡ members_of ps
unfolding carried
carried_pairs [] = refl
carried_pairs (p ∷ ps) = ap (λ (xs : List (List ℕ)). p.1 ∷ xs) (carried_pairs ps)

-- the members behind options
members_fit : (options : List Part) (ps : List (ℤ × List ℕ)) → IsTrue (list_all fits (carried (options ++ pair_parts ps))) → IsTrue (list_all fits (members_of ps))
members_fit options ps h =
    let both = subst IsTrue (ap (list_all fits) (carried-joined options (pair_parts ps)) ∙ list_all-append fits (carried options) (carried (pair_parts ps))) h in
    subst (λ (xs : List (List ℕ)). IsTrue (list_all fits xs)) (carried_pairs ps) (second _ _ both)

-- where the key is the first argument
key_fits : (ws : List (List ℕ)) (k : List ℕ) (ps : List Part) → AreParts ws (Word k ∷ ps) → IsTrue (list_all fits ws) → IsTrue (list_all fits (k ∷ []))
unfolding carried
key_fits ws k ps s h = both _ _ (first _ _ (parts_fit ws (Word k ∷ ps) s h)) refl

pub zset_fits : (n : Name) (ws : List (List ℕ)) (a : ZSetAsk) → ZSetSpells n ws a → IsTrue (list_all fits ws) → IsTrue (list_all fits (zset_words a))
unfolding carried
zset_fits n ws (ask.ZAdd k c d r ps) s h =
    let all = parts_fit ws (Word k ∷ (in_a_row s.1.0 ++ pair_parts ps)) s.1.1.1 h in
    both _ _ (first _ _ all) (members_fit (in_a_row s.1.0) ps (second _ _ all))
zset_fits n ws (ask.ZIncrBy k by m) s h = parts_fit ws (Word k ∷ Score by ∷ Word m ∷ []) s.1 h
zset_fits n ws (ask.ZRem k ms) s h = of_parts_fit ws (Word k ∷ map Word ms) (k ∷ ms) (ap (λ (xs : List (List ℕ)). k ∷ xs) (carried-words ms)) s.1 h
zset_fits n ws (ask.ZCard k) s h = parts_fit ws (Word k ∷ []) s.1 h
zset_fits n ws (ask.ZCount k a b) s h = key_fits ws k _ s.1 h
zset_fits n ws (ask.ZScore k m) s h = parts_fit ws (Word k ∷ Word m ∷ []) s.1 h
zset_fits n ws (ask.ZMScore k ms) s h = of_parts_fit ws (Word k ∷ map Word ms) (k ∷ ms) (ap (λ (xs : List (List ℕ)). k ∷ xs) (carried-words ms)) s.1 h
zset_fits n ws (ask.GetRank k m o) s h = parts_fit ws (Word k ∷ Word m ∷ []) s.1 h
zset_fits n ws (ask.RangeByRank k a b o r) (inl s) h = key_fits ws k _ s.1.1.1 h
zset_fits n ws (ask.RangeByRank k a b o r) (inr s) h = key_fits ws k _ s.2.1.1 h
zset_fits n ws (ask.RangeByScore k a b o l r) (inl s) h = key_fits ws k _ s.1.1.1 h
zset_fits n ws (ask.RangeByScore k a b o l r) (inr s) h = key_fits ws k _ s.1.1.1 h
zset_fits n ws (ask.TakePairs k o c) s h = key_fits ws k _ s.1 h
zset_fits n ws (ask.ZRemRangeByRank k a b) s h = key_fits ws k _ s.1 h
zset_fits n ws (ask.ZRemRangeByScore k a b) s h = key_fits ws k _ s.1 h
