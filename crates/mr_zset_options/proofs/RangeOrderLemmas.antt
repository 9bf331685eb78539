-- Options of a range that stand side by side may change places.
use Rattle.std.proofs.Common.{ℕ, ◌≡◌, List, [], ◌∷◌, ◌++◌, Bool, Option, Some, None, refl, sym, ◌∙◌, ap, append_assoc}
use Rattle.std.specs.Prelude.{Result, Ok, Err, if◌then◌else◌}
use Rattle.std.specs.Option.{is_some, ok_or}
use Rattle.mr_arguments.specs.Parts.{with}
use Rattle.mr_arguments.proofs.OrderLemmas.{with_joined, with_same, OnlySyntax, second_refused, words_alike, twice_refused, only_found}
use Rattle.mr_arguments.specs.declared.fault.AskFault.{AskFault}
use Rattle.mr_arguments.specs.declared.fault.AskFault.TheVariants.{Syntax}
use Rattle.mr_zset_options.specs.RangeOptions.{AreOneOption, limit_then, limited, range_also, range_option, range_options, range_word}
use Rattle.mr_zset_options.specs.declared.range_options.LimitWords.{LimitWords}
use Rattle.mr_zset_options.specs.declared.range_options.RangeBy.{RangeBy}
use Rattle.mr_zset_options.specs.declared.range_options.RangeBy.TheVariants.{Rank, Score}
use Rattle.mr_zset_options.specs.declared.range_options.RangeOption.{RangeOption}
use Rattle.mr_zset_options.specs.declared.range_options.RangeOption.TheVariants.{ByScore, Reverse, WithScores}
use Rattle.mr_zset_options.specs.declared.range_options.RangeOptions.{RangeOptions}
use Rattle.mr_zset_options.specs.declared.choices.Order.{Order}
use Rattle.mr_zset_options.specs.declared.choices.Order.TheVariants.{Ascending, Descending}
use Rattle.mr_zset_options.specs.declared.choices.RangeReply.{RangeReply}
use Rattle.mr_zset_options.specs.declared.choices.RangeReply.TheVariants as reply

abbrev options : RangeBy → Order → Option LimitWords → RangeReply → RangeOptions
options b o l r = record { by = b; order = o; limit = l; reply = r }

fields_only : (b : RangeBy) (o : Order) (l : Option LimitWords) (r : RangeReply) (x : RangeOption) → OnlySyntax (range_also (options b o l r) x)
unfolding OnlySyntax
fields_only Rank o l r ByScore = tt
fields_only Score o l r ByScore = refl
fields_only b Ascending l r Reverse = tt
fields_only b Descending l r Reverse = refl
fields_only b o l reply.Members WithScores = tt
fields_only b o l reply.WithScores WithScores = refl

also_only : (s : RangeOptions) (x : RangeOption) → OnlySyntax (range_also s x)
also_only s x = fields_only s.by s.order s.limit s.reply x

abbrev Alike : RangeBy → Order → Option LimitWords → RangeReply → RangeOption → RangeOption → Type 0
Alike b o l r x y = with (range_also (options b o l r) x) (λ t. range_also t y) ≡ with (range_also (options b o l r) y) (λ t. range_also t x)

by_reverse : (b : RangeBy) (o : Order) (l : Option LimitWords) (r : RangeReply) → Alike b o l r ByScore Reverse
by_reverse Rank Ascending l r = refl
by_reverse Rank Descending l r = refl
by_reverse Score Ascending l r = refl
by_reverse Score Descending l r = refl

by_scores : (b : RangeBy) (o : Order) (l : Option LimitWords) (r : RangeReply) → Alike b o l r ByScore WithScores
by_scores Rank o l reply.Members = refl
by_scores Rank o l reply.WithScores = refl
by_scores Score o l reply.Members = refl
by_scores Score o l reply.WithScores = refl

reverse_scores : (b : RangeBy) (o : Order) (l : Option LimitWords) (r : RangeReply) → Alike b o l r Reverse WithScores
reverse_scores b Ascending l reply.Members = refl
reverse_scores b Ascending l reply.WithScores = refl
reverse_scores b Descending l reply.Members = refl
reverse_scores b Descending l reply.WithScores = refl

pub alike : (b : RangeBy) (o : Order) (l : Option LimitWords) (r : RangeReply) (x y : RangeOption) → Alike b o l r x y
alike b o l r ByScore ByScore = refl
alike b o l r ByScore Reverse = by_reverse b o l r
alike b o l r ByScore WithScores = by_scores b o l r
alike b o l r Reverse ByScore = sym (by_reverse b o l r)
alike b o l r Reverse Reverse = refl
alike b o l r Reverse WithScores = reverse_scores b o l r
alike b o l r WithScores ByScore = sym (by_scores b o l r)
alike b o l r WithScores Reverse = sym (reverse_scores b o l r)
alike b o l r WithScores WithScores = refl

range_words_alike : (s : RangeOptions) (v w : List ℕ) → with (range_word s v) (λ t. range_word t w) ≡ with (range_word s w) (λ t. range_word t v)
range_words_alike s v w =
    words_alike range_also range_also (ok_or (range_option v) Syntax) (ok_or (range_option w) Syntax) also_only also_only
    (only_found (range_option v)) (only_found (range_option w)) (λ t x y. alike t.by t.order t.limit t.reply x y) s

-- LIMIT beside an option
pub limit_alike : (b : RangeBy) (o : Order) (l : Option LimitWords) (r : RangeReply) (x : RangeOption) (u v : List ℕ)
    → with (range_also (options b o l r) x) (λ t. limited t u v) ≡ with (limited (options b o l r) u v) (λ t. range_also t x)
limit_alike Rank o None r ByScore u v = refl
limit_alike Rank o (Some l) r ByScore u v = refl
limit_alike Score o None r ByScore u v = refl
limit_alike Score o (Some l) r ByScore u v = refl
limit_alike b Ascending None r Reverse u v = refl
limit_alike b Ascending (Some l) r Reverse u v = refl
limit_alike b Descending None r Reverse u v = refl
limit_alike b Descending (Some l) r Reverse u v = refl
limit_alike b o None reply.Members WithScores u v = refl
limit_alike b o (Some l) reply.Members WithScores u v = refl
limit_alike b o None reply.WithScores WithScores u v = refl
limit_alike b o (Some l) reply.WithScores WithScores u v = refl

limited_only : (b : RangeBy) (o : Order) (l : Option LimitWords) (r : RangeReply) (u v : List ℕ) → OnlySyntax (limited (options b o l r) u v)
unfolding OnlySyntax
limited_only b o None r u v = tt
limited_only b o (Some l) r u v = refl

word_limit : (s : RangeOptions) (w u v : List ℕ) → with (range_word s w) (λ t. limited t u v) ≡ with (limited s u v) (λ t. range_word t w)
unfolding OnlySyntax
word_limit s w u v = by_option (ok_or (range_option w) Syntax) (only_found (range_option w))
  where
    by_option : (r : Result RangeOption AskFault) → OnlySyntax r → with (with r (range_also s)) (λ t. limited t u v) ≡ with (limited s u v) (λ t. with r (range_also t))
    by_option (Ok x) h = limit_alike s.by s.order s.limit s.reply x u v
    by_option (Err f) h = sym (second_refused (limited s u v) f (limited_only s.by s.order s.limit s.reply u v) h)

-- what one option sets
abbrev pub step : RangeOptions → List (List ℕ) → Result RangeOptions AskFault
step s (w ∷ []) = range_word s w
step s (w ∷ u ∷ v ∷ []) = limited s u v
step s _ = Err Syntax

beside_word : (s : RangeOptions) (w : List ℕ) (b : List (List ℕ)) → AreOneOption b → with (range_word s w) (λ t. step t b) ≡ with (step s b) (λ t. range_word t w)
beside_word s w [] h = absurd h
beside_word s w (x ∷ []) h = range_words_alike s w x
beside_word s w (x ∷ u ∷ []) h = absurd h
beside_word s w (x ∷ u ∷ v ∷ []) h = word_limit s w u v
beside_word s w (x ∷ u ∷ v ∷ y ∷ ys) h = absurd h

beside_limit : (s : RangeOptions) (p q : List ℕ) (b : List (List ℕ)) → AreOneOption b → with (limited s p q) (λ t. step t b) ≡ with (step s b) (λ t. limited t p q)
beside_limit s p q [] h = absurd h
beside_limit s p q (x ∷ []) h = sym (word_limit s x p q)
beside_limit s p q (x ∷ u ∷ []) h = absurd h
beside_limit s p q (x ∷ u ∷ v ∷ []) h = twice_refused (is_some s.limit) _ _ _ _ refl refl
beside_limit s p q (x ∷ u ∷ v ∷ y ∷ ys) h = absurd h

steps_alike : (s : RangeOptions) (a b : List (List ℕ)) → AreOneOption a → AreOneOption b → with (step s a) (λ t. step t b) ≡ with (step s b) (λ t. step t a)
steps_alike s [] b g h = absurd g
steps_alike s (w ∷ []) b g h = beside_word s w b h
steps_alike s (w ∷ u ∷ []) b g h = absurd g
steps_alike s (w ∷ u ∷ v ∷ []) b g h = beside_limit s u v b h
steps_alike s (w ∷ u ∷ v ∷ y ∷ ys) b g h = absurd g

pub one_step : (s : RangeOptions) (a rest : List (List ℕ)) → AreOneOption a → range_options s (a ++ rest) ≡ with (step s a) (λ t. range_options t rest)
one_step s [] rest h = absurd h
one_step s (w ∷ []) rest h = ap (λ (b : Bool). if b then limit_then s rest else with (range_word s w) (λ t. range_options t rest)) h
one_step s (w ∷ u ∷ []) rest h = absurd h
one_step s (w ∷ u ∷ v ∷ []) rest h = ap (λ (b : Bool). if b then limit_then s (u ∷ v ∷ rest) else with (range_word s w) (λ t. range_options t (u ∷ v ∷ rest))) h
one_step s (w ∷ u ∷ v ∷ y ∷ ys) rest h = absurd h

two_steps : (s : RangeOptions) (a b back : List (List ℕ)) → AreOneOption a → AreOneOption b
    → range_options s (a ++ b ++ back) ≡ with (with (step s a) (λ t. step t b)) (λ t. range_options t back)
two_steps s a b back g h =
    ap (range_options s) (append_assoc a b back)
    ∙ one_step s a (b ++ back) g
    ∙ with_same (step s a) _ _ (λ t. one_step t b back h)
    ∙ with_joined (step s a) (λ t. step t b) (λ t. range_options t back)

pub range_in_any_order : (s : RangeOptions) (a b back : List (List ℕ)) → AreOneOption a → AreOneOption b → range_options s (a ++ b ++ back) ≡ range_options s (b ++ a ++ back)
range_in_any_order s a b back g h =
    two_steps s a b back g h
    ∙ ap (λ r. with r (λ t. range_options t back)) (steps_alike s a b g h)
    ∙ sym (two_steps s b a back h g)
