-- Words that spell a command on a range are read as it.
use Rattle.std.proofs.Common.{ℕ, ℤ, ◌≡◌, List, [], ◌∷◌, ◌++◌, Option, Some, None, refl, sym, ◌∙◌, ap, subst}
use Rattle.std.specs.Prelude.{IsPermutation, Ok}
use Rattle.std.specs.Fmt.{signed_decimal}
use Rattle.mr_bytes.proofs.Numbers.{number_is, number_of-signed_decimal}
use Rattle.mr_arguments.specs.Askable.{IsI64}
use Rattle.mr_arguments.specs.Parts.{with}
use Rattle.mr_arguments.specs.Spelling.{Part, Word, Number, Keyword, ScoreBound, AreParts, AreWithOptions, in_a_row}
use Rattle.mr_arguments.proofs.PartLemmas.{number_part}
use Rattle.mr_arguments.proofs.ReadLemmas.{number_part_of, number_part_only, three_first}
use Rattle.mr_arguments.specs.declared.name.Name.{Name}
use Rattle.mr_zset.specs.declared.bound.Bound.{Bound}
use Rattle.mr_cmd_zset.specs.Askable.{LimitIsAskable}
use Rattle.mr_zset_options.specs.Parts.{bounds, limit_if_any}
use Rattle.mr_zset_options.specs.RangeOptions.{limit_text, no_range_options, range_options}
use Rattle.mr_zset_options.specs.RangeWords.{by_option}
use Rattle.mr_cmd_zset.specs.Arguments.{range_by_score, range_with, ranks, reversed_with, scores, scores_with, zrange, zrevrange}
use Rattle.mr_zset_options.specs.Spelled.{bound_parts, limit_option, order_option, range_word_option, scores_option}
use Rattle.mr_zset_options.proofs.PartLemmas.{words_option}
use Rattle.mr_zset_options.proofs.RangeReadLemmas.{set_read}
use Rattle.mr_zset_options.specs.declared.range_options.LimitWords.{LimitWords}
use Rattle.mr_zset_options.specs.declared.range_options.RangeBy.{RangeBy}
use Rattle.mr_zset_options.specs.declared.range_options.RangeBy.TheVariants.{Rank, Score}
use Rattle.mr_zset_options.specs.declared.range_options.RangeOption.TheVariants as range
use Rattle.mr_zset_options.specs.declared.choices.Limit.{Limit}
use Rattle.mr_zset_options.specs.declared.choices.Order.{Order}
use Rattle.mr_zset_options.specs.declared.choices.Order.TheVariants.{Ascending, Descending}
use Rattle.mr_zset_options.specs.declared.choices.RangeReply.{RangeReply}
use Rattle.mr_cmd_zset.specs.declared.zset_ask.ZSetAsk.TheVariants as ask

-- LIMIT with the texts of its numbers
abbrev limit_said : Option Limit → Option LimitWords
limit_said None = None
limit_said (Some l) = Some (record { offset = signed_decimal l.offset; count = signed_decimal l.count })

said_parts : (l : Option Limit) → LimitIsAskable l → words_option number_part (limit_said l) ≡ limit_option l
said_parts None h = refl
said_parts (Some l) h =
    ap (λ (p : Part). (Keyword limit_text ∷ p ∷ number_part (signed_decimal l.count) ∷ []) ∷ []) (number_part_of l.offset h.0)
    ∙ ap (λ (p : Part). (Keyword limit_text ∷ Number l.offset ∷ p ∷ []) ∷ []) (number_part_of l.count h.1)

said_read : (l : Option Limit) → LimitIsAskable l → limit_if_any (limit_said l) ≡ Ok l
said_read None h = refl
said_read (Some l) h = rw (number_of-signed_decimal l.offset h.0, number_of-signed_decimal l.count h.1) refl

bounds_are : (o : Order) (a b : List ℕ) (min max : Bound) → AreParts (a ∷ b ∷ []) (bound_parts o min max) → bounds o a b ≡ Ok (min, max)
bounds_are Ascending a b min max h = rw (h.0, h.1.0) refl
bounds_are Descending a b min max h = rw (h.0, h.1.0) refl

options_are : (by : RangeBy) (o : Order) (l : Option Limit) (r : RangeReply) (words : List (List ℕ)) (order : List (List Part)) → LimitIsAskable l
    → IsPermutation (by_option by ++ order_option o ++ limit_option l ++ scores_option r) order → AreParts words (in_a_row order)
    → range_options no_range_options words ≡ Ok (record { by = by; order = o; limit = limit_said l; reply = r })
options_are by o l r words order h p is =
    set_read number_part number_part_only by o (limit_said l) r words order
    (subst (λ (x : List (List Part)). IsPermutation (by_option by ++ order_option o ++ x ++ scores_option r) order) (sym (said_parts l h)) p) is

ranks_are : (k a b : List ℕ) (x y : ℤ) (o : Order) (r : RangeReply) → IsI64 x → IsI64 y → a ≡ signed_decimal x → b ≡ signed_decimal y → ranks k a b o r ≡ Ok (ask.RangeByRank k x y o r)
ranks_are k a b x y o r fx fy ex ey = rw (number_is a x fx ex, number_is b y fy ey) refl

scores_are : (k u v : List ℕ) (min max : Bound) (o : Order) (l : Option Limit) (r : RangeReply) → LimitIsAskable l → AreParts (u ∷ v ∷ []) (bound_parts o min max)
    → scores k u v o (limit_said l) r ≡ Ok (ask.RangeByScore k min max o l r)
scores_are k u v min max o l r h is =
    ap (λ x. with x (λ part. with (bounds o u v) (λ ends. Ok (ask.RangeByScore k ends.0 ends.1 o part r)))) (said_read l h)
    ∙ ap (λ x. with x (λ ends. Ok (ask.RangeByScore k ends.0 ends.1 o l r))) (bounds_are o u v min max is)

-- ---- ZRANGE
ranked : (a b c k : List ℕ) (ws : List (List ℕ)) (x y : ℤ) (o : Order) (r : RangeReply) → IsI64 x → IsI64 y → a ≡ k → b ≡ signed_decimal x → c ≡ signed_decimal y
    → range_options no_range_options ws ≡ Ok (record { by = Rank; order = o; limit = None; reply = r }) → zrange (a ∷ b ∷ c ∷ ws) ≡ Ok (ask.RangeByRank k x y o r)
ranked a b c k ws x y o r fx fy ek ex ey e =
    ap (λ p. with p (λ options. range_with a b c options.by options.order options.limit options.reply)) e
    ∙ ranks_are a b c x y o r fx fy ex ey
    ∙ ap (λ (z : List ℕ). Ok (ask.RangeByRank z x y o r)) ek

pub zrange_ranks : (k : List ℕ) (x y : ℤ) (o : Order) (r : RangeReply) (words : List (List ℕ)) → IsI64 x → IsI64 y
    → AreWithOptions words (Word k ∷ Number x ∷ Number y ∷ []) (order_option o ++ scores_option r) → zrange words ≡ Ok (ask.RangeByRank k x y o r)
zrange_ranks k x y Ascending r words fx fy s =
    three_first (λ xs. zrange xs ≡ Ok (ask.RangeByRank k x y Ascending r)) (Word k) (Number x) (Number y) (in_a_row s.0)
    (λ a b c ws ek ex ey rest. ranked a b c k ws x y Ascending r fx fy ek ex ey (options_are Rank Ascending None r ws s.0 tt s.1.0 rest)) words s.1.1
zrange_ranks k x y Descending r words fx fy s =
    three_first (λ xs. zrange xs ≡ Ok (ask.RangeByRank k x y Descending r)) (Word k) (Number x) (Number y) (in_a_row s.0)
    (λ a b c ws ek ex ey rest. ranked a b c k ws x y Descending r fx fy ek ex ey (options_are Rank Descending None r ws s.0 tt s.1.0 rest)) words s.1.1

-- a key, the bounds in their order, and what stands behind them
at_bounds : (P : List (List ℕ) → Type 0) (k : List ℕ) (o : Order) (min max : Bound) (order : List (List Part))
    → ((a b c : List ℕ) (ws : List (List ℕ)) → a ≡ k → AreParts (b ∷ c ∷ []) (bound_parts o min max) → AreParts ws (in_a_row order) → P (a ∷ b ∷ c ∷ ws))
    → (words : List (List ℕ)) → AreParts words ((Word k ∷ bound_parts o min max) ++ in_a_row order) → P words
at_bounds P k Ascending min max order next = three_first P (Word k) (ScoreBound min) (ScoreBound max) (in_a_row order) (λ a b c ws ek ea eb rest. next a b c ws ek (ea, (eb, tt)) rest)
at_bounds P k Descending min max order next = three_first P (Word k) (ScoreBound max) (ScoreBound min) (in_a_row order) (λ a b c ws ek ea eb rest. next a b c ws ek (ea, (eb, tt)) rest)

pub zrange_scores : (k : List ℕ) (min max : Bound) (o : Order) (l : Option Limit) (r : RangeReply) (words : List (List ℕ)) → LimitIsAskable l
    → AreWithOptions words (Word k ∷ bound_parts o min max) (range_word_option range.ByScore ++ order_option o ++ limit_option l ++ scores_option r)
    → zrange words ≡ Ok (ask.RangeByScore k min max o l r)
zrange_scores k min max o l r words h s =
    at_bounds (λ xs. zrange xs ≡ Ok (ask.RangeByScore k min max o l r)) k o min max s.0 (λ a b c ws ek is rest.
    ap (λ p. with p (λ options. range_with a b c options.by options.order options.limit options.reply)) (options_are Score o l r ws s.0 h s.1.0 rest)
    ∙ scores_are a b c min max o l r h is
    ∙ ap (λ (z : List ℕ). Ok (ask.RangeByScore z min max o l r)) ek) words s.1.1

-- ---- ZREVRANGE
pub zrevrange_ranks : (k : List ℕ) (x y : ℤ) (r : RangeReply) (words : List (List ℕ)) → IsI64 x → IsI64 y
    → AreWithOptions words (Word k ∷ Number x ∷ Number y ∷ []) (scores_option r) → zrevrange words ≡ Ok (ask.RangeByRank k x y Descending r)
zrevrange_ranks k x y r words fx fy s =
    three_first (λ xs. zrevrange xs ≡ Ok (ask.RangeByRank k x y Descending r)) (Word k) (Number x) (Number y) (in_a_row s.0) (λ a b c ws ek ex ey rest.
    ap (λ p. with p (λ options. reversed_with a b c options.by options.order options.limit options.reply)) (options_are Rank Ascending None r ws s.0 tt s.1.0 rest)
    ∙ ranks_are a b c x y Descending r fx fy ex ey
    ∙ ap (λ (z : List ℕ). Ok (ask.RangeByRank z x y Descending r)) ek) words s.1.1

-- ---- ZRANGEBYSCORE, ZREVRANGEBYSCORE
pub by_score_scores : (n : Name) (k : List ℕ) (min max : Bound) (o : Order) (l : Option Limit) (r : RangeReply) (words : List (List ℕ)) → LimitIsAskable l
    → AreWithOptions words (Word k ∷ bound_parts o min max) (limit_option l ++ scores_option r) → range_by_score n o words ≡ Ok (ask.RangeByScore k min max o l r)
by_score_scores n k min max o l r words h s =
    at_bounds (λ xs. range_by_score n o xs ≡ Ok (ask.RangeByScore k min max o l r)) k o min max s.0 (λ a b c ws ek is rest.
    ap (λ p. with p (λ options. scores_with o a b c options.by options.order options.limit options.reply)) (options_are Rank Ascending l r ws s.0 h s.1.0 rest)
    ∙ scores_are a b c min max o l r h is
    ∙ ap (λ (z : List ℕ). Ok (ask.RangeByScore z min max o l r)) ek) words s.1.1
