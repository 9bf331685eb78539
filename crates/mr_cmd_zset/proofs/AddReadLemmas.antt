-- Words that spell ZADD are read as it.
use Rattle.std.proofs.Common.{ℕ, suc, ℤ, ◌≡◌, ◌≢◌, List, [], ◌∷◌, ◌++◌, map, length, take, drop, Bool, true, false, Option, Some, None, refl, sym, ◌∙◌, ap, subst}
use Rattle.std.specs.Prelude.{find, if◌then◌else◌, IsTrue, IsPermutation, Ok, Err}
use Rattle.std.specs.List.{AllByRecursion}
use Rattle.std.specs.Option.{is_some, ok_or}
use Rattle.mr_arguments.specs.Options.{added}
use Rattle.mr_arguments.specs.Pairing.{unpaired}
use Rattle.mr_arguments.specs.Parts.{with}
use Rattle.mr_arguments.specs.Spelling.{Part, Word, Keyword, Score, IsPart, AreParts, AreAroundOptions, in_a_row}
use Rattle.mr_arguments.proofs.FitLemmas.{both}
use Rattle.mr_arguments.proofs.OrderedLemmas.{any_order, parts_cut, reordered}
use Rattle.mr_arguments.proofs.ReadLemmas.{first_part, one_part, pairs_itself, three_parts}
use Rattle.mr_arguments.specs.declared.fault.AskFault.TheVariants.{Integer, Syntax}
use Rattle.mr_score.specs.Texts.{score_of}
use Rattle.mr_score.proofs.TextLemmas.{spelled_read}
use Rattle.mr_zset_options.specs.AddOptions.{add_also, add_option, add_options, add_text, add_word, agreeing, all_add_options, disagree, is_add_option, no_add_options, option_count, option_words, pair_words}
use Rattle.mr_cmd_zset.specs.Arguments.{add_scores, score_pairs, zadd, zincrby}
use Rattle.mr_zset_options.specs.Scored.{have_scores, or_0, scored, scored_of}
use Rattle.mr_zset_options.specs.Spelled.{changed_option, comparison_option, condition_option}
use Rattle.mr_cmd_zset.specs.Spelled.{pair_parts}
use Rattle.mr_zset_options.proofs.OrderLemmas.{alike}
use Rattle.mr_zset_options.proofs.ScoreTexts.{no_option}
use Rattle.mr_zset_options.specs.declared.add_options.AddOption.{AddOption}
use Rattle.mr_zset_options.specs.declared.add_options.AddOption.TheVariants as add
use Rattle.mr_zset_options.specs.declared.add_options.AddOptions.{AddOptions}
use Rattle.mr_zset_options.specs.declared.choices.ScoreCondition.{ScoreCondition}
use Rattle.mr_zset_options.specs.declared.choices.ScoreCondition.TheVariants.{Absent, Present}
use Rattle.mr_zset_options.specs.declared.choices.Comparison.{Comparison}
use Rattle.mr_zset_options.specs.declared.choices.Comparison.TheVariants.{Greater, Less}
use Rattle.mr_zset_options.specs.declared.choices.ScoresReply.{ScoresReply}
use Rattle.mr_zset_options.specs.declared.choices.ScoresReply.TheVariants.{Added, Changed}
use Rattle.mr_cmd_zset.specs.declared.zset_ask.ZSetAsk.TheVariants as ask

adds_alike : (s : AddOptions) (o p : AddOption) → with (add_also s o) (λ t. add_also t p) ≡ with (add_also s p) (λ t. add_also t o)
adds_alike s o p = alike s.condition s.comparison s.reply o p

abbrev part : AddOption → List Part
part o = Keyword (add_text o) ∷ []

found_itself : (o : AddOption) → find (is_add_option (add_text o)) all_add_options ≡ Some o
found_itself (add.Condition Absent) = refl
found_itself (add.Condition Present) = refl
found_itself (add.Comparison Greater) = refl
found_itself (add.Comparison Less) = refl
found_itself add.Changed = refl

option_is : (o : AddOption) (w : List ℕ) → IsPart w (Keyword (add_text o)) → add_option w ≡ Some o
option_is o w is = ap (λ (x : List ℕ). find (is_add_option x) all_add_options) is ∙ found_itself o

first : (s : AddOptions) (o : AddOption) (words rest : List (List ℕ)) → AreParts words (part o) → added add_word s (words ++ rest) ≡ with (add_also s o) (λ t. added add_word t rest)
first s o words rest h =
    one_part (λ xs. added add_word s (xs ++ rest) ≡ with (add_also s o) (λ t. added add_word t rest)) (Keyword (add_text o))
    (λ w is. ap (λ x. with (with (ok_or x Syntax) (add_also s)) (λ t. added add_word t rest)) (option_is o w is)) words h

-- all that are set, in one order
abbrev condition_steps : Option ScoreCondition → List AddOption
condition_steps None = []
condition_steps (Some c) = add.Condition c ∷ []

abbrev comparison_steps : Option Comparison → List AddOption
comparison_steps None = []
comparison_steps (Some c) = add.Comparison c ∷ []

abbrev reply_steps : ScoresReply → List AddOption
reply_steps Added = []
reply_steps Changed = add.Changed ∷ []

abbrev steps : Option ScoreCondition → Option Comparison → ScoresReply → List AddOption
steps c d r = condition_steps c ++ comparison_steps d ++ reply_steps r

abbrev parts : Option ScoreCondition → Option Comparison → ScoresReply → List (List Part)
parts c d r = condition_option c ++ comparison_option d ++ changed_option r

all_set : (c : Option ScoreCondition) (d : Option Comparison) (r : ScoresReply)
    → (map part (steps c d r) ≡ parts c d r) × (added add_also no_add_options (steps c d r) ≡ Ok (record { condition = c; comparison = d; reply = r }))
all_set None None Added = (refl, refl)
all_set None None Changed = (refl, refl)
all_set None (Some d) Added = (refl, refl)
all_set None (Some d) Changed = (refl, refl)
all_set (Some c) None Added = (refl, refl)
all_set (Some c) None Changed = (refl, refl)
all_set (Some c) (Some d) Added = (refl, refl)
all_set (Some c) (Some d) Changed = (refl, refl)

options_are : (c : Option ScoreCondition) (d : Option Comparison) (r : ScoresReply) (words : List (List ℕ)) (order : List (List Part)) → disagree c d ≡ false
    → IsPermutation (parts c d r) order → AreParts words (in_a_row order) → add_options words ≡ Ok (record { condition = c; comparison = d; reply = r })
options_are c d r words order agree p h =
    let all = all_set c d r in
    ap (λ x. with x agreeing) (any_order add_also adds_alike part (added add_word) (λ s. refl) first (steps c d r) order no_add_options words
    (subst (λ (x : List (List Part)). IsPermutation x order) (sym all.0) p) h
    ∙ all.1)
    ∙ ap (λ (b : Bool). if b then Err Syntax else Ok (record { condition = c; comparison = d; reply = r })) agree

-- ---- where the options end
abbrev AreOptionWords : List (List ℕ) → Type 0
AreOptionWords words = AllByRecursion (λ w. is_some (add_option w) ≡ true) words

option_words_are : (os : List AddOption) (words : List (List ℕ)) → AreParts words (in_a_row (map part os)) → AreOptionWords words
option_words_are [] [] h = tt
option_words_are [] (w ∷ words) h = absurd h
option_words_are (o ∷ os) [] h = absurd h
option_words_are (o ∷ os) (w ∷ words) h = (ap is_some (option_is o w h.0), option_words_are os words h.1)

keywords_are : (c : Option ScoreCondition) (d : Option Comparison) (r : ScoresReply) (words : List (List ℕ)) (order : List (List Part))
    → IsPermutation (parts c d r) order → AreParts words (in_a_row order) → AreOptionWords words
keywords_are c d r words order p h =
    let all = all_set c d r in
    let again = reordered add_also adds_alike part (steps c d r) order (subst (λ (x : List (List Part)). IsPermutation x order) (sym all.0) p) in
    option_words_are again.0 words (subst (λ (x : List (List Part)). AreParts words (in_a_row x)) (sym again.1.0) h)

counted : (front back : List (List ℕ)) → AreOptionWords front → option_count back ≡ 0 → option_count (front ++ back) ≡ length front
counted [] back h none = none
counted (w ∷ front) back h none = ap (λ (b : Bool). if b then suc (option_count (front ++ back)) else 0) h.0 ∙ ap suc (counted front back h.1 none)

taken : {A : Type 0} (xs ys : List A) → take (length xs) (xs ++ ys) ≡ xs
taken [] ys = refl
taken (x ∷ xs) ys = ap (λ zs. x ∷ zs) (taken xs ys)

dropped : {A : Type 0} (xs ys : List A) → drop (length xs) (xs ++ ys) ≡ ys
dropped [] ys = refl
dropped (x ∷ xs) ys = dropped xs ys

-- ---- the pairs
record Scores (words : List (List ℕ)) (pairs : List (ℤ × List ℕ)) : Type 0 where
  as_words : List (List ℕ × List ℕ)
  joined : words ≡ unpaired as_words
  have : IsTrue (have_scores as_words)
  are : map scored as_words ≡ pairs

scores_are : (pairs : List (ℤ × List ℕ)) (words : List (List ℕ)) → AreParts words (pair_parts pairs) → Scores words pairs
scores_are [] [] h = record { as_words = []; joined = refl; have = refl; are = refl }
scores_are [] (w ∷ words) h = absurd h
scores_are (p ∷ pairs) [] h = absurd h
scores_are (p ∷ pairs) (w ∷ []) h = absurd h.1
scores_are (p ∷ pairs) (w ∷ m ∷ words) h =
    let rest = scores_are pairs words h.1.1 in
    let read : score_of w ≡ Some p.0 = spelled_read w p.0 h.0 in
    record {
      as_words = (w, m) ∷ rest.as_words;
      joined = ap (λ (xs : List (List ℕ)). w ∷ m ∷ xs) rest.joined;
      have = both _ _ (ap is_some read) rest.have;
      are = ap (λ (o : Option ℤ). (or_0 o, m) ∷ map scored rest.as_words) read ∙ ap (λ (x : List ℕ). (p.0, x) ∷ map scored rest.as_words) h.1.0 ∙ ap (λ xs. p ∷ xs) rest.are;
    }

score_pairs_are : (ps : List (List ℕ × List ℕ)) → ps ≢ [] → IsTrue (have_scores ps) → score_pairs (unpaired ps) ≡ Ok (map scored ps)
score_pairs_are [] some h = absurd (some refl)
score_pairs_are (p ∷ ps) some h =
    ap (λ x. with (ok_or x Syntax) (λ pairs. ok_or (scored_of pairs) Integer)) (pairs_itself (p ∷ ps))
    ∙ ap (λ (b : Bool). ok_or (if b then Some (map scored (p ∷ ps)) else None) Integer) h

pairs_are : (pairs : List (ℤ × List ℕ)) (words : List (List ℕ)) → pairs ≢ [] → AreParts words (pair_parts pairs) → score_pairs words ≡ Ok pairs
pairs_are pairs words some h =
    let s = scores_are pairs words h in
    ap score_pairs s.joined
    ∙ score_pairs_are s.as_words (λ e. some (sym s.are ∙ ap (map scored) e)) s.have
    ∙ ap (λ (x : List (ℤ × List ℕ)). Ok x) s.are

no_option_first : (pairs : List (ℤ × List ℕ)) (words : List (List ℕ)) → AreParts words (pair_parts pairs) → option_count words ≡ 0
no_option_first [] [] h = refl
no_option_first [] (w ∷ words) h = absurd h
no_option_first (p ∷ pairs) [] h = absurd h
no_option_first (p ∷ pairs) (w ∷ words) h = ap (λ (b : Bool). if b then suc (option_count words) else 0) (no_option w p.0 h.0)

-- ---- all of it
scores_added : (k : List ℕ) (c : Option ScoreCondition) (d : Option Comparison) (r : ScoresReply) (pairs : List (ℤ × List ℕ)) (front back : List (List ℕ)) (order : List (List Part))
    → pairs ≢ [] → disagree c d ≡ false → IsPermutation (parts c d r) order → AreParts front (in_a_row order) → AreParts back (pair_parts pairs)
    → add_scores k (front ++ back) ≡ Ok (ask.ZAdd k c d r pairs)
unfolding add_scores
scores_added k c d r pairs front back order some agree p f b =
    let count : option_count (front ++ back) ≡ length front = counted front back (keywords_are c d r front order p f) (no_option_first pairs back b) in
    let front_is : option_words (front ++ back) ≡ front = ap (λ n. take n (front ++ back)) count ∙ taken front back in
    let back_is : pair_words (front ++ back) ≡ back = ap (λ n. drop n (front ++ back)) count ∙ dropped front back in
    ap (λ x. with x (λ options. with (score_pairs (pair_words (front ++ back))) (λ ps. Ok (ask.ZAdd k options.condition options.comparison options.reply ps))))
    (ap add_options front_is ∙ options_are c d r front order agree p f)
    ∙ ap (λ x. with x (λ ps. Ok (ask.ZAdd k c d r ps))) (ap score_pairs back_is ∙ pairs_are pairs back some b)

-- there are words enough
enough : (k : List ℕ) (front back : List (List ℕ)) (pairs : List (ℤ × List ℕ)) → pairs ≢ [] → AreParts back (pair_parts pairs) → zadd (k ∷ front ++ back) ≡ add_scores k (front ++ back)
enough k front back [] some h = absurd (some refl)
enough k front [] (p ∷ pairs) some h = absurd h
enough k front (w ∷ []) (p ∷ pairs) some h = absurd h.1
enough k [] (w ∷ m ∷ back) (p ∷ pairs) some h = refl
enough k (x ∷ []) (w ∷ m ∷ back) (p ∷ pairs) some h = refl
enough k (x ∷ y ∷ front) (w ∷ m ∷ back) (p ∷ pairs) some h = refl

pub zadd_scores : (k : List ℕ) (c : Option ScoreCondition) (d : Option Comparison) (r : ScoresReply) (pairs : List (ℤ × List ℕ)) (words : List (List ℕ)) → pairs ≢ [] → disagree c d ≡ false
    → AreAroundOptions words (Word k ∷ []) (parts c d r) (pair_parts pairs) → zadd words ≡ Ok (ask.ZAdd k c d r pairs)
zadd_scores k c d r pairs words some agree s =
    first_part (λ xs. zadd xs ≡ Ok (ask.ZAdd k c d r pairs)) (Word k) (in_a_row s.0 ++ pair_parts pairs) (λ w rest is parts_are.
    let cut = parts_cut rest (in_a_row s.0) (pair_parts pairs) parts_are in
    ap (λ (xs : List (List ℕ)). zadd (w ∷ xs)) cut.joined
    ∙ ap (λ (x : List ℕ). zadd (x ∷ cut.front ++ cut.back)) is
    ∙ enough k cut.front cut.back pairs some cut.back_are
    ∙ scores_added k c d r pairs cut.front cut.back s.0 some agree s.1.0 cut.front_are cut.back_are) words s.1.1

pub zincrby_read : (k m : List ℕ) (by : ℤ) (words : List (List ℕ)) → AreParts words (Word k ∷ Score by ∷ Word m ∷ []) → zincrby words ≡ Ok (ask.ZIncrBy k by m)
zincrby_read k m by words h =
    three_parts (λ xs. zincrby xs ≡ Ok (ask.ZIncrBy k by m)) (Word k) (Score by) (Word m) (λ a b c ek ez em. rw (ek, spelled_read b by ez, em) refl) words h
