-- Words that are options of a range, in some order, are read as these.
use Rattle.std.proofs.Common.{ℕ, ◌≡◌, ◌⊎◌, List, [], ◌∷◌, ◌++◌, map, false, Option, Some, None, inl, inr, refl, sym, ◌∙◌, ap, subst}
use Rattle.std.specs.Prelude.{IsPermutation, Result, Ok, find}
use Rattle.std.specs.Option.{is_some, ok_or}
use Rattle.std.specs.Str.{bytes_eq}
use Rattle.mr_arguments.specs.Options.{added}
use Rattle.mr_arguments.specs.Parts.{with}
use Rattle.mr_arguments.specs.Spelling.{Part, Word, Keyword, IsPart, AreParts, in_a_row}
use Rattle.mr_arguments.proofs.OrderLemmas.{twice_refused}
use Rattle.mr_arguments.proofs.OrderedLemmas.{any_order}
use Rattle.mr_arguments.proofs.ReadLemmas.{keyword_is, one_part, three_parts}
use Rattle.mr_arguments.specs.declared.fault.AskFault.{AskFault}
use Rattle.mr_arguments.specs.declared.fault.AskFault.TheVariants.{Syntax}
use Rattle.mr_zset_options.specs.RangeOptions.{all_range_options, is_range_option, limit_text, limited, no_range_options, range_also, range_options, range_text, range_word}
use Rattle.mr_zset_options.specs.RangeWords.{by_option, AreRangeOptions}
use Rattle.mr_zset_options.specs.Spelled.{order_option, scores_option}
use Rattle.mr_zset_options.proofs.PartLemmas.{words_option}
use Rattle.mr_zset_options.proofs.RangeLemmas.{options_read}
use Rattle.mr_zset_options.proofs.RangeOrderLemmas.{alike, limit_alike, one_step}
use Rattle.mr_zset_options.specs.declared.range_options.LimitWords.{LimitWords}
use Rattle.mr_zset_options.specs.declared.range_options.RangeBy.{RangeBy}
use Rattle.mr_zset_options.specs.declared.range_options.RangeBy.TheVariants.{Rank, Score}
use Rattle.mr_zset_options.specs.declared.range_options.RangeOption.{RangeOption}
use Rattle.mr_zset_options.specs.declared.range_options.RangeOption.TheVariants as range
use Rattle.mr_zset_options.specs.declared.range_options.RangeOptions.{RangeOptions}
use Rattle.mr_zset_options.specs.declared.choices.Order.{Order}
use Rattle.mr_zset_options.specs.declared.choices.Order.TheVariants.{Ascending, Descending}
use Rattle.mr_zset_options.specs.declared.choices.RangeReply.{RangeReply}
use Rattle.mr_zset_options.specs.declared.choices.RangeReply.TheVariants.{Members, WithScores}

-- an option: a word, or LIMIT with its words
abbrev OneOption : Type 0
OneOption = RangeOption ⊎ LimitWords

abbrev add : RangeOptions → OneOption → Result RangeOptions AskFault
add s (inl o) = range_also s o
add s (inr l) = limited s l.offset l.count

adds_alike : (s : RangeOptions) (o p : OneOption) → with (add s o) (λ t. add t p) ≡ with (add s p) (λ t. add t o)
adds_alike s (inl o) (inl p) = alike s.by s.order s.limit s.reply o p
adds_alike s (inl o) (inr l) = limit_alike s.by s.order s.limit s.reply o l.offset l.count
adds_alike s (inr l) (inl p) = sym (limit_alike s.by s.order s.limit s.reply p l.offset l.count)
adds_alike s (inr l) (inr k) = twice_refused (is_some s.limit) _ _ _ _ refl refl

no_limit : (o : RangeOption) → bytes_eq (range_text o) limit_text ≡ false
no_limit range.ByScore = refl
no_limit range.Reverse = refl
no_limit range.WithScores = refl

found_itself : (o : RangeOption) → find (is_range_option (range_text o)) all_range_options ≡ Some o
found_itself range.ByScore = refl
found_itself range.Reverse = refl
found_itself range.WithScores = refl

word_read : (s : RangeOptions) (o : RangeOption) (w : List ℕ) → IsPart w (Keyword (range_text o)) → range_word s w ≡ range_also s o
word_read s o w is =
    ap (λ (x : List ℕ). with (ok_or (find (is_range_option x) all_range_options) Syntax) (range_also s)) is
    ∙ ap (λ (x : Option RangeOption). with (ok_or x Syntax) (range_also s)) (found_itself o)

one_word : (s : RangeOptions) (o : RangeOption) (rest : List (List ℕ)) (w : List ℕ) → IsPart w (Keyword (range_text o)) → range_options s (w ∷ rest) ≡ with (range_also s o) (λ t. range_options t rest)
one_word s o rest w is =
    one_step s (w ∷ []) rest (ap (λ (x : List ℕ). bytes_eq x limit_text) is ∙ no_limit o)
    ∙ ap (λ r. with r (λ t. range_options t rest)) (word_read s o w is)

-- all that are set, in one order
abbrev by_steps : RangeBy → List OneOption
by_steps Rank = []
by_steps Score = inl range.ByScore ∷ []

abbrev order_steps : Order → List OneOption
order_steps Ascending = []
order_steps Descending = inl range.Reverse ∷ []

abbrev limit_steps : Option LimitWords → List OneOption
limit_steps None = []
limit_steps (Some l) = inr l ∷ []

abbrev reply_steps : RangeReply → List OneOption
reply_steps Members = []
reply_steps WithScores = inl range.WithScores ∷ []

abbrev steps : RangeBy → Order → Option LimitWords → RangeReply → List OneOption
steps b o l r = by_steps b ++ order_steps o ++ limit_steps l ++ reply_steps r

-- the words behind LIMIT are shown in a way that lets no other word be there
module _ (shown : List ℕ → Part) (is_shown : (v w : List ℕ) → IsPart v (shown w) → v ≡ w) where
  abbrev part : OneOption → List Part
  part (inl o) = Keyword (range_text o) ∷ []
  part (inr l) = Keyword limit_text ∷ shown l.offset ∷ shown l.count ∷ []

  limit_first : (s : RangeOptions) (l : LimitWords) (rest : List (List ℕ)) (w u v : List ℕ) → IsPart w (Keyword limit_text) → IsPart u (shown l.offset) → IsPart v (shown l.count)
      → range_options s (w ∷ u ∷ v ∷ rest) ≡ with (limited s l.offset l.count) (λ t. range_options t rest)
  limit_first s l rest w u v is first second =
      one_step s (w ∷ u ∷ v ∷ []) rest (keyword_is w limit_text is)
      ∙ ap (λ (x : List ℕ). with (limited s x v) (λ t. range_options t rest)) (is_shown u l.offset first)
      ∙ ap (λ (x : List ℕ). with (limited s l.offset x) (λ t. range_options t rest)) (is_shown v l.count second)

  first : (s : RangeOptions) (o : OneOption) (words rest : List (List ℕ)) → AreParts words (part o) → range_options s (words ++ rest) ≡ with (add s o) (λ t. range_options t rest)
  first s (inl o) words rest h = one_part (λ xs. range_options s (xs ++ rest) ≡ with (range_also s o) (λ t. range_options t rest)) (Keyword (range_text o)) (one_word s o rest) words h
  first s (inr l) words rest h =
      three_parts (λ xs. range_options s (xs ++ rest) ≡ with (limited s l.offset l.count) (λ t. range_options t rest))
      (Keyword limit_text) (shown l.offset) (shown l.count) (limit_first s l rest) words h

  abbrev parts : RangeBy → Order → Option LimitWords → RangeReply → List (List Part)
  parts b o l r = by_option b ++ order_option o ++ words_option shown l ++ scores_option r

  all_set : (b : RangeBy) (o : Order) (l : Option LimitWords) (r : RangeReply)
      → (map part (steps b o l r) ≡ parts b o l r) × (added add no_range_options (steps b o l r) ≡ Ok (record { by = b; order = o; limit = l; reply = r }))
  all_set Rank Ascending None Members = (refl, refl)
  all_set Rank Ascending None WithScores = (refl, refl)
  all_set Rank Ascending (Some l) Members = (refl, refl)
  all_set Rank Ascending (Some l) WithScores = (refl, refl)
  all_set Rank Descending None Members = (refl, refl)
  all_set Rank Descending None WithScores = (refl, refl)
  all_set Rank Descending (Some l) Members = (refl, refl)
  all_set Rank Descending (Some l) WithScores = (refl, refl)
  all_set Score Ascending None Members = (refl, refl)
  all_set Score Ascending None WithScores = (refl, refl)
  all_set Score Ascending (Some l) Members = (refl, refl)
  all_set Score Ascending (Some l) WithScores = (refl, refl)
  all_set Score Descending None Members = (refl, refl)
  all_set Score Descending None WithScores = (refl, refl)
  all_set Score Descending (Some l) Members = (refl, refl)
  all_set Score Descending (Some l) WithScores = (refl, refl)

  pub set_read : (b : RangeBy) (o : Order) (l : Option LimitWords) (r : RangeReply) (words : List (List ℕ)) (order : List (List Part))
      → IsPermutation (parts b o l r) order → AreParts words (in_a_row order) → range_options no_range_options words ≡ Ok (record { by = b; order = o; limit = l; reply = r })
  set_read b o l r words order p h =
      let all = all_set b o l r in
      any_order add adds_alike part range_options (λ s. refl) first (steps b o l r) order no_range_options words
      (subst (λ (x : List (List Part)). IsPermutation x order) (sym all.0) p) h
      ∙ all.1

pub range_read : (words : List (List ℕ)) (options : RangeOptions) → AreRangeOptions words options → range_options no_range_options words ≡ Ok options
range_read words t h = set_read Word (λ v w is. is) t.by t.order t.limit t.reply words h.0 h.1.0 h.1.1

pub only_range_read : (words : List (List ℕ)) (options : RangeOptions) → range_options no_range_options words ≡ Ok options → AreRangeOptions words options
only_range_read words t h = options_read Word (λ w. refl) words t h
