-- What the words of options of a range spell.
use Rattle.std.proofs.Common.{ℕ, ◌≡◌, List, [], ◌∷◌, ◌++◌, true, false, Option, Some, None, refl, subst}
use Rattle.std.specs.Prelude.{IsPermutation, Ok, if◌then◌else◌}
use Rattle.std.specs.Option.{ok_or}
use Rattle.std.proofs.lemmas.List.Sorted.{IsPermutation-refl, IsPermutation-middle, IsPermutation-append_left}
use Rattle.mr_bytes.proofs.Numbers.{same_bytes}
use Rattle.mr_arguments.specs.Names.{lowered}
use Rattle.mr_arguments.specs.Parts.{with}
use Rattle.mr_arguments.specs.Spelling.{Part, Keyword, IsPart, AreParts, in_a_row}
use Rattle.mr_arguments.proofs.OptionLemmas.{Adds, one_first, from_none}
use Rattle.mr_arguments.proofs.PartLemmas.{with_ok, found_passes, ok_found}
use Rattle.mr_arguments.specs.declared.fault.AskFault.TheVariants.{Syntax}
use Rattle.mr_zset_options.specs.RangeOptions.{all_range_options, by_score_also, is_limit, is_range_option, limit_text, limit_then, limited, no_range_options, range_also, range_option, range_options, range_text, range_word, reverse_also, with_scores_also}
use Rattle.mr_zset_options.specs.Spelled.{order_option, scores_option}
use Rattle.mr_zset_options.specs.RangeWords.{by_option}
use Rattle.mr_zset_options.proofs.PartLemmas.{words_option}
use Rattle.mr_zset_options.specs.declared.range_options.LimitWords.{LimitWords}
use Rattle.mr_zset_options.specs.declared.range_options.RangeBy.{RangeBy}
use Rattle.mr_zset_options.specs.declared.range_options.RangeBy.TheVariants.{Rank, Score}
use Rattle.mr_zset_options.specs.declared.range_options.RangeOption.{RangeOption}
use Rattle.mr_zset_options.specs.declared.range_options.RangeOption.TheVariants as range
use Rattle.mr_zset_options.specs.declared.range_options.RangeOptions.{RangeOptions}
use Rattle.mr_zset_options.specs.declared.choices.Order.{Order}
use Rattle.mr_zset_options.specs.declared.choices.Order.TheVariants.{Ascending, Descending}
use Rattle.mr_zset_options.specs.declared.choices.RangeReply.{RangeReply}
use Rattle.mr_zset_options.specs.declared.choices.RangeReply.TheVariants as reply

-- an option is spelled by its word
option_text : (w : List ℕ) (o : RangeOption) → ok_or (range_option w) Syntax ≡ Ok o → lowered w ≡ range_text o
option_text w o h = same_bytes _ _ (found_passes (is_range_option (lowered w)) all_range_options o (ok_found (range_option w) o h))

abbrev pub AreOptions : List (List ℕ) → List (List Part) → Type 0
AreOptions ws options = (order : List (List Part)) × (IsPermutation options order × AreParts ws (in_a_row order))

-- the words behind LIMIT are shown as numbers where they are ones, or as they are
module _ (shown : List ℕ → Part) (is_shown : (w : List ℕ) → IsPart w (shown w)) where
  -- the options that are set
  abbrev pub parts : RangeBy → Order → Option LimitWords → RangeReply → List (List Part)
  parts by order limit reply = by_option by ++ order_option order ++ words_option shown limit ++ scores_option reply

  abbrev pub range_parts : RangeOptions → List (List Part)
  range_parts s = parts s.by s.order s.limit s.reply

  abbrev option_part : RangeOption → List Part
  option_part o = Keyword (range_text o) ∷ []

  by_score_more : (b : RangeBy) (o : Order) (l : Option LimitWords) (r : RangeReply) (t : RangeOptions) → by_score_also b o l r ≡ Ok t
      → IsPermutation (range_parts t) (option_part range.ByScore ∷ parts b o l r)
  by_score_more Rank o l r t h =
      let same : record { by = Score; order = o; limit = l; reply = r } ≡ t = cc in
      subst (λ (x : RangeOptions). IsPermutation (range_parts x) (option_part range.ByScore ∷ parts Rank o l r)) same (IsPermutation-refl _)
  by_score_more Score o l r t h = cc

  reverse_more : (b : RangeBy) (o : Order) (l : Option LimitWords) (r : RangeReply) (t : RangeOptions) → reverse_also b o l r ≡ Ok t
      → IsPermutation (range_parts t) (option_part range.Reverse ∷ parts b o l r)
  reverse_more b Ascending l r t h =
      let same : record { by = b; order = Descending; limit = l; reply = r } ≡ t = cc in
      subst (λ (x : RangeOptions). IsPermutation (range_parts x) (option_part range.Reverse ∷ parts b Ascending l r)) same
      (IsPermutation-append_left (scores_option r) _ _ (IsPermutation-append_left (words_option shown l) _ _ (IsPermutation-middle (by_option b) (option_part range.Reverse) [])))
  reverse_more b Descending l r t h = cc

  with_scores_more : (b : RangeBy) (o : Order) (l : Option LimitWords) (r : RangeReply) (t : RangeOptions) → with_scores_also b o l r ≡ Ok t
      → IsPermutation (range_parts t) (option_part range.WithScores ∷ parts b o l r)
  with_scores_more b o l reply.Members t h =
      let same : record { by = b; order = o; limit = l; reply = reply.WithScores } ≡ t = cc in
      subst (λ (x : RangeOptions). IsPermutation (range_parts x) (option_part range.WithScores ∷ parts b o l reply.Members)) same
      (IsPermutation-middle (by_option b ++ order_option o ++ words_option shown l) (option_part range.WithScores) [])
  with_scores_more b o l reply.WithScores t h = cc

  range_more : (s : RangeOptions) (o : RangeOption) (t : RangeOptions) → range_also s o ≡ Ok t → IsPermutation (range_parts t) (option_part o ∷ range_parts s)
  range_more s range.ByScore t h = by_score_more s.by s.order s.limit s.reply t h
  range_more s range.Reverse t h = reverse_more s.by s.order s.limit s.reply t h
  range_more s range.WithScores t h = with_scores_more s.by s.order s.limit s.reply t h

  abbrev limit_part : List ℕ → List ℕ → List Part
  limit_part v w = Keyword limit_text ∷ shown v ∷ shown w ∷ []

  limit_more : (b : RangeBy) (o : Order) (l : Option LimitWords) (r : RangeReply) (v w : List ℕ) (t : RangeOptions)
      → limited (record { by = b; order = o; limit = l; reply = r }) v w ≡ Ok t
      → IsPermutation (range_parts t) (limit_part v w ∷ parts b o l r)
  limit_more b o None r v w t h =
      let same : record { by = b; order = o; limit = Some (record { offset = v; count = w }); reply = r } ≡ t = cc in
      subst (λ (x : RangeOptions). IsPermutation (range_parts x) (limit_part v w ∷ parts b o None r)) same
      (IsPermutation-append_left (scores_option r) _ _ (IsPermutation-middle (by_option b ++ order_option o) (limit_part v w) []))
  limit_more b o (Some l) r v w t h = cc

  abbrev Reads : List (List ℕ) → Type 0
  Reads ws = (s t : RangeOptions) → range_options s ws ≡ Ok t → Adds ws (range_parts s) (range_parts t)

  abbrev ReadsLimit : List ℕ → List (List ℕ) → Type 0
  ReadsLimit w ws = (s t : RangeOptions) → is_limit w ≡ true → limit_then s ws ≡ Ok t → Adds (w ∷ ws) (range_parts s) (range_parts t)

  first_read : (w : List ℕ) (ws : List (List ℕ)) → Reads ws → ReadsLimit w ws → Reads (w ∷ ws)
  first_read w ws rest limit s t h = elim (is_limit w) as (λ b. is_limit w ≡ b → (if b then limit_then s ws else with (range_word s w) (λ n. range_options n ws)) ≡ Ok t → Adds (w ∷ ws) (range_parts s) (range_parts t)) [
    | true ↦ λ e k. limit s t e k
    | false ↦ λ e k.
        let m = with_ok (range_word s w) (λ n. range_options n ws) t k in
        let o = with_ok (ok_or (range_option w) Syntax) (range_also s) m.0 m.1.0 in
        one_first (option_part o.0) (w ∷ []) ws (range_parts s) (range_parts m.0) (range_parts t) (option_text w o.0 o.1.0, tt) (range_more s o.0 m.0 o.1.1) (rest m.0 t m.1.1)
  ] refl h

  limit_first : (w u v : List ℕ) (ws : List (List ℕ)) → Reads ws → ReadsLimit w (u ∷ v ∷ ws)
  limit_first w u v ws rest s t e h =
      let m = with_ok (limited s u v) (λ n. range_options n ws) t h in
      one_first (limit_part u v) (w ∷ u ∷ v ∷ []) ws (range_parts s) (range_parts m.0) (range_parts t) (same_bytes _ _ e, (is_shown u, (is_shown v, tt)))
      (limit_more s.by s.order s.limit s.reply u v m.0 m.1.0) (rest m.0 t m.1.1)

  none_added : Reads []
  none_added s t h = let same : s ≡ t = cc in record { order = []; same = subst (λ (x : RangeOptions). IsPermutation (range_parts x) (range_parts s)) same (IsPermutation-refl (range_parts s)); parts = tt }

  all_read : (ws : List (List ℕ)) → Reads ws
  all_read [] = none_added
  all_read (w ∷ []) = first_read w [] none_added (λ s t e h. cc)
  all_read (w ∷ u ∷ []) = first_read w (u ∷ []) (all_read (u ∷ [])) (λ s t e h. cc)
  all_read (w ∷ u ∷ v ∷ ws) = first_read w (u ∷ v ∷ ws) (all_read (u ∷ v ∷ ws)) (limit_first w u v ws (all_read ws))

  pub options_read : (ws : List (List ℕ)) (t : RangeOptions) → range_options no_range_options ws ≡ Ok t → AreOptions ws (range_parts t)
  options_read ws t h = from_none ws (range_parts t) (all_read ws no_range_options t h)
