-- What ZADD's words spell.
use Rattle.std.proofs.Common.{ℕ, ℤ, ◌≡◌, List, [], ◌∷◌, ◌++◌, map, true, false, Option, Some, None, refl, sym, subst}
use Rattle.std.specs.Prelude.{IsTrue, IfOk, IsPermutation, Ok, Err, if◌then◌else◌}
use Rattle.std.specs.Option.{is_some, ok_or}
use Rattle.std.proofs.lemmas.List.{take-append-drop}
use Rattle.std.proofs.lemmas.List.Sorted.{IsPermutation-refl, IsPermutation-middle, IsPermutation-append_left}
use Rattle.mr_bytes.proofs.Numbers.{same_bytes}
use Rattle.mr_bytes.proofs.Both.{first, second}
use Rattle.mr_arguments.specs.Names.{lowered}
use Rattle.mr_arguments.specs.Options.{added}
use Rattle.mr_arguments.specs.Pairing.{unpaired}
use Rattle.mr_arguments.specs.Spelling.{Part, Keyword, AreParts, in_a_row}
use Rattle.mr_arguments.proofs.OptionLemmas.{all_added, each_alone, from_none, parts_joined}
use Rattle.mr_arguments.proofs.PartLemmas.{with_ok, if_with, if_ok, with_pairs, found_passes, ok_found}
use Rattle.mr_arguments.specs.declared.name.Name.TheVariants as name
use Rattle.mr_arguments.specs.declared.fault.AskFault.TheVariants.{Integer, Syntax}
use Rattle.mr_score.specs.Texts.{IsScoreText, score_of}
use Rattle.mr_score.proofs.TextLemmas.{read_spelled}
use Rattle.mr_zset_options.specs.AddOptions.{add_also, add_option, add_options, add_text, add_word, agreeing, all_add_options, changed_also, disagree, is_add_option, no_add_options, option_count, option_words, pair_words}
use Rattle.mr_cmd_zset.specs.Arguments.{add_scores, score_pairs, zadd}
use Rattle.mr_zset_options.specs.Scored.{have_scores, or_0, scored, scored_of}
use Rattle.mr_zset_options.specs.Spelled.{changed_option, comparison_option, condition_option}
use Rattle.mr_cmd_zset.specs.Spelled.{pair_parts, ZSetSpells}
use Rattle.mr_zset_options.specs.declared.add_options.AddOption.{AddOption}
use Rattle.mr_zset_options.specs.declared.add_options.AddOption.TheVariants as add
use Rattle.mr_zset_options.specs.declared.add_options.AddOptions.{AddOptions}
use Rattle.mr_zset_options.specs.declared.choices.ScoreCondition.{ScoreCondition}
use Rattle.mr_zset_options.specs.declared.choices.Comparison.{Comparison}
use Rattle.mr_zset_options.specs.declared.choices.ScoresReply.{ScoresReply}
use Rattle.mr_zset_options.specs.declared.choices.ScoresReply.TheVariants.{Added, Changed}

-- an option is spelled by its word
option_text : (w : List ℕ) (o : AddOption) → ok_or (add_option w) Syntax ≡ Ok o → lowered w ≡ add_text o
option_text w o h = same_bytes _ _ (found_passes (is_add_option (lowered w)) all_add_options o (ok_found (add_option w) o h))

-- the options that are set
add_parts : AddOptions → List (List Part)
add_parts s = condition_option s.condition ++ comparison_option s.comparison ++ changed_option s.reply

option_part : AddOption → List Part
option_part o = Keyword (add_text o) ∷ []

condition_more : (o : ScoreCondition) (c : Option ScoreCondition) (d : Option Comparison) (r : ScoresReply) (t : AddOptions)
    → add_also (record { condition = c; comparison = d; reply = r }) (add.Condition o) ≡ Ok t
    → IsPermutation (add_parts t) (option_part (add.Condition o) ∷ add_parts (record { condition = c; comparison = d; reply = r }))
unfolding add_parts option_part
condition_more o None d r t h =
    let same : record { condition = Some o; comparison = d; reply = r } ≡ t = cc in
    subst (λ (x : AddOptions). IsPermutation (add_parts x) (option_part (add.Condition o) ∷ add_parts (record { condition = None; comparison = d; reply = r }))) same (IsPermutation-refl _)
condition_more o (Some c) d r t h = cc

comparison_more : (o : Comparison) (c : Option ScoreCondition) (d : Option Comparison) (r : ScoresReply) (t : AddOptions)
    → add_also (record { condition = c; comparison = d; reply = r }) (add.Comparison o) ≡ Ok t
    → IsPermutation (add_parts t) (option_part (add.Comparison o) ∷ add_parts (record { condition = c; comparison = d; reply = r }))
unfolding add_parts option_part
comparison_more o c None r t h =
    let same : record { condition = c; comparison = Some o; reply = r } ≡ t = cc in
    subst (λ (x : AddOptions). IsPermutation (add_parts x) (option_part (add.Comparison o) ∷ add_parts (record { condition = c; comparison = None; reply = r }))) same
    (IsPermutation-append_left (changed_option r) _ _ (IsPermutation-middle (condition_option c) (option_part (add.Comparison o)) []))
comparison_more o c (Some d) r t h = cc

changed_more : (c : Option ScoreCondition) (d : Option Comparison) (r : ScoresReply) (t : AddOptions) → changed_also c d r ≡ Ok t
    → IsPermutation (add_parts t) (option_part add.Changed ∷ add_parts (record { condition = c; comparison = d; reply = r }))
unfolding add_parts option_part
changed_more c d Added t h =
    let same : record { condition = c; comparison = d; reply = Changed } ≡ t = cc in
    subst (λ (x : AddOptions). IsPermutation (add_parts x) (option_part add.Changed ∷ add_parts (record { condition = c; comparison = d; reply = Added }))) same
    (IsPermutation-middle (condition_option c ++ comparison_option d) (option_part add.Changed) [])
changed_more c d Changed t h = cc

add_more : (s : AddOptions) (o : AddOption) (t : AddOptions) → add_also s o ≡ Ok t → IsPermutation (add_parts t) (option_part o ∷ add_parts s)
unfolding add_parts option_part
add_more s (add.Condition o) t h = condition_more o s.condition s.comparison s.reply t h
add_more s (add.Comparison o) t h = comparison_more o s.condition s.comparison s.reply t h
add_more s add.Changed t h = changed_more s.condition s.comparison s.reply t h

add_one : (s : AddOptions) (w : List ℕ) (t : AddOptions) → add_word s w ≡ Ok t → (o : List Part) × ((AreParts (w ∷ []) o) × IsPermutation (add_parts t) (o ∷ add_parts s))
unfolding option_part
add_one s w t h =
    let read = with_ok (ok_or (add_option w) Syntax) (add_also s) t h in
    (option_part read.0, ((option_text w read.0 read.1.0, tt), add_more s read.0 t read.1.1))

AddRead : List (List ℕ) → AddOptions → Type 0
AddRead ws t = (order : List (List Part)) × (IsPermutation (condition_option t.condition ++ comparison_option t.comparison ++ changed_option t.reply) order × AreParts ws (in_a_row order))

all_read : (ws : List (List ℕ)) (t : AddOptions) → added add_word no_add_options ws ≡ Ok t → AddRead ws t
unfolding AddRead add_parts
all_read ws t h =
    let added = all_added add_word add_parts (λ w. w ∷ []) add_one ws no_add_options t h in
    let of = from_none _ _ added in
    (of.0, (of.1.0, subst (λ (xs : List (List ℕ)). AreParts xs (in_a_row of.0)) (each_alone ws) of.1.1))

agreeing_same : (s t : AddOptions) → agreeing s ≡ Ok t → s ≡ t
agreeing_same s t h = elim (disagree s.condition s.comparison) as (λ b. (if b then Err Syntax else Ok s) ≡ Ok t → s ≡ t) [
  | true ↦ λ e. cc
  | false ↦ λ e. cc
] h

options_read : (ws : List (List ℕ)) (t : AddOptions) → add_options ws ≡ Ok t → AddRead ws t
options_read ws t h =
    let read = with_ok (added add_word no_add_options ws) agreeing t h in
    subst (AddRead ws) (agreeing_same read.0 t read.1.1) (all_read ws read.0 read.1.0)

is_score_text : (w : List ℕ) → IsTrue (is_some (score_of w)) → IsScoreText w (or_0 (score_of w))
is_score_text w h = elim (score_of w) as (λ o. score_of w ≡ o → IsTrue (is_some o) → IsScoreText w (or_0 o)) [
  | None ↦ λ s e. cc
  | Some n ↦ λ s e. read_spelled w n s
] refl h

scored_spelled : (ps : List (List ℕ × List ℕ)) → IsTrue (have_scores ps) → AreParts (unpaired ps) (pair_parts (map scored ps))
scored_spelled [] h = tt
scored_spelled (p ∷ ps) h = (is_score_text p.0 (first _ _ h), (refl, scored_spelled ps (second _ _ h)))

scored_read : (ws : List (List ℕ)) (ps : List (List ℕ × List ℕ)) (t : List (ℤ × List ℕ)) → ws ≡ unpaired ps → ok_or (scored_of ps) Integer ≡ Ok t → AreParts ws (pair_parts t)
scored_read ws ps t e h = elim (have_scores ps) as (λ b. have_scores ps ≡ b → ok_or (if b then Some (map scored ps) else None) Integer ≡ Ok t → AreParts ws (pair_parts t)) [
  | true ↦ λ s k.
      let same : map scored ps ≡ t = cc in
      subst (λ (xs : List (List ℕ)). AreParts xs (pair_parts t)) (sym e) (subst (λ (x : List (ℤ × List ℕ)). AreParts (unpaired ps) (pair_parts x)) same (scored_spelled ps s))
  | false ↦ λ s k. cc
] refl h

pairs_read : (ws : List (List ℕ)) (t : List (ℤ × List ℕ)) → score_pairs ws ≡ Ok t → AreParts ws (pair_parts t)
pairs_read [] t h = cc
pairs_read (w ∷ ws) t h =
    subst (λ r. IfOk r (λ x. AreParts (w ∷ ws) (pair_parts x))) h
    (with_pairs (w ∷ ws) Syntax (λ ps. ok_or (scored_of ps) Integer) (λ x. AreParts (w ∷ ws) (pair_parts x)) (λ ps e. if_ok (ok_or (scored_of ps) Integer) (λ x. AreParts (w ∷ ws) (pair_parts x)) (λ x k. scored_read (w ∷ ws) ps x e k)))

scores_added : (k : List ℕ) (ws : List (List ℕ)) → IfOk (add_scores k ws) (ZSetSpells name.ZAdd (k ∷ ws))
unfolding add_scores AddRead
scores_added k ws = if_with (add_options (option_words ws)) _ _ (λ t h. if_with (score_pairs (pair_words ws)) _ _ (λ ps g.
    let read = options_read (option_words ws) t h in (
      refl,
      (
        read.0,
        (
          read.1.0,
          (
            refl,
            subst (λ (xs : List (List ℕ)). AreParts xs (in_a_row read.0 ++ pair_parts ps)) (take-append-drop (option_count ws) ws) (parts_joined (option_words ws) (pair_words ws) (in_a_row read.0) (pair_parts ps) read.1.1 (pairs_read (pair_words ws) ps g)),
          ),
        ),
      ),
    )))

pub zadd_spells : (ws : List (List ℕ)) → IfOk (zadd ws) (ZSetSpells name.ZAdd ws)
zadd_spells [] = tt
zadd_spells (k ∷ []) = tt
zadd_spells (k ∷ w ∷ []) = tt
zadd_spells (k ∷ w ∷ v ∷ ws) = scores_added k (w ∷ v ∷ ws)
