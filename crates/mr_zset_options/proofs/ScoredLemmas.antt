-- Scores that are read.
use Rattle.std.proofs.Common.{ℕ, ◌≡◌, List, [], ◌∷◌, map, Some, None, refl}
use Rattle.std.specs.Prelude.{IsTrue}
use Rattle.std.specs.List.{list_all}
use Rattle.std.specs.Option.{is_some}
use Rattle.mr_bytes.proofs.Both.{first, second}
use Rattle.mr_score.specs.Score.{is_score}
use Rattle.mr_score.specs.Texts.{score_of}
use Rattle.mr_score.proofs.TextLemmas.{read_spelled}
use Rattle.mr_zset_options.specs.Scored.{have_scores, or_0, scored, is_scored}
use Rattle.mr_arguments.proofs.FitLemmas.{both}

-- what is read is a score
or_0_is : (text : List ℕ) → IsTrue (is_some (score_of text)) → IsTrue (is_score (or_0 (score_of text)))
or_0_is text h = elim (score_of text) as (λ o. score_of text ≡ o → IsTrue (is_some o) → IsTrue (is_score (or_0 o))) [
  | None ↦ λ s e. cc
  | Some n ↦ λ s e. (read_spelled text n s).0
] refl h

pub all_scores : (ps : List (List ℕ × List ℕ)) → IsTrue (have_scores ps) → IsTrue (list_all is_scored (map scored ps))
all_scores [] h = refl
all_scores (p ∷ ps) h = both _ _ (or_0_is p.0 (first _ _ h)) (all_scores ps (second _ _ h))
