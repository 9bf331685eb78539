-- Requests that waited are done one behind another.
use Rattle.std.proofs.Common.{◌≡◌, ◌++◌, ◌∷◌, ℕ, suc, List, [], append-nil, append_assoc, Bool, true, Some, length, refl, sym, ap, subst, ◌∙◌}
use Rattle.std.proofs.lemmas.Option.{same_Some}
use Rattle.mr_resp.specs.Replies.{Tree}
use Rattle.mr_resp.specs.Request.{IsRequest}
use Rattle.mr_resp.specs.Usual.{usual}
use Rattle.mr_keyspace.specs.Dataset.{Dataset}
use Rattle.mr_effect.specs.declared.effect.Effect.{Effect}
use Rattle.mr_data.specs.declared.given.Given.{Given}
use Rattle.mr_data.specs.Meaning.{apply_all}
use Rattle.mr_cmd_server.specs.declared.question.Question.{Question}
use Rattle.mr_commands.specs.Requests.{left}
use Rattle.mr_commands.specs.Transactions.{Does, DoesAll, Frame, FirstTakesMemory}
use Rattle.mr_commands.proofs.Replicas.{none_on_replica}

none_none : (xs ys : List Effect) → xs ++ ys ≡ [] → (xs ≡ []) × (ys ≡ [])
none_none [] ys e = (refl, e)
none_none (x ∷ xs) ys e = absurd (no e)
  where
    no : x ∷ xs ++ ys ≡ [] → ⊥
    no q = cc

abbrev pub one_more : List Tree → Tree → List Tree
one_more replies reply = replies ++ reply ∷ []

module _ (frame : Frame) (replica : Bool) (given : Given) where
  -- each has its reply
  pub replied : (requests : List (List ℕ)) (before : List Effect) (m n : Dataset) (replies : List Tree) (effects : List Effect) → DoesAll frame replica given requests before m replies effects n → length replies ≡ length requests
  replied _ before m n _ _ (DoesAll.none _ _) = refl
  replied _ before m n _ _ (DoesAll.more text texts words _ _ mid _ reply replies effects behind asks does rest) = ap suc (replied texts (before ++ effects) mid n replies behind rest)

  -- one more is done behind them
  pub does_more : (requests : List (List ℕ)) (before : List Effect) (m mid n : Dataset) (replies : List Tree) (effects over : List Effect) (text : List ℕ) (words : List (List ℕ)) (reply : Tree)
      → DoesAll frame replica given requests before m replies effects mid → IsRequest usual text words → Does frame replica given words (before ++ effects) mid reply over n
      → DoesAll frame replica given (requests ++ text ∷ []) before m (one_more replies reply) (effects ++ over) n
  does_more _ before m mid n _ _ over text words reply (DoesAll.none _ _) asks one =
      let here = subst (λ (z : List Effect). Does frame replica given words z m reply over n) (append-nil before) one in
      subst (λ (z : List Effect). DoesAll frame replica given (text ∷ []) before m (reply ∷ []) z n) (append-nil over)
      (DoesAll.more text [] words before m n n reply [] over [] asks here (DoesAll.none (before ++ over) n))
  does_more _ before m mid n _ _ over text words reply (DoesAll.more first texts its _ _ next _ its_reply replies effects behind its_asks does rest) asks one =
      let on = does_more texts (before ++ effects) next mid n replies behind over text words reply rest asks
      (subst (λ (z : List Effect). Does frame replica given words z mid reply over n) (sym (append_assoc before effects behind)) one) in
      subst (λ (z : List Effect). DoesAll frame replica given (first ∷ texts ++ text ∷ []) before m (its_reply ∷ one_more replies reply) z n) (sym (append_assoc effects behind over))
      (DoesAll.more first (texts ++ text ∷ []) its before m next n its_reply (one_more replies reply) effects (behind ++ over) its_asks does on)

  -- what has no effect leaves the dataset
  does_nothing : (words : List (List ℕ)) (before : List Effect) (m n : Dataset) (reply : Tree) (effects : List Effect) → effects ≡ [] → Does frame replica given words before m reply effects n → n ≡ m
  does_nothing words before m n reply effects none (Does.fits plain plan fits is) =
      is ∙ sym (same_Some m (left replica words given m) (subst (λ (z : List Effect). apply_all z m ≡ Some (left replica words given m)) none plan.leads))
  does_nothing words before m n reply effects none (Does.passes plain planned over plan full told nothing same) = same
  does_nothing words before m n reply effects none (Does.tells question asks told nothing same) = same
  does_nothing words before m n reply effects none (Does.refuses refused asks told nothing same) = same

  pub do_nothing : (requests : List (List ℕ)) (before : List Effect) (m n : Dataset) (replies : List Tree) (effects : List Effect) → effects ≡ [] → DoesAll frame replica given requests before m replies effects n → n ≡ m
  do_nothing _ before m n _ _ none (DoesAll.none _ _) = refl
  do_nothing _ before m n _ _ none (DoesAll.more text texts words _ _ mid _ reply replies effects behind asks does rest) =
      let both = none_none effects behind none in
      do_nothing texts (before ++ effects) mid n replies behind both.1 rest ∙ does_nothing words before m mid reply effects both.0 does

  -- a replica's requests have no effects
  has_none : (words : List (List ℕ)) (before : List Effect) (m n : Dataset) (reply : Tree) (effects : List Effect) → replica ≡ true → Does frame replica given words before m reply effects n → effects ≡ []
  has_none words before m n reply effects is (Does.fits plain plan fits same) = none_on_replica replica words given m reply effects is plan.planned
  has_none words before m n reply effects is (Does.passes plain planned over plan full told nothing same) = nothing
  has_none words before m n reply effects is (Does.tells question asks told nothing same) = nothing
  has_none words before m n reply effects is (Does.refuses refused asks told nothing same) = nothing

  pub have_none : (requests : List (List ℕ)) (before : List Effect) (m n : Dataset) (replies : List Tree) (effects : List Effect) → replica ≡ true → DoesAll frame replica given requests before m replies effects n → effects ≡ []
  have_none _ before m n _ _ is (DoesAll.none _ _) = refl
  have_none _ before m n _ _ is (DoesAll.more text texts words _ _ mid _ reply replies effects behind asks does rest) =
      ap (λ (z : List Effect). z ++ behind) (has_none words before m mid reply effects is does) ∙ have_none texts (before ++ effects) mid n replies behind is rest

-- ---- in another frame, in which the same fits and as much may be told
module _ (old new : Frame) (replica : Bool) (given : Given) (fits : (es : List Effect) → old.Fits es → new.Fits es) (fitted : (es : List Effect) → new.Fits es → old.Fits es)
    (told : (question : Question) (reply : Tree) → old.Told question reply → new.Told question reply) where
  does_so : (words : List (List ℕ)) (before : List Effect) (m n : Dataset) (reply : Tree) (effects : List Effect) → Does old replica given words before m reply effects n → Does new replica given words before m reply effects n
  does_so words before m n reply effects (Does.fits plain plan fit is) = Does.fits plain plan (fits (before ++ effects) fit) is
  does_so words before m n reply effects (Does.passes plain planned over plan full says none same) = Does.passes plain planned over plan (λ fit. full (fitted (before ++ over) fit)) says none same
  does_so words before m n reply effects (Does.tells question asks tells none same) = Does.tells question asks (told question reply tells) none same
  does_so words before m n reply effects (Does.refuses refused asks says none same) = Does.refuses refused asks says none same

  pub do_so : (requests : List (List ℕ)) (before : List Effect) (m n : Dataset) (replies : List Tree) (effects : List Effect) → DoesAll old replica given requests before m replies effects n → DoesAll new replica given requests before m replies effects n
  do_so _ before m n _ _ (DoesAll.none _ _) = DoesAll.none before m
  do_so _ before m n _ _ (DoesAll.more text texts words _ _ mid _ reply replies effects behind asks does rest) =
      DoesAll.more text texts words before m mid n reply replies effects behind asks (does_so words before m mid reply effects does) (do_so texts (before ++ effects) mid n replies behind rest)

  pub has_so : (requests : List (List ℕ)) (before : List Effect) (m : Dataset) → FirstTakesMemory old replica given requests before m → FirstTakesMemory new replica given requests before m
  has_so requests before m h = record {
    text = h.text;
    later = h.later;
    first = h.first;
    words = h.words;
    request = h.request;
    plain = h.plain;
    reply = h.reply;
    effects = h.effects;
    plan = h.plan;
    fits = fits (before ++ h.effects) h.fits;
    heavy = h.heavy;
  }
