-- What waited comes to one list of effects, which can be applied one after another, may stand beside one another, and may stand in the
-- stream.
use Rattle.std.proofs.Common.{◌≡◌, ◌⊎◌, inl, inr, ℕ, List, [], ◌++◌, Bool, true, false, Some, Result, Ok, Err, refl, sym, ap, subst, ◌∙◌, append-nil, append_assoc}
use Rattle.std.specs.List.{list_all}
use Rattle.std.specs.Option.{option_and_then}
use Rattle.std.proofs.lemmas.List.Elements.{All-nil, All-append}
use Rattle.std.specs.Prelude.{All, None}
use Rattle.mr_map.specs.Bytes.{Bytes}
use Rattle.mr_resp.specs.Replies.{Tree}
use Rattle.mr_resp.specs.Usual.{usual}
use Rattle.mr_resp.proofs.OneAnswer.{one_words}
use Rattle.mr_effect.specs.Spelling.{IsShort}
use Rattle.mr_effect.specs.declared.effect.Effect.{Effect}
use Rattle.mr_keyspace.specs.Dataset.{Dataset}
use Rattle.mr_data.specs.Meaning.{apply_all}
use Rattle.mr_data.specs.declared.given.Given.{Given}
use Rattle.mr_data.proofs.Folding.{apply_all-append}
use Rattle.mr_groups.specs.Groups.{can_join}
use Rattle.mr_arguments.specs.declared.fault.AskFault.{AskFault}
use Rattle.mr_cmd_server.specs.declared.question.Question.{Question}
use Rattle.mr_ask.specs.Asks.{asked}
use Rattle.mr_ask.specs.declared.ask.Ask.{Ask}
use Rattle.mr_commands.specs.Requests.{HasPlan, IsPlain, IsPlannedAs, left, question_in}
use Rattle.mr_commands.specs.Transactions.{Frame, Does, DoesAll}
use Rattle.law_minired.proofs.Joining.{all_join, both_join}

-- ---- one plan
one_planned : (r : Result Ask AskFault) (replica : Bool) (given : Given) (m : Dataset) (a b : Tree) (es fs : List Effect) → IsPlannedAs r replica given m a es → IsPlannedAs r replica given m b fs → es ≡ fs
one_planned (Ok command) false given m a b es fs p q = p.effects_are ∙ sym q.effects_are
one_planned (Ok command) true given m a b es fs p q = p.1 ∙ sym q.1
one_planned (Err fault) replica given m a b es fs p q = p.1 ∙ sym q.1

pub one_plan : (replica : Bool) (m : Dataset) (words : List Bytes) (given : Given) (a b : Tree) (es fs : List Effect) → HasPlan replica m words given a es → HasPlan replica m words given b fs → es ≡ fs
one_plan replica m words given a b es fs p q = one_planned (asked words) replica given m a b es fs p.planned.planned q.planned.planned

asks_both : {P : Type 0} (words : List Bytes) (question : Question) → question_in words ≡ None → question_in words ≡ Some question → P
asks_both words question p q = absurd (cc)

-- what was done first, and what behind it
both_applied : (es fs : List Effect) (m mid n : Dataset) → apply_all es m ≡ Some mid → apply_all fs mid ≡ Some n → apply_all (es ++ fs) m ≡ Some n
both_applied es fs m mid n p q = apply_all-append es fs m ∙ (ap (option_and_then (apply_all fs)) p ∙ q)

module _ (frame : Frame) (replica : Bool) (given : Given) where
  -- ---- one request
  -- it has its plan, and that may stand there
  record Fitting (words : List Bytes) (before : List Effect) (m : Dataset) (effects : List Effect) (n : Dataset) : Type 0 where
    plain : IsPlain words
    reply : Tree
    plan : HasPlan replica m words given reply effects
    fits : frame.Fits (before ++ effects)
    left_is : n ≡ left replica words given m

  -- .. or nothing is done, and it has no plan that may
  record Idle (words : List Bytes) (before : List Effect) (m : Dataset) (effects : List Effect) (n : Dataset) : Type 0 where
    alone : (over : List Effect) (k : Dataset) → Fitting words before m over k → ⊥
    none : effects ≡ []
    same : n ≡ m

  cases : (words : List Bytes) (before : List Effect) (m : Dataset) (reply : Tree) (es : List Effect) (n : Dataset) → Does frame replica given words before m reply es n → Fitting words before m es n ⊎ Idle words before m es n
  cases words before m reply es n (Does.fits plain plan fits is) = inl (record { plain = plain; reply = reply; plan = plan; fits = fits; left_is = is })
  cases words before m reply es n (Does.passes plain planned over plan past replied none same) = inr (record {
    alone = λ other k p. past (subst (λ z. frame.Fits (before ++ z)) (one_plan replica m words given p.reply planned other over p.plan plan) p.fits);
    none = none;
    same = same;
  })
  cases words before m reply es n (Does.tells question asks told none same) = inr (record { alone = λ other k p. asks_both words question p.plain.asks_data asks; none = none; same = same })
  cases words before m reply es n (Does.refuses other asks replied none same) = inr (record { alone = λ over k p. other p.plain p.plan.goes_on; none = none; same = same })

  one_of_each : (words : List Bytes) (before : List Effect) (m n k : Dataset) (es fs : List Effect) → Fitting words before m es n ⊎ Idle words before m es n → Fitting words before m fs k ⊎ Idle words before m fs k → (es ≡ fs) × (n ≡ k)
  one_of_each words before m n k es fs (inl p) (inl q) = (one_plan replica m words given p.reply q.reply es fs p.plan q.plan, p.left_is ∙ sym q.left_is)
  one_of_each words before m n k es fs (inl p) (inr q) = absurd (q.alone es n p)
  one_of_each words before m n k es fs (inr p) (inl q) = absurd (p.alone fs k q)
  one_of_each words before m n k es fs (inr p) (inr q) = (p.none ∙ sym q.none, p.same ∙ sym q.same)

  one_step : (words : List Bytes) (before : List Effect) (m n k : Dataset) (a b : Tree) (es fs : List Effect) → Does frame replica given words before m a es n → Does frame replica given words before m b fs k → (es ≡ fs) × (n ≡ k)
  one_step words before m n k a b es fs p q = one_of_each words before m n k es fs (cases words before m a es n p) (cases words before m b fs k q)

  -- its effects may stand there, lead to what it leaves, and may stand beside others
  pub record Sound (before : List Effect) (m : Dataset) (effects : List Effect) (n : Dataset) : Type 0 where
    pub fits : frame.Fits before → frame.Fits (before ++ effects)
    pub leads : apply_all effects m ≡ Some n
    pub short : All IsShort effects
    pub join : list_all can_join effects ≡ true

  sound : (words : List Bytes) (before : List Effect) (m : Dataset) (es : List Effect) (n : Dataset) → Fitting words before m es n ⊎ Idle words before m es n → Sound before m es n
  sound words before m es n (inl p) = record {
    fits = λ _. p.fits;
    leads = p.plan.leads ∙ ap (λ z. Some z) (sym p.left_is);
    short = p.plan.short;
    join = all_join replica m words given p.reply es p.plan;
  }
  sound words before m es n (inr p) = record {
    fits = subst frame.Fits (sym (append-nil before) ∙ ap (λ z. before ++ z) (sym p.none));
    leads = ap (λ z. apply_all z m) p.none ∙ ap (λ z. Some z) (sym p.same);
    short = subst (All IsShort) (sym p.none) (All-nil IsShort);
    join = ap (list_all can_join) p.none;
  }

  -- ---- all of them
  -- in one way, whatever questions are answered
  pub one_way : (texts : List (List ℕ)) (before other : List Effect) (m p n k : Dataset) (rs ss : List Tree) (es fs : List Effect) → before ≡ other → m ≡ p
      → DoesAll frame replica given texts before m rs es n → DoesAll frame replica given texts other p ss fs k → es ≡ fs
  one_way _ before other m p n k _ _ _ _ e f (DoesAll.none _ _) (DoesAll.none _ _) = refl
  one_way _ before other m p n k _ _ _ _ e f (DoesAll.more text texts words _ _ mid _ reply replies effects behind asks does rest) (DoesAll.more _ _ its _ _ next _ its_reply its_replies its_effects its_behind its_asks its_does its_rest) =
      let same : its ≡ words = one_words usual text its words its_asks asks in
      let by_words = subst (λ (z : List Bytes). Does frame replica given z other p its_reply its_effects next) same its_does in
      let behind_one = subst (λ (z : List Effect). Does frame replica given words z p its_reply its_effects next) (sym e) by_words in
      let at_one = subst (λ (z : Dataset). Does frame replica given words before z its_reply its_effects next) (sym f) behind_one in
      let both = one_step words before m mid next reply its_reply effects its_effects does at_one in
      let later = one_way texts (before ++ effects) (other ++ its_effects) mid next n k replies its_replies behind its_behind (λ i. e i ++ both.0 i) both.1 rest its_rest in
      (λ i. both.0 i ++ later i)

  pub sound_all : (texts : List (List ℕ)) (before : List Effect) (m n : Dataset) (rs : List Tree) (es : List Effect) → DoesAll frame replica given texts before m rs es n → Sound before m es n
  sound_all _ before m n _ _ (DoesAll.none _ _) = record { fits = subst frame.Fits (sym (append-nil before)); leads = refl; short = All-nil IsShort; join = refl }
  sound_all _ before m n _ _ (DoesAll.more text texts words _ _ mid _ reply replies effects behind asks does rest) =
      let one = sound words before m effects mid (cases words before m reply effects mid does) in
      let others = sound_all texts (before ++ effects) mid n replies behind rest in record {
        fits = λ had. subst frame.Fits (append_assoc before effects behind) (others.fits (one.fits had));
        leads = both_applied effects behind m mid n one.leads others.leads;
        short = All-append IsShort effects behind one.short others.short;
        join = both_join effects behind one.join others.join;
      }
