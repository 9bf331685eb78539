-- The group at the front of the stream.
use Rattle.std.proofs.Common.{◌≡◌, ℕ, ◌<◌, ◌≤◌, ◌^◌, ◌⊎◌, inl, inr, List, [], ◌∷◌, ◌++◌, length, get_or, take, drop, Option, Some, None, Result, Ok, Err, refl, sym, ap, ◌∙◌, subst, arith, append-nil, append_assoc, length-append, take_all, All, lit<}
use Rattle.std.specs.List.{AllByRecursion, flat_map}
use Rattle.std.specs.Prelude.{codes}
use Rattle.std.specs.Option.{option_and_then}
use Rattle.std.specs.FinMap.{empty}
use Rattle.std.proofs.lemmas.Bool.{cases_lt}
use Rattle.std.proofs.lemmas.List.{length-take-le, take-append-drop}
use Rattle.std.proofs.lemmas.List.Elements.{All-nil, All-cons}
use Rattle.mr_inline.specs.Language.{Continues, IsDoomed, Fails}
use Rattle.mr_resp.proofs.OneFault.{fails_doomed}
use Rattle.mr_resp.specs.Spelling.{bulk, number_line}
use Rattle.mr_resp.proofs.LineEnds.{bytes_cons, bytes_nil}
use Rattle.mr_resp.proofs.Words.{bytes_append, bytes_line, bytes_bulk}
use Rattle.mr_resp.specs.Command.{IsCommand, IsCommandText, HasCommandFault, ReadsCommand}
use Rattle.mr_resp.specs.declared.fault.Fault.{Fault}
use Rattle.mr_resp.specs.declared.request.Scan.{Scan}
use Rattle.mr_resp.specs.declared.request.Scan.TheVariants as scan
use Rattle.mr_resp.specs.Usual.{commands, commands-words}
use Rattle.mr_effect.specs.Spelling.{words, IsSpelled, FindsEach}
use Rattle.mr_effect.specs.declared.effect.Effect.{Effect}
use Rattle.mr_keyspace.specs.Changes.{NeedsNoMemory}
use Rattle.mr_keyspace.specs.Dataset.{Dataset}
use Rattle.mr_data.specs.Meaning.{apply, apply_all}
use Rattle.mr_groups.specs.Effects.{IsGoodEffect}
use Rattle.mr_groups.specs.Steps.{RefusesWords}
use Rattle.mr_groups.specs.declared.trying.Tried.TheVariants as tried
use Rattle.mr_groups.proofs.Commands.{words_are, words_tried}
use Rattle.mr_groups.specs.Groups.{IsGroup, IsGoodGroup, multi, group_text}
use Rattle.mr_groups.specs.Parts.{multi_words}
use Rattle.mr_groups.specs.Folding.{IsRefused, IsTorn}
use Rattle.mr_groups.specs.Reading.{IsFirstGroup, BeginsWithGroup, IsOpen, IsBad, ReadsGroup}
use Rattle.mr_groups.specs.declared.reading.Next.{Next}
use Rattle.mr_groups.specs.declared.reading.Next.TheVariants as next
use Rattle.mr_groups.proofs.Apart.{no_empty, one_group, multi_command}
use Rattle.mr_groups.proofs.Cuts.{begins, open_is_not_bad, bad_for_good}
use Rattle.mr_groups.proofs.Lone.{IsLone, IsOne, lone_group, lone_not_open}
use Rattle.mr_groups.proofs.Openings.{multi_text, open_start, doomed_start}
use Rattle.mr_groups.proofs.Runs.{some_text}
use Rattle.mr_groups.proofs.Going.{refused_undefined}
use Rattle.mr_follower.specs.Stream.{HasCommand, HasFrame, LacksAt, IsStuckWithin, IsRefusedFront, AppliesEffect, AppliesText, AppliesWords, AppliesEffects, AppliesFront, AppliesSingle, WaitsWithin, HasFront, lack_of}
use Rattle.mr_follower.specs.Stream.MayLackFor.{can, framed}
use Rattle.mr_follower.specs.declared.single.Single.{Single}
use Rattle.mr_follower.specs.declared.single.Single.TheVariants as single
use Rattle.mr_follower.specs.declared.heard.FollowFault.{FollowFault}
use Rattle.mr_follower.specs.declared.heard.FollowFault.TheVariants as fault
use Rattle.mr_follower.proofs.Loadings.{possible, text_of_words, short_of_words, split_longer, few_taken, taken_or, two_fronts, within_parts}
use Rattle.mr_follower.proofs.Loadings as loadings

-- ---- what is refused

-- a beginning and what is behind it, with more
joined : (u more : List ℕ) (room : ℕ) → take room u ++ (drop room u ++ more) ≡ u ++ more
joined u more room = sym (append_assoc (take room u) (drop room u) more) ∙ ap (λ (l : List ℕ). l ++ more) (take-append-drop room u)

multi_bytes : All (λ b. b < 256) multi
unfolding multi
multi_bytes = bytes_cons 42 (number_line 1 ++ flat_map bulk (codes "MULTI" ∷ [])) (lit< tt) (bytes_append (number_line 1) (flat_map bulk (codes "MULTI" ∷ [])) (bytes_line 1 (lit< tt))
    (bytes_append (bulk (codes "MULTI")) [] (bytes_bulk (codes "MULTI") (lit< tt) letters) bytes_nil))
  where
    letters : All (λ b. b < 256) (codes "MULTI")
    letters = bytes_cons 77 (codes "ULTI") (lit< tt) (bytes_cons 85 (codes "LTI") (lit< tt) (bytes_cons 76 (codes "TI") (lit< tt) (bytes_cons 84 (codes "I") (lit< tt) (bytes_cons 73 [] (lit< tt) bytes_nil))))

-- a group's text can come of nothing
none_is_not_bad : (u : List ℕ) → length u ≡ 0 → IsBad u → ⊥
none_is_not_bad [] none bad = open_is_not_bad [] (open_start [] (record { more = multi; are_bytes = multi_bytes; whole = multi_text; some = omega (arith, loadings.some_text multi multi_words multi_command) })) bad
none_is_not_bad (x ∷ u) none bad = cc

some_bytes : (u : List ℕ) (room : ℕ) → IsBad (take room u) → 0 < length u
some_bytes u room bad = elim (cases_lt 0 (length u)) [
  | inl some ↦ some
  | inr none ↦ absurd (none_is_not_bad (take room u) (let cut = few_taken room u in omega (arith, cut.1, none)) bad)
]

-- all that there is is within so many bytes, or there is more
whole_or : (u : List ℕ) (room : ℕ) → (take room u ≡ u) ⊎ (room < length u)
whole_or u room = elim (cases_lt room (length u)) [
  | inl more ↦ inr more
  | inr few ↦ inl (take_all room u few)
]

-- what is open as a whole is within so many bytes, unless it is more
past_of : (u : List ℕ) (room : ℕ) → (IsOpen (take room u) → ⊥) → IsOpen u → room < length u
past_of u room not_open opened = elim (whole_or u room) [
  | inl is ↦ absurd (not_open (subst IsOpen (sym is) opened))
  | inr more ↦ more
]

-- a group of so many bytes that begins all begins the first so many
begins_front : (u : List ℕ) (room : ℕ) (g : List Effect) (behind : List ℕ) → IsGoodGroup g → length (group_text g) ≤ room → u ≡ group_text g ++ behind → BeginsWithGroup (take room u)
begins_front u room g behind good few is =
    let size = length-append (group_text g) behind in
    let long : length (group_text g) ≤ length (take room u) = elim (taken_or room u) [
      | inl full ↦ omega (arith, full, few)
      | inr whole ↦ omega (arith, whole, ap length is, size)
    ] in
    let r = split_longer (take room u) (drop room u) (group_text g) behind (take-append-drop room u ∙ is) long in
    record { group = g; good = good; behind = r.0; is = r.1.0 }

-- bytes that begin no group's text
pub bad_refused : (u : List ℕ) (room : ℕ) (m : Dataset) → IsBad (take room u) → IsRefusedFront room m u
bad_refused u room m bad = record {
  some = some_bytes u room bad;
  past = past_of u room (λ opened. open_is_not_bad (take room u) opened bad);
  stuck = λ g n more behind good applied few q. bad_for_good (take room u) (drop room u ++ more) bad (record { group = g; good = good; behind = behind; is = joined u more room ∙ q });
  first = λ g behind good few q. absurd (bad.none (begins_front u room g behind good few q));
}

full : (u : List ℕ) (room : ℕ) → room < length u → length (take room u) ≡ room
full u room more = length-take-le room u (omega (arith, more))

-- a beginning of a group's text that has more bytes than may be
pub long_refused : (u : List ℕ) (room : ℕ) (m : Dataset) → IsOpen (take room u) → room < length u → IsRefusedFront room m u
long_refused u room m opened long = record {
  some = omega (arith, long);
  past = λ _. long;
  stuck = λ g n more behind good applied few q. too_long g more behind good few q;
  first = λ g behind good few q. absurd (opened.none (begins_front u room g behind good few q));
}
  where
    too_long : (g : List Effect) (more behind : List ℕ) → IsGoodGroup g → length (group_text g) ≤ room → u ++ more ≡ group_text g ++ behind → ⊥
    too_long g more behind good few q =
        let r = split_longer (take room u) (drop room u ++ more) (group_text g) behind (joined u more room ∙ q) (omega (arith, few, full u room long)) in
        opened.none (record { group = g; good = good; behind = r.0; is = r.1.0 })

-- a group that isn't applied as a whole
pub group_refused : (u : List ℕ) (room used : ℕ) (m : Dataset) (es : List Effect) → IsFirstGroup (take room u) es used → IsRefused es m → IsRefusedFront room m u
group_refused u room used m es first refused =
    let here = begins (take room u) es used first in
    let cut = few_taken room u in
    record {
      some = omega (arith, cut.1, ap length here.is, length-append (group_text es) here.behind, some_text es first.good);
      past = past_of u room (λ opened. opened.none here);
      stuck = λ g n more behind good applied few q. other g n more behind good applied q;
      first = λ g behind good few q. subst (λ (xs : List Effect). IsRefused xs m) (same g [] behind good (append-nil u ∙ q)) refused;
    }
  where
    same : (g : List Effect) (more behind : List ℕ) → IsGoodGroup g → u ++ more ≡ group_text g ++ behind → es ≡ g
    same g more behind good q =
        let here = begins (take room u) es used first in
        let both : group_text es ++ (here.behind ++ (drop room u ++ more)) ≡ group_text g ++ behind =
        sym (append_assoc (group_text es) here.behind (drop room u ++ more)) ∙ (ap (λ (l : List ℕ). l ++ (drop room u ++ more)) (sym here.is) ∙ (joined u more room ∙ q)) in
        (one_group es g (here.behind ++ (drop room u ++ more)) behind first.good good both).0

    other : (g : List Effect) (n : Dataset) (more behind : List ℕ) → IsGoodGroup g → apply_all g m ≡ Some n → u ++ more ≡ group_text g ++ behind → ⊥
    other g n more behind good applied q =
        let none : apply_all es m ≡ None = refused_undefined es m refused in
        let wrong : None ≡ Some n = sym none ∙ (ap (λ (xs : List Effect). apply_all xs m) (same g more behind good q) ∙ applied) in
        cc

-- a command text that begins no frame, whose words are refused
pub words_refused : (u : List ℕ) (used room : ℕ) (ws : List (List ℕ)) (m : Dataset) → used ≤ length (take room u) → used < 2 ^ 64 → IsCommand commands (take used (take room u)) ws → IsLone ws → RefusesWords ws m → IsRefusedFront room m u
words_refused u used room ws m inside small c lone refused =
    let parts = within_parts u room used inside in
    let front = take used (take room u) in
    let behind = drop used (take room u) ++ drop room u in
    record {
      some = omega (arith, ap length parts.0, length-append front behind, loadings.some_text front ws c);
      past = λ opened. absurd (lone_not_open u front behind ws c lone parts.0 opened);
      stuck = λ g n more after good applied few q. other g n more after good applied q;
      first = λ g after good few q. of_one g (one_of g [] after good (append-nil u ∙ q));
    }
  where
    one_of : (g : List Effect) (more after : List ℕ) → IsGoodGroup g → u ++ more ≡ group_text g ++ after → IsOne (take used (take room u)) g
    one_of g more after good q =
        let behind = drop used (take room u) ++ drop room u in
        let whole : take used (take room u) ++ (behind ++ more) ≡ group_text g ++ after =
        sym (append_assoc (take used (take room u)) behind more) ∙ (ap (λ (l : List ℕ). l ++ more) (sym (within_parts u room used inside).0) ∙ q) in
        lone_group (take used (take room u)) (behind ++ more) after ws g c lone good whole

    not_done : (g : List Effect) (one : IsOne (take used (take room u)) g) (n : Dataset) → apply one.effect m ≡ Some n → ⊥
    not_done g one n applied =
        let short : length (take used (take room u)) < 2 ^ 64 = omega (arith, small, length-take-le used (take room u) inside) in
        let spelled = words_are one.effect (take used (take room u)) ws [] [] one.good short c (ap (λ (l : List ℕ). l ++ []) one.is_text) in
        refused one.effect n (one.good.spelled, spelled) applied

    none_of : (o : Option Dataset) → ((n : Dataset) → o ≡ Some n → ⊥) → o ≡ None
    none_of None h = refl
    none_of (Some n) h = absurd (h n refl)

    of_one : (g : List Effect) → IsOne (take used (take room u)) g → IsRefused g m
    of_one g one = subst (λ (xs : List Effect). IsRefused xs m) (sym one.alone) (none_of (apply one.effect m) (not_done g one))

    other : (g : List Effect) (n : Dataset) (more after : List ℕ) → IsGoodGroup g → apply_all g m ≡ Some n → u ++ more ≡ group_text g ++ after → ⊥
    other g n more after good applied q =
        let one = one_of g more after good q in
        let done : apply_all (one.effect ∷ []) m ≡ Some n = subst (λ (xs : List Effect). apply_all xs m ≡ Some n) one.alone applied in
        let step = loadings.then_some (apply one.effect m) (apply_all []) n done in
        not_done g one step.0 step.1.0

-- ---- what is found

-- a command text that isn't whole
pub waits_front : (u : List ℕ) (room : ℕ) (m : Dataset) (r : Result (Option ℕ) FollowFault) (out : List ℕ) → IsOpen (take room u) → WaitsWithin u room r → AppliesFront u room m r m out out
waits_front u room m (Ok None) out opened h = (subst IsOpen (take_all room u h) opened, (refl, refl))
waits_front u room m (Ok (Some used)) out opened h = absurd h
waits_front u room m (Err fault.BadLine) out opened h = absurd h
waits_front u room m (Err fault.Refused) out opened h = absurd h
waits_front u room m (Err fault.Undecodable) out opened h = (long_refused u room m opened h, (refl, refl))
waits_front u room m (Err fault.Memory) out opened h = absurd h
waits_front u room m (Err fault.Spent) out opened h = absurd h
waits_front u room m (Err fault.Torn) out opened h = absurd h

-- .. where an effect that is a group of its own isn't whole
pub open_waits : (u : List ℕ) (room : ℕ) (m n : Dataset) (s : Single) (r : Result (Option ℕ) FollowFault) (before after : List ℕ) → s ≡ single.Open → AppliesSingle u room m s n before after → WaitsWithin u room r
    → AppliesFront u room m r n before after
open_waits u room m n s r before after is h waits =
    let opened = subst (λ (x : Single). AppliesSingle u room m x n before after) is h in
    subst (λ (d : Dataset). AppliesFront u room m r d before after) (sym opened.1.0)
    (subst (λ (out : List ℕ). AppliesFront u room m r m before out) (sym opened.1.1) (waits_front u room m r before opened.0 waits))

pub more_open : (front : List ℕ) (found : Scan) → found ≡ scan.More → ReadsCommand commands front found → IsOpen front
more_open front found is h = open_start front (subst (λ (s : Scan). ReadsCommand commands front s) is h)

pub doomed_refused : (u : List ℕ) (room : ℕ) (m : Dataset) (found : Scan) (f : Fault) → found ≡ scan.Bad f → ReadsCommand commands (take room u) found → IsRefusedFront room m u
doomed_refused u room m found f is h =
    let fails : Fails (IsCommandText commands) (HasCommandFault commands f) (take room u) = subst (λ (s : Scan). ReadsCommand commands (take room u) s) is h in
    bad_refused u room m (doomed_start (take room u) (fails_doomed (IsCommandText commands) (HasCommandFault commands f) (take room u) fails))

-- a group at the front of so many bytes is at the front of all
first_of : (u : List ℕ) (room used : ℕ) (es : List Effect) → IsFirstGroup (take room u) es used → IsFirstGroup u es used
first_of u room used es first =
    let cut = few_taken room u in
    record {
      within = omega (arith, first.within, cut.1);
      good = first.good;
      is_text = sym (two_fronts room used u (omega (arith, first.within, cut.0))) ∙ first.is_text;
    }

first_within : (u : List ℕ) (room used : ℕ) (es : List Effect) → IsFirstGroup (take room u) es used → used ≤ room
first_within u room used es first = let cut = few_taken room u in omega (arith, first.within, cut.0)

-- whether a frame's effects can be applied isn't known before they are read
pub frame_lacks : (u : List ℕ) (room : ℕ) (m : Dataset) → HasFrame u room → LacksAt u room m
frame_lacks u room m frame = record { at = frame.at; cause = framed frame.begins }

-- a whole group stands in front, which is applied or isn't
pub effects_in_front : (u : List ℕ) (room used : ℕ) (es : List Effect) (m n : Dataset) (r : Result (Option ℕ) FollowFault) (before after : List ℕ) → HasFrame u room → IsFirstGroup (take room u) es used
    → AppliesEffects (take used u) es m r n before after → AppliesFront u room m r n before after
effects_in_front u room used es m n (Ok None) before after some first h = absurd h
effects_in_front u room used es m n (Ok (Some k)) before after some first h =
    let all = first_of u room used es first in
    let size : k ≡ used = h.0 ∙ length-take-le used u all.within in (
      record { group = es; first = subst (λ x. IsFirstGroup u es x) (sym size) all; within = omega (arith, size, first_within u room used es first); applied = h.1.0 },
      h.1.1 ∙ ap (λ x. before ++ take x u) (sym size),
    )
effects_in_front u room used es m n (Err fault.BadLine) before after some first h = absurd h
effects_in_front u room used es m n (Err fault.Refused) before after some first h = absurd h
effects_in_front u room used es m n (Err fault.Undecodable) before after some first h = (group_refused u room used m es first h.0, h.1)
effects_in_front u room used es m n (Err fault.Memory) before after some first h = (frame_lacks u room m some, h.1)
effects_in_front u room used es m n (Err fault.Spent) before after some first h =
    (record { used = used; group = es; first = first_of u room used es first; within = first_within u room used es first; begun = h.0.0; heavy = h.0.1.0; emptied = h.0.1.1 }, h.1)
effects_in_front u room used es m n (Err fault.Torn) before after some first h =
    (record { used = used; group = es; first = first_of u room used es first; within = first_within u room used es first; torn = h.0 }, h.1)

one_applied : (e : Effect) (m n : Dataset) → apply e m ≡ Some n → apply_all (e ∷ []) m ≡ Some n
one_applied e m n h = ap (option_and_then Some) h

not_none : (e : Effect) (m n : Dataset) → apply e m ≡ Some n → apply e m ≡ None → ⊥
not_none e m n some none = let wrong : None ≡ Some n = sym none ∙ some in cc

-- the effect with a command's words is a group of its own
alone : (u : List ℕ) (used room : ℕ) (ws : List (List ℕ)) (e : Effect) (m n : Dataset) → used ≤ length (take room u) → IsCommand commands (take used (take room u)) ws → apply e m ≡ Some n → words e ≡ ws
    → IsFirstGroup (take room u) (e ∷ []) used
alone u used room ws e m n inside c applied same =
    let p = possible e m n applied in
    record {
      within = inside;
      good = record {
        group = refl;
        good = All-cons IsGoodEffect e [] (record { spelled = p.0; fits = p.1; short = short_of_words e ws (take used (take room u)) c same }) (All-nil IsGoodEffect);
      };
      is_text = sym (text_of_words e ws (take used (take room u)) c same);
    }

-- the command text with these words
abbrev command_at : (u : List ℕ) (used room : ℕ) (ws : List (List ℕ)) → used ≤ length (take room u) → IsCommand commands (take used (take room u)) ws → HasCommand u room
command_at u used room ws inside c = loadings.lacks u room (record { words = ws; used = used; inside = inside; command = c })

-- a whole command text stands in front that begins no frame, whose words are applied or aren't
pub text_in_front : (u : List ℕ) (used room : ℕ) (ws : List (List ℕ)) (m n : Dataset) (r : Result (Option ℕ) FollowFault) (before after : List ℕ) → used ≤ length (take room u) → used < 2 ^ 64
    → IsCommand commands (take used (take room u)) ws → IsLone ws → AppliesText (take used (take room u)) ws m r n before after → AppliesFront u room m r n before after
text_in_front u used room ws m n (Ok None) before after inside small c lone h = absurd h
text_in_front u used room ws m n (Ok (Some k)) before after inside small c lone h =
    let cut = few_taken room u in
    let size : k ≡ used = h.0 ∙ length-take-le used (take room u) inside in
    let front : take used (take room u) ≡ take k u = two_fronts room used u (omega (arith, inside, cut.0)) ∙ ap (λ (x : ℕ). take x u) (sym size) in
    let d = h.1.0 in
    let first = alone u used room ws d.effect m n inside c d.applied d.spelled.1 in (
      record {
        group = d.effect ∷ [];
        first = subst (λ x. IsFirstGroup u (d.effect ∷ []) x) (sym size) (first_of u room used (d.effect ∷ []) first);
        within = omega (arith, size, inside, cut.0);
        applied = one_applied d.effect m n d.applied;
      },
      h.1.1 ∙ ap (λ (l : List ℕ). before ++ l) front,
    )
text_in_front u used room ws m n (Err fault.BadLine) before after inside small c lone h = absurd h
text_in_front u used room ws m n (Err fault.Refused) before after inside small c lone h = absurd h
text_in_front u used room ws m n (Err fault.Undecodable) before after inside small c lone h = (words_refused u used room ws m inside small c lone h.0, h.1)
text_in_front u used room ws m n (Err fault.Memory) before after inside small c lone h = (record { at = command_at u used room ws inside c; cause = h.0 }, h.1)
text_in_front u used room ws m n (Err fault.Spent) before after inside small c lone h =
    let s = h.0 in let d = s.does in
    let first = alone u used room ws d.effect m s.can inside c d.applied d.spelled.1 in (
      record {
        used = used;
        group = d.effect ∷ [];
        first = first_of u room used (d.effect ∷ []) first;
        within = first_within u room used (d.effect ∷ []) first;
        begun = λ none. not_none d.effect m s.can d.applied none;
        heavy = λ all. s.heavy all.0;
        emptied = s.emptied;
      },
      h.1,
    )
text_in_front u used room ws m n (Err fault.Torn) before after inside small c lone h = absurd h

-- .. or that begins one
pub words_in_front : (u : List ℕ) (used room : ℕ) (ws : List (List ℕ)) (m n : Dataset) (s : Single) (before after : List ℕ) → used ≤ length (take room u) → used < 2 ^ 64
    → IsCommand commands (take used (take room u)) ws → AppliesWords (take used (take room u)) ws m s n before after → AppliesSingle u room m s n before after
words_in_front u used room ws m n (single.Told result) before after inside small c h = text_in_front u used room ws m n result before after inside small c h.0 h.1
words_in_front u used room ws m n single.Open before after inside small c h = absurd h
words_in_front u used room ws m n single.Framed before after inside small c h = (record { at = command_at u used room ws inside c; begins = h.0 }, h.1)

-- ---- what is told

-- where memory is lacking before an effect
pub effect_lacks : (front : List ℕ) (e : Effect) (m : Dataset) (f : FollowFault) (out : List ℕ) → f ≡ lack_of (apply e m) → AppliesEffect front e m (Err f) m out out
effect_lacks front e m f out is = subst (λ (x : FollowFault). AppliesEffect front e m (Err x) m out out) (sym is) (by (apply e m) refl)
  where
    by : (o : Option Dataset) → o ≡ apply e m → AppliesEffect front e m (Err (lack_of o)) m out out
    by None at = (sym at, (refl, refl))
    by (Some n) at = (not_none e m n (sym at), (refl, refl))

-- .. before a group
pub group_lacks : (front : List ℕ) (es : List Effect) (m : Dataset) (e : Effect) (f : FollowFault) (out : List ℕ) → IsGroup es → e ≡ get_or es 0 e → f ≡ lack_of (apply e m) → AppliesEffects front es m (Err f) m out out
group_lacks front [] m e f out group at is = no_empty group
group_lacks front (x ∷ es) m e f out group at is = subst (λ (y : FollowFault). AppliesEffects front (x ∷ es) m (Err y) m out out) (sym is) (by (apply e m) (ap (λ y. apply y m) at))
  where
    by : (o : Option Dataset) → o ≡ apply x m → AppliesEffects front (x ∷ es) m (Err (lack_of o)) m out out
    by None none = (sym none, (refl, refl))
    by (Some n) some = (not_none x m n (sym some), (refl, refl))

some_made : (o : Option Dataset) → (o ≡ None → ⊥) → (n : Dataset) × (o ≡ Some n)
some_made None some = absurd (some refl)
some_made (Some n) some = (n, refl)

-- the effect with these words was applied or wasn't
pub effect_of_words : (front : List ℕ) (ws : List (List ℕ)) (e : Effect) (m n : Dataset) (r : Result (Option ℕ) FollowFault) (before after : List ℕ) → IsSpelled ws e → FindsEach ws (Some e) → AppliesEffect front e m r n before after
    → AppliesText front ws m r n before after
effect_of_words front ws e m n (Ok None) before after spelled each h = absurd h
effect_of_words front ws e m n (Ok (Some k)) before after spelled each h = (h.0, (record { effect = e; spelled = spelled; applied = h.1.0 }, h.1.1))
effect_of_words front ws e m n (Err fault.BadLine) before after spelled each h = absurd h
effect_of_words front ws e m n (Err fault.Refused) before after spelled each h = absurd h
effect_of_words front ws e m n (Err fault.Undecodable) before after spelled each h = ((words_tried e ws m m tried.Refused (refl, h.0) spelled each).1, h.1)
effect_of_words front ws e m n (Err fault.Memory) before after spelled each h =
    let made = some_made (apply e m) h.0 in
    (can (made.0, record { effect = e; spelled = spelled; applied = made.1 }), h.1)
effect_of_words front ws e m n (Err fault.Spent) before after spelled each h = (words_tried e ws m n tried.Spent h.0 spelled each, h.1)
effect_of_words front ws e m n (Err fault.Torn) before after spelled each h = absurd h
