-- Heartbeats are left out.
use Rattle.std.proofs.Common.{◌≡◌, List, [], ◌∷◌, ◌++◌, true, false, All, Some, refl, sym, ap, subst, ◌∙◌}
use Rattle.std.specs.Prelude.{if◌then◌else◌}
use Rattle.std.specs.Option.{option_and_then}
use Rattle.std.proofs.lemmas.List.Elements.{All-cons, All-head, All-tail}
use Rattle.mr_effect.specs.declared.effect.Effect.{Effect}
use Rattle.mr_effect.specs.declared.effect.Effect.TheVariants as effect
use Rattle.mr_keyspace.specs.Dataset.{Dataset}
use Rattle.mr_keyspace.specs.Changes.{change}
use Rattle.mr_data.specs.Meaning.{apply, apply_all}
use Rattle.mr_groups.specs.Groups.{IsGoodGroup, singles}
use Rattle.mr_groups.specs.Folding.{apply_groups}
use Rattle.mr_groups.proofs.Runs.{first_done}
use Rattle.law_files.specs.Filing.{is_beat, but_beats, is_beat_group, groups_but_beats}

pub beat_is : (e : Effect) → is_beat e ≡ true → e ≡ effect.Ping
beat_is effect.Ping h = refl
beat_is _ h = absurd (cc)

-- a heartbeat changes nothing
ping_keeps : (m : Dataset) → apply effect.Ping m ≡ Some m
unfolding apply change
ping_keeps m = refl

some_is : (m n : Dataset) → Some m ≡ Some n → m ≡ n
some_is m n e = cc

-- ---- groups without any
pub beat_group_is : (g : List Effect) → is_beat_group g ≡ true → g ≡ effect.Ping ∷ []
beat_group_is [] h = absurd (cc)
beat_group_is (e ∷ []) h = ap (λ z. z ∷ []) (beat_is e h)
beat_group_is (e ∷ f ∷ es) h = absurd (cc)

group_keeps : (g : List Effect) (m n : Dataset) → is_beat_group g ≡ true → apply_all g m ≡ Some n → n ≡ m
group_keeps g m n is h = some_is n m (sym h ∙ (ap (λ (es : List Effect). apply_all es m) (beat_group_is g is) ∙ ap (option_and_then (apply_all [])) (ping_keeps m)))

-- without them groups lead to the same
pub apply_but : (gs : List (List Effect)) (m n : Dataset) → apply_groups gs m ≡ Some n → apply_groups (groups_but_beats gs) m ≡ Some n
apply_but [] m n h = h
apply_but (g ∷ gs) m n h =
    let t = first_done (apply_groups gs) (apply_all g m) n h in
    let rest = apply_but gs t.0 n t.2 in
    elim (is_beat_group g) as (λ b. is_beat_group g ≡ b → apply_groups (if b then groups_but_beats gs else g ∷ groups_but_beats gs) m ≡ Some n) [
      | true ↦ λ is. subst (λ k. apply_groups (groups_but_beats gs) k ≡ Some n) (group_keeps g m t.0 is t.1) rest
      | false ↦ λ is. ap (option_and_then (apply_groups (groups_but_beats gs))) t.1 ∙ rest
    ] refl

pub good_but : (gs : List (List Effect)) → All IsGoodGroup gs → All IsGoodGroup (groups_but_beats gs)
good_but [] good = good
good_but (g ∷ gs) good =
    let rest = good_but gs (All-tail IsGoodGroup g gs good) in
    elim (is_beat_group g) as (λ b. All IsGoodGroup (if b then groups_but_beats gs else g ∷ groups_but_beats gs)) [
      | true ↦ rest
      | false ↦ All-cons IsGoodGroup g (groups_but_beats gs) (All-head IsGoodGroup g gs good) rest
    ]

pub groups_append : (gs hs : List (List Effect)) → groups_but_beats (gs ++ hs) ≡ groups_but_beats gs ++ groups_but_beats hs
groups_append [] hs = refl
groups_append (g ∷ gs) hs =
    elim (is_beat_group g) as (λ b. (if b then groups_but_beats (gs ++ hs) else g ∷ groups_but_beats (gs ++ hs)) ≡ (if b then groups_but_beats gs else g ∷ groups_but_beats gs) ++ groups_but_beats hs) [
      | true ↦ groups_append gs hs
      | false ↦ ap (λ z. g ∷ z) (groups_append gs hs)
    ]

-- .. of effects, each alone, those without any
pub singles_but : (es : List Effect) → groups_but_beats (singles es) ≡ singles (but_beats es)
singles_but [] = refl
singles_but (e ∷ es) =
    elim (is_beat e) as (λ b. (if b then groups_but_beats (singles es) else (e ∷ []) ∷ groups_but_beats (singles es)) ≡ singles (if b then but_beats es else e ∷ but_beats es)) [
      | true ↦ singles_but es
      | false ↦ ap (λ z. (e ∷ []) ∷ z) (singles_but es)
    ]
