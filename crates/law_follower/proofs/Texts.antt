-- Texts of groups, one after another, and beginnings of them.
use Rattle.std.proofs.Common.{◌≡◌, ◌+◌, inl, inr, ℕ, List, [], ◌∷◌, ◌++◌, length, All, Option, Some, None, refl, sym, ap, ◌∙◌, arith, append_assoc, length-append}
use Rattle.std.specs.Option.{option_and_then}
use Rattle.std.proofs.lemmas.Bool.{cases_lt}
use Rattle.std.proofs.lemmas.List.Concat.{flat_map-append}
use Rattle.std.proofs.lemmas.List.Elements.{All-head, All-tail}
use Rattle.mr_effect.specs.declared.effect.Effect.{Effect}
use Rattle.mr_keyspace.specs.Dataset.{Dataset}
use Rattle.mr_data.specs.Meaning.{apply_all}
use Rattle.mr_groups.specs.Groups.{IsGoodGroup, group_text, group_texts}
use Rattle.mr_groups.specs.Reading.{IsOpen}
use Rattle.mr_groups.specs.Folding.{apply_groups}
use Rattle.mr_groups.proofs.Apart.{one_group}
use Rattle.mr_groups.proofs.Runs.{some_text}
use Rattle.mr_follower.specs.Following.{IsStream}
use Rattle.mr_follower.proofs.Loadings.{split_longer}
use Rattle.law_follower.specs.Streaming.{HasNothingWhole, IsTorn}

-- ---- groups that can be applied
then_groups : (o : Option Dataset) (gs hs : List (List Effect)) → ((m : Dataset) → apply_groups (gs ++ hs) m ≡ option_and_then (apply_groups hs) (apply_groups gs m))
    → option_and_then (apply_groups (gs ++ hs)) o ≡ option_and_then (apply_groups hs) (option_and_then (apply_groups gs) o)
then_groups None gs hs h = refl
then_groups (Some m) gs hs h = h m

pub applied_append : (gs hs : List (List Effect)) (m : Dataset) → apply_groups (gs ++ hs) m ≡ option_and_then (apply_groups hs) (apply_groups gs m)
applied_append [] hs m = refl
applied_append (g ∷ gs) hs m = then_groups (apply_all g m) gs hs (applied_append gs hs)

pub all_behind : (gs hs : List (List Effect)) → All IsGoodGroup (gs ++ hs) → All IsGoodGroup hs
all_behind [] hs h = h
all_behind (g ∷ gs) hs h = all_behind gs hs (All-tail IsGoodGroup g (gs ++ hs) h)

-- what is left of a stream behind the first of its groups
pub stream_behind : (done left : List (List Effect)) (m n : Dataset) (offset : ℕ) → IsStream (done ++ left) m offset → apply_groups done m ≡ Some n → IsStream left n (offset + length (group_texts done))
stream_behind done left m n offset s applied =
    let few = s.within in
    let sizes = ap length (flat_map-append group_text done left) in
    record {
      last = s.last;
      applied = ap (option_and_then (apply_groups left)) (sym applied) ∙ (sym (applied_append done left m) ∙ s.applied);
      good = all_behind done left s.good;
      within = omega (arith, few, sizes, length-append (group_texts done) (group_texts left));
    }

-- ---- their texts
no_text : {P : Type 0} (g : List Effect) (x : List ℕ) → IsGoodGroup g → [] ≡ group_text g ++ x → P
no_text g x good q = absurd (omega (arith, some_text g good, ap length q, length-append (group_text g) x))

-- groups whose texts come first are the first
pub first_are : (done gs : List (List Effect)) (more : List ℕ) → All IsGoodGroup done → All IsGoodGroup gs → group_texts gs ≡ group_texts done ++ more → (left : List (List Effect)) × (gs ≡ done ++ left) × (group_texts left ≡ more)
first_are [] gs more g h e = (gs, refl, e)
first_are (d ∷ done) [] more g h e = no_text d (group_texts done ++ more) (All-head IsGoodGroup d done g) (e ∙ append_assoc (group_text d) (group_texts done) more)
first_are (d ∷ done) (e ∷ gs) more g h q =
    let a = All-head IsGoodGroup d done g in let b = All-head IsGoodGroup e gs h in
    let both = one_group e d (group_texts gs) (group_texts done ++ more) b a (q ∙ append_assoc (group_text d) (group_texts done) more) in
    let r = first_are done gs more (All-tail IsGoodGroup d done g) (All-tail IsGoodGroup e gs h) both.1 in
    (r.0, (λ i. both.0 i ∷ r.1 i), r.2)

-- ---- nothing whole
pub nothing_whole : (u : List ℕ) → IsOpen u → HasNothingWhole u
nothing_whole u begun = record { begun = begun; none = begun.none }

no_front : (xs ys : List ℕ) → [] ≡ xs ++ ys → xs ≡ []
no_front [] ys e = refl
no_front (x ∷ xs) ys e = absurd (cc)

pub torn : (left : List (List Effect)) (u later : List ℕ) → All IsGoodGroup left → group_texts left ≡ u ++ later → HasNothingWhole u → IsTorn left u
torn [] u later good q h = no_front u later q
torn (g ∷ gs) u later good q h = elim (cases_lt (length u) (length (group_text g))) [
  | inl less ↦
      let r = split_longer (group_text g) (group_texts gs) u later q (omega (arith, less)) in
      let whole = length-append u r.0 in
      (r.0, (λ none. omega (arith, less, ap length none, whole, ap length r.1.0)), r.1.0)
  | inr all ↦
      let r = split_longer u later (group_text g) (group_texts gs) (sym q) all in
      absurd (h.none (record { group = g; good = All-head IsGoodGroup g gs good; behind = r.0; is = r.1.0 }))
]
