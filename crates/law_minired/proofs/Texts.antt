-- No group's text begins another's, and no snapshot another.
use Rattle.std.proofs.Common.{ℕ, List, [], ◌∷◌, ◌++◌, ◌≡◌, ◌≢◌, length, refl, ap, sym, ◌∙◌, subst, append_assoc, All}
use Rattle.std.proofs.lemmas.List.{append_cancel_left}
use Rattle.std.proofs.lemmas.List.Elements.{All-head, All-tail}
use Rattle.std.specs.FinMap.{empty}
use Rattle.std.proofs.lemmas.Option.{same_Some}
use Rattle.law_protocol.proofs.Histories.{same_length}
use Rattle.mr_effect.specs.Spelling.{text, texts}
use Rattle.mr_effect.specs.declared.effect.Effect.{Effect}
use Rattle.mr_effect.proofs.Texts.{one_text}
use Rattle.mr_keyspace.specs.Dataset.{Dataset}
use Rattle.mr_data.specs.Meaning.{apply_all}
use Rattle.mr_groups.specs.Groups.{IsGoodGroup, multi, group_text}
use Rattle.mr_groups.specs.Folding.{MakesByGroups}
use Rattle.mr_groups.proofs.Apart.{one_group}
use Rattle.mr_groups.proofs.Going.{made_once}
use Rattle.mr_peer_lines.specs.Lines.{size}
use Rattle.mr_groups.specs.Effects.{IsGoodEffect, Makes}
use Rattle.mr_groups.proofs.Leading.{few}
use Rattle.law_minired.specs.Snapshots.{IsSnapshot}
use Rattle.law_minired.proofs.Said.{same_said, line_some}

-- ---- groups
pub text_cut : (g h : List Effect) (x y : List ℕ) → IsGoodGroup g → IsGoodGroup h → group_text g ++ x ≡ group_text h ++ y → g ≡ h
text_cut g h x y p q e = (one_group g h x y p q e).0

-- no list of effects has an empty text, be it a group or not
pub text_some : (g : List Effect) → group_text g ≢ []
unfolding multi
text_some [] q = cc
text_some (e ∷ []) q = cc
text_some (e ∷ f ∷ g) q = cc

pub made_by_groups_is_one : (bytes : List ℕ) (m n : Dataset) → MakesByGroups bytes m → MakesByGroups bytes n → m ≡ n
made_by_groups_is_one = made_once

-- ---- the effects of a snapshot
both_are : (e f : Effect) (x y : List ℕ) → IsGoodEffect e → IsGoodEffect f → text e ++ x ≡ text f ++ y → (e ≡ f) × (x ≡ y)
both_are e f x y g h q = one_text e f x y g.spelled h.spelled g.fits h.fits (few e g.short) (few f h.short) q

no_text : {P : Type 0} (e : Effect) (x : List ℕ) → [] ≡ text e ++ x → P
no_text e x q = absurd (cc)

same_effects : (es fs : List Effect) → All IsGoodEffect es → All IsGoodEffect fs → texts es ≡ texts fs → es ≡ fs
same_effects [] [] g h q = refl
same_effects [] (f ∷ fs) g h q = no_text f (texts fs) q
same_effects (e ∷ es) [] g h q = no_text e (texts es) (sym q)
same_effects (e ∷ es) (f ∷ fs) g h q =
    let r = both_are e f (texts es) (texts fs) (All-head IsGoodEffect e es g) (All-head IsGoodEffect f fs h) q in
    let s = same_effects es fs (All-tail IsGoodEffect e es g) (All-tail IsGoodEffect f fs h) r.1 in
    ap (λ z. z ∷ es) r.0 ∙ ap (λ z. f ∷ z) s

made_is_one : (bytes : List ℕ) (m n : Dataset) → Makes bytes m → Makes bytes n → m ≡ n
made_is_one bytes m n p q =
    let s = same_effects p.effects q.effects p.good q.good (sym p.are_texts ∙ q.are_texts) in
    same_Some m n (sym p.applied ∙ (ap (λ z. apply_all z empty) s ∙ q.applied))

one_size : (n k : ℕ) → size n ≡ size k → n ≡ k
one_size n k e = cc

pub loads_cut : (s t : List ℕ) (m n : Dataset) (x y : List ℕ) → IsSnapshot s m → IsSnapshot t n → s ++ x ≡ t ++ y → (s ≡ t) × (m ≡ n)
loads_cut s t m n x y p q e =
    let c = p.commands in let d = q.commands in
    let whole : p.line ++ (c ++ x) ≡ q.line ++ (d ++ y) =
    sym (append_assoc p.line c x) ∙ (ap (λ z. z ++ x) (sym p.is) ∙ (e ∙ (ap (λ z. z ++ y) q.is ∙ append_assoc q.line d y))) in
    let lines = same_said p.line q.line (size (length c)) (size (length d)) (c ++ x) (d ++ y) p.says q.says whole in
    let behind = append_cancel_left q.line (c ++ x) (d ++ y) (ap (λ z. z ++ (c ++ x)) (sym lines.0) ∙ whole) in
    let same : c ≡ d = same_length c d x y (one_size (length c) (length d) lines.1) behind in
    (p.is ∙ ((λ i. lines.0 i ++ same i) ∙ sym q.is), made_is_one d m n (subst (λ z. Makes z m) same p.made) q.made)

pub loads_some : (t : List ℕ) (m : Dataset) → IsSnapshot t m → t ≢ []
loads_some t m p e = no_front p.line p.commands (line_some p.line (size (length p.commands)) p.says) (sym p.is ∙ e)
  where
    no_front : (l c : List ℕ) → l ≢ [] → l ++ c ≢ []
    no_front [] c h q = h refl
    no_front (b ∷ l) c h q = cc
