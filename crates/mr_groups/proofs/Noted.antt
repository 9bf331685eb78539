-- What a note between groups changes: nothing but how much is read.
use Rattle.std.proofs.Common.{◌≡◌, ℕ, ◌+◌, ◌-◌, ◌≤◌, List, ◌∷◌, ◌++◌, ◌↔◌, inl, inr, length, take, drop, IsTrue, refl, sym, ap, subst, ◌∙◌, append_assoc, arith, All}
use Rattle.std.specs.List.{list_all}
use Rattle.std.specs.FinMap.{empty}
use Rattle.std.proofs.Math.Seq.{take-append-add}
use Rattle.std.proofs.lemmas.Bool.{cases_lt}
use Rattle.std.proofs.lemmas.List.{length-append, take-append-drop, take_at}
use Rattle.mr_effect.specs.Spelling.{texts}
use Rattle.mr_effect.specs.declared.effect.Effect.{Effect}
use Rattle.mr_keyspace.specs.Dataset.{Dataset}
use Rattle.mr_groups.specs.Effects.{IsGoodEffect}
use Rattle.mr_groups.specs.Groups.{can_join, multi}
use Rattle.mr_groups.specs.Reading.{IsBad}
use Rattle.mr_groups.specs.Notes.{mark, IsNoteLine, note_text}
use Rattle.mr_groups.specs.Folding.{MakesByGroups, LoadsGroups}
use Rattle.mr_groups.proofs.Marks.{doomed_mark}
use Rattle.mr_groups.proofs.Openings.{doomed_inside}
use Rattle.mr_groups.proofs.Runs.{note_leads}
use Rattle.mr_groups.proofs.Going.{goes_further, leads_behind}

module _ (front behind line : List ℕ) (m : Dataset) (made : MakesByGroups front m) (good : IsNoteLine line) where
  with_note : (n : Dataset) → MakesByGroups (front ++ behind) n → MakesByGroups (front ++ (note_text line ++ behind)) n
  with_note n whole =
      goes_further front (note_text line ++ behind) empty m n made
      (goes_further (note_text line) behind m m n (note_leads line m good) (leads_behind front behind empty m n made whole))

  without_note : (n : Dataset) → MakesByGroups (front ++ (note_text line ++ behind)) n → MakesByGroups (front ++ behind) n
  without_note n whole =
      goes_further front behind empty m n made
      (leads_behind (note_text line) behind m m n (note_leads line m good) (leads_behind front (note_text line ++ behind) empty m n made whole))

pub passed : (front behind line : List ℕ) (m n : Dataset) → MakesByGroups front m → IsNoteLine line → MakesByGroups (front ++ (note_text line ++ behind)) n ↔ MakesByGroups (front ++ behind) n
passed front behind line m n made good = (without_note front behind line m made good n, with_note front behind line m made good n)

-- ---- how much is read

-- the first bytes of some, of others and of yet others one after another
front_of : (a b c : List ℕ) (k : ℕ) → take (length a + (length b + k)) (a ++ (b ++ c)) ≡ a ++ (b ++ take k c)
front_of a b c k = take-append-add a (b ++ c) (length b + k) ∙ ap (λ (t : List ℕ). a ++ t) (take-append-add b c k)

no_longer : (front behind line : List ℕ) (m n : Dataset) (used : ℕ) → MakesByGroups front m → IsNoteLine line → LoadsGroups (front ++ behind) used n → (other more : List ℕ) (o : Dataset)
    → front ++ (note_text line ++ behind) ≡ other ++ more → MakesByGroups other o → length other ≤ length (note_text line) + used
no_longer front behind line m n used made good loads other more o is whole = elim (cases_lt (length other) (length front + length (note_text line))) [
  | inl less ↦ omega (arith, less, loads.longest front behind m refl made)
  | inr least ↦
      let j = length other - (length front + length (note_text line)) in
      let long : length other ≡ length front + (length (note_text line) + j) = omega (arith, least) in
      let other_is : other ≡ front ++ (note_text line ++ take j behind) =
      sym (take_at other more (length other) refl) ∙ (ap (take (length other)) (sym is) ∙ (ap (λ k. take k (front ++ (note_text line ++ behind))) long ∙ front_of front (note_text line) behind j)) in
      let shorter = without_note front (take j behind) line m made good o (subst (λ (t : List ℕ). MakesByGroups t o) other_is whole) in
      let cut : front ++ behind ≡ (front ++ take j behind) ++ drop j behind = ap (λ (t : List ℕ). front ++ t) (sym (take-append-drop j behind)) ∙ sym (append_assoc front (take j behind) (drop j behind)) in
      let most = loads.longest (front ++ take j behind) (drop j behind) o cut shorter in
      omega (arith, most, ap length other_is, length-append front (take j behind), length-append front (note_text line ++ take j behind), length-append (note_text line) (take j behind))
]

pub counted : (front behind line : List ℕ) (m n : Dataset) (used : ℕ) → MakesByGroups front m → IsNoteLine line → LoadsGroups (front ++ behind) used n
    → LoadsGroups (front ++ (note_text line ++ behind)) (length (note_text line) + used) n
counted front behind line m n used made good loads =
    let least : length front ≤ used = loads.longest front behind m refl made in
    let k = used - length front in
    let same : used ≡ length front + k = omega (arith, least) in
    let more : length (note_text line) + used ≡ length front + (length (note_text line) + k) = omega (arith, least) in
    let before : take used (front ++ behind) ≡ front ++ take k behind = ap (λ i. take i (front ++ behind)) same ∙ take-append-add front behind k in
    let after : take (length (note_text line) + used) (front ++ (note_text line ++ behind)) ≡ front ++ (note_text line ++ take k behind) =
    ap (λ i. take i (front ++ (note_text line ++ behind))) more ∙ front_of front (note_text line) behind k in
    record {
      within = omega (arith, loads.within, length-append front behind, length-append front (note_text line ++ behind), length-append (note_text line) behind);
      made = subst (λ (t : List ℕ). MakesByGroups t n) (sym after) (with_note front (take k behind) line m made good n (subst (λ (t : List ℕ). MakesByGroups t n) before loads.made));
      longest = no_longer front behind line m n used made good loads;
    }

-- ---- within a frame

pub not_inside : (es : List Effect) (more : List ℕ) → All IsGoodEffect es → IsTrue (list_all can_join es) → IsBad (multi ++ (texts es ++ mark ∷ more))
not_inside es more good join = doomed_inside (multi ++ (texts es ++ mark ∷ more)) es (mark ∷ more) (record { is = refl; good = good; join = join }) (doomed_mark more)
