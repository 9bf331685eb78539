-- Line feeds in bytes that were read up to one.
use Rattle.std.proofs.Common.{◌≡◌, ◌∙◌, ℕ, suc, List, [], ◌∷◌, ◌++◌, ◌==◌, ◌-◌, ◌+◌, Option, None, Some, true, false, cond, length, take, drop, sym, ap, refl, subst, arith, length-append, length-take, get_or-take, take_all, eqb-true, inl, inr}
use Rattle.std.specs.Prelude.{IfSome}
use Rattle.std.specs.Io.{StopsAt, appended_bytes}
use Rattle.std.specs.Io.BufRead.{take_through, drop_through, DropsThrough}
use Rattle.std.specs.Io.KnownBytes.{Consumes, IsAtEnd}
use Rattle.std.proofs.Math.ListN.{get_or}
use Rattle.std.proofs.Math.Seq.{take-append_seam, take-suc}
use Rattle.std.proofs.Math.Nat.{eq-or-lt_of_le}
use Rattle.mr_trio_script.specs.Inputs.{EndsAs, HasNoFeed, IsFed, IsRest, Took}
use Rattle.mr_trio_script.specs.declared.taking.NextLine.{NextLine}
use Rattle.mr_trio_script.specs.declared.taking.NextLine.TheVariants.{Line, End}

-- where no line feed comes, nothing is left behind what is taken up to one
nothing : (xs : List ℕ) → EndsAs End (take_through 10 xs) → drop_through 10 xs ≡ []
nothing [] h = refl
nothing (x ∷ xs) h = elim (x == 10) as (λ b. x == 10 ≡ b → EndsAs End (cond b (x ∷ []) (x ∷ take_through 10 xs)) → cond b xs (drop_through 10 xs) ≡ []) [
  | true ↦ λ e h. absurd (h [] (ap (λ y. y ∷ []) (eqb-true x 10 e)))
  | false ↦ λ e h. nothing xs (λ text is. h (x ∷ text) (ap (λ ys. x ∷ ys) is))
] refl h

last_is : (xs : List ℕ) (k d : ℕ) → k + 1 ≡ length xs → xs ≡ take k xs ++ get_or xs k d ∷ []
last_is xs k d e = sym (take_all (suc k) xs (omega (arith, e))) ∙ take-suc xs k d (omega (arith, e))

no_feed : (xs : List ℕ) → StopsAt xs 10 → EndsAs End xs → HasNoFeed xs
no_feed xs stops ends = λ k d lt is. elim (eq-or-lt_of_le {n = k + 1} {m = length xs} (omega (arith, lt))) [
  | inl e ↦ ends (take k xs) (last_is xs k d e ∙ ap (λ b. take k xs ++ b ∷ []) is)
  | inr less ↦ stops k d (omega (arith, less, length-take (length xs - 1) xs)) (get_or-take (length xs - 1) xs k d (omega (arith, less)) ∙ is)
]

fed : (xs : List ℕ) → StopsAt xs 10 → EndsAs Line xs → IsFed xs
fed xs stops ends =
    let len : length xs - 1 ≡ length ends.0 = omega (arith, ap length ends.1, length-append ends.0 (10 ∷ [])) in
    let front : take (length xs - 1) xs ≡ ends.0 = ap (λ n. take n xs) len ∙ ap (take (length ends.0)) ends.1 ∙ take-append_seam ends.0 (10 ∷ []) in
    record { text = ends.0; is = ends.1; none = subst HasNoFeed front stops }

rest : (xs : List ℕ) (before after : Option (List ℕ)) → StopsAt xs 10 → EndsAs End xs → IfSome before (λ ys. xs ≡ take_through 10 ys) → DropsThrough before after 10 → IsRest xs before after
rest xs None after stops ends is drops = record { none = no_feed xs stops ends; at_end = tt }
rest xs (Some ys) after stops ends is drops = record {
  none = no_feed xs stops ends;
  at_end = subst IsAtEnd (sym drops) (nothing ys (subst (EndsAs End) is ends));
}

pub took : (next : NextLine) (old new : List ℕ) (before after : Option (List ℕ)) → old ≡ [] → EndsAs next new → StopsAt (appended_bytes old new) 10 → Consumes before after (appended_bytes old new)
    → IfSome before (λ ys. new ≡ old ++ take_through 10 ys) → DropsThrough before after 10 → Took next new before after
took Line old new before after none ends stops consumed is drops =
    let same : appended_bytes old new ≡ new = ap (λ (o : List ℕ). drop (length o) new) none in
    record { consumed = subst (Consumes before after) same consumed; is_next = fed new (subst (λ (xs : List ℕ). StopsAt xs 10) same stops) ends }
took End old new before after none ends stops consumed is drops =
    let same : appended_bytes old new ≡ new = ap (λ (o : List ℕ). drop (length o) new) none in
    let taken : IfSome before (λ ys. new ≡ take_through 10 ys) = subst (λ (o : List ℕ). IfSome before (λ ys. new ≡ o ++ take_through 10 ys)) none is in
    record { consumed = subst (Consumes before after) same consumed; is_next = rest new before after (subst (λ (xs : List ℕ). StopsAt xs 10) same stops) ends taken drops }
