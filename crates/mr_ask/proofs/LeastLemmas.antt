-- The fault that comes first is one of them, and none comes before it.
use Rattle.std.proofs.Common.{ℕ, suc, ◌<◌, ◌≤◌, ◌≡◌, List, [], ◌∷◌, length, Contains, true, false, Option, IfSome, IfErr, refl, sym, subst, arith}
use Rattle.std.specs.Prelude.{if◌then◌else◌, nat_lt, Result, Ok, Err}
use Rattle.std.specs.List.{AllByRecursion}
use Rattle.std.proofs.lemmas.Bool.Decides.{nat_tests}
use Rattle.std.proofs.lemmas.List.Elements.{All-from_recursion}
use Rattle.mr_arguments.specs.declared.fault.AskFault.{AskFault}
use Rattle.mr_ask.specs.Asks.{asked}
use Rattle.mr_arguments.specs.FaultOrder.{earlier, earlier_of_any, first_of, place_of, answered_fault, IsFirst}
use Rattle.mr_ask.specs.WordFaults.{word_faults}
use Rattle.mr_ask.proofs.FaultLemmas.{first_is_answered}
use Rattle.mr_ask.specs.declared.ask.Ask.{Ask}

abbrev NoneBefore : ℕ → List AskFault → Type 0
NoneBefore place faults = AllByRecursion (λ other. place ≤ place_of other) faults

abbrev Leads : List AskFault → AskFault → Type 0
Leads faults fault = Contains faults fault × NoneBefore (place_of fault) faults

lower : (m n : ℕ) → m ≤ n → (faults : List AskFault) → NoneBefore n faults → NoneBefore m faults
lower m n le [] h = tt
lower m n le (f ∷ faults) h = let first : n ≤ place_of f = h.0 in (omega (arith, le, first), lower m n le faults h.1)

further : (f : AskFault) (faults : List AskFault) (g : AskFault) → Contains faults g → Contains (f ∷ faults) g
further f faults g h = let below : h.0 < length faults = h.1 in (suc h.0, omega (arith, below), h.2)

at_head : (f : AskFault) (faults : List AskFault) → Contains (f ∷ faults) f
at_head f faults = (0, omega arith, refl)

one_more : (f g : AskFault) (faults : List AskFault) → Leads faults g → Leads (f ∷ faults) (earlier f g)
one_more f g faults h = elim (nat_lt (place_of g) (place_of f)) as (λ b. nat_lt (place_of g) (place_of f) ≡ b → Leads (f ∷ faults) (if b then g else f)) [
  | true ↦ λ t. (further f faults g h.0, (grind (arith, nat_tests, t), h.1))
  | false ↦ λ t. let le : place_of f ≤ place_of g = grind (arith, nat_tests, t) in (at_head f faults, (omega arith, lower (place_of f) (place_of g) le faults h.1))
] refl

leads : (faults : List AskFault) → IfSome (first_of faults) (Leads faults)
leads [] = tt
leads (f ∷ []) = (at_head f [], (omega arith, tt))
leads (f ∷ g ∷ faults) = one_more f (earlier_of_any g (first_of faults)) (g ∷ faults) (leads (g ∷ faults))

first_one : (r : Result Ask AskFault) (faults : List AskFault) → answered_fault r ≡ first_of faults → IfErr r (IsFirst faults)
first_one (Ok a) faults e = tt
first_one (Err f) faults e =
    let h = subst (λ (o : Option AskFault). IfSome o (Leads faults)) (sym e) (leads faults) in
    (h.0, All-from_recursion (λ other. place_of f ≤ place_of other) faults h.1)

pub answered_is_first : (words : List (List ℕ)) → IfErr (asked words) (IsFirst (word_faults words))
answered_is_first words = first_one (asked words) (word_faults words) (first_is_answered words)
