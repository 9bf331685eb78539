-- Options that stand side by side may change places.
use Rattle.std.proofs.Common.{◌≡◌, List, [], ◌∷◌, ◌++◌, Bool, true, false, Option, Some, None, refl, sym, ◌∙◌, ap}
use Rattle.std.specs.Prelude.{Result, Ok, Err, if◌then◌else◌}
use Rattle.std.specs.Option.{ok_or}
use Rattle.mr_arguments.specs.Parts.{with}
use Rattle.mr_arguments.specs.Options.{added}
use Rattle.mr_arguments.specs.declared.fault.AskFault.{AskFault}
use Rattle.mr_arguments.specs.declared.fault.AskFault.TheVariants.{Syntax}

pub with_joined : {A B C : Type 0} (r : Result A AskFault) (f : A → Result B AskFault) (g : B → Result C AskFault) → with r (λ a. with (f a) g) ≡ with (with r f) g
with_joined (Ok a) f g = refl
with_joined (Err e) f g = refl

pub with_same : {A B : Type 0} (r : Result A AskFault) (f g : A → Result B AskFault) → ((a : A) → f a ≡ g a) → with r f ≡ with r g
with_same (Ok a) f g h = h a
with_same (Err e) f g h = refl

pub exchanged : {A S : Type 0} (add : S → A → Result S AskFault) → ((s : S) (a b : A) → with (add s a) (λ t. add t b) ≡ with (add s b) (λ t. add t a))
    → (front back : List A) (a b : A) (s : S) → added add s (front ++ a ∷ b ∷ back) ≡ added add s (front ++ b ∷ a ∷ back)
exchanged add alike [] back a b s =
    with_joined (add s a) (λ t. add t b) (λ u. added add u back)
    ∙ ap (λ r. with r (λ u. added add u back)) (alike s a b)
    ∙ sym (with_joined (add s b) (λ t. add t a) (λ u. added add u back))
exchanged add alike (x ∷ front) back a b s = with_same (add s x) _ _ (exchanged add alike front back a b)

-- there is no other fault
unfoldable pub OnlySyntax : {A : Type 0} → Result A AskFault → Type 0
OnlySyntax (Ok a) = Unit {0}
OnlySyntax (Err fault) = fault ≡ Syntax

-- the second word is refused, whatever the first one says
pub second_refused : {A B : Type 0} (r : Result A AskFault) (f : AskFault) → OnlySyntax r → f ≡ Syntax → with {A = A} {B = B} r (λ a. Err f) ≡ Err f
unfolding OnlySyntax
second_refused (Ok a) f h e = refl
second_refused (Err g) f h e = ap (λ (x : AskFault). Err x) (h ∙ sym e)

-- words that are read one by one, as options that may change places
pub words_alike : {O S : Type 0} (f g : S → O → Result S AskFault) (r q : Result O AskFault)
    → ((s : S) (o : O) → OnlySyntax (f s o)) → ((s : S) (o : O) → OnlySyntax (g s o)) → OnlySyntax r → OnlySyntax q
    → ((s : S) (o p : O) → with (f s o) (λ t. g t p) ≡ with (g s p) (λ t. f t o))
    → (s : S) → with (with r (f s)) (λ t. with q (g t)) ≡ with (with q (g s)) (λ t. with r (f t))
unfolding OnlySyntax
words_alike f g (Ok o) (Ok p) one two h k alike s = alike s o p
words_alike f g (Ok o) (Err e) one two h k alike s = second_refused (f s o) e (one s o) k
words_alike f g (Err e) (Ok p) one two h k alike s = sym (second_refused (g s p) e (two s p) h)
words_alike f g (Err e) (Err d) one two h k alike s = ap (λ (x : AskFault). Err x) (h ∙ sym k)

-- two settings, of which either may be refused
pub two_alike : {S : Type 0} (x y : Bool) (u v both : S) (f g : S → Result S AskFault) → f u ≡ (if y then Err Syntax else Ok both) → g v ≡ (if x then Err Syntax else Ok both)
    → with (if x then Err Syntax else Ok u) f ≡ with (if y then Err Syntax else Ok v) g
two_alike true true u v both f g h k = refl
two_alike true false u v both f g h k = sym k
two_alike false true u v both f g h k = h
two_alike false false u v both f g h k = h ∙ sym k

-- one setting twice
pub twice_refused : {S : Type 0} (x : Bool) (u v : S) (f g : S → Result S AskFault) → f u ≡ Err Syntax → g v ≡ Err Syntax
    → with (if x then Err Syntax else Ok u) f ≡ with (if x then Err Syntax else Ok v) g
twice_refused true u v f g h k = refl
twice_refused false u v f g h k = h ∙ sym k

pub one_of_three : {A : Type 0} (a b c : Bool) (x y z : A) → OnlySyntax (if a then Ok x else (if b then Ok y else (if c then Ok z else Err Syntax)))
unfolding OnlySyntax
one_of_three true b c x y z = tt
one_of_three false true c x y z = tt
one_of_three false false true x y z = tt
one_of_three false false false x y z = refl

pub unless : {A : Type 0} (b : Bool) (x : A) → OnlySyntax (if b then Err Syntax else Ok x)
unfolding OnlySyntax
unless true x = refl
unless false x = tt

pub only_found : {A : Type 0} (o : Option A) → OnlySyntax (ok_or o Syntax)
unfolding OnlySyntax
only_found None = refl
only_found (Some a) = tt

pub only_with : {A B : Type 0} (r : Result A AskFault) (next : A → Result B AskFault) → OnlySyntax r → ((a : A) → OnlySyntax (next a)) → OnlySyntax (with r next)
unfolding OnlySyntax
only_with (Ok a) next h k = k a
only_with (Err f) next h k = h
