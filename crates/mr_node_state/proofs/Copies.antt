-- The text of a copy that is kept.
use Rattle.std.proofs.Common.{◌≡◌, ℕ, List, IfSome, Option, Some, subst}
use Rattle.mr_keyspace.specs.Dataset.{Dataset}
use Rattle.mr_node_state.specs.Copies.{IsCopy}

-- what holds of what an option has
pub holds_of : {A : Type 0} (P : A → Type 0) (o : Option A) (x : A) → o ≡ Some x → IfSome o P → P x
holds_of P o x is holds = subst (λ z. IfSome z P) is holds

-- a copy, by other words for what it is of
pub copy_by : (i j : List ℕ) (n k : ℕ) (m l : Dataset) (s t : List ℕ) → i ≡ j → n ≡ k → m ≡ l → s ≡ t → IsCopy i n m s → IsCopy j k l t
copy_by i j n k m l s t e f g h c = subst (λ z. IsCopy j k l z) h (subst (λ z. IsCopy j k z s) g (subst (λ z. IsCopy j z m s) f (subst (λ z. IsCopy z n m s) e c)))
