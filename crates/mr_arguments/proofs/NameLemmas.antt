-- A name is found among those that start as it does.
use Rattle.std.proofs.Common.{rules, arith, ℕ, ◌≡◌, ◌<◌, slice_index_or, List, [], ◌∷◌, length, Bool, true, false, cond, None, Some, refl, sym, ◌∙◌, ap, subst}
use Rattle.std.specs.Prelude.{find, filter, ◌↔◌, IsTrue}
use Rattle.std.specs.Str.{bytes_eq}
use Rattle.mr_bytes.proofs.Numbers.{same_bytes, equal_bytes}
use Rattle.mr_arguments.specs.Names.{lowered_byte, lowered, text_of, names, is_named, named}
use Rattle.mr_arguments.specs.Starting.{starts, starts_as}
use Rattle.mr_arguments.specs.declared.name.Name.{Name}
use Rattle.mr_arguments.specs.declared.name.Name.TheVariants.{Get}

-- what can't be found may be left out
find-filter : {A : Type 0} (p q : A → Bool) (xs : List A) → ((x : A) → p x ≡ true → q x ≡ true) → find p (filter q xs) ≡ find p xs
find-filter p q [] h = refl
find-filter p q (x ∷ xs) h = elim (q x) as (λ b. q x ≡ b → find p (cond b (x ∷ filter q xs) (filter q xs)) ≡ cond (p x) (Some x) (find p xs)) [
  | true ↦ λ t. ap (cond (p x) (Some x)) (find-filter p q xs h)
  | false ↦ λ t. find-filter p q xs h ∙ elim (p x) as (λ b. p x ≡ b → find p xs ≡ cond b (Some x) (find p xs)) [
    | true ↦ λ s. let both : true ≡ false = sym (h x s) ∙ t in cc
    | false ↦ λ s. refl
  ] refl
] refl

length-lowered : (word : List ℕ) → length (lowered word) ≡ length word
length-lowered [] = refl
length-lowered (c ∷ word) = ap (λ n. n) (search (rules, length-lowered word))

starts-itself : (first : ℕ) (rest : List ℕ) → starts (length (first ∷ rest)) (lowered_byte first) (lowered (first ∷ rest)) ≡ true
starts-itself first rest = let same : length (lowered (first ∷ rest)) ≡ length (first ∷ rest) = length-lowered (first ∷ rest) in search rules

of_its_start : (first : ℕ) (rest : List ℕ) (name : Name) → is_named (lowered (first ∷ rest)) name ≡ true → starts_as (length (first ∷ rest)) (lowered_byte first) name ≡ true
of_its_start first rest name h = subst (λ (t : List ℕ). starts (length (first ∷ rest)) (lowered_byte first) t ≡ true) (sym (same_bytes _ _ h)) (starts-itself first rest)

pub named_by_start : (word : List ℕ) (letter : ℕ) → 0 < length word → letter ≡ lowered_byte (slice_index_or word 0 0) → find (is_named (lowered word)) (filter (starts_as (length word) letter) names) ≡ named (lowered word)
unfolding named
named_by_start [] letter some same = cc
named_by_start (first ∷ rest) letter some same = ap (λ l. find (is_named (lowered (first ∷ rest))) (filter (starts_as (length (first ∷ rest)) l) names)) same ∙ find-filter (is_named (lowered (first ∷ rest))) _ names (of_its_start first rest)

pub named_empty : (word : List ℕ) → length word < 1 → None ≡ named (lowered word)
unfolding named
named_empty [] h = refl
named_empty (c ∷ word) h = let no : ⊥ = omega arith in absurd no

-- each name is found, so all of them stand in the list, and no two are the same
pub named_itself : (name : Name) → named (text_of name) ≡ Some name
unfolding named
named_itself Get = refl
named_itself _ = refl

-- what was found has the name
found : (w : List ℕ) (ns : List Name) (n : Name) → find (is_named w) ns ≡ Some n → w ≡ text_of n
found w [] n h = cc
found w (x ∷ ns) n h = elim (is_named w x) as (λ b. is_named w x ≡ b → cond b (Some x) (find (is_named w) ns) ≡ Some n → w ≡ text_of n) [
  | true ↦ λ t s. let same : x ≡ n = cc in sym (same_bytes _ _ t) ∙ ap text_of same
  | false ↦ λ t s. found w ns n s
] refl h

pub named_is : (w : List ℕ) (n : Name) → named w ≡ Some n → w ≡ text_of n
unfolding named
named_is w n h = found w names n h

-- names are written in lower case
pub text_lowered : (name : Name) → lowered (text_of name) ≡ text_of name
text_lowered Get = refl
text_lowered _ = refl

-- two words are the same without regard to case where the one in lower case is the other in lower case
same_lowered : (word text : List ℕ) (same : Bool) → lowered text ≡ text → (IsTrue same ↔ (lowered word ≡ lowered text)) → same ≡ bytes_eq text (lowered word)
same_lowered word text true low test = sym (subst (λ (ys : List ℕ). bytes_eq text ys ≡ true) (sym (test.0 refl ∙ low)) (equal_bytes text))
same_lowered word text false low test = elim (bytes_eq text (lowered word)) as (λ b. bytes_eq text (lowered word) ≡ b → false ≡ b) [
  | true ↦ λ s. let no : false ≡ true = test.1 (sym (same_bytes _ _ s) ∙ sym low) in cc
  | false ↦ λ s. refl
] refl

pub is_same : (name : Name) (word text : List ℕ) (same : Bool) → text ≡ text_of name → (IsTrue same ↔ (lowered word ≡ lowered text)) → same ≡ is_named (lowered word) name
is_same name word text same e test = same_lowered word text same (ap lowered e ∙ text_lowered name ∙ sym e) test ∙ ap (λ (t : List ℕ). bytes_eq t (lowered word)) e
