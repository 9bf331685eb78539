-- A word that is an argument is read as it.
use Rattle.std.proofs.Common.{ℕ, ℤ, pos, negsuc, ◌≡◌, List, [], ◌∷◌, map, Bool, true, false, Option, Some, None, refl, sym, ◌∙◌, ap, arith}
use Rattle.std.specs.Prelude.{int_le, int_lt, if◌then◌else◌, IsTrue, Result, Ok}
use Rattle.std.specs.Option.{ok_or}
use Rattle.std.specs.Fmt.{signed_decimal}
use Rattle.std.specs.List.{list_all}
use Rattle.std.specs.Str.{bytes_eq}
use Rattle.std.proofs.lemmas.Bool.Decides.{nat_tests}
use Rattle.mr_bytes.specs.Number.{is_i64, number_of}
use Rattle.mr_bytes.proofs.Numbers.{equal_bytes, number_is, number_text, number_of-signed_decimal}
use Rattle.mr_arguments.specs.Names.{lowered, named, text_of}
use Rattle.mr_arguments.specs.Pairing.{paired, unpaired, pairs_of}
use Rattle.mr_arguments.specs.Parts.{with, integer, not_below_0, count, offset}
use Rattle.mr_arguments.specs.Spelling.{Part, Word, Number, Keyword, Positive, Score, ScoreBound, IsPart, AreParts}
use Rattle.mr_arguments.proofs.NameLemmas.{named_itself}
use Rattle.mr_arguments.proofs.PairLemmas.{are_pairs-unpaired, paired-unpaired}
use Rattle.mr_arguments.proofs.PartLemmas.{number_part, part_of}
use Rattle.mr_arguments.specs.declared.name.Name.{Name}
use Rattle.mr_arguments.specs.declared.fault.AskFault.{AskFault}
use Rattle.mr_arguments.specs.declared.fault.AskFault.TheVariants.{Integer}
use Rattle.mr_arguments.specs.declared.fault.BadValue.{BadValue}
use Rattle.mr_arguments.specs.declared.fault.BadValue.TheVariants.{Negative, Offset}

-- what is read with an argument that is read
pub with_read : {A B : Type 0} (r : Result A AskFault) (a : A) (next : A → Result B AskFault) → r ≡ Ok a → with r next ≡ next a
with_read r a next h = ap (λ x. with x next) h

pub integer_is : (w : List ℕ) (n : ℤ) → IsTrue (is_i64 n) → w ≡ signed_decimal n → integer w ≡ Ok n
integer_is w n fits e = ap (λ (o : Option ℤ). ok_or o Integer) (number_is w n fits e)

natural_is : (w : List ℕ) (n : ℕ) (otherwise : BadValue) → IsTrue (is_i64 (pos n)) → w ≡ signed_decimal (pos n) → with (integer w) (not_below_0 otherwise) ≡ Ok n
natural_is w n otherwise fits e = with_read (integer w) (pos n) (not_below_0 otherwise) (integer_is w (pos n) fits e)

pub count_is : (w : List ℕ) (n : ℕ) → IsTrue (is_i64 (pos n)) → w ≡ signed_decimal (pos n) → count w ≡ Ok n
count_is w n fits e = natural_is w n Negative fits e

pub offset_is : (w : List ℕ) (n : ℕ) → IsTrue (is_i64 (pos n)) → w ≡ signed_decimal (pos n) → offset w ≡ Ok n
offset_is w n fits e = natural_is w n Offset fits e

-- an option word
pub keyword_is : (w text : List ℕ) → lowered w ≡ text → bytes_eq (lowered w) text ≡ true
keyword_is w text e = ap (λ (x : List ℕ). bytes_eq x text) e ∙ equal_bytes text

-- a name in any case
pub name_is : (w : List ℕ) (n : Name) → lowered w ≡ text_of n → named (lowered w) ≡ Some n
name_is w n e = ap named e ∙ named_itself n

-- words as they are
pub words_are : (ws xs : List (List ℕ)) → AreParts ws (map Word xs) → ws ≡ xs
words_are [] [] h = refl
words_are [] (x ∷ xs) h = absurd h
words_are (w ∷ ws) [] h = absurd h
words_are (w ∷ ws) (x ∷ xs) h = ap (λ (y : List ℕ). y ∷ ws) h.0 ∙ ap (λ (ys : List (List ℕ)). x ∷ ys) (words_are ws xs h.1)

-- the first of the words, and those behind it
pub first_part : (P : List (List ℕ) → Type 0) (p : Part) (ps : List Part) → ((w : List ℕ) (ws : List (List ℕ)) → IsPart w p → AreParts ws ps → P (w ∷ ws))
    → (ws : List (List ℕ)) → AreParts ws (p ∷ ps) → P ws
first_part P p ps next [] h = absurd h
first_part P p ps next (w ∷ ws) h = next w ws h.0 h.1

pub no_part : (P : List (List ℕ) → Type 0) → P [] → (ws : List (List ℕ)) → AreParts ws [] → P ws
no_part P end [] h = end
no_part P end (w ∷ ws) h = absurd h

-- as many words as arguments
pub one_part : (P : List (List ℕ) → Type 0) (p : Part) → ((a : List ℕ) → IsPart a p → P (a ∷ [])) → (ws : List (List ℕ)) → AreParts ws (p ∷ []) → P ws
one_part P p next = first_part P p [] (λ a rest is. no_part (λ xs. P (a ∷ xs)) (next a is) rest)

pub two_parts : (P : List (List ℕ) → Type 0) (p q : Part) → ((a b : List ℕ) → IsPart a p → IsPart b q → P (a ∷ b ∷ [])) → (ws : List (List ℕ)) → AreParts ws (p ∷ q ∷ []) → P ws
two_parts P p q next = first_part P p (q ∷ []) (λ a rest is. one_part (λ xs. P (a ∷ xs)) q (λ b. next a b is) rest)

pub three_parts : (P : List (List ℕ) → Type 0) (p q r : Part) → ((a b c : List ℕ) → IsPart a p → IsPart b q → IsPart c r → P (a ∷ b ∷ c ∷ []))
    → (ws : List (List ℕ)) → AreParts ws (p ∷ q ∷ r ∷ []) → P ws
three_parts P p q r next = first_part P p (q ∷ r ∷ []) (λ a rest is. two_parts (λ xs. P (a ∷ xs)) q r (λ b c. next a b c is) rest)

pub four_parts : (P : List (List ℕ) → Type 0) (p q r t : Part) → ((a b c d : List ℕ) → IsPart a p → IsPart b q → IsPart c r → IsPart d t → P (a ∷ b ∷ c ∷ d ∷ []))
    → (ws : List (List ℕ)) → AreParts ws (p ∷ q ∷ r ∷ t ∷ []) → P ws
four_parts P p q r t next = first_part P p (q ∷ r ∷ t ∷ []) (λ a rest is. three_parts (λ xs. P (a ∷ xs)) q r t (λ b c d. next a b c d is) rest)

pub two_first : (P : List (List ℕ) → Type 0) (p q : Part) (ps : List Part) → ((a b : List ℕ) (ws : List (List ℕ)) → IsPart a p → IsPart b q → AreParts ws ps → P (a ∷ b ∷ ws))
    → (ws : List (List ℕ)) → AreParts ws (p ∷ q ∷ ps) → P ws
two_first P p q ps next = first_part P p (q ∷ ps) (λ a rest is. first_part (λ xs. P (a ∷ xs)) q ps (λ b more ib. next a b more is ib) rest)

pub three_first : (P : List (List ℕ) → Type 0) (p q r : Part) (ps : List Part) → ((a b c : List ℕ) (ws : List (List ℕ)) → IsPart a p → IsPart b q → IsPart c r → AreParts ws ps → P (a ∷ b ∷ c ∷ ws))
    → (ws : List (List ℕ)) → AreParts ws (p ∷ q ∷ r ∷ ps) → P ws
three_first P p q r ps next = first_part P p (q ∷ r ∷ ps) (λ a rest is. two_first (λ xs. P (a ∷ xs)) q r ps (λ b c more ib ic. next a b c more is ib ic) rest)

-- a word as it is, or a number: one text alone
abbrev pub is_literal : Part → Bool
is_literal (Word w) = true
is_literal (Number n) = true
is_literal (Keyword w) = false
is_literal Positive = false
is_literal (Score n) = false
is_literal (ScoreBound b) = false

abbrev pub literal : Part → List ℕ
literal (Word w) = w
literal (Number n) = signed_decimal n
literal (Keyword w) = []
literal Positive = []
literal (Score n) = []
literal (ScoreBound b) = []

pub literals : (ws : List (List ℕ)) (ps : List Part) → list_all is_literal ps ≡ true → AreParts ws ps → ws ≡ map literal ps
literals [] [] l h = refl
literals [] (p ∷ ps) l h = absurd h
literals (w ∷ ws) [] l h = absurd h
literals (w ∷ ws) (Word x ∷ ps) l h = ap (λ (y : List ℕ). y ∷ ws) h.0 ∙ ap (λ (ys : List (List ℕ)). x ∷ ys) (literals ws ps l h.1)
literals (w ∷ ws) (Number n ∷ ps) l h = ap (λ (y : List ℕ). y ∷ ws) h.0 ∙ ap (λ (ys : List (List ℕ)). signed_decimal n ∷ ys) (literals ws ps l h.1)
literals (w ∷ ws) (Keyword x ∷ ps) l h = cc
literals (w ∷ ws) (Positive ∷ ps) l h = cc
literals (w ∷ ws) (Score n ∷ ps) l h = cc
literals (w ∷ ws) (ScoreBound b ∷ ps) l h = cc

pub pairs_itself : (ps : List (List ℕ × List ℕ)) → pairs_of (unpaired ps) ≡ Some ps
pairs_itself ps =
    ap (λ (b : Bool). if b then Some (paired (unpaired ps)) else None) (are_pairs-unpaired ps)
    ∙ ap (λ (qs : List (List ℕ × List ℕ)). Some qs) (paired-unpaired ps)

-- a word that is shown as its number is that word
pub number_part_only : (v w : List ℕ) → IsPart v (number_part w) → v ≡ w
number_part_only v w h = elim (number_of w) as (λ o. number_of w ≡ o → IsPart v (part_of o w) → v ≡ w) [
  | None ↦ λ s is. is
  | Some n ↦ λ s is. is ∙ sym (number_text w n s).0
] refl h

pub number_part_of : (n : ℤ) → IsTrue (is_i64 n) → number_part (signed_decimal n) ≡ Number n
number_part_of n fits = ap (λ (o : Option ℤ). part_of o (signed_decimal n)) (number_of-signed_decimal n fits)

pub from_one : (n : ℤ) → IsTrue (int_le (pos 1) n) → int_lt n (pos 1) ≡ false
from_one (pos n) h = grind (arith, nat_tests, h)
from_one (negsuc n) h = cc
