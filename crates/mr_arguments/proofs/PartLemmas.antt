-- What was read of an argument is what its word spells.
use Rattle.std.proofs.Common.{ℕ, ℤ, pos, negsuc, ◌≡◌, List, [], ◌∷◌, Bool, true, false, cond, Option, Some, None, refl, sym, ◌∙◌, ap}
use Rattle.std.specs.Prelude.{find, IfOk, if◌then◌else◌, Result, Ok, Err, int_lt}
use Rattle.std.specs.Option.{ok_or}
use Rattle.std.specs.Fmt.{signed_decimal}
use Rattle.std.specs.Str.{bytes_eq}
use Rattle.mr_bytes.specs.Number.{number_of}
use Rattle.mr_bytes.proofs.Numbers.{same_bytes, number_text}
use Rattle.mr_arguments.specs.Names.{lowered}
use Rattle.mr_arguments.specs.Pairing.{paired, unpaired, are_pairs, pairs_of}
use Rattle.mr_arguments.specs.Parts.{with, integer, not_below_0, count, offset, not_below_1}
use Rattle.mr_arguments.specs.Spelling.{Part, Word, Number, IsPart}
use Rattle.mr_arguments.proofs.PairLemmas.{unpaired-paired}
use Rattle.mr_arguments.specs.declared.fault.AskFault.{AskFault}
use Rattle.mr_arguments.specs.declared.fault.AskFault.TheVariants.{Integer, Syntax}
use Rattle.mr_arguments.specs.declared.fault.BadValue.{BadValue}
use Rattle.mr_arguments.specs.declared.fault.BadValue.TheVariants.{Negative, Offset}

-- what was read with an argument, and the argument
pub with_ok : {A B : Type 0} (r : Result A AskFault) (next : A → Result B AskFault) (b : B) → with r next ≡ Ok b → (a : A) × ((r ≡ Ok a) × (next a ≡ Ok b))
with_ok (Ok a) next b h = (a, (refl, h))
with_ok (Err f) next b h = cc

-- what holds of what is read with any argument
pub if_with : {A B : Type 0} (r : Result A AskFault) (next : A → Result B AskFault) (P : B → Type 0) → ((a : A) → r ≡ Ok a → IfOk (next a) P) → IfOk (with r next) P
if_with (Ok a) next P h = h a refl
if_with (Err f) next P h = tt

pub if_ok : {A : Type 0} (r : Result A AskFault) (P : A → Type 0) → ((a : A) → r ≡ Ok a → P a) → IfOk r P
if_ok (Ok a) P h = h a refl
if_ok (Err f) P h = tt

pub with_integer : {A : Type 0} (w : List ℕ) (next : ℤ → Result A AskFault) (P : A → Type 0)
    → ((n : ℤ) → w ≡ signed_decimal n → IfOk (next n) P) → IfOk (with (integer w) next) P
with_integer w next P h = elim (number_of w) as (λ o. number_of w ≡ o → IfOk (with (ok_or o Integer) next) P) [
  | None ↦ λ s. tt
  | Some n ↦ λ s. h n (number_text w n s).0
] refl

with_natural : {A : Type 0} (w : List ℕ) (otherwise : BadValue) (next : ℕ → Result A AskFault) (P : A → Type 0)
    → ((n : ℕ) → w ≡ signed_decimal (pos n) → IfOk (next n) P) → IfOk (with (with (integer w) (not_below_0 otherwise)) next) P
with_natural w otherwise next P h = elim (number_of w) as (λ o. number_of w ≡ o → IfOk (with (with (ok_or o Integer) (not_below_0 otherwise)) next) P) [
  | None ↦ λ s. tt
  | Some n ↦ λ s. natural n (number_text w n s).0
] refl
  where
    natural : (n : ℤ) → w ≡ signed_decimal n → IfOk (with (not_below_0 otherwise n) next) P
    natural (pos n) e = h n e
    natural (negsuc n) e = tt

pub with_count : {A : Type 0} (w : List ℕ) (next : ℕ → Result A AskFault) (P : A → Type 0)
    → ((n : ℕ) → w ≡ signed_decimal (pos n) → IfOk (next n) P) → IfOk (with (count w) next) P
with_count w next P h = with_natural w Negative next P h

pub with_offset : {A : Type 0} (w : List ℕ) (next : ℕ → Result A AskFault) (P : A → Type 0)
    → ((n : ℕ) → w ≡ signed_decimal (pos n) → IfOk (next n) P) → IfOk (with (offset w) next) P
with_offset w next P h = with_natural w Offset next P h

pub with_pairs : {A : Type 0} (ws : List (List ℕ)) (fault : AskFault) (next : List (List ℕ × List ℕ) → Result A AskFault) (P : A → Type 0)
    → ((pairs : List (List ℕ × List ℕ)) → ws ≡ unpaired pairs → IfOk (next pairs) P) → IfOk (with (ok_or (pairs_of ws) fault) next) P
with_pairs ws fault next P h = elim (are_pairs ws) as (λ b. are_pairs ws ≡ b → IfOk (with (ok_or (if b then Some (paired ws) else None) fault) next) P) [
  | true ↦ λ s. h (paired ws) (sym (unpaired-paired ws s))
  | false ↦ λ s. tt
] refl

-- an option word, where it is that one
pub with_keyword : {A : Type 0} (w text : List ℕ) (found : A) (P : A → Type 0)
    → (lowered w ≡ text → P found) → IfOk (if bytes_eq (lowered w) text then Ok found else Err Syntax) P
with_keyword w text found P h = elim (bytes_eq (lowered w) text) as (λ b. bytes_eq (lowered w) text ≡ b → IfOk {E = AskFault} (if b then Ok found else Err Syntax) P) [
  | true ↦ λ s. h (same_bytes _ _ s)
  | false ↦ λ s. tt
] refl

pub integer_read : (w : List ℕ) (n : ℤ) → integer w ≡ Ok n → number_of w ≡ Some n
integer_read w n h = elim (number_of w) as (λ o. ok_or o Integer ≡ Ok n → o ≡ Some n) [
  | None ↦ λ s. cc
  | Some m ↦ λ s. let same : m ≡ n = cc in ap (λ (x : ℤ). Some x) same
] h

-- what a word is: the number that is read, or the word itself
abbrev pub part_of : Option ℤ → List ℕ → Part
part_of None w = Word w
part_of (Some n) w = Number n

abbrev pub number_part : List ℕ → Part
number_part w = part_of (number_of w) w

pub is_number_part : (w : List ℕ) → IsPart w (number_part w)
is_number_part w = elim (number_of w) as (λ o. number_of w ≡ o → IsPart w (part_of o w)) [
  | None ↦ λ s. refl
  | Some n ↦ λ s. (number_text w n s).0
] refl

pub number_part_read : (w : List ℕ) (n : ℤ) → integer w ≡ Ok n → number_part w ≡ Number n
number_part_read w n h = ap (λ (o : Option ℤ). part_of o w) (integer_read w n h)

-- what is found passes the test
pub found_passes : {A : Type 0} (p : A → Bool) (xs : List A) (x : A) → find p xs ≡ Some x → p x ≡ true
found_passes p [] x h = cc
found_passes p (y ∷ ys) x h = elim (p y) as (λ b. p y ≡ b → cond b (Some y) (find p ys) ≡ Some x → p x ≡ true) [
  | true ↦ λ t s. let same : y ≡ x = cc in ap p (sym same) ∙ t
  | false ↦ λ t s. found_passes p ys x s
] refl h

pub ok_found : {A : Type 0} (o : Option A) (x : A) → ok_or o Syntax ≡ Ok x → o ≡ Some x
ok_found None x h = cc
ok_found (Some y) x h = let same : y ≡ x = cc in ap (λ z. Some z) same

pub not_below_1_is : (f : AskFault) (n m : ℤ) → not_below_1 f n ≡ Ok m → n ≡ m
not_below_1_is f n m h = elim (int_lt n (pos 1)) as (λ b. (if b then Err f else Ok n) ≡ Ok m → n ≡ m) [
  | true ↦ λ e. cc
  | false ↦ λ e. cc
] h
