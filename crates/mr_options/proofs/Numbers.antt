-- What the typed getter of a number says, and that an option has one number.
use Rattle.std.proofs.Common.{◌≡◌, ◌∙◌, ℕ, List, Option, Some, None, Result, sym, refl, subst}
use Rattle.std.specs.Option.{unwrap_or}
use Rattle.std.specs.declared.num.ParseIntError.{ParseIntError}
use Rattle.std.specs.Str.Parse.{ParsesUnsigned, ExplainsUnsignedError, HasUnsignedDigitsIfOk}
use Rattle.clap.specs.Words.{ReadsOne, Row, Text, one_of, one_text, rows_of}
use Rattle.clap.specs.declared.parser.matches.Found.{Found}
use Rattle.clap.proofs.WalkLemmas.{one_text-rows}
use Rattle.mr_options.specs.Values.{HasNumber, IsNumber, NamesNumber}

abbrev pub Gives : List ℕ → Result ℕ ParseIntError → Type 0
Gives bs r = ParsesUnsigned 64 10 bs r × ExplainsUnsignedError 10 bs r × HasUnsignedDigitsIfOk bs r

-- a text has one number
pub one_number : (o : Option Text) (usual m n : ℕ) → IsNumber o usual m → IsNumber o usual n → m ≡ n
one_number None usual m n a b = a ∙ sym b
one_number (Some t) usual m n a b = a.1 ∙ sym b.1

-- a number that the line names is the option's, whatever is usual
pub named_number : (rows : List Row) (name : Text) (usual n : ℕ) → NamesNumber rows name n → HasNumber rows name usual n
named_number rows name usual n named =
    let P : Option Text → Type 0 = λ o. IsNumber o usual n in
    subst P (sym named.1.0) named.1.1

from_text : (o : Option Text) (usual n : ℕ) (r : Option ℕ) → IsNumber o usual n → (o ≡ None → r ≡ None) → ((t : Text) → o ≡ Some t → ReadsOne Gives t r) → IsNumber o usual (unwrap_or r usual)
from_text None usual n None h none value = refl
from_text None usual n (Some m) h none value = absurd (let wrong : ◌≡◌ {A = Option ℕ} (Some m) None = none refl in cc)
from_text (Some t) usual n None h none value = absurd ((value t refl).1.0 h.0)
from_text (Some t) usual n (Some m) h none value = (value t refl).0

pub number_read : (f : Found) (name : Text) (usual n : ℕ) (r : Option ℕ) → HasNumber (rows_of f) name usual n → (one_text f name ≡ None → r ≡ None) → ((t : Text) → one_text f name ≡ Some t → ReadsOne Gives t r) → HasNumber (rows_of f) name usual (unwrap_or r usual)
number_read f name usual n r h none value =
    let same = one_text-rows f name in
    from_text (one_of name (rows_of f)) usual n r h (λ e. none (same ∙ e)) (λ t e. value t (same ∙ e))

-- where the line names a number, the getter finds it
pub named_read : (f : Found) (name : Text) (n : ℕ) (r : Option ℕ) → NamesNumber (rows_of f) name n → ((t : Text) → one_text f name ≡ Some t → ReadsOne Gives t r) → (m : ℕ) × ((r ≡ Some m) × NamesNumber (rows_of f) name m)
named_read f name n None named value = absurd ((value named.0 (one_text-rows f name ∙ named.1.0)).1.0 named.1.1.0)
named_read f name n (Some m) named value = (m, (refl, (named.0, (named.1.0, (value named.0 (one_text-rows f name ∙ named.1.0)).0))))
