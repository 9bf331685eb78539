-- Bytes that are written part by part.
use Rattle.std.proofs.Common.{◌≡◌, ℕ, ◌≤◌, ◌+◌, ◌-◌, List, ◌++◌, Option, sym, ap, subst, ◌∙◌, arith, length, take, drop, take_all, take-add, length-drop}
use Rattle.std.specs.Io.KnownBytes.{Appends}
use Rattle.std.proofs.KnownBytes.{Appends-trans}
use Rattle.mr_file.specs.Outputs.{IsBegun}

-- what follows the first n
abbrev pub rest_of : ℕ → List ℕ → List ℕ
rest_of n bytes = take (length bytes - n) (drop n bytes)

parts : (n k : ℕ) (bytes : List ℕ) → take n bytes ++ take k (rest_of n bytes) ≡ take (n + k) bytes
parts n k bytes = ap (λ r. take n bytes ++ take k r) (take_all (length bytes - n) (drop n bytes) (omega (arith, length-drop n bytes))) ∙ sym (take-add n k bytes)

pub some_more : (a b d : Option (List ℕ)) (bytes : List ℕ) (n k : ℕ) → Appends a b (take n bytes) → Appends b d (take k (rest_of n bytes)) → Appends a d (take (n + k) bytes)
some_more a b d bytes n k one two = subst (λ z. Appends a d z) (parts n k bytes) (Appends-trans a b d (take n bytes) (take k (rest_of n bytes)) one two)

pub all_written : (a b : Option (List ℕ)) (bytes : List ℕ) (n : ℕ) → length bytes ≤ n → Appends a b (take n bytes) → Appends a b bytes
all_written a b bytes n all w = subst (λ z. Appends a b z) (take_all n bytes all) w

-- all of it is a beginning of it
pub all_begun : (a b : Option (List ℕ)) (bytes : List ℕ) → Appends a b bytes → IsBegun a b bytes
all_begun a b bytes w = (length bytes, omega arith, subst (λ z. Appends a b z) (sym (take_all (length bytes) bytes (omega arith))) w)
