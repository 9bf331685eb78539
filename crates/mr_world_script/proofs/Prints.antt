-- Printed bytes tell which they are.
use Rattle.std.proofs.Common.{◌≡◌, ℕ, zero, suc, ◌<◌, ◌/◌, ◌%◌, List, [], ◌∷◌, ◌++◌, get_or, Bool, true, false, cond, refl, sym, ap, ◌∙◌, arith}
use Rattle.std.specs.Prelude.{All, Ok, slice_index}
use Rattle.std.proofs.lemmas.List.Elements.{All-head, All-tail}
use Rattle.hex.specs.Hex.{IsBytes, decode_of, encode_lower, encode_with, lower_digits}
use Rattle.hex.proofs.HexLemmas.{decode_of-encode_lower}
use Rattle.mr_world_script.specs.Answers.{is_plain, printed}

one_byte : (b : ℕ) → b < 256 → IsBytes (b ∷ [])
one_byte b small zero = small
one_byte b small (suc i) = omega arith

-- the two digits of a byte tell it
pub digits_tell : (b c : ℕ) → b < 256 → c < 256 → encode_lower (b ∷ []) ≡ encode_lower (c ∷ []) → b ≡ c
digits_tell b c small fits e =
    let back : Ok (b ∷ []) ≡ Ok (c ∷ []) = sym (decode_of-encode_lower (b ∷ []) (one_byte b small)) ∙ ap decode_of e ∙ decode_of-encode_lower (c ∷ []) (one_byte c fits) in
    cc

-- the byte itself, or its digits behind `\x`
abbrev byte_text : Bool → ℕ → List ℕ
byte_text plain b = cond plain (b ∷ []) (92 ∷ 120 ∷ encode_lower (b ∷ []))

plain_is_no_mark : (b : ℕ) → is_plain b ≡ true → b ≡ 92 → ⊥
plain_is_no_mark b h e = let at : is_plain 92 ≡ true = sym (ap is_plain e) ∙ h in cc

-- what two bytes are printed as with anything behind it
same_byte : (p q : Bool) (b c : ℕ) (xs ys : List ℕ) → is_plain b ≡ p → is_plain c ≡ q → b < 256 → c < 256 → byte_text p b ++ xs ≡ byte_text q c ++ ys → (b ≡ c) × (xs ≡ ys)
unfolding encode_with
same_byte true true b c xs ys s t small fits e = (cc, cc)
same_byte true false b c xs ys s t small fits e = absurd (plain_is_no_mark b s cc)
same_byte false true b c xs ys s t small fits e = absurd (plain_is_no_mark c t cc)
same_byte false false b c xs ys s t small fits e =
    let high : slice_index lower_digits (b / 16) ≡ slice_index lower_digits (c / 16) = ap (λ zs. get_or zs 2 0) e in
    let low : slice_index lower_digits (b % 16) ≡ slice_index lower_digits (c % 16) = ap (λ zs. get_or zs 3 0) e in
    (digits_tell b c small fits (λ i. high i ∷ low i ∷ []), cc)

some_shown : (p : Bool) (b : ℕ) (xs : List ℕ) → byte_text p b ++ xs ≡ [] → ⊥
some_shown true b xs e = cc
some_shown false b xs e = cc

abbrev IsByte : ℕ → Type 0
IsByte b = b < 256

pub printed_tell : (one other : List ℕ) → All IsByte one → All IsByte other → printed one ≡ printed other → one ≡ other
unfolding printed
printed_tell [] [] h k e = refl
printed_tell [] (c ∷ cs) h k e = absurd (some_shown (is_plain c) c (printed cs) (sym e))
printed_tell (b ∷ bs) [] h k e = absurd (some_shown (is_plain b) b (printed bs) e)
printed_tell (b ∷ bs) (c ∷ cs) h k e =
    let same = same_byte (is_plain b) (is_plain c) b c (printed bs) (printed cs) refl refl (All-head IsByte b bs h) (All-head IsByte c cs k) e in
    let rest = printed_tell bs cs (All-tail IsByte b bs h) (All-tail IsByte c cs k) same.1 in
    let first = same.0 in
    λ i. first i ∷ rest i
