-- Where a text is cut that names a host and a port.
use Rattle.std.proofs.Common.{◌≡◌, ◌≢◌, ◌∙◌, ◌<◌, ◌++◌, ◌==◌, ℕ, suc, List, [], ◌∷◌, sym, ap, refl, subst, length, take, drop, decimal, arith}
use Rattle.std.specs.Char.{digit_value}
use Rattle.std.specs.Str.{NoCharPasses}
use Rattle.std.specs.Str.Parse.{AllDigits}
use Rattle.std.specs.Str.Pattern.{RFindsChar, SplitsAroundMatch}
use Rattle.std.proofs.Math.ListN.{get_or}
use Rattle.std.proofs.lemmas.Fmt.{decimal_is_IsNumeral}
use Rattle.std.proofs.lemmas.List.{take-append-drop}
use Rattle.std.proofs.lemmas.Str.Pattern.{NoCharPasses-char, drop_at_char}
use Rattle.clap.specs.Words.{Text}
use Rattle.mr_options.specs.Values.{IsPort, master_text}

-- no byte of the text is a colon
abbrev LacksColon : List ℕ → Type 0
LacksColon [] = Unit {0}
LacksColon (c ∷ cs) = (c ≢ 58) × LacksColon cs

of_places : (xs : List ℕ) → ((i : ℕ) → i < length xs → get_or xs i 0 ≢ 58) → LacksColon xs
of_places [] h = tt
of_places (x ∷ xs) h = (h 0 (omega arith), of_places xs (λ i lt. h (suc i) (omega (arith, lt))))

of_chars : (xs : List ℕ) → NoCharPasses (λ d. d == 58) xs → LacksColon xs
of_chars xs h = of_places xs (λ i lt. NoCharPasses-char 58 xs i h (omega arith) lt)

of_digits : (ds : List ℕ) → AllDigits 10 ds → LacksColon ds
of_digits [] h = tt
of_digits (c ∷ cs) h =
    let P : ℕ → Type 0 = λ d. digit_value d < 10 in
    (λ is. absurd (let far : 36 < 10 = subst P is h.0 in omega (arith, far)), of_digits cs h.1)

of_port : (port : ℕ) → IsPort port → LacksColon (decimal port)
of_port port is = let most = is.1 in of_digits (decimal port) (decimal_is_IsNumeral port (omega (arith, most))).0.1

no_parts : (front back : List ℕ) → LacksColon (front ++ 58 ∷ back) → ⊥
no_parts [] back h = h.0 refl
no_parts (c ∷ cs) back h = no_parts cs back h.1

-- what stands behind the last colon
same_back : (front back other rest : List ℕ) → front ++ 58 ∷ back ≡ other ++ 58 ∷ rest → LacksColon back → LacksColon rest → back ≡ rest
same_back [] back [] rest e h k = ap (drop 1) e
same_back [] back (c ∷ cs) rest e h k = absurd (no_parts cs rest (subst LacksColon (ap (drop 1) e) h))
same_back (c ∷ cs) back [] rest e h k = absurd (no_parts cs back (subst LacksColon (sym (ap (drop 1) e)) k))
same_back (c ∷ cs) back (d ∷ ds) rest e h k = same_back cs back ds rest (ap (drop 1) e) h k

-- a text without a colon names no node
pub none_named : (text : Text) → NoCharPasses (λ d. d == 58) text → (host : Text) (port : ℕ) → IsPort port → master_text host port ≢ text
none_named text none host port is e = no_parts host (decimal port) (subst LacksColon (sym e) (of_chars text none))

-- nor does one with no port behind its last
pub other_named : (text front back : Text) → SplitsAroundMatch (RFindsChar 58) text front back → ((port : ℕ) → IsPort port → decimal port ≢ back)
    → (host : Text) (port : ℕ) → IsPort port → master_text host port ≢ text
other_named text front back cut none host port is e =
    let at = cut.2.1 in
    let whole : text ≡ take cut.0 text ++ 58 ∷ drop cut.1 text = sym (take-append-drop cut.0 text) ∙ ap (λ (xs : List ℕ). take cut.0 text ++ xs) (drop_at_char 58 text cut.0 cut.1 at (omega arith)) in
    let last = same_back host (decimal port) (take cut.0 text) (drop cut.1 text) (e ∙ whole) (of_port port is) (of_chars (drop cut.1 text) cut.2.0) in
    none port is (last ∙ sym cut.4)
