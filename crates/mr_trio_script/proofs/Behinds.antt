-- Words behind their lengths.
use Rattle.std.proofs.Common.{◌≡◌, ◌≢◌, ◌∙◌, ℕ, ◌<◌, ◌≤◌, ◌^◌, ◌+◌, ◌-◌, ◌↔◌, true, false, Bool, List, ◌++◌, length, take, drop, decimal, sym, ap, arith, append_assoc, inr, length-append, length-take, take-add}
use Rattle.std.specs.Prelude.{IsTrue}
use Rattle.std.proofs.Math.Seq.{drop-append_seam}
use Rattle.std.proofs.lemmas.Fmt.{decimal_injective}
use Rattle.mr_resp.specs.Spelling.{line_end}
use Rattle.mr_trio_script.specs.Heads.{IsWordBehind, NoListHead, NoWordBehind, none_text}

-- what a test that failed denies
pub denied : {A : Type 0} (b : Bool) → IsTrue b ↔ A → b ≡ false → A → ⊥
denied b tells no_b a = let wrong : true ≡ false = sym (tells.1 a) ∙ no_b in cc

module _ (text rest : List ℕ) (count : ℕ) (some : text ≢ none_text) (is : text ≡ decimal count) (small : count < 2 ^ 63) where
  same_len : (word : List ℕ) → length word < 2 ^ 63 → text ≡ decimal (length word) → length word ≡ count
  same_len word less e = decimal_injective (length word) count (omega (arith, less)) (omega (arith, small)) (sym e ∙ is)

  -- fewer bytes are there
  pub too_few : length rest < count + 2 → NoWordBehind text rest
  too_few few = record {
    some = some;
    none = λ word more less e whole. omega (arith, few, same_len word less e, ap length whole, length-append (word ++ line_end) more, length-append word line_end);
  }

  -- no line end is there
  pub no_end : take (count + 2 - count) (drop count rest) ≢ line_end → NoWordBehind text rest
  no_end other = record {
    some = some;
    none = λ word more less e whole.
        let len = same_len word less e in
        let two : count + 2 - count ≡ 2 = omega arith in
        let flat : rest ≡ word ++ (line_end ++ more) = whole ∙ append_assoc word line_end more in
        other ((λ i. take (two i) (drop (sym len i) (flat i))) ∙ ap (take 2) (drop-append_seam word (line_end ++ more)));
  }

  -- a word is there
  pub word_behind : count + 2 ≤ length rest → take (count + 2 - count) (drop count rest) ≡ line_end → IsWordBehind text rest (count + 2)
  word_behind fits end =
      let len : length (take count rest) ≡ count = omega (arith, length-take count rest, fits) in
      let two : count + 2 - count ≡ 2 = omega arith in
      inr (record {
        word = take count rest;
        small = omega (arith, len, small);
        length_is = is ∙ ap decimal (sym len);
        within = fits;
        is = take-add count 2 rest ∙ ap (λ xs. take count rest ++ xs) (ap (λ n. take n (drop count rest)) (sym two) ∙ end);
      })

pub none_behind : (text rest : List ℕ) → text ≢ none_text → ((n : ℕ) → n < 2 ^ 63 → text ≢ decimal n) → NoWordBehind text rest
none_behind text rest some none = record { some = some; none = λ word more less e whole. none (length word) less e }

pub none_listed : (text : List ℕ) → text ≢ none_text → ((n : ℕ) → n < 2 ^ 63 → text ≢ decimal n) → NoListHead text
none_listed text some none = record { some = some; none = none }
