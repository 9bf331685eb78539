-- What a measure says where a command text begins the input.
use Rattle.std.proofs.Common.{◌≡◌, ℕ, inl, List, [], ◌++◌, length, take, drop, refl, sym, ap, ◌∙◌, subst, append_assoc, arith}
use Rattle.std.proofs.lemmas.List.{append-nil, length-append, take-append-drop}
use Rattle.mr_inline.specs.Language.{IsDoomed}
use Rattle.mr_resp.specs.Array.{IsArray, IsArrayText, HasArrayFault}
use Rattle.mr_resp.specs.Command.{BeginsWithCommand}
use Rattle.mr_resp.specs.Parts.{Measures}
use Rattle.mr_resp.specs.Usual.{commands, commands-word, commands-words, commands-text}
use Rattle.mr_resp.specs.declared.scan.Measured.{Measured}
use Rattle.mr_resp.specs.declared.scan.Measured.TheVariants as measured
use Rattle.mr_resp.proofs.Commands.{command_of, commands_apart, request_of}
use Rattle.mr_resp.proofs.OneFault.{doomed_no_text, fails_doomed}
use Rattle.mr_resp.proofs.Requests as arrays

-- the measure found so many words
abbrev pub IsOf : ℕ → Measured → Type 0
IsOf n (measured.Whole count first used) = count ≡ n
IsOf n (measured.Skip used) = ⊥
IsOf n measured.More = ⊥
IsOf n (measured.Bad fault) = ⊥

both_ends : (input : List ℕ) (a b : ℕ) → take a input ++ drop a input ≡ take b input ++ drop b input
both_ends input a b = take-append-drop a input ∙ sym (take-append-drop b input)

array_there : (input : List ℕ) (found : BeginsWithCommand commands input) → IsArray commands (take found.used input) found.words
array_there input found = request_of commands commands-word commands-words commands-text (take found.used input) found.words found.command

-- it found those of the command text
pub measured_whole : (input : List ℕ) (found : BeginsWithCommand commands input) (s : Measured) → Measures commands input s → IsOf (length found.words) s
measured_whole input found (measured.Whole count first used) m =
    let same = commands_apart commands (take used input) (take found.used input) (drop used input) (drop found.used input) m.words found.words
    (command_of commands (take used input) m.words m.request) found.command (both_ends input used found.used) in
    omega (arith, m.counted, ap length same.1)
measured_whole input found (measured.Skip used) h =
    arrays.not_empty commands (take found.used input) (take used input) (drop found.used input) (drop used input) found.words (array_there input found) h.1 (both_ends input found.used used)
measured_whole input found measured.More h =
    let text = take found.used input in
    let rest = drop found.used input in
    let all : text ++ (rest ++ h.more) ≡ (input ++ h.more) ++ [] = sym (append_assoc text rest h.more) ∙ ap (λ (l : List ℕ). l ++ h.more) (take-append-drop found.used input) ∙ sym (append-nil (input ++ h.more)) in
    let none = arrays.one_text commands text (input ++ h.more) (rest ++ h.more) [] (inl (found.words, array_there input found)) h.whole all in
    omega (arith, ap length none, length-append rest h.more, h.some)
measured_whole input found (measured.Bad fault) h =
    doomed_no_text (IsArrayText commands) (take found.used input) (drop found.used input) (inl (found.words, array_there input found))
    (subst (λ (l : List ℕ). IsDoomed (IsArrayText commands) l) (sym (take-append-drop found.used input)) (fails_doomed (IsArrayText commands) (HasArrayFault commands fault) input h))

-- .. and nothing else
pub only_whole : (n : ℕ) (s : Measured) → IsOf n s → ((count first used : ℕ) → s ≡ measured.Whole count first used → ⊥) → ⊥
only_whole n (measured.Whole count first used) of other = other count first used refl
only_whole n (measured.Skip used) of other = of
only_whole n measured.More of other = of
only_whole n (measured.Bad fault) of other = of
