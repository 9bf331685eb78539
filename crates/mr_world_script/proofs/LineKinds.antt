-- What a whole text is as a line.
use Rattle.std.proofs.Common.{◌≡◌, ℕ, ◌<◌, ◌≤◌, List, [], ◌∷◌, ◌++◌, length, take, drop, Option, Some, None, refl, sym, ap, ◌∙◌, subst, arith, inr, inl, append_assoc}
use Rattle.std.specs.Prelude.{IfSome, IfOk, Result, Ok, Err, option_map, slice_index}
use Rattle.std.proofs.lemmas.List.{append-nil, length-drop, take-append-drop, take_all}
use Rattle.std.specs.declared.alloc.AllocError.{AllocError}
use Rattle.mr_inline.specs.Bytes.{star}
use Rattle.mr_inline.specs.Language.{Continues, Fails}
use Rattle.mr_inline.specs.Line.{IsLineOf, IsLineText, HasLineFault}
use Rattle.mr_inline.specs.declared.fault.LineFault.{LineFault}
use Rattle.mr_inline.proofs.LinesByRuns.{apart, one_list, wants_no_more}
use Rattle.mr_inline.specs.Limits.{line_limit}
use Rattle.mr_world_script.specs.Lines.{LineSays, Reads}
use Rattle.mr_world_script.specs.Reading.{said_by, said_of}
use Rattle.mr_world_script.specs.Said.{Said, Says}
use Rattle.mr_world_script.specs.declared.line.Line.{Line}
use Rattle.mr_world_script.proofs.Spoken.{what_is_said, what_was_read}

-- a line with words, or with none
text_of_line : (text : List ℕ) (words : List (List ℕ)) → IsLineOf line_limit text words → IsLineText line_limit text
text_of_line text [] h = inr h
text_of_line text (word ∷ words) h = inl (word ∷ words, (omega arith, h))

pub is_text : (text : List ℕ) (said : Said) → LineSays text said → IsLineText line_limit text
is_text text said h = text_of_line text h.words h.line

-- what was read of a line's words
pub words_read : (text : List ℕ) (words : List (List ℕ)) (read : Option Line) → IsLineOf line_limit text words → option_map said_of read ≡ said_by words → Reads text read
words_read text words (Some line) h e = record { words = words; line = h; says = subst (λ o. IfSome o (Says words)) (sym e) (what_was_read words) }
words_read text words None h e = λ said s.
    let same : s.words ≡ words = one_list line_limit text text [] [] s.words words s.line h refl in
    let told = what_is_said s.words said s.says in
    let both : None ≡ Some said = e ∙ ap said_by (sym same) ∙ told in
    cc

-- the same of a call's result, where the text that was read is all of it
pub whole_read : (text : List ℕ) (used : ℕ) (words : List (List ℕ)) (result : Result (Option Line) AllocError) → length text ≤ used → IsLineOf line_limit (take used text) words
    → IfOk result (λ read. option_map said_of read ≡ said_by words) → IfOk result (λ read. Reads text read)
whole_read text used words (Ok read) all line e = words_read text words read (subst (λ (t : List ℕ). IsLineOf line_limit t words) (take_all used text all) line) e
whole_read text used words (Err fault) all line e = tt

-- nothing is said by what begins as an array, or by a text that isn't one whole line
pub no_array : (text : List ℕ) (said : Said) → slice_index text 0 ≡ star → LineSays text said → ⊥
no_array [] said e h = cc
no_array (b ∷ rest) said e h = h.line.no_array e

pub no_more : (text : List ℕ) (said : Said) (used : ℕ) → used < length text → IsLineText line_limit (take used text) → LineSays text said → ⊥
no_more text said used less line h =
    let whole : take used text ++ drop used text ≡ text ++ [] = take-append-drop used text ∙ sym (append-nil text) in
    let rest : drop used text ≡ [] = apart line_limit (take used text) text (drop used text) [] line (is_text text said h) whole in
    omega (arith, ap length rest, length-drop used text)

pub no_rest : (text : List ℕ) (said : Said) → Continues (IsLineText line_limit) text → LineSays text said → ⊥
no_rest text said more h = wants_no_more line_limit text [] (is_text text said h) (subst (Continues (IsLineText line_limit)) (sym (append-nil text)) more)

pub not_doomed : (text : List ℕ) (said : Said) (fault : LineFault) → Fails (IsLineText line_limit) (HasLineFault line_limit fault) text → LineSays text said → ⊥
not_doomed text said fault p h = p.doomed.never p.rest text [] (is_text text said h) (append_assoc p.front (p.byte ∷ []) p.rest ∙ sym p.is ∙ sym (append-nil text))
