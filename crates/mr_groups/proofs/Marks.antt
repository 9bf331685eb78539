-- A note's text begins with another byte than a group's.
use Rattle.std.proofs.Common.{◌≡◌, ℕ, List, [], ◌∷◌, ◌++◌, length, sym, ap, ◌∙◌, append_assoc, arith}
use Rattle.std.specs.List.{flat_map, concat}
use Rattle.std.proofs.lemmas.List.{append-nil}
use Rattle.std.proofs.lemmas.List.Elements.{All-head}
use Rattle.mr_inline.specs.Bytes.{line_feed}
use Rattle.mr_inline.specs.Language.{Continues, IsDoomed}
use Rattle.mr_resp.specs.Spelling.{number_line, bulk}
use Rattle.mr_resp.proofs.Requests.{array_parts}
use Rattle.mr_effect.specs.declared.effect.Effect.{Effect}
use Rattle.mr_groups.specs.Groups.{IsGoodGroup, group_text, multi}
use Rattle.mr_groups.specs.Reading.{BeginsWithGroup, IsOpen, IsCut}
use Rattle.mr_groups.specs.Notes.{mark, note_text, BeginsWithNote, IsOpenNote}
use Rattle.mr_groups.proofs.Notes.{head_is}
use Rattle.mr_groups.proofs.Openings.{IsWhole, first_command, multi_text}

-- no command text begins with a note's mark
no_mark : (t z rest : List ℕ) → IsWhole t → t ++ z ≡ mark ∷ rest → ⊥
no_mark t z rest whole q =
    let both : 42 ∷ (number_line (length whole.0) ++ (flat_map bulk whole.0 ++ z)) ≡ mark ∷ rest = sym (array_parts whole.0 z) ∙ (ap (λ (x : List ℕ). x ++ z) (sym whole.1.spelled) ∙ q) in
    let wrong : 42 ≡ mark = head_is 42 mark (number_line (length whole.0) ++ (flat_map bulk whole.0 ++ z)) rest both in
    omega (arith, wrong)

marked : (rest : List ℕ) → BeginsWithGroup (mark ∷ rest) → ⊥
marked rest b = let f = first_command (mark ∷ rest) b in no_mark f.0 f.1 rest f.2 (sym f.3)

pub note_no_group : (line : List ℕ) (es : List Effect) (x y : List ℕ) → IsGoodGroup es → note_text line ++ x ≡ group_text es ++ y → ⊥
note_no_group line es x y good e = marked ((line ++ line_feed ∷ []) ++ x) (record { group = es; good = good; behind = y; is = e })

-- a beginning of a note's text
pub open_no_group : (bytes : List ℕ) → IsOpenNote bytes → BeginsWithGroup bytes → ⊥
open_no_group bytes o b =
    note_no_group o.line b.group [] (b.behind ++ o.more) b.good
    (append-nil (note_text o.line) ∙ (sym o.is ∙ (ap (λ (t : List ℕ). t ++ o.more) b.is ∙ append_assoc (group_text b.group) b.behind o.more)))

-- a beginning of a group's text
cut_no_note : (front : List (List ℕ)) (rest x bytes : List ℕ) → IsCut bytes front rest → Continues IsWhole rest → bytes ≡ mark ∷ x → ⊥
cut_no_note [] rest x bytes cut begun is = no_mark (rest ++ begun.more) [] (x ++ begun.more) begun.whole (append-nil (rest ++ begun.more) ∙ ap (λ (t : List ℕ). t ++ begun.more) (sym cut.is ∙ is))
cut_no_note (t ∷ ts) rest x bytes cut begun is = no_mark t (concat ts ++ rest) x (All-head IsWhole t ts cut.each) (sym (append_assoc t (concat ts) rest) ∙ (sym cut.is ∙ is))

pub open_no_note : (bytes : List ℕ) → IsOpen bytes → BeginsWithNote bytes → ⊥
open_no_note bytes o b = cut_no_note o.front o.rest ((b.line ++ line_feed ∷ []) ++ b.behind) bytes o.cut o.open_end b.is

-- a frame's beginning
pub framed_no_note : (rest bytes : List ℕ) → bytes ≡ multi ++ rest → BeginsWithNote bytes → ⊥
framed_no_note rest bytes is b = no_mark multi rest ((b.line ++ line_feed ∷ []) ++ b.behind) multi_text (sym is ∙ b.is)

-- no command text comes of what begins with a note's mark
pub doomed_mark : (rest : List ℕ) → IsDoomed IsWhole (mark ∷ rest)
doomed_mark rest = record { never = λ more t behind whole q. no_mark t behind (rest ++ more) whole (sym q) }
