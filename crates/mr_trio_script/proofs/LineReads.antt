-- Lines that are none.
use Rattle.std.proofs.Common.{◌≡◌, ◌≢◌, ◌≤◌, ◌∙◌, ℕ, List, [], ◌∷◌, length, take, drop, sym, ap, subst, take-append-drop, append-nil, append_assoc, length-drop, arith}
use Rattle.mr_inline.specs.Language.{Continues, Fails}
use Rattle.mr_inline.specs.Line.{IsLineText, HasLineFault}
use Rattle.mr_inline.specs.declared.fault.LineFault.{LineFault}
use Rattle.mr_inline.proofs.LinesByRuns.{apart, wants_no_more}

-- a line begins the bytes, and is not all of them
pub longer : (limit : ℕ) (bytes : List ℕ) (used : ℕ) → used ≤ length bytes → used ≢ length bytes → IsLineText limit (take used bytes) → IsLineText limit bytes → ⊥
longer limit bytes used within other front whole =
    let rest : drop used bytes ≡ [] = apart limit (take used bytes) bytes (drop used bytes) [] front whole (take-append-drop used bytes ∙ sym (append-nil bytes)) in
    other (omega (arith, ap length rest, length-drop used bytes, within))

pub unfinished : (limit : ℕ) (bytes : List ℕ) → Continues (IsLineText limit) bytes → IsLineText limit bytes → ⊥
unfinished limit bytes more whole = wants_no_more limit bytes [] whole (subst (Continues (IsLineText limit)) (sym (append-nil bytes)) more)

pub failed : (limit : ℕ) (fault : LineFault) (bytes : List ℕ) → Fails (IsLineText limit) (HasLineFault limit fault) bytes → IsLineText limit bytes → ⊥
failed limit fault bytes f whole = f.doomed.never f.rest bytes [] whole (append_assoc f.front (f.byte ∷ []) f.rest ∙ sym f.is ∙ sym (append-nil bytes))
