-- Who may go on from a stream once its id has changed.
use Rattle.std.proofs.Common.{◌≡◌, ℕ, List, refl, ap, sym, ◌∙◌, inl, inr, arith}
use Rattle.hex.specs.Hex.{decode_of}
use Rattle.hex.proofs.HexLemmas.{decode_of-encode_lower}
use Rattle.mr_repl.specs.Lineage.{LineageState, renamed, standing_of}
use Rattle.mr_repl.specs.ReplId.{IsId, digits_of}
use Rattle.mr_repl.specs.Standing.{MayContinue}
use Rattle.mr_repl.specs.Succession.{RenamingStrandsNobody, OldIdEndsAtTheChange, SnapshotEndsAllElse}

pub same_id : (one other : List ℕ) → IsId one → IsId other → digits_of one ≡ digits_of other → one ≡ other
same_id one other is_one is_other same = cc (sym (decode_of-encode_lower one is_one.bytes) ∙ ap decode_of same ∙ decode_of-encode_lower other is_other.bytes)

pub strands_nobody : RenamingStrandsNobody
strands_nobody a fresh from = (back, forth)
  where
    back : MayContinue (standing_of (renamed fresh a)) (digits_of a.id) from → MayContinue (standing_of a) (digits_of a.id) from
    back h = record { known = inl refl; from_first = h.from_first; to_next = h.to_next }

    forth : MayContinue (standing_of a) (digits_of a.id) from → MayContinue (standing_of (renamed fresh a)) (digits_of a.id) from
    forth h = record { known = inr (refl, h.to_next); from_first = h.from_first; to_next = h.to_next }

pub old_id_ends : OldIdEndsAtTheChange
old_id_ends a fresh bytes from is_old is_fresh other h = elim h.known [
  | inl now ↦ absurd (other (same_id a.id fresh is_old is_fresh now))
  | inr before ↦ before.1
]

pub snapshot_ends : SnapshotEndsAllElse
snapshot_ends id text capacity offset from h =
    let first = h.from_first in let next = h.to_next in
    elim h.known [
      | inl now ↦ (now, omega (arith, first, next))
      | inr before ↦ absurd before
    ]
