use Rattle.std.proofs.Common.{◌≡◌, ◌++◌, drop}
use Rattle.std.specs.List.{flat_map}
use Rattle.mr_resp.specs.Appends.{Extends}
use Rattle.mr_peer_lines.proofs.writing.push_pieces.Given as goal

abbrev pub invariant-loop-piece : goal.invariant-loop-piece
invariant-loop-piece l = record {
  text : l.out.items ++ flat_map (λ piece. piece.now) (drop l.piece-index l.pieces) ≡ l.fn.out.items ++ flat_map (λ piece. piece.now) l.pieces;
  kept : Extends l.fn.out.items l.out.items;
}
