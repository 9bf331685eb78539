-- No bytes.
use Rattle.std.proofs.Common.{ℕ, List, [], refl, Option}
use Rattle.mr_inline.specs.Language.{Continues}
use Rattle.mr_peer_lines.specs.Lines.{IsLineText}
use Rattle.mr_peer_lines.proofs.Ends.{nothing_yet}
use Rattle.mr_follower.specs.State.{started}
use Rattle.mr_loop.specs.Quiet.{Awaits}

-- .. and a line may
pub line_nothing : Continues IsLineText []
line_nothing = nothing_yet [] refl

-- who was dialled waits for an answer
pub awaits_first : (offer : Option (List ℕ × ℕ)) (port : ℕ) → Awaits (started offer port)
awaits_first offer port = record { unread = []; agrees = record { by = refl }; waits = line_nothing }
