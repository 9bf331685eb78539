-- One link of a wire, as it is put or changed, and the others.
use Rattle.std.proofs.Common.{◌≡◌, ℕ, List, false, cond, Some, ap, ◌∙◌}
use Rattle.std.specs.Ordering.{eq_by_cmp}
use Rattle.std.specs.FinMap.{get, insert, get-insert}
use Rattle.mr_links.specs.LinkId.{id_cmp}
use Rattle.mr_links.specs.declared.link_id.LinkId.{LinkId}
use Rattle.mr_links.proofs.LinkRows.{ids_total}
use Rattle.mr_wire.specs.Wire.{LinkState, ChangesLink, WireState, sent_on}
use Rattle.mr_loop.proofs.Sending.{some_at}
use Rattle.mr_loop.proofs.Waiting.{itself}

-- what is under a name once a link was put
pub put_at : (v w : WireState) (n l : LinkId) (f : LinkState) → w.open_links ≡ insert v.open_links n f → get w.open_links l ≡ cond (eq_by_cmp id_cmp l n) (Some f) (get v.open_links l)
put_at v w n l f own = ap (λ m. get m l) own ∙ get-insert ids_total v.open_links n f l

-- a link that is put, under its own name and under another
pub here_put : (v w : WireState) (n : LinkId) (f : LinkState) → w.open_links ≡ insert v.open_links n f → get w.open_links n ≡ Some f
here_put v w n f own = put_at v w n n f own ∙ ap (λ b. cond b (Some f) (get v.open_links n)) (itself n)

pub other_put : (v w : WireState) (n l : LinkId) (f : LinkState) → eq_by_cmp id_cmp l n ≡ false → w.open_links ≡ insert v.open_links n f → get w.open_links l ≡ get v.open_links l
other_put v w n l f other own = put_at v w n l f own ∙ ap (λ b. cond b (Some f) (get v.open_links l)) other

-- what an open link becomes
touched_as : (v w : WireState) (n : LinkId) (f : LinkState → LinkState) (bytes : List ℕ) (x : LinkState) → get v.open_links n ≡ Some x → ChangesLink v n f bytes w → w ≡ record v { open_links = insert v.open_links n (f x); sent = sent_on n bytes v.sent }
touched_as v w n f bytes x e t = some_at (λ x. w ≡ record v { open_links = insert v.open_links n (f x); sent = sent_on n bytes v.sent }) (get v.open_links n) x e t

pub touched_links : (v w : WireState) (n : LinkId) (f : LinkState → LinkState) (bytes : List ℕ) (x : LinkState) → get v.open_links n ≡ Some x → ChangesLink v n f bytes w → w.open_links ≡ insert v.open_links n (f x)
touched_links v w n f bytes x e t = ap (λ (z : WireState). z.open_links) (touched_as v w n f bytes x e t)

-- .. and what is sent on it
pub touched_sent : (v w : WireState) (n : LinkId) (f : LinkState → LinkState) (bytes : List ℕ) (x : LinkState) → get v.open_links n ≡ Some x → ChangesLink v n f bytes w → w.sent ≡ sent_on n bytes v.sent
touched_sent v w n f bytes x e t = ap (λ (z : WireState). z.sent) (touched_as v w n f bytes x e t)
