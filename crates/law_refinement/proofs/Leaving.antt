-- What a follower refuses, in the words of histories.
use Rattle.std.proofs.Common.{◌≡◌, ◌≢◌, ◌⊎◌, inl, inr, ℕ, List, [], ◌∷◌, ◌++◌, false, None, length, length-append, append_assoc, refl, sym, ap, subst, ◌∙◌, arith}
use Rattle.std.proofs.lemmas.List.{append_cancel_left}
use Rattle.mr_peer_lines.specs.Lines.{status, refusal, size, IsLineText, IsPeerLine, SaysNothing}
use Rattle.mr_peer_lines.specs.Lines as peers
use Rattle.mr_peer_lines.specs.Replies.{IsReplyText}
use Rattle.mr_peer_lines.specs.declared.psync.PsyncReply.{PsyncReply}
use Rattle.mr_peer_lines.specs.declared.psync.PsyncReply.TheVariants as reply
use Rattle.mr_peer_lines.proofs.Apart.{apart}
use Rattle.law_protocol.specs.Language.Line.{Continue, Plain, Refusal}
use Rattle.law_protocol.specs.Node.{Node}
use Rattle.law_protocol.specs.FollowerRows.{NoLine, NoSnapshot, IsStuckAt, BadAnswer}
use Rattle.law_protocol.proofs.Histories.{same_length}
use Rattle.law_minired.specs.Minired.{minired}
use Rattle.law_minired.specs.Lines.{Says}
use Rattle.law_minired.proofs.Said.{same_said, line_text}
use Rattle.mr_follower.specs.State.{FollowState}
use Rattle.mr_follower.specs.Lines as lines
use Rattle.mr_follower.specs.Rows as follow
use Rattle.mr_follower.specs.declared.phase.Phase.{Phase}
use Rattle.mr_follower.specs.declared.phase.Phase.TheVariants as phase
use Rattle.law_refinement.specs.Seeing.{seen_phase}
use Rattle.mr_peer_lines.proofs.Answers.{answer_or, IsAnswer, Settled}

nothing_said : (u more t rest : List ℕ) (l : peers.Line) → lines.IsNoLine u → IsPeerLine t l → u ++ more ≡ t ++ rest → ⊥
nothing_said u more t rest l (inl d) p e = d.never more t rest (line_text t l p) e
nothing_said u more t rest l (inr s) p e =
    let q : s.text ++ (s.rest ++ more) ≡ t ++ rest = sym (append_assoc s.text s.rest more) ∙ (ap (λ z. z ++ more) (sym s.begins) ∙ e) in
    let same : s.text ≡ t = apart s.text t (s.rest ++ more) rest (s.front, s.whole) (line_text t l p) q in
    let fronts : s.front ≡ p.front = same_length s.front p.front _ _ (lengths s.front p.front (sym s.whole.ended ∙ (same ∙ p.whole.ended))) (sym s.whole.ended ∙ (same ∙ p.whole.ended)) in
    s.nothing l (subst (λ z. peers.Says z l) (sym fronts) p.says)
  where
    lengths : (a b : List ℕ) → a ++ 13 ∷ 10 ∷ [] ≡ b ++ 13 ∷ 10 ∷ [] → length a ≡ length b
    lengths a b e = let x = length-append a (13 ∷ 10 ∷ []) in let y = length-append b (13 ∷ 10 ∷ []) in let z : length (a ++ 13 ∷ 10 ∷ []) ≡ length (b ++ 13 ∷ 10 ∷ []) = ap length e in omega (arith, x, y, z)

no_line : (u : List ℕ) → lines.IsNoLine u → NoLine minired u
no_line u n more t rest line s e = nothing_said u more t rest s.said n s.whole e

-- a snapshot begins with a length
no_snapshot : (u : List ℕ) → ((more t rest : List ℕ) (n : ℕ) → IsPeerLine t (size n) → u ++ more ≡ t ++ rest → ⊥) → NoSnapshot minired u
no_snapshot u none more t rest m s e = none more s.line (s.commands ++ rest) (length s.commands) s.says (e ∙ (ap (λ z. z ++ rest) s.is ∙ append_assoc s.line s.commands rest))

other_line : (u : List ℕ) (l : peers.Line) (rest : List ℕ) → lines.Begins u l rest → ((n : ℕ) → l ≢ size n) → NoSnapshot minired u
other_line u l rest b ne = no_snapshot u (λ more t after n p e.
    ne n (same_said b.text t l (size n) (rest ++ more) after b.says p (sym (append_assoc b.text rest more) ∙ (ap (λ z. z ++ more) (sym b.is) ∙ e))).1)

says_refusal : (t : List ℕ) (x : List ℕ) → IsPeerLine t (refusal x) → Says t Refusal
says_refusal t x p = record { said = refusal x; whole = p; means = tt }

says_size : (t : List ℕ) (n : ℕ) → IsPeerLine t (size n) → Says t Refusal
says_size t n p = record { said = size n; whole = p; means = tt }

module _ (a : Node minired) (f : FollowState) (u : List ℕ) (tie : f.phase ≡ phase.Psync → f.offer ≡ None → a.offers ≡ false) where
  by_no_line : (p : Phase) → p ≢ phase.Stream → lines.IsNoLine u → BadAnswer a (seen_phase p) u
  by_no_line phase.Ping w n = BadAnswer.no_reply 0 refl (no_line u n)
  by_no_line phase.Port w n = BadAnswer.no_reply 1 refl (no_line u n)
  by_no_line phase.Capabilities w n = BadAnswer.no_reply 2 refl (no_line u n)
  by_no_line phase.Psync w n = BadAnswer.no_line refl (no_line u n)
  by_no_line (phase.Snapshot id o) w n = BadAnswer.no_snapshot id o refl (no_snapshot u (λ more t rest k p e. nothing_said u more t rest (size k) n p e))
  by_no_line phase.Stream w n = absurd (w refl)

  refused : (p : Phase) (x rest : List ℕ) → p ≢ phase.Stream → lines.Begins u (refusal x) rest → BadAnswer a (seen_phase p) u
  refused phase.Ping x rest w b = BadAnswer.refused 0 b.text rest refl (says_refusal b.text x b.says) b.is
  refused phase.Port x rest w b = BadAnswer.refused 1 b.text rest refl (says_refusal b.text x b.says) b.is
  refused phase.Capabilities x rest w b = BadAnswer.refused 2 b.text rest refl (says_refusal b.text x b.says) b.is
  refused phase.Psync x rest w b = BadAnswer.no_answer b.text rest Refusal refl (says_refusal b.text x b.says) b.is tt
  refused (phase.Snapshot id o) x rest w b = BadAnswer.no_snapshot id o refl (other_line u (refusal x) rest b (λ n e. absurd (cc)))
  refused phase.Stream x rest w b = absurd (w refl)

  unasked : f.phase ≡ phase.Psync → (x rest : List ℕ) → lines.Begins u (status x) rest → Settled (IsAnswer x) → ((r : PsyncReply) → IsReplyText x r → (f.offer ≡ None) × ((id : List ℕ) × (r ≡ reply.Continue id)))
      → BadAnswer a (seen_phase phase.Psync) u
  unasked at x rest b (inr n) w = BadAnswer.no_answer b.text rest Plain refl (record { said = status x; whole = b.says; means = λ r h. n (r, h) }) b.is tt
  unasked at x rest b (inl h) w = let g = w h.0 h.1 in
      BadAnswer.no_answer b.text rest (Continue g.1.0) refl (record { said = status x; whole = b.says; means = subst (λ r. IsReplyText x r) g.1.1 h.1 }) b.is (tie at g.0)

  wrong : (p : Phase) → f.phase ≡ p → (l : peers.Line) (rest : List ℕ) → p ≢ phase.Stream → lines.Begins u l rest → follow.IsOutOfPlace p f.offer l → BadAnswer a (seen_phase p) u
  wrong p at (refusal x) rest w b o = absurd (nowhere p o)
    where
      nowhere : (p : Phase) → follow.IsOutOfPlace p f.offer (refusal x) → ⊥
      nowhere p o = o
  wrong phase.Ping at (status x) rest w b o = absurd o
  wrong phase.Ping at (size n) rest w b o = BadAnswer.refused 0 b.text rest refl (says_size b.text n b.says) b.is
  wrong phase.Port at (status x) rest w b o = absurd o
  wrong phase.Port at (size n) rest w b o = BadAnswer.refused 1 b.text rest refl (says_size b.text n b.says) b.is
  wrong phase.Capabilities at (status x) rest w b o = absurd o
  wrong phase.Capabilities at (size n) rest w b o = BadAnswer.refused 2 b.text rest refl (says_size b.text n b.says) b.is
  wrong phase.Psync at (status x) rest w b o = unasked at x rest b (answer_or x) o
  wrong phase.Psync at (size n) rest w b o = BadAnswer.no_answer b.text rest Refusal refl (says_size b.text n b.says) b.is tt
  wrong (phase.Snapshot id k) at (status x) rest w b o = BadAnswer.no_snapshot id k refl (other_line u (status x) rest b (λ n e. absurd (cc)))
  wrong (phase.Snapshot id k) at (size n) rest w b o = absurd o
  wrong phase.Stream at l rest w b o = absurd (w refl)

  pub bad_line : follow.IsBadLine f u → BadAnswer a (seen_phase f.phase) u
  bad_line h = go h.cause
    where
      go : lines.IsNoLine u ⊎ follow.IsWrongLine f u → BadAnswer a (seen_phase f.phase) u
      go (inl n) = by_no_line f.phase h.wants n
      go (inr w) = wrong f.phase refl w.line w.rest h.wants w.begins w.wrong

  pub is_refused : follow.IsRefused f u → BadAnswer a (seen_phase f.phase) u
  is_refused h = refused f.phase h.text h.rest h.wants h.begins

-- ---- what is undecodable
pub bad_snapshot : (f : FollowState) (u : List ℕ) → follow.IsBadSnapshot f u → NoSnapshot minired u
bad_snapshot f u h more t rest m s e =
    let q : h.begins.text ++ (h.rest ++ more) ≡ s.line ++ (s.commands ++ rest) =
    sym (append_assoc h.begins.text h.rest more) ∙ (ap (λ z. z ++ more) (sym h.begins.is) ∙ (e ∙ (ap (λ z. z ++ rest) s.is ∙ append_assoc s.line s.commands rest))) in
    let both = same_said h.begins.text s.line (size h.length_of) (size (length s.commands)) (h.rest ++ more) (s.commands ++ rest) h.begins.says s.says q in
    let after : h.rest ++ more ≡ s.commands ++ rest = append_cancel_left s.line (h.rest ++ more) (s.commands ++ rest) (ap (λ z. z ++ (h.rest ++ more)) (sym both.0) ∙ q) in
    h.bad s.commands more rest m (sym (size_is h.length_of (length s.commands) both.1)) after s.made
  where
    size_is : (x y : ℕ) → size x ≡ size y → x ≡ y
    size_is x y e = cc

pub bad_stream : (a : Node minired) (f : FollowState) (u : List ℕ) → follow.IsBadStream f u a.held a.offset → IsStuckAt a u
bad_stream a f u h more rest e n good does few q = let limit = h.limit in h.refused.stuck e n more rest good does (omega (arith, limit, few)) q
