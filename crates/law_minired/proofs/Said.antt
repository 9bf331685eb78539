-- No line begins another, and each says one thing.
use Rattle.std.proofs.Common.{ℕ, List, [], ◌∷◌, ◌++◌, ◌≡◌, ◌≢◌, ◌≤◌, refl, ap, sym, ◌∙◌, subst, arith, codes}
use Rattle.std.specs.Fmt.{decimal}
use Rattle.std.proofs.lemmas.Fmt.{decimal_injective}
use Rattle.std.proofs.lemmas.List.{append_cancel_left}
use Rattle.mr_resp.specs.Spelling.{line_end}
use Rattle.mr_repl.specs.ReplId.{IsId, digits_of}
use Rattle.mr_repl.specs.Backlog.{offset_limit}
use Rattle.mr_peer_lines.specs.Lines.{status, refusal, size, IsLineText, IsPeerLine}
use Rattle.mr_peer_lines.specs.Lines as peers
use Rattle.mr_peer_lines.specs.Replies.{place_text, reply_text, IsReplyText}
use Rattle.mr_peer_lines.specs.declared.psync.PsyncReply.TheVariants as reply
use Rattle.mr_peer_lines.proofs.Apart.{apart, one_line}
use Rattle.law_protocol.specs.Language.{Line}
use Rattle.law_protocol.specs.Language.Line.{FullResync, Continue, Plain, Refusal}
use Rattle.law_protocol.proofs.Histories.{same_length}
use Rattle.law_minired.specs.Lines.{Means, Says}
use Rattle.law_minired.proofs.Ids.{one_id, forty}

first : List ℕ → ℕ
first [] = 0
first (a ∷ rest) = a

-- no answer begins with both words
full_or_more : (i j : List ℕ) (o : ℕ) → reply_text (reply.FullResync i o) ≡ reply_text (reply.Continue j) → ⊥
unfolding first
full_or_more i j o e = let h : 70 ≡ 67 = ap first e in omega (arith, h)

same_place : (i j : List ℕ) (o p : ℕ) → IsId i → IsId j → o ≤ offset_limit → p ≤ offset_limit → place_text i o ≡ place_text j p → (i ≡ j) × (o ≡ p)
same_place i j o p g h l m both =
    let ids = same_length (digits_of i) (digits_of j) (32 ∷ decimal o) (32 ∷ decimal p) (forty i g ∙ sym (forty j h)) both in
    let rest = append_cancel_left (digits_of j) (32 ∷ decimal o) (32 ∷ decimal p) (ap (λ z. z ++ (32 ∷ decimal o)) (sym ids) ∙ both) in
    let numbers : decimal o ≡ decimal p = cc in
    (one_id i j g h ids, decimal_injective o p (omega (arith, l)) (omega (arith, m)) numbers)

same_full : (t i j : List ℕ) (o p : ℕ) → IsReplyText t (reply.FullResync i o) → IsReplyText t (reply.FullResync j p) → (i ≡ j) × (o ≡ p)
same_full t i j o p x y = same_place i j o p x.0.0 y.0.0 x.0.1 y.0.1 (append_cancel_left (codes "FULLRESYNC ") (place_text i o) (place_text j p) (sym x.1 ∙ y.1))

same_continue : (t i j : List ℕ) → IsReplyText t (reply.Continue i) → IsReplyText t (reply.Continue j) → i ≡ j
same_continue t i j x y = one_id i j x.0 y.0 (append_cancel_left (codes "CONTINUE ") (digits_of i) (digits_of j) (sym x.1 ∙ y.1))

one_meaning : (l : peers.Line) (a b : Line (List ℕ)) → Means l a → Means l b → a ≡ b
one_meaning (status t) (FullResync i o) (FullResync j p) x y =
    let r = same_full t i j o p x y in
    ap (λ z. FullResync z o) r.0 ∙ ap (λ z. FullResync j z) r.1
one_meaning (status t) (FullResync i o) (Continue j) x y = absurd (full_or_more i j o (sym x.1 ∙ y.1))
one_meaning (status t) (FullResync i o) Plain x y = absurd (y (reply.FullResync i o) x)
one_meaning (status t) (FullResync i o) Refusal x y = absurd y
one_meaning (status t) (Continue i) (FullResync j p) x y = absurd (full_or_more j i p (sym y.1 ∙ x.1))
one_meaning (status t) (Continue i) (Continue j) x y = ap (λ z. Continue z) (same_continue t i j x y)
one_meaning (status t) (Continue i) Plain x y = absurd (y (reply.Continue i) x)
one_meaning (status t) (Continue i) Refusal x y = absurd y
one_meaning (status t) Plain (FullResync j p) x y = absurd (x (reply.FullResync j p) y)
one_meaning (status t) Plain (Continue j) x y = absurd (x (reply.Continue j) y)
one_meaning (status t) Plain Plain x y = refl
one_meaning (status t) Plain Refusal x y = absurd y
one_meaning (status t) Refusal b x y = absurd x
one_meaning (refusal t) (FullResync i o) b x y = absurd x
one_meaning (refusal t) (Continue i) b x y = absurd x
one_meaning (refusal t) Plain b x y = absurd x
one_meaning (refusal t) Refusal (FullResync j p) x y = absurd y
one_meaning (refusal t) Refusal (Continue j) x y = absurd y
one_meaning (refusal t) Refusal Plain x y = absurd y
one_meaning (refusal t) Refusal Refusal x y = refl
one_meaning (size n) (FullResync i o) b x y = absurd x
one_meaning (size n) (Continue i) b x y = absurd x
one_meaning (size n) Plain b x y = absurd x
one_meaning (size n) Refusal (FullResync j p) x y = absurd y
one_meaning (size n) Refusal (Continue j) x y = absurd y
one_meaning (size n) Refusal Plain x y = absurd y
one_meaning (size n) Refusal Refusal x y = refl

pub line_text : (t : List ℕ) (l : peers.Line) → IsPeerLine t l → IsLineText t
line_text t l p = (p.front, p.whole)

-- the lines that begin one list are one, and say the same
pub same_said : (s t : List ℕ) (l m : peers.Line) (x y : List ℕ) → IsPeerLine s l → IsPeerLine t m → s ++ x ≡ t ++ y → (s ≡ t) × (l ≡ m)
same_said s t l m x y p q e =
    let same = apart s t x y (line_text s l p) (line_text t m q) e in
    (same, one_line t l m (subst (λ z. IsPeerLine z l) same p) q)

pub says_cut : (s t : List ℕ) (a b : Line (List ℕ)) (x y : List ℕ) → Says s a → Says t b → s ++ x ≡ t ++ y → (s ≡ t) × (a ≡ b)
says_cut s t a b x y p q e =
    let same = same_said s t p.said q.said x y p.whole q.whole e in
    (same.0, one_meaning q.said a b (subst (λ z. Means z a) same.1 p.means) q.means)

ends : (f : List ℕ) → f ++ line_end ≢ []
ends [] e = cc
ends (b ∷ f) e = cc

pub line_some : (t : List ℕ) (l : peers.Line) → IsPeerLine t l → t ≢ []
line_some t l p e = ends p.front (sym p.whole.ended ∙ e)

pub says_some : (t : List ℕ) (a : Line (List ℕ)) → Says t a → t ≢ []
says_some t a p e = line_some t p.said p.whole e
