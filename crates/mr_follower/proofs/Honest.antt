-- Snapshots that make a dataset.
use Rattle.std.proofs.Common.{◌≡◌, ℕ, inl, inr, List, [], ◌∷◌, ◌++◌, length, refl, sym, ap, ◌∙◌, subst, arith, append_assoc, append-nil, length-append}
use Rattle.std.proofs.lemmas.List.{append_cancel_left, append_cancel_right}
use Rattle.mr_inline.specs.Language.{Continues}
use Rattle.mr_keyspace.specs.Dataset.{Dataset}
use Rattle.mr_groups.specs.Effects.{Makes}
use Rattle.mr_peer_lines.specs.Lines.{Line, refusal, size, Says, IsLineText, IsPeerLine}
use Rattle.mr_peer_lines.proofs.Apart.{apart, one_line}
use Rattle.mr_follower.specs.Handshake.{IsGreeting}
use Rattle.mr_follower.specs.Lines.{Begins, IsNoLine, IsShortOf}
use Rattle.mr_follower.specs.Rows.{IsOutOfPlace, Waits}
use Rattle.mr_follower.specs.Following.{BeginsSnapshot, SnapshotIsTaken, SnapshotIsHandedOver}
use Rattle.mr_follower.specs.declared.phase.Phase.{Phase}
use Rattle.mr_follower.specs.declared.phase.Phase.TheVariants as phase
use Rattle.mr_follower.specs.declared.heard.Heard.TheVariants as told
use Rattle.mr_follower.specs.declared.heard.FollowFault.TheVariants as fault
use Rattle.mr_follower.proofs.Loadings.{split_longer, one_made}

not_stream : (p : Phase) (id : List ℕ) (o : ℕ) → p ≡ phase.Snapshot id o → p ≡ phase.Stream → ⊥
not_stream p id o announced streams = let wrong : phase.Snapshot id o ≡ phase.Stream = sym announced ∙ streams in cc

not_psync : (p : Phase) (id : List ℕ) (o : ℕ) → p ≡ phase.Snapshot id o → p ≡ phase.Psync → ⊥
not_psync p id o announced asked = let wrong : phase.Snapshot id o ≡ phase.Psync = sym announced ∙ asked in cc

-- what a line that begins the bytes says is the snapshot's length, and behind it come its bytes
same_line : (u later : List ℕ) (made : Dataset) (l : Line) (rest : List ℕ) (s : BeginsSnapshot u later made) → Begins u l rest → (l ≡ size (length s.bytes)) × (rest ++ later ≡ s.bytes ++ s.behind)
same_line u later made l rest s b =
    let all : b.text ++ (rest ++ later) ≡ s.line ++ (s.bytes ++ s.behind) = sym (append_assoc b.text rest later) ∙ (ap (λ (x : List ℕ). x ++ later) (sym b.is) ∙ s.is) in
    let one : b.text ≡ s.line = apart b.text s.line (rest ++ later) (s.bytes ++ s.behind) (b.says.front, b.says.whole) (s.says.front, s.says.whole) all in
    let says : IsPeerLine s.line l = subst (λ (x : List ℕ). IsPeerLine x l) one b.says in
    (one_line s.line l (size (length s.bytes)) says s.says, append_cancel_left s.line (rest ++ later) (s.bytes ++ s.behind) (ap (λ (x : List ℕ). x ++ (rest ++ later)) (sym one) ∙ all))

same_size : (n k : ℕ) → size n ≡ size k → n ≡ k
same_size n k e = cc

no_line : (u later : List ℕ) (made : Dataset) → BeginsSnapshot u later made → IsNoLine u → ⊥
no_line u later made s (inl doomed) = doomed.never later s.line (s.bytes ++ s.behind) (s.says.front, s.says.whole) s.is
no_line u later made s (inr nothing) =
    let all : nothing.text ++ (nothing.rest ++ later) ≡ s.line ++ (s.bytes ++ s.behind) = sym (append_assoc nothing.text nothing.rest later) ∙ (ap (λ (x : List ℕ). x ++ later) (sym nothing.begins) ∙ s.is) in
    let one : nothing.text ≡ s.line = apart nothing.text s.line (nothing.rest ++ later) (s.bytes ++ s.behind) (nothing.front, nothing.whole) (s.says.front, s.says.whole) all in
    let fronts : s.says.front ≡ nothing.front = append_cancel_right s.says.front nothing.front (13 ∷ 10 ∷ []) (sym s.says.whole.ended ∙ (sym one ∙ nothing.whole.ended)) in
    nothing.nothing (size (length s.bytes)) (subst (λ (x : List ℕ). Says x (size (length s.bytes))) fronts s.says.says)

pub taken : SnapshotIsTaken
taken a b m n made offset o id u later said fault.BadLine announced s (bad, stays) = elim bad.cause [
  | inl nothing ↦ no_line u later made s nothing
  | inr wrong ↦
      let same = same_line u later made wrong.line wrong.rest s wrong.begins in
      let here = subst (λ (p : Phase). IsOutOfPlace p a.offer wrong.line) announced wrong.wrong in
      subst (λ (l : Line). IsOutOfPlace (phase.Snapshot id o) a.offer l) same.0 here
]
taken a b m n made offset o id u later said fault.Refused announced s (bad, stays) =
    let same : refusal bad.text ≡ size (length s.bytes) = (same_line u later made (refusal bad.text) bad.rest s bad.begins).0 in cc
taken a b m n made offset o id u later said fault.Undecodable announced s (inl bad, stays) =
    let same = same_line u later made (size bad.length_of) bad.rest s bad.begins in
    bad.bad s.bytes later s.behind made (sym (same_size bad.length_of (length s.bytes) same.0)) same.1 s.makes
taken a b m n made offset o id u later said fault.Undecodable announced s (inr bad, stays) = not_stream a.phase id o announced bad.streams
taken a b m n made offset o id u later said fault.Memory announced s row = tt
taken a b m n made offset o id u later said fault.Spent announced s row = tt
taken a b m n made offset o id u later said fault.Torn announced s row = not_stream a.phase id o announced row.at.streams

-- where its line is whole, no more of it is waited for
not_begun : (u later : List ℕ) (made : Dataset) → BeginsSnapshot u [] made → Continues IsLineText u → ⊥
not_begun u later made s h =
    let all : s.line ++ ((s.bytes ++ s.behind) ++ h.more) ≡ (u ++ h.more) ++ [] =
    sym (append_assoc s.line (s.bytes ++ s.behind) h.more) ∙ (ap (λ (x : List ℕ). x ++ h.more) (sym s.is ∙ append-nil u) ∙ sym (append-nil (u ++ h.more))) in
    let same = apart s.line (u ++ h.more) ((s.bytes ++ s.behind) ++ h.more) [] (s.says.front, s.says.whole) h.whole all in
    let some = h.some in
    let whole = sym (append-nil u) ∙ s.is in
    omega (arith, some, ap length same, ap length whole, length-append u h.more, length-append s.line (s.bytes ++ s.behind))

not_short : (u : List ℕ) (made : Dataset) → BeginsSnapshot u [] made → IsShortOf u → ⊥
not_short u made s h =
    let same = same_line u [] made (size h.length_of) h.rest s h.begins in
    let count = same_size h.length_of (length s.bytes) same.0 in
    let few = h.missing in
    omega (arith, count, few, ap length same.1, length-append h.rest [], length-append s.bytes s.behind)

pub whole : SnapshotIsHandedOver
whole a b m n made offset o id u said told.Idle announced s row = elim (subst (λ (p : Phase). Waits p u b.kept) announced row.0) [
  | inl begun ↦ absurd (not_begun u [] made s begun)
  | inr half ↦ absurd (not_short u made s half.0)
]
whole a b m n made offset o id u said told.Say announced s row = absurd (subst IsGreeting announced row.0.greeting)
whole a b m n made offset o id u said (told.Full other place) announced s row = absurd (not_psync a.phase id o announced row.0.asked)
whole a b m n made offset o id u said (told.Continue other) announced s row = absurd (not_psync a.phase id o announced row.0.1.asked)
whole a b m n made offset o id u said (told.Snapshot loaded) announced s row =
    let i = row.0 in
    let same = same_line u [] made (size (length i.bytes)) (i.bytes ++ i.rest) s i.begins in
    let count = same_size (length i.bytes) (length s.bytes) same.0 in
    let both : i.bytes ++ i.rest ≡ s.bytes ++ s.behind = sym (append-nil (i.bytes ++ i.rest)) ∙ same.1 in
    let r = split_longer i.bytes i.rest s.bytes s.behind both (omega (arith, count)) in
    let none : length r.0 ≡ 0 = omega (arith, count, ap length r.1.0, length-append s.bytes r.0) in
    let bytes : i.bytes ≡ s.bytes = r.1.0 ∙ (ap (λ (x : List ℕ). s.bytes ++ x) (empty_list r.0 none) ∙ append-nil s.bytes) in
    ap (λ (x : Dataset). told.Snapshot x) (one_made s.bytes loaded made (subst (λ (x : List ℕ). Makes x loaded) bytes i.loads) s.makes)
  where
    empty_list : (xs : List ℕ) → length xs ≡ 0 → xs ≡ []
    empty_list [] e = refl
    empty_list (x ∷ xs) e = absurd (omega (arith, e))
whole a b m n made offset o id u said told.Applied announced s row = absurd (not_stream a.phase id o announced row.streams)
