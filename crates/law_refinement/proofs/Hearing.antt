-- What a follower hears, in the words of histories.
use Rattle.std.proofs.Common.{◌≡◌, ◌≢◌, ◌<◌, ◌⊎◌, inl, inr, ℕ, List, [], ◌++◌, Some, length, length-append, append_assoc, refl, sym, ap, ◌∙◌, arith}
use Rattle.std.proofs.lemmas.List.{append_cancel_left, append-nil}
use Rattle.mr_inline.specs.Language as texts
use Rattle.mr_inline.specs.Language.{IsDoomed}
use Rattle.mr_resp.specs.Command.{IsCommandText}
use Rattle.mr_resp.specs.Usual.{commands}
use Rattle.mr_effect.specs.declared.effect.Effect.{Effect}
use Rattle.mr_keyspace.specs.Dataset.{Dataset}
use Rattle.mr_data.specs.Meaning.{apply_all}
use Rattle.mr_groups.specs.Groups.{IsGoodGroup, group_text}
use Rattle.mr_groups.specs.Reading.{IsOpen}
use Rattle.mr_peer_lines.specs.Lines.{status, size, IsLineText}
use Rattle.mr_peer_lines.specs.Replies.{IsReplyText}
use Rattle.mr_peer_lines.specs.declared.psync.PsyncReply.{PsyncReply}
use Rattle.mr_peer_lines.specs.declared.psync.PsyncReply.TheVariants as reply
use Rattle.mr_peer_lines.proofs.Apart.{apart}
use Rattle.law_protocol.specs.Language.{Line}
use Rattle.law_protocol.specs.Language.Line.{FullResync, Continue, Plain, Refusal}
use Rattle.law_protocol.specs.FollowerRows.{Usable}
use Rattle.law_protocol.specs.FollowerRows.Usable.{a_reply, an_answer, a_snapshot, an_effect}
use Rattle.law_minired.specs.Minired.{minired}
use Rattle.law_minired.specs.Lines.{Says, Means}
use Rattle.law_minired.specs.Snapshots.{IsSnapshot}
use Rattle.law_minired.proofs.Said.{same_said}
use Rattle.mr_follower.specs.State.{FollowState}
use Rattle.mr_follower.specs.Lines as lines
use Rattle.mr_follower.specs.Rows as follow
use Rattle.mr_follower.specs.declared.phase.Phase.{Phase}
use Rattle.mr_follower.specs.declared.phase.Phase.TheVariants as phase
use Rattle.law_refinement.specs.Seeing.{seen_phase}
use Rattle.mr_peer_lines.proofs.Answers.{answer_or, IsAnswer, Settled}

-- ---- nothing whole is there
longer : (whole text rest more : List ℕ) → 0 < length more → text ≡ whole → whole ≡ text ++ (rest ++ more) → ⊥
longer whole text rest more some same e =
    let a : length whole ≡ length (text ++ (rest ++ more)) = ap length e in
    let b = length-append text (rest ++ more) in
    let c = length-append rest more in
    let d : length text ≡ length whole = ap length same in
    omega (arith, some, a, b, c, d)

no_line : (u t rest : List ℕ) → texts.Continues IsLineText u → IsLineText t → u ≡ t ++ rest → ⊥
no_line u t rest w is e =
    let q : (u ++ w.more) ≡ t ++ (rest ++ w.more) = ap (λ z. z ++ w.more) e ∙ append_assoc t rest w.more in
    let same : t ≡ u ++ w.more = apart t (u ++ w.more) (rest ++ w.more) [] is w.whole (sym q ∙ sym (append-nil (u ++ w.more))) in
    longer (u ++ w.more) t rest w.more w.some same q

line_of : (t : List ℕ) (l : Line (List ℕ)) → Says t l → IsLineText t
line_of t l s = (s.whole.front, s.whole.whole)

no_snapshot : (u t rest : List ℕ) (m : Dataset) → texts.Continues IsLineText u ⊎ lines.IsShortOf u → IsSnapshot t m → u ≡ t ++ rest → ⊥
no_snapshot u t rest m (inl w) s e = no_line u s.line (s.commands ++ rest) w (s.says.front, s.says.whole) (e ∙ (ap (λ z. z ++ rest) s.is ∙ append_assoc s.line s.commands rest))
no_snapshot u t rest m (inr h) s e =
    let q : h.begins.text ++ h.rest ≡ s.line ++ (s.commands ++ rest) = sym h.begins.is ∙ (e ∙ (ap (λ z. z ++ rest) s.is ∙ append_assoc s.line s.commands rest)) in
    let both = same_said h.begins.text s.line (size h.length_of) (size (length s.commands)) h.rest (s.commands ++ rest) h.begins.says s.says q in
    let n : h.length_of ≡ length s.commands = size_is h.length_of (length s.commands) both.1 in
    let after : h.rest ≡ s.commands ++ rest = cancel s.line h.rest (s.commands ++ rest) (ap (λ z. z ++ h.rest) (sym both.0) ∙ q) in
    let l = length-append s.commands rest in
    let k : length h.rest ≡ length (s.commands ++ rest) = ap length after in
    let short = h.missing in
    omega (arith, short, n, l, k)
  where
    size_is : (a b : ℕ) → size a ≡ size b → a ≡ b
    size_is a b e = cc

    cancel : (a b c : List ℕ) → a ++ b ≡ a ++ c → b ≡ c
    cancel a b c e = append_cancel_left a b c e

no_group : (u rest : List ℕ) (g : List Effect) → IsOpen u → IsGoodGroup g → u ≡ group_text g ++ rest → ⊥
no_group u rest g w good q = w.none (record { group = g; good = good; behind = rest; is = q })

short_of : {u kept : List ℕ} → texts.Continues IsLineText u ⊎ (lines.IsShortOf u × texts.Continues (IsCommandText commands) kept) → texts.Continues IsLineText u ⊎ lines.IsShortOf u
short_of (inl w) = inl w
short_of (inr h) = inr h.0

pub idles : (p : Phase) (u kept : List ℕ) → follow.Waits p u kept → Usable minired (seen_phase p) u → ⊥
idles phase.Ping u kept w (a_reply j t rest l e s q) = no_line u t rest w (line_of t l s) q
idles phase.Ping u kept w (an_answer t rest l e s q) = absurd (cc)
idles phase.Ping u kept w (a_snapshot i o t rest m e s q) = absurd (cc)
idles phase.Ping u kept w (an_effect x rest e g q) = absurd (cc)
idles phase.Port u kept w (a_reply j t rest l e s q) = no_line u t rest w (line_of t l s) q
idles phase.Port u kept w (an_answer t rest l e s q) = absurd (cc)
idles phase.Port u kept w (a_snapshot i o t rest m e s q) = absurd (cc)
idles phase.Port u kept w (an_effect x rest e g q) = absurd (cc)
idles phase.Capabilities u kept w (a_reply j t rest l e s q) = no_line u t rest w (line_of t l s) q
idles phase.Capabilities u kept w (an_answer t rest l e s q) = absurd (cc)
idles phase.Capabilities u kept w (a_snapshot i o t rest m e s q) = absurd (cc)
idles phase.Capabilities u kept w (an_effect x rest e g q) = absurd (cc)
idles phase.Psync u kept w (a_reply j t rest l e s q) = absurd (cc)
idles phase.Psync u kept w (an_answer t rest l e s q) = no_line u t rest w (line_of t l s) q
idles phase.Psync u kept w (a_snapshot i o t rest m e s q) = absurd (cc)
idles phase.Psync u kept w (an_effect x rest e g q) = absurd (cc)
idles (phase.Snapshot id offset) u kept w (a_reply j t rest l e s q) = absurd (cc)
idles (phase.Snapshot id offset) u kept w (an_answer t rest l e s q) = absurd (cc)
idles (phase.Snapshot id offset) u kept w (a_snapshot i o t rest m e s q) = no_snapshot u t rest m (short_of w) s q
idles (phase.Snapshot id offset) u kept w (an_effect x rest e g q) = absurd (cc)
idles phase.Stream u kept w (a_reply j t rest l e s q) = absurd (cc)
idles phase.Stream u kept w (an_answer t rest l e s q) = absurd (cc)
idles phase.Stream u kept w (a_snapshot i o t rest m e s q) = absurd (cc)
idles phase.Stream u kept w (an_effect x rest e g q) = no_group u rest x w g q

-- ---- lines
-- the unread bytes begin with a line that says this
pub record Hears (u : List ℕ) (line : Line (List ℕ)) (rest : List ℕ) : Type 0 where
  pub text : List ℕ
  pub says : Says text line
  pub begins : u ≡ text ++ rest

pub meaning_of : (t : List ℕ) → Settled (IsAnswer t) → (line : Line (List ℕ)) × (line ≢ Refusal) × Means (status t) line
meaning_of t (inl (a, h)) = go a h
  where
    go : (r : PsyncReply) → IsReplyText t r → (line : Line (List ℕ)) × (line ≢ Refusal) × Means (status t) line
    go (reply.FullResync id o) h = (FullResync id o, (λ e. absurd (cc)), h)
    go (reply.Continue id) h = (Continue id, (λ e. absurd (cc)), h)
meaning_of t (inr n) = (Plain, (λ e. absurd (cc)), λ r h. n (r, h))

-- a line of the handshake is answered by a line that is no refusal
pub greeted : (f g : FollowState) (u told : List ℕ) → follow.Greets f u g told → (line : Line (List ℕ)) × (line ≢ Refusal) × (rest : List ℕ) × Hears u line rest
greeted f g u told r = let m = meaning_of r.text (answer_or r.text) in
    (m.0, m.1, r.rest, record { text = r.answer.text; says = record { said = status r.text; whole = r.answer.says; means = m.2 }; begins = r.answer.is })

pub announced : (f g : FollowState) (u id : List ℕ) (o : ℕ) (next : Phase) → (r : follow.Answers f u (reply.FullResync id o) next g) → Hears u (FullResync id o) r.rest
announced f g u id o next r = record { text = r.answer.text; says = record { said = status r.text; whole = r.answer.says; means = r.reads }; begins = r.answer.is }

pub continued_as : (f g : FollowState) (u id : List ℕ) (next : Phase) → (r : follow.Answers f u (reply.Continue id) next g) → Hears u (Continue id) r.rest
continued_as f g u id next r = record { text = r.answer.text; says = record { said = status r.text; whole = r.answer.says; means = r.reads }; begins = r.answer.is }

-- ---- a snapshot, a group
pub record HasSnapshot (u : List ℕ) (m : Dataset) (rest : List ℕ) : Type 0 where
  pub text : List ℕ
  pub loads : IsSnapshot text m
  pub begins : u ≡ text ++ rest

pub loaded : (f g : FollowState) (u told : List ℕ) (m : Dataset) → (r : follow.Installs f u m g told) → HasSnapshot u m r.rest
loaded f g u told m r = record {
  text = r.begins.text ++ r.bytes;
  loads = record { line = r.begins.text; commands = r.bytes; is = refl; says = r.begins.says; made = r.loads };
  begins = r.begins.is ∙ sym (append_assoc r.begins.text r.bytes r.rest);
}

pub record HasGroup (u : List ℕ) (m n : Dataset) (told rest : List ℕ) : Type 0 where
  pub group : List Effect
  pub good : IsGoodGroup group
  pub is_text : told ≡ group_text group
  pub begins : u ≡ group_text group ++ rest
  pub applies : apply_all group m ≡ Some n

pub applied : (f g : FollowState) (u : List ℕ) (m n : Dataset) (o : ℕ) (told : List ℕ) → (r : follow.Follows f u m o g n told) → HasGroup u m n told r.rest
applied f g u m n o told r = record { group = r.group; good = r.good; is_text = r.is_text; begins = r.begins ∙ ap (λ z. z ++ r.rest) r.is_text; applies = r.applied }
