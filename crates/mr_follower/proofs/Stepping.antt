-- The rows of a step, by what was found at the front of the unread bytes.
use Rattle.std.proofs.Common.{◌≡◌, ℕ, ◌+◌, ◌-◌, ◌≤◌, inl, inr, List, [], ◌++◌, length, take, drop, get_or, Option, Some, None, IsSome, Result, Ok, Err, refl, sym, ap, ◌∙◌, subst, arith, append_assoc, length-append}
use Rattle.std.specs.Prelude.{codes}
use Rattle.std.proofs.lemmas.List.{take-append-drop, length-take-le, append-nil}
use Rattle.mr_inline.specs.Language.{Continues}
use Rattle.mr_resp.specs.Command.{IsCommandText}
use Rattle.mr_resp.specs.Usual.{commands}
use Rattle.mr_resp.specs.Spelling.{line_end}
use Rattle.mr_keyspace.specs.Dataset.{Dataset}
use Rattle.mr_repl.specs.Backlog.{offset_limit}
use Rattle.mr_peer_lines.specs.Lines.{Line, status, refusal, size, IsLineText, IsPeerLine, Says}
use Rattle.mr_repl.specs.ReplId.{digits_of}
use Rattle.mr_peer_lines.specs.Replies.{IsReplyText, place_text}
use Rattle.mr_peer_lines.specs.declared.psync.PsyncReply.{PsyncReply}
use Rattle.mr_peer_lines.specs.declared.psync.PsyncReply.TheVariants as reply
use Rattle.mr_follower.specs.Handshake.{IsGreeting, next_of, line_after}
use Rattle.mr_follower.specs.Lines.{Begins, IsFront, HasStatus, IsShortOf, HearsAnswer, HearsLength, HearsStatus}
use Rattle.std.specs.FinMap.{empty}
use Rattle.std.proofs.lemmas.List.{append_cancel_left}
use Rattle.mr_groups.specs.Effects.{Makes}
use Rattle.mr_groups.proofs.Leading.{leads_further, leads_nowhere}
use Rattle.mr_data.specs.Rebuilding.{rebuilding}
use Rattle.mr_effect.specs.Spelling.{texts}
use Rattle.mr_follower.specs.Loading.{IsDeadEnd, HasEffectWithin, GoesOn, TakesOut, HandsOver}
use Rattle.mr_follower.specs.declared.taking.Taking.{Taking}
use Rattle.mr_follower.specs.declared.taking.Pause.{Pause}
use Rattle.mr_follower.specs.declared.taking.Pause.TheVariants as pause
use Rattle.mr_follower.proofs.Loadings.{leads_behind}
use Rattle.mr_follower.specs.State.{FollowState, AgreesBy, Agrees, Moves, IsTaken, IsTaking}
use Rattle.mr_follower.specs.Stream.{AppliesFront}
use Rattle.mr_effect.specs.declared.effect.Effect.{Effect}
use Rattle.mr_groups.specs.Reading.{IsFirstGroup}
use Rattle.mr_follower.specs.Rows.{BeginsGroup, Waits, MayLack, LacksWithin, WantsLine, IsOutOfPlace, IsWrongLine, IsAmid, Stays, FollowRow, Steps, StepsAside}
use Rattle.mr_follower.specs.declared.phase.Phase.{Phase}
use Rattle.mr_follower.specs.declared.phase.Phase.TheVariants as phase
use Rattle.mr_follower.specs.declared.heard.Heard.{Heard}
use Rattle.mr_follower.specs.declared.heard.Heard.TheVariants as heard
use Rattle.mr_follower.specs.declared.heard.FollowFault.{FollowFault}
use Rattle.mr_follower.specs.declared.heard.FollowFault.TheVariants as fault

-- ---- what agrees
-- where no snapshot is taken, the unread bytes are those that are kept
plain : (p : Phase) (t : Option Taking) (kept u : List ℕ) → ((id : List ℕ) (o : ℕ) → p ≡ phase.Snapshot id o → ⊥) → AgreesBy p t kept u → (t ≡ None) × (u ≡ kept)
plain phase.Ping None kept u other h = (refl, h)
plain phase.Port None kept u other h = (refl, h)
plain phase.Capabilities None kept u other h = (refl, h)
plain phase.Psync None kept u other h = (refl, h)
plain (phase.Snapshot id o) None kept u other h = (refl, h)
plain phase.Stream None kept u other h = (refl, h)
plain phase.Ping (Some t) kept u other h = absurd h
plain phase.Port (Some t) kept u other h = absurd h
plain phase.Capabilities (Some t) kept u other h = absurd h
plain phase.Psync (Some t) kept u other h = absurd h
plain (phase.Snapshot id o) (Some t) kept u other h = absurd (other id o refl)
plain phase.Stream (Some t) kept u other h = absurd h

by_none : (p : Phase) (kept u : List ℕ) → AgreesBy p None kept u → u ≡ kept
by_none phase.Ping kept u h = h
by_none phase.Port kept u h = h
by_none phase.Capabilities kept u h = h
by_none phase.Psync kept u h = h
by_none (phase.Snapshot id o) kept u h = h
by_none phase.Stream kept u h = h

none_by : (p : Phase) (kept : List ℕ) → AgreesBy p None kept kept
none_by phase.Ping kept = refl
none_by phase.Port kept = refl
none_by phase.Capabilities kept = refl
none_by phase.Psync kept = refl
none_by (phase.Snapshot id o) kept = refl
none_by phase.Stream kept = refl

by_some : (p : Phase) (t : Taking) (kept u : List ℕ) → AgreesBy p (Some t) kept u → IsTaken t kept u
by_some phase.Ping t kept u h = absurd h
by_some phase.Port t kept u h = absurd h
by_some phase.Capabilities t kept u h = absurd h
by_some phase.Psync t kept u h = absurd h
by_some (phase.Snapshot id o) t kept u h = h
by_some phase.Stream t kept u h = absurd h

pub untaken : (a : FollowState) (u : List ℕ) → a.taking ≡ None → Agrees a u → u ≡ a.kept
untaken a u none h = by_none a.phase a.kept u (subst (λ (t : Option Taking). AgreesBy a.phase t a.kept u) none h.by)

pub stream_plain : (a : FollowState) (u : List ℕ) → a.phase ≡ phase.Stream → Agrees a u → (a.taking ≡ None) × (u ≡ a.kept)
stream_plain a u streams h = plain a.phase a.taking a.kept u (λ id o e. no_snapshot id o (sym e ∙ streams)) h.by
  where
    no_snapshot : (id : List ℕ) (o : ℕ) → phase.Snapshot id o ≡ phase.Stream → ⊥
    no_snapshot id o e = cc

psync_only : (a : FollowState) → a.phase ≡ phase.Psync → (u : List ℕ) → Agrees a u → u ≡ a.kept
psync_only a asked u h = (plain a.phase a.taking a.kept u (λ id o e. no_snapshot id o (sym e ∙ asked)) h.by).1
  where
    no_snapshot : (id : List ℕ) (o : ℕ) → phase.Snapshot id o ≡ phase.Psync → ⊥
    no_snapshot id o e = cc

greeting_no : (p : Phase) → IsGreeting p → (id : List ℕ) (o : ℕ) → p ≡ phase.Snapshot id o → ⊥
greeting_no phase.Ping g id o e = cc
greeting_no phase.Port g id o e = cc
greeting_no phase.Capabilities g id o e = cc
greeting_no phase.Psync g id o e = absurd g
greeting_no (phase.Snapshot other offset) g id o e = absurd g
greeting_no phase.Stream g id o e = absurd g

greeting_only : (a : FollowState) → IsGreeting a.phase → (u : List ℕ) → Agrees a u → u ≡ a.kept
greeting_only a g u h = (plain a.phase a.taking a.kept u (greeting_no a.phase g) h.by).1

-- a step where the unread bytes are those that are kept
abbrev KeptAside : FollowState → Result Heard FollowFault → FollowState → List ℕ → List ℕ → Type 0
KeptAside a r b before after = Agrees a a.kept → (m : Dataset) (offset : ℕ) → Steps a a.kept m offset r b m before after

aside : (a : FollowState) (r : Result Heard FollowFault) (b : FollowState) (before after : List ℕ) → ((u : List ℕ) → Agrees a u → u ≡ a.kept) → KeptAside a r b before after → StepsAside a r b before after
aside a r b before after only f u m offset h =
    let e = only u h in
    subst (λ (v : List ℕ). Steps a v m offset r b m before after) (sym e) (f (subst (λ (v : List ℕ). Agrees a v) e h) m offset)

still : (a : FollowState) (u : List ℕ) (m : Dataset) → Agrees a u → Stays a u m a m []
still a u m h = record { state = record { waits = refl; offer = refl; port = refl; agrees = h }; held = refl; silent = refl }

moved : (a b : FollowState) (p : Phase) (rest : List ℕ) → b ≡ record a { phase = p; taking = None; kept = rest } → Moves a p rest b
moved a b p rest is = subst (λ (x : FollowState). Moves a p rest x) (sym is) (record { waits = refl; offer = refl; port = refl; agrees = record { by = none_by p rest } })

front_begins : (u : List ℕ) (used : ℕ) (l : Line) → IsFront u used l → Begins u l (drop used u)
front_begins u used l h = record { text = take used u; is = sym (take-append-drop used u); says = h.1 }

stays : (a : FollowState) (m : Dataset) (offset : ℕ) (r : Result Heard FollowFault) (out : List ℕ) → FollowRow a a.kept m offset r a m [] → Steps a a.kept m offset r a m out out
stays a m offset r out row = record { told = []; put = sym (append-nil out); row = row }

-- ---- the handshake
greeting_waits : (p : Phase) (u : List ℕ) → IsGreeting p → Continues IsLineText u → (kept : List ℕ) → Waits p u kept
greeting_waits phase.Ping u g h kept = h
greeting_waits phase.Port u g h kept = h
greeting_waits phase.Capabilities u g h kept = h
greeting_waits phase.Psync u g h kept = absurd g
greeting_waits (phase.Snapshot id offset) u g h kept = absurd g
greeting_waits phase.Stream u g h kept = absurd g

greeting_wants : (p : Phase) → IsGreeting p → WantsLine p
greeting_wants phase.Ping g e = cc
greeting_wants phase.Port g e = cc
greeting_wants phase.Capabilities g e = cc
greeting_wants phase.Psync g e = absurd g
greeting_wants (phase.Snapshot id offset) g e = absurd g
greeting_wants phase.Stream g e = absurd g

greeting_no_size : (p : Phase) (offer : Option (List ℕ × ℕ)) (n : ℕ) → IsGreeting p → IsOutOfPlace p offer (size n)
greeting_no_size phase.Ping offer n g = tt
greeting_no_size phase.Port offer n g = tt
greeting_no_size phase.Capabilities offer n g = tt
greeting_no_size phase.Psync offer n g = absurd g
greeting_no_size (phase.Snapshot id offset) offer n g = absurd g
greeting_no_size phase.Stream offer n g = absurd g

psync_wants : (p : Phase) → p ≡ phase.Psync → WantsLine p
psync_wants p asked e = let wrong : phase.Psync ≡ phase.Stream = sym asked ∙ e in cc

loading_wants : (p : Phase) (id : List ℕ) (o : ℕ) → p ≡ phase.Snapshot id o → WantsLine p
loading_wants p id o announced e = let wrong : phase.Snapshot id o ≡ phase.Stream = sym announced ∙ e in cc

wrong_line : (a : FollowState) (used : ℕ) (l : Line) → IsFront a.kept used l → IsOutOfPlace a.phase a.offer l → IsWrongLine a a.kept
wrong_line a used l h wrong = record { line = l; rest = drop used a.kept; begins = front_begins a.kept used l h; wrong = wrong }

-- what is no line, or none that is an answer, where a `$` line is none
status_fault : (a : FollowState) (f : FollowFault) → WantsLine a.phase → ((n : ℕ) → IsOutOfPlace a.phase a.offer (size n)) → HearsStatus a.kept (Err f) → (out : List ℕ) → KeptAside a (Err f) a out out
status_fault a fault.BadLine wants none (inl h) out ag m o = stays a m o (Err fault.BadLine) out (record { wants = wants; cause = inl h }, still a a.kept m ag)
status_fault a fault.BadLine wants none (inr h) out ag m o =
    stays a m o (Err fault.BadLine) out (record { wants = wants; cause = inr (wrong_line a h.0 (size h.1.0) h.1.1 (none h.1.0)) }, still a a.kept m ag)
status_fault a fault.Refused wants none h out ag m o =
    stays a m o (Err fault.Refused) out (record { wants = wants; text = h.1.0; rest = drop h.0 a.kept; begins = front_begins a.kept h.0 (refusal h.1.0) h.1.1 }, still a a.kept m ag)
status_fault a fault.Undecodable wants none h out ag m o = absurd h
status_fault a fault.Memory wants none h out ag m o = absurd h
status_fault a fault.Spent wants none h out ag m o = absurd h
status_fault a fault.Torn wants none h out ag m o = absurd h

pub greet_fault : (a : FollowState) (f : FollowFault) → IsGreeting a.phase → HearsStatus a.kept (Err f) → (out : List ℕ) → StepsAside a (Err f) a out out
greet_fault a f g h out = aside a (Err f) a out out (greeting_only a g) (status_fault a f (greeting_wants a.phase g) (λ n. greeting_no_size a.phase a.offer n g) h out)

pub greet_idle : (a : FollowState) → IsGreeting a.phase → Continues IsLineText a.kept → (out : List ℕ) → StepsAside a (Ok heard.Idle) a out out
greet_idle a g h out = aside a (Ok heard.Idle) a out out (greeting_only a g) (λ ag m o. stays a m o (Ok heard.Idle) out (greeting_waits a.phase a.kept g h a.kept, still a a.kept m ag))

greeting_lacks : (p : Phase) (u : List ℕ) (offset : ℕ) (m : Dataset) → IsGreeting p → HasStatus u → (kept : List ℕ) → MayLack p offset u kept m
greeting_lacks phase.Ping u offset m g h kept = h
greeting_lacks phase.Port u offset m g h kept = h
greeting_lacks phase.Capabilities u offset m g h kept = h
greeting_lacks phase.Psync u offset m g h kept = absurd g
greeting_lacks (phase.Snapshot id o) u offset m g h kept = absurd g
greeting_lacks phase.Stream u offset m g h kept = absurd g

pub no_memory : (a : FollowState) (used : ℕ) (text before after : List ℕ) → IsGreeting a.phase → IsFront a.kept used (status text) → after ≡ before → StepsAside a (Err fault.Memory) a before after
no_memory a used text before after g h same = aside a (Err fault.Memory) a before after (greeting_only a g)
    (λ ag m o. record { told = []; put = same ∙ sym (append-nil before); row = (greeting_lacks a.phase a.kept o m g (used, (text, h)) a.kept, still a a.kept m ag) })

pub greet_said : (a b : FollowState) (used : ℕ) (text before after : List ℕ) → IsGreeting a.phase → IsFront a.kept used (status text) → after ≡ before ++ line_after a.phase a.port a.offer
    → b ≡ record a { phase = next_of a.phase; taking = None; kept = drop used a.kept } → StepsAside a (Ok heard.Say) b before after
greet_said a b used text before after g h put is = aside a (Ok heard.Say) b before after (greeting_only a g) (λ ag m o. record {
  told = line_after a.phase a.port a.offer;
  put = put;
  row = (
    record {
      greeting = g;
      text = text;
      rest = drop used a.kept;
      answer = front_begins a.kept used (status text) h;
      says = refl;
      state = moved a b (next_of a.phase) (drop used a.kept) is;
    },
    refl,
  );
})

-- ---- the answer to PSYNC
pub answer_idle : (a : FollowState) → a.phase ≡ phase.Psync → Continues IsLineText a.kept → (out : List ℕ) → StepsAside a (Ok heard.Idle) a out out
answer_idle a asked h out = aside a (Ok heard.Idle) a out out (psync_only a asked) (λ ag m o. stays a m o (Ok heard.Idle) out (subst (λ (p : Phase). Waits p a.kept a.kept) (sym asked) h, still a a.kept m ag))

pub answer_full : (a b : FollowState) (used : ℕ) (text id : List ℕ) (o : ℕ) → a.phase ≡ phase.Psync → IsFront a.kept used (status text) → IsReplyText text (reply.FullResync id o)
    → b ≡ record a { phase = phase.Snapshot id o; taking = None; kept = drop used a.kept } → (out : List ℕ) → StepsAside a (Ok (heard.Full id o)) b out out
answer_full a b used text id o asked h reads is out = aside a (Ok (heard.Full id o)) b out out (psync_only a asked) (λ ag m offset. record {
  told = [];
  put = sym (append-nil out);
  row = (
    record {
      asked = asked;
      text = text;
      rest = drop used a.kept;
      answer = front_begins a.kept used (status text) h;
      reads = reads;
      state = moved a b (phase.Snapshot id o) (drop used a.kept) is;
    },
    record { held = refl; silent = refl },
  );
})

pub answer_continue : (a b : FollowState) (used : ℕ) (text id : List ℕ) → a.phase ≡ phase.Psync → IsSome a.offer → IsFront a.kept used (status text) → IsReplyText text (reply.Continue id)
    → b ≡ record a { phase = phase.Stream; taking = None; kept = drop used a.kept } → (out : List ℕ) → StepsAside a (Ok (heard.Continue id)) b out out
answer_continue a b used text id asked offered h reads is out = aside a (Ok (heard.Continue id)) b out out (psync_only a asked) (λ ag m offset. record {
  told = [];
  put = sym (append-nil out);
  row = (
    (
      offered,
      record {
        asked = asked;
        text = text;
        rest = drop used a.kept;
        answer = front_begins a.kept used (status text) h;
        reads = reads;
        state = moved a b phase.Stream (drop used a.kept) is;
      },
    ),
    record { held = refl; silent = refl },
  );
})

pub answer_wrong : (a : FollowState) (used : ℕ) (text : List ℕ) → a.phase ≡ phase.Psync → IsFront a.kept used (status text)
    → ((r : PsyncReply) → IsReplyText text r → (a.offer ≡ None) × ((id : List ℕ) × (r ≡ reply.Continue id))) → (out : List ℕ) → StepsAside a (Err fault.BadLine) a out out
answer_wrong a used text asked h none out = aside a (Err fault.BadLine) a out out (psync_only a asked) (λ ag m o. stays a m o (Err fault.BadLine) out (
  record {
    wants = psync_wants a.phase asked;
    cause = inr (wrong_line a used (status text) h (subst (λ (p : Phase). IsOutOfPlace p a.offer (status text)) (sym asked) none));
  },
  still a a.kept m ag,
))

pub answer_fault : (a : FollowState) (f : FollowFault) → a.phase ≡ phase.Psync → HearsAnswer a.kept (Err f) → (out : List ℕ) → StepsAside a (Err f) a out out
answer_fault a fault.BadLine asked (inl h) out = aside a (Err fault.BadLine) a out out (psync_only a asked) (status_fault a fault.BadLine (psync_wants a.phase asked) (λ n. subst (λ (p : Phase). IsOutOfPlace p a.offer (size n)) (sym asked) tt) h out)
answer_fault a fault.BadLine asked (inr h) out = answer_wrong a h.used h.text asked h.front (λ r p. absurd (h.other r p)) out
answer_fault a fault.Refused asked h out = aside a (Err fault.Refused) a out out (psync_only a asked) (status_fault a fault.Refused (psync_wants a.phase asked) (λ n. subst (λ (p : Phase). IsOutOfPlace p a.offer (size n)) (sym asked) tt) h out)
answer_fault a fault.Undecodable asked h out = absurd h
answer_fault a fault.Memory asked h out = absurd h
answer_fault a fault.Spent asked h out = absurd h
answer_fault a fault.Torn asked h out = absurd h

-- a text that answers CONTINUE answers nothing else
pub only_continue : (text id : List ℕ) (r : PsyncReply) → text ≡ codes "CONTINUE " ++ digits_of id → IsReplyText text r → (other : List ℕ) × (r ≡ reply.Continue other)
only_continue text id (reply.FullResync other o) is h =
    let begins : codes "CONTINUE " ++ digits_of id ≡ codes "FULLRESYNC " ++ place_text other o = sym is ∙ h.1 in
    let heads : 67 ≡ 70 = ap (λ (l : List ℕ). get_or l 0 0) begins in
    absurd (omega (arith, heads))
only_continue text id (reply.Continue other) is h = (other, refl)

-- nothing can be continued that wasn't offered
pub answer_unasked : (a : FollowState) (used : ℕ) (text id : List ℕ) → a.phase ≡ phase.Psync → a.offer ≡ None → IsFront a.kept used (status text) → IsReplyText text (reply.Continue id) → (out : List ℕ) → StepsAside a (Err fault.BadLine) a out out
answer_unasked a used text id asked none h reads = answer_wrong a used text asked h (λ r p. (none, only_continue text id r reads.1 p))

-- ---- the snapshot
announced_status : (p : Phase) (offer : Option (List ℕ × ℕ)) (id text : List ℕ) (o : ℕ) → p ≡ phase.Snapshot id o → IsOutOfPlace p offer (status text)
announced_status p offer id text o announced = subst (λ (q : Phase). IsOutOfPlace q offer (status text)) (sym announced) tt

-- what stands in the place of a snapshot's length is no line, or none of a length
length_fault : (a : FollowState) (f : FollowFault) (id : List ℕ) (o : ℕ) → a.phase ≡ phase.Snapshot id o → HearsLength a.kept (Err f) → (out : List ℕ) → KeptAside a (Err f) a out out
length_fault a fault.BadLine id o announced (inl h) out ag m offset =
    stays a m offset (Err fault.BadLine) out (record { wants = loading_wants a.phase id o announced; cause = inl h }, still a a.kept m ag)
length_fault a fault.BadLine id o announced (inr h) out ag m offset =
    stays a m offset (Err fault.BadLine) out (
      record {
        wants = loading_wants a.phase id o announced;
        cause = inr (wrong_line a h.0 (status h.1.0) h.1.1 (announced_status a.phase a.offer id h.1.0 o announced));
      },
      still a a.kept m ag,
    )
length_fault a fault.Refused id o announced h out ag m offset =
    stays a m offset (Err fault.Refused) out (
      record {
        wants = loading_wants a.phase id o announced;
        text = h.1.0;
        rest = drop h.0 a.kept;
        begins = front_begins a.kept h.0 (refusal h.1.0) h.1.1;
      },
      still a a.kept m ag,
    )
length_fault a fault.Undecodable id o announced h out ag m offset = absurd h
length_fault a fault.Memory id o announced h out ag m offset = absurd h
length_fault a fault.Spent id o announced h out ag m offset = absurd h
length_fault a fault.Torn id o announced h out ag m offset = absurd h

pub load_fault : (a b : FollowState) (f : FollowFault) (id : List ℕ) (o : ℕ) → a.phase ≡ phase.Snapshot id o → TakesOut a (Err f) b → (out : List ℕ) → StepsAside a (Err f) b out out
load_fault a b f id o announced h out = subst (λ (x : FollowState). StepsAside a (Err f) x out out) (sym h.0)
    (aside a (Err f) a out out (λ u ag. untaken a u h.1.0 ag) (length_fault a f id o announced h.1.1 out))

pub load_idle : (a b : FollowState) (id : List ℕ) (o : ℕ) → a.phase ≡ phase.Snapshot id o → TakesOut a (Ok None) b → (out : List ℕ) → StepsAside a (Ok heard.Idle) b out out
load_idle a b id o announced h out = subst (λ (x : FollowState). StepsAside a (Ok heard.Idle) x out out) (sym h.0)
    (aside a (Ok heard.Idle) a out out (λ u ag. untaken a u h.1.0 ag)
    (λ ag m offset. stays a m offset (Ok heard.Idle) out (subst (λ (p : Phase). Waits p a.kept a.kept) (sym announced) (inl h.1.1), still a a.kept m ag)))

-- what was there is taken out
pub some_out : (a b : FollowState) (t : Taking) → a.taking ≡ Some t → IsTaking t → b ≡ record a { taking = None } → TakesOut a (Ok (Some t)) b
some_out a b t there good is =
    let kept : b.kept ≡ a.kept = ap (λ (f : FollowState). f.kept) is in (
      good,
      (
        is ∙ ap (λ (l : List ℕ). record a { taking = None; kept = l }) (sym kept),
        λ u ag. subst (λ (l : List ℕ). IsTaken t l u) (sym kept) (by_some a.phase t a.kept u (subst (λ (x : Option Taking). AgreesBy a.phase x a.kept u) there ag.by)),
      ),
    )

said_size : (front : List ℕ) (n : ℕ) → Says front (size n) → n ≤ offset_limit
said_size front n h = h.1

-- .. or the line of a length is
pub line_out : (a b : FollowState) (t : Taking) (used : ℕ) → a.taking ≡ None → IsFront a.kept used (size t.size) → t.head ≡ used → t.done ≡ 0 → t.made ≡ empty → b ≡ record a { taking = None; kept = drop used a.kept } → TakesOut a (Ok (Some t)) b
line_out a b t used none line head done made is =
    let kept : b.kept ≡ drop used a.kept = ap (λ (f : FollowState). f.kept) is in
    let count = length-take-le used a.kept line.0 in
    let long = ap length line.1.whole.ended in
    let whole = length-append line.1.front line_end in
    let short = line.1.whole.short in
    let counted = said_size line.1.front t.size line.1.says in (
      record { head = omega (arith, head, count, long, whole, short); size = counted; done = omega (arith, done) },
      (
        is ∙ ap (λ (l : List ℕ). record a { taking = None; kept = l }) (sym kept),
        λ u ag. record {
          line = take used a.kept;
          front = [];
          is = untaken a u none ag ∙ sym (take-append-drop used a.kept) ∙ ap (λ (l : List ℕ). take used a.kept ++ l) (sym kept);
          says = line.1;
          makes = subst (λ (m : Dataset). Makes [] m) (sym made) (leads_nowhere empty);
          head = omega (arith, head, count);
          done = omega (arith, done);
        },
      ),
    )

-- what was taken, with what was taken now
pub taken_on : (t s : Taking) (kept u : List ℕ) (used : ℕ) (p : Pause) (g : GoesOn t kept used p s) → s.made ≡ g.made → IsTaken t kept u → IsTaken s (drop used kept) u
taken_on t s kept u used p g made h =
    let front = h.front ++ take used kept in
    let long = length-append h.front (take used kept) in
    record {
      line = h.line;
      front = front;
      is = h.is ∙ ap (λ (l : List ℕ). h.line ++ l) (ap (λ (l : List ℕ). h.front ++ l) (sym (take-append-drop used kept)) ∙ sym (append_assoc h.front (take used kept) (drop used kept)));
      says = subst (λ (n : ℕ). IsPeerLine h.line (size n)) (sym g.size) h.says;
      makes = subst (λ (m : Dataset). Makes front m) (sym made) (leads_further h.front (take used kept) empty t.made g.made h.makes g.led);
      head = h.head ∙ sym g.head;
      done = omega (arith, long, length-take-le used kept g.inside, h.done, g.done);
    }

amid : (t s : Taking) (kept u : List ℕ) (used : ℕ) (p : Pause) (g : GoesOn t kept used p s) → IsTaken t kept u → IsAmid u g.made (s.size - s.done) (drop used kept)
amid t s kept u used p g h =
    let front = h.front ++ take used kept in
    let long = length-append h.front (take used kept) in
    record {
      length_of = s.size;
      front = front;
      begins = record {
        text = h.line;
        is = h.is ∙ ap (λ (l : List ℕ). h.line ++ l) (ap (λ (l : List ℕ). h.front ++ l) (sym (take-append-drop used kept)) ∙ sym (append_assoc h.front (take used kept) (drop used kept)));
        says = subst (λ (n : ℕ). IsPeerLine h.line (size n)) (sym g.size) h.says;
      };
      makes = leads_further h.front (take used kept) empty t.made g.made h.makes g.led;
      counted = omega (arith, long, length-take-le used kept g.inside, h.done, g.done, g.within);
    }

moved_on : (a b : FollowState) (s : Taking) (kept u : List ℕ) (id : List ℕ) (o : ℕ) → a.phase ≡ phase.Snapshot id o → b ≡ record a { taking = Some s; kept = kept } → IsTaken s kept u → Moves a a.phase u b
moved_on a b s kept u id o announced is taken = subst (λ (x : FollowState). Moves a a.phase u x) (sym is) (record {
  waits = refl;
  offer = refl;
  port = refl;
  agrees = record { by = subst (λ (p : Phase). AgreesBy p (Some s) kept u) (sym announced) taken };
})

put_on : (a b : FollowState) (s : Taking) (kept u : List ℕ) (m : Dataset) (id : List ℕ) (o : ℕ) → a.phase ≡ phase.Snapshot id o → b ≡ record a { taking = Some s; kept = kept } → IsTaken s kept u → Stays a u m b m []
put_on a b s kept u m id o announced is taken = record { state = moved_on a b s kept u id o announced is taken; held = refl; silent = refl }

silent : (a : FollowState) (u : List ℕ) (m : Dataset) (offset : ℕ) (r : Result Heard FollowFault) (b : FollowState) (out : List ℕ) → FollowRow a u m offset r b m [] → Steps a u m offset r b m out out
silent a u m offset r b out row = record { told = []; put = sym (append-nil out); row = row }

-- ---- the same state, as the code puts it together
pub retaken : (a v : FollowState) (t s : Option Taking) (kept rest : List ℕ) → v ≡ a → t ≡ s → kept ≡ rest → record v { taking = t; kept = kept } ≡ record a { taking = s; kept = rest }
retaken a v t s kept rest is there left = λ i. record (is i) { taking = there i; kept = left i }

pub put_is : (a v b c : FollowState) (s : Taking) (used : ℕ) (rest : List ℕ) → v ≡ b → b ≡ record a { taking = None; kept = b.kept } → rest ≡ drop used v.kept → c ≡ record v { taking = Some s; kept = rest }
    → c ≡ record a { taking = Some s; kept = drop used b.kept }
put_is a v b c s used rest is taken left put =
    let rests : rest ≡ drop used b.kept = left ∙ ap (λ (f : FollowState). drop used f.kept) is in
    put ∙ (retaken b v (Some s) (Some s) rest (drop used b.kept) is refl rests ∙ ap (λ (f : FollowState). record f { taking = Some s; kept = drop used b.kept }) taken)

pub left_is : (a v b : FollowState) (used : ℕ) (rest : List ℕ) → v ≡ b → b ≡ record a { taking = None; kept = b.kept } → rest ≡ drop used v.kept → record v { kept = rest } ≡ record a { taking = None; kept = drop used b.kept }
left_is a v b used rest is taken left =
    let rests : rest ≡ drop used b.kept = left ∙ ap (λ (f : FollowState). drop used f.kept) is in
    (λ i. record (is i) { kept = rests i }) ∙ ap (λ (f : FollowState). record f { kept = drop used b.kept }) taken

pub load_more : (a b : FollowState) (t s : Taking) (kept id : List ℕ) (o used : ℕ) → a.phase ≡ phase.Snapshot id o → ((u : List ℕ) → Agrees a u → IsTaken t kept u) → GoesOn t kept used pause.More s
    → b ≡ record a { taking = Some s; kept = drop used kept } → (out : List ℕ) → StepsAside a (Ok heard.Idle) b out out
load_more a b t s kept id o used announced takes g is out u m offset ag =
    let h = takes u ag in
    let at = amid t s kept u used pause.More g h in
    let few = g.pauses.1.0 in
    let left : b.kept ≡ drop used kept = ap (λ (f : FollowState). f.kept) is in
    let short : IsShortOf u = record { length_of = at.length_of; rest = at.front ++ drop used kept; begins = at.begins; missing = omega (arith, length-append at.front (drop used kept), at.counted, few) } in
    let little = subst (λ (l : List ℕ). Continues (IsCommandText commands) l) (sym left) g.pauses.1.1 in
    silent a u m offset (Ok heard.Idle) b out (
      subst (λ (p : Phase). Waits p u b.kept) (sym announced) (inr (short, little)),
      put_on a b s (drop used kept) u m id o announced is (taken_on t s kept u used pause.More g g.pauses.0 h),
    )

-- no bytes make a dataset that begin with these, or with which these begin
no_dataset : (u : List ℕ) (made : Dataset) (left : ℕ) (kept : List ℕ) (at : IsAmid u made left kept) → IsDeadEnd made left kept
    → (bytes more behind : List ℕ) (n : Dataset) → length bytes ≡ at.length_of → (at.front ++ kept) ++ more ≡ bytes ++ behind → Makes bytes n → ⊥
no_dataset u made left kept at dead bytes more behind n count e makes =
    let whole : at.front ++ (kept ++ more) ≡ bytes ++ behind = sym (append_assoc at.front kept more) ∙ e in
    let r = leads_behind at.front bytes (kept ++ more) behind made n at.makes makes whole (omega (arith, at.counted, count)) in
    let rest : at.front ++ (kept ++ more) ≡ at.front ++ (r.0 ++ behind) = whole ∙ (ap (λ (l : List ℕ). l ++ behind) r.1.0 ∙ append_assoc at.front r.0 behind) in
    let long = length-append at.front r.0 in
    dead r.0 more behind n (omega (arith, ap length r.1.0, long, at.counted, count)) (append_cancel_left at.front (kept ++ more) (r.0 ++ behind) rest) r.1.1

pub load_bad : (a b : FollowState) (t s : Taking) (kept id : List ℕ) (o used : ℕ) → a.phase ≡ phase.Snapshot id o → ((u : List ℕ) → Agrees a u → IsTaken t kept u) → GoesOn t kept used pause.Bad s
    → b ≡ record a { taking = Some s; kept = drop used kept } → (out : List ℕ) → StepsAside a (Err fault.Undecodable) b out out
load_bad a b t s kept id o used announced takes g is out u m offset ag =
    let h = takes u ag in
    let at = amid t s kept u used pause.Bad g h in
    silent a u m offset (Err fault.Undecodable) b out (
      inl (record {
        id = id;
        offset = o;
        announced = announced;
        length_of = at.length_of;
        rest = at.front ++ drop used kept;
        begins = at.begins;
        bad = no_dataset u g.made (s.size - s.done) (drop used kept) at g.pauses.1;
      }),
      put_on a b s (drop used kept) u m id o announced is (taken_on t s kept u used pause.Bad g g.pauses.0 h),
    )

pub load_lacks : (a b : FollowState) (t s : Taking) (kept id : List ℕ) (o used : ℕ) → a.phase ≡ phase.Snapshot id o → ((u : List ℕ) → Agrees a u → IsTaken t kept u) → GoesOn t kept used pause.Lack s
    → b ≡ record a { taking = Some s; kept = drop used kept } → (out : List ℕ) → StepsAside a (Err fault.Memory) b out out
load_lacks a b t s kept id o used announced takes g is out u m offset ag =
    let h = takes u ag in
    let left : b.kept ≡ drop used kept = ap (λ (f : FollowState). f.kept) is in
    let at = amid t s kept u used pause.Lack g h in
    silent a u m offset (Err fault.Memory) b out (
      subst (λ (p : Phase). MayLack p offset u b.kept m) (sym announced)
          (subst (λ (l : List ℕ). LacksWithin u l) (sym left) (g.made, (s.size - s.done, (at, inl g.pauses.1)))),
      put_on a b s (drop used kept) u m id o announced is (taken_on t s kept u used pause.Lack g g.pauses.0 h),
    )

pub load_spent : (a b : FollowState) (t s : Taking) (kept id : List ℕ) (o used : ℕ) → a.phase ≡ phase.Snapshot id o → ((u : List ℕ) → Agrees a u → IsTaken t kept u) → GoesOn t kept used pause.Spent s
    → b ≡ record a { taking = None; kept = drop used kept } → (out : List ℕ) → StepsAside a (Err fault.Spent) b out out
load_spent a b t s kept id o used announced takes g is out u m offset ag =
    let h = takes u ag in
    let left : b.kept ≡ drop used kept = ap (λ (f : FollowState). f.kept) is in
    silent a u m offset (Err fault.Spent) b out (record {
      cause = inr (record {
        id = id;
        offset = o;
        announced = announced;
        made = g.made;
        left = s.size - s.done;
        amid = subst (λ (l : List ℕ). IsAmid u g.made (s.size - s.done) l) (sym left) (amid t s kept u used pause.Spent g h);
        effect = subst (λ (l : List ℕ). HasEffectWithin g.made (s.size - s.done) l) (sym left) g.pauses;
        unread = record { by = subst (λ (t : Option Taking). AgreesBy b.phase t b.kept b.kept) (sym (ap (λ (f : FollowState). f.taking) is)) (none_by b.phase b.kept) };
        stays = refl;
      });
      waits = ap (λ (f : FollowState). f.phase) is;
      offer = ap (λ (f : FollowState). f.offer) is;
      port = ap (λ (f : FollowState). f.port) is;
      silent = refl;
    })

pub load_whole : (a d b : FollowState) (t s : Taking) (kept id : List ℕ) (o used : ℕ) (r : Result Heard FollowFault) (before after : List ℕ) → a.phase ≡ phase.Snapshot id o → ((u : List ℕ) → Agrees a u → IsTaken t kept u)
    → GoesOn t kept used pause.Whole s → d ≡ record a { taking = None; kept = drop used kept } → HandsOver d s r b before after → StepsAside a r b before after
load_whole a d b t s kept id o used (Ok heard.Idle) before after announced takes g is h = absurd h
load_whole a d b t s kept id o used (Ok heard.Say) before after announced takes g is h = absurd h
load_whole a d b t s kept id o used (Ok (heard.Full other offset)) before after announced takes g is h = absurd h
load_whole a d b t s kept id o used (Ok (heard.Continue other)) before after announced takes g is h = absurd h
load_whole a d b t s kept id o used (Ok (heard.Snapshot loaded)) before after announced takes g is h = λ u m offset ag.
    let taken = takes u ag in
    let at = amid t s kept u used pause.Whole g taken in
    let none = g.pauses.1 in
    let all : at.length_of ≡ length at.front = omega (arith, at.counted, none) in
    let made : loaded ≡ g.made = h.0 ∙ g.pauses.0 in
    record {
      told = texts (rebuilding s.made);
      put = h.1.1.0;
      row = (
        record {
          id = id;
          offset = o;
          announced = announced;
          bytes = at.front;
          rest = drop used kept;
          begins = subst (λ (n : ℕ). Begins u (size n) (at.front ++ drop used kept)) all at.begins;
          loads = subst (λ (n : Dataset). Makes at.front n) (sym made) at.makes;
          rebuilds = ap (λ (n : Dataset). texts (rebuilding n)) (sym h.0);
          again = subst (λ (n : Dataset). Makes (texts (rebuilding s.made)) n) (sym h.0) h.1.1.1;
          state = moved a b phase.Stream (drop used kept) (h.1.0 ∙ ap (λ (f : FollowState). record f { phase = phase.Stream; taking = None }) is);
        },
        refl,
      );
    }
load_whole a d b t s kept id o used (Ok heard.Applied) before after announced takes g is h = absurd h
load_whole a d b t s kept id o used (Err fault.BadLine) before after announced takes g is h = absurd h
load_whole a d b t s kept id o used (Err fault.Refused) before after announced takes g is h = absurd h
load_whole a d b t s kept id o used (Err fault.Undecodable) before after announced takes g is h = absurd h
load_whole a d b t s kept id o used (Err fault.Memory) before after announced takes g is h = λ u m offset ag.
    let taken = takes u ag in
    let at = amid t s kept u used pause.Whole g taken in
    let state : b ≡ record a { taking = Some s; kept = drop used kept } = h.0 ∙ ap (λ (f : FollowState). record f { taking = Some s }) is in
    let left : b.kept ≡ drop used kept = ap (λ (f : FollowState). f.kept) state in
    record {
      told = [];
      put = h.1 ∙ sym (append-nil before);
      row = (
        subst (λ (p : Phase). MayLack p offset u b.kept m) (sym announced) (subst (λ (l : List ℕ). LacksWithin u l) (sym left) (g.made, (s.size - s.done, (at, inr g.pauses.1)))),
        put_on a b s (drop used kept) u m id o announced state (taken_on t s kept u used pause.Whole g g.pauses.0 taken),
      );
    }
load_whole a d b t s kept id o used (Err fault.Spent) before after announced takes g is h = absurd h
load_whole a d b t s kept id o used (Err fault.Torn) before after announced takes g is h = absurd h

-- ---- the stream
-- a step of the stream, where the unread bytes are those that are kept
pub at_unread : (a : FollowState) (m : Dataset) (offset : ℕ) (r : Result Heard FollowFault) (b : FollowState) (n : Dataset) (before after : List ℕ) → a.phase ≡ phase.Stream
    → (Agrees a a.kept → Steps a a.kept m offset r b n before after) → (u : List ℕ) → Agrees a u → Steps a u m offset r b n before after
at_unread a m offset r b n before after streams f u h =
    let e = (stream_plain a u streams h).1 in
    subst (λ (v : List ℕ). Steps a v m offset r b n before after) (sym e) (f (subst (λ (v : List ℕ). Agrees a v) e h))

kept_still : (a : FollowState) (m n : Dataset) → Agrees a a.kept → n ≡ m → Stays a a.kept m a n []
kept_still a m n ag same = record { state = record { waits = refl; offer = refl; port = refl; agrees = ag }; held = same; silent = refl }

pub follow_idle : (a : FollowState) (m n : Dataset) (offset room : ℕ) (before after : List ℕ) → a.phase ≡ phase.Stream → AppliesFront a.kept room m (Ok None) n before after → (u : List ℕ) → Agrees a u → Steps a u m offset (Ok heard.Idle) a n before after
follow_idle a m n offset room before after streams h = at_unread a m offset (Ok heard.Idle) a n before after streams (λ ag. record {
  told = [];
  put = h.1.1 ∙ sym (append-nil before);
  row = (subst (λ (p : Phase). Waits p a.kept a.kept) (sym streams) h.0, kept_still a m n ag h.1.0);
})

-- the group at the front isn't used
abbrev at_group : (a : FollowState) (room offset used : ℕ) (es : List Effect) → a.phase ≡ phase.Stream → offset + room ≡ offset_limit → Agrees a a.kept → IsFirstGroup a.kept es used → used ≤ room → BeginsGroup a a.kept offset a
at_group a room offset used es streams all ag first few = record {
  streams = streams;
  unread = ag;
  group = es;
  good = first.good;
  rest = drop used a.kept;
  begins = sym (take-append-drop used a.kept) ∙ ap (λ (l : List ℕ). l ++ drop used a.kept) first.is_text;
  within = omega (arith, few, all, ap length first.is_text, length-take-le used a.kept first.within);
}

follow_fails : (a : FollowState) (m n : Dataset) (offset room : ℕ) (f : FollowFault) (before after : List ℕ) → a.phase ≡ phase.Stream → offset + room ≡ offset_limit → AppliesFront a.kept room m (Err f) n before after
    → Agrees a a.kept → Steps a a.kept m offset (Err f) a n before after
follow_fails a m n offset room fault.BadLine before after streams all h ag = absurd h
follow_fails a m n offset room fault.Refused before after streams all h ag = absurd h
follow_fails a m n offset room fault.Undecodable before after streams all h ag = record {
  told = [];
  put = h.1.1 ∙ sym (append-nil before);
  row = (inr (record { streams = streams; room = room; limit = all; refused = h.0 }), kept_still a m n ag h.1.0);
}
follow_fails a m n offset room fault.Memory before after streams all h ag = record {
  told = [];
  put = h.1.1 ∙ sym (append-nil before);
  row = (subst (λ (p : Phase). MayLack p offset a.kept a.kept m) (sym streams) (room, (all, h.0)), kept_still a m n ag h.1.0);
}
follow_fails a m n offset room fault.Spent before after streams all h ag =
    let s = h.0 in
    record {
      told = [];
      put = h.1 ∙ sym (append-nil before);
      row = record {
        cause = inl (record { at = at_group a room offset s.used s.group streams all ag s.first s.within; begun = s.begun; heavy = s.heavy; emptied = s.emptied });
        waits = refl;
        offer = refl;
        port = refl;
        silent = refl;
      };
    }
follow_fails a m n offset room fault.Torn before after streams all h ag =
    let s = h.0 in
    record {
      told = [];
      put = h.1 ∙ sym (append-nil before);
      row = record { at = at_group a room offset s.used s.group streams all ag s.first s.within; torn = s.torn; waits = refl; offer = refl; port = refl; silent = refl };
    }

pub follow_fault : (a : FollowState) (m n : Dataset) (offset room : ℕ) (f : FollowFault) (before after : List ℕ) → a.phase ≡ phase.Stream → offset + room ≡ offset_limit → AppliesFront a.kept room m (Err f) n before after
    → (u : List ℕ) → Agrees a u → Steps a u m offset (Err f) a n before after
follow_fault a m n offset room f before after streams all h = at_unread a m offset (Err f) a n before after streams (follow_fails a m n offset room f before after streams all h)

pub follow_applied : (a b : FollowState) (m n : Dataset) (offset room used : ℕ) (before after : List ℕ) → a.phase ≡ phase.Stream → offset + room ≡ offset_limit → AppliesFront a.kept room m (Ok (Some used)) n before after
    → b ≡ record a { phase = phase.Stream; taking = None; kept = drop used a.kept } → (u : List ℕ) → Agrees a u → Steps a u m offset (Ok heard.Applied) b n before after
follow_applied a b m n offset room used before after streams all h is = at_unread a m offset (Ok heard.Applied) b n before after streams (λ ag. record {
  told = take used a.kept;
  put = h.1;
  row = record {
    streams = streams;
    group = h.0.group;
    good = h.0.first.good;
    is_text = h.0.first.is_text;
    rest = drop used a.kept;
    begins = sym (take-append-drop used a.kept);
    within = omega (arith, h.0.within, length-take-le used a.kept h.0.first.within, all);
    applied = h.0.applied;
    state = moved a b phase.Stream (drop used a.kept) is;
  };
})
