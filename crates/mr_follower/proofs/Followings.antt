-- A follower in its stream.
use Rattle.std.proofs.Common.{◌≡◌, ℕ, ◌+◌, ◌⊎◌, inl, inr, List, [], ◌∷◌, ◌++◌, length, Some, None, Ok, refl, sym, ap, ◌∙◌, subst, arith, append_assoc, append-nil, length-append}
use Rattle.std.specs.Option.{option_and_then}
use Rattle.std.proofs.lemmas.List.Elements.{All-head, All-tail}
use Rattle.mr_data.specs.Meaning.{apply_all}
use Rattle.mr_effect.specs.declared.effect.Effect.{Effect}
use Rattle.mr_keyspace.specs.Dataset.{Dataset}
use Rattle.mr_repl.specs.Backlog.{offset_limit}
use Rattle.mr_follower.specs.Handshake.{IsGreeting}
use Rattle.mr_groups.specs.Groups.{IsGoodGroup, group_text, group_texts}
use Rattle.mr_groups.specs.Folding.{IsTorn, apply_groups}
use Rattle.mr_groups.proofs.Apart.{one_group}
use Rattle.mr_groups.proofs.Going.{torn_undefined}
use Rattle.mr_groups.proofs.Runs.{some_text}
use Rattle.mr_follower.specs.State.{FollowState, heard}
use Rattle.mr_follower.specs.Rows.{FollowRow, BeginsGroup, Stays, Follows}
use Rattle.mr_follower.specs.Following.{Call, feed, step, fed_by, Runs, IsStream, HasFollowed, FollowsBy, FollowsTheStream, StreamIsTaken}
use Rattle.mr_follower.specs.declared.phase.Phase.{Phase}
use Rattle.mr_follower.specs.declared.phase.Phase.TheVariants as phase
use Rattle.mr_follower.specs.declared.heard.Heard.{Heard}
use Rattle.mr_follower.specs.declared.heard.Heard.TheVariants as told
use Rattle.mr_follower.specs.declared.heard.FollowFault.TheVariants as fault
use Rattle.mr_follower.specs.Stream.{IsRefusedFront}
use Rattle.mr_follower.proofs.Stepping.{stream_plain}
use Rattle.mr_follower.proofs.Loadings.{then_some}

pub asked_no : (p : Phase) → p ≡ phase.Stream → p ≡ phase.Psync → ⊥
asked_no p streams asked = let wrong : phase.Psync ≡ phase.Stream = sym asked ∙ streams in cc

pub announced_no : (p : Phase) (id : List ℕ) (o : ℕ) → p ≡ phase.Stream → p ≡ phase.Snapshot id o → ⊥
announced_no p id o streams announced = let wrong : phase.Snapshot id o ≡ phase.Stream = sym announced ∙ streams in cc

-- in the stream a step waits, or applies a group
stream_step : (a c : FollowState) (m k : Dataset) (offset : ℕ) (said : List ℕ) (outcome : Heard) → a.phase ≡ phase.Stream
    → FollowRow a a.kept m offset (Ok outcome) c k said → Stays a a.kept m c k said ⊎ Follows a a.kept m offset c k said
stream_step a c m k offset said told.Idle streams row = inl row.1
stream_step a c m k offset said told.Say streams row = absurd (subst IsGreeting streams row.0.greeting)
stream_step a c m k offset said (told.Full id o) streams row = absurd (asked_no a.phase streams row.0.asked)
stream_step a c m k offset said (told.Continue id) streams row = absurd (asked_no a.phase streams row.0.1.asked)
stream_step a c m k offset said (told.Snapshot loaded) streams row = absurd (announced_no a.phase row.0.id row.0.offset streams row.0.announced)
stream_step a c m k offset said told.Applied streams row = inr row

-- what the first group leaves of the stream
stream_rest : (g : List Effect) (gs : List (List Effect)) (m k : Dataset) (offset mid : ℕ) → IsStream (g ∷ gs) m offset → apply_all g m ≡ Some k → mid ≡ offset + length (group_text g) → IsStream gs k mid
stream_rest g gs m k offset mid s applied counted =
    let parts = then_some (apply_all g m) (apply_groups gs) s.last s.applied in
    let same : Some parts.0 ≡ Some k = sym parts.1.0 ∙ applied in
    let reached : parts.0 ≡ k = cc in
    record {
      last = s.last;
      applied = subst (λ (x : Dataset). apply_groups gs x ≡ Some s.last) reached parts.1.1;
      good = All-tail IsGoodGroup g gs s.good;
      within = omega (arith, s.within, counted, length-append (group_text g) (group_texts gs));
    }

-- the group at the front of a stream is its first
same_group : (f g : List Effect) (gs : List (List Effect)) (kept rest later : List ℕ) → IsGoodGroup f → IsGoodGroup g → kept ≡ group_text f ++ rest → group_texts (g ∷ gs) ≡ kept ++ later → (g ≡ f) × (group_texts gs ≡ rest ++ later)
same_group f g gs kept rest later good first is split =
    one_group g f (group_texts gs) (rest ++ later) first good (split ∙ (ap (λ (l : List ℕ). l ++ later) is ∙ append_assoc (group_text f) rest later))

-- .. so there is one
no_group : (f : List Effect) (kept rest later : List ℕ) → IsGoodGroup f → kept ≡ group_text f ++ rest → [] ≡ kept ++ later → ⊥
no_group f kept rest later good is split = omega (arith, ap length split, length-append kept later, ap length is, length-append (group_text f) rest, some_text f good)

-- a group is applied, and the calls behind it follow the stream behind its text
one_more : (calls : List Call) → FollowsBy calls → (a b c : FollowState) (m n k : Dataset) (offset mid end : ℕ) (said : List ℕ) (gs : List (List Effect)) (later : List ℕ) → IsStream gs m offset
    → group_texts gs ≡ (a.kept ++ fed_by calls) ++ later → Follows a a.kept m offset c k said → mid ≡ offset + length said → Runs calls c k mid b n end → HasFollowed gs (a.kept ++ fed_by calls) m offset b n end
one_more calls follow a b c m n k offset mid end said [] later s split h counted runs =
    absurd (no_group h.group a.kept h.rest (fed_by calls ++ later) h.good (h.begins ∙ ap (λ (l : List ℕ). l ++ h.rest) h.is_text) (split ∙ append_assoc a.kept (fed_by calls) later))
one_more calls follow a b c m n k offset mid end said (g ∷ gs) later s split h counted runs =
    let f = h.group in
    let fed = fed_by calls in
    let phase_is : c.phase ≡ phase.Stream = h.state.waits in
    let kept : c.kept ≡ h.rest = sym (stream_plain c h.rest phase_is h.state.agrees).1 in
    let front : a.kept ++ fed ≡ said ++ (h.rest ++ fed) = ap (λ (l : List ℕ). l ++ fed) h.begins ∙ append_assoc said h.rest fed in
    let begins : a.kept ≡ group_text f ++ h.rest = h.begins ∙ ap (λ (l : List ℕ). l ++ h.rest) h.is_text in
    let both = same_group f g gs a.kept h.rest (fed ++ later) h.good (All-head IsGoodGroup g gs s.good) begins (split ∙ append_assoc a.kept fed later) in
    let applied : apply_all g m ≡ Some k = ap (λ (x : List Effect). apply_all x m) both.0 ∙ h.applied in
    let text_is : group_text g ≡ said = ap group_text both.0 ∙ sym h.is_text in
    let size = ap length text_is in
    let mid_is : mid ≡ offset + length (group_text g) = omega (arith, counted, size) in
    let rest_split : group_texts gs ≡ (c.kept ++ fed) ++ later = both.1 ∙ (sym (append_assoc h.rest fed later) ∙ ap (λ (l : List ℕ). (l ++ fed) ++ later) (sym kept)) in
    let r = follow c b k n mid end gs later phase_is (stream_rest g gs m k offset mid s applied mid_is) rest_split runs in
    record {
      done = g ∷ r.done;
      left = r.left;
      first = ap (λ (l : List (List Effect)). g ∷ l) r.first;
      applied = ap (option_and_then (apply_groups r.done)) applied ∙ r.applied;
      counted = omega (arith, r.counted, mid_is, length-append (group_text g) (group_texts r.done));
      unread = front ∙ (ap (λ (l : List ℕ). said ++ (l ++ fed)) (sym kept) ∙ ((λ i. sym text_is i ++ r.unread i) ∙ sym (append_assoc (group_text g) (group_texts r.done) b.kept)));
      streams = r.streams;
    }

pub follows : FollowsTheStream
follows [] a b m n offset end es later streams s split runs = record {
  done = [];
  left = es;
  first = refl;
  applied = ap (λ (x : Dataset). Some x) (sym runs.1.0);
  counted = omega (arith, runs.1.1);
  unread = append-nil a.kept ∙ ap (λ (x : FollowState). x.kept) (sym runs.0);
  streams = ap (λ (x : FollowState). x.phase) runs.0 ∙ streams;
}
follows (feed bytes ∷ calls) a b m n offset end es later streams s split runs =
    let joined = append_assoc a.kept bytes (fed_by calls) in
    let r = follows calls (heard a bytes) b m n offset end es later streams s (split ∙ ap (λ (l : List ℕ). l ++ later) (sym joined)) runs in
    subst (λ (l : List ℕ). HasFollowed es l m offset b n end) joined r
follows (step ∷ calls) a b m n offset end es later streams s split (c, (k, (mid, (one, runs)))) =
    elim (stream_step a c m k offset one.told one.outcome streams one.row) [
      | inl waits ↦
          let at : mid ≡ offset = omega (arith, one.counted, ap length waits.silent) in
          let waited : c.phase ≡ phase.Stream = waits.state.waits ∙ streams in
          let kept : a.kept ≡ c.kept = (stream_plain c a.kept waited waits.state.agrees).1 in
          let same = subst (λ (x : ℕ). Runs calls c m x b n end) at (subst (λ (x : Dataset). Runs calls c x mid b n end) waits.held runs) in
          let rest : group_texts es ≡ (c.kept ++ fed_by calls) ++ later = split ∙ ap (λ (l : List ℕ). (l ++ fed_by calls) ++ later) kept in
          subst (λ (l : List ℕ). HasFollowed es (l ++ fed_by calls) m offset b n end) (sym kept) (follows calls c b m n offset end es later waited s rest same)
      | inr applied ↦ one_more calls (follows calls) a b c m n k offset mid end one.told es later s split applied one.counted runs
    ]

-- ---- nothing is refused
no_front : (xs ys : List ℕ) → xs ++ ys ≡ [] → xs ≡ []
no_front [] ys e = refl
no_front (x ∷ xs) ys e = absurd (omega (arith, ap length e))

not_refused : (gs : List (List Effect)) (kept later : List ℕ) (m : Dataset) (offset room : ℕ) → IsStream gs m offset → group_texts gs ≡ kept ++ later → offset + room ≡ offset_limit → IsRefusedFront room m kept → ⊥
not_refused [] kept later m offset room s split limit r = let some = r.some in omega (arith, some, ap length (no_front kept later (sym split)))
not_refused (g ∷ gs) kept later m offset room s split limit r =
    let parts = then_some (apply_all g m) (apply_groups gs) s.last s.applied in
    let few = s.within in
    r.stuck g parts.0 later (group_texts gs) (All-head IsGoodGroup g gs s.good) parts.1.0 (omega (arith, few, limit, length-append (group_text g) (group_texts gs))) (sym split)

-- nor torn
not_torn : (gs : List (List Effect)) (a b : FollowState) (later : List ℕ) (m n : Dataset) (offset : ℕ) → IsStream gs m offset → group_texts gs ≡ a.kept ++ later → (at : BeginsGroup a a.kept offset b) → IsTorn at.group m n → ⊥
not_torn [] a b later m n offset s split at torn = no_group at.group a.kept at.rest later at.good at.begins split
not_torn (g ∷ gs) a b later m n offset s split at torn =
    let parts = then_some (apply_all g m) (apply_groups gs) s.last s.applied in
    let same : g ≡ at.group = (same_group at.group g gs a.kept at.rest later at.good (All-head IsGoodGroup g gs s.good) at.begins split).0 in
    let wrong : None ≡ Some parts.0 = sym (torn_undefined at.group m n torn) ∙ (ap (λ (x : List Effect). apply_all x m) (sym same) ∙ parts.1.0) in
    cc

pub taken : StreamIsTaken
taken a b m n offset es later said fault.BadLine streams s split row = row.0.wants streams
taken a b m n offset es later said fault.Refused streams s split row = row.0.wants streams
taken a b m n offset es later said fault.Undecodable streams s split (inl bad, stays) = announced_no a.phase bad.id bad.offset streams bad.announced
taken a b m n offset es later said fault.Undecodable streams s split (inr bad, stays) = not_refused es a.kept later m offset bad.room s split bad.limit bad.refused
taken a b m n offset es later said fault.Memory streams s split row = tt
taken a b m n offset es later said fault.Spent streams s split row = tt
taken a b m n offset es later said fault.Torn streams s split row = not_torn es a b later m n offset s split row.at row.torn
