-- What is used at an end, and what is sent there, as histories see it.
use Rattle.std.proofs.Common.{◌≡◌, ◌≢◌, ◌+◌, ◌-◌, inl, inr, ℕ, List, [], ◌++◌, true, false, Option, None, Some, length, drop, refl, sym, ap, subst, ◌∙◌, arith}
use Rattle.std.specs.Prelude.{slice_get, slice_set}
use Rattle.std.specs.Option.{option_map}
use Rattle.std.proofs.lemmas.List.{drop-drop, append-nil}
pub use Rattle.std.proofs.lemmas.Bool.{cases_eq as number_or}
use Rattle.mr_links.specs.declared.link_id.LinkId.{LinkId}
use Rattle.law_protocol.specs.Changes.{SetAt}
use Rattle.law_protocol.specs.World as history
use Rattle.law_protocol.specs.Changing.{Reads}
use Rattle.law_protocol.specs.ServerRows.{answered, joined}
use Rattle.law_protocol.specs.Language.{Transaction}
use Rattle.mr_node_links.specs.State.{EndState}
use Rattle.mr_node_links.specs.State as ends
use Rattle.mr_node_links.specs.State.EndState.{client, waiting, replica, shut}
use Rattle.mr_follower.specs.State.{FollowState}
use Rattle.mr_node_spec.specs.State.{Core, NodeState}
use Rattle.law_refinement.specs.Way.{WayState, IsWay, unread, used_on, left_on, sent_on}
use Rattle.law_refinement.specs.State.{Link, Slot}
use Rattle.law_refinement.specs.Seeing.{seen_way, seen_node, link_with}
use Rattle.law_refinement.specs.Carrying.{told, settled}
use Rattle.law_refinement.proofs.Seen.{put_at, put_by, sent_seen}
use Rattle.law_refinement.proofs.Unread.{left_used}

pub reads_on : (w : WayState) (text rest : List ℕ) → unread w ≡ text ++ rest → Reads (seen_way w) text (seen_way (used_on (length text) w))
reads_on w text rest e = record {
  rest = rest;
  begins = e;
  new_is =
      let t : w.taken - (w.used + length text) ≡ (w.taken - w.used) - length text = omega arith in
      ap (λ z. record { left = z; taken = w.taken - (w.used + length text) }) (sym (drop-drop (length text) w.used w.sent))
      ∙ ap (λ z. record { left = drop (length text) (drop w.used w.sent); taken = z }) t;
}

-- a node by its core and by whom it follows
pub node_is : (s : Slot) (b : NodeState) (file : List ℕ) (core : Core) (follow : Option (LinkId × FollowState)) → b.core ≡ core → b.follow ≡ follow
    → seen_node (record s { node = b; file = file }) ≡ seen_node (record s { node = record s.node { core = core; follow = follow } })
node_is s b file core follow e f = ap (λ (z : Core). seen_node (record s { node = record b { core = z } })) e
    ∙ ap (λ (z : Option (LinkId × FollowState)). seen_node (record s { node = record s.node { core = core; follow = z } })) f

pub set_as : {A : Type 0} (f g : ℕ → Option A) (i : ℕ) (x y : A) → SetAt f g i x → x ≡ y → SetAt f g i y
set_as f g i x y s e = (s.0 ∙ ap Some e, s.1)

pub still_at : {A B : Type 0} (f : A → B) (xs : List A) (i : ℕ) (x y : A) → slice_get xs i ≡ Some y → f x ≡ f y → (m : ℕ) → option_map f (slice_get (slice_set xs i x) m) ≡ option_map f (slice_get xs m)
still_at f xs i x y e q m = elim (number_or m i) [
  | inl same ↦ subst (λ j. option_map f (slice_get (slice_set xs i x) j) ≡ option_map f (slice_get xs j)) (sym same) ((put_at f xs i x y e).0 ∙ (ap Some q ∙ sym (ap (option_map f) e)))
  | inr apart ↦ (put_at f xs i x y e).1 m apart
]

-- .. where what is seen of the others is the same
pub still_by : {A B : Type 0} (f g : A → B) (xs : List A) (i : ℕ) (x y : A) → slice_get xs i ≡ Some y → g x ≡ f y → ((j : ℕ) (z : A) → j ≢ i → slice_get xs j ≡ Some z → g z ≡ f z)
    → (m : ℕ) → option_map g (slice_get (slice_set xs i x) m) ≡ option_map f (slice_get xs m)
still_by f g xs i x y e q same m = elim (number_or m i) [
  | inl here ↦ subst (λ j. option_map g (slice_get (slice_set xs i x) j) ≡ option_map f (slice_get xs j)) (sym here) ((put_by f g xs i x y e same).0 ∙ (ap (λ z. Some z) q ∙ sym (ap (option_map f) e)))
  | inr apart ↦ (put_by f g xs i x y e same).1 m apart
]

-- ---- the link on which a step was made, with what is open there
module _ (k : Link) (reply : List ℕ) (asks : IsWay k.ask) (tells : IsWay k.tell) where
  tell_seen : seen_way (sent_on reply k.tell) ≡ record (seen_way k.tell) { left = (seen_way k.tell).left ++ reply }
  tell_seen = sent_seen k.tell reply tells

  left_seen : (text rest : List ℕ) → unread k.ask ≡ text ++ rest → seen_way (left_on (length rest) k.ask) ≡ seen_way (used_on (length text) k.ask)
  left_seen text rest e = ap seen_way (left_used k.ask text rest (length rest) asks e refl)

  open_seen : (within : Option Transaction) (text rest : List ℕ) → k.streams ≡ false → unread k.ask ≡ text ++ rest
      → link_with within (record (told reply k) { streams = false; ask = left_on (length rest) k.ask }) ≡ answered (link_with within k) (seen_way (used_on (length text) k.ask)) reply
  open_seen within text rest c e =
      ap (λ z. record (link_with within k) { streams = z; ask = seen_way (left_on (length rest) k.ask); tell = seen_way (sent_on reply k.tell) }) (sym c)
      ∙ (ap (λ z. record (link_with within k) { ask = z; tell = seen_way (sent_on reply k.tell) }) (left_seen text rest e)
      ∙ ap (λ z. record (link_with within k) { ask = seen_way (used_on (length text) k.ask); tell = z }) tell_seen)

  pub client_seen : (within : Option Transaction) (o : Option EndState) (text rest : List ℕ) → k.streams ≡ false → o ≡ Some (client rest) → unread k.ask ≡ text ++ rest
      → link_with within (settled o (told reply k)) ≡ answered (link_with within k) (seen_way (used_on (length text) k.ask)) reply
  client_seen within o text rest c is e = ap (λ z. link_with within (settled z (told reply k))) is ∙ open_seen within text rest c e

  pub waiting_seen : (within : Option Transaction) (o : Option EndState) (t : ends.Transaction) (text rest : List ℕ) → k.streams ≡ false → o ≡ Some (waiting t rest) → unread k.ask ≡ text ++ rest
      → link_with within (settled o (told reply k)) ≡ answered (link_with within k) (seen_way (used_on (length text) k.ask)) reply
  waiting_seen within o t text rest c is e = ap (λ z. link_with within (settled z (told reply k))) is ∙ open_seen within text rest c e

  pub joined_seen : (within : Option Transaction) (o : Option EndState) (text rest : List ℕ) → o ≡ Some (replica rest) → unread k.ask ≡ text ++ rest
      → link_with within (settled o (told reply k)) ≡ joined (link_with within k) (seen_way (used_on (length text) k.ask)) reply
  joined_seen within o text rest is e = ap (λ z. link_with within (settled z (told reply k))) is
      ∙ (ap (λ z. record (link_with within k) { streams = true; ask = z; tell = seen_way (sent_on reply k.tell) }) (left_seen text rest e)
      ∙ ap (λ z. record (link_with within k) { streams = true; ask = seen_way (used_on (length text) k.ask); tell = z }) tell_seen)

  pub shut_seen : (within : Option Transaction) (o : Option EndState) → o ≡ Some shut → link_with None (settled o (told reply k)) ≡ history.shut true (history.told (link_with within k) reply)
  shut_seen within o is = ap (λ z. link_with None (settled z (told reply k))) is ∙ ap (λ z. record (link_with None k) { serving = false; tell = z }) tell_seen

-- nothing is sent
pub silent : (k : Link) → told [] k ≡ k
silent k = ap (λ z. record k { tell = record k.tell { sent = z } }) (append-nil k.tell.sent)
