-- What has been applied, call by call.
use Rattle.std.proofs.Common.{◌≡◌, ◌+◌, ◌-◌, ℕ, List, [], ◌++◌, length, drop, Some, refl, sym, ap, ◌∙◌, arith, append_assoc, append-nil}
use Rattle.std.specs.Option.{option_and_then}
use Rattle.std.proofs.lemmas.List.Concat.{flat_map-append}
use Rattle.std.proofs.lemmas.List.Elements.{All-nil, All-append}
use Rattle.mr_links.specs.declared.link_id.LinkId.{LinkId}
use Rattle.mr_effect.specs.declared.effect.Effect.{Effect}
use Rattle.mr_repl.specs.Backlog.{Window, IsWindow, last_of}
use Rattle.mr_repl.specs.Lineage.{LineageState, grown}
use Rattle.mr_repl.proofs.Windows.{after_bytes-after_bytes}
use Rattle.mr_groups.specs.Groups.{IsGoodGroup, group_text, group_texts}
use Rattle.mr_groups.specs.Folding.{apply_groups}
use Rattle.mr_follower.specs.State.{FollowState}
use Rattle.mr_follower.proofs.Stepping.{stream_plain}
use Rattle.mr_node_spec.specs.State.{NodeState}
use Rattle.mr_node.proofs.Ends.{some_is}
use Rattle.law_follower.proofs.Texts.{applied_append}
use Rattle.law_follower.specs.Runs.{Streams}
use Rattle.law_follower.specs.Streaming.{HasApplied}

-- ---- a stream that grows by nothing, and by texts one after another
none_gone : (n : ℕ) (xs : List ℕ) → length xs - n ≡ 0 → last_of n xs ≡ xs
none_gone n xs none = ap (λ k. drop k xs) none

pub grown_none : (a : LineageState) → IsWindow a.stream → grown a [] ≡ a
grown_none a w =
    let few = w.within in
    let none : length a.stream.held - a.stream.capacity ≡ 0 = omega (arith, few) in
    let held : last_of a.stream.capacity (a.stream.held ++ []) ≡ a.stream.held = ap (last_of a.stream.capacity) (append-nil a.stream.held) ∙ none_gone a.stream.capacity a.stream.held none in
    let offset : a.stream.offset + 0 ≡ a.stream.offset = omega arith in
    λ i. record { id = a.id; second = a.second; stream = record { held = held i; capacity = a.stream.capacity; offset = offset i } }

grown_grown : (a : LineageState) (x y : List ℕ) → grown (grown a x) y ≡ grown a (x ++ y)
grown_grown a x y = ap (λ (s : Window). record { id = a.id; second = a.second; stream = s }) (after_bytes-after_bytes a.stream x y)

-- ---- the unread bytes of a stream
pub reader_is : (p q : LinkId × FollowState) → Some p ≡ Some q → p.1 ≡ q.1
reader_is p q e = ap (λ (z : LinkId × FollowState). z.1) (some_is p q e)

pub one_unread : (a : NodeState) (l : LinkId) (u v : List ℕ) → Streams a l u → Streams a l v → u ≡ v
one_unread a l u v s t =
    let f = s.reads.reader in let g = t.reads.reader in
    let same : f ≡ g = reader_is (l, f) (l, g) (sym s.reads.found ∙ t.reads.found) in
    (stream_plain f u s.streams s.reads.agrees).1 ∙ (ap (λ (z : FollowState). z.kept) same ∙ sym (stream_plain g v t.streams t.reads.agrees).1)

-- ---- calls
module _ (a b : NodeState) (l : LinkId) where
  -- nothing is applied where stream and dataset stay
  pub none_applied : (u : List ℕ) → IsWindow a.core.lineage.stream → b.core.lineage ≡ a.core.lineage → b.core.held ≡ a.core.held → Streams b l u → HasApplied [] a l u b
  none_applied u w lineage held streams = record {
    good = All-nil IsGoodGroup;
    unread = u;
    streams = streams;
    cut = refl;
    held = ap Some (sym held);
    grew = lineage ∙ sym (grown_none a.core.lineage w);
  }

  -- what is applied behind it
  pub joined : (es fs : List (List Effect)) (x more : List ℕ) (c : NodeState) → (p : HasApplied es a l x b) → HasApplied fs b l (p.unread ++ more) c → HasApplied (es ++ fs) a l (x ++ more) c
  joined es fs x more c p q =
      let both : group_texts (es ++ fs) ≡ group_texts es ++ group_texts fs = flat_map-append group_text es fs in
      record {
        good = All-append IsGoodGroup es fs p.good q.good;
        unread = q.unread;
        streams = q.streams;
        cut = ap (λ (z : List ℕ). z ++ more) p.cut ∙ (append_assoc (group_texts es) p.unread more ∙ (ap (λ (z : List ℕ). group_texts es ++ z) q.cut
            ∙ (sym (append_assoc (group_texts es) (group_texts fs) q.unread) ∙ ap (λ (z : List ℕ). z ++ q.unread) (sym both))));
        held = applied_append es fs a.core.held ∙ (ap (option_and_then (apply_groups fs)) p.held ∙ q.held);
        grew = q.grew ∙ (ap (λ (z : LineageState). grown z (group_texts fs)) p.grew ∙ (grown_grown a.core.lineage (group_texts es) (group_texts fs) ∙ ap (grown a.core.lineage) (sym both)));
      }

  -- .. which is nothing
  pub applied_still : (es : List (List Effect)) (x : List ℕ) (c : NodeState) → (p : HasApplied es a l x b) → HasApplied [] b l p.unread c → HasApplied es a l x c
  applied_still es x c p q = record {
    good = p.good;
    unread = q.unread;
    streams = q.streams;
    cut = p.cut ∙ ap (λ (z : List ℕ). group_texts es ++ z) q.cut;
    held = p.held ∙ q.held;
    grew = q.grew ∙ (ap (λ (z : LineageState). grown z []) p.grew ∙ (grown_grown a.core.lineage (group_texts es) [] ∙ ap (grown a.core.lineage) (append-nil (group_texts es))));
  }
