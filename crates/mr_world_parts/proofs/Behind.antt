-- What the outs of a step tell of the link at which it was made.
use Rattle.std.proofs.Common.{◌≡◌, ℕ, List, ◌&&◌, Bool, true, false, not, Option, None, Some, IsTrue, refl, sym, ap, ◌∙◌, length}
use Rattle.std.proofs.lemmas.Bool.{both_ways}
use Rattle.mr_links.specs.declared.link_id.LinkId.{LinkId}
use Rattle.mr_node_links.specs.State.{EndState}
use Rattle.mr_node_links.specs.State.EndState.{client, waiting, replica}
use Rattle.mr_node_links.specs.Replicas.{is_named}
use Rattle.mr_node_output.specs.Outs.{OutsState}
use Rattle.mr_node_spec.specs.State.{NodeState, end_of}
use Rattle.mr_node.specs.Calls.{IsClients, IsUnread}
use Rattle.law_refinement.specs.Way.{left_on}
use Rattle.law_refinement.specs.State.{Link}
use Rattle.law_refinement.specs.Carrying.{fed_if, is_at, reached, settled, shut_if, told}
use Rattle.law_refinement.proofs.Places.{some_is}
use Rattle.mr_world_parts.specs.Answering.{EndsAs, IsBehind}

module _ (b : NodeState) (name : LinkId) (outs : OutsState) (h : IsBehind b name outs) where
  pub some_unread : outs.closes ≡ false → IsUnread b name None → ⊥
  some_unread stays i = elim h.end [
    | EndsAs.closed e is ↦ both_ways outs.closes stays e
    | EndsAs.asks e u is ↦ none_is (length u) (i.at_client u h.up (record { is = is }))
    | EndsAs.waits e t u is ↦ none_is (length u) (i.at_waiting t u h.up (record { is = is }))
    | EndsAs.streams e u is ↦ none_is (length u) (i.at_replica u h.up (record { is = is }))
  ]
    where
      none_is : (n : ℕ) → ◌≡◌ {A = Option ℕ} None (Some n) → ⊥
      none_is n e = cc

  -- how many bytes are unread there, and whether it is a client's, is how the end is settled
  pub stays_settled : (k : Link) (as_client : Bool) (left : ℕ) → name ≡ k.name → outs.closes ≡ false → IsUnread b name (Some left) → (IsTrue as_client → IsClients b name) → (IsClients b name → IsTrue as_client)
      → record k { streams = not as_client; ask = left_on left k.ask } ≡ settled (end_of b k.name) k
  stays_settled k as_client left same stays i is_one one_is = elim h.end [
    | EndsAs.closed e is ↦ absurd (both_ways outs.closes stays e)
    | EndsAs.asks e u is ↦ settles true (length u) (client u) is (one_is (IsClients.alone u (record { is = is }))) (i.at_client u h.up (record { is = is })) refl
    | EndsAs.waits e t u is ↦ settles true (length u) (waiting t u) is (one_is (IsClients.within t u (record { is = is }))) (i.at_waiting t u h.up (record { is = is })) refl
    | EndsAs.streams e u is ↦ settles false (length u) (replica u) is (not_true as_client (λ c. no_client u is (is_one c))) (i.at_replica u h.up (record { is = is })) refl
  ]
    where
      not_true : (c : Bool) → (c ≡ true → ⊥) → c ≡ false
      not_true true n = absurd (n refl)
      not_true false n = refl

      no_client : (u : List ℕ) → end_of b name ≡ Some (replica u) → IsClients b name → ⊥
      no_client u is (IsClients.alone v g) = let wrong : ◌≡◌ {A = Option EndState} (Some (replica u)) (Some (client v)) = sym is ∙ g.is in cc
      no_client u is (IsClients.within t v g) = let wrong : ◌≡◌ {A = Option EndState} (Some (replica u)) (Some (waiting t v)) = sym is ∙ g.is in cc

      settles : (c : Bool) (n : ℕ) (e : EndState) → end_of b name ≡ Some e → as_client ≡ c → ◌≡◌ {A = Option ℕ} (Some left) (Some n) → record k { streams = not c; ask = left_on n k.ask } ≡ settled (Some e) k
          → record k { streams = not as_client; ask = left_on left k.ask } ≡ settled (end_of b k.name) k
      settles c n e is p q so = ap (λ z. record k { streams = not z; ask = left_on left k.ask }) p
          ∙ (ap (λ z. record k { streams = not c; ask = left_on z k.ask }) (some_is left n q) ∙ (so ∙ ap (λ o. settled o k) (sym is ∙ ap (end_of b) same)))

  -- nothing that goes to replicas goes there
  pub unreached : (k : Link) (n : ℕ) (bytes : List ℕ) → name ≡ k.name → reached n outs (told bytes k) ≡ told bytes k
  unreached k n bytes same =
      ap (λ c. shut_if c (fed_if (is_at n k && is_named outs.fed k.name) outs.grown (told bytes k))) (none (is_at n k) (is_named outs.closed k.name) (ap (is_named outs.closed) (sym same) ∙ h.unclosed))
      ∙ ap (λ c. fed_if c outs.grown (told bytes k)) (none (is_at n k) (is_named outs.fed k.name) (ap (is_named outs.fed) (sym same) ∙ h.unfed))
    where
      none : (p q : Bool) → q ≡ false → (p && q) ≡ false
      none true q e = e
      none false q e = refl
