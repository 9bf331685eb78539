-- A step at a replica's end.
use Rattle.std.proofs.Common.{◌≡◌, ℕ, ℤ, List, true, drop, Some, refl, sym, subst}
use Rattle.mr_links.specs.declared.link_id.LinkId.{LinkId}
use Rattle.mr_resp.specs.Scans.{BeginsWithRequest}
use Rattle.mr_resp.specs.Usual.{usual}
use Rattle.mr_cmd_node.specs.declared.node_ask.NodeAsk.TheVariants as node
use Rattle.mr_node_links.specs.State.EndState.{replica, shut}
use Rattle.mr_node_output.specs.Outs.{no_outs}
use Rattle.mr_node_spec.specs.State.{NodeState}
use Rattle.mr_node_spec.specs.Ends.{Leaves}
use Rattle.mr_node_spec.specs.ReplicaRows.{IsExpected, IsUnwanted, ReplicaRow}
use Rattle.mr_node.specs.Noting.{BeginsWithWords}
use Rattle.mr_node.specs.Parts.{Uses}
use Rattle.mr_node.specs.Reading.{Passes, Wishes}
use Rattle.mr_node.specs.Steps.{IsAtReplica}
use Rattle.mr_node.proofs.Reading.{asked_at}

-- a request for whose words memory was lacking
pub begins_with_words : (u : List ℕ) → BeginsWithRequest usual u → BeginsWithWords u
begins_with_words u b = record { words = b.words; rest = drop b.used u; asks = asked_at u b.used b.words b.request }

-- bytes are used of the node that was, and this is the node that is
pub uses_as : {a m b n : NodeState} (l : LinkId) (used : ℕ) → m ≡ a → n ≡ b → Uses m l used b → Uses a l used n
uses_as {a} {m} {b} {n} l used before behind uses = subst (λ (z : NodeState). Uses z l used n) before (subst (λ (z : NodeState). Uses m l used z) (sym behind) uses)

note_row : (a b : NodeState) (l : LinkId) (u : List ℕ) (used : ℕ) → IsAtReplica a l u → IsExpected u (drop used u) → Uses a l used b → ReplicaRow a l u b (record no_outs { link = Some l })
note_row a b l u used at expected uses = ReplicaRow.notes (record {
  up = at.up;
  rest = drop used u;
  expected = expected;
  core = uses.core;
  leaves = uses.leaves (replica u) at.agrees.is;
  outs_are = refl;
})

pub skip_row : (a b : NodeState) (l : LinkId) (u : List ℕ) (used : ℕ) → IsAtReplica a l u → Passes u used → Uses a l used b → ReplicaRow a l u b (record no_outs { link = Some l })
skip_row a b l u used at p uses = note_row a b l u used at (IsExpected.nothing p.asks) uses

pub acknowledgement_row : (a b : NodeState) (l : LinkId) (u : List ℕ) (used : ℕ) (offset : ℤ) → IsAtReplica a l u → Wishes u used (node.Ack offset) → Uses a l used b → ReplicaRow a l u b (record no_outs { link = Some l })
acknowledgement_row a b l u used offset at w uses = note_row a b l u used at (IsExpected.acknowledgement w.words offset w.reads.asks w.asks) uses

pub part_row : (a b : NodeState) (l : LinkId) (u : List ℕ) → IsAtReplica a l u → IsUnwanted u → b.core ≡ a.core → Leaves a l b shut → ReplicaRow a l u b (record no_outs { link = Some l; closes = true })
part_row a b l u at unwanted core leaves = ReplicaRow.parts (record {
  up = at.up;
  unwanted = unwanted;
  core = core;
  follow = leaves.follow;
  shut = record { is = leaves.is };
  others = leaves.others;
  outs_are = refl;
})
