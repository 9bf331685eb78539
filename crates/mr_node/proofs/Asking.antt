-- What is asked of the node, from how it is kept.
use Rattle.std.proofs.Common.{◌≡◌, ℕ, ℤ, List, true, false, Some, refl, sym, ap, ◌∙◌}
use Rattle.mr_node_links.specs.Introductions.{Said}
use Rattle.mr_cmd_node.specs.declared.node_ask.NodeAsk.{NodeAsk}
use Rattle.mr_cmd_node.specs.declared.node_ask.NodeAsk.TheVariants as node
use Rattle.mr_cmd_node.specs.declared.node_ask.ReplicaOption.{ReplicaOption}
use Rattle.mr_node_output.specs.Address.{AddressState}
use Rattle.mr_node_output.specs.Outs.{no_output}
use Rattle.mr_cmd_shared.specs.Answered.{done}
use Rattle.mr_commands.specs.Transactions.{discard_alone, exec_alone}
use Rattle.mr_node_spec.specs.State.{Core}
use Rattle.mr_node_spec.specs.Served.{IsQuiet, not_chained, says}
use Rattle.mr_node.specs.Parts.{Keeps}
use Rattle.mr_node.specs.Reading.{IsWish, Wishes}
use Rattle.mr_node.specs.declared.request.NodeRequest.TheVariants as request
use Rattle.mr_node.specs.declared.request.StreamWish.{StreamWish}

pub of_stream : (wish : NodeAsk) (kept : StreamWish) → IsWish wish (request.Stream kept) → wish ≡ node.Psync kept.id.items kept.wanted
of_stream (node.Psync word wanted) kept h = ap (λ z. node.Psync z wanted) (sym h.0) ∙ ap (λ z. node.Psync kept.id.items z) (sym h.1)
of_stream _ kept h = absurd h

pub of_introduction : (wish : NodeAsk) (introduction : Said) → IsWish wish (request.Introduction introduction) → (told : List (ReplicaOption × List ℕ)) × (wish ≡ node.ReplConf told)
of_introduction (node.ReplConf told) introduction h = (told, refl)
of_introduction _ introduction h = absurd h

pub of_acknowledgement : (wish : NodeAsk) (kept : ℤ) → IsWish wish (request.Acknowledgement kept) → wish ≡ node.Ack kept
of_acknowledgement (node.Ack offset) kept h = ap (λ z. node.Ack z) (sym h)
of_acknowledgement _ kept h = absurd h

pub of_follow : (wish : NodeAsk) (address : AddressState) → IsWish wish (request.Follow address) → wish ≡ node.ReplicaOf address.host address.port
of_follow (node.ReplicaOf host port) address h = sym (ap (λ (z : AddressState). node.ReplicaOf z.host z.port) h)
of_follow _ address h = absurd h

pub of_lead : (wish : NodeAsk) → IsWish wish request.Lead → wish ≡ node.NoOne
of_lead node.NoOne h = refl
of_lead _ h = absurd h

pub of_begin : (wish : NodeAsk) → IsWish wish request.Begin → wish ≡ node.Multi
of_begin node.Multi h = refl
of_begin _ h = absurd h

pub of_exec : (wish : NodeAsk) → IsWish wish request.Exec → wish ≡ node.Exec
of_exec node.Exec h = refl
of_exec _ h = absurd h

pub of_discard : (wish : NodeAsk) → IsWish wish request.Discard → wish ≡ node.Discard
of_discard node.Discard h = refl
of_discard _ h = absurd h

-- ---- what changes nothing
module _ (c : Core) (u : List ℕ) (used : ℕ) (wish : NodeAsk) (w : Wishes u used wish) where
  pub keeps_introduction : (told : List (ReplicaOption × List ℕ)) → wish ≡ node.ReplConf told → Keeps c u used (says done)
  keeps_introduction told is = record { wish = wish; wishes = w; quiet = IsQuiet.introduces told is refl }

  pub keeps_acknowledgement : (offset : ℤ) → wish ≡ node.Ack offset → Keeps c u used no_output
  keeps_acknowledgement offset is = record { wish = wish; wishes = w; quiet = IsQuiet.acknowledges offset is refl }

  pub keeps_unchained : (id : List ℕ) (wanted : ℤ) → wish ≡ node.Psync id wanted → c.master ≡ false → Keeps c u used (says not_chained)
  keeps_unchained id wanted is follows = record { wish = wish; wishes = w; quiet = IsQuiet.refuses id wanted is follows refl }

  pub keeps_master : wish ≡ node.NoOne → c.master ≡ true → Keeps c u used (says done)
  keeps_master is leads = record { wish = wish; wishes = w; quiet = IsQuiet.stays_master is leads refl }

  pub keeps_replica : (address : AddressState) → wish ≡ node.ReplicaOf address.host address.port → c.master ≡ false → c.upstream ≡ Some address → Keeps c u used (says done)
  keeps_replica address is follows same = record { wish = wish; wishes = w; quiet = IsQuiet.stays_replica address.host address.port is follows same refl }

  -- nothing waits
  pub keeps_exec : wish ≡ node.Exec → Keeps c u used (says exec_alone)
  keeps_exec is = record { wish = wish; wishes = w; quiet = IsQuiet.execs_nothing is refl }

  pub keeps_discard : wish ≡ node.Discard → Keeps c u used (says discard_alone)
  keeps_discard is = record { wish = wish; wishes = w; quiet = IsQuiet.discards_nothing is refl }
