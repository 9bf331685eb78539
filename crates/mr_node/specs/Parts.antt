-- What the parts of a step do.
use Rattle.std.specs.Prelude.{◌≡◌, ◌≤◌, ◌<◌, ℕ, ℤ, List, [], Bool, true, false, not, Some, length, if◌then◌else◌}
use Rattle.mr_commands.specs.Transactions.{past_limit}
use Rattle.mr_links.specs.declared.link_id.LinkId.{LinkId}
use Rattle.mr_resp.specs.Replies.{Tree, reply_text}
use Rattle.mr_keyspace.specs.Dataset.{Dataset}
use Rattle.mr_effect.specs.Spelling.{texts}
use Rattle.mr_effect.specs.declared.effect.Effect.{Effect}
use Rattle.mr_data.specs.Meaning.{apply_all}
use Rattle.mr_repl.specs.Lineage.{LineageState}
use Rattle.mr_repl.specs.Backlog.{offset_limit}
use Rattle.mr_cmd_node.specs.declared.node_ask.NodeAsk.{NodeAsk}
use Rattle.mr_cmd_server.specs.declared.question.Question.{Question}
use Rattle.mr_node_links.specs.State.{EndState}
use Rattle.mr_node_links.specs.Ending.{used_of}
use Rattle.mr_node_links.specs.Replicas.{Lists}
use Rattle.mr_node_output.specs.Outs.{Output, OutsState}
use Rattle.mr_node_spec.specs.State.{Core, IsNode, NodeState, end_of}
use Rattle.mr_node_spec.specs.ClientRows.{IsAnswerToPsync}
use Rattle.mr_node_spec.specs.Ends.{Leaves}
use Rattle.mr_node_spec.specs.Growing.{FedTo, grown_by, offset_behind}
use Rattle.mr_info.specs.Info.{info_text}
use Rattle.mr_node_spec.specs.Telling.{Around, IsAround, answer_about, link_of}
use Rattle.mr_node_spec.specs.Served.{IsQuiet}
use Rattle.mr_info.specs.declared.roles.MasterLink.{MasterLink}
use Rattle.mr_info.specs.declared.roles.MasterLink.TheVariants as link
use Rattle.mr_node.specs.Reading.{Wishes}
use Rattle.mr_node.specs.declared.role.Role.{Role}
use Rattle.mr_node.specs.declared.role.Role.TheVariants as role

-- So many unread bytes of the link are used, and the core stays. The replicas can be listed.
pub record Uses (a : NodeState) (l : LinkId) (used : ℕ) (b : NodeState) : Type 0 where
  pub is_node : IsNode a
  pub names : List LinkId
  pub listed : Lists names a.ends.open_links
  pub core : b.core ≡ a.core
  pub leaves : (end : EndState) → end_of a l ≡ Some end → Leaves a l b (used_of used end)

-- what is written for a plan: its reply, with the texts of its effects where there is room for them
abbrev pub Tells : Core → Tree → List Effect → OutsState → Bool → OutsState → Type 0
Tells c reply effects old true new = (offset_behind effects c ≤ offset_limit) × (new ≡ record old { grown = texts effects; appended = texts effects; reply = reply_text reply })
Tells c reply effects old false new = (offset_limit < offset_behind effects c) × (new ≡ record old { reply = reply_text past_limit })

-- nothing was put out yet
pub record AreEmpty (outs : OutsState) : Type 0 where
  pub grown : outs.grown ≡ []
  pub appended : outs.appended ≡ []
  pub fed : outs.fed ≡ []
  pub reply : outs.reply ≡ []

-- all replicas are fed what the stream grew by
pub record FeedsAll (a : NodeState) (old new : OutsState) : Type 0 where
  pub names : List LinkId
  pub fed : FedTo old.grown a names
  pub outs_are : new ≡ record old { fed = names }

-- Effects are applied, and their texts stand behind the stream.
pub record Grows (a : NodeState) (effects : List Effect) (b : NodeState) : Type 0 where
  pub held : Dataset
  pub applied : apply_all effects a.core.held ≡ Some held
  pub core : b.core ≡ grown_by effects held a.core

-- the answer to PSYNC is put behind nothing
pub record Offers (lineage : LineageState) (m : Dataset) (id : List ℕ) (wanted : ℤ) (old new : OutsState) : Type 0 where
  pub text : List ℕ
  pub answer : IsAnswerToPsync lineage m id wanted text
  pub outs_are : new ≡ record old { reply = text }

-- an answer to a question about the node, of what stands around its core
pub record TellsOf (question : Question) (a : NodeState) (reply : Tree) : Type 0 where
  pub around : Around
  pub is_around : IsAround a around
  pub told : reply ≡ answer_about question a.core around

-- So many bytes ask of the node what changes nothing, and this is given out.
pub record Keeps (c : Core) (u : List ℕ) (used : ℕ) (out : Output) : Type 0 where
  pub wish : NodeAsk
  pub wishes : Wishes u used wish
  pub quiet : IsQuiet c wish out

-- so many links are followed by
pub record ListsReplicas (a : NodeState) (count : ℕ) : Type 0 where
  pub names : List LinkId
  pub listed : Lists names a.ends.open_links
  pub counted : count ≡ length names

-- INFO's text, with how many replicas there are
pub record TellsInfo (a : NodeState) (text : List ℕ) : Type 0 where
  pub count : ℕ
  pub replicas : ListsReplicas a count
  pub told : text ≡ info_text (not a.core.master) count a.core.lineage

-- its role, and how far it has come with the link to its master
abbrev pub role_at : MasterLink → Role
role_at link.Connect = role.Connect
role_at link.Sync = role.Sync
role_at link.Connected = role.Connected

abbrev pub role_of : NodeState → Role
role_of a = if a.core.master then role.Master else role_at (link_of a.follow)
