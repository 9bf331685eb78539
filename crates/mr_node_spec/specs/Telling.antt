-- What a node tells of itself.
use Rattle.std.specs.Prelude.{◌≡◌, ℕ, List, [], not, Option, Some, None, length, if◌then◌else◌}
use Rattle.mr_links.specs.declared.link_id.LinkId.{LinkId}
use Rattle.mr_resp.specs.Replies.{Tree, bytes, reply_text}
use Rattle.mr_follower.specs.State.{FollowState}
use Rattle.mr_follower.specs.declared.phase.Phase.{Phase}
use Rattle.mr_follower.specs.declared.phase.Phase.TheVariants as phase
use Rattle.mr_info.specs.Info.{info_text}
use Rattle.mr_info.specs.Roles.{master_reply, replica_reply}
use Rattle.mr_info.specs.declared.roles.Replica.{Replica}
use Rattle.mr_info.specs.declared.roles.MasterLink.{MasterLink}
use Rattle.mr_info.specs.declared.roles.MasterLink.TheVariants.{Connect, Sync, Connected}
use Rattle.mr_cmd_server.specs.declared.question.Question.{Question}
use Rattle.mr_cmd_server.specs.declared.question.Question.TheVariants as question
use Rattle.mr_node_links.specs.Replicas.{Lists}
use Rattle.mr_node_output.specs.Address.{AddressState}
use Rattle.mr_node_output.specs.Outs.{Output, no_output}
use Rattle.mr_node_spec.specs.State.{Core, NodeState}

-- What INFO and ROLE tell of beside the core: the replicas, with what they said of themselves, and where the link to the master stands.
pub record Around : Type 0 where
  pub replicas : List Replica
  pub link : MasterLink

-- in sync until the stream comes
abbrev pub link_at : Phase → MasterLink
link_at phase.Ping = Sync
link_at phase.Port = Sync
link_at phase.Capabilities = Sync
link_at phase.Psync = Sync
link_at (phase.Snapshot id offset) = Sync
link_at phase.Stream = Connected

abbrev pub link_of : Option (LinkId × FollowState) → MasterLink
link_of None = Connect
link_of (Some f) = link_at f.1.phase

-- They are as many as the ends that the stream is sent to, and the link is the one that is followed.
pub record IsAround (a : NodeState) (around : Around) : Type 0 where
  pub names : List LinkId
  pub listed : Lists names a.ends.open_links
  pub counted : length around.replicas ≡ length names
  pub link : around.link ≡ link_of a.follow

-- nobody's host is empty, and its port 0
abbrev pub host_of : Option AddressState → List ℕ
host_of None = []
host_of (Some address) = address.host

abbrev pub port_of : Option AddressState → ℕ
port_of None = 0
port_of (Some address) = address.port

-- by a master its offset and its replicas; by a replica whom it follows, how far it has come with that, and its offset
unfoldable pub role_answer : Core → Around → Tree
role_answer c around =
    if c.master then master_reply c.lineage.stream.offset around.replicas
    else replica_reply c.lineage.stream.offset (host_of c.upstream) (port_of c.upstream) around.link

-- INFO tells of replication, and of nothing else; ROLE of the role
unfoldable pub answer_about : Question → Core → Around → Tree
answer_about question.Replication c around = bytes (info_text (not c.master) (length around.replicas) c.lineage)
answer_about question.OtherSection c around = bytes []
answer_about question.Role c around = role_answer c around

-- .. as a reply, and nothing else is given out
abbrev pub reply_about : Question → Core → Around → Output
reply_about question c around = record no_output { said = reply_text (answer_about question c around) }
