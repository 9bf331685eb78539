-- What a client's request that keeps the node's role makes of it, and what it is sent.
use Rattle.std.specs.Prelude.{◌≡◌, ◌≤◌, ◌<◌, ℕ, ℤ, List, true, false, not, Some, codes}
use Rattle.mr_resp.specs.Replies.{Tree, error, reply_text}
use Rattle.mr_keyspace.specs.Dataset.{Dataset}
use Rattle.mr_data.specs.Rebuilding.{rebuilding}
use Rattle.mr_data.specs.declared.given.Given.{Given}
use Rattle.mr_effect.specs.Spelling.{texts}
use Rattle.mr_effect.specs.declared.effect.Effect.{Effect}
use Rattle.mr_repl.specs.Backlog.{offset_limit}
use Rattle.mr_cmd_node.specs.declared.node_ask.ReplicaOption.{ReplicaOption}
use Rattle.mr_cmd_node.specs.declared.node_ask.NodeAsk.{NodeAsk}
use Rattle.mr_cmd_node.specs.declared.node_ask.NodeAsk.TheVariants as node
use Rattle.mr_cmd_server.specs.Commands.{rewriting}
use Rattle.mr_cmd_server.specs.declared.question.Question.{Question}
use Rattle.mr_cmd_shared.specs.Answered.{done}
use Rattle.mr_commands.specs.Transactions.{discard_alone, exec_alone, past_limit}
use Rattle.mr_commands.specs.Requests.{AsksNode, HasPlan, IsPlain, left, question_in, rewrites}
use Rattle.mr_node_output.specs.Outs.{Output, no_output, growth}
use Rattle.mr_node_spec.specs.State.{Core}
use Rattle.mr_node_spec.specs.Requests.{Asks, AsksNothing}
use Rattle.mr_node_spec.specs.Growing.{Remakes, grown_by, offset_behind, rebuilt}
use Rattle.mr_node_spec.specs.Telling.{Around, reply_about}

-- what a request leaves of a node's dataset
abbrev pub left_of : Core → List (List ℕ) → Given → Dataset
left_of c words given = left (not c.master) words given c.held

-- a file written anew, and the client is told so
abbrev pub rewritten_as : Dataset → Output
rewritten_as m = record no_output { replaced = Some (rebuilt m); said = reply_text rewriting }

-- only this is said
abbrev pub says : Tree → Output
says reply = record no_output { said = reply_text reply }

-- replicas send no stream
abbrev pub not_chained : Tree
not_chained = error (codes "ERR replicas are not chained")

-- A request to the node that changes nothing, and what is said.
pub data IsQuiet (c : Core) (wish : NodeAsk) (out : Output) : Type 0 where
  -- what a replica says of itself, before it asks for the stream
  introduces : (told : List (ReplicaOption × List ℕ)) → wish ≡ node.ReplConf told → out ≡ says done → IsQuiet c wish out
  -- an acknowledgement is noted, and nothing is said
  acknowledges : (offset : ℤ) → wish ≡ node.Ack offset → out ≡ no_output → IsQuiet c wish out
  -- a replica is asked for the stream
  refuses : (id : List ℕ) (wanted : ℤ) → wish ≡ node.Psync id wanted → c.master ≡ false → out ≡ says not_chained → IsQuiet c wish out
  -- what waits is to be done or dropped, and nothing waits
  execs_nothing : wish ≡ node.Exec → out ≡ says exec_alone → IsQuiet c wish out
  discards_nothing : wish ≡ node.Discard → out ≡ says discard_alone → IsQuiet c wish out
  -- a master is to be one
  stays_master : wish ≡ node.NoOne → c.master ≡ true → out ≡ says done → IsQuiet c wish out
  -- a replica is to follow whom it follows
  stays_replica : (host : List ℕ) (port : ℕ) → wish ≡ node.ReplicaOf host port → c.master ≡ false → c.upstream ≡ Some (record { host = host; port = port }) → out ≡ says done → IsQuiet c wish out

-- A request is answered: what it makes of the node, and what it gives out.
pub data Answered (c : Core) (around : Around) (words : List (List ℕ)) (given : Given) (d : Core) (out : Output) : Type 0 where
  -- its effects are applied, and their texts go to the stream and to the file
  within : IsPlain words → (reply : Tree) (effects : List Effect) → HasPlan (not c.master) c.held words given reply effects → offset_behind effects c ≤ offset_limit
      → d ≡ grown_by effects (left_of c words given) c → out ≡ record (growth (texts effects)) { said = reply_text reply } → Answered c around words given d out
  -- they would carry the offset past its limit: it is told so, and nothing is done
  beyond : IsPlain words → (reply : Tree) (effects : List Effect) → HasPlan (not c.master) c.held words given reply effects → offset_limit < offset_behind effects c
      → d ≡ c → out ≡ says past_limit → Answered c around words given d out
  -- the append-only file is replaced by what makes the dataset again, on a master and on a replica
  rewritten : rewrites words ≡ true → Remakes (rebuilding c.held) c.held → d ≡ c → out ≡ rewritten_as c.held → Answered c around words given d out
  -- the node tells of itself, and nothing changes
  tells : (question : Question) → question_in words ≡ Some question → d ≡ c → out ≡ reply_about question c around → Answered c around words given d out
  -- the node is asked what changes nothing
  keeps_role : (wish : NodeAsk) → AsksNode words wish → IsQuiet c wish out → d ≡ c → Answered c around words given d out

-- What stands at the front of unread bytes is used: what it makes of the node, what is left unread, and what it gives out.
pub data Served (c : Core) (around : Around) (u : List ℕ) (given : Given) (d : Core) (rest : List ℕ) (out : Output) : Type 0 where
  request : (words : List (List ℕ)) → Asks u words rest → Answered c around words given d out → Served c around u given d rest out
  -- an empty request
  nothing : AsksNothing u rest → d ≡ c → out ≡ no_output → Served c around u given d rest out
