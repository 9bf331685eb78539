-- Requests where a transaction is open: what each comes to, and what those that waited come to at its end.
use Rattle.std.specs.Prelude.{◌≡◌, ℕ, List, [], ◌∷◌, ◌++◌, Bool, false, ◌&&◌, if◌then◌else◌, Some, None, Result, Ok, Err, codes}
use Rattle.std.specs.List.{AllByRecursion}
use Rattle.mr_resp.specs.Replies.{Tree, simple, error}
use Rattle.mr_resp.specs.ReplyView.{view}
use Rattle.mr_resp.specs.Request.{IsRequest}
use Rattle.mr_resp.specs.Usual.{usual}
use Rattle.mr_keyspace.specs.Dataset.{Dataset}
use Rattle.mr_data.specs.declared.given.Given.{Given}
use Rattle.mr_effect.specs.declared.effect.Effect.{Effect}
use Rattle.mr_keyspace.specs.Changes.{NeedsNoMemory}
use Rattle.mr_arguments.specs.Faults.{fault_text}
use Rattle.mr_arguments.specs.declared.fault.AskFault.{AskFault}
use Rattle.mr_arguments.specs.declared.fault.AskFault.TheVariants as fault
use Rattle.mr_cmd_server.specs.declared.server_ask.ServerAsk.{ServerAsk}
use Rattle.mr_cmd_server.specs.declared.server_ask.ServerAsk.TheVariants as server
use Rattle.mr_cmd_server.specs.declared.question.Question.{Question}
use Rattle.mr_cmd_node.specs.declared.node_ask.NodeAsk.{NodeAsk}
use Rattle.mr_cmd_node.specs.declared.node_ask.NodeAsk.TheVariants as node
use Rattle.mr_ask.specs.Asks.{asked}
use Rattle.mr_ask.specs.declared.ask.Ask.{Ask}
use Rattle.mr_ask.specs.declared.ask.Ask.TheVariants as ask
use Rattle.mr_commands.specs.Requests.{HasPlan, IsPlain, left, question_in, readonly}
use Rattle.mr_commands.specs.Requests as request
use Rattle.mr_commands.specs.Writes.{writes}
use Rattle.mr_commands.specs.declared.transactions.Within.{Within}
use Rattle.mr_commands.specs.declared.transactions.Within.TheVariants as within

-- ---- what is answered
-- a request waits
abbrev pub queued : Tree
queued = simple (codes "QUEUED")

abbrev pub nested : Tree
nested = error (codes "ERR MULTI calls can not be nested")

abbrev pub exec_alone : Tree
exec_alone = error (codes "ERR EXEC without MULTI")

abbrev pub discard_alone : Tree
discard_alone = error (codes "ERR DISCARD without MULTI")

-- one was marked
abbrev pub aborted : Tree
aborted = error (codes "EXECABORT Transaction discarded because of previous errors.")

abbrev pub not_allowed : Tree
not_allowed = error (codes "ERR not allowed in a transaction")

abbrev pub past_limit : Tree
past_limit = error (codes "ERR offset limit")

-- ---- what a request comes to where a transaction is open
pub data Coming : Type 0 where
  waits : Coming  -- with those before it, for the end
  marks : Tree → Coming  -- it is answered this, and nothing is done at the end
  nests : Coming  -- MULTI
  drops : Coming  -- DISCARD
  ends : Coming  -- EXEC
  quits : Coming  -- QUIT

-- words that are no command, or too few or too many of one, are answered at once; other faults at the end
abbrev pub coming_of_fault : AskFault → Coming
coming_of_fault fault.Unknown = marks (error (fault_text fault.Unknown))
coming_of_fault (fault.Arity name) = marks (error (fault_text (fault.Arity name)))
coming_of_fault _ = waits

-- what says whom the node follows, and what replicas send, isn't allowed
abbrev pub coming_to_node : NodeAsk → Coming
coming_to_node node.Multi = nests
coming_to_node node.Exec = ends
coming_to_node node.Discard = drops
coming_to_node _ = marks not_allowed

-- nor are SHUTDOWN and BGREWRITEAOF; QUIT acts at once
abbrev pub coming_to_server : ServerAsk → Coming
coming_to_server server.Quit = quits
coming_to_server server.BgRewriteAof = marks not_allowed
coming_to_server (server.Shutdown saving) = marks not_allowed
coming_to_server _ = waits

-- a replica refuses writes at once
abbrev pub coming_of_ask : Bool → Ask → Coming
coming_of_ask replica (ask.Node wish) = coming_to_node wish
coming_of_ask replica (ask.Server command) = coming_to_server command
coming_of_ask replica command = if replica && writes command then marks readonly else waits

abbrev pub coming_by : Bool → Result Ask AskFault → Coming
coming_by replica (Ok command) = coming_of_ask replica command
coming_by replica (Err fault) = coming_of_fault fault

-- by its words, on a master (false) or on a replica (true)
abbrev pub coming : Bool → List (List ℕ) → Coming
coming replica words = coming_by replica (asked words)

-- .. as it is told
abbrev pub IsWithin : Coming → Within → Type 0
IsWithin waits within.Queue = Unit {0}
IsWithin (marks reply) (within.Mark told) = view told ≡ reply
IsWithin nests within.Nest = Unit {0}
IsWithin drops within.Drop = Unit {0}
IsWithin ends within.Run = Unit {0}
IsWithin quits within.Quit = Unit {0}
IsWithin _ _ = ⊥

-- ---- what those that waited come to
-- Whether the effects so far may stand in the stream as one; and what a question about the node may be answered.
pub record Frame : Type 1 where
  pub Fits : List Effect → Type 0
  pub Told : Question → Tree → Type 0

-- One of them, behind those that had these effects, at the dataset that they left: what it is answered, its effects, and the dataset behind it.
-- What is neither carried out nor a question may not stand there: it doesn't wait, and would be refused.
pub data Does (frame : Frame) (replica : Bool) (given : Given) (words : List (List ℕ)) (before : List Effect) (m : Dataset) (reply : Tree) (effects : List Effect) (n : Dataset) : Type 0 where
  fits : IsPlain words → HasPlan replica m words given reply effects → frame.Fits (before ++ effects) → n ≡ left replica words given m → Does frame replica given words before m reply effects n
  passes : IsPlain words → (planned : Tree) (over : List Effect) → HasPlan replica m words given planned over → (frame.Fits (before ++ over) → ⊥) → reply ≡ past_limit → effects ≡ [] → n ≡ m → Does frame replica given words before m reply effects n
  tells : (question : Question) → question_in words ≡ Some question → frame.Told question reply → effects ≡ [] → n ≡ m → Does frame replica given words before m reply effects n
  refuses : (IsPlain words → request.quits words ≡ false → ⊥) → question_in words ≡ None → reply ≡ not_allowed → effects ≡ [] → n ≡ m → Does frame replica given words before m reply effects n

-- All of them, one after another, by their texts.
pub data DoesAll (frame : Frame) (replica : Bool) (given : Given) : List (List ℕ) → List Effect → Dataset → List Tree → List Effect → Dataset → Type 0 where
  none : (before : List Effect) (m : Dataset) → DoesAll frame replica given [] before m [] [] m
  more : (text : List ℕ) (texts words : List (List ℕ)) (before : List Effect) (m mid n : Dataset) (reply : Tree) (replies : List Tree) (effects behind : List Effect) → IsRequest usual text words
      → Does frame replica given words before m reply effects mid → DoesAll frame replica given texts (before ++ effects) mid replies behind n → DoesAll frame replica given (text ∷ texts) before m (reply ∷ replies) (effects ++ behind) n

-- The first of them has effects, which may stand there, and one of which takes memory.
pub record FirstTakesMemory (frame : Frame) (replica : Bool) (given : Given) (requests : List (List ℕ)) (before : List Effect) (m : Dataset) : Type 0 where
  pub text : List ℕ
  pub later : List (List ℕ)
  pub first : requests ≡ text ∷ later
  pub words : List (List ℕ)
  pub request : IsRequest usual text words
  pub plain : IsPlain words
  pub reply : Tree
  pub effects : List Effect
  pub plan : HasPlan replica m words given reply effects
  pub fits : frame.Fits (before ++ effects)
  pub heavy : AllByRecursion NeedsNoMemory effects → ⊥
