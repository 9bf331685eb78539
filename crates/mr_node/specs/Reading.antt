-- What is to be done about a client's unread bytes.
use Rattle.std.specs.Prelude.{◌≡◌, ◌≤◌, ◌<◌, ℕ, List, Bool, true, Some, Result, Ok, Err, length, drop}
use Rattle.mr_resp.specs.ReplyView.{view}
use Rattle.mr_keyspace.specs.Dataset.{Dataset}
use Rattle.mr_data.specs.declared.given.Given.{Given}
use Rattle.mr_data.specs.declared.plan.Plan.{Plan}
use Rattle.mr_cmd_server.specs.declared.question.Question.{Question}
use Rattle.mr_cmd_node.specs.declared.node_ask.NodeAsk.{NodeAsk}
use Rattle.mr_cmd_node.specs.declared.node_ask.NodeAsk.TheVariants as node
use Rattle.mr_commands.specs.Requests.{AsksNode, HasPlan, IsPlain, halts, question_in, quits, rewrites}
use Rattle.mr_commands.specs.declared.requests.Answer.{Answer}
use Rattle.mr_commands.specs.declared.requests.Answer.TheVariants as answer
use Rattle.mr_node_links.specs.State.{full}
use Rattle.mr_node_links.specs.Progresses.{AgreesAlong}
use Rattle.mr_node_spec.specs.Requests.{Asks, AsksNothing, Waits, IsDoomedBy}
use Rattle.mr_node_spec.specs.ClientRows.{MayLack}
use Rattle.mr_node.specs.declared.request.NodeRequest.{NodeRequest}
use Rattle.mr_node.specs.declared.request.NodeRequest.TheVariants as request
use Rattle.mr_node.specs.declared.todo.Todo.{Todo}
use Rattle.mr_node.specs.declared.todo.Todo.TheVariants as todo

-- what is asked of the node, as it is kept
abbrev pub IsWish : NodeAsk → NodeRequest → Type 0
IsWish (node.Psync id wanted) (request.Stream wish) = (wish.id.items ≡ id) × (wish.wanted ≡ wanted)
IsWish (node.ReplConf told) (request.Introduction introduction) = Unit {0}
IsWish (node.Ack offset) (request.Acknowledgement kept) = kept ≡ offset
IsWish (node.ReplicaOf host port) (request.Follow address) = address ≡ record { host = host; port = port }
IsWish node.NoOne request.Lead = Unit {0}
IsWish node.Multi request.Begin = Unit {0}
IsWish node.Exec request.Exec = Unit {0}
IsWish node.Discard request.Discard = Unit {0}
IsWish _ _ = ⊥

-- what these words are answered
abbrev pub IsAnswered : Bool → List (List ℕ) → Given → Dataset → Answer → Type 0
IsAnswered replica words given m (answer.Run plan) = IsPlain words × HasPlan replica m words given (view plan.reply) plan.effects.items
IsAnswered replica words given m answer.Quit = quits words ≡ true
IsAnswered replica words given m answer.Rewrite = rewrites words ≡ true
IsAnswered replica words given m (answer.Tell question) = question_in words ≡ Some question
IsAnswered replica words given m answer.Halt = halts words ≡ true

-- what is to be done about words that so many bytes are
abbrev pub IsDone : Bool → List (List ℕ) → ℕ → Given → Dataset → Todo → Type 0
IsDone replica words n given m (todo.Ask used request) = (used ≡ n) × (wish : NodeAsk) × AsksNode words wish × IsWish wish request
IsDone replica words n given m (todo.Do used answer) = (used ≡ n) × IsAnswered replica words given m answer
IsDone replica words n given m _ = ⊥

-- So many bytes are a request, of these words.
pub record Reads (u : List ℕ) (used : ℕ) (words : List (List ℕ)) : Type 0 where
  pub enough : used ≤ length u
  pub asks : Asks u words (drop used u)

-- So many bytes are an empty request.
pub record Passes (u : List ℕ) (used : ℕ) : Type 0 where
  pub enough : used ≤ length u
  pub asks : AsksNothing u (drop used u)

-- .. a request, of which this is the plan
pub record Runs (replica : Bool) (u : List ℕ) (given : Given) (m : Dataset) (used : ℕ) (p : Plan) : Type 0 where
  pub words : List (List ℕ)
  pub reads : Reads u used words
  pub plain : IsPlain words
  pub plan : HasPlan replica m words given (view p.reply) p.effects.items

-- .. a client's wish that its link be closed
pub record Quits (u : List ℕ) : Type 0 where
  pub words : List (List ℕ)
  pub rest : List ℕ
  pub asks : Asks u words rest
  pub quit : quits words ≡ true

-- .. that the append-only file be written anew
pub record Rewrites (u : List ℕ) (used : ℕ) : Type 0 where
  pub words : List (List ℕ)
  pub reads : Reads u used words
  pub rewriting : rewrites words ≡ true

-- .. a question about the node
pub record Questions (u : List ℕ) (used : ℕ) (question : Question) : Type 0 where
  pub words : List (List ℕ)
  pub reads : Reads u used words
  pub asked : question_in words ≡ Some question

-- .. a wish that the program end
pub record HaltsAt (u : List ℕ) (used : ℕ) : Type 0 where
  pub words : List (List ℕ)
  pub reads : Reads u used words
  pub halting : halts words ≡ true

-- .. what asks something of the node itself
pub record Wishes (u : List ℕ) (used : ℕ) (wish : NodeAsk) : Type 0 where
  pub words : List (List ℕ)
  pub reads : Reads u used words
  pub asks : AsksNode words wish

-- .. a request that is answered so
abbrev pub IsAnsweredAt : Bool → List ℕ → Given → Dataset → ℕ → Answer → Type 0
IsAnsweredAt replica u given m used (answer.Run plan) = Runs replica u given m used plan
IsAnsweredAt replica u given m used answer.Quit = Quits u
IsAnsweredAt replica u given m used answer.Rewrite = Rewrites u used
IsAnsweredAt replica u given m used (answer.Tell question) = Questions u used question
IsAnsweredAt replica u given m used answer.Halt = HaltsAt u used

abbrev pub IsTodo : Bool → List ℕ → Given → Dataset → Todo → Type 0
IsTodo replica u given m (todo.Wait progress) = Waits u × (length u < full)
IsTodo replica u given m (todo.Skip used) = Passes u used
IsTodo replica u given m (todo.Refuse fault) = IsDoomedBy u fault
IsTodo replica u given m (todo.Ask used request) = (wish : NodeAsk) × Wishes u used wish × IsWish wish request
IsTodo replica u given m (todo.Do used answer) = IsAnsweredAt replica u given m used answer

-- where more is waited for, the progress is over the unread bytes
abbrev pub KeepsAlong : Todo → List ℕ → Type 0
KeepsAlong (todo.Wait progress) unread = AgreesAlong progress unread
KeepsAlong _ unread = Unit {0}

-- .. or memory is lacking
abbrev pub TodoAt : {E : Type 0} → Bool → List ℕ → Given → Dataset → Result Todo E → Type 0
TodoAt replica u given m (Ok todo) = IsTodo replica u given m todo × KeepsAlong todo u
TodoAt replica u given m (Err lacks) = MayLack u
