-- What the words of a request are answered, and their effects.
use Rattle.std.specs.Prelude.{◌≡◌, ℕ, All, List, [], Bool, true, false, Result, Ok, Err, Option, Some, None, codes, if◌then◌else◌}
use Rattle.mr_resp.specs.Replies.{Tree, error}
use Rattle.mr_resp.specs.ReplyView.{view}
use Rattle.mr_resp.specs.Command.{IsCommandText}
use Rattle.mr_resp.specs.Usual.{commands}
use Rattle.mr_keyspace.specs.Dataset.{Dataset}
use Rattle.mr_data.specs.Meaning.{apply_all}
use Rattle.mr_data.specs.declared.given.Given.{Given}
use Rattle.mr_effect.specs.Spelling.{text, IsShort}
use Rattle.mr_effect.specs.declared.effect.Effect.{Effect}
use Rattle.mr_ask.specs.Asks.{asked}
use Rattle.mr_arguments.specs.Faults.{fault_text}
use Rattle.mr_ask.specs.declared.ask.Ask.{Ask}
use Rattle.mr_ask.specs.declared.ask.Ask.TheVariants as ask
use Rattle.mr_cmd_server.specs.declared.server_ask.ServerAsk.TheVariants as server
use Rattle.mr_cmd_server.specs.declared.question.Question.{Question}
use Rattle.mr_cmd_node.specs.declared.node_ask.NodeAsk.{NodeAsk}
use Rattle.mr_cmd_server.specs.Questions.{question_of}
use Rattle.mr_arguments.specs.declared.fault.AskFault.{AskFault}
use Rattle.mr_cmd_shared.specs.Commands.{IsPlan, answer, after}
use Rattle.mr_commands.specs.PlannedCommands.{command_of}
use Rattle.mr_commands.specs.Writes.{writes}
use Rattle.mr_commands.specs.declared.requests.Answer.{Answer}
use Rattle.mr_commands.specs.declared.requests.Answer.TheVariants as answer

-- a write that a client asks of a replica
abbrev pub readonly : Tree
readonly = error (codes "READONLY You can't write against a read only replica.")

-- what a replica answers: it refuses writes, and tells what is seen at the moment
abbrev pub replica_reply : Ask → Given → Dataset → Tree
replica_reply command given m = if writes command then readonly else answer (command_of command given) given.now m

-- On a master (false) a command has its plan; a replica (true) only answers, and leaves expired keys to the DELs of its master.
-- Words that are no command are answered their fault by either.
abbrev pub IsPlannedAs : Result Ask AskFault → Bool → Given → Dataset → Tree → List Effect → Type 0
IsPlannedAs (Ok command) false given m reply effects = IsPlan (command_of command given) given.now m reply effects
IsPlannedAs (Ok command) true given m reply effects = (reply ≡ replica_reply command given m) × (effects ≡ [])
IsPlannedAs (Err fault) replica given m reply effects = (reply ≡ error (fault_text fault)) × (effects ≡ [])

pub record IsPlanned (replica : Bool) (words : List (List ℕ)) (given : Given) (m : Dataset) (reply : Tree) (effects : List Effect) : Type 0 where
  pub planned : IsPlannedAs (asked words) replica given m reply effects

-- the dataset behind it: on a master what the command leaves, and else the one before
abbrev pub left_by : Result Ask AskFault → Bool → Given → Dataset → Dataset
left_by (Ok command) false given m = after (command_of command given) given.now m
left_by (Ok command) true given m = m
left_by (Err fault) replica given m = m

abbrev pub left : Bool → List (List ℕ) → Given → Dataset → Dataset
left replica words given m = left_by (asked words) replica given m

-- QUIT
abbrev pub is_quit : Ask → Bool
is_quit (ask.Server server.Quit) = true
is_quit _ = false

abbrev pub closes : Result Ask AskFault → Bool
closes (Ok command) = is_quit command
closes (Err fault) = false

-- the client asks that its link be closed
abbrev pub quits : List (List ℕ) → Bool
quits words = closes (asked words)

-- BGREWRITEAOF
abbrev pub is_rewriting : Ask → Bool
is_rewriting (ask.Server server.BgRewriteAof) = true
is_rewriting _ = false

abbrev pub rewriting_by : Result Ask AskFault → Bool
rewriting_by (Ok command) = is_rewriting command
rewriting_by (Err fault) = false

-- the client asks that the append-only file be written anew
abbrev pub rewrites : List (List ℕ) → Bool
rewrites words = rewriting_by (asked words)

-- SHUTDOWN
abbrev pub is_shutdown : Ask → Bool
is_shutdown (ask.Server (server.Shutdown saving)) = true
is_shutdown _ = false

abbrev pub halting_by : Result Ask AskFault → Bool
halting_by (Ok command) = is_shutdown command
halting_by (Err fault) = false

-- the client asks that the program end
abbrev pub halts : List (List ℕ) → Bool
halts words = halting_by (asked words)

-- INFO and ROLE
abbrev pub question_asked : Ask → Option Question
question_asked (ask.Server command) = question_of command
question_asked _ = None

abbrev pub question_by : Result Ask AskFault → Option Question
question_by (Ok command) = question_asked command
question_by (Err fault) = None

-- what the client asks about the node, if it does
abbrev pub question_in : List (List ℕ) → Option Question
question_in words = question_by (asked words)

-- the words ask this of the node
abbrev pub AsksNode : List (List ℕ) → NodeAsk → Type 0
AsksNode words wish = asked words ≡ Ok (ask.Node wish)

-- A request that is answered by its plan: it doesn't rewrite the file, end the program, ask about the node, or ask anything of it.
pub record IsPlain (words : List (List ℕ)) : Type 0 where
  pub keeps_file : rewrites words ≡ false
  pub runs_on : halts words ≡ false
  pub asks_data : question_in words ≡ None
  pub asks_no_node : (wish : NodeAsk) → AsksNode words wish → ⊥

-- what is done about a command
abbrev pub IsAnswerTo : Bool → Ask → Given → Dataset → Answer → Type 0
IsAnswerTo replica command given m (answer.Run plan) = (is_quit command ≡ false) × (is_rewriting command ≡ false) × (is_shutdown command ≡ false) × (question_asked command ≡ None) × IsPlannedAs (Ok command) replica given m (view plan.reply) plan.effects.items
IsAnswerTo replica command given m answer.Quit = is_quit command ≡ true
IsAnswerTo replica command given m answer.Rewrite = is_rewriting command ≡ true
IsAnswerTo replica command given m (answer.Tell question) = question_asked command ≡ Some question
IsAnswerTo replica command given m answer.Halt = is_shutdown command ≡ true

abbrev pub IsAnswer : Bool → List (List ℕ) → Given → Dataset → Answer → Type 0
IsAnswer replica words given m (answer.Run plan) = (quits words ≡ false) × (rewrites words ≡ false) × (halts words ≡ false) × (question_in words ≡ None) × IsPlanned replica words given m (view plan.reply) plan.effects.items
IsAnswer replica words given m answer.Quit = quits words ≡ true
IsAnswer replica words given m answer.Rewrite = rewrites words ≡ true
IsAnswer replica words given m (answer.Tell question) = question_in words ≡ Some question
IsAnswer replica words given m answer.Halt = halts words ≡ true

-- what is carried out leads from the one dataset to the other
abbrev pub Leads : Answer → Dataset → Dataset → Type 0
Leads (answer.Run plan) m n = apply_all plan.effects.items m ≡ Some n
Leads answer.Quit m n = Unit {0}
Leads answer.Rewrite m n = m ≡ n
Leads (answer.Tell question) m n = m ≡ n
Leads answer.Halt m n = m ≡ n

-- The text of each effect is a command text, of no more words than a command may have.
pub record AreSent (effects : List Effect) : Type 0 where
  pub texts : All (λ e. IsCommandText commands (text e)) effects
  pub short : All IsShort effects

abbrev pub HasTexts : Answer → Type 0
HasTexts (answer.Run plan) = AreSent plan.effects.items
HasTexts answer.Quit = Unit {0}
HasTexts answer.Rewrite = Unit {0}
HasTexts (answer.Tell question) = Unit {0}
HasTexts answer.Halt = Unit {0}

-- A request other than QUIT: its answer at this dataset, on a master (false) or a replica (true), and its effects there. They lead to
-- what it leaves, and the text of each is a command text of no more words than a command may have, so that whoever reads their texts finds
-- them again.
pub record HasPlan (replica : Bool) (m : Dataset) (words : List (List ℕ)) (given : Given) (reply : Tree) (effects : List Effect) : Type 0 where
  pub goes_on : quits words ≡ false
  pub planned : IsPlanned replica words given m reply effects
  pub leads : apply_all effects m ≡ Some (left replica words given m)
  pub texts : All (λ e. IsCommandText commands (text e)) effects
  pub short : All IsShort effects
