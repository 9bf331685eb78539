-- What a client asks about the node.
use Rattle.std.specs.Prelude.{ℕ, List, Bool, ◌||◌, if◌then◌else◌, Option, Some, None, codes}
use Rattle.std.specs.Str.{bytes_eq}
use Rattle.mr_arguments.specs.Names.{lowered}
use Rattle.mr_cmd_server.specs.declared.question.Question.{Question}
use Rattle.mr_cmd_server.specs.declared.question.Question.TheVariants as question
use Rattle.mr_cmd_server.specs.declared.server_ask.ServerAsk.{ServerAsk}
use Rattle.mr_cmd_server.specs.declared.server_ask.ServerAsk.TheVariants as ask

-- INFO tells of replication under these names, in any case
abbrev pub is_replication : List ℕ → Bool
is_replication section = bytes_eq (lowered section) (codes "replication") || (bytes_eq (lowered section) (codes "all") || bytes_eq (lowered section) (codes "default"))

-- what INFO asks about under a section's name
abbrev pub section_question : List ℕ → Question
section_question section = if is_replication section then question.Replication else question.OtherSection

-- what a command asks about the node, if it does
abbrev pub question_of : ServerAsk → Option Question
question_of (ask.Info None) = Some question.Replication
question_of (ask.Info (Some section)) = Some (section_question section)
question_of ask.Role = Some question.Role
question_of _ = None
