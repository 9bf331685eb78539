-- What each command does.
use Rattle.std.specs.Prelude.{◌<◌, length}
use Rattle.mr_resp.specs.Usual.{commands}
use Rattle.mr_data.specs.declared.given.Given.{Given}
use Rattle.mr_resp.specs.Replies.{error}
use Rattle.mr_arguments.specs.Faults.{fault_text}
use Rattle.mr_arguments.specs.declared.fault.AskFault.TheVariants.{Unknown}
use Rattle.mr_cmd_shared.specs.Outcomes.{answered}
use Rattle.mr_cmd_shared.specs.Commands.{Command, on_none}
use Rattle.mr_cmd_node.specs.declared.node_ask.NodeAsk.{NodeAsk}
use Rattle.mr_cmd_string.specs.Carried.{text_words}
use Rattle.mr_ask.specs.declared.ask.Ask.{Ask}
use Rattle.mr_ask.specs.declared.ask.Ask.TheVariants as ask
use Rattle.mr_cmd_string.specs.Commands as texts
use Rattle.mr_cmd_key.specs.Commands as keys
use Rattle.mr_cmd_server.specs.Commands as server
use Rattle.mr_cmd_hash.specs.Commands as hashes
use Rattle.mr_cmd_list.specs.Commands as lists
use Rattle.mr_cmd_set.specs.SetCommands as sets
use Rattle.mr_cmd_zset.specs.Commands as scores

-- A command to the node is for the node itself, which asks no dataset for it. A dataset that is asked knows no such command.
abbrev pub to_node : NodeAsk → Command
to_node command = on_none (answered (error (fault_text Unknown)))

-- by its kind; a command that speaks of time takes the moment, and one that draws members a random word
abbrev pub command_of : Ask → Given → Command
command_of (ask.Texts command) given = texts.command command given.now
command_of (ask.Keys command) given = keys.command command given.now
command_of (ask.Hashes command) given = hashes.command command
command_of (ask.Lists command) given = lists.command command
command_of (ask.Sets command) given = sets.command command given.word
command_of (ask.SortedSets command) given = scores.command command
command_of (ask.Server command) given = server.command command
command_of (ask.Node command) given = to_node command

-- A command text has room for the words that the command carries. (Only MSET and MSETNX have an effect that isn't cut.)
abbrev pub HasRoom : Ask → Type 0
HasRoom (ask.Texts command) = length (text_words command) < commands.words
HasRoom _ = Unit {0}
