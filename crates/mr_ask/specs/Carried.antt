-- The words that a command carries.
use Rattle.std.specs.Prelude.{ℕ, List, IsTrue}
use Rattle.std.specs.List.{list_all}
use Rattle.mr_bytes.specs.Words.{fits}
use Rattle.mr_cmd_hash.specs.Carried.{hash_words}
use Rattle.mr_cmd_list.specs.Carried.{list_words}
use Rattle.mr_cmd_set.specs.Carried.{set_words}
use Rattle.mr_cmd_zset.specs.Carried.{zset_words}
use Rattle.mr_ask.specs.declared.ask.Ask.{Ask}
use Rattle.mr_ask.specs.declared.ask.Ask.TheVariants as ask
use Rattle.mr_cmd_string.specs.Carried.{text_words, IsTimed}
use Rattle.mr_cmd_key.specs.Carried.{key_words}
use Rattle.mr_cmd_server.specs.Carried.{server_words}
use Rattle.mr_cmd_node.specs.Carried.{node_words}

abbrev pub words_of : Ask → List (List ℕ)
words_of (ask.Texts command) = text_words command
words_of (ask.Keys command) = key_words command
words_of (ask.Hashes command) = hash_words command
words_of (ask.Lists command) = list_words command
words_of (ask.Sets command) = set_words command
words_of (ask.SortedSets command) = zset_words command
words_of (ask.Server command) = server_words command
words_of (ask.Node command) = node_words command

-- what every command keeps that was read from words within the word limit: its words are within the limit, and its time is long enough
abbrev pub AskFits : Ask → Type 0
AskFits (ask.Texts command) = IsTrue (list_all fits (text_words command)) × IsTimed command
AskFits command = IsTrue (list_all fits (words_of command))
