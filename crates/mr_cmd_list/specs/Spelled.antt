-- The words that a command on lists is spelled by.
use Rattle.std.specs.Prelude.{ℕ, List, [], ◌∷◌, map}
use Rattle.mr_arguments.specs.Spelling.{Part, Word, Number, Keyword, count_part, AreParts, NameAndArguments}
use Rattle.mr_arguments.specs.declared.name.Name.{Name}
use Rattle.mr_cmd_list.specs.Called.{list_name}
use Rattle.mr_cmd_list.specs.Carried.{list_words}
use Rattle.mr_cmd_list.specs.Parts.{end_text, side_text}
use Rattle.mr_cmd_list.specs.declared.list_ask.ListAsk.{ListAsk}
use Rattle.mr_cmd_list.specs.declared.list_ask.ListAsk.TheVariants as list

-- what stands behind the name of a command on lists
abbrev pub list_parts : ListAsk → List Part
list_parts (list.Pop key end count) = Word key ∷ count_part count
list_parts (list.LRange key first last) = Word key ∷ Number first ∷ Number last ∷ []
list_parts (list.LIndex key index) = Word key ∷ Number index ∷ []
list_parts (list.LSet key index item) = Word key ∷ Number index ∷ Word item ∷ []
list_parts (list.LInsert key side pivot item) = Word key ∷ Keyword (side_text side) ∷ Word pivot ∷ Word item ∷ []
list_parts (list.LRem key count item) = Word key ∷ Number count ∷ Word item ∷ []
list_parts (list.LTrim key first last) = Word key ∷ Number first ∷ Number last ∷ []
list_parts (list.LMove from to taken put) = Word from ∷ Word to ∷ Keyword (end_text taken) ∷ Keyword (end_text put) ∷ []
list_parts command = map Word (list_words command)

abbrev pub ListSpells : Name → List (List ℕ) → ListAsk → Type 0
ListSpells called words command = NameAndArguments (list_name command) called (AreParts words (list_parts command))
