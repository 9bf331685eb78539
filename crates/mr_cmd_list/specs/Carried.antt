-- The words that a command on lists carries.
use Rattle.std.specs.Prelude.{ℕ, List, [], ◌∷◌}
use Rattle.mr_cmd_list.specs.declared.list_ask.ListAsk.{ListAsk}
use Rattle.mr_cmd_list.specs.declared.list_ask.ListAsk.TheVariants as list

-- of a command on lists
abbrev pub list_words : ListAsk → List (List ℕ)
list_words (list.Push key end to items) = key ∷ items
list_words (list.Pop key end count) = key ∷ []
list_words (list.LLen key) = key ∷ []
list_words (list.LRange key first last) = key ∷ []
list_words (list.LIndex key index) = key ∷ []
list_words (list.LSet key index item) = key ∷ item ∷ []
list_words (list.LInsert key side pivot item) = key ∷ pivot ∷ item ∷ []
list_words (list.LRem key count item) = key ∷ item ∷ []
list_words (list.LTrim key first last) = key ∷ []
list_words (list.LMove from to taken put) = from ∷ to ∷ []
list_words (list.RPopLPush from to) = from ∷ to ∷ []
