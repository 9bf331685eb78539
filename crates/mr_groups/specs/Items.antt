-- What a file is made of: notes, and groups.
use Rattle.std.specs.Prelude.{ℕ, List, [], ◌∷◌}
use Rattle.std.specs.List.{flat_map}
use Rattle.mr_effect.specs.declared.effect.Effect.{Effect}
use Rattle.mr_groups.specs.Groups.{IsGoodGroup, group_text}
use Rattle.mr_groups.specs.Notes.{IsNoteLine, note_text}

pub data Item : Type 0 where
  note : List ℕ → Item
  group : List Effect → Item

abbrev pub IsGoodItem : Item → Type 0
IsGoodItem (Item.note line) = IsNoteLine line
IsGoodItem (Item.group es) = IsGoodGroup es

abbrev pub item_text : Item → List ℕ
item_text (Item.note line) = note_text line
item_text (Item.group es) = group_text es

-- the texts of items, one after another
abbrev pub item_texts : List Item → List ℕ
item_texts items = flat_map item_text items

-- the groups among them, in order
abbrev pub groups_of : List Item → List (List Effect)
groups_of [] = []
groups_of (Item.note line ∷ items) = groups_of items
groups_of (Item.group es ∷ items) = es ∷ groups_of items
