-- The parts of which a list of places is made: one chunk, or levels of chunks.
use Rattle.std.specs.Prelude.{◌<◌, ◌≤◌, List, length}
use Rattle.std.specs.Global.{Vec}
use Rattle.std.specs.List.{All, flat_map}
use Rattle.mr_order.specs.Parts.{IsLevel, IsSound, length_limit}
use Rattle.mr_order.specs.declared.level.Level.{Level}
use Rattle.mr_order.specs.declared.root.Root.{Root}
use Rattle.mr_order.specs.declared.root.Root.TheVariants.{Chunk, Blocks}

module _ {A : Type 0} where
  -- the items of a chunk, and how many it may have
  abbrev pub chunk_items : Vec A → List A
  chunk_items chunk = chunk.items

  abbrev pub IsChunk : Vec A → Type 0
  IsChunk chunk = length chunk.items ≤ 64

-- the same of a level of parts
abbrev pub level_items : {P A : Type 0} → (P → List A) → Level P → List A
level_items items level = flat_map items level.parts.items

module _ {P A : Type 0} (items : P → List A) (is_kept : P → Type 0) where
  abbrev pub IsKeptLevel : Level P → Type 0
  IsKeptLevel level = IsLevel items is_kept level.parts.items level.len

module _ {A : Type 0} where
  -- the same of a block, which has three levels
  abbrev pub block_items : Level (Level (Level (Vec A))) → List A
  block_items = level_items (level_items (level_items chunk_items))

  abbrev pub IsBlock : Level (Level (Level (Vec A))) → Type 0
  IsBlock = IsKeptLevel (level_items (level_items chunk_items)) (IsKeptLevel (level_items chunk_items) (IsKeptLevel chunk_items IsChunk))

  -- the items of a list, whichever it is made of
  abbrev pub root_items : Root A → List A
  root_items (Chunk chunk) = chunk_items chunk
  root_items (Blocks blocks) = flat_map block_items blocks.items

  -- what holds of it between two calls
  abbrev pub IsKeptRoot : Root A → Type 0
  IsKeptRoot (Chunk chunk) = IsChunk chunk
  IsKeptRoot (Blocks blocks) = All (IsSound block_items IsBlock) blocks.items

  -- a further item finds a place in the one chunk, or blocks, which make their own room
  abbrev pub HasRoom : Root A → Type 0
  HasRoom (Chunk chunk) = length chunk.items < 64
  HasRoom (Blocks blocks) = Unit {0}

  -- it is one chunk
  abbrev pub IsSingle : Root A → Type 0
  IsSingle (Chunk chunk) = Unit {0}
  IsSingle (Blocks blocks) = ⊥

  -- what a list may be made of
  pub record IsRoot (root : Root A) : Type 0 where
    pub kept : IsKeptRoot root
    pub small : length (root_items root) ≤ length_limit
