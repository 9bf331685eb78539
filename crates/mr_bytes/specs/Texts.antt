-- Texts that are written over.
use Rattle.std.specs.Prelude.{ℕ, ◌+◌, ◌-◌, List, ◌++◌, length, take, drop, replicate}

-- A text with v in the place of its bytes from an offset on. Where it ends before the offset, zero bytes stand between.
unfoldable pub overwritten : ℕ → List ℕ → List ℕ → List ℕ
overwritten offset v text = take offset text ++ (replicate (offset - length text) 0 ++ (v ++ drop (offset + length v) text))
