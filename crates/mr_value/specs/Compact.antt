-- Where the bytes of a byte string lie.
use Rattle.std.specs.Prelude.{ℕ, List}
use Rattle.mr_value.specs.declared.compact_bytes.Kept.{Kept}
use Rattle.mr_value.specs.declared.compact_bytes.Kept.TheVariants.{Short, Long}

-- the bytes, wherever they lie
abbrev pub kept_bytes : Kept → List ℕ
kept_bytes (Short short) = short
kept_bytes (Long bytes) = bytes
