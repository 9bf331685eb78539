-- Words: where their bytes lie, and their limit.
use Rattle.std.specs.Prelude.{ℕ, List, length, Bool, nat_le}
use Rattle.mr_inline.specs.Limits.{word_limit}
use Rattle.mr_bytes.specs.declared.word.Text.{Text}
use Rattle.mr_bytes.specs.declared.word.Text.TheVariants.{Borrowed, Short, Long}

-- the bytes, wherever they lie
abbrev pub word_bytes : Text → List ℕ
word_bytes (Borrowed bytes) = bytes.now
word_bytes (Short short) = short
word_bytes (Long bytes) = bytes.items

-- the word is within the limit
abbrev pub fits : List ℕ → Bool
fits w = nat_le (length w) word_limit
