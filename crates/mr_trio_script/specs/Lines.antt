-- What a line of a script says.
use Rattle.std.specs.Prelude.{ℕ, List, map}
use Rattle.std.specs.Cow.{cow_slice_items}
use Rattle.mr_inline.specs.Limits.{line_limit}
use Rattle.mr_inline.specs.Line.{IsLine, IsBlank, IsLineText}
use Rattle.mr_trio_script.specs.declared.line.ScriptLine.{ScriptLine}
use Rattle.mr_trio_script.specs.declared.line.ScriptLine.TheVariants.{Words, Blank, Bad}

-- These bytes are a line of these words, by the rules of requests on a line; or a line without words; or no line.
abbrev pub Reads : List ℕ → ScriptLine → Type 0
Reads line (Words words) = IsLine line_limit line (map cow_slice_items words.items)
Reads line Blank = IsBlank line_limit line
Reads line Bad = ¬ (IsLineText line_limit line)
