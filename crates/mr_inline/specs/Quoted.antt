-- Words written in double quotes.
use Rattle.std.specs.Prelude.{ℕ, if◌then◌else◌, ◌==◌, List, [], ◌∷◌, ◌++◌}
use Rattle.std.specs.List.{flat_map}
use Rattle.mr_inline.specs.Bytes.{line_feed, double_quote, backslash}

-- A line feed, a double quote and a backslash are escaped; any other byte is written as it is.
abbrev pub quoted_byte : ℕ → List ℕ
quoted_byte b = if b == line_feed then backslash ∷ 110 ∷ [] else if b == double_quote then backslash ∷ double_quote ∷ [] else if b == backslash then backslash ∷ backslash ∷ [] else b ∷ []

abbrev pub quoted : List ℕ → List ℕ
quoted word = double_quote ∷ (flat_map quoted_byte word ++ double_quote ∷ [])

-- the words in double quotes, with a space between two, and a line feed
abbrev pub quoted_line : List (List ℕ) → List ℕ
quoted_line [] = line_feed ∷ []
quoted_line (first ∷ later) = (quoted first ++ flat_map (λ word. 32 ∷ quoted word) later) ++ line_feed ∷ []
