-- Which bytes are a reply.
use Rattle.std.specs.Prelude.{◌≡◌, ℕ, ◌+◌, ◌<◌, ◌^◌, ◌⊎◌, zero, suc, List, [], ◌∷◌, ◌++◌, length}
use Rattle.std.specs.List.{flat_map}
use Rattle.mr_resp.specs.Spelling.{bulk, line_end, minus_one, number_line}
use Rattle.mr_trio_script.specs.ReplyLines.{HasNoFeed}

-- A reply is written in parts, one after another: each is a line, a word with its length, no word, no list, or the count of a list,
-- whose replies follow.
pub data Part : Type 0 where
  line : (form : ℕ) (text : List ℕ) → Part
  word : List ℕ → Part
  no_word : Part
  no_list : Part
  list : ℕ → Part

-- `+`, `-` or `:`
abbrev pub IsForm : ℕ → Type 0
IsForm form = (form ≡ 43) ⊎ ((form ≡ 45) ⊎ (form ≡ 58))

-- no line feed stands in a line, and lengths and counts are below 2^63
abbrev pub IsPart : Part → Type 0
IsPart (line form text) = IsForm form × HasNoFeed text
IsPart (word bytes) = length bytes < 2 ^ 63
IsPart no_word = Unit {0}
IsPart no_list = Unit {0}
IsPart (list count) = count < 2 ^ 63

abbrev pub part_text : Part → List ℕ
part_text (line form text) = form ∷ text ++ line_end
part_text (word bytes) = bulk bytes
part_text no_word = 36 ∷ 45 ∷ 49 ∷ line_end
part_text no_list = minus_one
part_text (list count) = 42 ∷ number_line count

-- how many replies follow a part as its own
abbrev pub opens : Part → ℕ
opens (line form text) = 0
opens (word bytes) = 0
opens no_word = 0
opens no_list = 0
opens (list count) = count

-- So many replies are exactly in these parts.
abbrev pub Settles : ℕ → List Part → Type 0
Settles zero [] = Unit {0}
Settles zero (p ∷ ps) = ⊥
Settles (suc left) [] = ⊥
Settles (suc left) (p ∷ ps) = IsPart p × Settles (left + opens p) ps

-- So many replies, one after another, have this text.
pub record AreReplies (count : ℕ) (text : List ℕ) : Type 0 where
  pub parts : List Part
  pub settles : Settles count parts
  pub is : text ≡ flat_map part_text parts

abbrev pub IsReply : List ℕ → Type 0
IsReply text = AreReplies 1 text
