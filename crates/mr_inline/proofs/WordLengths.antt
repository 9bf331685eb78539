-- No word is longer than the line that it stands in, and no line has more words than bytes.
use Rattle.std.proofs.Common.{ℕ, ◌<◌, ◌≤◌, List, [], ◌∷◌, ◌++◌, length, map, All, sym, ap, subst, arith}
use Rattle.std.specs.List.{flat_map}
use Rattle.std.proofs.lemmas.List.{length-append, length-map}
use Rattle.std.proofs.lemmas.List.Elements.{All-nil, All-cons, All-head, All-tail}
use Rattle.mr_inline.specs.Bytes.{line_feed, double_quote, single_quote}
use Rattle.mr_inline.specs.Line.{Item, itself, escape, hex, item_text, item_value, Mark, sign, quote, mark_text, mark_value, Ending, bare, double, single, ending_text, ending_value, Part, word_text, part_text, part_value, IsEnding, IsWord, IsLaterPart, AreParts, IsLineOf}

items_within : (items : List Item) → length (map item_value items) ≤ length (flat_map item_text items)
items_within [] = omega arith
items_within (itself b ∷ items) = omega (arith, items_within items)
items_within (escape c ∷ items) = omega (arith, items_within items)
items_within (hex high low ∷ items) = omega (arith, items_within items)

marks_within : (marks : List Mark) → length (map mark_value marks) ≤ length (flat_map mark_text marks)
marks_within [] = omega arith
marks_within (sign b ∷ marks) = omega (arith, marks_within marks)
marks_within (quote ∷ marks) = omega (arith, marks_within marks)

ending_within : (ending : Ending) → length (ending_value ending) ≤ length (ending_text ending)
ending_within bare = omega arith
ending_within (double items) = omega (arith, items_within items, length-append (flat_map item_text items) (double_quote ∷ []))
ending_within (single marks) = omega (arith, marks_within marks, length-append (flat_map mark_text marks) (single_quote ∷ []))

part_within : (part : Part) → length (part_value part) ≤ length (part_text part)
part_within part = omega (
  arith,
  length-append part.gap (word_text part.word),
  length-append part.word.plain (ending_text part.word.ending),
  length-append part.word.plain (ending_value part.word.ending),
  ending_within part.word.ending,
)

parts_within : (parts : List Part) (most : ℕ) → length (flat_map part_text parts) ≤ most → All (λ word. length word ≤ most) (map part_value parts)
parts_within [] most le = All-nil (λ word. length word ≤ most)
parts_within (part ∷ parts) most le =
    let both = length-append (part_text part) (flat_map part_text parts) in
    All-cons (λ word. length word ≤ most) (part_value part) (map part_value parts) (omega (arith, le, both, part_within part)) (parts_within parts most (omega (arith, le, both)))

pub words_within : (limit : ℕ) (text : List ℕ) (words : List (List ℕ)) → IsLineOf limit text words → All (λ word. length word ≤ limit) words
words_within limit text words l =
    let line : List ℕ = flat_map part_text l.parts ++ l.after in
    subst (λ (ws : List (List ℕ)). All (λ word. length word ≤ limit) ws) (sym l.means)
    (parts_within l.parts limit (omega (arith, l.size, ap length l.spelled, length-append line (line_feed ∷ []), length-append (flat_map part_text l.parts) l.after)))

ending_some : (plain : List ℕ) (ending : Ending) → IsEnding plain ending → 0 < length (plain ++ ending_text ending)
ending_some plain bare h = omega (arith, h, length-append plain [])
ending_some plain (double items) h = omega (arith, length-append plain (double_quote ∷ (flat_map item_text items ++ double_quote ∷ [])))
ending_some plain (single marks) h = omega (arith, length-append plain (single_quote ∷ (flat_map mark_text marks ++ single_quote ∷ [])))

part_some : (part : Part) → IsWord part.word → 0 < length (part_text part)
part_some part h = omega (arith, length-append part.gap (word_text part.word), ending_some part.word.plain part.word.ending h.1)

parts_few : (parts : List Part) → All IsLaterPart parts → length parts ≤ length (flat_map part_text parts)
parts_few [] h = omega arith
parts_few (part ∷ parts) h = omega (arith, length-append (part_text part) (flat_map part_text parts), part_some part (All-head IsLaterPart part parts h).2, parts_few parts (All-tail IsLaterPart part parts h))

line_few : (parts : List Part) → AreParts parts → length parts ≤ length (flat_map part_text parts)
line_few [] h = omega arith
line_few (part ∷ parts) h = omega (arith, length-append (part_text part) (flat_map part_text parts), part_some part h.1, parts_few parts h.2)

pub words_few : (limit : ℕ) (text : List ℕ) (words : List (List ℕ)) → IsLineOf limit text words → length words ≤ limit
words_few limit text words l =
    let line : List ℕ = flat_map part_text l.parts ++ l.after in
    omega (arith, l.size, ap length l.spelled, length-append line (line_feed ∷ []), length-append (flat_map part_text l.parts) l.after, line_few l.parts l.are_parts, ap length l.means, length-map l.parts part_value)
