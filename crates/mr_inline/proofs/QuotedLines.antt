-- Words in double quotes are a line of the grammar.
use Rattle.std.proofs.Common.{◌≡◌, ℕ, ◌+◌, ◌≤◌, Bool, true, false, cond, ◌==◌, List, [], ◌∷◌, ◌++◌, length, map, refl, sym, ap, ◌∙◌, arith}
use Rattle.std.specs.List.{flat_map, All}
use Rattle.std.proofs.lemmas.Bool.{eqb-true, eqb-false}
use Rattle.std.proofs.lemmas.List.{append-nil}
use Rattle.std.proofs.lemmas.List.Elements.{All-nil, All-cons}
use Rattle.mr_inline.specs.Bytes.{line_feed, double_quote, backslash}
use Rattle.mr_inline.specs.Line.{IsSeparator, IsPlain, Item, itself, escape, item_text, item_value, AreItems, double, IsWord, Part, part_text, part_value, IsLaterPart, IsLineOf}
use Rattle.mr_inline.specs.Quoted.{quoted_byte, quoted, quoted_line}

abbrev quoted_by : Bool → Bool → Bool → ℕ → List ℕ
quoted_by l d s b = cond l (backslash ∷ 110 ∷ []) (cond d (backslash ∷ double_quote ∷ []) (cond s (backslash ∷ backslash ∷ []) (b ∷ [])))

-- an item that is written so, and stands for the byte
record ItemFor (b : ℕ) (text : List ℕ) : Type 0 where
  item : Item
  spelled : item_text item ≡ text
  value : item_value item ≡ b
  fits : (items : List Item) → AreItems items → AreItems (item ∷ items)

item_by : (l d s : Bool) (b : ℕ) → (b == line_feed) ≡ l → (b == double_quote) ≡ d → (b == backslash) ≡ s → ItemFor b (quoted_by l d s b)
item_by true d s b hl hd hs = record { item = escape 110; spelled = refl; value = sym (eqb-true b line_feed hl); fits = λ items h. (λ e. omega (arith, e), λ e. absurd (omega (arith, e)), h) }
item_by false true s b hl hd hs = record { item = escape double_quote; spelled = refl; value = sym (eqb-true b double_quote hd); fits = λ items h. (λ e. omega (arith, e), λ e. absurd (omega (arith, e)), h) }
item_by false false true b hl hd hs = record { item = escape backslash; spelled = refl; value = sym (eqb-true b backslash hs); fits = λ items h. (λ e. omega (arith, e), λ e. absurd (omega (arith, e)), h) }
item_by false false false b hl hd hs = record { item = itself b; spelled = refl; value = refl; fits = λ items h. (eqb-false b double_quote hd, eqb-false b backslash hs, eqb-false b line_feed hl, h) }

item_for : (b : ℕ) → ItemFor b (quoted_byte b)
item_for b = item_by (b == line_feed) (b == double_quote) (b == backslash) b refl refl refl

record ItemsFor (word : List ℕ) : Type 0 where
  items : List Item
  spelled : flat_map item_text items ≡ flat_map quoted_byte word
  value : map item_value items ≡ word
  are_items : AreItems items

items_for : (word : List ℕ) → ItemsFor word
items_for [] = record { items = []; spelled = refl; value = refl; are_items = tt }
items_for (b ∷ word) =
    let one = item_for b in
    let rest = items_for word in
    record {
      items = one.item ∷ rest.items;
      spelled = ap (λ (x : List ℕ). x ++ flat_map item_text rest.items) one.spelled ∙ ap (λ (x : List ℕ). quoted_byte b ++ x) rest.spelled;
      value = ap (λ (x : ℕ). x ∷ map item_value rest.items) one.value ∙ ap (λ (x : List ℕ). b ∷ x) rest.value;
      are_items = one.fits rest.items rest.are_items;
    }

-- a word behind its gap
abbrev part_for : List ℕ → List ℕ → Part
part_for gap word = record { gap = gap; word = record { plain = []; ending = double (items_for word).items } }

part_text-for : (gap word : List ℕ) → part_text (part_for gap word) ≡ gap ++ quoted word
part_text-for gap word = ap (λ (x : List ℕ). gap ++ double_quote ∷ (x ++ double_quote ∷ [])) (items_for word).spelled

is_word : (word : List ℕ) → IsWord (record { plain = []; ending = double (items_for word).items })
is_word word = (All-nil IsPlain, (items_for word).are_items)

abbrev later_parts : List (List ℕ) → List Part
later_parts words = map (λ word. part_for (32 ∷ []) word) words

later_text : (words : List (List ℕ)) → flat_map part_text (later_parts words) ≡ flat_map (λ word. 32 ∷ quoted word) words
later_text [] = refl
later_text (word ∷ words) = ap (λ (x : List ℕ). x ++ flat_map part_text (later_parts words)) (part_text-for (32 ∷ []) word) ∙ ap (λ (x : List ℕ). (32 ∷ quoted word) ++ x) (later_text words)

later_value : (words : List (List ℕ)) → map part_value (later_parts words) ≡ words
later_value [] = refl
later_value (word ∷ words) = ap (λ (x : List ℕ). x ∷ map part_value (later_parts words)) (items_for word).value ∙ ap (λ (x : List (List ℕ)). word ∷ x) (later_value words)

are_later : (words : List (List ℕ)) → All IsLaterPart (later_parts words)
are_later [] = All-nil IsLaterPart
are_later (word ∷ words) = All-cons IsLaterPart (part_for (32 ∷ []) word) (later_parts words) (omega arith, All-cons IsSeparator 32 [] refl (All-nil IsSeparator), is_word word) (are_later words)

pub quoted_is_read : (limit : ℕ) (words : List (List ℕ)) → length (quoted_line words) ≤ limit + 1 → IsLineOf limit (quoted_line words) words
quoted_is_read limit [] size = record { parts = []; after = []; spelled = refl; are_parts = tt; separators = All-nil IsSeparator; means = refl; size = size; no_array = λ h. omega (arith, h) }
quoted_is_read limit (first ∷ later) size = record {
  parts = part_for [] first ∷ later_parts later;
  after = [];
  spelled = ap (λ (x : List ℕ). x ++ line_feed ∷ []) (sym (append-nil (flat_map part_text (part_for [] first ∷ later_parts later)) ∙ ap (λ (x : List ℕ). x ++ flat_map part_text (later_parts later)) (part_text-for [] first) ∙ ap (λ (x : List ℕ). quoted first ++ x) (later_text later)));
  are_parts = (All-nil IsSeparator, is_word first, are_later later);
  separators = All-nil IsSeparator;
  means = sym (ap (λ (x : List ℕ). x ∷ map part_value (later_parts later)) (items_for first).value ∙ ap (λ (x : List (List ℕ)). first ∷ x) (later_value later));
  size = size;
  no_array = λ h. omega (arith, h);
}
