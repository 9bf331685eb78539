-- What leads to the end of a line is a line: its words are found from the end on.
use Rattle.std.proofs.Common.{◌≡◌, ◌≢◌, ℕ, Bool, true, false, ◌==◌, List, [], ◌∷◌, ◌++◌, All, refl, sym, ap, ◌∙◌, subst, append_assoc, arith}
use Rattle.std.specs.Char.{is_ascii_hexdigit}
use Rattle.std.specs.List.{flat_map}
use Rattle.std.proofs.lemmas.Bool.{false≢true, and_parts, eqb-true, eqb-false}
use Rattle.std.proofs.lemmas.List.Elements.{All-nil, All-cons, All-head, All-tail}
use Rattle.mr_inline.specs.Bytes.{line_feed, double_quote, single_quote, backslash, letter_x, is_separator}
use Rattle.mr_inline.specs.Line.{IsSeparator, IsPlain, Item, itself, escape, hex, item_text, begins_hex, AreItems, Mark, sign, quote, mark_text, IsNext, AreMarks, Ending, bare, double, single, Word, ending_text, IsEnding, word_text, IsWord, Part, part_text, IsLaterPart, AreParts}
use Rattle.mr_inline.specs.Places.{kind_of, turn_at}
use Rattle.mr_inline.specs.declared.place.Kind.{Kind}
use Rattle.mr_inline.specs.declared.place.Kind.TheVariants.{LineFeed, Separator, DoubleQuote, SingleQuote, Backslash, Other}
use Rattle.mr_inline.specs.declared.place.Place.{Place}
use Rattle.mr_inline.specs.declared.place.Place.TheVariants.{Between, Plain, Double, DoubleEscape, Single, SingleEscape, Closed}
use Rattle.mr_inline.specs.declared.place.Turn.TheVariants.{Goes, Ends}
use Rattle.mr_inline.proofs.ByteKinds.{IsOfKind, of_kind, plain_other, plain_backslash}
use Rattle.mr_inline.proofs.Runs.{run, never_ends, ended}

-- what follows a word: words with separators before each, separators, the line feed
pub record AfterWord (text : List ℕ) : Type 0 where
  pub parts : List Part
  pub after : List ℕ
  pub spelled : text ≡ (flat_map part_text parts ++ after) ++ line_feed ∷ []
  pub each : All IsLaterPart parts
  pub separators : All IsSeparator after

-- the same where the first word needs no separators before it
pub record BeforeWord (text : List ℕ) : Type 0 where
  pub parts : List Part
  pub after : List ℕ
  pub spelled : text ≡ (flat_map part_text parts ++ after) ++ line_feed ∷ []
  pub are_parts : AreParts parts
  pub separators : All IsSeparator after

abbrev IsRestEnding : Ending → Type 0
IsRestEnding bare = Unit {0}
IsRestEnding (double items) = AreItems items
IsRestEnding (single marks) = AreMarks marks

-- the rest of a word, perhaps nothing, and what follows it
pub record InWord (text : List ℕ) : Type 0 where
  pub plain : List ℕ
  pub ending : Ending
  pub rest : List ℕ
  pub spelled : text ≡ (plain ++ ending_text ending) ++ rest
  pub each : All IsPlain plain
  pub ends : IsRestEnding ending
  pub later : AfterWord rest

pub record InDouble (text : List ℕ) : Type 0 where
  pub items : List Item
  pub rest : List ℕ
  pub spelled : text ≡ (flat_map item_text items ++ double_quote ∷ []) ++ rest
  pub are_items : AreItems items
  pub later : AfterWord rest

pub record InSingle (text : List ℕ) : Type 0 where
  pub marks : List Mark
  pub rest : List ℕ
  pub spelled : text ≡ (flat_map mark_text marks ++ single_quote ∷ []) ++ rest
  pub are_marks : AreMarks marks
  pub later : AfterWord rest

abbrev pub Tree : Place → List ℕ → Type 0
Tree Between text = BeforeWord text
Tree Plain text = InWord text
Tree Double text = InDouble text
Tree DoubleEscape text = InDouble (backslash ∷ text)
Tree Single text = InSingle text
Tree SingleEscape text = InSingle (backslash ∷ text)
Tree Closed text = AfterWord text

end_line : (b : ℕ) (r : List ℕ) → b ≡ line_feed → r ≡ [] → AfterWord (b ∷ r)
end_line b r e nil = record { parts = []; after = []; spelled = cc; each = All-nil IsLaterPart; separators = All-nil IsSeparator }

before_parts : (parts : List Part) → All IsLaterPart parts → AreParts parts
before_parts [] h = tt
before_parts (part ∷ parts) h = let one = All-head IsLaterPart part parts h in (one.1, one.2, All-tail IsLaterPart part parts h)

before_after : (r : List ℕ) → AfterWord r → BeforeWord r
before_after r t = record { parts = t.parts; after = t.after; spelled = t.spelled; are_parts = before_parts t.parts t.each; separators = t.separators }

-- one separator more
gap_parts : (b : ℕ) (r : List ℕ) (parts : List Part) (after : List ℕ) → is_separator b ≡ true → r ≡ (flat_map part_text parts ++ after) ++ line_feed ∷ [] → AreParts parts → All IsSeparator after → AfterWord (b ∷ r)
gap_parts b r [] after h e are each = record { parts = []; after = b ∷ after; spelled = ap (λ (x : List ℕ). b ∷ x) e; each = All-nil IsLaterPart; separators = All-cons IsSeparator b after h each }
gap_parts b r (part ∷ parts) after h e are each = record {
  parts = record { gap = b ∷ part.gap; word = part.word } ∷ parts;
  after = after;
  spelled = ap (λ (x : List ℕ). b ∷ x) e;
  each = All-cons IsLaterPart (record { gap = b ∷ part.gap; word = part.word }) parts (omega arith, All-cons IsSeparator b part.gap h are.0, are.1) are.2;
  separators = each;
}

gap : (b : ℕ) (r : List ℕ) → is_separator b ≡ true → BeforeWord r → AfterWord (b ∷ r)
gap b r h t = gap_parts b r t.parts t.after h t.spelled t.are_parts t.separators

word_first : (word : Word) (r : List ℕ) (text : List ℕ) → IsWord word → AfterWord r → text ≡ word_text word ++ r → BeforeWord text
word_first word r text h t e = record {
  parts = record { gap = []; word = word } ∷ t.parts;
  after = t.after;
  spelled = e ∙ ap (λ (x : List ℕ). word_text word ++ x) t.spelled ∙ simp append_assoc;
  are_parts = (All-nil IsSeparator, h, t.each);
  separators = t.separators;
}

ending_of_rest : (b : ℕ) (plain : List ℕ) (ending : Ending) → IsRestEnding ending → IsEnding (b ∷ plain) ending
ending_of_rest b plain bare h = omega arith
ending_of_rest b plain (double items) h = h
ending_of_rest b plain (single marks) h = h

plain_first : (b : ℕ) (r : List ℕ) → IsPlain b → InWord r → BeforeWord (b ∷ r)
plain_first b r h w = word_first (record { plain = b ∷ w.plain; ending = w.ending }) w.rest (b ∷ r) (All-cons IsPlain b w.plain h w.each, ending_of_rest b w.plain w.ending w.ends) w.later (ap (λ (x : List ℕ). b ∷ x) w.spelled)

double_first : (b : ℕ) (r : List ℕ) → b ≡ double_quote → InDouble r → BeforeWord (b ∷ r)
double_first b r e w = word_first (record { plain = []; ending = double w.items }) w.rest (b ∷ r) (All-nil IsPlain, w.are_items) w.later (let s = w.spelled in cc)

single_first : (b : ℕ) (r : List ℕ) → b ≡ single_quote → InSingle r → BeforeWord (b ∷ r)
single_first b r e w = word_first (record { plain = []; ending = single w.marks }) w.rest (b ∷ r) (All-nil IsPlain, w.are_marks) w.later (let s = w.spelled in cc)

word_ends : (r : List ℕ) → AfterWord r → InWord r
word_ends r t = record { plain = []; ending = bare; rest = r; spelled = refl; each = All-nil IsPlain; ends = tt; later = t }

plain_more : (b : ℕ) (r : List ℕ) → IsPlain b → InWord r → InWord (b ∷ r)
plain_more b r h w = record { plain = b ∷ w.plain; ending = w.ending; rest = w.rest; spelled = ap (λ (x : List ℕ). b ∷ x) w.spelled; each = All-cons IsPlain b w.plain h w.each; ends = w.ends; later = w.later }

double_opens : (b : ℕ) (r : List ℕ) → b ≡ double_quote → InDouble r → InWord (b ∷ r)
double_opens b r e w = record { plain = []; ending = double w.items; rest = w.rest; spelled = let s = w.spelled in cc; each = All-nil IsPlain; ends = w.are_items; later = w.later }

single_opens : (b : ℕ) (r : List ℕ) → b ≡ single_quote → InSingle r → InWord (b ∷ r)
single_opens b r e w = record { plain = []; ending = single w.marks; rest = w.rest; spelled = let s = w.spelled in cc; each = All-nil IsPlain; ends = w.are_marks; later = w.later }

double_closes : (b : ℕ) (r : List ℕ) → b ≡ double_quote → AfterWord r → InDouble (b ∷ r)
double_closes b r e t = record { items = []; rest = r; spelled = cc; are_items = tt; later = t }

single_closes : (b : ℕ) (r : List ℕ) → b ≡ single_quote → AfterWord r → InSingle (b ∷ r)
single_closes b r e t = record { marks = []; rest = r; spelled = cc; are_marks = tt; later = t }

itself_first : (b : ℕ) (r : List ℕ) → b ≢ double_quote → b ≢ backslash → b ≢ line_feed → InDouble r → InDouble (b ∷ r)
itself_first b r no_quote no_slash no_feed w = record { items = itself b ∷ w.items; rest = w.rest; spelled = ap (λ (x : List ℕ). b ∷ x) w.spelled; are_items = (no_quote, no_slash, no_feed, w.are_items); later = w.later }

-- `\x` and the items of two hexadecimal digits are one item.
no_hex : (xs : List ℕ) → begins_hex (backslash ∷ xs) ≡ true → ⊥
no_hex [] h = false≢true h
no_hex (x ∷ xs) h = false≢true h

no_hex_second : (b : ℕ) (xs : List ℕ) → begins_hex (b ∷ backslash ∷ xs) ≡ true → ⊥
no_hex_second b xs h = false≢true (and_parts (is_ascii_hexdigit b) false h).1

record Escaped (c : ℕ) (text : List ℕ) : Type 0 where
  items : List Item
  spelled : flat_map item_text items ≡ backslash ∷ c ∷ text
  are_items : AreItems items

hex_first : (items : List Item) → AreItems items → begins_hex (flat_map item_text items) ≡ true → Escaped letter_x (flat_map item_text items)
hex_first [] are h = absurd (false≢true h)
hex_first (itself b ∷ []) are h = absurd (false≢true h)
hex_first (itself b ∷ itself c ∷ items) are h =
    let digits = and_parts (is_ascii_hexdigit b) (is_ascii_hexdigit c) h in
    record { items = hex b c ∷ items; spelled = refl; are_items = (digits.0, digits.1, are.3.3) }
hex_first (itself b ∷ escape c ∷ items) are h = absurd (no_hex_second b (c ∷ flat_map item_text items) h)
hex_first (itself b ∷ hex c d ∷ items) are h = absurd (no_hex_second b (letter_x ∷ c ∷ d ∷ flat_map item_text items) h)
hex_first (escape c ∷ items) are h = absurd (no_hex (c ∷ flat_map item_text items) h)
hex_first (hex c d ∷ items) are h = absurd (no_hex (letter_x ∷ c ∷ d ∷ flat_map item_text items) h)

escape_by : (t : Bool) (c : ℕ) (items : List Item) → c ≢ line_feed → AreItems items → begins_hex (flat_map item_text items) ≡ t → (x : Bool) → (c == letter_x) ≡ x → Escaped c (flat_map item_text items)
escape_by true c items no_feed are h true e = subst (λ (d : ℕ). Escaped d (flat_map item_text items)) (sym (eqb-true c letter_x e)) (hex_first items are h)
escape_by true c items no_feed are h false e = record { items = escape c ∷ items; spelled = refl; are_items = (no_feed, λ is. absurd (eqb-false c letter_x e is), are) }
escape_by false c items no_feed are h x e = record { items = escape c ∷ items; spelled = refl; are_items = (no_feed, λ is. h, are) }

escape_first : (c : ℕ) (r : List ℕ) → c ≢ line_feed → InDouble r → InDouble (backslash ∷ c ∷ r)
escape_first c r no_feed w =
    let all = escape_by (begins_hex (flat_map item_text w.items)) c w.items no_feed w.are_items refl (c == letter_x) refl in
    record {
      items = all.items;
      rest = w.rest;
      spelled = ap (λ (x : List ℕ). backslash ∷ c ∷ x) w.spelled ∙ ap (λ (x : List ℕ). (x ++ double_quote ∷ []) ++ w.rest) (sym all.spelled);
      are_items = all.are_items;
      later = w.later;
    }

sign_first : (b : ℕ) (r : List ℕ) → b ≢ single_quote → b ≢ line_feed → b ≢ backslash → InSingle r → InSingle (b ∷ r)
sign_first b r no_quote no_feed no_slash w = record { marks = sign b ∷ w.marks; rest = w.rest; spelled = ap (λ (x : List ℕ). b ∷ x) w.spelled; are_marks = (no_quote, no_feed, λ is. absurd (no_slash is), w.are_marks); later = w.later }

-- `\` before a byte that is no quote stands for itself
next_of : (b c : ℕ) (xs r ys : List ℕ) → c ∷ r ≡ xs ++ ys → IsNext b xs → c ≡ b
next_of b c [] r ys e h = absurd h
next_of b c (x ∷ xs) r ys e h = let head : c ≡ x = cc in head ∙ h

slash_first : (c : ℕ) (r : List ℕ) → c ≢ single_quote → InSingle (c ∷ r) → InSingle (backslash ∷ c ∷ r)
slash_first c r no_quote w = record {
  marks = sign backslash ∷ w.marks;
  rest = w.rest;
  spelled = ap (λ (x : List ℕ). backslash ∷ x) w.spelled;
  are_marks = (λ e. omega (arith, e), λ e. omega (arith, e), λ is h. no_quote (next_of single_quote c (flat_map mark_text w.marks ++ single_quote ∷ []) r w.rest w.spelled h), w.are_marks);
  later = w.later;
}

quote_first : (c : ℕ) (r : List ℕ) → c ≡ single_quote → InSingle r → InSingle (backslash ∷ c ∷ r)
quote_first c r e w = record { marks = quote ∷ w.marks; rest = w.rest; spelled = let s = w.spelled in cc; are_marks = w.are_marks; later = w.later }

abbrev Trees : List ℕ → Type 0
Trees r = (q : Place) → run (Goes q) r ≡ Ends → Tree q r

first_byte : (place : Place) (kind : Kind) (b : ℕ) (r : List ℕ) → IsOfKind kind b → Trees r → run (turn_at place kind) r ≡ Ends → Tree place (b ∷ r)
first_byte Between LineFeed b r f t e = before_after (b ∷ r) (end_line b r f (ended r e))
first_byte Between Separator b r f t e = before_after (b ∷ r) (gap b r f.0 (t Between e))
first_byte Between DoubleQuote b r f t e = double_first b r f (t Double e)
first_byte Between SingleQuote b r f t e = single_first b r f (t Single e)
first_byte Between Backslash b r f t e = plain_first b r (plain_backslash b f) (t Plain e)
first_byte Between Other b r f t e = plain_first b r (plain_other b f) (t Plain e)
first_byte Plain LineFeed b r f t e = word_ends (b ∷ r) (end_line b r f (ended r e))
first_byte Plain Separator b r f t e = word_ends (b ∷ r) (gap b r f.0 (t Between e))
first_byte Plain DoubleQuote b r f t e = double_opens b r f (t Double e)
first_byte Plain SingleQuote b r f t e = single_opens b r f (t Single e)
first_byte Plain Backslash b r f t e = plain_more b r (plain_backslash b f) (t Plain e)
first_byte Plain Other b r f t e = plain_more b r (plain_other b f) (t Plain e)
first_byte Double LineFeed b r f t e = absurd (never_ends r e)
first_byte Double DoubleQuote b r f t e = double_closes b r f (t Closed e)
first_byte Double Backslash b r f t e = subst (λ (c : ℕ). InDouble (c ∷ r)) (sym f) (t DoubleEscape e)
first_byte Double Separator b r f t e = itself_first b r f.1.no_double f.1.no_backslash f.1.no_line_feed (t Double e)
first_byte Double SingleQuote b r f t e = itself_first b r (λ h. omega (arith, h, f)) (λ h. omega (arith, h, f)) (λ h. omega (arith, h, f)) (t Double e)
first_byte Double Other b r f t e = itself_first b r f.1.no_double f.1.no_backslash f.1.no_line_feed (t Double e)
first_byte DoubleEscape LineFeed b r f t e = absurd (never_ends r e)
first_byte DoubleEscape DoubleQuote b r f t e = escape_first b r (λ h. omega (arith, h, f)) (t Double e)
first_byte DoubleEscape SingleQuote b r f t e = escape_first b r (λ h. omega (arith, h, f)) (t Double e)
first_byte DoubleEscape Backslash b r f t e = escape_first b r (λ h. omega (arith, h, f)) (t Double e)
first_byte DoubleEscape Separator b r f t e = escape_first b r f.1.no_line_feed (t Double e)
first_byte DoubleEscape Other b r f t e = escape_first b r f.1.no_line_feed (t Double e)
first_byte Single LineFeed b r f t e = absurd (never_ends r e)
first_byte Single SingleQuote b r f t e = single_closes b r f (t Closed e)
first_byte Single Backslash b r f t e = subst (λ (c : ℕ). InSingle (c ∷ r)) (sym f) (t SingleEscape e)
first_byte Single Separator b r f t e = sign_first b r f.1.no_single f.1.no_line_feed f.1.no_backslash (t Single e)
first_byte Single DoubleQuote b r f t e = sign_first b r (λ h. omega (arith, h, f)) (λ h. omega (arith, h, f)) (λ h. omega (arith, h, f)) (t Single e)
first_byte Single Other b r f t e = sign_first b r f.1.no_single f.1.no_line_feed f.1.no_backslash (t Single e)
first_byte SingleEscape LineFeed b r f t e = absurd (never_ends r e)
first_byte SingleEscape SingleQuote b r f t e = quote_first b r f (t Single e)
first_byte SingleEscape Backslash b r f t e = slash_first b r (λ h. omega (arith, h, f)) (subst (λ (c : ℕ). InSingle (c ∷ r)) (sym f) (t SingleEscape e))
first_byte SingleEscape Separator b r f t e = slash_first b r f.1.no_single (sign_first b r f.1.no_single f.1.no_line_feed f.1.no_backslash (t Single e))
first_byte SingleEscape DoubleQuote b r f t e = slash_first b r (λ h. omega (arith, h, f)) (sign_first b r (λ h. omega (arith, h, f)) (λ h. omega (arith, h, f)) (λ h. omega (arith, h, f)) (t Single e))
first_byte SingleEscape Other b r f t e = slash_first b r f.1.no_single (sign_first b r f.1.no_single f.1.no_line_feed f.1.no_backslash (t Single e))
first_byte Closed LineFeed b r f t e = end_line b r f (ended r e)
first_byte Closed Separator b r f t e = gap b r f.0 (t Between e)
first_byte Closed DoubleQuote b r f t e = absurd (never_ends r e)
first_byte Closed SingleQuote b r f t e = absurd (never_ends r e)
first_byte Closed Backslash b r f t e = absurd (never_ends r e)
first_byte Closed Other b r f t e = absurd (never_ends r e)

-- what leads to the end of a line is the rest of one
pub tree : (r : List ℕ) (place : Place) → run (Goes place) r ≡ Ends → Tree place r
tree [] place e = cc
tree (b ∷ r) place e = first_byte place (kind_of b) b r (of_kind b) (λ q h. tree r q h) e
