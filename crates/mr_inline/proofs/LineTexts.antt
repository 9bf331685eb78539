-- A line of the grammar, read byte by byte: it ends at its line feed, and its words are found.
use Rattle.std.proofs.Common.{◌≡◌, ◌≢◌, ℕ, ◌+◌, ◌*◌, ◌<◌, Bool, true, false, cond, ◌==◌, ◌&&◌, List, [], ◌∷◌, ◌++◌, length, map, drop, All, refl, sym, ap, ◌∙◌, subst, append_assoc, arith}
use Rattle.std.specs.Char.{is_ascii_hexdigit}
use Rattle.std.specs.List.{flat_map, AllZip}
use Rattle.std.proofs.lemmas.Bool.{true≢false, eqb-true, eqb-false, and_right}
use Rattle.std.proofs.lemmas.List.{append-nil}
use Rattle.std.proofs.lemmas.List.Elements.{All-head, All-tail}
use Rattle.mr_inline.specs.Bytes.{line_feed, double_quote, single_quote, backslash, letter_x, is_separator}
use Rattle.mr_inline.specs.Line.{IsSeparator, IsPlain, hex_value, escape_value, Item, itself, escape, hex, item_text, item_value, begins_hex, AreItems, Mark, sign, quote, mark_text, mark_value, IsNext, AreMarks, Ending, bare, double, single, Word, ending_text, ending_value, IsEnding, word_text, word_value, IsWord, Part, part_text, part_value, IsLaterPart, AreParts}
use Rattle.mr_inline.specs.Places.{kind_of, next_place, turn_at, hex_of, spelled, word_from, begun, starts_from, IsBareAt, IsBare}
use Rattle.mr_inline.specs.Scans.{HasNoQuote}
use Rattle.mr_inline.specs.declared.place.Kind.{Kind}
use Rattle.mr_inline.specs.declared.place.Kind.TheVariants.{LineFeed, Separator, DoubleQuote, SingleQuote, Backslash, Other}
use Rattle.mr_inline.specs.declared.place.Place.{Place}
use Rattle.mr_inline.specs.declared.place.Place.TheVariants.{Between, Plain, Double, DoubleEscape, Single, SingleEscape, Closed}
use Rattle.mr_inline.specs.declared.place.Turn.TheVariants.{Goes, Ends}
use Rattle.mr_inline.proofs.ByteKinds.{IsOfKind, of_kind, IsInWord, slash, other, plain_in_word, kind-line_feed, kind-double_quote, kind-single_quote, kind-backslash, kind-letter_x, kind-separator}
use Rattle.mr_inline.proofs.Runs.{run}

-- The bytes lead from a place to another, and no word begins among them.
record Leads (xs : List ℕ) (p q : Place) : Type 0 where
  run_is : (r : List ℕ) → run (Goes p) (xs ++ r) ≡ run (Goes q) r
  starts_are : (r : List ℕ) → starts_from p (xs ++ r) ≡ starts_from q r

leads_nil : (p : Place) → Leads [] p p
leads_nil p = record { run_is = λ r. refl; starts_are = λ r. refl }

leads-append : (xs ys : List ℕ) (p q s : Place) → Leads xs p q → Leads ys q s → Leads (xs ++ ys) p s
leads-append xs ys p q s h k = record {
  run_is = λ r. ap (run (Goes p)) (append_assoc xs ys r) ∙ h.run_is (ys ++ r) ∙ k.run_is r;
  starts_are = λ r. ap (starts_from p) (append_assoc xs ys r) ∙ h.starts_are (ys ++ r) ∙ k.starts_are r;
}

-- what a byte of this kind does at p: the line goes on at q, and no word begins
record Steps (p : Place) (kind : Kind) (q : Place) : Type 0 where
  turn : turn_at p kind ≡ Goes q
  next : next_place p kind ≡ q
  none : (w : List ℕ) (ws : List (List ℕ)) → begun p kind w ws ≡ ws

leads_byte : (b : ℕ) (p q : Place) → Steps p (kind_of b) q → Leads (b ∷ []) p q
leads_byte b p q s = record {
  run_is = λ r. ap (λ t. run t r) s.turn;
  starts_are = λ r. s.none (b ∷ r) (starts_from (next_place p (kind_of b)) r) ∙ ap (λ t. starts_from t r) s.next;
}

steps_at : (p q : Place) (k : Kind) (b : ℕ) → kind_of b ≡ k → Steps p k q → Steps p (kind_of b) q
steps_at p q k b e s = subst (λ x. Steps p x q) (sym e) s

leads_cons : (b : ℕ) (xs : List ℕ) (p q s : Place) → Steps p (kind_of b) q → Leads xs q s → Leads (b ∷ xs) p s
leads_cons b xs p q s h k = leads-append (b ∷ []) xs p q s (leads_byte b p q h) k

-- plain bytes
plain_steps : {k : Kind} → IsInWord k → Steps Plain k Plain
plain_steps slash = record { turn = refl; next = refl; none = λ w ws. refl }
plain_steps other = record { turn = refl; next = refl; none = λ w ws. refl }

leads_plain : (xs : List ℕ) → All IsPlain xs → Leads xs Plain Plain
leads_plain [] h = leads_nil Plain
leads_plain (b ∷ xs) h = leads_cons b xs Plain Plain Plain (plain_steps (plain_in_word b (All-head IsPlain b xs h))) (leads_plain xs (All-tail IsPlain b xs h))

-- separators
leads_between : (xs : List ℕ) → All IsSeparator xs → Leads xs Between Between
leads_between [] h = leads_nil Between
leads_between (b ∷ xs) h = leads_cons b xs Between Between Between (steps_at Between Between Separator b (kind-separator b (All-head IsSeparator b xs h)) (record { turn = refl; next = refl; none = λ w ws. refl })) (leads_between xs (All-tail IsSeparator b xs h))

-- a place where a word may end
record MayEnd (p : Place) : Type 0 where
  step : Steps p Separator Between
  feed : turn_at p LineFeed ≡ Ends

leads_gap : (xs : List ℕ) (p : Place) → MayEnd p → 0 < length xs → All IsSeparator xs → Leads xs p Between
leads_gap [] p m some h = absurd (omega arith)
leads_gap (b ∷ xs) p m some h = leads_cons b xs p Between Between (steps_at p Between Separator b (kind-separator b (All-head IsSeparator b xs h)) m.step) (leads_between xs (All-tail IsSeparator b xs h))

-- what stands in double quotes
itself_steps : (k : Kind) (b : ℕ) → IsOfKind k b → b ≢ double_quote → b ≢ backslash → b ≢ line_feed → Steps Double k Double
itself_steps LineFeed b f d s l = absurd (l f)
itself_steps DoubleQuote b f d s l = absurd (d f)
itself_steps Backslash b f d s l = absurd (s f)
itself_steps Separator b f d s l = record { turn = refl; next = refl; none = λ w ws. refl }
itself_steps SingleQuote b f d s l = record { turn = refl; next = refl; none = λ w ws. refl }
itself_steps Other b f d s l = record { turn = refl; next = refl; none = λ w ws. refl }

escape_steps : (k : Kind) (b : ℕ) → IsOfKind k b → b ≢ line_feed → Steps DoubleEscape k Double
escape_steps LineFeed b f l = absurd (l f)
escape_steps DoubleQuote b f l = record { turn = refl; next = refl; none = λ w ws. refl }
escape_steps SingleQuote b f l = record { turn = refl; next = refl; none = λ w ws. refl }
escape_steps Backslash b f l = record { turn = refl; next = refl; none = λ w ws. refl }
escape_steps Separator b f l = record { turn = refl; next = refl; none = λ w ws. refl }
escape_steps Other b f l = record { turn = refl; next = refl; none = λ w ws. refl }

slash_steps : Steps Double (kind_of backslash) DoubleEscape
slash_steps = steps_at Double DoubleEscape Backslash backslash kind-backslash (record { turn = refl; next = refl; none = λ w ws. refl })

-- a hexadecimal digit is none of the marks
pub hex_not : (b c : ℕ) → is_ascii_hexdigit b ≡ true → is_ascii_hexdigit c ≡ false → b ≢ c
hex_not b c h n e = true≢false (sym h ∙ ap is_ascii_hexdigit e ∙ n)

hex_steps : (b : ℕ) → is_ascii_hexdigit b ≡ true → Steps Double (kind_of b) Double
hex_steps b h = itself_steps (kind_of b) b (of_kind b) (hex_not b double_quote h refl) (hex_not b backslash h refl) (hex_not b line_feed h refl)

leads_items : (items : List Item) → AreItems items → Leads (flat_map item_text items) Double Double
leads_items [] h = leads_nil Double
leads_items (itself b ∷ items) h = leads_cons b (flat_map item_text items) Double Double Double (itself_steps (kind_of b) b (of_kind b) h.0 h.1 h.2) (leads_items items h.3)
leads_items (escape c ∷ items) h = leads_cons backslash (c ∷ flat_map item_text items) Double DoubleEscape Double slash_steps
    (leads_cons c (flat_map item_text items) DoubleEscape Double Double (escape_steps (kind_of c) c (of_kind c) h.0) (leads_items items h.2))
leads_items (hex a b ∷ items) h = leads_cons backslash (letter_x ∷ a ∷ b ∷ flat_map item_text items) Double DoubleEscape Double slash_steps
    (leads_cons letter_x (a ∷ b ∷ flat_map item_text items) DoubleEscape Double Double (steps_at DoubleEscape Double Other letter_x kind-letter_x (record { turn = refl; next = refl; none = λ w ws. refl }))
    (leads_cons a (b ∷ flat_map item_text items) Double Double Double (hex_steps a h.0) (leads_cons b (flat_map item_text items) Double Double Double (hex_steps b h.1) (leads_items items h.2))))

close_double : Steps Double (kind_of double_quote) Closed
close_double = steps_at Double Closed DoubleQuote double_quote kind-double_quote (record { turn = refl; next = refl; none = λ w ws. refl })

leads_double : (items : List Item) → AreItems items → Leads (flat_map item_text items ++ double_quote ∷ []) Double Closed
leads_double items h = leads-append (flat_map item_text items) (double_quote ∷ []) Double Double Closed (leads_items items h) (leads_byte double_quote Double Closed close_double)

-- what stands in single quotes
sign_steps : (k : Kind) (b : ℕ) → IsOfKind k b → b ≢ single_quote → b ≢ line_feed → b ≢ backslash → Steps Single k Single
sign_steps LineFeed b f d l s = absurd (l f)
sign_steps SingleQuote b f d l s = absurd (d f)
sign_steps Backslash b f d l s = absurd (s f)
sign_steps Separator b f d l s = record { turn = refl; next = refl; none = λ w ws. refl }
sign_steps DoubleQuote b f d l s = record { turn = refl; next = refl; none = λ w ws. refl }
sign_steps Other b f d l s = record { turn = refl; next = refl; none = λ w ws. refl }

-- Behind a backslash in single quotes it goes on as without it, if no quote comes next.
behind_slash : (k : Kind) (b : ℕ) → IsOfKind k b → b ≢ single_quote → (turn_at SingleEscape k ≡ turn_at Single k) × (next_place SingleEscape k ≡ next_place Single k)
behind_slash LineFeed b f d = (refl, refl)
behind_slash SingleQuote b f d = absurd (d f)
behind_slash Backslash b f d = (refl, refl)
behind_slash Separator b f d = (refl, refl)
behind_slash DoubleQuote b f d = (refl, refl)
behind_slash Other b f d = (refl, refl)

slash_leads : (xs : List ℕ) (q : Place) → 0 < length xs → (IsNext single_quote xs → ⊥) → Leads xs Single q → Leads (backslash ∷ xs) Single q
slash_leads [] q some free h = absurd (omega arith)
slash_leads (b ∷ xs) q some free h =
    let same = behind_slash (kind_of b) b (of_kind b) free in
    let first : Steps Single (kind_of backslash) SingleEscape = steps_at Single SingleEscape Backslash backslash kind-backslash (record { turn = refl; next = refl; none = λ w ws. refl }) in
    let later : Leads (b ∷ xs) SingleEscape q = record {
      run_is = λ r. ap (λ t. run t (xs ++ r)) same.0 ∙ h.run_is r;
      starts_are = λ r. ap (λ p. starts_from p (xs ++ r)) same.1 ∙ h.starts_are r;
    } in
    leads_cons backslash (b ∷ xs) Single SingleEscape q first later

some_marks : (marks : List Mark) → 0 < length (flat_map mark_text marks ++ single_quote ∷ [])
some_marks [] = omega arith
some_marks (sign b ∷ marks) = omega arith
some_marks (quote ∷ marks) = omega arith

quote_steps : Steps SingleEscape (kind_of single_quote) Single
quote_steps = steps_at SingleEscape Single SingleQuote single_quote kind-single_quote (record { turn = refl; next = refl; none = λ w ws. refl })

leads_sign : (t : Bool) (b : ℕ) (marks : List Mark) → (b == backslash) ≡ t → AreMarks (sign b ∷ marks) → Leads (flat_map mark_text marks ++ single_quote ∷ []) Single Closed → Leads (b ∷ (flat_map mark_text marks ++ single_quote ∷ [])) Single Closed
leads_sign true b marks e h k =
    let is = eqb-true b backslash e in
    subst (λ (c : ℕ). Leads (c ∷ (flat_map mark_text marks ++ single_quote ∷ [])) Single Closed) (sym is) (slash_leads (flat_map mark_text marks ++ single_quote ∷ []) Closed (some_marks marks) (h.2 is) k)
leads_sign false b marks e h k = leads_cons b (flat_map mark_text marks ++ single_quote ∷ []) Single Single Closed (sign_steps (kind_of b) b (of_kind b) h.0 h.1 (eqb-false b backslash e)) k

leads_single : (marks : List Mark) → AreMarks marks → Leads (flat_map mark_text marks ++ single_quote ∷ []) Single Closed
leads_single [] h = leads_byte single_quote Single Closed (steps_at Single Closed SingleQuote single_quote kind-single_quote (record { turn = refl; next = refl; none = λ w ws. refl }))
leads_single (sign b ∷ marks) h = leads_sign (b == backslash) b marks refl h (leads_single marks h.3)
leads_single (quote ∷ marks) h = leads_cons backslash (single_quote ∷ (flat_map mark_text marks ++ single_quote ∷ [])) Single SingleEscape Closed
    (steps_at Single SingleEscape Backslash backslash kind-backslash (record { turn = refl; next = refl; none = λ w ws. refl }))
    (leads_cons single_quote (flat_map mark_text marks ++ single_quote ∷ []) SingleEscape Single Closed quote_steps (leads_single marks h))

-- where a word ends
abbrev end_place : Ending → Place
end_place bare = Plain
end_place (double items) = Closed
end_place (single marks) = Closed

open_double : Steps Plain (kind_of double_quote) Double
open_double = steps_at Plain Double DoubleQuote double_quote kind-double_quote (record { turn = refl; next = refl; none = λ w ws. refl })

open_single : Steps Plain (kind_of single_quote) Single
open_single = steps_at Plain Single SingleQuote single_quote kind-single_quote (record { turn = refl; next = refl; none = λ w ws. refl })

leads_ending : (plain : List ℕ) (ending : Ending) → IsEnding plain ending → Leads (ending_text ending) Plain (end_place ending)
leads_ending plain bare h = leads_nil Plain
leads_ending plain (double items) h = leads_cons double_quote (flat_map item_text items ++ double_quote ∷ []) Plain Double Closed open_double (leads_double items h)
leads_ending plain (single marks) h = leads_cons single_quote (flat_map mark_text marks ++ single_quote ∷ []) Plain Single Closed open_single (leads_single marks h)

leads_word : (word : Word) → IsWord word → Leads (word_text word) Plain (end_place word.ending)
leads_word word h = leads-append word.plain (ending_text word.ending) Plain Plain (end_place word.ending) (leads_plain word.plain h.0) (leads_ending word.plain word.ending h.1)

may_end_plain : MayEnd Plain
may_end_plain = record { step = record { turn = refl; next = refl; none = λ w ws. refl }; feed = refl }

may_end_closed : MayEnd Closed
may_end_closed = record { step = record { turn = refl; next = refl; none = λ w ws. refl }; feed = refl }

may_end_ending : (ending : Ending) → MayEnd (end_place ending)
may_end_ending bare = may_end_plain
may_end_ending (double items) = may_end_closed
may_end_ending (single marks) = may_end_closed

-- what a word stands for, where no byte of a word follows
abbrev IsBoundary : List ℕ → Type 0
IsBoundary [] = Unit {0}
IsBoundary (b ∷ r) = is_separator b ≡ true

word_end : (r : List ℕ) → IsBoundary r → word_from Plain r ≡ []
word_end [] h = refl
word_end (b ∷ r) h = ap (λ k. spelled Plain k b r (word_from (next_place Plain k) r)) (kind-separator b h)

plain_spelled : {k : Kind} (b : ℕ) (r : List ℕ) → IsInWord k → spelled Plain k b r (word_from (next_place Plain k) r) ≡ b ∷ word_from Plain r
plain_spelled b r slash = refl
plain_spelled b r other = refl

value_plain : (xs r : List ℕ) → All IsPlain xs → word_from Plain (xs ++ r) ≡ xs ++ word_from Plain r
value_plain [] r h = refl
value_plain (b ∷ xs) r h = plain_spelled b (xs ++ r) (plain_in_word b (All-head IsPlain b xs h)) ∙ ap (λ (x : List ℕ). b ∷ x) (value_plain xs r (All-tail IsPlain b xs h))

itself_spelled : (k : Kind) (b : ℕ) (r : List ℕ) → IsOfKind k b → b ≢ double_quote → b ≢ backslash → spelled Double k b r (word_from (next_place Double k) r) ≡ b ∷ word_from Double r
itself_spelled LineFeed b r f d s = refl
itself_spelled DoubleQuote b r f d s = absurd (d f)
itself_spelled Backslash b r f d s = absurd (s f)
itself_spelled Separator b r f d s = refl
itself_spelled SingleQuote b r f d s = refl
itself_spelled Other b r f d s = refl

pub double_itself : (b : ℕ) (r : List ℕ) → b ≢ double_quote → b ≢ backslash → word_from Double (b ∷ r) ≡ b ∷ word_from Double r
double_itself b r d s = itself_spelled (kind_of b) b r (of_kind b) d s

pub double_slash : (c : ℕ) (r : List ℕ) → word_from Double (backslash ∷ c ∷ r) ≡ word_from DoubleEscape (c ∷ r)
double_slash c r = ap (λ k. spelled Double k backslash (c ∷ r) (word_from (next_place Double k) (c ∷ r))) kind-backslash

pub double_close : (r : List ℕ) → word_from Double (double_quote ∷ r) ≡ []
double_close r = ap (λ k. spelled Double k double_quote r (word_from (next_place Double k) r)) kind-double_quote

pub escape_plain : (c : ℕ) (r : List ℕ) → (c == letter_x && begins_hex r) ≡ false → word_from DoubleEscape (c ∷ r) ≡ escape_value c ∷ word_from Double r
escape_plain c r e = ap (λ t. cond t (hex_of r ∷ drop 2 (word_from Double r)) (escape_value c ∷ word_from Double r)) e

pub escape_hex : (a b : ℕ) (r : List ℕ) → is_ascii_hexdigit a ≡ true → is_ascii_hexdigit b ≡ true → word_from DoubleEscape (letter_x ∷ a ∷ b ∷ r) ≡ (16 * hex_value a + hex_value b) ∷ word_from Double r
escape_hex a b r h k =
    let test : begins_hex (a ∷ b ∷ r) ≡ true = ap (λ t. t && is_ascii_hexdigit b) h ∙ k in
    let two : word_from Double (a ∷ b ∷ r) ≡ a ∷ b ∷ word_from Double r =
    double_itself a (b ∷ r) (hex_not a double_quote h refl) (hex_not a backslash h refl) ∙ ap (λ (x : List ℕ). a ∷ x) (double_itself b r (hex_not b double_quote k refl) (hex_not b backslash k refl)) in
    ap (λ t. cond t ((16 * hex_value a + hex_value b) ∷ drop 2 (word_from Double (a ∷ b ∷ r))) (escape_value letter_x ∷ word_from Double (a ∷ b ∷ r))) test ∙ ap (λ (x : List ℕ). (16 * hex_value a + hex_value b) ∷ drop 2 x) two

-- a closing quote begins no two hexadecimal digits
hex_up_to_quote : (xs r : List ℕ) → begins_hex ((xs ++ double_quote ∷ []) ++ r) ≡ begins_hex xs
hex_up_to_quote [] [] = refl
hex_up_to_quote [] (b ∷ r) = refl
hex_up_to_quote (a ∷ []) r = and_right (is_ascii_hexdigit a) false refl
hex_up_to_quote (a ∷ b ∷ xs) r = refl

escape_test : (t : Bool) (c : ℕ) (xs r : List ℕ) → (c == letter_x) ≡ t → (c ≡ letter_x → begins_hex xs ≡ false) → (t && begins_hex ((xs ++ double_quote ∷ []) ++ r)) ≡ false
escape_test true c xs r e h = hex_up_to_quote xs r ∙ h (eqb-true c letter_x e)
escape_test false c xs r e h = refl

value_items : (items : List Item) (r : List ℕ) → AreItems items → word_from Double ((flat_map item_text items ++ double_quote ∷ []) ++ r) ≡ map item_value items
value_items [] r h = double_close r
value_items (itself b ∷ items) r h = double_itself b ((flat_map item_text items ++ double_quote ∷ []) ++ r) h.0 h.1 ∙ ap (λ (x : List ℕ). b ∷ x) (value_items items r h.3)
value_items (escape c ∷ items) r h =
    let rest : List ℕ = (flat_map item_text items ++ double_quote ∷ []) ++ r in
    double_slash c rest ∙ escape_plain c rest (escape_test (c == letter_x) c (flat_map item_text items) r refl h.1) ∙ ap (λ (x : List ℕ). escape_value c ∷ x) (value_items items r h.2)
value_items (hex a b ∷ items) r h =
    let rest : List ℕ = (flat_map item_text items ++ double_quote ∷ []) ++ r in
    double_slash letter_x (a ∷ b ∷ rest) ∙ escape_hex a b rest h.0 h.1 ∙ ap (λ (x : List ℕ). (16 * hex_value a + hex_value b) ∷ x) (value_items items r h.2)

sign_spelled : (k : Kind) (b : ℕ) (r : List ℕ) → IsOfKind k b → b ≢ single_quote → b ≢ backslash → spelled Single k b r (word_from (next_place Single k) r) ≡ b ∷ word_from Single r
sign_spelled LineFeed b r f d s = refl
sign_spelled SingleQuote b r f d s = absurd (d f)
sign_spelled Backslash b r f d s = absurd (s f)
sign_spelled Separator b r f d s = refl
sign_spelled DoubleQuote b r f d s = refl
sign_spelled Other b r f d s = refl

pub single_sign : (b : ℕ) (r : List ℕ) → b ≢ single_quote → b ≢ backslash → word_from Single (b ∷ r) ≡ b ∷ word_from Single r
single_sign b r d s = sign_spelled (kind_of b) b r (of_kind b) d s

pub single_close : (r : List ℕ) → word_from Single (single_quote ∷ r) ≡ []
single_close r = ap (λ k. spelled Single k single_quote r (word_from (next_place Single k) r)) kind-single_quote

pub single_slash : (r : List ℕ) → word_from Single (backslash ∷ r) ≡ word_from SingleEscape r
single_slash r = ap (λ k. spelled Single k backslash r (word_from (next_place Single k) r)) kind-backslash

pub single_quoted : (r : List ℕ) → word_from Single (backslash ∷ single_quote ∷ r) ≡ single_quote ∷ word_from Single r
single_quoted r = single_slash (single_quote ∷ r) ∙ ap (λ k. spelled SingleEscape k single_quote r (word_from (next_place SingleEscape k) r)) kind-single_quote

slash_spelled : (k : Kind) (b : ℕ) (r : List ℕ) → IsOfKind k b → b ≢ single_quote → spelled SingleEscape k b r (word_from (next_place SingleEscape k) r) ≡ backslash ∷ spelled Single k b r (word_from (next_place Single k) r)
slash_spelled LineFeed b r f d = refl
slash_spelled SingleQuote b r f d = absurd (d f)
slash_spelled Backslash b r f d = refl
slash_spelled Separator b r f d = refl
slash_spelled DoubleQuote b r f d = refl
slash_spelled Other b r f d = refl

pub single_backslash : (xs : List ℕ) → (IsNext single_quote xs → ⊥) → word_from Single (backslash ∷ xs) ≡ backslash ∷ word_from Single xs
single_backslash [] free = single_slash []
single_backslash (b ∷ xs) free = single_slash (b ∷ xs) ∙ slash_spelled (kind_of b) b xs (of_kind b) free

next_front : (b : ℕ) (xs ys r : List ℕ) → (IsNext b (xs ++ ys) → ⊥) → 0 < length (xs ++ ys) → IsNext b ((xs ++ ys) ++ r) → ⊥
next_front b [] [] r free some h = omega arith
next_front b [] (y ∷ ys) r free some h = free h
next_front b (x ∷ xs) ys r free some h = free h

value_sign : (t : Bool) (b : ℕ) (marks : List Mark) (r : List ℕ) → (b == backslash) ≡ t → AreMarks (sign b ∷ marks) → word_from Single (b ∷ ((flat_map mark_text marks ++ single_quote ∷ []) ++ r)) ≡ b ∷ word_from Single ((flat_map mark_text marks ++ single_quote ∷ []) ++ r)
value_sign true b marks r e h =
    let is = eqb-true b backslash e in
    let rest : List ℕ = (flat_map mark_text marks ++ single_quote ∷ []) ++ r in
    subst (λ (c : ℕ). word_from Single (c ∷ rest) ≡ c ∷ word_from Single rest) (sym is) (single_backslash rest (next_front single_quote (flat_map mark_text marks) (single_quote ∷ []) r (h.2 is) (some_marks marks)))
value_sign false b marks r e h = single_sign b ((flat_map mark_text marks ++ single_quote ∷ []) ++ r) h.0 (eqb-false b backslash e)

value_marks : (marks : List Mark) (r : List ℕ) → AreMarks marks → word_from Single ((flat_map mark_text marks ++ single_quote ∷ []) ++ r) ≡ map mark_value marks
value_marks [] r h = single_close r
value_marks (sign b ∷ marks) r h = value_sign (b == backslash) b marks r refl h ∙ ap (λ (x : List ℕ). b ∷ x) (value_marks marks r h.3)
value_marks (quote ∷ marks) r h = single_quoted ((flat_map mark_text marks ++ single_quote ∷ []) ++ r) ∙ ap (λ (x : List ℕ). single_quote ∷ x) (value_marks marks r h)

pub plain_opens_double : (r : List ℕ) → word_from Plain (double_quote ∷ r) ≡ word_from Double r
plain_opens_double r = ap (λ k. spelled Plain k double_quote r (word_from (next_place Plain k) r)) kind-double_quote

pub plain_opens_single : (r : List ℕ) → word_from Plain (single_quote ∷ r) ≡ word_from Single r
plain_opens_single r = ap (λ k. spelled Plain k single_quote r (word_from (next_place Plain k) r)) kind-single_quote

value_ending : (plain : List ℕ) (ending : Ending) (r : List ℕ) → IsEnding plain ending → IsBoundary r → word_from Plain (ending_text ending ++ r) ≡ ending_value ending
value_ending plain bare r h e = word_end r e
value_ending plain (double items) r h e = plain_opens_double ((flat_map item_text items ++ double_quote ∷ []) ++ r) ∙ value_items items r h
value_ending plain (single marks) r h e = plain_opens_single ((flat_map mark_text marks ++ single_quote ∷ []) ++ r) ∙ value_marks marks r h

value_word : (word : Word) (r : List ℕ) → IsWord word → IsBoundary r → word_from Plain (word_text word ++ r) ≡ word_value word
value_word word r h e = ap (word_from Plain) (append_assoc word.plain (ending_text word.ending) r) ∙ value_plain word.plain (ending_text word.ending ++ r) h.0 ∙ ap (λ (x : List ℕ). word.plain ++ x) (value_ending word.plain word.ending r h.1 e)

-- A word's first byte does the same between words as in a word, and begins the word.
record Begins (kind : Kind) : Type 0 where
  turn : turn_at Between kind ≡ turn_at Plain kind
  next : next_place Between kind ≡ next_place Plain kind
  one : (w : List ℕ) (ws : List (List ℕ)) → begun Between kind w ws ≡ w ∷ ws
  none : (w : List ℕ) (ws : List (List ℕ)) → begun Plain kind w ws ≡ ws

begins_plain : {k : Kind} → IsInWord k → Begins k
begins_plain slash = record { turn = refl; next = refl; one = λ w ws. refl; none = λ w ws. refl }
begins_plain other = record { turn = refl; next = refl; one = λ w ws. refl; none = λ w ws. refl }

record BeginsWord (text : List ℕ) : Type 0 where
  run_is : run (Goes Between) text ≡ run (Goes Plain) text
  starts_are : starts_from Between text ≡ text ∷ starts_from Plain text

begins_at : (b : ℕ) (r : List ℕ) → Begins (kind_of b) → BeginsWord (b ∷ r)
begins_at b r s = record {
  run_is = ap (λ t. run t r) s.turn;
  starts_are = s.one (b ∷ r) (starts_from (next_place Between (kind_of b)) r) ∙ ap (λ (p : Place). (b ∷ r) ∷ starts_from p r) s.next
      ∙ ap (λ (ss : List (List ℕ)). (b ∷ r) ∷ ss) (sym (s.none (b ∷ r) (starts_from (next_place Plain (kind_of b)) r)));
}

begins_word : (plain : List ℕ) (ending : Ending) (r : List ℕ) → All IsPlain plain → IsEnding plain ending → BeginsWord ((plain ++ ending_text ending) ++ r)
begins_word [] bare r h e = absurd (omega arith)
begins_word [] (double items) r h e = begins_at double_quote ((flat_map item_text items ++ double_quote ∷ []) ++ r) (subst Begins (sym kind-double_quote) (record { turn = refl; next = refl; one = λ w ws. refl; none = λ w ws. refl }))
begins_word [] (single marks) r h e = begins_at single_quote ((flat_map mark_text marks ++ single_quote ∷ []) ++ r) (subst Begins (sym kind-single_quote) (record { turn = refl; next = refl; one = λ w ws. refl; none = λ w ws. refl }))
begins_word (b ∷ plain) ending r h e = begins_at b ((plain ++ ending_text ending) ++ r) (begins_plain (plain_in_word b (All-head IsPlain b plain h)))

-- the parts behind a word
abbrev pub tail_text : List Part → List ℕ → List ℕ
tail_text parts after = flat_map part_text parts ++ after

-- A part's word begins here, and its quotes are those that are found.
pub record IsStartOf (part : Part) (start : List ℕ) : Type 0 where
  pub value : word_from Plain start ≡ part_value part
  pub bare : HasNoQuote (word_text part.word) → IsBare start

pub record EndsLine (p : Place) (text : List ℕ) (parts : List Part) : Type 0 where
  pub run_is : run (Goes p) (text ++ line_feed ∷ []) ≡ Ends
  pub starts : AllZip IsStartOf parts (starts_from p text)

feed_at : (p : Place) → turn_at p LineFeed ≡ Ends → run (Goes p) (line_feed ∷ []) ≡ Ends
feed_at p e = ap (turn_at p) kind-line_feed ∙ e

ends_after : (xs : List ℕ) (p q : Place) (text : List ℕ) (parts : List Part) → Leads xs p q → EndsLine q text parts → EndsLine p (xs ++ text) parts
ends_after xs p q text parts h k = record {
  run_is = ap (run (Goes p)) (append_assoc xs text (line_feed ∷ [])) ∙ h.run_is (text ++ line_feed ∷ []) ∙ k.run_is;
  starts = subst (AllZip IsStartOf parts) (sym (h.starts_are text)) k.starts;
}

ends_nil : (p : Place) → turn_at p LineFeed ≡ Ends → EndsLine p [] []
ends_nil p e = record { run_is = feed_at p e; starts = tt }

ends_separators : (after : List ℕ) (p : Place) → MayEnd p → All IsSeparator after → EndsLine p after []
ends_separators [] p m h = ends_nil p m.feed
ends_separators (b ∷ after) p m h = subst (λ (x : List ℕ). EndsLine p x []) (append-nil (b ∷ after)) (ends_after (b ∷ after) p Between [] [] (leads_gap (b ∷ after) p m (omega arith) h) (ends_nil Between refl))

boundary_gap : (gap rest : List ℕ) → 0 < length gap → All IsSeparator gap → IsBoundary (gap ++ rest)
boundary_gap [] rest some h = absurd (omega arith)
boundary_gap (b ∷ gap) rest some h = All-head IsSeparator b gap h

boundary : (parts : List Part) (after : List ℕ) → All IsLaterPart parts → All IsSeparator after → IsBoundary (tail_text parts after)
boundary [] [] h k = tt
boundary [] (b ∷ after) h k = All-head IsSeparator b after k
boundary (part ∷ parts) after h k =
    let one = All-head IsLaterPart part parts h in
    let e : part.gap ++ (word_text part.word ++ (flat_map part_text parts ++ after)) ≡ tail_text (part ∷ parts) after = simp append_assoc in
    subst IsBoundary e (boundary_gap part.gap (word_text part.word ++ (flat_map part_text parts ++ after)) one.0 one.1)

-- where no quote stands in a word
bare_end : (r : List ℕ) → IsBoundary r → IsBare r
bare_end [] h = tt
bare_end (b ∷ r) h = subst (λ (k : Kind). IsBareAt k (IsBare r)) (sym (kind-separator b h)) tt

bare_byte : {k : Kind} (later : Type 0) → IsInWord k → later → IsBareAt k later
bare_byte later slash h = h
bare_byte later other h = h

bare_plain : (xs r : List ℕ) → All IsPlain xs → IsBare r → IsBare (xs ++ r)
bare_plain [] r h k = k
bare_plain (b ∷ xs) r h k = bare_byte (IsBare (xs ++ r)) (plain_in_word b (All-head IsPlain b xs h)) (bare_plain xs r (All-tail IsPlain b xs h) k)

abbrev IsNoQuote : ℕ → Type 0
IsNoQuote b = (b ≢ double_quote) × (b ≢ single_quote)

behind : (xs ys : List ℕ) (b : ℕ) → HasNoQuote (xs ++ b ∷ ys) → IsNoQuote b
behind [] ys b h = All-head IsNoQuote b ys h
behind (x ∷ xs) ys b h = behind xs ys b (All-tail IsNoQuote x (xs ++ b ∷ ys) h)

bare_word : (plain : List ℕ) (ending : Ending) (r : List ℕ) → All IsPlain plain → IsBoundary r → HasNoQuote (plain ++ ending_text ending) → IsBare ((plain ++ ending_text ending) ++ r)
bare_word plain bare r h e none = subst (λ (x : List ℕ). IsBare (x ++ r)) (sym (append-nil plain)) (bare_plain plain r h (bare_end r e))
bare_word plain (double items) r h e none = absurd ((behind plain (flat_map item_text items ++ double_quote ∷ []) double_quote none).0 refl)
bare_word plain (single marks) r h e none = absurd ((behind plain (flat_map mark_text marks ++ single_quote ∷ []) single_quote none).1 refl)

-- a part's word and what follows it, from between the words
ends_word : (part : Part) (text : List ℕ) (parts : List Part) → IsWord part.word → IsBoundary text → EndsLine (end_place part.word.ending) text parts → EndsLine Between (word_text part.word ++ text) (part ∷ parts)
ends_word part text parts h e k =
    let word : Word = part.word in
    let front = ends_after (word_text word) Plain (end_place word.ending) text parts (leads_word word h) k in
    let first = begins_word word.plain word.ending text h.0 h.1 in
    let full = begins_word word.plain word.ending (text ++ line_feed ∷ []) h.0 h.1 in
    record {
      run_is = ap (run (Goes Between)) (append_assoc (word_text word) text (line_feed ∷ [])) ∙ full.run_is ∙ ap (run (Goes Plain)) (sym (append_assoc (word_text word) text (line_feed ∷ []))) ∙ front.run_is;
      starts = subst (AllZip IsStartOf (part ∷ parts)) (sym first.starts_are) (record { value = value_word word text h e; bare = bare_word word.plain word.ending text h.0 e }, front.starts);
    }

ends_parts : (parts : List Part) (after : List ℕ) (p : Place) → MayEnd p → All IsLaterPart parts → All IsSeparator after → EndsLine p (tail_text parts after) parts
ends_parts [] after p m h k = ends_separators after p m k
ends_parts (part ∷ parts) after p m h k =
    let one = All-head IsLaterPart part parts h in
    let later = All-tail IsLaterPart part parts h in
    let rest = ends_parts parts after (end_place part.word.ending) (may_end_ending part.word.ending) later k in
    let word = ends_word part (tail_text parts after) parts one.2 (boundary parts after later k) rest in
    let e : part.gap ++ (word_text part.word ++ tail_text parts after) ≡ tail_text (part ∷ parts) after = simp append_assoc in
    subst (λ (x : List ℕ). EndsLine p x (part ∷ parts)) e (ends_after part.gap p Between (word_text part.word ++ tail_text parts after) (part ∷ parts) (leads_gap part.gap p m one.0 one.1) word)

pub ends_line : (parts : List Part) (after : List ℕ) → AreParts parts → All IsSeparator after → EndsLine Between (tail_text parts after) parts
ends_line [] after h k = ends_separators after Between (record { step = record { turn = refl; next = refl; none = λ w ws. refl }; feed = refl }) k
ends_line (part ∷ parts) after h k =
    let rest = ends_parts parts after (end_place part.word.ending) (may_end_ending part.word.ending) h.2 k in
    let word = ends_word part (tail_text parts after) parts h.1 (boundary parts after h.2 k) rest in
    let e : part.gap ++ (word_text part.word ++ tail_text parts after) ≡ tail_text (part ∷ parts) after = simp append_assoc in
    subst (λ (x : List ℕ). EndsLine Between x (part ∷ parts)) e (ends_after part.gap Between Between (word_text part.word ++ tail_text parts after) (part ∷ parts) (leads_between part.gap h.0) word)

-- what the words stand for
pub values_are : (parts : List Part) (starts : List (List ℕ)) → AllZip IsStartOf parts starts → map (word_from Plain) starts ≡ map part_value parts
values_are [] [] h = refl
values_are [] (start ∷ starts) h = absurd h
values_are (part ∷ parts) [] h = absurd h
values_are (part ∷ parts) (start ∷ starts) h = ap (λ (w : List ℕ). w ∷ map (word_from Plain) starts) h.0.value ∙ ap (λ (ws : List (List ℕ)). part_value part ∷ ws) (values_are parts starts h.1)
