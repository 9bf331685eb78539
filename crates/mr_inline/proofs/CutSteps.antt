-- One step of the reader that cuts the words of a line.
use Rattle.std.proofs.Common.{◌≡◌, ◌≢◌, ℕ, ◌+◌, ◌-◌, ◌*◌, ◌<◌, ◌≤◌, ◌⊎◌, inl, inr, Bool, true, false, cond, ◌==◌, ◌&&◌, List, [], ◌∷◌, ◌++◌, length, get_or, take, drop, refl, sym, ap, ◌∙◌, subst, append_assoc, Global, arith}
use Rattle.std.specs.Char.{is_ascii_hexdigit}
use Rattle.std.specs.Cow.{cow_slice_items, IsBorrowedSlice}
use Rattle.std.specs.List.{slice_range, AllZip}
use Rattle.std.specs.declared.borrow.CowSlice.{CowSlice}
use Rattle.std.proofs.lemmas.Bool.{ne_eqb}
use Rattle.std.proofs.lemmas.List.{append-nil, length-append, drop_more, drop_all, length-drop, take_more, get_or-drop}
use Rattle.mr_inline.specs.Bytes.{double_quote, single_quote, backslash, letter_x}
use Rattle.mr_inline.specs.Line.{hex_value, escape_value, begins_hex, IsNext}
use Rattle.mr_inline.specs.Parts.{StopsPlain, Spells, Unquotes, IsCut, IsPlainUpTo, IsReadAt}
use Rattle.mr_inline.specs.Places.{kind_of, next_place, spelled, word_from, begun, starts_from, IsBareAt, IsBare}
use Rattle.mr_inline.specs.declared.place.Kind.{Kind}
use Rattle.mr_inline.specs.declared.place.Kind.TheVariants.{LineFeed, Separator, DoubleQuote, SingleQuote, Backslash, Other}
use Rattle.mr_inline.specs.declared.place.Place.{Place}
use Rattle.mr_inline.specs.declared.place.Place.TheVariants.{Between, Plain, Double, DoubleEscape, Single, SingleEscape, Closed}
use Rattle.mr_inline.proofs.ByteKinds.{IsOfKind, of_kind, kind-double_quote, kind-single_quote, kind-backslash}
use Rattle.mr_inline.proofs.LineTexts.{double_itself, double_slash, double_close, escape_plain, escape_hex, hex_not, single_sign, single_close, single_quoted, single_backslash, plain_opens_double, plain_opens_single}

-- in double quotes
itself_next : (k : Kind) (b : ℕ) → IsOfKind k b → b ≢ double_quote → b ≢ backslash → next_place Double k ≡ Double
itself_next LineFeed b f d s = refl
itself_next DoubleQuote b f d s = absurd (d f)
itself_next Backslash b f d s = absurd (s f)
itself_next Separator b f d s = refl
itself_next SingleQuote b f d s = refl
itself_next Other b f d s = refl

starts_itself : (b : ℕ) (r : List ℕ) → b ≢ double_quote → b ≢ backslash → starts_from Double (b ∷ r) ≡ starts_from Double r
starts_itself b r d s = ap (λ p. starts_from p r) (itself_next (kind_of b) b (of_kind b) d s)

starts_double_slash : (r : List ℕ) → starts_from Double (backslash ∷ r) ≡ starts_from DoubleEscape r
starts_double_slash r = ap (λ k. starts_from (next_place Double k) r) kind-backslash

starts_double_close : (r : List ℕ) → starts_from Double (double_quote ∷ r) ≡ starts_from Closed r
starts_double_close r = ap (λ k. starts_from (next_place Double k) r) kind-double_quote

pub escape_spells : (line : List ℕ) (at c : ℕ) → at < length line → c ≡ get_or line at 0 → (c == letter_x && begins_hex (drop (at + 1) line)) ≡ false → Spells DoubleEscape Double line at (escape_value c) (at + 1)
escape_spells line at c lt is test =
    let first : drop at line ≡ c ∷ drop (at + 1) line = drop_more line at 0 lt ∙ ap (λ (x : ℕ). x ∷ drop (at + 1) line) (sym is) in
    record {
      forward = omega arith;
      inside = omega arith;
      word = ap (word_from DoubleEscape) first ∙ escape_plain c (drop (at + 1) line) test;
      starts = ap (starts_from DoubleEscape) first;
    }

-- where no two digits follow
pub no_digits : (line : List ℕ) (at : ℕ) → length line ≤ at + 1 → begins_hex (drop at line) ≡ false
no_digits line at le = short (drop at line) (omega (arith, length-drop at line))
  where
    short : (xs : List ℕ) → length xs ≤ 1 → begins_hex xs ≡ false
    short [] h = refl
    short (x ∷ []) h = refl
    short (x ∷ y ∷ xs) h = absurd (omega arith)

two_more : (line : List ℕ) (at : ℕ) → at + 1 < length line → drop at line ≡ get_or line at 0 ∷ get_or line (at + 1) 0 ∷ drop (at + 1 + 1) line
two_more line at lt = drop_more line at 0 (omega arith) ∙ ap (λ (r : List ℕ). get_or line at 0 ∷ r) (drop_more line (at + 1) 0 lt)

pub digits_at : (line : List ℕ) (at next : ℕ) (s t : Bool) → at + 1 < length line → next ≡ at + 1 → s ≡ is_ascii_hexdigit (get_or line at 0) → t ≡ is_ascii_hexdigit (get_or line next 0) → begins_hex (drop at line) ≡ (s && t)
digits_at line at next s t lt e hs ht = ap begins_hex (two_more line at lt) ∙ ap (λ (x : Bool). x && is_ascii_hexdigit (get_or line (at + 1) 0)) (sym hs) ∙ ap (λ (x : Bool). s && x) (ap (λ (n : ℕ). is_ascii_hexdigit (get_or line n 0)) (sym e) ∙ sym ht)

pub value_n : (c : ℕ) → c ≡ 110 → 10 ≡ escape_value c
value_n c e = sym (ap escape_value e)

pub value_r : (c : ℕ) → c ≡ 114 → 13 ≡ escape_value c
value_r c e = sym (ap escape_value e)

pub value_t : (c : ℕ) → c ≡ 116 → 9 ≡ escape_value c
value_t c e = sym (ap escape_value e)

pub value_other : (c : ℕ) → c ≢ 110 → c ≢ 114 → c ≢ 116 → c ≡ escape_value c
value_other c n r t = sym (ap (λ (x : Bool). cond x 10 (cond (c == 114) 13 (cond (c == 116) 9 c))) (ne_eqb c 110 n) ∙ ap (λ (x : Bool). cond x 13 (cond (c == 116) 9 c)) (ne_eqb c 114 r) ∙ ap (λ (x : Bool). cond x 9 c) (ne_eqb c 116 t))

pub hex_spells : (line : List ℕ) (at a b : ℕ) → at + 2 < length line → get_or line at 0 ≡ letter_x → get_or line (at + 1) 0 ≡ a → get_or line (at + 2) 0 ≡ b → is_ascii_hexdigit a ≡ true → is_ascii_hexdigit b ≡ true → Spells DoubleEscape Double line at (16 * hex_value a + hex_value b) (at + 3)
hex_spells line at a b lt x_is a_is b_is ha hb =
    let tail : List ℕ = drop (at + 3) line in
    let first : drop at line ≡ letter_x ∷ drop (at + 1) line = drop_more line at 0 (omega arith) ∙ ap (λ (x : ℕ). x ∷ drop (at + 1) line) x_is in
    let second : drop (at + 1) line ≡ a ∷ drop (at + 2) line = drop_more line (at + 1) 0 (omega arith) ∙ ap (λ (n : ℕ). get_or line (at + 1) 0 ∷ drop n line) (let e : at + 1 + 1 ≡ at + 2 = omega arith in e) ∙ ap (λ (x : ℕ). x ∷ drop (at + 2) line) a_is in
    let third : drop (at + 2) line ≡ b ∷ tail = drop_more line (at + 2) 0 (omega arith) ∙ ap (λ (n : ℕ). get_or line (at + 2) 0 ∷ drop n line) (let e : at + 2 + 1 ≡ at + 3 = omega arith in e) ∙ ap (λ (x : ℕ). x ∷ tail) b_is in
    let all : drop at line ≡ letter_x ∷ a ∷ b ∷ tail = first ∙ ap (λ (r : List ℕ). letter_x ∷ r) (second ∙ ap (λ (r : List ℕ). a ∷ r) third) in
    record {
      forward = omega arith;
      inside = omega arith;
      word = ap (word_from DoubleEscape) all ∙ escape_hex a b tail ha hb;
      starts = ap (starts_from DoubleEscape) all ∙ starts_itself a (b ∷ tail) (hex_not a double_quote ha refl) (hex_not a backslash ha refl) ∙ starts_itself b tail (hex_not b double_quote hb refl) (hex_not b backslash hb refl);
    }

at_first : (line : List ℕ) (at b : ℕ) → at < length line → b ≡ get_or line at 0 → drop at line ≡ b ∷ drop (at + 1) line
at_first line at b lt is = drop_more line at 0 lt ∙ ap (λ (x : ℕ). x ∷ drop (at + 1) line) (sym is)

pub slash_spells : (line : List ℕ) (at byte end : ℕ) → at < length line → at + 1 < length line → get_or line at 0 ≡ backslash → Spells DoubleEscape Double line (at + 1) byte end → Spells Double Double line at byte end
slash_spells line at byte end lt more is s =
    let first : drop at line ≡ backslash ∷ drop (at + 1) line = at_first line at backslash lt (sym is) in
    let c = get_or line (at + 1) 0 in
    let second : drop (at + 1) line ≡ c ∷ drop (at + 1 + 1) line = drop_more line (at + 1) 0 more in
    record {
      forward = omega (arith, s.forward);
      inside = s.inside;
      word = ap (word_from Double) (first ∙ ap (λ (r : List ℕ). backslash ∷ r) second) ∙ double_slash c (drop (at + 1 + 1) line) ∙ ap (word_from DoubleEscape) (sym second) ∙ s.word;
      starts = ap (starts_from Double) first ∙ starts_double_slash (drop (at + 1) line) ∙ s.starts;
    }

-- a backslash with which the bytes end
pub last_slash_spells : (line : List ℕ) (at : ℕ) → at < length line → length line ≤ at + 1 → get_or line at 0 ≡ backslash → Spells Double Double line at backslash (at + 1)
last_slash_spells line at lt le is =
    let nil : drop (at + 1) line ≡ [] = drop_all (at + 1) line le in
    let first : drop at line ≡ backslash ∷ [] = at_first line at backslash lt (sym is) ∙ ap (λ (r : List ℕ). backslash ∷ r) nil in
    record {
      forward = omega arith;
      inside = omega arith;
      word = ap (word_from Double) first ∙ ap (λ k. spelled Double k backslash [] (word_from (next_place Double k) [])) kind-backslash ∙ ap (λ (r : List ℕ). backslash ∷ word_from Double r) (sym nil);
      starts = ap (starts_from Double) first ∙ ap (starts_from Double) (sym nil);
    }

pub itself_spells : (line : List ℕ) (at b : ℕ) → at < length line → b ≡ get_or line at 0 → b ≢ double_quote → b ≢ backslash → Spells Double Double line at b (at + 1)
itself_spells line at b lt is d s =
    let first = at_first line at b lt is in
    record { forward = omega arith; inside = omega arith; word = ap (word_from Double) first ∙ double_itself b (drop (at + 1) line) d s; starts = ap (starts_from Double) first ∙ starts_itself b (drop (at + 1) line) d s }

-- in single quotes
sign_next : (k : Kind) (b : ℕ) → IsOfKind k b → b ≢ single_quote → b ≢ backslash → next_place Single k ≡ Single
sign_next LineFeed b f d s = refl
sign_next SingleQuote b f d s = absurd (d f)
sign_next Backslash b f d s = absurd (s f)
sign_next Separator b f d s = refl
sign_next DoubleQuote b f d s = refl
sign_next Other b f d s = refl

starts_sign : (b : ℕ) (r : List ℕ) → b ≢ single_quote → b ≢ backslash → starts_from Single (b ∷ r) ≡ starts_from Single r
starts_sign b r d s = ap (λ p. starts_from p r) (sign_next (kind_of b) b (of_kind b) d s)

starts_single_slash : (r : List ℕ) → starts_from Single (backslash ∷ r) ≡ starts_from SingleEscape r
starts_single_slash r = ap (λ k. starts_from (next_place Single k) r) kind-backslash

starts_single_close : (r : List ℕ) → starts_from Single (single_quote ∷ r) ≡ starts_from Closed r
starts_single_close r = ap (λ k. starts_from (next_place Single k) r) kind-single_quote

starts_single_quote : (r : List ℕ) → starts_from Single (backslash ∷ single_quote ∷ r) ≡ starts_from Single r
starts_single_quote r = starts_single_slash (single_quote ∷ r) ∙ ap (λ k. starts_from (next_place SingleEscape k) r) kind-single_quote

behind_slash : (k : Kind) (b : ℕ) → IsOfKind k b → b ≢ single_quote → next_place SingleEscape k ≡ next_place Single k
behind_slash LineFeed b f d = refl
behind_slash SingleQuote b f d = absurd (d f)
behind_slash Backslash b f d = refl
behind_slash Separator b f d = refl
behind_slash DoubleQuote b f d = refl
behind_slash Other b f d = refl

starts_backslash : (xs : List ℕ) → (IsNext single_quote xs → ⊥) → starts_from Single (backslash ∷ xs) ≡ starts_from Single xs
starts_backslash [] free = starts_single_slash []
starts_backslash (b ∷ xs) free = starts_single_slash (b ∷ xs) ∙ ap (λ p. starts_from p xs) (behind_slash (kind_of b) b (of_kind b) free)

pub quote_spells : (line : List ℕ) (at : ℕ) → at + 1 < length line → get_or line at 0 ≡ backslash → get_or line (at + 1) 0 ≡ single_quote → Spells Single Single line at single_quote (at + 1 + 1)
quote_spells line at lt is then_is =
    let all : drop at line ≡ backslash ∷ single_quote ∷ drop (at + 1 + 1) line = at_first line at backslash (omega arith) (sym is) ∙ ap (λ (r : List ℕ). backslash ∷ r) (at_first line (at + 1) single_quote lt (sym then_is)) in
    record { forward = omega arith; inside = omega arith; word = ap (word_from Single) all ∙ single_quoted (drop (at + 1 + 1) line); starts = ap (starts_from Single) all ∙ starts_single_quote (drop (at + 1 + 1) line) }

-- no quote comes next, or nothing
pub no_quote_next : (line : List ℕ) (at : ℕ) → (at < length line → get_or line at 0 ≢ single_quote) → IsNext single_quote (drop at line) → ⊥
no_quote_next line at h n = next (drop at line) refl n
  where
    next : (xs : List ℕ) → drop at line ≡ xs → IsNext single_quote xs → ⊥
    next [] e n = n
    next (x ∷ xs) e n =
        let lt : at < length line = omega (arith, length-drop at line, ap length e) in
        let same : get_or line at 0 ∷ drop (at + 1) line ≡ x ∷ xs = sym (drop_more line at 0 lt) ∙ e in
        let head : get_or line at 0 ≡ x = cc in
        h lt (head ∙ n)

pub backslash_spells : (line : List ℕ) (at : ℕ) → at < length line → get_or line at 0 ≡ backslash → (at + 1 < length line → get_or line (at + 1) 0 ≢ single_quote) → Spells Single Single line at backslash (at + 1)
backslash_spells line at lt is none =
    let first : drop at line ≡ backslash ∷ drop (at + 1) line = at_first line at backslash lt (sym is) in
    let free = no_quote_next line (at + 1) none in
    record { forward = omega arith; inside = omega arith; word = ap (word_from Single) first ∙ single_backslash (drop (at + 1) line) free; starts = ap (starts_from Single) first ∙ starts_backslash (drop (at + 1) line) free }

pub sign_spells : (line : List ℕ) (at b : ℕ) → at < length line → b ≡ get_or line at 0 → b ≢ single_quote → b ≢ backslash → Spells Single Single line at b (at + 1)
sign_spells line at b lt is d s =
    let first = at_first line at b lt is in
    record { forward = omega arith; inside = omega arith; word = ap (word_from Single) first ∙ single_sign b (drop (at + 1) line) d s; starts = ap (starts_from Single) first ∙ starts_sign b (drop (at + 1) line) d s }

-- What stands in quotes from start up to at was put behind old.
pub record HasUnquoted (place : Place) (line : List ℕ) (start at : ℕ) (old new : List ℕ) : Type 0 where
  pub inside : at ≤ length line
  pub forward : start ≤ at
  pub word : new ++ word_from place (drop at line) ≡ old ++ word_from place (drop start line)
  pub starts : starts_from place (drop start line) ≡ starts_from place (drop at line)

pub unquotes_none : (place : Place) (line : List ℕ) (start : ℕ) (old : List ℕ) → start ≤ length line → HasUnquoted place line start start old old
unquotes_none place line start old le = record { inside = le; forward = omega arith; word = refl; starts = refl }

pub unquotes_more : (place : Place) (line : List ℕ) (start at byte end : ℕ) (old new newer : List ℕ) → HasUnquoted place line start at old new → Spells place place line at byte end → newer ≡ new ++ byte ∷ [] → HasUnquoted place line start end old newer
unquotes_more place line start at byte end old new newer h s e = record {
  inside = s.inside;
  forward = omega (arith, h.forward, s.forward);
  word = ap (λ (x : List ℕ). x ++ word_from place (drop end line)) e ∙ append_assoc new (byte ∷ []) (word_from place (drop end line)) ∙ ap (λ (x : List ℕ). new ++ x) (sym s.word) ∙ h.word;
  starts = h.starts ∙ s.starts;
}

unquotes_at : (place : Place) (line : List ℕ) (start at end : ℕ) (old new : List ℕ) → HasUnquoted place line start at old new → at ≤ end → end ≤ length line → word_from place (drop at line) ≡ [] → starts_from place (drop at line) ≡ starts_from Closed (drop end line) → Unquotes place line start end old new
unquotes_at place line start at end old new h le inside nil closed = record {
  inside = inside;
  forward = omega (arith, h.forward);
  word = sym (append-nil new) ∙ ap (λ (x : List ℕ). new ++ x) (sym nil) ∙ h.word;
  starts = h.starts ∙ closed;
}

pub unquotes_double : (line : List ℕ) (start at : ℕ) (old new : List ℕ) → HasUnquoted Double line start at old new → at < length line → get_or line at 0 ≡ double_quote → Unquotes Double line start (at + 1) old new
unquotes_double line start at old new h lt is =
    let first : drop at line ≡ double_quote ∷ drop (at + 1) line = at_first line at double_quote lt (sym is) in
    unquotes_at Double line start at (at + 1) old new h (omega arith) (omega arith) (ap (word_from Double) first ∙ double_close (drop (at + 1) line)) (ap (starts_from Double) first ∙ starts_double_close (drop (at + 1) line))

pub unquotes_single : (line : List ℕ) (start at : ℕ) (old new : List ℕ) → HasUnquoted Single line start at old new → at < length line → get_or line at 0 ≡ single_quote → Unquotes Single line start (at + 1) old new
unquotes_single line start at old new h lt is =
    let first : drop at line ≡ single_quote ∷ drop (at + 1) line = at_first line at single_quote lt (sym is) in
    unquotes_at Single line start at (at + 1) old new h (omega arith) (omega arith) (ap (word_from Single) first ∙ single_close (drop (at + 1) line)) (ap (starts_from Single) first ∙ starts_single_close (drop (at + 1) line))

pub unquotes_double_all : (line : List ℕ) (start at : ℕ) (old new : List ℕ) → HasUnquoted Double line start at old new → length line ≤ at → Unquotes Double line start at old new
unquotes_double_all line start at old new h le =
    let nil : drop at line ≡ [] = drop_all at line le in
    unquotes_at Double line start at at old new h (omega arith) h.inside (ap (word_from Double) nil) (ap (starts_from Double) nil ∙ ap (starts_from Closed) (sym nil))

pub unquotes_single_all : (line : List ℕ) (start at : ℕ) (old new : List ℕ) → HasUnquoted Single line start at old new → length line ≤ at → Unquotes Single line start at old new
unquotes_single_all line start at old new h le =
    let nil : drop at line ≡ [] = drop_all at line le in
    unquotes_at Single line start at at old new h (omega arith) h.inside (ap (word_from Single) nil) (ap (starts_from Single) nil ∙ ap (starts_from Closed) (sym nil))

-- plain bytes
pub record IsPlainSoFar (line : List ℕ) (start at : ℕ) : Type 0 where
  pub inside : at ≤ length line
  pub forward : start ≤ at
  pub value : word_from Plain (drop start line) ≡ slice_range line start at ++ word_from Plain (drop at line)
  pub starts : starts_from Plain (drop start line) ≡ starts_from Plain (drop at line)
  pub bare : IsBare (drop start line) → IsBare (drop at line)

pub plain_none : (line : List ℕ) (start : ℕ) → start ≤ length line → IsPlainSoFar line start start
plain_none line start le = record { inside = le; forward = omega arith; value = let e : start - start ≡ 0 = omega arith in ap (λ (n : ℕ). take n (drop start line) ++ word_from Plain (drop start line)) (sym e); starts = refl; bare = λ h. h }

range_more : (line : List ℕ) (start at : ℕ) → start ≤ at → at < length line → slice_range line start (at + 1) ≡ slice_range line start at ++ get_or line at 0 ∷ []
range_more line start at le lt =
    let n : (at + 1) - start ≡ (at - start) + 1 = omega arith in
    let i : start + (at - start) ≡ at = omega arith in
    ap (λ (k : ℕ). take k (drop start line)) n ∙ take_more (drop start line) (at - start) 0 (omega (arith, length-drop start line))
    ∙ ap (λ (x : ℕ). take (at - start) (drop start line) ++ x ∷ []) (get_or-drop start line (at - start) 0 ∙ ap (λ (k : ℕ). get_or line k 0) i)

record StaysPlain (k : Kind) (b : ℕ) (r : List ℕ) : Type 0 where
  value : spelled Plain k b r (word_from (next_place Plain k) r) ≡ b ∷ word_from Plain r
  next : next_place Plain k ≡ Plain
  bare : IsBareAt k (IsBare r) → IsBare r

stays_plain : (k : Kind) (b : ℕ) (r : List ℕ) → (StopsPlain k → ⊥) → StaysPlain k b r
stays_plain LineFeed b r h = record { value = refl; next = refl; bare = λ h. h }
stays_plain Separator b r h = absurd (h tt)
stays_plain DoubleQuote b r h = absurd (h tt)
stays_plain SingleQuote b r h = absurd (h tt)
stays_plain Backslash b r h = record { value = refl; next = refl; bare = λ h. h }
stays_plain Other b r h = record { value = refl; next = refl; bare = λ h. h }

pub plain_more : (line : List ℕ) (start at : ℕ) (k : Kind) → IsPlainSoFar line start at → at < length line → k ≡ kind_of (get_or line at 0) → (StopsPlain k → ⊥) → IsPlainSoFar line start (at + 1)
plain_more line start at k h lt is go =
    let b : ℕ = get_or line at 0 in
    let r : List ℕ = drop (at + 1) line in
    let first : drop at line ≡ b ∷ r = drop_more line at 0 lt in
    let s = stays_plain (kind_of b) b r (λ stop. go (subst StopsPlain (sym is) stop)) in
    record {
      inside = omega arith;
      forward = omega (arith, h.forward);
      value = h.value ∙ ap (λ (x : List ℕ). slice_range line start at ++ x) (ap (word_from Plain) first ∙ s.value) ∙ sym (append_assoc (slice_range line start at) (b ∷ []) (word_from Plain r)) ∙ ap (λ (x : List ℕ). x ++ word_from Plain r) (sym (range_more line start at h.forward lt));
      starts = h.starts ∙ ap (starts_from Plain) first ∙ ap (λ p. starts_from p r) s.next;
      bare = λ none. s.bare (subst (λ (x : List ℕ). IsBare x) first (h.bare none));
    }

pub goes_on : (k : Kind) → (k ≡ LineFeed) ⊎ ((k ≡ Backslash) ⊎ (k ≡ Other)) → StopsPlain k → ⊥
goes_on k (inl e) s = subst StopsPlain e s
goes_on k (inr (inl e)) s = subst StopsPlain e s
goes_on k (inr (inr e)) s = subst StopsPlain e s

pub plain_stops : (line : List ℕ) (start at : ℕ) → IsPlainSoFar line start at → (at < length line → StopsPlain (kind_of (get_or line at 0))) → IsPlainUpTo line start at
plain_stops line start at h stop = record { inside = h.inside; forward = h.forward; value = h.value; starts = h.starts; bare = h.bare; stops = stop }

-- a word
same_closed : (k : Kind) (w : List ℕ) (ws : List (List ℕ)) (r : List ℕ) → begun Closed k w (starts_from (next_place Closed k) r) ≡ begun Between k w (starts_from (next_place Between k) r)
same_closed LineFeed w ws r = refl
same_closed Separator w ws r = refl
same_closed DoubleQuote w ws r = refl
same_closed SingleQuote w ws r = refl
same_closed Backslash w ws r = refl
same_closed Other w ws r = refl

pub starts-Closed : (xs : List ℕ) → starts_from Closed xs ≡ starts_from Between xs
starts-Closed [] = refl
starts-Closed (b ∷ r) = same_closed (kind_of b) (b ∷ r) [] r

pub cut_all : (line : List ℕ) (start end : ℕ) → IsPlainUpTo line start end → start < length line → length line ≤ end → IsCut line start end (slice_range line start end)
cut_all line start end p lt le =
    let nil : drop end line ≡ [] = drop_all end line le in
    record {
      inside = p.inside;
      forward = omega arith;
      value = sym (p.value ∙ ap (λ (x : List ℕ). slice_range line start end ++ word_from Plain x) nil ∙ append-nil (slice_range line start end));
      starts = p.starts ∙ ap (starts_from Plain) nil ∙ ap (starts_from Closed) (sym nil);
    }

separator_starts : (k : Kind) (b : ℕ) (w : List ℕ) (r : List ℕ) → k ≡ Separator → begun Plain k w (starts_from (next_place Plain k) r) ≡ begun Closed k w (starts_from (next_place Closed k) r)
separator_starts k b w r e = subst (λ (x : Kind). begun Plain x w (starts_from (next_place Plain x) r) ≡ begun Closed x w (starts_from (next_place Closed x) r)) (sym e) refl

pub cut_separator : (line : List ℕ) (start end : ℕ) → IsPlainUpTo line start end → end < length line → kind_of (get_or line end 0) ≡ Separator → kind_of (get_or line start 0) ≢ Separator → IsCut line start end (slice_range line start end)
cut_separator line start end p lt is not =
    let b : ℕ = get_or line end 0 in
    let r : List ℕ = drop (end + 1) line in
    let first : drop end line ≡ b ∷ r = drop_more line end 0 lt in
    let apart : start ≢ end = λ e. not (ap (λ (n : ℕ). kind_of (get_or line n 0)) e ∙ is) in
    let nil : word_from Plain (b ∷ r) ≡ [] = ap (λ (k : Kind). spelled Plain k b r (word_from (next_place Plain k) r)) is in
    record {
      inside = p.inside;
      forward = omega (arith, p.forward, apart);
      value = sym (p.value ∙ ap (λ (x : List ℕ). slice_range line start end ++ word_from Plain x) first ∙ ap (λ (x : List ℕ). slice_range line start end ++ x) nil ∙ append-nil (slice_range line start end));
      starts = p.starts ∙ ap (starts_from Plain) first ∙ separator_starts (kind_of b) b (b ∷ r) r is ∙ ap (starts_from Closed) (sym first);
    }

cut_quoted : (place : Place) (line : List ℕ) (start end after : ℕ) (word : List ℕ) (quote : ℕ) → IsPlainUpTo line start end → end < length line → get_or line end 0 ≡ quote
    → ((r : List ℕ) → word_from Plain (quote ∷ r) ≡ word_from place r) → ((r : List ℕ) → starts_from Plain (quote ∷ r) ≡ starts_from place r)
    → Unquotes place line (end + 1) after (slice_range line start end) word → IsCut line start after word
cut_quoted place line start end after word quote p lt is opens opens_starts u =
    let r : List ℕ = drop (end + 1) line in
    let first : drop end line ≡ quote ∷ r = at_first line end quote lt (sym is) in
    record {
      inside = u.inside;
      forward = omega (arith, p.forward, u.forward);
      value = u.word ∙ ap (λ (x : List ℕ). slice_range line start end ++ x) (sym (ap (word_from Plain) first ∙ opens r)) ∙ sym p.value;
      starts = p.starts ∙ ap (starts_from Plain) first ∙ opens_starts r ∙ u.starts;
    }

starts_open_double : (r : List ℕ) → starts_from Plain (double_quote ∷ r) ≡ starts_from Double r
starts_open_double r = ap (λ k. starts_from (next_place Plain k) r) kind-double_quote

starts_open_single : (r : List ℕ) → starts_from Plain (single_quote ∷ r) ≡ starts_from Single r
starts_open_single r = ap (λ k. starts_from (next_place Plain k) r) kind-single_quote

pub double_is : (b : ℕ) → kind_of b ≡ DoubleQuote → b ≡ double_quote
double_is b e = subst (λ (k : Kind). IsOfKind k b) e (of_kind b)

pub single_is : (b : ℕ) → kind_of b ≡ SingleQuote → b ≡ single_quote
single_is b e = subst (λ (k : Kind). IsOfKind k b) e (of_kind b)

pub cut_double : (line : List ℕ) (start end after : ℕ) (word : List ℕ) → IsPlainUpTo line start end → end < length line → kind_of (get_or line end 0) ≡ DoubleQuote → Unquotes Double line (end + 1) after (slice_range line start end) word → IsCut line start after word
cut_double line start end after word p lt is u = cut_quoted Double line start end after word double_quote p lt (double_is (get_or line end 0) is) plain_opens_double starts_open_double u

pub cut_single : (line : List ℕ) (start end after : ℕ) (word : List ℕ) → IsPlainUpTo line start end → end < length line → kind_of (get_or line end 0) ≡ SingleQuote → Unquotes Single line (end + 1) after (slice_range line start end) word → IsCut line start after word
cut_single line start end after word p lt is u = cut_quoted Single line start end after word single_quote p lt (single_is (get_or line end 0) is) plain_opens_single starts_open_single u

-- the words of a line

separator_between : (k : Kind) (w : List ℕ) (r : List ℕ) → k ≡ Separator → begun Between k w (starts_from (next_place Between k) r) ≡ starts_from Between r
separator_between k w r e = subst (λ (x : Kind). begun Between x w (starts_from (next_place Between x) r) ≡ starts_from Between r) (sym e) refl

pub skip_separator : (line : List ℕ) (at : ℕ) → at < length line → kind_of (get_or line at 0) ≡ Separator → starts_from Between (drop at line) ≡ starts_from Between (drop (at + 1) line)
skip_separator line at lt is =
    let b : ℕ = get_or line at 0 in
    let r : List ℕ = drop (at + 1) line in
    ap (starts_from Between) (drop_more line at 0 lt) ∙ separator_between (kind_of b) (b ∷ r) r is

begins_at : (k : Kind) (w : List ℕ) (r : List ℕ) → k ≢ Separator → begun Between k w (starts_from (next_place Between k) r) ≡ w ∷ begun Plain k w (starts_from (next_place Plain k) r)
begins_at LineFeed w r h = refl
begins_at Separator w r h = absurd (h refl)
begins_at DoubleQuote w r h = refl
begins_at SingleQuote w r h = refl
begins_at Backslash w r h = refl
begins_at Other w r h = refl

pub one_start : (line : List ℕ) (at end : ℕ) (word : List ℕ) → at < length line → kind_of (get_or line at 0) ≢ Separator → IsCut line at end word → starts_from Between (drop at line) ≡ drop at line ∷ starts_from Between (drop end line)
one_start line at end word lt not c =
    let b : ℕ = get_or line at 0 in
    let r : List ℕ = drop (at + 1) line in
    let first : drop at line ≡ b ∷ r = drop_more line at 0 lt in
    ap (starts_from Between) first ∙ begins_at (kind_of b) (b ∷ r) r not ∙ ap (λ (x : List ℕ). x ∷ starts_from Plain x) (sym first)
    ∙ ap (λ (ss : List (List ℕ)). drop at line ∷ ss) (c.starts ∙ starts-Closed (drop end line))

-- The words up to at were read, where they begin.
pub record HasCut (line : List ℕ) (at : ℕ) (words : List (CowSlice ℕ Global)) : Type 0 where
  pub inside : at ≤ length line
  pub starts : List (List ℕ)
  pub starts_are : starts ++ starts_from Between (drop at line) ≡ starts_from Between line
  pub read : AllZip IsReadAt starts words

pub has_cut_none : (line : List ℕ) → HasCut line 0 []
has_cut_none line = record { inside = omega arith; starts = []; starts_are = refl; read = tt }

pub has_cut_gap : (line : List ℕ) (at : ℕ) (words : List (CowSlice ℕ Global)) → HasCut line at words → at < length line → kind_of (get_or line at 0) ≡ Separator → HasCut line (at + 1) words
has_cut_gap line at words h lt is = record { inside = omega arith; starts = h.starts; starts_are = ap (λ (ss : List (List ℕ)). h.starts ++ ss) (sym (skip_separator line at lt is)) ∙ h.starts_are; read = h.read }

zip_push : {A B : Type 0} (R : A → B → Type 0) (xs : List A) (ys : List B) (x : A) (y : B) → AllZip R xs ys → R x y → AllZip R (xs ++ x ∷ []) (ys ++ y ∷ [])
zip_push R [] [] x y h k = (k, tt)
zip_push R [] (b ∷ ys) x y h k = absurd h
zip_push R (a ∷ xs) [] x y h k = absurd h
zip_push R (a ∷ xs) (b ∷ ys) x y h k = (h.0, zip_push R xs ys x y h.1 k)

pub has_cut_word : (line : List ℕ) (at end : ℕ) (words newer : List (CowSlice ℕ Global)) (word : CowSlice ℕ Global) → HasCut line at words → at < length line → kind_of (get_or line at 0) ≢ Separator → IsCut line at end (cow_slice_items word)
    → (IsBare (drop at line) → IsBorrowedSlice word) → newer ≡ words ++ word ∷ [] → HasCut line end newer
has_cut_word line at end words newer word h lt not c own e = record {
  inside = c.inside;
  starts = h.starts ++ drop at line ∷ [];
  starts_are = append_assoc h.starts (drop at line ∷ []) (starts_from Between (drop end line)) ∙ ap (λ (ss : List (List ℕ)). h.starts ++ ss) (sym (one_start line at end (cow_slice_items word) lt not c)) ∙ h.starts_are;
  read = subst (AllZip IsReadAt (h.starts ++ drop at line ∷ [])) (sym e) (zip_push IsReadAt h.starts words (drop at line) word h.read (record { value = c.value; borrowed = own }));
}

-- where a word begins, the line has one
pub some_start : (line : List ℕ) (at : ℕ) (words : List (CowSlice ℕ Global)) → HasCut line at words → at < length line → kind_of (get_or line at 0) ≢ Separator → 0 < length (starts_from Between line)
some_start line at words h lt not =
    let b : ℕ = get_or line at 0 in
    let r : List ℕ = drop (at + 1) line in
    let one = ap (starts_from Between) (drop_more line at 0 lt) ∙ begins_at (kind_of b) (b ∷ r) r not in
    omega (arith, ap length one, ap length h.starts_are, length-append h.starts (starts_from Between (drop at line)))

pub has_cut_all : (line : List ℕ) (at : ℕ) (words : List (CowSlice ℕ Global)) → HasCut line at words → length line ≤ at → AllZip IsReadAt (starts_from Between line) words
has_cut_all line at words h le =
    let all : h.starts ≡ starts_from Between line = sym (append-nil h.starts) ∙ ap (λ (ss : List (List ℕ)). h.starts ++ ss) (sym (ap (starts_from Between) (drop_all at line le))) ∙ h.starts_are in
    subst (λ (ss : List (List ℕ)). AllZip IsReadAt ss words) all h.read

not_bare : (line : List ℕ) (at : ℕ) (k : Kind) → (IsBareAt k (IsBare (drop (at + 1) line)) → ⊥) → at < length line → k ≡ kind_of (get_or line at 0) → IsBare (drop at line) → ⊥
not_bare line at k none lt is h =
    none (subst (λ (x : Kind). IsBareAt x (IsBare (drop (at + 1) line))) (sym is) (subst (λ (x : List ℕ). IsBare x) (drop_more line at 0 lt) h))

pub no_double : (line : List ℕ) (start at : ℕ) → IsPlainUpTo line start at → at < length line → DoubleQuote ≡ kind_of (get_or line at 0) → IsBare (drop start line) → ⊥
no_double line start at p lt is h = not_bare line at DoubleQuote (λ x. x) lt is (p.bare h)

pub no_single : (line : List ℕ) (start at : ℕ) → IsPlainUpTo line start at → at < length line → SingleQuote ≡ kind_of (get_or line at 0) → IsBare (drop start line) → ⊥
no_single line start at p lt is h = not_bare line at SingleQuote (λ x. x) lt is (p.bare h)
