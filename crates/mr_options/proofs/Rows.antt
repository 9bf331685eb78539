-- The values that a parse without a fault lets through: each passed the parser of its option.
use Rattle.std.proofs.Common.{◌≡◌, ◌∙◌, ◌<◌, ◌&&◌, ◌||◌, ◌++◌, ℕ, zero, suc, List, [], ◌∷◌, Option, Some, None, Bool, true, false, not, sym, ap, refl, subst, cond, length, arith, append-nil}
use Rattle.std.specs.Prelude.{IfSome, drop, encode_utf8, fold, slice_get}
use Rattle.std.specs.List.{find}
use Rattle.std.specs.Option.{is_some, option_map_or}
use Rattle.std.specs.Str.{bytes_eq, chars}
use Rattle.clap.specs.Words.{Kinds, Row, Rule, Shape, Text, new_rule}
use Rattle.clap.specs.Kinds.{or_else, range_kinds}
use Rattle.clap.specs.Faults.{flag_word_fault, level_fault, long_fault, option_fault, other_fault, repeat_fault, settle_fault, step_fault, turn_fault, use_fault, values_fault, walk_fault, word_fault}
use Rattle.clap.specs.Lexer.{long_of, short_of}
use Rattle.clap.specs.Walk.{Held, Outcome, Step, Waiting, Walk, after_flag, after_step, arg_by_id, arg_by_index, arg_by_long, arg_by_short, at_row, bundle, bundle_met, bundle_step, done, has_long, has_row, idle, long_met, long_or_other, more_values, next, nothing_held, option_met, option_word, plain, plain_word, positional, reading_by, refused, settled, settled_rows, short_met, short_or_plain, subcommand, subcommand_met, subcommand_or_other, to_positional, trailing, used, used_by_id, value, waits, walk, walk_from, walked, walked_from, with_values, without, word_met}
use Rattle.clap.specs.Walk.{option as option_waits}
use Rattle.clap.specs.declared.builder.action.ArgAction.TheVariants.{Set}
use Rattle.clap.specs.declared.builder.value_parser.ValueParser.{ValueParser}
use Rattle.clap.specs.declared.error.kind.ErrorKind.TheVariants.{ArgumentConflict, InvalidValue}
use Rattle.clap.specs.declared.parser.matches.ValueSource.TheVariants.{CommandLine}

pub first_none : (a b : Kinds) → or_else a b ≡ [] → a ≡ []
first_none [] b e = refl
first_none (k ∷ ks) b e = absurd (let wrong : ◌≡◌ {A = Kinds} (k ∷ ks) [] = e in cc)

pub second_none : (a b : Kinds) → or_else a b ≡ [] → b ≡ []
second_none [] b e = e
second_none (k ∷ ks) b e = absurd (let wrong : ◌≡◌ {A = Kinds} (k ∷ ks) [] = e in cc)

pub some_of : {X : Type 0} (x y : X) → ◌≡◌ {A = Option X} (Some x) (Some y) → x ≡ y
some_of x y e = cc

-- an option of one value, as building leaves it
abbrev pub one_valued : Text → ValueParser → Bool → Rule
one_valued name p is_needed = record (new_rule name) {
  long = Some name;
  parser = Some p;
  action = Some Set;
  range = Some (record { start_inclusive = 1; end_inclusive = 1 });
  required = is_needed;
}

-- the rule is such an option, and the one that its id finds
pub record IsKnown (c : List Rule) (a : Rule) : Type 0 where
  pub name : Text
  pub parser : ValueParser
  pub is_needed : Bool
  pub is : a ≡ one_valued name parser is_needed
  pub there : arg_by_id c name ≡ Some (one_valued name parser is_needed)

-- such an option, among these
pub option_known : {c : List Rule} {name : Text} {p : ValueParser} {is_needed : Bool} → arg_by_id c name ≡ Some (one_valued name p is_needed) → IsKnown c (one_valued name p is_needed)
option_known {c} {name} {p} {is_needed} there = record { name = name; parser = p; is_needed = is_needed; is = refl; there = there }

-- P holds of each rule
abbrev pub Each : (Rule → Type 0) → List Rule → Type 0
Each P [] = Unit {0}
Each P (a ∷ rest) = P a × Each P rest

-- each rule is known, and none has a short name or a place
pub record AreOptions (c : List Rule) : Type 0 where
  pub all : Each (IsKnown c) c
  pub no_short : (x : ℕ) → arg_by_short c x ≡ None
  pub no_index : (i : ℕ) → arg_by_index c i ≡ None

found_in : (P : Rule → Type 0) (q : Rule → Bool) (xs : List Rule) (a : Rule) → Each P xs → find q xs ≡ Some a → P a
found_in P q [] a all e = absurd (let wrong : ◌≡◌ {A = Option Rule} None (Some a) = e in cc)
found_in P q (x ∷ xs) a all e =
    elim (q x) as (λ b. cond b (Some x) (find q xs) ≡ Some a → P a) [
      | true ↦ λ e. subst P (some_of x a e) all.0
      | false ↦ λ e. found_in P q xs a all.1 e
    ] e

-- what a search finds is known
known : (c : List Rule) → AreOptions c → (q : Rule → Bool) (a : Rule) → find q c ≡ Some a → IsKnown c a
known c o q a e = found_in (IsKnown c) q c a o.all e

abbrev pub ValuesFine : Row → Rule → Type 0
ValuesFine r a = (0 < length r.values) × ((values_fault a r.values ≡ []) × (r.reading ≡ reading_by a))

-- the row has values, which passed the parser of its option
abbrev pub RowFine : List Rule → Row → Type 0
RowFine c r = IfSome (arg_by_id c r.id) (ValuesFine r)

abbrev pub RowsFine : List Rule → List Row → Type 0
RowsFine c [] = Unit {0}
RowsFine c (r ∷ rs) = RowFine c r × RowsFine c rs

fine_append : (c : List Rule) (xs ys : List Row) → RowsFine c xs → RowsFine c ys → RowsFine c (xs ++ ys)
fine_append c [] ys a b = b
fine_append c (x ∷ xs) ys a b = (a.0, fine_append c xs ys a.1 b)

-- ---- one use of an option

absent_row : (id : Text) (change : Row → List Row) (missing rows : List Row) → has_row id rows ≡ false → at_row id change missing rows ≡ rows ++ missing
absent_row id change missing [] e = refl
absent_row id change missing (r ∷ rs) e =
    elim (bytes_eq r.id id) as (λ b. (b || has_row id rs) ≡ false → cond b (change r ++ rs) (r ∷ at_row id change missing rs) ≡ r ∷ (rs ++ missing)) [
      | true ↦ λ e. absurd (let wrong : true ≡ false = e in cc)
      | false ↦ λ e. ap (λ (xs : List Row). r ∷ xs) (absent_row id change missing rs e)
    ] e

none_here : (b : Bool) → cond (b && true) (ArgumentConflict ∷ []) [] ≡ [] → b ≡ false
none_here true e = absurd (let wrong : ◌≡◌ {A = Kinds} (ArgumentConflict ∷ []) [] = e in cc)
none_here false e = refl

use_fine : (c : List Rule) (name : Text) (p : ValueParser) (is_needed : Bool) (values : List Text) (rows : List Row) → arg_by_id c name ≡ Some (one_valued name p is_needed) → use_fault false (one_valued name p is_needed) values rows ≡ [] → RowsFine c rows
    → RowsFine c (used (one_valued name p is_needed) values rows)
use_fine c name p is_needed [] rows there e h = absurd (let wrong : ◌≡◌ {A = Kinds} (InvalidValue ∷ []) [] = e in cc)
use_fine c name p is_needed (v ∷ vs) rows there e h =
    let a = one_valued name p is_needed in
    let acted = second_none (range_kinds 1 1 (length (v ∷ vs))) _ e in
    let fresh = none_here (has_row name rows) (first_none (repeat_fault false name rows) (values_fault a (v ∷ vs)) acted) in
    let passes = second_none (repeat_fault false name rows) (values_fault a (v ∷ vs)) acted in
    let new : Row = record { id = name; values = v ∷ vs; count = None; source = Some CommandLine; reading = reading_by a } in
    let same : without name rows ≡ rows = absent_row name (λ _. []) [] rows fresh ∙ append-nil rows in
    let is : used a (v ∷ vs) rows ≡ rows ++ new ∷ [] =
    ap (λ (xs : List Row). with_values name (reading_by a) CommandLine (v ∷ vs) xs) same ∙ absent_row name (more_values CommandLine (v ∷ vs)) (new ∷ []) rows fresh in
    let Fine : Option Rule → Type 0 = λ o. IfSome o (ValuesFine new) in
    let fine : RowFine c new = subst Fine (sym there) (omega arith, (passes, refl)) in
    subst (RowsFine c) (sym is) (fine_append c rows (new ∷ []) h (fine, tt))

used_fine : (c : List Rule) (a : Rule) → IsKnown c a → (values : List Text) (rows : List Row) → use_fault false a values rows ≡ [] → RowsFine c rows → RowsFine c (used a values rows)
used_fine c a k values rows e h =
    let P : Rule → Type 0 = λ x. use_fault false x values rows ≡ [] → RowsFine c (used x values rows) in
    subst P (sym k.is) (λ e. use_fine c k.name k.parser k.is_needed values rows k.there e h) e

-- ---- the walk

module _ (c : List Rule) (o : AreOptions c) where
  settle_rows : (pending : Option (Text × List Text)) (rows : List Row) → option_map_or (λ (p : Text × List Text). option_map_or (λ (a : Rule). use_fault false a p.1 rows) (arg_by_id c p.0) []) pending [] ≡ [] → RowsFine c rows → RowsFine c (settled_rows c pending rows)
  settle_rows None rows e h = h
  settle_rows (Some p) rows e h =
      elim (arg_by_id c p.0) as (λ x. arg_by_id c p.0 ≡ x → option_map_or (λ (a : Rule). use_fault false a p.1 rows) x [] ≡ [] → RowsFine c (used_by_id x p.1 rows)) [
        | None ↦ λ is e. h
        | Some a ↦ λ is e. used_fine c a (known c o (λ (r : Rule). bytes_eq r.id p.0) a is) p.1 rows e h
      ] refl e

  settle_fine : (h : Held) → settle_fault c false h ≡ [] → RowsFine c h.rows → RowsFine c (settled c h).rows
  settle_fine h e fine = settle_rows h.pending h.rows e fine

  option_fine : (a : Rule) → IsKnown c a → (v : Option Text) (h : Held) → option_fault c false a v h ≡ [] → RowsFine c h.rows → RowsFine c (option_met c a v h).0.rows
  option_fine a k None h e fine = settle_fine h e fine
  option_fine a k (Some v) h e fine =
      used_fine c a k (v ∷ []) (settled c h).rows (second_none (settle_fault c false h) _ e) (settle_fine h (first_none (settle_fault c false h) _ e) fine)

  long_fine : (found : Option Rule) → ((a : Rule) → found ≡ Some a → IsKnown c a) → (v : Option Text) (h : Held) → long_fault c false found v h ≡ [] → RowsFine c h.rows → RowsFine c (long_met c found v h).0.rows
  long_fine None all v h e fine = fine
  long_fine (Some a) all v h e fine =
      let k = all a refl in
      let P : Rule → Type 0 = λ x. long_fault c false (Some x) v h ≡ [] → RowsFine c (long_met c (Some x) v h).0.rows in
      let here = option_known k.there in
      subst P (sym k.is) (λ e. option_fine (one_valued k.name k.parser k.is_needed) here v h e fine) e

  step_same : (first : Option ℕ) (flags : Text) (skip : ℕ) (so_far : Outcome) (h : Held) (on : Text → ℕ → Outcome → Held → Held × Outcome)
      → ((f : Text) (s : ℕ) (x : Outcome) → (on f s x h).0 ≡ h) → (bundle_step c first flags skip so_far h on).0 ≡ h
  step_same None flags skip so_far h on same = refl
  step_same (Some x) flags zero so_far h on same =
      let rest = drop (length (encode_utf8 x)) flags in
      ap (λ (found : Option Rule). (short_met c found rest h (on rest 0 done)).0) (o.no_short x)
  step_same (Some x) flags (suc skip) so_far h on same = same (drop (length (encode_utf8 x)) flags) skip so_far

  bundle_same : (k : ℕ) (flags : Text) (skip : ℕ) (so_far : Outcome) (h : Held) → (bundle_met c k flags skip so_far h).0 ≡ h
  unfolding bundle_met
  bundle_same zero flags skip so_far h = refl
  bundle_same (suc k) flags skip so_far h = step_same (slice_get (chars flags) 0) flags skip so_far h (bundle_met c k) (λ f s x. bundle_same k f s x h)

  word_same : (found : Option Rule) (id word : Text) (h : Held) → (option_word found id word h).0.rows ≡ h.rows
  word_same None id word h = refl
  word_same (Some a) id word h = refl

  plain_same : (waiting : Waiting) (word : Text) (h : Held) → (plain_word c waiting word h).0.rows ≡ h.rows
  plain_same idle word h = refl
  plain_same positional word h = refl
  plain_same (option_waits id) word h = word_same (arg_by_id c id) id word h

  after_same : (waiting : Waiting) (word : Text) (h : Held) (x : Outcome) → (after_flag c waiting word h x).0.rows ≡ h.rows
  after_same waiting word h done = refl
  after_same waiting word h (waits id) = refl
  after_same waiting word h plain = plain_same waiting word h
  after_same waiting word h refused = plain_same waiting word h

  shorts_fine : (short : Option Text) (waiting : Waiting) (word : Text) (h : Held) → RowsFine c h.rows → RowsFine c (short_or_plain c waiting word short h).0.rows
  shorts_fine None waiting word h fine = subst (RowsFine c) (sym (plain_same waiting word h)) fine
  shorts_fine (Some flags) waiting word h fine =
      let met = bundle c flags h in
      let same = ap (λ (x : Held). x.rows) (bundle_same (length flags) flags h.skip plain (record h { skip = 0 })) in
      subst (RowsFine c) (sym (after_same waiting word met.0 met.1 ∙ same)) fine

  other_fine : (long : Option (Text × Option Text)) (waiting : Waiting) (word : Text) (h : Held) → flag_word_fault c false long word h ≡ [] → RowsFine c h.rows → RowsFine c (long_or_other c waiting word long h).0.rows
  other_fine (Some p) waiting word h e fine =
      let met = long_met c (arg_by_long c p.0) p.1 h in
      let named : Rule → Bool = λ a. not (is_some a.index) && has_long a p.0 in
      subst (RowsFine c) (sym (after_same waiting word met.0 met.1)) (long_fine (arg_by_long c p.0) (known c o named) p.1 h e fine)
  other_fine None waiting word h e fine = shorts_fine (short_of word) waiting word h fine

  step_held : (w : Walk) (word : Text) (h : Held) (x : Step) → (after_step c word w h x).held ≡ h
  step_held w word h (next waiting) = refl
  step_held w word h (trailing position) = refl
  step_held w word h (subcommand name) = refl
  step_held w word h value = ap (λ (found : Option Rule). (to_positional c found word w h).held) (o.no_index w.position)

-- ---- the words of one command whose rules these are, and whose options may not be given twice

module _ (s : Shape) (o : AreOptions s.rules) (once : s.args_override_self ≡ false) where
  none_met : (waiting : Waiting) (word : Text) → subcommand_met [] waiting word ≡ None
  none_met idle word = refl
  none_met positional word = refl
  none_met (option_waits id) word = refl

  here_fine : (dashes : Bool) (waiting : Waiting) (position : ℕ) (word : Text) (h : Held) → cond dashes [] (flag_word_fault s.rules s.args_override_self (long_of word) word h) ≡ [] → RowsFine s.rules h.rows
      → RowsFine s.rules (cond dashes (h, trailing position) (long_or_other s.rules waiting word (long_of word) h)).0.rows
  here_fine true waiting position word h e fine = fine
  here_fine false waiting position word h e fine =
      let P : Bool → Type 0 = λ again. flag_word_fault s.rules again (long_of word) word h ≡ [] in
      other_fine s.rules o (long_of word) waiting word h (subst P once e) fine

  plain_word_fine : (waiting : Waiting) (position : ℕ) (word : Text) (h : Held) → word_fault s [] false waiting word h ≡ [] → RowsFine s.rules h.rows → RowsFine s.rules (word_met s.rules [] false waiting position word h).0.rows
  plain_word_fine waiting position word h e fine =
      let P : Option Text → Type 0 = λ m. other_fault s m word h ≡ [] → RowsFine s.rules (subcommand_or_other s.rules m waiting position word h).0.rows in
      subst P (sym (none_met waiting word)) (λ e. here_fine (bytes_eq word (45 ∷ 45 ∷ [])) waiting position word h e fine) e

  met_fine : (is_trailing : Bool) (waiting : Waiting) (position : ℕ) (word : Text) (h : Held) → word_fault s [] is_trailing waiting word h ≡ [] → RowsFine s.rules h.rows → RowsFine s.rules (word_met s.rules [] is_trailing waiting position word h).0.rows
  met_fine true waiting position word h e fine = fine
  met_fine false waiting position word h e fine = plain_word_fine waiting position word h e fine

  turn_fine : (stopped : Option (Text × List Text)) (w : Walk) (word : Text) → cond (is_some stopped) [] (or_else (word_fault s [] w.is_trailing w.waiting word w.held) (step_fault s w.position (word_met s.rules [] w.is_trailing w.waiting w.position word w.held).0 (word_met s.rules [] w.is_trailing w.waiting w.position word w.held).1)) ≡ [] → RowsFine s.rules w.held.rows → RowsFine s.rules (walked_from s.rules [] stopped w word).held.rows
  turn_fine (Some p) w word e fine = fine
  turn_fine None w word e fine =
      let met = word_met s.rules [] w.is_trailing w.waiting w.position word w.held in
      let same = ap (λ (h : Held). h.rows) (step_held s.rules o w word met.0 met.1) in
      subst (RowsFine s.rules) (sym same) (met_fine w.is_trailing w.waiting w.position word w.held (first_none _ _ e) fine)

  walked_fine : (w : Walk) (word : Text) → turn_fault s [] w word ≡ [] → RowsFine s.rules w.held.rows → RowsFine s.rules (walked s.rules [] w word).held.rows
  unfolding walked
  walked_fine w word e fine = turn_fine w.stopped w word e fine

  walk_fine : (words : List Text) (w : Walk) → walk_fault s [] w words ≡ [] → RowsFine s.rules w.held.rows → RowsFine s.rules (fold (walked s.rules []) w words).held.rows
  unfolding walk_fault
  walk_fine [] w e fine = fine
  walk_fine (word ∷ rest) w e fine =
      walk_fine rest (walked s.rules [] w word) (second_none (turn_fault s [] w word) _ e) (walked_fine w word (first_none (turn_fault s [] w word) _ e) fine)

  -- behind all the words
  pub settled_fine : (words : List Text) → level_fault s [] nothing_held words false [] ≡ [] → RowsFine s.rules (settled s.rules (walk s.rules [] nothing_held words).held).rows
  settled_fine words e =
      let end = (walk s.rules [] nothing_held words).held in
      let W = walk_fault s [] (walk_from nothing_held) words in
      let fine = walk_fine words (walk_from nothing_held) (first_none W _ e) tt in
      let P : Bool → Type 0 = λ again. settle_fault s.rules again end ≡ [] in
      settle_fine s.rules o end (subst P once (first_none (settle_fault s.rules s.args_override_self end) _ (second_none W _ e))) fine
