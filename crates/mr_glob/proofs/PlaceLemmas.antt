-- Which places of a text need not be tried.
use Rattle.std.proofs.Common.{arith, ◌≡◌, ℕ, zero, suc, ◌+◌, ◌-◌, ◌<◌, ◌≤◌, List, [], ◌∷◌, length, drop, get_or, take, Bool, true, false, ◌||◌, Option, None, Some, refl, sym, ap, subst, ◌∙◌, add-one, add-zero, take_all, ⊎_elim, bit_and, length-drop, length-append}
use Rattle.std.specs.Prelude.{slice_index, MatchOption}
use Rattle.std.proofs.lemmas.Bool.{and_parts, and_from, cases_lt, false≢true}
use Rattle.std.proofs.lemmas.Nat.Bits.{bit_at-zero}
use Rattle.std.specs.Prelude.{◌==◌}
use Rattle.std.proofs.lemmas.List.{drop-drop, get_or-drop, get_or-take, length-take-le, take-append-drop}
use Rattle.std.proofs.lemmas.List.Elements.{All-from_get_or}
use Rattle.std.proofs.lemmas.List.Prefix.{at_reads}
use Rattle.memchr.specs.Find.{OccursAt, FindsNeedle}
use Rattle.mr_glob.specs.Glob.{star, is_bare, signs, set_at, parts_of, one_byte, matches, Part, glob_matches}
use Rattle.mr_glob.specs.GlobSteps.{whole, somewhere, parts_past}
use Rattle.mr_glob.specs.GlobWords.{IsPlain}
use Rattle.mr_glob.specs.declared.pattern.place.Segment.{Segment}
use Rattle.mr_glob.specs.GlobPlaces.{is_set, Marks, IsFrontOf, HasPlaces, Skips, Measures, BeginsPlain}
use Rattle.mr_glob.specs.declared.pattern.sign.Sign.{Sign}
use Rattle.mr_glob.proofs.GlobLemmas.{begins}
use Rattle.mr_glob.proofs.GlobLaws.{plain_first}
use Rattle.mr_glob.proofs.MaskLemmas.{is_set-and}

pub not_true : (b : Bool) → ¬ (b ≡ true) → b ≡ false
not_true true h = absurd (h refl)
not_true false h = refl

-- From no place before this one on does the pattern match the text.
abbrev pub NoneUpTo : List ℕ → List ℕ → ℕ → Type 0
NoneUpTo pattern text end = (k : ℕ) → k < end → k ≤ length text → ¬ (whole pattern (drop k text) ≡ true)

skipped : (pattern text : List ℕ) (place : ℕ) → place ≤ length text → NoneUpTo pattern text place → somewhere pattern text ≡ somewhere pattern (drop place text)
skipped pattern text zero within none = refl
skipped pattern [] (suc place) within none = absurd (omega arith)
skipped pattern (b ∷ text) (suc place) within none =
    ap (λ x. x || somewhere pattern text) (not_true (whole pattern (b ∷ text)) (none 0 (omega arith) (omega arith)))
    ∙ skipped pattern text place (omega arith) (λ k less here. none (suc k) (omega arith) (omega arith))

pub skips : (pattern text : List ℕ) (place : ℕ) → place ≤ length text → NoneUpTo pattern text place → Skips pattern text place
skips pattern text place within none = record { within = within; same = skipped pattern text place within none }

pub nowhere : (pattern text : List ℕ) → NoneUpTo pattern text (length text + 1) → somewhere pattern text ≡ false
nowhere pattern [] none = not_true (whole pattern []) (none 0 (omega arith) (omega arith))
nowhere pattern (b ∷ text) none =
    ap (λ x. x || somewhere pattern text) (not_true (whole pattern (b ∷ text)) (none 0 (omega arith) (omega arith)))
    ∙ nowhere pattern text (λ k less here. none (suc k) (omega arith) (omega arith))

-- What a text has that a part for one byte and others match.
record FirstTaken (set : ℕ → Bool) (ps : List Part) (text : List ℕ) : Type 0 where
  there : 1 ≤ length text
  takes : set (get_or text 0 0) ≡ true
  others : matches ps (drop 1 text) ≡ true

first_taken : (set : ℕ → Bool) (ps : List Part) (text : List ℕ) → matches (one_byte set ∷ ps) text ≡ true → FirstTaken set ps text
first_taken set ps [] h = let no_way : false ≡ true = h in cc
first_taken set ps (b ∷ text) h = let both = and_parts (set b) (matches ps text) h in record { there = omega arith; takes = both.0; others = both.1 }

-- what is left of the pattern is the part that this sign begins, and then what `rest` has
pub record BeginsPart (left : List ℕ) (sign : Sign) (behind rest : List ℕ) : Type 0 where
  pub signs_are : signs left ≡ sign ∷ signs behind
  pub no_star : is_bare star sign ≡ false
  pub parts_are : parts_of rest ≡ parts_past sign (signs behind)
  pub shorter : length rest < length left

part_taken : (left behind rest text : List ℕ) (s : Sign) → BeginsPart left s behind rest → whole left text ≡ true → FirstTaken (set_at s (signs behind)) (parts_of rest) text
part_taken left behind rest text s part h =
    let set = set_at s (signs behind) in
    let left_is = begins left behind s false part.signs_are part.no_star in
    subst (λ ps. FirstTaken set ps text) (sym part.parts_are)
    (first_taken set (parts_past s (signs behind)) text (sym (ap (λ ps. matches ps text) left_is) ∙ h))

drop_one : (k : ℕ) (text : List ℕ) → drop 1 (drop k text) ≡ drop (k + 1) text
drop_one k text = drop-drop 1 k text

-- the first parts of a pattern were counted
pub record Counted (pattern left : List ℕ) (len : ℕ) : Type 0 where
  pub others : (text : List ℕ) → whole pattern text ≡ true → (len ≤ length text) × (whole left (drop len text) ≡ true)
  pub room : len + length left ≤ length pattern

pub counted_more : (pattern left behind rest : List ℕ) (s : Sign) (len : ℕ) → Counted pattern left len → BeginsPart left s behind rest → Counted pattern rest (len + 1)
counted_more pattern left behind rest s len done part = record {
  others = λ text h.
      let before = done.others text h in
      let first = part_taken left behind rest (drop len text) s part before.1 in
      (omega (arith, first.there, length-drop len text), ap (whole rest) (sym (drop_one len text)) ∙ first.others);
  room = omega (arith, done.room, part.shorter);
}

nothing_left : (left text : List ℕ) → left ≡ [] → whole left text ≡ true → length text ≡ 0
nothing_left left [] e h = refl
nothing_left left (b ∷ text) e h = let no_way : false ≡ true = sym (ap (λ xs. whole xs (b ∷ text)) e) ∙ h in cc

pub counted_all : (pattern left text : List ℕ) (len : ℕ) → Counted pattern left len → left ≡ [] → whole pattern text ≡ true → length text ≡ len
counted_all pattern left text len done none h =
    let all = done.others text h in
    omega (arith, all.0, length-drop len text, nothing_left left (drop len text) none all.1)

-- Where the pattern matches from a place on, the place's bit is set, and what is left of the pattern matches what is left of the text.
abbrev pub Marked : (pattern text left later : List ℕ) (mask : ℕ) → Type 0
Marked pattern text left later mask =
    (k : ℕ) → k < 64 → k ≤ length text → whole pattern (drop k text) ≡ true → (is_set mask k ≡ true) × (whole left (drop k later) ≡ true)

pub marked_more : (pattern text left later bytes behind rest front : List ℕ) (s : Sign) (b mask takers : ℕ) → Marked pattern text left later mask
    → BeginsPart left s behind rest → later ≡ b ∷ bytes → IsFrontOf front later → Marks (set_at s (signs behind)) front takers
    → Marked pattern text rest bytes (bit_and mask takers)
marked_more pattern text left later bytes behind rest front s b mask takers before part first fronts marks k small here h =
    let set = set_at s (signs behind) in
    let at = before k small here h in
    let taken = part_taken left behind rest (drop k later) s part at.1 in
    let there : k < length later = omega (arith, taken.there, length-drop k later) in
    let byte : set (slice_index front k) ≡ true = ap set (fronts k small there) ∙ ap (λ n. set (slice_index later n)) (sym (add-zero k)) ∙ sym (ap set (get_or-drop k later 0 0)) ∙ taken.takes in (
      is_set-and mask takers k ∙ and_from (is_set mask k) (is_set takers k) at.0 (marks k small ∙ byte),
      sym (ap (whole rest) (drop_one k later ∙ ap (λ xs. drop (k + 1) xs) first ∙ drop_behind k b bytes)) ∙ taken.others,
    )
  where
    drop_behind : (k b : ℕ) (bytes : List ℕ) → drop (k + 1) (b ∷ bytes) ≡ drop k bytes
    drop_behind k b bytes = rw add-one refl

-- The first place of a plain segment is where its bytes come first.
pub plain_place : (pattern bytes text : List ℕ) (r : Option ℕ) → BeginsPlain pattern bytes → FindsNeedle text bytes 0 r
    → MatchOption r (somewhere pattern text ≡ false) (λ place. Skips pattern text place)
unfolding glob_matches
plain_place pattern bytes text r begins found = go r found
  where
    occurs : (k : ℕ) → k ≤ length text → whole pattern (drop k text) ≡ true → OccursAt text bytes k
    occurs k here h =
        let m = (plain_first bytes begins.rest (drop k text) begins.plain).0 (sym (ap (λ p. whole p (drop k text)) begins.is) ∙ h) in
        record {
          fits = omega (arith, length-drop k text, ap length m.is, length-append bytes m.rest);
          reads = λ j less. at_reads 0 text bytes k m.rest m.is j less;
        }

    go : (r : Option ℕ) → FindsNeedle text bytes 0 r → MatchOption r (somewhere pattern text ≡ false) (λ place. Skips pattern text place)
    go None none = nowhere pattern text (λ k less here h. none k (omega arith) less (occurs k here h))
    go (Some place) at =
        skips pattern text place (omega (arith, at.0.high)) (λ k less here h. at.0.before k (omega arith) less (occurs k here h))

-- A pattern begins with the bytes before a place, each of which stands for itself.
pub plain_before : (pattern : List ℕ) (place : ℕ) → place ≤ length pattern → ((k : ℕ) → k < place → IsPlain (slice_index pattern k))
    → BeginsPlain pattern (take place pattern)
plain_before pattern place within plain = record {
  plain = All-from_get_or IsPlain (take place pattern) 0 (λ k less.
      let before : k < place = omega (arith, length-take-le place pattern within) in
      subst IsPlain (sym (get_or-take place pattern k 0 before)) (plain k before));
  rest = drop place pattern;
  is = sym (take-append-drop place pattern);
}

pub none_before : (pattern text : List ℕ) (n end : ℕ) → n ≤ end → NoneUpTo pattern text end → NoneUpTo pattern text n
none_before pattern text n end le none k less here = none k (omega arith) here

pub none_set : (mask : ℕ) → mask ≡ 0 → (k : ℕ) → is_set mask k ≡ false
none_set mask e k = ap (λ m. is_set m k) e ∙ ap (λ b. b == 1) (bit_at-zero k)

-- The first bits of a mask are not set, which has the places of `text[from..]`.
pub none_more : (pattern text : List ℕ) (from mask n : ℕ) → NoneUpTo pattern text from → HasPlaces pattern (take (length text - from) (drop from text)) mask → n ≤ 64
    → ((k : ℕ) → k < n → is_set mask k ≡ false) → NoneUpTo pattern text (from + n)
none_more pattern text from mask n before places small clear k less here h =
    ⊎_elim (λ below. before k below here h)
    (λ above.
    let j : ℕ = k - from in
    let at : drop j (drop from text) ≡ drop k text = drop-drop j from text ∙ ap (λ i. drop i text) (let e : from + j ≡ k = omega arith in e) in
    let tail : take (length text - from) (drop from text) ≡ drop from text = take_all _ _ (omega (arith, length-drop from text)) in
    let set = places j (omega arith) (omega (arith, ap length tail, length-drop from text)) (ap (λ xs. whole pattern (drop j xs)) tail ∙ ap (whole pattern) at ∙ h) in
    false≢true (sym (clear j (omega arith)) ∙ set))
    (cases_lt k from)

-- A text that is shorter than the pattern's first parts are many.
pub too_short : (pattern text : List ℕ) (segment : Segment) → Measures pattern segment → length text < segment.len → somewhere pattern text ≡ false
too_short pattern text segment measures short =
    nowhere pattern text (λ k less here h. absurd (omega (arith, length-drop k text, measures.fits (drop k text) h)))

-- The last parts of a pattern can only take the end of the text.
pub at_end : (pattern text : List ℕ) (segment : Segment) → Measures pattern segment → segment.is_last ≡ true → segment.len ≤ length text
    → Skips pattern text (length text - segment.len)
at_end pattern text segment measures last fits =
    skips pattern text (length text - segment.len) (omega arith) (λ k less here h. absurd (omega (arith, length-drop k text, measures.exact last (drop k text) h)))
