-- How a pattern is followed along a text, and why no `*` before the last that was come to is gone back to.
use Rattle.std.proofs.Common.{arith, ◌≡◌, ℕ, ◌<◌, ◌≤◌, List, [], ◌∷◌, length, Bool, true, false, ◌||◌, ◌&&◌, cond, refl, sym, ap, ◌∙◌}
use Rattle.std.proofs.lemmas.Bool.{and_parts, or_right}
use Rattle.mr_glob.specs.Glob.{star, is_bare, signs, parts, set_at, parts_of, some_rest, any_bytes, one_byte, matches, Part}
use Rattle.mr_glob.specs.GlobSteps.{whole, somewhere, parts_past, Passes, ComesTo}
use Rattle.mr_glob.specs.declared.pattern.sign.Sign.{Sign}

same_bool : (a b : Bool) → (a ≡ true → b ≡ true) → (b ≡ true → a ≡ true) → a ≡ b
same_bool true b f g = sym (f refl)
same_bool false true f g = g refl
same_bool false false f g = refl

or_cases : (a b c : Bool) → (a || b) ≡ true → (a ≡ true → c ≡ true) → (b ≡ true → c ≡ true) → c ≡ true
or_cases true b c h f g = f refl
or_cases false b c h f g = g h

-- the text itself is a rest of it
pub here : (test : List ℕ → Bool) (text : List ℕ) → test text ≡ true → some_rest test text ≡ true
here test [] h = h
here test (b ∷ text) h = ap (λ x. x || some_rest test text) h

-- a rest of a rest is a rest
twice : (test : List ℕ → Bool) (text : List ℕ) → some_rest (some_rest test) text ≡ true → some_rest test text ≡ true
twice test [] h = h
twice test (b ∷ text) h = or_cases (some_rest test (b ∷ text)) (some_rest (some_rest test) text) (some_rest test (b ∷ text)) h (λ e. e) (λ e. or_right (test (b ∷ text)) (some_rest test text) (twice test text e))

-- Where a part for one byte comes first, a byte less of the text is enough for the parts behind it.
byte_less : (set : ℕ → Bool) (ps : List Part) (b : ℕ) (text : List ℕ) → some_rest (matches (one_byte set ∷ ps)) (b ∷ text) ≡ true → some_rest (matches ps) text ≡ true
byte_less set ps b [] h = or_cases (set b && matches ps []) false (matches ps []) h (λ e. (and_parts (set b) _ e).1) (λ e. let no : false ≡ true = e in cc)
byte_less set ps b (c ∷ text) h =
    or_cases (set b && matches ps (c ∷ text)) (some_rest (matches (one_byte set ∷ ps)) (c ∷ text)) (some_rest (matches ps) (c ∷ text)) h
    (λ e. here (matches ps) (c ∷ text) (and_parts (set b) _ e).1)
    (λ e. or_right (matches ps (c ∷ text)) (some_rest (matches ps) text) (byte_less set ps c text e))

-- What is left of the pattern and of the text decides what all of them do.
pub record Followed (pattern text left later : List ℕ) : Type 0 where
  pub matches_whole : whole pattern text ≡ whole left later
  pub matches_rest : somewhere pattern text ≡ true → somewhere left later ≡ true
  pub shorter : length left ≤ length pattern
  pub no_longer : length later ≤ length text

-- the parts of a pattern by its first sign
pub begins : (left behind : List ℕ) (s : Sign) (star_here : Bool) → signs left ≡ s ∷ signs behind → is_bare star s ≡ star_here
    → parts_of left ≡ cond star_here (any_bytes ∷ parts_of behind) (one_byte (set_at s (signs behind)) ∷ parts_past s (signs behind))
begins left behind s star_here e h = ap parts e ∙ ap (λ x. cond x (any_bytes ∷ parts_of behind) (one_byte (set_at s (signs behind)) ∷ parts_past s (signs behind))) h

-- a part for one byte takes the byte
pub goes_on : (pattern text left later behind rest bytes : List ℕ) (s : Sign) (b : ℕ) → Followed pattern text left later
    → signs left ≡ s ∷ signs behind → length behind < length left → is_bare star s ≡ false → later ≡ b ∷ bytes → Passes s behind b rest
    → Followed pattern text rest bytes
goes_on pattern text left later behind rest bytes s b f e less plain first pass =
    let set = set_at s (signs behind) in
    let ps = parts_past s (signs behind) in
    let left_is : parts_of left ≡ one_byte set ∷ ps = begins left behind s false e plain in
    let now : whole left later ≡ whole rest bytes =
    ap (λ xs. matches xs later) left_is ∙ ap (matches (one_byte set ∷ ps)) first ∙ ap (λ x. x && matches ps bytes) pass.takes ∙ ap (λ xs. matches xs bytes) (sym pass.parts_are) in
    record {
      matches_whole = f.matches_whole ∙ now;
      matches_rest = λ h.
          let some : some_rest (matches (one_byte set ∷ ps)) (b ∷ bytes) ≡ true =
          sym (ap (λ xs. some_rest (matches xs) later) left_is ∙ ap (some_rest (matches (one_byte set ∷ ps))) first) ∙ f.matches_rest h in
          ap (λ xs. some_rest (matches xs) bytes) pass.parts_are ∙ byte_less set ps b bytes some;
      shorter = omega (arith, f.shorter, pass.no_longer);
      no_longer = omega (arith, f.no_longer, ap length first);
    }

-- a `*` comes
pub comes : (pattern text left later behind : List ℕ) (s : Sign) → Followed pattern text left later
    → signs left ≡ s ∷ signs behind → length behind < length left → is_bare star s ≡ true → ComesTo pattern text behind later
comes pattern text left later behind s f e less h =
    let left_is : parts_of left ≡ any_bytes ∷ parts_of behind = begins left behind s true e h in
    let all : whole pattern text ≡ somewhere behind later = f.matches_whole ∙ ap (λ xs. matches xs later) left_is in
    record {
      matches_whole = all;
      matches_rest = same_bool (somewhere pattern text) (somewhere behind later)
          (λ t. twice (matches (parts_of behind)) later (sym (ap (λ xs. some_rest (matches xs) later) left_is) ∙ f.matches_rest t))
          (λ t. here (matches (parts_of pattern)) text (all ∙ t));
      shorter = omega (arith, f.shorter);
      no_longer = f.no_longer;
    }

-- the last rest of a text is the empty one
pub last_rest : (test : List ℕ → Bool) (text : List ℕ) → test [] ≡ true → some_rest test text ≡ true
last_rest test [] h = h
last_rest test (b ∷ text) h = or_right (test (b ∷ text)) (some_rest test text) (last_rest test text h)

-- behind a `*`, nothing matches some rest of each text
pub all_rests : (pattern text : List ℕ) → length pattern ≡ 0 → somewhere pattern text ≡ true
all_rests [] text none = last_rest (matches []) text refl
all_rests (b ∷ pattern) text none = absurd (omega arith)
