-- Bytes outside quotes that don't end the line.
use Rattle.std.proofs.Common.{◌≡◌, ◌≢◌, ℕ, ◌+◌, ◌-◌, ◌<◌, ◌≤◌, ◌⊎◌, inl, inr, List, [], ◌∷◌, ◌++◌, length, get_or, take, drop, All, refl, sym, ap, ◌∙◌, subst, arith, take-add}
use Rattle.std.specs.List.{slice_range}
use Rattle.std.proofs.lemmas.List.{take_more, take-take, get_or-drop, get_or-take, length-drop, length-take-le}
use Rattle.std.proofs.lemmas.List.Elements.{All-head, All-tail, All-take, All-get_or}
use Rattle.mr_inline.specs.Parts.{IsUnmarked}
use Rattle.mr_inline.specs.Places.{kind_of, turn_at, turn_of, need_of}
use Rattle.mr_inline.specs.Resumed.{Agrees}
use Rattle.mr_inline.specs.declared.place.Kind.{Kind}
use Rattle.mr_inline.specs.declared.place.Kind.TheVariants.{LineFeed, Separator, DoubleQuote, SingleQuote, Backslash, Other}
use Rattle.mr_inline.specs.declared.place.Place.{Place}
use Rattle.mr_inline.specs.declared.place.Place.TheVariants.{Between, Plain, Double, DoubleEscape, Single, SingleEscape, Closed}
use Rattle.mr_inline.specs.declared.place.Turn.{Turn}
use Rattle.mr_inline.specs.declared.place.Turn.TheVariants.{Goes}
use Rattle.mr_inline.specs.declared.progress.LineProgress.{LineProgress}
use Rattle.mr_inline.proofs.ByteKinds.{IsOfKind, of_kind}
use Rattle.mr_inline.proofs.Runs.{run, run-append}

abbrev pub IsUnquoted : Place → Type 0
IsUnquoted Between = Unit {0}
IsUnquoted Plain = Unit {0}
IsUnquoted Double = ⊥
IsUnquoted DoubleEscape = ⊥
IsUnquoted Single = ⊥
IsUnquoted SingleEscape = ⊥
IsUnquoted Closed = ⊥

-- where a byte of this kind leads outside quotes
abbrev pub unquoted_place : Kind → Place
unquoted_place Separator = Between
unquoted_place kind = Plain

record GoesUnquoted (turn : Turn) : Type 0 where
  place : Place
  unquoted : IsUnquoted place
  leads : turn ≡ Goes place

pub unquoted_turn : (place : Place) (kind : Kind) (b : ℕ) → IsUnquoted place → IsOfKind kind b → IsUnmarked b → turn_at place kind ≡ Goes (unquoted_place kind)
unquoted_turn Between LineFeed b u f h = absurd (h.no_line_feed f)
unquoted_turn Between DoubleQuote b u f h = absurd (h.no_double f)
unquoted_turn Between SingleQuote b u f h = absurd (h.no_single f)
unquoted_turn Between Separator b u f h = refl
unquoted_turn Between Backslash b u f h = refl
unquoted_turn Between Other b u f h = refl
unquoted_turn Plain LineFeed b u f h = absurd (h.no_line_feed f)
unquoted_turn Plain DoubleQuote b u f h = absurd (h.no_double f)
unquoted_turn Plain SingleQuote b u f h = absurd (h.no_single f)
unquoted_turn Plain Separator b u f h = refl
unquoted_turn Plain Backslash b u f h = refl
unquoted_turn Plain Other b u f h = refl
unquoted_turn Double kind b u f h = absurd u
unquoted_turn DoubleEscape kind b u f h = absurd u
unquoted_turn Single kind b u f h = absurd u
unquoted_turn SingleEscape kind b u f h = absurd u
unquoted_turn Closed kind b u f h = absurd u

pub place_unquoted : (kind : Kind) → IsUnquoted (unquoted_place kind)
place_unquoted LineFeed = tt
place_unquoted Separator = tt
place_unquoted DoubleQuote = tt
place_unquoted SingleQuote = tt
place_unquoted Backslash = tt
place_unquoted Other = tt

unquoted_run : (xs : List ℕ) (place : Place) → IsUnquoted place → All IsUnmarked xs → GoesUnquoted (run (Goes place) xs)
unquoted_run [] place u h = record { place = place; unquoted = u; leads = refl }
unquoted_run (b ∷ xs) place u h =
    let first = unquoted_turn place (kind_of b) b u (of_kind b) (All-head IsUnmarked b xs h) in
    let rest = unquoted_run xs (unquoted_place (kind_of b)) (place_unquoted (kind_of b)) (All-tail IsUnmarked b xs h) in
    record { place = rest.place; unquoted = rest.unquoted; leads = ap (λ t. run t xs) first ∙ rest.leads }

no_need : (kind : Kind) → need_of (unquoted_place kind) ≡ 0
no_need LineFeed = refl
no_need Separator = refl
no_need DoubleQuote = refl
no_need SingleQuote = refl
no_need Backslash = refl
no_need Other = refl

skips : (limit : ℕ) (input : List ℕ) (p q : LineProgress) (n : ℕ) → IsUnquoted p.place → Agrees limit p input → q.at ≡ p.at + (n + 1) → q.at ≤ length input → q.at ≤ limit → All IsUnmarked (slice_range input p.at q.at) → q.place ≡ unquoted_place (kind_of (get_or input (q.at - 1) 0)) → Agrees limit q input
skips limit input p q n u a at_is inside room h place_is =
    let rest : List ℕ = drop p.at input in
    let b : ℕ = get_or rest n 0 in
    let count : q.at - p.at ≡ n + 1 = omega arith in
    let all : All IsUnmarked (take (n + 1) rest) = subst (λ (k : ℕ). All IsUnmarked (take k rest)) count h in
    let lt : n < length rest = omega (arith, length-drop p.at input) in
    let cut : take (n + 1) rest ≡ take n rest ++ b ∷ [] = take_more rest n 0 lt in
    let last : b ≡ get_or input (q.at - 1) 0 = get_or-drop p.at input n 0 ∙ ap (λ (k : ℕ). get_or input k 0) (let e : p.at + n ≡ q.at - 1 = omega arith in e) in
    let front : All IsUnmarked (take n rest) = subst (All IsUnmarked) (take-take n (n + 1) rest (omega arith)) (All-take IsUnmarked n (take (n + 1) rest) all) in
    let is : IsUnmarked b = subst IsUnmarked (get_or-take (n + 1) rest n 0 (omega arith)) (All-get_or IsUnmarked (take (n + 1) rest) n 0 (omega (arith, length-take-le (n + 1) rest (omega arith))) all) in
    let before = unquoted_run (take n rest) p.place u front in
    let one = unquoted_turn before.place (kind_of b) b before.unquoted (of_kind b) is in
    let text : take q.at input ≡ take p.at input ++ (take n rest ++ b ∷ []) = ap (λ (k : ℕ). take k input) at_is ∙ take-add p.at (n + 1) input ∙ ap (λ (x : List ℕ). take p.at input ++ x) cut in
    record {
      inside = inside;
      leads = ap turn_of text ∙ run-append (Goes Between) (take p.at input) (take n rest ++ b ∷ []) ∙ ap (λ t. run t (take n rest ++ b ∷ [])) a.leads ∙ run-append (Goes p.place) (take n rest) (b ∷ []) ∙ ap (λ t. run t (b ∷ [])) before.leads ∙ one ∙ ap Goes (ap (λ (x : ℕ). unquoted_place (kind_of x)) last ∙ sym place_is);
      room = subst (λ (x : Place). q.at + need_of x ≤ limit) (sym place_is) (omega (arith, no_need (kind_of (get_or input (q.at - 1) 0)), room));
    }

-- what was skipped outside quotes
pub skips_to : (limit : ℕ) (input : List ℕ) (p q : LineProgress) → IsUnquoted p.place → Agrees limit p input → p.at ≤ q.at → q.at ≢ p.at → q.at ≤ length input → q.at ≤ limit → All IsUnmarked (slice_range input p.at q.at) → q.place ≡ unquoted_place (kind_of (get_or input (q.at - 1) 0)) → Agrees limit q input
skips_to limit input p q u a le ne inside room h place_is = skips limit input p q (q.at - p.at - 1) u a (omega arith) inside room h place_is

pub is_unquoted : (place : Place) → (place ≡ Between) ⊎ (place ≡ Plain) → IsUnquoted place
is_unquoted place (inl e) = subst IsUnquoted (sym e) tt
is_unquoted place (inr e) = subst IsUnquoted (sym e) tt

pub plain_place : (kind : Kind) → kind ≢ Separator → Plain ≡ unquoted_place kind
plain_place LineFeed h = refl
plain_place Separator h = absurd (h refl)
plain_place DoubleQuote h = refl
plain_place SingleQuote h = refl
plain_place Backslash h = refl
plain_place Other h = refl
