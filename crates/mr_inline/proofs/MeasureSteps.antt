-- One step of the reader that finds the end of a line.
use Rattle.std.proofs.Common.{◌≡◌, ◌≢◌, ℕ, zero, suc, ◌+◌, ◌-◌, ◌<◌, ◌≤◌, List, [], ◌∷◌, ◌++◌, length, get_or, take, drop, map, Global, Result, Ok, Err, OnErr, refl, sym, ap, ◌∙◌, subst, arith, take-append-drop, length-take-le}
use Rattle.std.proofs.lemmas.List.{take_more, take_all, drop_more, take-append-le, length-append, length-map}
use Rattle.std.specs.Cow.{cow_slice_items, IsBorrowedSlice}
use Rattle.std.specs.List.{AllZip}
use Rattle.std.specs.declared.borrow.CowSlice.{CowSlice}
use Rattle.mr_inline.specs.Scans.{BeginsWithLine, HasNoQuote, BorrowsUnquoted}
use Rattle.mr_inline.specs.Bytes.{star}
use Rattle.mr_inline.specs.Language.{Continues, Fails}
use Rattle.mr_inline.specs.Line.{IsNext, Part, word_text, IsLineText, IsLineOf, HasLineFault}
use Rattle.mr_inline.specs.Parts.{EndsAt, IsReadAt}
use Rattle.mr_inline.specs.Places.{kind_of, turn_at, turn_of, need_of, word_from, starts_from, words_from}
use Rattle.mr_inline.specs.Resumed.{Agrees}
use Rattle.mr_inline.specs.declared.place.Place.{Place}
use Rattle.mr_inline.specs.declared.place.Place.TheVariants.{Between, Plain}
use Rattle.mr_inline.specs.declared.place.Turn.{Turn}
use Rattle.mr_inline.specs.declared.place.Turn.TheVariants.{Goes, Ends}
use Rattle.mr_inline.specs.declared.progress.LineProgress.{LineProgress}
use Rattle.mr_inline.proofs.Runs.{run, run-append}
use Rattle.mr_inline.proofs.LinesByRuns.{IsOpen, continues, Dead, fault_of, fails, line_of_run, starts_of_line}
use Rattle.mr_inline.proofs.LineTexts.{IsStartOf}

star_front : (n : ℕ) (input : List ℕ) → get_or input 0 0 ≢ star → IsNext star (take n input) → ⊥
star_front zero input h n = n
star_front (suc m) [] h n = n
star_front (suc m) (x ∷ input) h n = h n

open_at : (limit : ℕ) (input : List ℕ) (p : LineProgress) → get_or input 0 0 ≢ star → Agrees limit p input → IsOpen limit p.place (take p.at input)
open_at limit input p h a = record { leads = a.leads; room = omega (arith, length-take-le p.at input a.inside, a.room); no_array = star_front p.at input h }

pub turn_more : (input : List ℕ) (at : ℕ) (place : Place) → at < length input → turn_of (take at input) ≡ Goes place → turn_of (take (at + 1) input) ≡ turn_at place (kind_of (get_or input at 0))
turn_more input at place lt leads =
    ap turn_of (take_more input at 0 lt) ∙ run-append (Goes Between) (take at input) (get_or input at 0 ∷ []) ∙ ap (λ t. run t (get_or input at 0 ∷ [])) leads

pub ends_at : (limit : ℕ) (input : List ℕ) (p : LineProgress) → Agrees limit p input → p.at < length input → turn_at p.place (kind_of (get_or input p.at 0)) ≡ Ends → EndsAt limit input (p.at + 1)
ends_at limit input p a lt e = record { some = omega arith; inside = omega arith; size = omega (arith, a.room); ends = turn_more input p.at p.place lt a.leads ∙ e }

pub agrees_more : (limit : ℕ) (input : List ℕ) (p q : LineProgress) → Agrees limit p input → p.at < length input → turn_at p.place (kind_of (get_or input p.at 0)) ≡ Goes q.place → need_of q.place < limit - p.at → q.at ≡ p.at + 1 → Agrees limit q input
agrees_more limit input p q a lt e fits at_is = record { inside = omega (arith, at_is); leads = ap (λ (n : ℕ). turn_of (take n input)) at_is ∙ turn_more input p.at p.place lt a.leads ∙ e; room = omega (arith, a.room, fits, at_is) }

pub fails_at : (limit : ℕ) (input : List ℕ) (p : LineProgress) (turn : Turn) → get_or input 0 0 ≢ star → Agrees limit p input → p.at < length input → turn_at p.place (kind_of (get_or input p.at 0)) ≡ turn → Dead limit p.at turn → Fails (IsLineText limit) (HasLineFault limit (fault_of limit p.at)) input
fails_at limit input p turn h a lt e d =
    let front : List ℕ = take p.at input in
    let len : length front ≡ p.at = length-take-le p.at input a.inside in
    let is : input ≡ front ++ get_or input p.at 0 ∷ drop (p.at + 1) input = sym (take-append-drop p.at input) ∙ ap (λ (r : List ℕ). front ++ r) (drop_more input p.at 0 lt) in
    let dead : Dead limit (length front) (turn_at p.place (kind_of (get_or input p.at 0))) = subst (λ (n : ℕ). Dead limit n (turn_at p.place (kind_of (get_or input p.at 0)))) (sym len) (subst (Dead limit p.at) (sym e) d) in
    subst (λ (n : ℕ). Fails (IsLineText limit) (HasLineFault limit (fault_of limit n)) input) len (fails limit p.place input front (drop (p.at + 1) input) (get_or input p.at 0) (open_at limit input p h a) is dead)

pub continues_at : (limit : ℕ) (input : List ℕ) (p : LineProgress) → get_or input 0 0 ≢ star → Agrees limit p input → length input ≤ p.at → Continues (IsLineText limit) input
continues_at limit input p h a le = subst (Continues (IsLineText limit)) (take_all p.at input le) (continues limit p.place (take p.at input) (open_at limit input p h a))

pub agrees-append : (limit : ℕ) (input more : List ℕ) (p : LineProgress) → Agrees limit p input → Agrees limit p (input ++ more)
agrees-append limit input more p a = record {
  inside = omega (arith, length-append input more, a.inside);
  leads = ap turn_of (take-append-le p.at input more a.inside) ∙ a.leads;
  room = a.room;
}

-- what was measured is the line of the words that begin in it before its line feed
pub whole_line : (limit : ℕ) (input : List ℕ) (used n : ℕ) (words : List (List ℕ)) → get_or input 0 0 ≢ star → EndsAt limit input used → used ≡ n + 1 → words ≡ words_from Between (take n input) → IsLineOf limit (take used input) words
whole_line limit input used n words h e last is =
    let split : take used input ≡ take n input ++ get_or input n 0 ∷ [] = ap (λ (k : ℕ). take k input) last ∙ take_more input n 0 (omega (arith, e.inside)) in
    subst (IsLineOf limit (take used input)) (sym is) (line_of_run limit (take used input) (take n input) (get_or input n 0) e.ends (omega (arith, length-take-le used input e.inside, e.size)) (star_front used input h) split)

pub some_words : (v : List (CowSlice ℕ Global)) → v ≢ [] → 0 < length (map cow_slice_items v)
some_words [] h = absurd (h refl)
some_words (x ∷ v) h = omega arith

-- what was read, as words
pub words_read : (starts : List (List ℕ)) (words : List (CowSlice ℕ Global)) → AllZip IsReadAt starts words → map cow_slice_items words ≡ map (word_from Plain) starts
words_read [] [] h = refl
words_read [] (word ∷ words) h = absurd h
words_read (start ∷ starts) [] h = absurd h
words_read (start ∷ starts) (word ∷ words) h =
    ap (λ (w : List ℕ). w ∷ map cow_slice_items words) h.0.value ∙ ap (λ (ws : List (List ℕ)). word_from Plain start ∷ ws) (words_read starts words h.1)

own_words : (parts : List Part) (starts : List (List ℕ)) (words : List (CowSlice ℕ Global)) → AllZip IsStartOf parts starts → AllZip IsReadAt starts words → AllZip (λ part word. HasNoQuote (word_text part.word) → IsBorrowedSlice word) parts words
own_words [] [] [] h k = tt
own_words [] [] (word ∷ words) h k = absurd k
own_words [] (start ∷ starts) words h k = absurd h
own_words (part ∷ parts) [] words h k = absurd h
own_words (part ∷ parts) (start ∷ starts) [] h k = absurd k
own_words (part ∷ parts) (start ∷ starts) (word ∷ words) h k = (λ none. k.0.borrowed (h.0.bare none), own_words parts starts words h.1 k.1)

pub borrows_unquoted : (limit : ℕ) (input : List ℕ) (used n : ℕ) (words : List (CowSlice ℕ Global)) → EndsAt limit input used → used ≡ n + 1 → AllZip IsReadAt (starts_from Between (take n input)) words → BorrowsUnquoted limit (take used input) words
borrows_unquoted limit input used n words e last h = λ line.
    let split : take used input ≡ take n input ++ get_or input n 0 ∷ [] = ap (λ (k : ℕ). take k input) last ∙ take_more input n 0 (omega (arith, e.inside)) in
    own_words line.parts (starts_from Between (take n input)) words (starts_of_line limit (take used input) (take n input) (map cow_slice_items words) (get_or input n 0) line split) h

-- a word that begins in what was measured makes it a line with words
pub begins_with_line : (limit : ℕ) (input : List ℕ) (used n : ℕ) → get_or input 0 0 ≢ star → EndsAt limit input used → used ≡ n + 1 → 0 < length (starts_from Between (take n input)) → BeginsWithLine limit input
begins_with_line limit input used n h e last some = record {
  words = words_from Between (take n input);
  used = used;
  inside = e.inside;
  line = (omega (arith, some, length-map (starts_from Between (take n input)) (word_from Plain)), whole_line limit input used n (words_from Between (take n input)) h e last refl);
}

pub on_err : {T E : Type 0} (r : Result T E) (P : Type 0) → P → OnErr r P
on_err (Ok x) P h = tt
on_err (Err e) P h = h
