-- Lines that are played one after another.
use Rattle.std.proofs.Common.{◌≡◌, ◌∙◌, refl, ℕ, ◌+◌, List, [], ◌∷◌, ◌++◌, Option, None, Some, length, take, sym, ap, subst, arith, append-nil, length-append, take_all}
use Rattle.std.specs.Prelude.{Result, Ok, Err, IfErr, IfSome, OnOk, OnErr}
use Rattle.std.specs.Io.KnownBytes.{Appends, Consumes, IsAtEnd}
use Rattle.std.proofs.KnownBytes.{Appends-nil, Appends-trans, Consumes-nil, Consumes-trans}
use Rattle.std.proofs.Math.Seq.{take-append-add}
use Rattle.std.proofs.lemmas.Grind.{flat_map-append}
use Rattle.mr_trio_script.specs.Asking.{Asks}
use Rattle.mr_trio_script.specs.Conduct.{Conduct}
use Rattle.mr_trio_script.specs.Inputs.{Took}
use Rattle.mr_file.specs.Outputs.{IsBegun}
use Rattle.mr_file.proofs.Written.{all_begun}
use Rattle.mr_trio_script.specs.Scripts.{Answer, AnswersBy, Played, ArePlayed, Fits, HasPlayed, IsAnswered, IsCut, IsLate, Plays, PlaysAll, PlaysLine, PlaysSome, PlaysToLate, answer_text, answers_of, lines_of}
use Rattle.mr_trio_script.specs.declared.fault.TrioFault.{TrioFault}
use Rattle.mr_trio_script.specs.declared.fault.TrioFault.TheVariants.{Stream, Stopped, Socket, Late}
use Rattle.mr_trio_script.specs.declared.place.Place.{Place}
use Rattle.mr_trio_script.specs.declared.taking.NextLine.TheVariants.{Line, End}

-- ---- bytes that are written
pub then_begun : (a b c : Option (List ℕ)) (front bytes : List ℕ) → Appends a b front → IsBegun b c bytes → IsBegun a c (front ++ bytes)
then_begun a b c front bytes told begun = (
  length front + begun.0,
  omega (arith, begun.1, length-append front bytes),
  subst (λ z. Appends a c z) (sym (take-append-add front bytes begun.0)) (Appends-trans a b c front (take begun.0 bytes) told begun.2),
)

pub silent : (a b c : Option (List ℕ)) (front : List ℕ) → Appends a b front → Appends b c [] → Appends a c front
silent a b c front told none = subst (λ z. Appends a c z) (append-nil front) (Appends-trans a b c front [] told none)

-- ---- what a line came to
module _ {N : Type 0} (k : Conduct N) (n m : N) where
  pub told_line : (line : List ℕ) (answer : Answer) (old new : Option (List ℕ)) (result : Result (Unit {0}) TrioFault) → Fits k n line answer m
      → OnOk result (Appends old new (answer_text answer)) → OnErr result (IsBegun old new (answer_text answer)) → IfErr result (λ f. f ≡ Stream) → PlaysLine k n line old new m result
  told_line line answer old new (Ok x) fits told begun is = record { answer = answer; fits = fits; told = told }
  told_line line answer old new (Err f) fits told begun is = subst (λ (e : TrioFault). PlaysLine k n line old new m (Err e)) (sym is) (record { answer = answer; fits = fits; begun = begun })

  pub failed_line : (line : List ℕ) (place : Place) (words : List (List ℕ)) (old : Option (List ℕ)) (f : TrioFault) → Asks line place words → AnswersBy k n place words m (Err f) → PlaysLine k n line old old m (Err f)
  failed_line line place words old Stream asks is = absurd is
  failed_line line place words old Stopped asks is = Appends-nil old
  failed_line line place words old Socket asks is = Appends-nil old
  failed_line line place words old Late asks is = record { delayed = record { place = place; words = words; asks = asks; delays = is }; silent = Appends-nil old }

-- ---- one line after another
pub none_played : {N : Type 0} (k : Conduct N) (n : N) (a b : Option (List ℕ)) → HasPlayed k n a a b b n
none_played k n a b = record { plays = []; played = refl; read = Consumes-nil a; told = Appends-nil b }

played_push : {N : Type 0} (k : Conduct N) (n m z : N) (ps : List Played) (p : Played) → ArePlayed k n ps m → ArePlayed k m (p ∷ []) z → ArePlayed k n (ps ++ p ∷ []) z
played_push k n m z [] p all one = subst (λ x. ArePlayed k x (p ∷ []) z) all one
played_push k n m z (q ∷ ps) p all one = (all.0, (all.1.0, all.1.1, played_push k all.1.0 m z ps p all.1.2 one))

lines_push : (ps : List Played) (p : Played) → lines_of (ps ++ p ∷ []) ≡ lines_of ps ++ p.line
lines_push ps p = flat_map-append (λ (q : Played). q.line) ps (p ∷ []) ∙ ap (λ t. lines_of ps ++ t) (append-nil p.line)

answers_push : (ps : List Played) (p : Played) → answers_of (ps ++ p ∷ []) ≡ answers_of ps ++ answer_text p.answer
answers_push ps p = flat_map-append (λ (q : Played). answer_text q.answer) ps (p ∷ []) ∙ ap (λ t. answers_of ps ++ t) (append-nil (answer_text p.answer))

module _ {N : Type 0} (k : Conduct N) (n m q : N) (a b c x y z : Option (List ℕ)) (line : List ℕ) (h : HasPlayed k n a b x y m) where
  read_on : Consumes b c line → Consumes a c (lines_of h.plays ++ line)
  read_on taken = Consumes-trans a b c (lines_of h.plays) line h.read taken

  pub played_more : Took Line line b c → IsAnswered k m line y z q → HasPlayed k n a c x z q
  played_more taken said =
      let p : Played = record { line = line; answer = said.answer } in
      record {
        plays = h.plays ++ p ∷ [];
        played = played_push k n m q h.plays p h.played (taken.is_next, (q, said.fits, refl));
        read = subst (λ (t : List ℕ). Consumes a c t) (sym (lines_push h.plays p)) (read_on taken.consumed);
        told = subst (λ (t : List ℕ). Appends x z t) (sym (answers_push h.plays p)) (Appends-trans x y z (answers_of h.plays) (answer_text said.answer) h.told said.told);
      }

  cut_off : Took Line line b c → IsCut k m line y z q → PlaysSome k n a c x z
  cut_off taken said =
      let p : Played = record { line = line; answer = said.answer } in
      record {
        plays = h.plays ++ p ∷ [];
        between = q;
        played = played_push k n m q h.plays p h.played (taken.is_next, (q, said.fits, refl));
        more = [];
        read = subst (λ (t : List ℕ). Consumes a c t) (sym (append-nil _)) (subst (λ (t : List ℕ). Consumes a c t) (sym (lines_push h.plays p)) (read_on taken.consumed));
        begun = subst (λ (t : List ℕ). IsBegun x z t) (sym (answers_push h.plays p)) (then_begun x y z (answers_of h.plays) (answer_text said.answer) h.told said.begun);
      }

  too_late : Took Line line b c → IsLate k m line y z q → PlaysToLate k n a c x z q
  too_late taken said = record {
    plays = h.plays;
    between = m;
    played = h.played;
    line = line;
    delayed = said.delayed;
    read = read_on taken.consumed;
    told = silent x y z (answers_of h.plays) h.told said.silent;
  }

  pub stopped : Consumes b c line → Appends y z [] → PlaysSome k n a c x z
  stopped taken none = record {
    plays = h.plays;
    between = m;
    played = h.played;
    more = line;
    read = read_on taken;
    begun = all_begun x z (answers_of h.plays) (silent x y z (answers_of h.plays) h.told none);
  }

  pub line_failed : (f : TrioFault) → Took Line line b c → PlaysLine k m line y z q (Err f) → Plays k n a c x z q (Err f)
  line_failed Stream taken said = cut_off taken said
  line_failed Stopped taken said = stopped taken.consumed said
  line_failed Socket taken said = stopped taken.consumed said
  line_failed Late taken said = too_late taken said

at_end_of : (a b c : Option (List ℕ)) (bytes : List ℕ) → Consumes a b bytes → IfSome b (λ _. IsAtEnd c) → IfSome a (λ _. IsAtEnd c)
at_end_of None b c bytes read is = tt
at_end_of (Some xs) None c bytes read is = absurd read
at_end_of (Some xs) (Some ys) c bytes read is = is

pub all_played : {N : Type 0} (k : Conduct N) (n m : N) (a b c x y : Option (List ℕ)) (bytes : List ℕ) → HasPlayed k n a b x y m → Took End bytes b c → PlaysAll k n a c x y m
all_played k n m a b c x y bytes h taken = record {
  plays = h.plays;
  played = h.played;
  rest = bytes;
  read = Consumes-trans a b c (lines_of h.plays) bytes h.read taken.consumed;
  is_rest = record { none = taken.is_next.none; at_end = at_end_of a b c (lines_of h.plays) h.read taken.is_next.at_end };
  told = h.told;
}
