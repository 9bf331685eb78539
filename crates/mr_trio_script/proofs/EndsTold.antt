-- What is told at the end of a script.
use Rattle.std.proofs.Common.{◌≡◌, ◌≢◌, ◌∙◌, ℕ, suc, List, [], ◌∷◌, ◌++◌, Option, take, sym, ap, refl, subst, append-nil, append_assoc}
use Rattle.std.specs.Prelude.{Result, Ok, Err}
use Rattle.std.specs.Io.KnownBytes.{Appends}
use Rattle.std.proofs.KnownBytes.{Appends-nil, Appends-trans}
use Rattle.mr_file.proofs.Written.{all_begun}
use Rattle.mr_trio_script.proofs.LinesPlayed.{silent, then_begun}
use Rattle.mr_trio_script.specs.Conduct.{Conduct}
use Rattle.mr_file.specs.Outputs.{IsBegun}
use Rattle.mr_trio_script.specs.Scripts.{AreEndLines, CutsEnds, EndsLate, EndsLine, EndsScript, Plays, PlaysAll, PlaysScript, PlaysToLate, StopsShort, TellsEnd, all_places, amid, at_end, at_late}
use Rattle.mr_trio_script.specs.Telling.{end_line, late}
use Rattle.mr_trio_script.specs.declared.ending.Ending.{Ending}
use Rattle.mr_trio_script.specs.declared.fault.TrioFault.{TrioFault}
use Rattle.mr_trio_script.specs.declared.fault.TrioFault.TheVariants.{Stream, Stopped, Socket, Late}
use Rattle.mr_trio_script.specs.declared.place.Place.{Place}
use Rattle.mr_trio_script.specs.declared.place.Place.TheVariants.{First, Second, Third}

module _ {N : Type 0} (k : Conduct N) (m : N) where
  no_lines : AreEndLines k m [] []
  no_lines = refl

  one_line : (place : Place) (e : Ending) → k.ends_as m place e → AreEndLines k m (place ∷ []) (end_line place e)
  one_line place e is = (e, ([], (is, refl, sym (append-nil (end_line place e)))))

  -- one line more
  pushed : (ps : List Place) (place : Place) (e : Ending) (text : List ℕ) → AreEndLines k m ps text → k.ends_as m place e → AreEndLines k m (ps ++ place ∷ []) (text ++ end_line place e)
  pushed [] place e text lines is = subst (λ t. AreEndLines k m (place ∷ []) (t ++ end_line place e)) (sym lines) (one_line place e is)
  pushed (p ∷ ps) place e text lines is =
      let rest = lines.1.0 in (
        lines.0,
        (
          rest ++ end_line place e,
          (
            lines.1.1.0,
            pushed ps place e rest lines.1.1.1 is,
            ap (λ t. t ++ end_line place e) lines.1.1.2 ∙ append_assoc (end_line p lines.0) rest (end_line place e),
          ),
        ),
      )

  -- After the lines on the first of the nodes, the line on one more failed.
  as_cut : (count : ℕ) (place : Place) (x y z : Option (List ℕ)) (f : TrioFault) (text : List ℕ) → take (suc count) all_places ≡ take count all_places ++ place ∷ [] → AreEndLines k m (take count all_places) text
      → Appends x y text → EndsLine k m place y z (Err f) → EndsScript k m x z (Err f)
  as_cut count place x y z Stream text next lines told h = record {
    count = suc count;
    text = text ++ end_line place h.ending;
    lines = subst (λ ps. AreEndLines k m ps (text ++ end_line place h.ending)) (sym next) (pushed (take count all_places) place h.ending text lines h.is);
    begun = then_begun x y z text (end_line place h.ending) told h.begun;
  }
  as_cut count place x y z Stopped text next lines told h = record { count = count; text = text; lines = lines; begun = all_begun x z text (silent x y z text told h) }
  as_cut count place x y z Socket text next lines told h = record { count = count; text = text; lines = lines; begun = all_begun x z text (silent x y z text told h) }
  as_cut count place x y z Late text next lines told h = absurd h

  pub first_cut : (x y : Option (List ℕ)) (f : TrioFault) → EndsLine k m First x y (Err f) → EndsScript k m x y (Err f)
  first_cut x y f h = as_cut 0 First x x y f [] refl no_lines (Appends-nil x) h

  pub second_cut : (x y z : Option (List ℕ)) (f : TrioFault) → TellsEnd k m First x y → EndsLine k m Second y z (Err f) → EndsScript k m x z (Err f)
  second_cut x y z f a h = as_cut 1 Second x y z f (end_line First a.ending) refl (one_line First a.ending a.is) a.told h

  pub all_ends : (x y z w : Option (List ℕ)) (result : Result (Unit {0}) TrioFault) → TellsEnd k m First x y → TellsEnd k m Second y z → EndsLine k m Third z w result → EndsScript k m x w result
  all_ends x y z w result a b h =
      let two : AreEndLines k m (First ∷ Second ∷ []) (end_line First a.ending ++ end_line Second b.ending) = pushed (First ∷ []) Second b.ending (end_line First a.ending) (one_line First a.ending a.is) b.is in
      let told : Appends x z (end_line First a.ending ++ end_line Second b.ending) = Appends-trans x y z (end_line First a.ending) (end_line Second b.ending) a.told b.told in
      third_told x z w result (end_line First a.ending ++ end_line Second b.ending) two told h
    where
      third_told : (x z w : Option (List ℕ)) (result : Result (Unit {0}) TrioFault) (text : List ℕ) → AreEndLines k m (First ∷ Second ∷ []) text → Appends x z text → EndsLine k m Third z w result → EndsScript k m x w result
      third_told x z w (Ok u) text two told h = record {
        text = text ++ end_line Third h.ending;
        lines = pushed (First ∷ Second ∷ []) Third h.ending text two h.is;
        told = Appends-trans x z w text (end_line Third h.ending) told h.told;
      }
      third_told x z w (Err f) text two told h = as_cut 2 Third x z w f text refl two told h

-- ---- behind all lines
module _ {N : Type 0} (k : Conduct N) (n m : N) where
  pub script_ends : (a b x y z : Option (List ℕ)) (result : Result (Unit {0}) TrioFault) → PlaysAll k n a b x y m → EndsScript k m y z result → PlaysScript k n a b x z m result
  script_ends a b x y z (Ok u) all ends = record {
    plays = all.plays;
    played = all.played;
    rest = all.rest;
    read = all.read;
    is_rest = all.is_rest;
    text = ends.text;
    lines = ends.lines;
    told = Appends-trans x y z _ ends.text all.told ends.told;
  }
  script_ends a b x y z (Err Stream) all ends = at_end y all ends
  script_ends a b x y z (Err Stopped) all ends = at_end y all ends
  script_ends a b x y z (Err Socket) all ends = at_end y all ends
  script_ends a b x y z (Err Late) all ends = absurd ends

  -- ---- where a line is late
  pub late_told : (a b x y z : Option (List ℕ)) → PlaysToLate k n a b x y m → Appends y z late → EndsLate k n a b x z m
  late_told a b x y z played told = record {
    plays = played.plays;
    between = played.between;
    played = played.played;
    line = played.line;
    delayed = played.delayed;
    read = played.read;
    told = Appends-trans x y z _ late played.told told;
  }

  pub late_cut : (a b x y z : Option (List ℕ)) (f : TrioFault) → PlaysToLate k n a b x y m → IsBegun y z late → f ≡ Stream → PlaysScript k n a b x z m (Err f)
  late_cut a b x y z f played begun is = subst (λ (e : TrioFault). PlaysScript k n a b x z m (Err e)) (sym is) (at_late y played begun)

  -- ---- where something failed
  pub script_failed : (a b x y : Option (List ℕ)) (f : TrioFault) → f ≢ Late → Plays k n a b x y m (Err f) → PlaysScript k n a b x y m (Err f)
  script_failed a b x y Stream other played = amid played
  script_failed a b x y Stopped other played = amid played
  script_failed a b x y Socket other played = amid played
  script_failed a b x y Late other played = absurd (other refl)
