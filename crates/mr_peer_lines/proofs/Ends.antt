-- Where the first line of an input ends, by the place of the first byte of a line end.
use Rattle.std.proofs.Common.{◌≡◌, ◌≢◌, ℕ, zero, suc, ◌+◌, ◌-◌, ◌<◌, ◌≤◌, min, Bool, true, false, not, List, [], ◌∷◌, ◌++◌, length, take, drop, get_or, refl, sym, ap, ◌∙◌, subst, append_assoc, arith, lit<, lit≤, length-append, drop-cons, add-one}
use Rattle.std.specs.Prelude.{◌==◌}
use Rattle.std.specs.List.{AllPass, position_or_len}
use Rattle.std.proofs.lemmas.Bool.{eqb-true}
use Rattle.std.proofs.lemmas.List.{get_or-take, length-take, length-take-le, take-append-drop, drop_all}
use Rattle.std.proofs.lemmas.List.Elements.{All-cons, All-nil}
use Rattle.std.proofs.lemmas.List.Sums.{prefix_len-le-length, prefix_len_stops}
use Rattle.std.proofs.Math.Seq.{take-length, take-append-add}
use Rattle.mr_inline.specs.Language.{Continues, IsDoomed}
use Rattle.mr_resp.specs.Spelling.{line_end}
use Rattle.mr_resp.proofs.LineEnds.{bytes_cons, bytes_end, bytes_lf, drop_two}
use Rattle.mr_peer_lines.specs.Bytes.{ends_line, is_mark}
use Rattle.mr_peer_lines.specs.Lines.{IsMarked, IsLine, IsLineText, most}
use Rattle.mr_peer_lines.proofs.Plain.{front_passes, meet, within}

abbrev pub is_plain : ℕ → Bool
is_plain b = not (ends_line b)

-- a line end may stand here, and none before
pub record Stands (input : List ℕ) (end : ℕ) : Type 0 where
  pub inside : end ≤ length input
  pub plain : AllPass is_plain (take end input)
  pub stop : end < length input → end ≤ most → is_plain (get_or input end 0) ≡ false

take_take : (n k : ℕ) (xs : List ℕ) → n ≤ k → take n (take k xs) ≡ take n xs
take_take zero k xs h = refl
take_take (suc n) zero xs h = absurd (omega arith)
take_take (suc n) (suc k) [] h = refl
take_take (suc n) (suc k) (x ∷ xs) h = ap (λ (l : List ℕ). x ∷ l) (take_take n k xs (omega arith))

pub stands : (input : List ℕ) (end : ℕ) → end ≡ position_or_len ends_line (take (min (length input) (most + 1)) input) → Stands input end
stands input end is =
    let k = min (length input) (most + 1) in
    let window = take k input in
    let size = length-take k input in
    let few = prefix_len-le-length is_plain window in
    let below : end ≤ k = omega (arith, is, size, few) in
    let plain : AllPass is_plain (take end window) = rw is (front_passes is_plain window) in
    record {
      inside = omega (arith, below);
      plain = rw (take_take end k input below) at plain;
      stop = λ more short.
          let less : end < k = omega arith in
          let inside : position_or_len ends_line window < length window = omega (arith, is, size) in
          let stops : is_plain (get_or window (position_or_len ends_line window) 0) ≡ false = prefix_len_stops is_plain window 0 inside in
          let at_end : is_plain (get_or window end 0) ≡ false = rw is stops in
          sym (ap is_plain (get_or-take k input end 0 less)) ∙ at_end;
    }

-- the front of a line and its end, as bytes up to a carriage return
pub lined : (text front rest : List ℕ) → IsLine text front → text ++ rest ≡ front ++ 13 ∷ 10 ∷ rest
lined text front rest l = ap (λ (t : List ℕ). t ++ rest) l.ended ∙ append_assoc front line_end rest

-- no continuation begins with a line, where none can for any front
doomed_by : (input : List ℕ) → ((more text front rest : List ℕ) → IsLine text front → input ++ more ≡ front ++ 13 ∷ 10 ∷ rest → ⊥) → IsDoomed IsLineText input
doomed_by input cant = record { never = λ more text rest p e. cant more text p.0 rest p.1 (e ∙ lined text p.0 rest p.1) }

no_mark : (b : ℕ) (front x y : List ℕ) → IsMarked front → is_mark b ≡ false → b ∷ x ≡ front ++ y → ⊥
no_mark b [] x y m none e = absurd m
no_mark b (f ∷ front) x y m none e = let same : b ≡ f = cc in let mark : is_mark b ≡ true = ap is_mark same ∙ m in cc

-- the first byte begins no line
pub bad_mark : (input : List ℕ) → 0 < length input → is_mark (get_or input 0 0) ≡ false → IsDoomed IsLineText input
bad_mark [] some none = absurd (omega arith)
bad_mark (b ∷ input) some none = doomed_by (b ∷ input) (λ more text front rest l e. no_mark b front (input ++ more) (13 ∷ 10 ∷ rest) l.marked none e)

pub marked_front : (input : List ℕ) (end : ℕ) → is_mark (get_or input 0 0) ≡ true → 0 < end → end ≤ length input → IsMarked (take end input)
marked_front [] end mark some inside = absurd (omega arith)
marked_front (b ∷ input) zero mark some inside = absurd (omega arith)
marked_front (b ∷ input) (suc end) mark some inside = mark

halves : (input more : List ℕ) (end : ℕ) → input ++ more ≡ take end input ++ (drop end input ++ more)
halves input more end = ap (λ (l : List ℕ). l ++ more) (sym (take-append-drop end input)) ∙ append_assoc (take end input) (drop end input) more

-- the byte at the end, and what stands behind it
pub split_at : (input : List ℕ) (end : ℕ) → end < length input → input ≡ take end input ++ get_or input end 0 ∷ drop (end + 1) input
split_at input end less = sym (take-append-drop end input) ∙ ap (λ (l : List ℕ). take end input ++ l) (rw (add-one end) (drop-cons input end 0 less))

-- more bytes than may stand before a line end
pub too_long : (input : List ℕ) (end : ℕ) → Stands input end → most < end → IsDoomed IsLineText input
too_long input end s long = doomed_by input (λ more text front rest l e.
    let found = within is_plain (take end input) front (drop end input ++ more) (10 ∷ rest) 13 s.plain refl (sym (halves input more end) ∙ e) in
    let longer : front ≡ take end input ++ found.0 = found.1 in
    let inside = s.inside in let short = l.short in
    absurd (omega (arith, ap length longer, length-append (take end input) found.0, length-take-le end input s.inside)))

-- no byte of a line end is there
pub goes_on : (input : List ℕ) (end : ℕ) → Stands input end → is_mark (get_or input 0 0) ≡ true → 0 < length input → end ≡ length input → end ≤ most → Continues IsLineText input
goes_on input end s mark some all short =
    let whole : take end input ≡ input = rw all (take-length input) in
    record {
      more = line_end;
      some = lit< tt;
      are_bytes = bytes_end;
      whole = (input, record { ended = refl; marked = subst IsMarked whole (marked_front input end mark (omega arith) s.inside); plain = subst (AllPass is_plain) whole s.plain; short = omega arith });
    }

-- what stands at the end is no carriage return
pub lone_feed : (input : List ℕ) (end : ℕ) → Stands input end → end < length input → end ≤ most → get_or input end 0 ≢ 13 → IsDoomed IsLineText input
lone_feed input end s less short other = doomed_by input (λ more text front rest l e.
    let begins : take end input ++ get_or input end 0 ∷ (drop (end + 1) input ++ more) ≡ front ++ 13 ∷ 10 ∷ rest =
    sym (append_assoc (take end input) (get_or input end 0 ∷ drop (end + 1) input) more) ∙ ap (λ (t : List ℕ). t ++ more) (sym (split_at input end less)) ∙ e in
    let both = meet is_plain (take end input) front (drop (end + 1) input ++ more) (10 ∷ rest) (get_or input end 0) 13 s.plain l.plain (s.stop less short) refl begins in
    let tails : get_or input end 0 ∷ (drop (end + 1) input ++ more) ≡ 13 ∷ 10 ∷ rest = both.1 in
    other cc)

-- the first byte is a mark, so that the end isn't there
some_front : (input : List ℕ) (end : ℕ) → is_mark (get_or input 0 0) ≡ true → get_or input end 0 ≡ 13 → 0 < end
some_front input zero mark is = let none : is_mark (get_or input 0 0) ≡ false = ap is_mark is in absurd cc
some_front input (suc end) mark is = omega arith

-- half of the line end is there
pub half_end : (input : List ℕ) (end : ℕ) → Stands input end → is_mark (get_or input 0 0) ≡ true → end + 1 ≡ length input → end ≤ most → get_or input end 0 ≡ 13 → Continues IsLineText input
half_end input end s mark last short is =
    let nothing = drop_all (end + 1) input (omega arith) in
    let same : input ≡ take end input ++ 13 ∷ [] = split_at input end (omega arith) ∙ (λ i. take end input ++ is i ∷ nothing i) in
    record {
      more = 10 ∷ [];
      some = lit< tt;
      are_bytes = bytes_lf;
      whole = (
        take end input,
        record {
          ended = ap (λ (t : List ℕ). t ++ 10 ∷ []) same ∙ append_assoc (take end input) (13 ∷ []) (10 ∷ []);
          marked = marked_front input end mark (some_front input end mark is) s.inside;
          plain = s.plain;
          short = omega (arith, length-take-le end input s.inside);
        },
      );
    }

two_at : (input : List ℕ) (end : ℕ) → end + 1 < length input → input ≡ take end input ++ get_or input end 0 ∷ get_or input (end + 1) 0 ∷ drop (end + 2) input
two_at input end less =
    let next : end + 1 + 1 ≡ end + 2 = omega arith in
    sym (take-append-drop end input) ∙ ap (λ (l : List ℕ). take end input ++ l) (drop_two input end less) ∙ ap (λ (n : ℕ). take end input ++ get_or input end 0 ∷ get_or input (end + 1) 0 ∷ drop n input) next

-- a carriage return, and no line feed behind it
pub wrong_end : (input : List ℕ) (end : ℕ) → Stands input end → end + 1 < length input → end ≤ most → get_or input end 0 ≡ 13 → get_or input (end + 1) 0 ≢ 10 → IsDoomed IsLineText input
wrong_end input end s less short is other = doomed_by input (λ more text front rest l e.
    let next = get_or input (end + 1) 0 in let left = drop (end + 2) input in
    let begins : take end input ++ get_or input end 0 ∷ (next ∷ left ++ more) ≡ front ++ 13 ∷ 10 ∷ rest =
    sym (append_assoc (take end input) (get_or input end 0 ∷ next ∷ left) more) ∙ ap (λ (t : List ℕ). t ++ more) (sym (two_at input end less)) ∙ e in
    let both = meet is_plain (take end input) front (next ∷ left ++ more) (10 ∷ rest) (get_or input end 0) 13 s.plain l.plain (s.stop (omega arith) short) refl begins in
    let tails : get_or input end 0 ∷ (next ∷ left ++ more) ≡ 13 ∷ 10 ∷ rest = both.1 in
    other cc)

-- the line end is there
pub found_end : (input : List ℕ) (end : ℕ) → Stands input end → is_mark (get_or input 0 0) ≡ true → end + 1 < length input → end ≤ most → get_or input end 0 ≡ 13 → get_or input (end + 1) 0 ≡ 10 → IsLine (take (end + 2) input) (take end input)
found_end input end s mark less short is next = record {
  ended =
      let front = take end input in let left = drop (end + 2) input in
      let size = length-take-le end input s.inside in
      let same : input ≡ front ++ 13 ∷ 10 ∷ left = two_at input end less ∙ (λ i. front ++ is i ∷ next i ∷ left) in
      ap (λ (l : List ℕ). take (end + 2) l) same ∙ ap (λ (n : ℕ). take (n + 2) (front ++ 13 ∷ 10 ∷ left)) (sym size) ∙ take-append-add front (13 ∷ 10 ∷ left) 2;
  marked = marked_front input end mark (some_front input end mark is) s.inside;
  plain = s.plain;
  short = omega (arith, length-take-le end input s.inside);
}

-- nothing is there yet
pub nothing_yet : (input : List ℕ) → (length input == 0) ≡ true → Continues IsLineText input
nothing_yet [] e = record {
  more = 43 ∷ line_end;
  some = lit< tt;
  are_bytes = bytes_cons 43 line_end (lit< tt) bytes_end;
  whole = (43 ∷ [], record { ended = refl; marked = refl; plain = All-cons (λ b. is_plain b ≡ true) 43 [] refl (All-nil (λ b. is_plain b ≡ true)); short = lit≤ tt });
}
nothing_yet (b ∷ input) e = absurd (omega (arith, eqb-true (length (b ∷ input)) 0 e))

pub some_bytes : (input : List ℕ) → (length input == 0) ≡ false → 0 < length input
some_bytes [] e = cc
some_bytes (b ∷ input) e = omega arith

-- the mark of a line, and what stands behind it
pub front_parts : (input : List ℕ) (end : ℕ) → IsMarked (take end input) → take end input ≡ get_or input 0 0 ∷ take (end - 1) (drop 1 input)
front_parts [] zero m = absurd m
front_parts [] (suc end) m = absurd m
front_parts (b ∷ input) zero m = absurd m
front_parts (b ∷ input) (suc end) m = let less : suc end - 1 ≡ end = omega arith in ap (λ (n : ℕ). b ∷ take n input) (sym less)
