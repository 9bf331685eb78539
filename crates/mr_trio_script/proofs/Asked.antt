-- What the words of a line ask.
use Rattle.std.proofs.Common.{◌≡◌, ℕ, List, [], length, ap, refl, subst, arith}
use Rattle.std.proofs.lemmas.List.{length-map}
use Rattle.std.specs.Cow.{cow_slice_items}
use Rattle.mr_inline.specs.Line.{IsLine, IsBlank, IsLineOf}
use Rattle.mr_inline.proofs.LinesByRuns.{one_list}
use Rattle.mr_inline.specs.Limits.{line_limit}
use Rattle.mr_trio_script.specs.Asking.{AsksNobody, IsAsked, IsBehind}
use Rattle.mr_trio_script.specs.declared.asking.Asked.{Asked}
use Rattle.mr_trio_script.specs.declared.asking.Asked.TheVariants.{Nothing, Request, Bad}

one : (line : List ℕ) (ws vs : List (List ℕ)) → IsLineOf line_limit line ws → IsLineOf line_limit line vs → ws ≡ vs
one line ws vs a b = one_list line_limit line line [] [] ws vs a b refl

pub asked_by : (line : List ℕ) (words : List (List ℕ)) (it : Asked) → IsLine line_limit line words → IsBehind words it → IsAsked line it
asked_by line words Nothing is behind = absurd behind
asked_by line words (Request place ws) is behind = record { some = omega (arith, behind.0, length-map ws.items (λ w. cow_slice_items w)); line_is = subst (IsLine line_limit line) behind.1 is }
asked_by line words Bad is behind = record {
  not_blank = λ blank. omega (arith, is.0, ap length (one line words [] is.1 blank));
  nobody = λ place ws asks. behind place (record { behind = ws; some = asks.some; is = one line words _ is.1 asks.line_is.1 });
}

pub bad_asks : (line : List ℕ) → ¬ (IsBlank line_limit line) → ((words : List (List ℕ)) → ¬ (IsLine line_limit line words)) → AsksNobody line
bad_asks line blank none = record { not_blank = blank; nobody = λ place ws asks. none _ asks.line_is }
