-- A few short words in array form are a request.
use Rattle.std.proofs.Common.{◌≢◌, ◌<◌, ◌≤◌, inl, ℕ, List, [], length, length-append, refl, sym, arith}
use Rattle.std.specs.List.{flat_map}
use Rattle.std.proofs.lemmas.List.{append-nil}
use Rattle.law_refinement.proofs.Lines.{AreShort, each_fits, short_bulks, short_number}
use Rattle.mr_resp.specs.Request.{IsRequest}
use Rattle.mr_resp.specs.Spelling.{array, bulk, number_line}
use Rattle.mr_resp.specs.Usual.{usual, usual-words, usual-text}
use Rattle.mr_node_spec.specs.Requests.{Asks}

module _ (ws : List (List ℕ)) (some : 0 < length ws) (few : length ws < 10) (each : AreShort ws) where
  -- such words have few bytes in all
  pub short_text : length (array ws) ≤ 2000
  short_text =
      let n = short_number (length ws) (omega (arith, few)) in
      let b = short_bulks ws each in
      let c = length-append (number_line (length ws)) (flat_map bulk ws) in
      omega (arith, few, n, b, c)

  is_request : IsRequest usual (array ws) ws
  is_request = inl (record {
    spelled = refl;
    some = some;
    count = omega (arith, few, usual-words);
    each = each_fits ws each;
    size = let a = short_text in omega (arith, a, usual-text);
  })

  pub asks_words : Asks (array ws) ws []
  asks_words = record { text = array ws; begins = sym (append-nil (array ws)); request = is_request }

-- .. and some
pub some_text : (ws : List (List ℕ)) → length (array ws) ≢ 0
some_text ws e = absurd (omega (arith, e))
