-- The text of an id is of no other.
use Rattle.std.proofs.Common.{ℕ, List, ◌≡◌, length, ap, sym, ◌∙◌, arith}
use Rattle.hex.specs.Hex.{decode_of, lower_digits}
use Rattle.hex.proofs.HexLemmas.{decode_of-encode_lower, length-encode_with}
use Rattle.mr_repl.specs.ReplId.{IsId, digits_of}

pub one_id : (i j : List ℕ) → IsId i → IsId j → digits_of i ≡ digits_of j → i ≡ j
one_id i j p q e = cc (sym (decode_of-encode_lower i p.bytes) ∙ ap decode_of e ∙ decode_of-encode_lower j q.bytes)

pub forty : (i : List ℕ) → IsId i → length (digits_of i) ≡ 40
forty i p = let n = length-encode_with lower_digits i in omega (arith, n, p.long)
