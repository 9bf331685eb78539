use Rattle.std.proofs.Common.{◌≡◌, ℕ, Bool, true, List, [], ◌∷◌, ◌&&◌, refl}
use Rattle.std.specs.Str.{IsAscii}
use Rattle.std.proofs.lemmas.Bool.{and_parts, ltb-true}
use Rattle.std.proofs.lemmas.Str.{IsUtf8-from_ascii}
use Rattle.std.proofs.lemmas.Str.Ascii.{IsAscii-cons, IsAscii-nil}
use lib.Dec.{ltb}
use Rattle.hex.specs.Hex.{lower_digits, encode_lower}
use Rattle.hex.proofs.HexLemmas.{IsAscii-encode_with}
use Rattle.mr_repl.proofs.replication_id.ReplIdDisplay.fmt.Goals as goal

abbrev all_small : List ℕ → Bool
all_small [] = true
all_small (x ∷ xs) = ltb x 128 && all_small xs

ascii_by : (xs : List ℕ) → all_small xs ≡ true → IsAscii xs
ascii_by [] e = IsAscii-nil
ascii_by (x ∷ xs) e = let p = and_parts (ltb x 128) (all_small xs) e in IsAscii-cons x xs (ltb-true x 128 p.0) (ascii_by xs p.1)

pub unreachable-requires : goal.unreachable-requires
unreachable-requires g c =
    c.in-Err.ensures.cases.0 (rw c.digits-digits.ensures (IsUtf8-from_ascii (encode_lower c.args.self.now) (IsAscii-encode_with lower_digits c.args.self.now (ascii_by lower_digits refl))))
