-- What single words of a line say.
use Rattle.std.specs.Prelude.{ℕ, ℤ, pos, ◌^◌, ◌&&◌, int_le, nat_lt, if◌then◌else◌, List, [], ◌∷◌, Option, Some, None, Result, Ok, Err, codes, replicate}
use Rattle.std.specs.Fmt.{decimal}
use Rattle.std.specs.Str.{bytes_eq}
use Rattle.std.specs.Str.Parse.{digits_value}
use Rattle.mr_data.specs.Given.{last_moment}
use Rattle.hex.specs.Hex.{decode_sized}
use Rattle.hex.specs.declared.error.FromHexError.{FromHexError}
use Rattle.mr_repl.specs.ReplId.{digits_of}
use Rattle.mr_bytes.specs.Number.{number_of}
use Rattle.mr_links.specs.declared.side.Side.{Side}
use Rattle.mr_links.specs.declared.side.Side.TheVariants.{Opener, Server}

-- what is read with something that was read, if it was
abbrev pub with : {A B : Type 0} → Option A → (A → Option B) → Option B
with (Some a) next = next a
with None next = None

-- The number from 0 to 2^64 - 1 whose spelling these bytes are, if there is one: no sign, no leading zero.
unfoldable pub count_of : List ℕ → Option ℕ
count_of word = let n = digits_value 10 word in if nat_lt n (2 ^ 64) && bytes_eq (decimal n) word then Some n else None

-- a moment in milliseconds
abbrev pub moment_if : ℤ → Option ℤ
moment_if now = if int_le (pos 0) now && int_le now (pos last_moment) then Some now else None

abbrev pub moment_of : List ℕ → Option ℤ
moment_of word = with (number_of word) moment_if

-- the side of a link
abbrev pub side_text : Side → List ℕ
side_text Opener = codes "a"
side_text Server = codes "b"

unfoldable pub side_of : List ℕ → Option Side
side_of word = if bytes_eq word (codes "a") then Some Opener else if bytes_eq word (codes "b") then Some Server else None

-- one digit stands for forty of it
abbrev pub written_out : List ℕ → List ℕ
written_out (digit ∷ []) = replicate 40 digit
written_out word = word

-- the id of these digits, which are as many as an id has, and in lower case
abbrev pub id_by : List ℕ → Result (List ℕ) FromHexError → Option (List ℕ)
id_by digits (Ok id) = if bytes_eq (digits_of id) digits then Some id else None
id_by digits (Err fault) = None

unfoldable pub id_of : List ℕ → Option (List ℕ)
id_of word = id_by (written_out word) (decode_sized (written_out word) 20)
