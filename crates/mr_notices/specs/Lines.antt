-- What becomes of lines that go to an outlet which may take nothing now.
use Rattle.std.specs.Prelude.{◌≡◌, ◌⊎◌, ℕ, List, [], ◌∷◌, ◌++◌, ◌+◌, ◌-◌, ◌^◌, ◌==◌, ◌||◌, ◌&&◌, min, map, take, Bool, true, false, nat_le, if◌then◌else◌, codes, decimal, refl}
use Rattle.std.specs.Coded.{Coded, code_by, coded×, coded_ℕ, coded_list}

-- what is left of a line that was taken in part, and how many were dropped and aren't told of yet
pub record LinesState : Type 0 where
  pub rest : List ℕ
  pub dropped : ℕ

abbrev pub lines_code : Coded LinesState
lines_code = code_by (List ℕ × ℕ) (coded× (coded_list coded_ℕ) coded_ℕ) (λ l. (l.rest, l.dropped)) (λ p. record { rest = p.0; dropped = p.1 }) (λ _. refl)

-- a byte that ends no line and moves nothing that stands on a terminal
abbrev pub plain_byte : ℕ → ℕ
plain_byte b = if nat_le b 31 || b == 127 then 63 else b

-- a byte as it is shown of what others sent: a printable one as it is, and any other as a question mark
abbrev pub shown_byte : ℕ → ℕ
shown_byte b = if nat_le 32 b && nat_le b 126 then b else 63

-- **A line** is the front of two texts, without what would end it before, and a line's end: 4,096 bytes at most
abbrev pub line_of : List ℕ → List ℕ → List ℕ
line_of stamp text = map plain_byte (take 4095 (stamp ++ text)) ++ 10 ∷ []

-- what is told of lines that were dropped
abbrev pub count_text : ℕ → List ℕ
count_text count = decimal count ++ codes " lines were dropped since nobody read them"

-- one more, as a count that stays at its last value
abbrev pub one_more : ℕ → ℕ
one_more count = min (count + 1) (2 ^ 64 - 1)

-- one more is dropped
abbrev pub missed : LinesState → LinesState
missed l = record l { dropped = one_more l.dropped }

-- what an outlet has taken, and what is left to be taken of what began
abbrev pub stream : List ℕ → LinesState → List ℕ
stream taken l = taken ++ l.rest

-- what is told before a line: how many were dropped, where some were
abbrev pub reported : List ℕ → LinesState → List ℕ
reported stamp l = if l.dropped == 0 then [] else line_of stamp (count_text l.dropped)

-- nothing that is left to go out, and nothing untold
pub record IsReady (tells : Bool) (stamp taken : List ℕ) (l : LinesState) (after : List ℕ) (m : LinesState) : Type 0 where
  pub went : tells ≡ true → stream after m ≡ stream taken l ++ reported stamp l
  pub rest : m.rest ≡ []
  pub dropped : m.dropped ≡ 0

-- nothing more began to go out; so many count as dropped then
pub record Waits (tells : Bool) (count : ℕ) (taken : List ℕ) (l : LinesState) (after : List ℕ) (m : LinesState) : Type 0 where
  pub went : tells ≡ true → stream after m ≡ stream taken l
  pub dropped : m.dropped ≡ count

-- the line that tells how many were dropped began to go out; so many count as dropped then
pub record Reports (tells : Bool) (stamp : List ℕ) (count : ℕ) (taken : List ℕ) (l : LinesState) (after : List ℕ) (m : LinesState) : Type 0 where
  pub some : l.dropped ≡ 0 → ⊥
  pub went : tells ≡ true → stream after m ≡ stream taken l ++ line_of stamp (count_text l.dropped)
  pub dropped : m.dropped ≡ count

-- **What is told late**: whether a line may go out next
abbrev pub CatchesUp : Bool → Bool → List ℕ → List ℕ → LinesState → List ℕ → LinesState → Type 0
CatchesUp tells true stamp taken l after m = IsReady tells stamp taken l after m
CatchesUp tells false stamp taken l after m = Waits tells l.dropped taken l after m ⊎ Reports tells stamp 0 taken l after m

-- the line goes out as a whole, behind all that was to go out before
pub record GoesOut (tells : Bool) (stamp text taken : List ℕ) (l : LinesState) (after : List ℕ) (m : LinesState) : Type 0 where
  pub went : tells ≡ true → stream after m ≡ (stream taken l ++ reported stamp l) ++ line_of stamp text
  pub dropped : m.dropped ≡ 0

-- **A line goes out as a whole, in order, or is dropped and counted; and before the next one goes out it is told how many were dropped**
abbrev pub Says : Bool → Bool → List ℕ → List ℕ → List ℕ → LinesState → List ℕ → LinesState → Type 0
Says tells true stamp text taken l after m = GoesOut tells stamp text taken l after m
Says tells false stamp text taken l after m = Waits tells (one_more l.dropped) taken l after m ⊎ Reports tells stamp 1 taken l after m
