-- The lines that are answered.
use Rattle.std.specs.Prelude.{ℕ, Bool, if◌then◌else◌, List, [], ◌∷◌, ◌++◌, codes, decimal}
use Rattle.mr_repl.specs.ReplId.{digits_of}
use Rattle.mr_trio_script.specs.Places.{digit_of}
use Rattle.mr_trio_script.specs.Shown.{escaped}
use Rattle.mr_trio_script.specs.declared.ending.Ending.{Ending}
use Rattle.mr_trio_script.specs.declared.place.Place.{Place}

-- the bytes of a reply
abbrev pub reply_line : List ℕ → List ℕ
reply_line reply = escaped reply ++ 10 ∷ []

abbrev pub role_word : Bool → List ℕ
role_word master = if master then codes "master" else codes "slave"

-- a node's number, its role, its id and its offset
abbrev pub end_line : Place → Ending → List ℕ
end_line place e = (((((digit_of place ∷ 32 ∷ []) ++ role_word e.master) ++ 32 ∷ []) ++ digits_of e.id) ++ 32 ∷ []) ++ decimal e.offset ++ 10 ∷ []

abbrev pub bad_line : List ℕ
bad_line = codes "bad line\n"

abbrev pub late : List ℕ
late = codes "late\n"
