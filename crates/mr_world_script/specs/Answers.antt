-- What is written in answer to a line.
use Rattle.std.specs.Prelude.{ℕ, ◌<◌, ◌^◌, All, Bool, ◌&&◌, ◌==◌, not, nat_le, if◌then◌else◌, List, [], ◌∷◌, ◌++◌, codes}
use Rattle.std.specs.Fmt.{decimal}
use Rattle.std.specs.List.{flat_map}
use Rattle.hex.specs.Hex.{encode_lower}
use Rattle.mr_inline.specs.Bytes.{backslash, letter_x, line_feed}
use Rattle.mr_repl.specs.ReplId.{IsId, digits_of}
use Rattle.mr_world_script.specs.declared.answer.ScriptAnswer.{ScriptAnswer}
use Rattle.mr_world_script.specs.declared.answer.ScriptAnswer.TheVariants.{Node, Link, Done, Refused, Bad, Shows, Stopped, Bytes}

-- from a space to a tilde
abbrev pub is_printable : ℕ → Bool
is_printable b = nat_le 32 b && nat_le b 126

-- printed as it is
abbrev pub is_plain : ℕ → Bool
is_plain b = is_printable b && not (b == backslash)

-- a byte as it is, or its two digits behind `\x`, in lower case
abbrev pub printed_byte : ℕ → List ℕ
printed_byte b = if is_plain b then b ∷ [] else backslash ∷ letter_x ∷ encode_lower (b ∷ [])

unfoldable pub printed : List ℕ → List ℕ
printed bytes = flat_map printed_byte bytes

-- a word and a number
abbrev pub numbered : List ℕ → ℕ → List ℕ
numbered word n = word ++ 32 ∷ decimal n

-- a node's number, the digits of its id, and its offset
abbrev pub state_text : ℕ → List ℕ → ℕ → List ℕ
state_text n id offset = decimal n ++ 32 ∷ (digits_of id ++ 32 ∷ decimal offset)

abbrev pub answer_text : ScriptAnswer → List ℕ
answer_text (Node n) = numbered (codes "node") n
answer_text (Link l) = numbered (codes "link") l
answer_text Done = codes "ok"
answer_text (Refused k) = numbered (codes "refused") k
answer_text Bad = codes "bad line"
answer_text (Shows n id offset) = state_text n id offset
answer_text (Stopped n) = decimal n ++ codes " stopped"
answer_text (Bytes bytes) = printed bytes.now

-- what is true of each answer
abbrev pub IsAnswer : ScriptAnswer → Type 0
IsAnswer (Node n) = n < 2 ^ 64
IsAnswer (Link l) = l < 2 ^ 64
IsAnswer Done = Unit {0}
IsAnswer (Refused k) = k < 2 ^ 64
IsAnswer Bad = Unit {0}
IsAnswer (Shows n id offset) = (n < 2 ^ 64) × IsId id × (offset < 2 ^ 64)
IsAnswer (Stopped n) = n < 2 ^ 64
IsAnswer (Bytes bytes) = All (λ b. b < 256) bytes.now

-- the answer on a line of its own
unfoldable pub answer_line : ScriptAnswer → List ℕ
answer_line answer = answer_text answer ++ line_feed ∷ []
