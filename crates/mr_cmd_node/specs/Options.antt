-- What a replica says of itself.
use Rattle.std.specs.Prelude.{ℕ, List, [], ◌∷◌, Bool, true, false, ◌&&◌, if◌then◌else◌, Option, Some, None, is_some, codes}
use Rattle.std.specs.Borrow.{Bor}
use Rattle.std.specs.Str.{bytes_eq}
use Rattle.mr_arguments.specs.Names.{lowered}
use Rattle.mr_cmd_node.specs.declared.node_ask.ReplicaOption.{ReplicaOption}
use Rattle.mr_cmd_node.specs.declared.node_ask.ReplicaOption.TheVariants.{ListeningPort, IpAddress, Capability}

-- the names of options, in lower case
abbrev pub option_text : ReplicaOption → List ℕ
option_text ListeningPort = codes "listening-port"
option_text IpAddress = codes "ip-address"
option_text Capability = codes "capa"

-- the option that a word names, in any case
abbrev pub option_of : List ℕ → Option ReplicaOption
option_of word =
    if bytes_eq (lowered word) (option_text ListeningPort) then Some ListeningPort
    else (if bytes_eq (lowered word) (option_text IpAddress) then Some IpAddress
    else (if bytes_eq (lowered word) (option_text Capability) then Some Capability
    else None))

-- the words are options, each with a value
abbrev pub all_tell : List (List ℕ) → Bool
all_tell [] = true
all_tell (option ∷ []) = false
all_tell (option ∷ value ∷ words) = is_some (option_of option) && all_tell words

-- one more, where it is one: those behind a word that is no option aren't told
abbrev pub first_told : Option ReplicaOption → List ℕ → List (ReplicaOption × List ℕ) → List (ReplicaOption × List ℕ)
first_told None value rest = []
first_told (Some option) value rest = (option, value) ∷ rest

-- the options that words begin with, each with its value
abbrev pub told : List (List ℕ) → List (ReplicaOption × List ℕ)
told [] = []
told (option ∷ []) = []
told (option ∷ value ∷ words) = first_told (option_of option) value (told words)

-- those that the words are, if they are
abbrev pub told_by : List (List ℕ) → Option (List (ReplicaOption × List ℕ))
told_by words = if all_tell words then Some (told words) else None

-- an option, and what the reference to its value points to
abbrev pub read_told : ReplicaOption × Bor (List ℕ) → ReplicaOption × List ℕ
read_told pair = (pair.0, pair.1.now)
