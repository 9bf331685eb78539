-- What a line of a script says, and the words that say it.
use Rattle.std.specs.Prelude.{◌≡◌, ℕ, ◌<◌, ◌^◌, ℤ, Bool, if◌then◌else◌, List, [], ◌∷◌, codes}
use Rattle.std.specs.Fmt.{decimal, signed_decimal}
use Rattle.mr_data.specs.Given.{IsMoment}
use Rattle.mr_repl.specs.ReplId.{IsId, digits_of}
use Rattle.mr_resp.specs.Spelling.{array}
use Rattle.mr_world_script.specs.Words.{side_text, written_out}
use Rattle.mr_links.specs.declared.side.Side.{Side}

-- What a line says: nothing, an event of a World, or a question. Nodes and links are numbers.
pub data Said : Type 0 where
  nothing : Said
  starts : (is_replica : Bool) (id : List ℕ) → Said
  joins : (node : ℕ) → Said
  sends : (link : ℕ) (bytes : List ℕ) → Said
  delivers : (link : ℕ) (side : Side) (count : ℕ) → Said
  steps : (link : ℕ) (side : Side) (now : ℤ) (word : ℕ) (fresh : List ℕ) → Said
  ticks : (node : ℕ) (now : ℤ) → Said
  breaks : (link : ℕ) (side : Side) → Said
  dials : (node to : ℕ) → Said
  connects : (node : ℕ) → Said
  accepts : (link node : ℕ) → Said
  restarts : (node count : ℕ) (id : List ℕ) → Said
  shows : (node : ℕ) → Said
  gets : (link : ℕ) → Said

-- the word names this id, by its forty digits, or by one digit that stands for forty of it
pub record NamesId (word id : List ℕ) : Type 0 where
  pub is_id : IsId id
  pub digits : digits_of id ≡ written_out word

abbrev pub IsCount : ℕ → Type 0
IsCount n = n < 2 ^ 64

abbrev pub start_text : Bool → List ℕ
start_text is_replica = if is_replica then codes "replica" else codes "start"

-- The words say that a client sends: a request of the words behind the link, in array form, or the text there as it stands.
pub data SaysSend (words : List (List ℕ)) (link : ℕ) (bytes : List ℕ) : Type 0 where
  request : (first : List ℕ) (later : List (List ℕ)) → words ≡ codes "send" ∷ decimal link ∷ first ∷ later → bytes ≡ array (first ∷ later) → SaysSend words link bytes
  text : words ≡ codes "raw" ∷ decimal link ∷ bytes ∷ [] → SaysSend words link bytes

-- These words say this. Numbers are spelled without a sign and without leading zeros, and are below 2^64; a moment is at most 2^61.
abbrev pub Says : List (List ℕ) → Said → Type 0
Says words nothing = words ≡ []
Says words (starts is_replica id) = (word : List ℕ) × NamesId word id × (words ≡ start_text is_replica ∷ word ∷ [])
Says words (joins node) = IsCount node × (words ≡ codes "client" ∷ decimal node ∷ [])
Says words (sends link bytes) = IsCount link × SaysSend words link bytes
Says words (delivers link side count) = IsCount link × IsCount count × (words ≡ codes "deliver" ∷ decimal link ∷ side_text side ∷ decimal count ∷ [])
Says words (steps link side now number fresh) = (word : List ℕ) × NamesId word fresh × IsCount link × IsMoment now × IsCount number
    × (words ≡ codes "step" ∷ decimal link ∷ side_text side ∷ signed_decimal now ∷ decimal number ∷ word ∷ [])
Says words (ticks node now) = IsCount node × IsMoment now × (words ≡ codes "tick" ∷ decimal node ∷ signed_decimal now ∷ [])
Says words (breaks link side) = IsCount link × (words ≡ codes "break" ∷ decimal link ∷ side_text side ∷ [])
Says words (dials node to) = IsCount node × IsCount to × (words ≡ codes "dial" ∷ decimal node ∷ decimal to ∷ [])
Says words (connects node) = IsCount node × (words ≡ codes "connect" ∷ decimal node ∷ [])
Says words (accepts link node) = IsCount link × IsCount node × (words ≡ codes "accept" ∷ decimal link ∷ decimal node ∷ [])
Says words (restarts node count id) = (word : List ℕ) × NamesId word id × IsCount node × IsCount count
    × (words ≡ codes "restart" ∷ decimal node ∷ decimal count ∷ word ∷ [])
Says words (shows node) = IsCount node × (words ≡ codes "show" ∷ decimal node ∷ [])
Says words (gets link) = IsCount link × (words ≡ codes "got" ∷ decimal link ∷ [])
