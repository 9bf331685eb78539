-- A language of numbers: an effect puts its number in front of a list, and each text is a byte for its kind and the numbers behind it. Streams
-- have six bytes at most, so that a run can come to the end of one. A client may begin a transaction, in which its requests wait for the end:
-- each has one effect there.
use Rattle.std.specs.Prelude.{ℕ, zero, suc, List, [], ◌∷◌, ◌++◌, ◌≡◌, Option, None, Some, Bool, true, false, cond, length, ◌==◌}
use Rattle.law_protocol.specs.Language.{Language, Line, Request, Transaction}
use Rattle.law_protocol.specs.Language.Line.{FullResync, Continue, Plain, Refusal}
use Rattle.law_protocol.specs.Language.Request.{Handshake, Psync, Ack, Command, ReplicaOfNoOne, ReplicaOf, Empty, Quit}

abbrev pub line_text : Line ℕ → List ℕ
line_text (FullResync id offset) = 2 ∷ id ∷ offset ∷ []
line_text (Continue id) = 3 ∷ id ∷ []
line_text Plain = 4 ∷ []
line_text Refusal = 5 ∷ []

abbrev pub wanted_text : Option (ℕ × ℕ) → List ℕ
wanted_text None = 0 ∷ []
wanted_text (Some wanted) = 1 ∷ wanted.0 ∷ wanted.1 ∷ []

abbrev pub request_text : Request ℕ → List ℕ
request_text Handshake = 6 ∷ []
request_text (Psync wanted) = 7 ∷ wanted_text wanted
request_text Ack = 9 ∷ []
request_text Command = 10 ∷ []
request_text ReplicaOfNoOne = 11 ∷ []
request_text (ReplicaOf host) = 13 ∷ length host ∷ host
request_text Empty = 14 ∷ []
request_text Quit = 15 ∷ []

-- what a text says by itself
pub data Said : Type 0 where
  Asks : Request ℕ → Said
  Begin : Said
  End : Said

abbrev pub said_text : Said → List ℕ
said_text (Asks request) = request_text request
said_text Begin = 16 ∷ []
said_text End = 17 ∷ []

-- within a transaction all but a goodbye and nothing is a command
abbrev pub meant : Option Transaction → Said → Request ℕ
meant None (Asks request) = request
meant None _ = Command
meant (Some transaction) (Asks Quit) = Quit
meant (Some transaction) (Asks Empty) = Empty
meant (Some transaction) _ = Command

abbrev pub IsAsked : Option Transaction → List ℕ → Request ℕ → Type 0
IsAsked transaction text request = (said : Said) × (text ≡ said_text said) × (request ≡ meant transaction said)

abbrev pub kind_of : List ℕ → ℕ
kind_of [] = 0
kind_of (kind ∷ rest) = kind

-- what is open behind a command
abbrev pub left_open : Option Transaction → List ℕ → Option Transaction
left_open None text = cond (kind_of text == 16) (Some (record { queued = []; marked = false })) None
left_open (Some transaction) text = cond (kind_of text == 17) None (Some (record transaction { queued = transaction.queued ++ text ∷ [] }))

abbrev pub AreNone : Bool → List ℕ → Type 0
AreNone true effects = effects ≡ []
AreNone false effects = Unit {0}

-- A command has any effects, but none where it begins a transaction or waits in one. The end has one for each that waited.
abbrev pub HasEffects : Option Transaction → List ℕ → List ℕ → Type 0
HasEffects None text effects = AreNone (kind_of text == 16) effects
HasEffects (Some transaction) text effects = length effects ≡ cond (kind_of text == 17) (length transaction.queued) 0

abbrev pub snapshot_text : List ℕ → List ℕ
snapshot_text numbers = 12 ∷ length numbers ∷ numbers

-- no text begins with 0
abbrev pub BeginsWithZero : List ℕ → Type 0
BeginsWithZero [] = ⊥
BeginsWithZero (zero ∷ rest) = Unit {0}
BeginsWithZero (suc n ∷ rest) = ⊥

abbrev pub tiny : Language
tiny = record {
  Id = ℕ;
  same = λ i j. i == j;
  Dataset = List ℕ;
  empty = [];
  Effect = ℕ;
  apply = λ e m. Some (e ∷ m);
  text = λ e. 1 ∷ e ∷ [];
  IsGood = λ e. Unit {0};
  limit = 6;
  Given = Unit {0};
  effects = λ room transaction text m given effects. HasEffects transaction text effects;
  due = λ room m given effects. Unit {0};
  leads = λ master old text new. new ≡ left_open old text;
  says = λ text line. text ≡ line_text line;
  asks = IsAsked;
  loads = λ text m. text ≡ snapshot_text m;
  doomed = BeginsWithZero;
  restores = λ file m. m ≡ [];
}
