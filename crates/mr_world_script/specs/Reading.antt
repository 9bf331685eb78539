-- How the words of a line are read.
use Rattle.std.specs.Prelude.{ℕ, ℤ, Bool, true, false, List, [], ◌∷◌, Option, Some, None, find, codes}
use Rattle.std.specs.Str.{bytes_eq}
use Rattle.mr_data.specs.declared.given.Given.{Given}
use Rattle.mr_resp.specs.Spelling.{array}
use Rattle.mr_world_script.specs.Said.{Said, nothing, starts, joins, sends, delivers, steps, ticks, breaks, dials, connects, accepts, restarts, shows, gets}
use Rattle.mr_world_script.specs.Words.{with, count_of, moment_of, side_of, id_of}
use Rattle.mr_world_script.specs.declared.event_name.EventName.{EventName}
use Rattle.mr_world_script.specs.declared.event_name.EventName.TheVariants.{Start, Replica, Client, Send, Raw, Deliver, Step, Tick, Break, Dial, Connect, Accept, Restart, Show, Got}
use Rattle.mr_world_script.specs.declared.line.Line.{Line}
use Rattle.mr_world_script.specs.declared.line.Line.TheVariants as line

abbrev pub text_of : EventName → List ℕ
text_of Start = codes "start"
text_of Replica = codes "replica"
text_of Client = codes "client"
text_of Send = codes "send"
text_of Raw = codes "raw"
text_of Deliver = codes "deliver"
text_of Step = codes "step"
text_of Tick = codes "tick"
text_of Break = codes "break"
text_of Dial = codes "dial"
text_of Connect = codes "connect"
text_of Accept = codes "accept"
text_of Restart = codes "restart"
text_of Show = codes "show"
text_of Got = codes "got"

abbrev pub names : List EventName
names = Start ∷ Replica ∷ Client ∷ Send ∷ Raw ∷ Deliver ∷ Step ∷ Tick ∷ Break ∷ Dial ∷ Connect ∷ Accept ∷ Restart ∷ Show ∷ Got ∷ []

abbrev pub is_named : List ℕ → EventName → Bool
is_named word name = bytes_eq (text_of name) word

-- what the word names
unfoldable pub named : List ℕ → Option EventName
named word = find (is_named word) names

-- what a step is given, as two numbers
abbrev pub parts_of : Given → ℤ × ℕ
parts_of given = (given.now, given.word)

abbrev pub given_of : List ℕ → ℕ → Option (ℤ × ℕ)
given_of now chance = with (moment_of now) (λ moment. Some (moment, chance))

-- what the words behind each name say

abbrev pub start : Bool → List (List ℕ) → Option Said
start is_replica (id ∷ []) = with (id_of id) (λ i. Some (starts is_replica i))
start is_replica _ = None

abbrev pub client : List (List ℕ) → Option Said
client (node ∷ []) = with (count_of node) (λ n. Some (joins n))
client _ = None

abbrev pub send : List (List ℕ) → Option Said
send (link ∷ first ∷ later) = with (count_of link) (λ l. Some (sends l (array (first ∷ later))))
send _ = None

abbrev pub raw : List (List ℕ) → Option Said
raw (link ∷ text ∷ []) = with (count_of link) (λ l. Some (sends l text))
raw _ = None

abbrev pub deliver : List (List ℕ) → Option Said
deliver (link ∷ side ∷ count ∷ []) = with (count_of link) (λ l. with (side_of side) (λ s. with (count_of count) (λ n. Some (delivers l s n))))
deliver _ = None

abbrev pub step : List (List ℕ) → Option Said
step (link ∷ side ∷ now ∷ chance ∷ fresh ∷ []) = with (count_of link) (λ l. with (side_of side) (λ s. with (count_of chance) (λ c. with (given_of now c) (λ g. with (id_of fresh) (λ i. Some (steps l s g.0 g.1 i))))))
step _ = None

abbrev pub tick : List (List ℕ) → Option Said
tick (node ∷ now ∷ []) = with (count_of node) (λ n. with (given_of now 0) (λ g. Some (ticks n g.0)))
tick _ = None

abbrev pub «break» : List (List ℕ) → Option Said
«break» (link ∷ side ∷ []) = with (count_of link) (λ l. with (side_of side) (λ s. Some (breaks l s)))
«break» _ = None

abbrev pub dial : List (List ℕ) → Option Said
dial (node ∷ to ∷ []) = with (count_of node) (λ n. with (count_of to) (λ m. Some (dials n m)))
dial _ = None

abbrev pub connect : List (List ℕ) → Option Said
connect (node ∷ []) = with (count_of node) (λ n. Some (connects n))
connect _ = None

abbrev pub accept : List (List ℕ) → Option Said
accept (link ∷ node ∷ []) = with (count_of link) (λ l. with (count_of node) (λ n. Some (accepts l n)))
accept _ = None

abbrev pub restart : List (List ℕ) → Option Said
restart (node ∷ count ∷ id ∷ []) = with (count_of node) (λ n. with (count_of count) (λ c. with (id_of id) (λ i. Some (restarts n c i))))
restart _ = None

abbrev pub show : List (List ℕ) → Option Said
show (node ∷ []) = with (count_of node) (λ n. Some (shows n))
show _ = None

abbrev pub got : List (List ℕ) → Option Said
got (link ∷ []) = with (count_of link) (λ l. Some (gets l))
got _ = None

-- what the words behind a name say
abbrev pub behind : EventName → List (List ℕ) → Option Said
behind Start words = start false words
behind Replica words = start true words
behind Client words = client words
behind Send words = send words
behind Raw words = raw words
behind Deliver words = deliver words
behind Step words = step words
behind Tick words = tick words
behind Break words = «break» words
behind Dial words = dial words
behind Connect words = connect words
behind Accept words = accept words
behind Restart words = restart words
behind Show words = show words
behind Got words = got words

-- what the words of a line say, if they say anything
abbrev pub said_by : List (List ℕ) → Option Said
said_by [] = Some nothing
said_by (name ∷ words) = with (named name) (λ n. behind n words)

-- what was read
abbrev pub said_of : Line → Said
said_of line.Blank = nothing
said_of (line.Start id is_replica) = starts is_replica id
said_of (line.Client node) = joins node
said_of (line.Command link bytes) = sends link bytes.items
said_of (line.Deliver link side count) = delivers link side count
said_of (line.Step link side given fresh) = steps link side given.now given.word fresh
said_of (line.Tick node given) = ticks node given.now
said_of (line.Break link side) = breaks link side
said_of (line.Dial node to) = dials node to
said_of (line.Connect node) = connects node
said_of (line.Accept link node) = accepts link node
said_of (line.Restart node count id) = restarts node count id
said_of (line.Show node) = shows node
said_of (line.Got link) = gets link
