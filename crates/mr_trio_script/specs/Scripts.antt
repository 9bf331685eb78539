-- What a script is answered.
use Rattle.std.specs.Prelude.{◌≡◌, ℕ, List, [], ◌∷◌, ◌++◌, Option, Result, Ok, Err, take}
use Rattle.std.specs.List.{flat_map}
use Rattle.std.specs.Io.KnownBytes.{Appends, Consumes}
use Rattle.std.proofs.Common.{Global, Vec}
use Rattle.mr_trio_script.specs.Replies.{IsReply}
use Rattle.mr_inline.specs.Line.{IsBlank}
use Rattle.mr_trio_script.specs.declared.ending.Ending.{Ending}
use Rattle.mr_trio_script.specs.Inputs.{IsFed, IsRest}
use Rattle.mr_inline.specs.Limits.{line_limit}
use Rattle.mr_file.specs.Outputs.{IsBegun}
use Rattle.mr_trio_script.specs.Asking.{Asks, AsksNobody}
use Rattle.mr_trio_script.specs.Conduct.{Conduct}
use Rattle.mr_trio_script.specs.Telling.{bad_line, end_line, late, reply_line}
use Rattle.mr_trio_script.specs.declared.fault.TrioFault.{TrioFault}
use Rattle.mr_trio_script.specs.declared.fault.TrioFault.TheVariants.{Stream, Stopped, Socket, Late}
use Rattle.mr_trio_script.specs.declared.place.Place.{Place}
use Rattle.mr_trio_script.specs.declared.place.Place.TheVariants.{First, Second, Third}

-- what came of a line: nothing was said, or that it asks nobody, or a reply
pub data Answer : Type 0 where
  nothing : Answer
  nobody : Answer
  reply : List ℕ → Answer

abbrev pub answer_text : Answer → List ℕ
answer_text nothing = []
answer_text nobody = bad_line
answer_text (reply bytes) = reply_line bytes

-- The node that the line names was asked its words, and this is its reply.
pub record IsRepliedTo {N : Type 0} (k : Conduct N) (n : N) (line reply : List ℕ) (m : N) : Type 0 where
  pub place : Place
  pub words : List (List ℕ)
  pub asks : Asks line place words
  pub answers : k.answers n place words reply m
  pub is_reply : IsReply reply

-- The node that the line names was asked its words, and had no reply in time.
pub record IsDelayed {N : Type 0} (k : Conduct N) (n : N) (line : List ℕ) (m : N) : Type 0 where
  pub place : Place
  pub words : List (List ℕ)
  pub asks : Asks line place words
  pub delays : k.delays n place words m

-- A line without words is answered nothing, one that asks a node something by the bytes of the reply of that node to its words, and any other that it asks
-- nobody. Only one that asks a node something changes the nodes.
abbrev pub Fits : {N : Type 0} → Conduct N → N → List ℕ → Answer → N → Type 0
Fits k n line nothing m = IsBlank line_limit line × (m ≡ n)
Fits k n line nobody m = AsksNobody line × (m ≡ n)
Fits k n line (reply bytes) m = IsRepliedTo k n line bytes m

-- a line, and what came of it
pub record Played : Type 0 where
  pub line : List ℕ
  pub answer : Answer

-- Lines were played one after another, of nodes that were n before the first and are m after the last.
abbrev pub ArePlayed : {N : Type 0} → Conduct N → N → List Played → N → Type 0
ArePlayed k n [] m = m ≡ n
ArePlayed {N} k n (p ∷ ps) m = IsFed p.line × ((next : N) × Fits k n p.line p.answer next × ArePlayed k next ps m)

abbrev pub lines_of : List Played → List ℕ
lines_of ps = flat_map (λ (p : Played). p.line) ps

abbrev pub answers_of : List Played → List ℕ
answers_of ps = flat_map (λ (p : Played). answer_text p.answer) ps

-- the answer to a request that the node there was asked
pub record IsAnswer {N : Type 0} (k : Conduct N) (n : N) (place : Place) (words : List (List ℕ)) (said : Vec ℕ Global) (m : N) : Type 0 where
  pub reply : List ℕ
  pub answers : k.answers n place words reply m
  pub is_reply : IsReply reply
  pub is : said.items ≡ reply_line reply

-- what asking a node came to, by how it ended
abbrev pub AnswersBy : {N : Type 0} → Conduct N → N → Place → List (List ℕ) → N → Result (Vec ℕ Global) TrioFault → Type 0
AnswersBy k n place words m (Ok said) = IsAnswer k n place words said m
AnswersBy k n place words m (Err Late) = k.delays n place words m
AnswersBy k n place words m (Err Stream) = ⊥
AnswersBy k n place words m (Err Stopped) = Unit {0}
AnswersBy k n place words m (Err Socket) = Unit {0}

-- What one line came to, by how it ended: its answer is written; its turns are over, or something failed, and nothing is; or the output failed, and a beginning is.
pub record IsAnswered {N : Type 0} (k : Conduct N) (n : N) (line : List ℕ) (old new : Option (List ℕ)) (m : N) : Type 0 where
  pub answer : Answer
  pub fits : Fits k n line answer m
  pub told : Appends old new (answer_text answer)

pub record IsLate {N : Type 0} (k : Conduct N) (n : N) (line : List ℕ) (old new : Option (List ℕ)) (m : N) : Type 0 where
  pub delayed : IsDelayed k n line m
  pub silent : Appends old new []

pub record IsCut {N : Type 0} (k : Conduct N) (n : N) (line : List ℕ) (old new : Option (List ℕ)) (m : N) : Type 0 where
  pub answer : Answer
  pub fits : Fits k n line answer m
  pub begun : IsBegun old new (answer_text answer)

abbrev pub PlaysLine : {N : Type 0} → Conduct N → N → List ℕ → Option (List ℕ) → Option (List ℕ) → N → Result (Unit {0}) TrioFault → Type 0
PlaysLine k n line old new m (Ok _) = IsAnswered k n line old new m
PlaysLine k n line old new m (Err Late) = IsLate k n line old new m
PlaysLine k n line old new m (Err Stream) = IsCut k n line old new m
PlaysLine k n line old new m (Err Stopped) = Appends old new []
PlaysLine k n line old new m (Err Socket) = Appends old new []

-- Lines were read, one after another, and each was answered.
pub record HasPlayed {N : Type 0} (k : Conduct N) (n : N) (before after old new : Option (List ℕ)) (m : N) : Type 0 where
  pub plays : List Played
  pub played : ArePlayed k n plays m
  pub read : Consumes before after (lines_of plays)
  pub told : Appends old new (answers_of plays)

-- .. and no line is left
pub record PlaysAll {N : Type 0} (k : Conduct N) (n : N) (before after old new : Option (List ℕ)) (m : N) : Type 0 where
  pub plays : List Played
  pub played : ArePlayed k n plays m
  pub rest : List ℕ
  pub read : Consumes before after (lines_of plays ++ rest)
  pub is_rest : IsRest rest before after
  pub told : Appends old new (answers_of plays)

-- .. and the turns of one more are over
pub record PlaysToLate {N : Type 0} (k : Conduct N) (n : N) (before after old new : Option (List ℕ)) (m : N) : Type 0 where
  pub plays : List Played
  pub between : N
  pub played : ArePlayed k n plays between
  pub line : List ℕ
  pub delayed : IsDelayed k between line m
  pub read : Consumes before after (lines_of plays ++ line)
  pub told : Appends old new (answers_of plays)

-- .. and something failed: what is written is a beginning of answers to lines that were read
pub record PlaysSome {N : Type 0} (k : Conduct N) (n : N) (before after old new : Option (List ℕ)) : Type 0 where
  pub plays : List Played
  pub between : N
  pub played : ArePlayed k n plays between
  pub more : List ℕ
  pub read : Consumes before after (lines_of plays ++ more)
  pub begun : IsBegun old new (answers_of plays)

abbrev pub Plays : {N : Type 0} → Conduct N → N → Option (List ℕ) → Option (List ℕ) → Option (List ℕ) → Option (List ℕ) → N → Result (Unit {0}) TrioFault → Type 0
Plays k n before after old new m (Ok _) = PlaysAll k n before after old new m
Plays k n before after old new m (Err Late) = PlaysToLate k n before after old new m
Plays k n before after old new m (Err Stream) = PlaysSome k n before after old new
Plays k n before after old new m (Err Stopped) = PlaysSome k n before after old new
Plays k n before after old new m (Err Socket) = PlaysSome k n before after old new

-- ---- the end of a script
-- What the node there is was told; or nothing was, for something failed; or a beginning.
pub record TellsEnd {N : Type 0} (k : Conduct N) (m : N) (place : Place) (old new : Option (List ℕ)) : Type 0 where
  pub ending : Ending
  pub is : k.ends_as m place ending
  pub told : Appends old new (end_line place ending)

pub record CutsEnd {N : Type 0} (k : Conduct N) (m : N) (place : Place) (old new : Option (List ℕ)) : Type 0 where
  pub ending : Ending
  pub is : k.ends_as m place ending
  pub begun : IsBegun old new (end_line place ending)

abbrev pub EndsLine : {N : Type 0} → Conduct N → N → Place → Option (List ℕ) → Option (List ℕ) → Result (Unit {0}) TrioFault → Type 0
EndsLine k m place old new (Ok _) = TellsEnd k m place old new
EndsLine k m place old new (Err Stream) = CutsEnd k m place old new
EndsLine k m place old new (Err Stopped) = Appends old new []
EndsLine k m place old new (Err Socket) = Appends old new []
EndsLine k m place old new (Err Late) = ⊥

-- the nodes in the order of their numbers
abbrev pub all_places : List Place
all_places = First ∷ Second ∷ Third ∷ []

-- The text is a line on each of these nodes, in this order, that says what it is.
abbrev pub AreEndLines : {N : Type 0} → Conduct N → N → List Place → List ℕ → Type 0
AreEndLines k m [] text = text ≡ []
AreEndLines k m (p ∷ ps) text = (e : Ending) × ((rest : List ℕ) × (k.ends_as m p e × AreEndLines k m ps rest × (text ≡ end_line p e ++ rest)))

pub record TellsEnds {N : Type 0} (k : Conduct N) (m : N) (old new : Option (List ℕ)) : Type 0 where
  pub text : List ℕ
  pub lines : AreEndLines k m all_places text
  pub told : Appends old new text

-- .. or a beginning of such lines on the first of them, before something failed
pub record CutsEnds {N : Type 0} (k : Conduct N) (m : N) (old new : Option (List ℕ)) : Type 0 where
  pub count : ℕ
  pub text : List ℕ
  pub lines : AreEndLines k m (take count all_places) text
  pub begun : IsBegun old new text

abbrev pub EndsScript : {N : Type 0} → Conduct N → N → Option (List ℕ) → Option (List ℕ) → Result (Unit {0}) TrioFault → Type 0
EndsScript k m old new (Ok _) = TellsEnds k m old new
EndsScript k m old new (Err Stream) = CutsEnds k m old new
EndsScript k m old new (Err Stopped) = CutsEnds k m old new
EndsScript k m old new (Err Socket) = CutsEnds k m old new
EndsScript k m old new (Err Late) = ⊥

-- ---- a whole script
-- Every line was read and answered, and then what each node is was told, in the order of their numbers.
pub record PlaysToEnd {N : Type 0} (k : Conduct N) (n : N) (before after old new : Option (List ℕ)) (m : N) : Type 0 where
  pub plays : List Played
  pub played : ArePlayed k n plays m
  pub rest : List ℕ
  pub read : Consumes before after (lines_of plays ++ rest)
  pub is_rest : IsRest rest before after
  pub text : List ℕ
  pub lines : AreEndLines k m all_places text
  pub told : Appends old new (answers_of plays ++ text)

-- Lines were read and answered, and one more that asks a node something was read: that it is late is told last.
pub record EndsLate {N : Type 0} (k : Conduct N) (n : N) (before after old new : Option (List ℕ)) (m : N) : Type 0 where
  pub plays : List Played
  pub between : N
  pub played : ArePlayed k n plays between
  pub line : List ℕ
  pub delayed : IsDelayed k between line m
  pub read : Consumes before after (lines_of plays ++ line)
  pub told : Appends old new (answers_of plays ++ late)

-- Something failed: at a line, so that a beginning of the answers is written; or after all lines and their answers, as what the nodes are was told; or as it was told that
-- a line is late.
pub data StopsShort {N : Type 0} (k : Conduct N) (n : N) (before after old new : Option (List ℕ)) (m : N) : Type 0 where
  amid : PlaysSome k n before after old new → StopsShort k n before after old new m
  at_end : (mid : Option (List ℕ)) → PlaysAll k n before after old mid m → CutsEnds k m mid new → StopsShort k n before after old new m
  at_late : (mid : Option (List ℕ)) → PlaysToLate k n before after old mid m → IsBegun mid new late → StopsShort k n before after old new m

-- of nodes that were n before the script and are m after it
abbrev pub PlaysScript : {N : Type 0} → Conduct N → N → Option (List ℕ) → Option (List ℕ) → Option (List ℕ) → Option (List ℕ) → N → Result (Unit {0}) TrioFault → Type 0
PlaysScript k n before after old new m (Ok _) = PlaysToEnd k n before after old new m
PlaysScript k n before after old new m (Err Late) = EndsLate k n before after old new m
PlaysScript k n before after old new m (Err Stream) = StopsShort k n before after old new m
PlaysScript k n before after old new m (Err Stopped) = StopsShort k n before after old new m
PlaysScript k n before after old new m (Err Socket) = StopsShort k n before after old new m
