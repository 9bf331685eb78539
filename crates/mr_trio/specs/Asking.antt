-- What a line comes to at the three nodes, and what each of them is.
use Rattle.std.specs.Prelude.{◌≡◌, ℕ, List, [], ◌∷◌, ◌++◌, Option, Some, None, take, decimal}
use Rattle.mr_resp.specs.Spelling.{array}
use Rattle.mr_trio_script.specs.State.{ClientState, TakesOff, asked, begun}
use Rattle.mr_trio_script.specs.Conduct.{Conduct}
use Rattle.mr_trio_script.specs.Naming.{NamesNode, host}
use Rattle.mr_trio_script.specs.declared.ending.Ending.{Ending}
use Rattle.mr_trio_script.specs.declared.place.Place.{Place}
use Rattle.mr_trio_script.specs.declared.place.Place.TheVariants.{First, Second, Third}
use Rattle.mr_node_spec.specs.State.{shown}
use Rattle.mr_trio.specs.Levels.{AllLevel, Listening, Trio}
use Rattle.mr_trio.specs.Three.{trio_of}
use Rattle.mr_trio.specs.declared.desk.Desk.{Desk}
use Rattle.mr_trio.specs.declared.three.Three.{Three}

-- the client's end of its link to the node there, if it has one
abbrev pub end_at : Place → Desk → Option ClientState
end_at First d = d.first
end_at Second d = d.second
end_at Third d = d.third

-- the node there, and its port
abbrev pub node_at : Place → Trio → Listening
node_at First t = t.first
node_at Second t = t.second
node_at Third t = t.third

-- Some of what waited at an end was sent, and some came there, on the same link.
pub record Moves (a b : ClientState) : Type 0 where
  pub link : b.link ≡ a.link
  pub gone : List ℕ
  pub sent : a.waiting ≡ gone ++ b.waiting
  pub more : List ℕ
  pub came : b.came ≡ a.came ++ more

abbrev pub MovesIf : Option ClientState → Option ClientState → Type 0
MovesIf None o = o ≡ None
MovesIf (Some a) o = (b : ClientState) × (o ≡ Some b) × Moves a b

-- This end is the one that there was, or that of a new link.
pub data IsFrom (o : Option ClientState) (b : ClientState) : Type 0 where
  kept : (a : ClientState) → o ≡ Some a → Moves a b → IsFrom o b
  new : b ≡ begun b.link → IsFrom o b

-- The request waits at the end that there was, or at a new one, behind what waited there.
pub record IsAsked (request : List ℕ) (o p : Option ClientState) : Type 0 where
  pub end : ClientState
  pub from : IsFrom o end
  pub is : p ≡ Some (asked request end)

-- The reply that begins what came at an end is taken off it.
pub record IsTaken (o p : Option ClientState) (reply : List ℕ) : Type 0 where
  pub came : ClientState
  pub was : o ≡ Some came
  pub left : ClientState
  pub is : p ≡ Some left
  pub takes : TakesOff came left reply

-- Some moved, and then a reply was taken off.
pub record MovesToReply (o p : Option ClientState) (reply : List ℕ) : Type 0 where
  pub mid : Option ClientState
  pub moves : MovesIf o mid
  pub taken : IsTaken mid p reply

-- The words go out as they are, or with the address of the node in them that they name.
pub data GoAs (t : Trio) (words sent : List (List ℕ)) : Type 0 where
  plain : ((place : Place) → ¬ (NamesNode words place)) → sent ≡ words → GoAs t words sent
  named : (place : Place) → NamesNode words place → sent ≡ take 1 words ++ host ∷ decimal (node_at place t).port ∷ [] → GoAs t words sent

-- The words were asked on the client's link to the node there, whose end is this then.
pub record IsAskedOf (t : Three) (place : Place) (words : List (List ℕ)) (o : Option ClientState) : Type 0 where
  pub sent : List (List ℕ)
  pub goes_as : GoAs (trio_of t) words sent
  pub asked : IsAsked (array sent) (end_at place t.desk) o

-- .. and the reply is the next that came there. Each replica has what its master has then.
pub record Answers (t : Three) (place : Place) (words : List (List ℕ)) (reply : List ℕ) (u : Three) : Type 0 where
  pub end : Option ClientState
  pub asked : IsAskedOf t place words end
  pub replied : MovesToReply end (end_at place u.desk) reply
  pub level : AllLevel (trio_of u)

-- .. and no reply was taken there.
pub record Delays (t : Three) (place : Place) (words : List (List ℕ)) (u : Three) : Type 0 where
  pub end : Option ClientState
  pub asked : IsAskedOf t place words end
  pub moves : MovesIf end (end_at place u.desk)

-- What is told of the node there at the end: its role, its id and its offset.
pub record EndsAs (t : Three) (place : Place) (e : Ending) : Type 0 where
  pub master : (node_at place (trio_of t)).node.core.master ≡ e.master
  pub shows : shown (node_at place (trio_of t)).node.core ≡ Some (e.id, e.offset)

abbrev pub three_conduct : Conduct Three
three_conduct = record { answers = Answers; delays = Delays; ends_as = EndsAs }
