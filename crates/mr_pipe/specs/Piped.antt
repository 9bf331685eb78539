-- A whole input, answered.
use Rattle.std.specs.Prelude.{◌≡◌, ℕ, List, [], ◌++◌, Option, None, false, Result, Ok, Err}
use Rattle.std.specs.FinMap.{empty}
use Rattle.std.specs.Io.KnownBytes.{Consumes, IsAtEnd}
use Rattle.mr_file.specs.declared.sync_mode.SyncMode.TheVariants.{No}
use Rattle.mr_repl.specs.Backlog.{usual_backlog}
use Rattle.mr_keyspace.specs.Dataset.{Dataset}
use Rattle.mr_data.specs.declared.given.Given.{Given}
use Rattle.mr_node_spec.specs.State.{started}
use Rattle.mr_node_spec.specs.Requests.{Waits}
use Rattle.mr_pipe.specs.Outside.{Outside, Kept, IsSettled}
use Rattle.mr_pipe.specs.State.{PipeState}
use Rattle.mr_pipe.specs.Sessions.{Moment, AreServed, IsLast, all_changes}
use Rattle.mr_pipe.specs.Serving.{Drained, Ended, Breaks}
use Rattle.mr_pipe.specs.declared.linked_node.LinkedNode.{LinkedNode}
use Rattle.mr_pipe.specs.declared.fault.PipeFault.{PipeFault}
use Rattle.mr_pipe.specs.declared.fault.PipeFault.TheVariants as fault
use Rattle.mr_pipe.specs.declared.relay.Round.{Round}
use Rattle.mr_pipe.specs.declared.relay.Round.TheVariants as round

-- a master under this id, with this dataset, at offset 0, and a client of it
abbrev pub begun_with : List ℕ → Dataset → PipeState
begun_with id held = record { core = (started false 0 usual_backlog id held).core; replica = false; transaction = None; used = 0 }

-- .. an empty one
abbrev pub begun_empty : List ℕ → PipeState
begun_empty id = begun_with id empty

-- where there is no file
abbrev pub no_file : Kept
no_file = record { told = None; synced = None; failures = 0; mode = No; broken = false }

-- What was sent is the replies to the bytes that were read, one request after another, each at the node's state of its step ..
pub data Answers (g : Given) (s : PipeState) (read : List ℕ) (moments : List Moment) (t : PipeState) (said : List ℕ) (after : Option (List ℕ)) : Type 0 where
  -- .. and all was read: what is left over is less than a request and is dropped
  at_end : (rest : List ℕ) → AreServed g s read moments t rest said → Waits rest → IsAtEnd after → Answers g s read moments t said after
  -- .. and then the link was closed, at doomed bytes or since the client asked for it, or as a replica's at what a replica doesn't send; or the
  -- client asked that the program end: nothing behind is answered
  at_close : (rest replies last : List ℕ) → AreServed g s read moments t rest replies → IsLast t rest last
      → said ≡ replies ++ last → Answers g s read moments t said after

-- What was read of the input and written to the output and the file is a session of a pipe that was s and becomes another.
pub record Session (g : Given) (s : PipeState) (before after : Option (List ℕ)) (x y : Outside) : Type 0 where
  pub read : List ℕ
  pub consumed : Consumes before after read
  pub moments : List Moment
  pub pipe : PipeState
  pub said : List ℕ
  pub answers : Answers g s read moments pipe said after
  pub settled : IsSettled x y (all_changes moments) said

-- .. or of a beginning of one, until a fault came; or there was no memory to begin, and nothing was read.
pub data Broken (g : Given) (s : PipeState) (before after : Option (List ℕ)) (x : Outside) (why : PipeFault) (y : Outside) : Type 0 where
  amid : (read : List ℕ) → Consumes before after read → Breaks g s read x why y → Broken g s before after x why y
  unbegun : why ≡ fault.Memory → Consumes before after [] → y ≡ x → Broken g s before after x why y

abbrev pub IsPiped : Given → PipeState → Option (List ℕ) → Option (List ℕ) → Outside → Outside → Result (Unit {0}) PipeFault → Type 0
IsPiped g s before after x y (Ok _) = Session g s before after x y
IsPiped g s before after x y (Err why) = Broken g s before after x why y

-- .. where there is no file, so that nothing is said of one
abbrev pub IsPipedAlone : Given → PipeState → Option (List ℕ) → Option (List ℕ) → Option (List ℕ) → Option (List ℕ) → Result (Unit {0}) PipeFault → Type 0
IsPipedAlone g s before after old new result = (kept : Kept) × IsPiped g s before after (record { output = old; kept = no_file }) (record { output = new; kept = kept }) result

-- Bytes were read, and no whole request of them is left.
pub record Relays (g : Given) (s : PipeState) (u : List ℕ) (x : Outside) (before after : Option (List ℕ)) (p : LinkedNode) (y : Outside) : Type 0 where
  pub read : List ℕ
  pub consumed : Consumes before after read
  pub drained : Drained g s (u ++ read) x p y

-- Bytes were read to the last request.
pub record RelaysClose (g : Given) (s : PipeState) (u : List ℕ) (x : Outside) (before after : Option (List ℕ)) (y : Outside) : Type 0 where
  pub read : List ℕ
  pub consumed : Consumes before after read
  pub ended : Ended g s (u ++ read) x y

-- Nothing is left to read.
pub record RelaysEnd (g : Given) (s : PipeState) (u : List ℕ) (x : Outside) (before after : Option (List ℕ)) (p : LinkedNode) (y : Outside) : Type 0 where
  pub all : Relays g s u x before after p y
  pub at_end : IsAtEnd after

-- Bytes were read and served until a fault came.
pub record RelaysBreak (g : Given) (s : PipeState) (u : List ℕ) (x : Outside) (before after : Option (List ℕ)) (why : PipeFault) (y : Outside) : Type 0 where
  pub read : List ℕ
  pub consumed : Consumes before after read
  pub breaks : Breaks g s (u ++ read) x why y

abbrev pub IsRound : Given → PipeState → List ℕ → Outside → Option (List ℕ) → Option (List ℕ) → LinkedNode → Outside → Result Round PipeFault → Type 0
IsRound g s u x before after p y (Ok round.On) = Relays g s u x before after p y
IsRound g s u x before after p y (Ok round.End) = RelaysEnd g s u x before after p y
IsRound g s u x before after p y (Ok round.Shut) = RelaysClose g s u x before after y
IsRound g s u x before after p y (Err why) = RelaysBreak g s u x before after why y
