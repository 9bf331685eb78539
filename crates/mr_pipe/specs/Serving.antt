-- A link that is served, and what was written for it.
use Rattle.std.specs.Prelude.{◌≡◌, ◌≢◌, ℕ, List, [], Bool, true, false, Some, None, Result, Ok, Err}
use Rattle.std.specs.Io.KnownBytes.{Appends, Keeps}
use Rattle.mr_data.specs.declared.given.Given.{Given}
use Rattle.mr_node_output.specs.Outs.{Output, no_output}
use Rattle.mr_node_links.specs.State.{Transaction}
use Rattle.mr_node_spec.specs.ClientRows.{Stops}
use Rattle.mr_node_spec.specs.Requests.{Waits}
use Rattle.mr_node_spec.specs.Transactions.{StopsWithin}
use Rattle.mr_pipe.specs.Outside.{Outside, Filed, IsTorn, IsSettled}
use Rattle.mr_file.specs.Outputs.{IsBegun}
use Rattle.mr_pipe.specs.State.{PipeState, Stands}
use Rattle.mr_pipe.specs.Sessions.{Moment, AreServed, Gives, IsLast, IsServed, all_changes, changes_of}
use Rattle.mr_pipe.specs.declared.linked_node.LinkedNode.{LinkedNode}
use Rattle.mr_pipe.specs.declared.fault.PipeFault.{PipeFault}
use Rattle.mr_pipe.specs.declared.fault.PipeFault.TheVariants as fault
use Rattle.mr_pipe.specs.declared.serve.Stepped.{Stepped}
use Rattle.mr_pipe.specs.declared.serve.Stepped.TheVariants as stepped

-- Of the bytes u the requests in front were served, one after another. What they change is changed in the file, and their
-- replies stand in the output.
pub record Settles (g : Given) (s : PipeState) (u : List ℕ) (x : Outside) (t : PipeState) (y : Outside) : Type 0 where
  pub moments : List Moment
  pub rest : List ℕ
  pub said : List ℕ
  pub serves : AreServed g s u moments t rest said
  pub settled : IsSettled x y (all_changes moments) said

-- .. and what is left is unread on the link.
pub record Going (g : Given) (s : PipeState) (u : List ℕ) (x : Outside) (p : LinkedNode) (y : Outside) : Type 0 where
  pub at : PipeState
  pub done : Settles g s u x at y
  pub stands : Stands p at done.rest

-- .. which is less than a request.
pub record Drained (g : Given) (s : PipeState) (u : List ℕ) (x : Outside) (p : LinkedNode) (y : Outside) : Type 0 where
  pub going : Going g s u x p y
  pub waits : Waits going.done.rest

-- All requests were served before one that is the last or before doomed bytes, and the last was told.
pub record Ended (g : Given) (s : PipeState) (u : List ℕ) (x y : Outside) : Type 0 where
  pub at : PipeState
  pub before : Outside
  pub done : Settles g s u x at before
  pub last : List ℕ
  pub ends : IsLast at done.rest last
  pub told : Appends before.output y.output last
  pub kept : y.kept ≡ before.kept

-- A write to the output failed: of a reply a beginning is written, and the file is what its step made of it. Or all was
-- written, and the flush failed.
pub data IsCutOff (g : Given) (s : PipeState) (u : List ℕ) (x y : Outside) : Type 0 where
  in_reply : (out : Output) → Gives g s u out → Filed x.kept y.kept (changes_of out) → IsBegun x.output y.output out.said → IsCutOff g s u x y
  in_flush : Keeps x.output y.output → y.kept ≡ x.kept → IsCutOff g s u x y

-- The file failed at what a step was to change, and nothing of its reply is written.
pub record Tears (g : Given) (s : PipeState) (u : List ℕ) (x y : Outside) : Type 0 where
  pub out : Output
  pub gives : Gives g s u out
  pub torn : IsTorn x.kept y.kept (changes_of out)
  pub output : y.output ≡ x.output

-- A node that stands so stops for want of memory at the first request, of which it had begun to apply effects: the client's, or where a transaction is
-- open one that ends it and has what waited done.
pub data RunsOut (g : Given) (s : PipeState) (u : List ℕ) : Type 0 where
  at_request : s.replica ≡ false → s.transaction ≡ None → (p : LinkedNode) → Stands p s u → Stops p.node u g → RunsOut g s u
  within : s.replica ≡ false → (held : Transaction) → s.transaction ≡ Some held → (p : LinkedNode) → Stands p s u → StopsWithin p.node held u g → RunsOut g s u

-- What a fault leaves of the step in which it came, at the front of these unread bytes. Only one of the file or of the output leaves anything. A node
-- stops only where it runs out of memory within effects, and memory is lacking for none but unread bytes.
abbrev pub IsLeft : PipeFault → Given → PipeState → List ℕ → Outside → Outside → Type 0
IsLeft fault.Read g s u x y = y ≡ x
IsLeft fault.Write g s u x y = IsCutOff g s u x y
IsLeft fault.File g s u x y = Tears g s u x y
IsLeft fault.Stopped g s u x y = RunsOut g s u × (y ≡ x)
IsLeft fault.Memory g s u x y = (u ≢ []) × (y ≡ x)

-- Of the bytes u requests were served, until a fault came.
pub record Breaks (g : Given) (s : PipeState) (u : List ℕ) (x : Outside) (why : PipeFault) (y : Outside) : Type 0 where
  pub at : PipeState
  pub before : Outside
  pub done : Settles g s u x at before
  pub left : IsLeft why g at done.rest before y

abbrev pub IsDrained : Given → PipeState → List ℕ → Outside → LinkedNode → Outside → Result Bool PipeFault → Type 0
IsDrained g s u x p y (Ok true) = Drained g s u x p y
IsDrained g s u x p y (Ok false) = Ended g s u x y
IsDrained g s u x p y (Err why) = Breaks g s u x why y

-- A step used something, and more may be served.
pub record StepsOn (g : Given) (s : PipeState) (u : List ℕ) (x : Outside) (p : LinkedNode) (y : Outside) : Type 0 where
  pub at : PipeState
  pub rest : List ℕ
  pub out : Output
  pub served : IsServed g s u at rest out
  pub stands : Stands p at rest
  pub settled : IsSettled x y (changes_of out) out.said

-- .. and nothing more is.
pub record StepsLast (s : PipeState) (u : List ℕ) (x y : Outside) : Type 0 where
  pub last : List ℕ
  pub ends : IsLast s u last
  pub out : Output
  pub out_is : out ≡ record no_output { said = last }
  pub settled : IsSettled x y (changes_of out) out.said

-- A step found no whole request.
pub record StepWaits (s : PipeState) (u : List ℕ) (x : Outside) (p : LinkedNode) (y : Outside) : Type 0 where
  pub waits : Waits u
  pub stands : Stands p s u
  pub same : y ≡ x

abbrev pub IsStepped : Given → PipeState → List ℕ → Outside → LinkedNode → Outside → Result Stepped PipeFault → Type 0
IsStepped g s u x p y (Ok stepped.Waits) = StepWaits s u x p y
IsStepped g s u x p y (Ok stepped.On) = StepsOn g s u x p y
IsStepped g s u x p y (Ok stepped.Shut) = StepsLast s u x y
IsStepped g s u x p y (Err why) = IsLeft why g s u x y

-- what the outs of a step come to outside
abbrev pub IsCarriedOut : Output → Outside → Outside → Result (Unit {0}) PipeFault → Type 0
IsCarriedOut out x y (Ok _) = IsSettled x y (changes_of out) out.said
IsCarriedOut out x y (Err fault.Write) = Filed x.kept y.kept (changes_of out) × IsBegun x.output y.output out.said
IsCarriedOut out x y (Err fault.File) = IsTorn x.kept y.kept (changes_of out) × (y.output ≡ x.output)
IsCarriedOut out x y (Err fault.Read) = ⊥
IsCarriedOut out x y (Err fault.Stopped) = ⊥
IsCarriedOut out x y (Err fault.Memory) = ⊥
