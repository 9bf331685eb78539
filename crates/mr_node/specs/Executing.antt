-- What waited is done as one, part by part.
use Rattle.std.specs.Prelude.{◌≡◌, ◌≢◌, ◌⊎◌, ◌++◌, ◌∷◌, ℕ, zero, suc, List, [], true, false, not, None, Some, Result, Ok, Err, length}
use Rattle.std.specs.List.{AllByRecursion}
use Rattle.mr_links.specs.declared.link_id.LinkId.{LinkId}
use Rattle.mr_resp.specs.Replies.{Tree, array, replies_text, reply_text}
use Rattle.mr_resp.specs.ReplyView.{view}
use Rattle.mr_keyspace.specs.Dataset.{Dataset}
use Rattle.mr_effect.specs.Spelling.{texts}
use Rattle.mr_keyspace.specs.Changes.{NeedsNoMemory}
use Rattle.mr_effect.specs.declared.effect.Effect.{Effect}
use Rattle.mr_data.specs.declared.given.Given.{Given}
use Rattle.mr_cmd_server.specs.declared.question.Question.{Question}
use Rattle.mr_groups.specs.Groups.{exec, grown_text, multi}
use Rattle.mr_repl.specs.Lineage.{grown}
use Rattle.mr_commands.specs.Requests.{HasPlan, IsPlain, question_in, quits}
use Rattle.mr_commands.specs.Transactions.{Does, DoesAll, FirstTakesMemory, not_allowed}
use Rattle.mr_node_output.specs.Outs.{OutsState}
use Rattle.mr_node_spec.specs.State.{NodeState, spent_as, stopped_as}
use Rattle.mr_node_state.specs.Parts.{streams_on}
use Rattle.mr_node_spec.specs.Growing.{FedTo}
use Rattle.mr_node_spec.specs.Transactions.{as_trees, frame_of}
use Rattle.mr_node.specs.Parts.{TellsOf}
use Rattle.mr_node.specs.declared.fault.NodeFault.{NodeFault}
use Rattle.mr_node.specs.declared.fault.NodeFault.TheVariants as fault
use Rattle.mr_node.specs.declared.waited.Waited.{Waited}
use Rattle.mr_node.specs.declared.waited.Waited.TheVariants as waited

-- the node with another dataset
abbrev pub holding : Dataset → NodeState → NodeState
holding held a = record a { core = record a.core { held = held } }

-- ---- one of them
-- Its words aren't to be carried out here, and nothing is asked about the node: it may not wait.
pub record MayNotWait (words : List (List ℕ)) : Type 0 where
  pub refused : IsPlain words → quits words ≡ false → ⊥
  pub asks_data : question_in words ≡ None

-- An answer without a plan: of the node, or that it may not wait.
pub data IsTold (a : NodeState) (words : List (List ℕ)) (reply : Tree) : Type 0 where
  tells : (question : Question) → question_in words ≡ Some question → TellsOf question a reply → IsTold a words reply
  refuses : MayNotWait words → reply ≡ not_allowed → IsTold a words reply

-- what words that waited come to
abbrev pub IsWaited : NodeState → List (List ℕ) → Given → Waited → Type 0
IsWaited a words given (waited.Run plan) = IsPlain words × HasPlan (not a.core.master) a.core.held words given (view plan.reply) plan.effects.items
IsWaited a words given (waited.Say reply) = IsTold a words (view reply)

-- The texts of effects, behind both parts of a frame: what ends it stands in front of what begins it, so that no part takes room once all are done.
abbrev pub behind_frame : List Effect → List ℕ
behind_frame effects = (exec ++ multi) ++ texts effects

-- the texts of effects that were put out so far, and what was answered
abbrev pub put_out : List Effect → List ℕ → OutsState → OutsState
put_out effects said o = record o { grown = behind_frame effects; appended = behind_frame effects; reply = said }

-- The requests in front had these effects, which were put out and have room, and left this dataset.
pub record AreDone (a : NodeState) (before : List Effect) (m : Dataset) (now : NodeState) (outs : OutsState) : Type 0 where
  pub node : now ≡ holding m a
  pub fits : (frame_of a).Fits before
  pub grown : outs.grown ≡ behind_frame before
  pub appended : outs.appended ≡ behind_frame before

-- So many effects are done, of which a replica has none.
pub record CountsDone (count : ℕ) (now : NodeState) (outs : OutsState) : Type 0 where
  pub first : NodeState
  pub effects : List Effect
  pub held : Dataset
  pub are_done : AreDone first effects held now outs
  pub counted : count ≡ length effects
  pub led : effects ≢ [] → now.core.master ≡ true

-- Behind them a request was done: the node holds what it left, and its effects' texts and its reply were put out.
pub record DidOne (a : NodeState) (given : Given) (words : List (List ℕ)) (before : List Effect) (m : Dataset) (old : OutsState) (more : ℕ) (b : NodeState) (new : OutsState) : Type 0 where
  pub reply : Tree
  pub effects : List Effect
  pub held : Dataset
  pub does : Does (frame_of a) (not a.core.master) given words before m reply effects held
  pub are_done : AreDone a (before ++ effects) held b new
  pub counted : more ≡ length effects
  pub outs_are : new ≡ put_out (before ++ effects) (old.reply ++ reply_text reply) old

-- Memory ran out while its effects were applied, of which there are some that may stand there.
pub record SpentBy (a : NodeState) (given : Given) (words : List (List ℕ)) (before : List Effect) (m : Dataset) (b : NodeState) : Type 0 where
  pub plain : IsPlain words
  pub reply : Tree
  pub effects : List Effect
  pub plan : HasPlan (not a.core.master) m words given reply effects
  pub fits : (frame_of a).Fits (before ++ effects)
  pub heavy : AllByRecursion NeedsNoMemory effects → ⊥
  pub held : Dataset
  pub spent : b ≡ spent_as held a

-- an answer alone, or memory was lacking
abbrev pub SaysOnly : Tree → OutsState → Result ℕ NodeFault → OutsState → Type 0
SaysOnly reply old (Ok count) new = (count ≡ 0) × (new ≡ record old { reply = old.reply ++ reply_text reply })
SaysOnly reply old (Err fault.Memory) new = Unit {0}
SaysOnly reply old (Err fault.Stopped) new = ⊥
SaysOnly reply old (Err fault.NoLink) new = ⊥
SaysOnly reply old (Err fault.InputFull) new = ⊥

abbrev pub DoesOne : NodeState → Given → List (List ℕ) → List Effect → Dataset → OutsState → NodeState → Result ℕ NodeFault → NodeState → OutsState → Type 0
DoesOne a given words before m old now (Ok more) b new = DidOne a given words before m old more b new
DoesOne a given words before m old now (Err fault.Memory) b new = b ≡ now
DoesOne a given words before m old now (Err fault.Stopped) b new = SpentBy a given words before m b
DoesOne a given words before m old now (Err fault.NoLink) b new = ⊥
DoesOne a given words before m old now (Err fault.InputFull) b new = ⊥

-- ---- all of them
-- nobody is fed where there are none
abbrev pub FedBy : List Effect → List LinkId → List LinkId → Type 0
FedBy [] old new = new ≡ []
FedBy (e ∷ effects) old new = new ≡ old

-- Requests of these texts were done, one after another.
pub record DidAll (a : NodeState) (given : Given) (requests : List (List ℕ)) (first : OutsState) (count : ℕ) (b : NodeState) (outs : OutsState) : Type 0 where
  pub replies : List Tree
  pub effects : List Effect
  pub held : Dataset
  pub does : DoesAll (frame_of a) (not a.core.master) given requests [] a.core.held replies effects held
  pub are_done : AreDone a effects held b outs
  pub counted : count ≡ length effects
  pub outs_are : outs ≡ put_out effects (first.reply ++ replies_text (as_trees replies)) first

-- Memory ran out for one of them: those in front were done, and they had effects, or those of the next take some.
pub record StoppedWithin (a : NodeState) (given : Given) (requests : List (List ℕ)) (b : NodeState) : Type 0 where
  pub done_first : List (List ℕ)
  pub left : List (List ℕ)
  pub first : requests ≡ done_first ++ left
  pub replies : List Tree
  pub effects : List Effect
  pub before : Dataset
  pub does : DoesAll (frame_of a) (not a.core.master) given done_first [] a.core.held replies effects before
  pub some : (effects ≢ []) ⊎ FirstTakesMemory (frame_of a) (not a.core.master) given left effects before
  pub undone : left ≢ []
  pub held : Dataset
  pub spent : b ≡ spent_as held a

-- a fault behind so many effects, and what it comes to
abbrev pub GivesUp : NodeFault → ℕ → NodeState → NodeState → NodeFault → Type 0
GivesUp fault.Memory zero a b told = (b ≡ a) × (told ≡ fault.Memory)
GivesUp fault.Memory (suc count) a b told = (b ≡ stopped_as a) × (told ≡ fault.Stopped)
GivesUp f count a b told = (b ≡ a) × (told ≡ f)

-- the texts of effects, so many, stand behind both parts of a frame
pub record AreFramed (count : ℕ) (effects : List Effect) (outs : OutsState) : Type 0 where
  pub counted : count ≡ length effects
  pub grown : outs.grown ≡ behind_frame effects
  pub appended : outs.appended ≡ behind_frame effects

-- .. and are the text of their group, or of none
pub record ClosesFrame (effects : List Effect) (old new : OutsState) : Type 0 where
  pub outs_are : new ≡ record old { grown = grown_text effects; appended = grown_text effects; fed = new.fed }
  pub fed : FedBy effects old.fed new.fed

-- The group of these effects stands behind the stream.
pub record ClosesGroup (effects : List Effect) (a : NodeState) (old : OutsState) (b : NodeState) (new : OutsState) : Type 0 where
  pub node : b ≡ streams_on (grown_text effects) a
  pub frame : ClosesFrame effects old new

abbrev pub DoesEach : NodeState → Given → List (List ℕ) → OutsState → Result ℕ NodeFault → NodeState → OutsState → Type 0
DoesEach a given requests first (Ok count) b outs = DidAll a given requests first count b outs
DoesEach a given requests first (Err fault.Memory) b outs = b ≡ a
DoesEach a given requests first (Err fault.Stopped) b outs = StoppedWithin a given requests b
DoesEach a given requests first (Err fault.NoLink) b outs = ⊥
DoesEach a given requests first (Err fault.InputFull) b outs = ⊥

-- The stream grew by the group of their effects, and their replies are one.
pub record Executed (a : NodeState) (given : Given) (requests : List (List ℕ)) (old : OutsState) (b : NodeState) (new : OutsState) : Type 0 where
  pub replies : List Tree
  pub effects : List Effect
  pub held : Dataset
  pub does : DoesAll (frame_of a) (not a.core.master) given requests [] a.core.held replies effects held
  pub node : b ≡ record a { core = record a.core { held = held; lineage = grown a.core.lineage (grown_text effects) } }
  pub fed : FedTo (grown_text effects) a new.fed
  pub outs_are : new ≡ record old { grown = grown_text effects; appended = grown_text effects; fed = new.fed; reply = reply_text (array (as_trees replies)) }

-- all of them, or memory was lacking
abbrev pub Executes : NodeState → Given → List (List ℕ) → OutsState → Result (Unit {0}) NodeFault → NodeState → OutsState → Type 0
Executes a given requests old (Ok done) b new = Executed a given requests old b new
Executes a given requests old (Err fault.Memory) b new = b ≡ a
Executes a given requests old (Err fault.Stopped) b new = StoppedWithin a given requests b
Executes a given requests old (Err fault.NoLink) b new = ⊥
Executes a given requests old (Err fault.InputFull) b new = ⊥
