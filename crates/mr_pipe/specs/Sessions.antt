-- What a client's requests get, one after another.
use Rattle.std.specs.Prelude.{◌≡◌, ◌≢◌, ◌≤◌, ◌+◌, ℕ, ℤ, List, [], ◌∷◌, ◌++◌, Bool, true, false, not, ◌||◌, Some, None, length}
use Rattle.mr_resp.specs.Replies.{Tree, array, reply_text}
use Rattle.mr_keyspace.specs.Dataset.{Dataset}
use Rattle.mr_effect.specs.declared.effect.Effect.{Effect}
use Rattle.mr_data.specs.declared.given.Given.{Given}
use Rattle.mr_repl.specs.Backlog.{offset_limit}
use Rattle.mr_groups.specs.Groups.{grown_text}
use Rattle.mr_cmd_node.specs.declared.node_ask.NodeAsk.TheVariants as node
use Rattle.mr_cmd_shared.specs.Answered.{done}
use Rattle.mr_commands.specs.Requests.{AsksNode}
use Rattle.mr_commands.specs.Transactions.{Frame, Coming as what, DoesAll, coming}
use Rattle.mr_repl.specs.Lineage.{grown, renamed}
use Rattle.mr_info.specs.declared.roles.MasterLink.TheVariants.{Connect}
use Rattle.mr_node_output.specs.Address.{AddressState}
use Rattle.mr_node_links.specs.State.{Transaction, begun}
use Rattle.mr_node_output.specs.Outs.{OutsState, Output, no_output, growth}
use Rattle.mr_node_spec.specs.State.{Core}
use Rattle.mr_node_spec.specs.Requests.{Asks, AsksNothing}
use Rattle.mr_node_spec.specs.Telling.{Around, answer_about}
use Rattle.mr_node_spec.specs.Served.{Served, says}
use Rattle.mr_node_spec.specs.ClientRows.{AsksToHalt, Ends, IsAnswerToPsync}
use Rattle.mr_node_spec.specs.Transactions.{StandsBy, DropsBy, as_trees}
use Rattle.mr_node_spec.specs.ReplicaRows.{IsExpected, IsUnwanted}
use Rattle.mr_pipe.specs.Outside.{Change, appends, replaces}
use Rattle.mr_pipe.specs.State.{PipeState, fresh_id}

-- behind one request: the pipe, what is left, and what the step gave out
pub record Moment : Type 0 where
  pub pipe : PipeState
  pub left : List ℕ
  pub out : Output

-- what outs come to, but for links and roles
abbrev pub output_of : OutsState → Output
output_of o = record { grown = o.grown; appended = o.appended; replaced = o.replaced; said = o.reply }

-- nothing is served behind a step that gives this out
abbrev pub is_last : OutsState → Bool
is_last o = o.closes || o.halts

-- what INFO and ROLE tell of beside the core: nobody is sent the stream, and the link to a master isn't there
abbrev pub alone : Around
alone = record { replicas = []; link = Connect }

-- A client's request that changes the role of its link or of the node. Nothing is dialled.
pub data TakesRole (s : PipeState) (words : List (List ℕ)) (t : PipeState) (out : Output) : Type 0 where
  -- PSYNC on a master: all that stands ready is said, and the link is a replica's from then on
  synchronizes : (id : List ℕ) (wanted : ℤ) (text : List ℕ) → s.core.master ≡ true → AsksNode words (node.Psync id wanted) → IsAnswerToPsync s.core.lineage s.core.held id wanted text
      → t ≡ record s { replica = true } → out ≡ record no_output { said = text } → TakesRole s words t out
  -- REPLICAOF NO ONE on a replica: its stream goes on under the fresh id
  promotes : s.core.master ≡ false → AsksNode words node.NoOne
      → t ≡ record s { core = record s.core { master = true; offers = true; upstream = None; mark = None; lineage = renamed (fresh_id s.used) s.core.lineage }; used = s.used + 1 }
      → out ≡ says done → TakesRole s words t out
  -- REPLICAOF another on a replica
  turns : (address : AddressState) → s.core.master ≡ false → AsksNode words (node.ReplicaOf address.host address.port) → s.core.upstream ≢ Some address
      → t ≡ record s { core = record s.core { upstream = Some address } } → out ≡ says done → TakesRole s words t out
  -- .. on a master, which is a replica from then on
  demotes : (address : AddressState) → s.core.master ≡ true → AsksNode words (node.ReplicaOf address.host address.port)
      → t ≡ record s { core = record s.core { master = false; offers = true; upstream = Some address; mark = None } } → out ≡ says done → TakesRole s words t out

-- what waited may be done as one as long as its text leads up to the offset limit at most, and questions are answered as ever
abbrev pub frame_alone : Core → Frame
frame_alone c = record {
  Fits = λ effects. c.lineage.stream.offset + length (grown_text effects) ≤ offset_limit;
  Told = λ question reply. reply ≡ answer_about question c alone;
}

-- Where a transaction is open: what stands at the front of the bytes u is used.
pub data IsServedWithin (g : Given) (s : PipeState) (held : Transaction) (u : List ℕ) (t : PipeState) (rest : List ℕ) (out : Output) : Type 0 where
  -- a request that doesn't end it: it waits, or marks it, or is refused as MULTI is, and is told so
  stands : (words : List (List ℕ)) (asks : Asks u words rest) (next : Transaction) (reply : Tree) → StandsBy (coming (not s.core.master) words) asks.text held next reply
      → t ≡ record s { transaction = Some next } → out ≡ says reply → IsServedWithin g s held u t rest out
  -- an empty request
  passes : AsksNothing u rest → t ≡ s → out ≡ no_output → IsServedWithin g s held u t rest out
  -- DISCARD, or EXEC where it was marked: nothing is done
  drops : (words : List (List ℕ)) → Asks u words rest → (reply : Tree) → DropsBy (coming (not s.core.master) words) held reply
      → t ≡ record s { transaction = None } → out ≡ says reply → IsServedWithin g s held u t rest out
  -- EXEC where it wasn't: what waits is done, one request after another. Their replies are one, and so are their effects in the stream and in the file
  executes : (words : List (List ℕ)) → Asks u words rest → coming (not s.core.master) words ≡ what.ends → held.marked ≡ false → (replies : List Tree) (effects : List Effect) (left : Dataset)
      → DoesAll (frame_alone s.core) (not s.core.master) g held.queued [] s.core.held replies effects left
      → t ≡ record s { core = record s.core { held = left; lineage = grown s.core.lineage (grown_text effects) }; transaction = None }
      → out ≡ record (growth (grown_text effects)) { said = reply_text (array (as_trees replies)) } → IsServedWithin g s held u t rest out

-- What stands at the front of the bytes u is used: what that makes of the pipe, what is left of them, and what it gives out.
pub data IsServed (g : Given) (s : PipeState) (u : List ℕ) (t : PipeState) (rest : List ℕ) (out : Output) : Type 0 where
  -- of a client where no transaction is open, which keeps the roles ..
  serves : s.replica ≡ false → s.transaction ≡ None → (d : Core) → Served s.core alone u g d rest out → t ≡ record s { core = d } → IsServed g s u t rest out
  -- .. or changes one
  takes_role : s.replica ≡ false → s.transaction ≡ None → (words : List (List ℕ)) → Asks u words rest → TakesRole s words t out → IsServed g s u t rest out
  -- .. or begins one with MULTI
  begins : s.replica ≡ false → s.transaction ≡ None → (words : List (List ℕ)) → Asks u words rest → AsksNode words node.Multi → t ≡ record s { transaction = Some begun } → out ≡ says done
      → IsServed g s u t rest out
  -- of a client where this one is open
  goes_within : s.replica ≡ false → (held : Transaction) → s.transaction ≡ Some held → IsServedWithin g s held u t rest out → IsServed g s u t rest out
  -- of a replica, whose acknowledgements are noted
  notes : s.replica ≡ true → IsExpected u rest → t ≡ s → out ≡ no_output → IsServed g s u t rest out

-- What ends a session, and what is told last: the link is closed, and what waits is dropped; or a client asks that the program end, which it can't
-- where a transaction is open, and is told nothing. A replica is told nothing either.
pub data IsLast (s : PipeState) (u last : List ℕ) : Type 0 where
  closes : s.replica ≡ false → Ends u last → IsLast s u last
  halts : s.replica ≡ false → s.transaction ≡ None → (rest : List ℕ) → AsksToHalt u rest → last ≡ [] → IsLast s u last
  parts : s.replica ≡ true → IsUnwanted u → last ≡ [] → IsLast s u last

-- what a step does to the file
abbrev pub changes_of : Output → List Change
changes_of out = appends out.appended ++ replaces out.replaced

-- .. and several, one after another
abbrev pub all_changes : List Moment → List Change
all_changes [] = []
all_changes (t ∷ ts) = changes_of t.out ++ all_changes ts

-- Requests are served one after another: t, rest and said are the pipe, the unread bytes and all that was sent behind the last.
abbrev pub AreServed : Given → PipeState → List ℕ → List Moment → PipeState → List ℕ → List ℕ → Type 0
AreServed g s u [] t rest said = (t ≡ s) × (rest ≡ u) × (said ≡ [])
AreServed g s u (m ∷ ms) t rest said = IsServed g s u m.pipe m.left m.out × ((behind : List ℕ) × AreServed g m.pipe m.left ms t rest behind × (said ≡ m.out.said ++ behind))

-- What a step makes of what stands at the front: what it gives out.
pub data Gives (g : Given) (s : PipeState) (u : List ℕ) (out : Output) : Type 0 where
  serves : (t : PipeState) (rest : List ℕ) → IsServed g s u t rest out → Gives g s u out
  ends : (last : List ℕ) → IsLast s u last → out ≡ record no_output { said = last } → Gives g s u out
