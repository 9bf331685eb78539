-- What a transaction is, by the commands that begin it, go on in it and end it.
use Rattle.std.specs.Prelude.{◌≡◌, ◌≤◌, ◌⊎◌, ℕ, List, [], ◌∷◌, ◌++◌, Bool, true, false, Option, Some, None, Ok, length}
use Rattle.mr_map.specs.Bytes.{Bytes}
use Rattle.mr_resp.specs.Request.{IsRequest}
use Rattle.mr_resp.specs.Usual.{usual}
use Rattle.mr_effect.specs.declared.effect.Effect.{Effect}
use Rattle.mr_keyspace.specs.Dataset.{Dataset}
use Rattle.mr_data.specs.declared.given.Given.{Given}
use Rattle.mr_groups.specs.Groups.{group_texts}
use Rattle.mr_groups.specs.Folding.{apply_groups}
use Rattle.mr_cmd_node.specs.declared.node_ask.NodeAsk.{NodeAsk}
use Rattle.mr_cmd_node.specs.declared.node_ask.NodeAsk.TheVariants as node
use Rattle.mr_ask.specs.Asks.{asked}
use Rattle.mr_ask.specs.declared.ask.Ask.{Ask}
use Rattle.mr_commands.specs.Requests as plan
use Rattle.mr_commands.specs.Writes.{writes}
use Rattle.law_protocol.specs.Language.{Request, Transaction}
use Rattle.law_protocol.specs.Language.Request.{Command, Empty, Quit}
use Rattle.law_minired.specs.Changes.{HasEffects, Leads}
use Rattle.law_minired.specs.Requests.{IsAsked}

-- the text is a request that asks this of the node
pub record AsksNode (wish : NodeAsk) (text : List ℕ) : Type 0 where
  pub words : List Bytes
  pub request : IsRequest usual text words
  pub asks : plan.AsksNode words wish

-- .. or that the link be closed
pub record AsksToQuit (text : List ℕ) : Type 0 where
  pub words : List Bytes
  pub request : IsRequest usual text words
  pub asks : plan.quits words ≡ true

-- ---- effects
-- EXEC has them, of a transaction that wasn't marked: as one group, for which there is room, and which can be applied.
pub record AreOfExec (room : ℕ) (t : Transaction) (text : List ℕ) (m : Dataset) (groups : List (List Effect)) : Type 0 where
  pub asks : AsksNode node.Exec text
  pub whole : t.marked ≡ false
  pub one : length groups ≡ 1
  pub fits : length (group_texts groups) ≤ room
  pub held : Dataset
  pub applied : apply_groups groups m ≡ Some held

-- Where a transaction is open nothing else has any.
abbrev pub OnlyExecHasEffects : Type 0
OnlyExecHasEffects = (room : ℕ) (t : Transaction) (text : List ℕ) (m : Dataset) (given : Given) (groups : List (List Effect)) → HasEffects room (Some t) text m given groups → (groups ≡ []) ⊎ AreOfExec room t text m groups

-- ---- what is open
-- MULTI begins a transaction in which nothing waits, and nothing else does.
abbrev pub MultiBegins : Type 0
MultiBegins = (master : Bool) (text : List ℕ) (new : Option Transaction) → AsksNode node.Multi text → Leads master None text new → new ≡ Some (record { queued = []; marked = false })

abbrev pub OnlyMultiBegins : Type 0
OnlyMultiBegins = (master : Bool) (text : List ℕ) (t : Transaction) → Leads master None text (Some t) → AsksNode node.Multi text

-- EXEC and DISCARD end it, and but for QUIT, behind which there is no link, nothing else does.
abbrev pub AsksToEnd : List ℕ → Type 0
AsksToEnd text = AsksNode node.Exec text ⊎ AsksNode node.Discard text

abbrev pub ExecAndDiscardEnd : Type 0
ExecAndDiscardEnd = (master : Bool) (t : Transaction) (text : List ℕ) (new : Option Transaction) → AsksToEnd text → Leads master (Some t) text new → new ≡ None

abbrev pub OnlyTheyEnd : Type 0
OnlyTheyEnd = (master : Bool) (t : Transaction) (text : List ℕ) → Leads master (Some t) text None → AsksToEnd text ⊎ AsksToQuit text

-- Each other request waits behind those that wait, or marks it, and then none is lost; MULTI changes nothing.
pub data GoesOn (t : Transaction) (text : List ℕ) (s : Transaction) : Type 0 where
  waits : s.queued ≡ t.queued ++ text ∷ [] → s.marked ≡ t.marked → GoesOn t text s
  marks : s.queued ≡ t.queued → s.marked ≡ true → GoesOn t text s
  nests : AsksNode node.Multi text → s ≡ t → GoesOn t text s

abbrev pub OthersGoOn : Type 0
OthersGoOn = (master : Bool) (t s : Transaction) (text : List ℕ) → Leads master (Some t) text (Some s) → GoesOn t text s

-- A write waits at a master. At a replica, which refuses it, it marks.
abbrev pub WritesWaitAtMasters : Type 0
WritesWaitAtMasters = (t : Transaction) (text : List ℕ) (words : List Bytes) (command : Ask) (new : Option Transaction) → IsRequest usual text words → asked words ≡ Ok command → writes command ≡ true
    → Leads true (Some t) text new → new ≡ Some (record t { queued = t.queued ++ text ∷ [] })

abbrev pub WritesMarkAtReplicas : Type 0
WritesMarkAtReplicas = (t : Transaction) (text : List ℕ) (words : List Bytes) (command : Ask) (new : Option Transaction) → IsRequest usual text words → asked words ≡ Ok command → writes command ≡ true
    → Leads false (Some t) text new → new ≡ Some (record t { marked = true })

-- ---- what is asked
-- QUIT is heard in a transaction too, and all else there is a command.
abbrev pub QuitIsHeard : Type 0
QuitIsHeard = (transaction : Option Transaction) (text : List ℕ) (request : Request (List ℕ)) → AsksToQuit text → IsAsked transaction text request → request ≡ Quit

abbrev pub AllElseIsCommand : Type 0
AllElseIsCommand = (t : Transaction) (text : List ℕ) (request : Request (List ℕ)) → IsAsked (Some t) text request → (request ≡ Command) ⊎ (request ≡ Quit) ⊎ (request ≡ Empty)
