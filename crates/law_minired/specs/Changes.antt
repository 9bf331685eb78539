-- What changes a master's dataset: the effects of a request, of all that waited, and of a tick; and what a request makes of a transaction.
use Rattle.std.specs.Prelude.{◌≡◌, ◌≤◌, ◌⊎◌, ℕ, List, [], ◌∷◌, ◌++◌, Bool, true, false, not, Option, Some, None, length, map, take, All}
use Rattle.mr_map.specs.Bytes.{Bytes}
use Rattle.mr_resp.specs.Replies.{Tree}
use Rattle.mr_resp.specs.Request.{IsRequest}
use Rattle.mr_resp.specs.Usual.{usual}
use Rattle.mr_effect.specs.declared.effect.Effect.{Effect}
use Rattle.mr_effect.specs.declared.effect.Effect.TheVariants as effect
use Rattle.mr_keyspace.specs.Dataset.{Dataset}
use Rattle.mr_data.specs.Due.{due, most_deleted, within, deletions}
use Rattle.mr_data.specs.declared.given.Given.{Given}
use Rattle.mr_groups.specs.Groups.{IsGoodGroup, as_group, grown_text, singles}
use Rattle.law_protocol.specs.Language.{Transaction}
use Rattle.mr_commands.specs.Requests.{HasPlan}
use Rattle.mr_commands.specs.Transactions.{Coming, waits, marks, nests, drops, ends, quits, coming, DoesAll}

-- Where no transaction is open: the text is a request, which has these effects at a master that holds this dataset. Each is done alone.
pub record HasSingles (text : List ℕ) (m : Dataset) (given : Given) (groups : List (List Effect)) : Type 0 where
  pub words : List Bytes
  pub request : IsRequest usual text words
  pub reply : Tree
  pub effects : List Effect
  pub plan : HasPlan false m words given reply effects
  pub alone : groups ≡ singles effects

-- What waits is done, each request at the dataset that those before it left: these are its effects, as one group, within so many bytes. What
-- questions about the node are answered is nothing to them.
pub record HasGroup (room : ℕ) (queued : List (List ℕ)) (m : Dataset) (given : Given) (groups : List (List Effect)) : Type 0 where
  pub replies : List Tree
  pub effects : List Effect
  pub held : Dataset
  pub does : DoesAll (record { Fits = λ es. length (grown_text es) ≤ room; Told = λ question reply. Unit {0} }) false given queued [] m replies effects held
  pub as_one : groups ≡ as_group effects

-- Where one is open, a request has no effects but by EXEC, and then only where the transaction wasn't marked.
abbrev pub HasThen : Coming → ℕ → Transaction → Dataset → Given → List (List Effect) → Type 0
HasThen ends room t m given groups = ((t.marked ≡ true) × (groups ≡ [])) ⊎ ((t.marked ≡ false) × HasGroup room t.queued m given groups)
HasThen _ room t m given groups = groups ≡ []

pub record HasWithin (room : ℕ) (t : Transaction) (text : List ℕ) (m : Dataset) (given : Given) (groups : List (List Effect)) : Type 0 where
  pub words : List Bytes
  pub request : IsRequest usual text words
  pub then : HasThen (coming false words) room t m given groups

abbrev pub HasEffects : ℕ → Option Transaction → List ℕ → Dataset → Given → List (List Effect) → Type 0
HasEffects room None text m given groups = HasSingles text m given groups
HasEffects room (Some t) text m given groups = HasWithin room t text m given groups

-- What a command makes of a transaction or of none, at a master or at a replica.
abbrev pub LeadsTo : Coming → Option Transaction → List ℕ → Option Transaction → Type 0
LeadsTo nests None text new = new ≡ Some (record { queued = []; marked = false })
LeadsTo _ None text new = new ≡ None
LeadsTo waits (Some t) text new = new ≡ Some (record t { queued = t.queued ++ text ∷ [] })
LeadsTo (marks reply) (Some t) text new = new ≡ Some (record t { marked = true })
LeadsTo nests (Some t) text new = new ≡ Some t
LeadsTo drops (Some t) text new = new ≡ None
LeadsTo ends (Some t) text new = new ≡ None
LeadsTo quits (Some t) text new = new ≡ None

pub record Leads (master : Bool) (old : Option Transaction) (text : List ℕ) (new : Option Transaction) : Type 0 where
  pub words : List Bytes
  pub request : IsRequest usual text words
  pub to : LeadsTo (coming (not master) words) old text new

-- These are due at a master's tick, where its stream has room for so many bytes: expired keys go, and a PING may follow them. The tick ends
-- before the first that has no room.
pub data IsDue (room : ℕ) (m : Dataset) (given : Given) (groups : List (List Effect)) : Type 0 where
  deletes : groups ≡ singles (deletions given.now m room) → IsDue room m given groups
  beats : groups ≡ singles (within room (map (λ d. effect.Del d.0) (take most_deleted (due given.now m)) ++ effect.Ping ∷ [])) → IsDue room m given groups

-- At a dataset, a moment and a random word a request has one list of effects, in a transaction or in none.
abbrev pub RequestsHaveOneChange : Type 0
RequestsHaveOneChange = (room : ℕ) (transaction : Option Transaction) (text : List ℕ) (m : Dataset) (given : Given) (one other : List (List Effect)) → HasEffects room transaction text m given one → HasEffects room transaction text m given other → one ≡ other

-- The groups that it has are groups, each with a text of its own.
abbrev pub RequestsHaveGoodGroups : Type 0
RequestsHaveGoodGroups = (room : ℕ) (transaction : Option Transaction) (text : List ℕ) (m : Dataset) (given : Given) (groups : List (List Effect)) → HasEffects room transaction text m given groups → All IsGoodGroup groups
