-- What the lines of a script ask of a World.
use Rattle.std.specs.Prelude.{◌≡◌, ℕ, ◌≤◌, ◌^◌, List, [], Option, None, Some, take, slice_get}
use Rattle.mr_node.specs.declared.config.Config.{Config}
use Rattle.mr_world_script.specs.Said.{Said, nothing, starts, joins, sends, delivers, steps, ticks, breaks, dials, connects, accepts, restarts, shows, gets}
use Rattle.law_refinement.specs.State.{Slot, WorldState}
use Rattle.mr_world.specs.declared.event.Event.{Event}
use Rattle.mr_world.specs.declared.event.Event.TheVariants as event
use Rattle.mr_world_player.specs.declared.asked.Asked.{Asked}
use Rattle.mr_world_player.specs.declared.asked.Asked.TheVariants as asked

abbrev pub IsBacklog : ℕ → Type 0
IsBacklog n = (1 ≤ n) × (n ≤ 2 ^ 30)

-- what all nodes of a script start with, in either role
pub record IsConfig (size : ℕ) (config : Config) : Type 0 where
  pub port : config.port ≡ 0
  pub backlog : config.backlog ≡ size

-- a node's file, and no bytes where there is no node
abbrev pub file_at : Option Slot → List ℕ
file_at None = []
file_at (Some s) = s.file

-- A restart is asked for with so many bytes of the node's file, or all where it has fewer.
pub record Restarts (w : WorldState) (said : Said) (node : ℕ) (kept id : List ℕ) : Type 0 where
  pub count : ℕ
  pub is : said ≡ restarts node count id
  pub front : kept ≡ take count (file_at (slice_get w.slots node))

-- What is said asks a World, whose nodes start with this backlog, for this event.
abbrev pub IsEvent : ℕ → WorldState → Said → Event → Type 0
IsEvent backlog w said (event.Start id config) = (said ≡ starts config.replica id) × IsConfig backlog config
IsEvent backlog w said (event.Client n) = said ≡ joins n
IsEvent backlog w said (event.Command l bytes) = said ≡ sends l bytes.items
IsEvent backlog w said (event.Deliver l at count) = said ≡ delivers l at count
IsEvent backlog w said (event.Step l at given fresh) = said ≡ steps l at given.now given.word fresh
IsEvent backlog w said (event.Tick n given) = said ≡ ticks n given.now
IsEvent backlog w said (event.Break l at) = said ≡ breaks l at
IsEvent backlog w said (event.Dial n m) = said ≡ dials n m
IsEvent backlog w said (event.Connect n) = said ≡ connects n
IsEvent backlog w said (event.Accept l n) = said ≡ accepts l n
IsEvent backlog w said (event.Restart n kept id config) = Restarts w said n kept.items id × IsConfig backlog config

abbrev pub IsAsked : ℕ → WorldState → Said → Asked → Type 0
IsAsked backlog w said asked.Nothing = said ≡ nothing
IsAsked backlog w said (asked.Event e) = IsEvent backlog w said e
IsAsked backlog w said (asked.Show n) = said ≡ shows n
IsAsked backlog w said (asked.Got l) = said ≡ gets l
