-- What a call on a node does to its append-only file.
use Rattle.std.specs.Prelude.{◌≡◌, ◌⊎◌, ℕ, List, [], ◌∷◌, Bool, true, false, Option, None, Some, All, if◌then◌else◌}
use Rattle.mr_effect.specs.declared.effect.Effect.{Effect}
use Rattle.mr_effect.specs.declared.effect.Effect.TheVariants as effect
use Rattle.mr_repl.specs.Backlog.{Window, after_bytes}
use Rattle.mr_groups.specs.Effects.{Makes}
use Rattle.mr_groups.specs.Groups.{IsGoodGroup, group_texts}
use Rattle.mr_groups.specs.Folding.{apply_groups}
use Rattle.mr_node_output.specs.Outs.{OutsState}
use Rattle.mr_node_spec.specs.State.{Core, NodeState}
use Rattle.mr_node_spec.specs.Growing.{rebuilt}

-- a heartbeat
abbrev pub is_beat : Effect → Bool
is_beat effect.Ping = true
is_beat _ = false

-- effects but for heartbeats
abbrev pub but_beats : List Effect → List Effect
but_beats [] = []
but_beats (e ∷ es) = if is_beat e then but_beats es else e ∷ but_beats es

-- a heartbeat stands alone
abbrev pub is_beat_group : List Effect → Bool
is_beat_group (e ∷ []) = is_beat e
is_beat_group es = false

-- groups but for heartbeats
abbrev pub groups_but_beats : List (List Effect) → List (List Effect)
groups_but_beats [] = []
groups_but_beats (g ∷ gs) = if is_beat_group g then groups_but_beats gs else g ∷ groups_but_beats gs

-- a stream grew by these bytes
abbrev pub HasStreamed : Window → List ℕ → Window → Type 0
HasStreamed old bytes new = (new ≡ after_bytes old bytes) ⊎ ((bytes ≡ []) × (new ≡ old))

-- Groups were applied, each as a whole, which led from the one dataset to the other. By their texts the node's stream grew, and by the same texts
-- but for those of heartbeats its file grows.
pub record Grows (c d : Core) (appended : List ℕ) : Type 0 where
  pub groups : List (List Effect)
  pub good : All IsGoodGroup groups
  pub applied : apply_groups groups c.held ≡ Some d.held
  pub stream : HasStreamed c.lineage.stream (group_texts groups) d.lineage.stream
  pub filed : appended ≡ group_texts (groups_but_beats groups)

-- what a call does to the file: from the one core it led to the other, and these bytes go behind the file, or it is replaced by those
pub data DoesToFile (c d : Core) (appended : List ℕ) (replaced : Option (List ℕ)) : Type 0 where
  grows : Grows c d appended → replaced ≡ None → DoesToFile c d appended replaced
  -- it is written anew: the texts of effects that make the dataset again out of nothing
  replaces : appended ≡ [] → replaced ≡ Some (rebuilt d.held) → Makes (rebuilt d.held) d.held → DoesToFile c d appended replaced

abbrev pub Files : NodeState → NodeState → OutsState → Type 0
Files a b outs = DoesToFile a.core b.core outs.appended outs.replaced

-- dataset and stream stay, and nothing is done to the file
pub record KeepsFile (c d : Core) (appended : List ℕ) (replaced : Option (List ℕ)) : Type 0 where
  pub held : d.held ≡ c.held
  pub stream : d.lineage.stream ≡ c.lineage.stream
  pub none : appended ≡ []
  pub whole : replaced ≡ None

abbrev pub Keeps : NodeState → NodeState → OutsState → Type 0
Keeps a b outs = KeepsFile a.core b.core outs.appended outs.replaced
