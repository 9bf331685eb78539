-- How a node's stream grows, and what makes its dataset again.
use Rattle.std.specs.Prelude.{◌≡◌, ◌+◌, ℕ, List, [], ◌∷◌, All, Some, length}
use Rattle.std.specs.FinMap.{empty}
use Rattle.mr_links.specs.declared.link_id.LinkId.{LinkId}
use Rattle.mr_repl.specs.Lineage.{grown}
use Rattle.mr_resp.specs.Command.{IsCommandText}
use Rattle.mr_resp.specs.Usual.{commands}
use Rattle.mr_effect.specs.Spelling.{text, texts, IsShort}
use Rattle.mr_effect.specs.declared.effect.Effect.{Effect}
use Rattle.mr_keyspace.specs.Dataset.{Dataset}
use Rattle.mr_data.specs.Meaning.{apply_all}
use Rattle.mr_data.specs.Rebuilding.{rebuilding}
use Rattle.mr_node_links.specs.Replicas.{Lists}
use Rattle.mr_node_spec.specs.State.{Core, NodeState}

-- the offset behind the texts of effects
abbrev pub offset_behind : List Effect → Core → ℕ
offset_behind effects c = c.lineage.stream.offset + length (texts effects)

-- effects are put behind the stream, and leave this dataset
abbrev pub grown_by : List Effect → Dataset → Core → Core
grown_by effects held c = record c { held = held; lineage = grown c.lineage (texts effects) }

-- What the stream grew by is sent to all replicas. Where it grew by nothing, nothing is sent.
abbrev pub FedTo : List ℕ → NodeState → List LinkId → Type 0
FedTo [] a fed = fed ≡ []
FedTo (b ∷ bytes) a fed = Lists fed a.ends.open_links

-- These effects make the dataset out of nothing, and the text of each is a command text, of no more words than a command may have.
pub record Remakes (effects : List Effect) (m : Dataset) : Type 0 where
  pub again : apply_all effects empty ≡ Some m
  pub texts : All (λ e. IsCommandText commands (text e)) effects
  pub short : All IsShort effects

-- the commands that rebuild a dataset
abbrev pub rebuilt : Dataset → List ℕ
rebuilt m = texts (rebuilding m)
