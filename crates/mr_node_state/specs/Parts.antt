-- What becomes of what a node holds.
use Rattle.std.specs.Prelude.{◌≡◌, ◌≢◌, ℕ, ℤ, List, [], Bool, true, false, Option, None, Some, IsSome}
use Rattle.mr_links.specs.Links.{Links}
use Rattle.mr_links.specs.declared.link_id.LinkId.{LinkId}
use Rattle.mr_keyspace.specs.Dataset.{Dataset}
use Rattle.mr_data.specs.Meaning.{apply_all}
use Rattle.mr_effect.specs.declared.effect.Effect.{Effect}
use Rattle.mr_repl.specs.Lineage.{grown, renamed}
use Rattle.mr_follower.specs.State.{started}
use Rattle.mr_replication.specs.State.{CourseState, name_of, hears_more, offer_of}
use Rattle.mr_node_links.specs.State.{EndState, end_at, put_end, opened_as}
use Rattle.mr_node_links.specs.State.EndState.{shut, upstream}
use Rattle.mr_node_links.specs.Replicas.{ShutsReplicas}
use Rattle.mr_node_output.specs.Address.{AddressState}
use Rattle.mr_node_spec.specs.State.{NodeState, spent_as}
use Rattle.mr_node_spec.specs.Growing.{grown_by}

-- a node of these parts
abbrev pub node_of : (up : Bool) (port : ℕ) → Option AddressState → Option ℤ → CourseState → Dataset → Links EndState → NodeState
node_of up port told mark course held ends = record {
  core = record { up = up; master = course.master; offers = course.offers; port = port; upstream = told; mark = mark; lineage = course.lineage; held = held };
  ends = ends;
  follow = course.follow;
}

-- with other ends
abbrev pub with_ends : NodeState → Links EndState → NodeState
with_ends a ends = record a { ends = ends }

-- Nothing but the ends changes.
abbrev pub OnlyEnds : NodeState → NodeState → Type 0
OnlyEnds a b = b ≡ with_ends a b.ends

-- a link to the master is there
abbrev pub dialled_as : LinkId → NodeState → NodeState
dialled_as l a = record a { ends = opened_as a.ends l upstream; follow = Some (l, started (offer_of a.core.offers a.core.lineage) a.core.port) }

-- the master sent more
abbrev pub fed_as : List ℕ → NodeState → NodeState
fed_as bytes a = record a { follow = hears_more bytes a.follow }

-- the end of this name is there, if there is a name
abbrev pub HasOne : Option LinkId → Links EndState → Type 0
HasOne None ends = Unit {0}
HasOne (Some name) ends = IsSome (end_at ends name)

-- .. and is closed
abbrev pub shut_one : Option LinkId → Links EndState → Links EndState
shut_one None ends = ends
shut_one (Some name) ends = put_end ends name shut

-- Nobody is followed: the end of the link to the master is closed.
abbrev pub alone : NodeState → NodeState
alone a = record a { ends = shut_one (name_of a.follow) a.ends; follow = None }

-- .. and the node is a master, whose stream goes on under a fresh id
abbrev pub promoted_as : List ℕ → NodeState → NodeState
promoted_as fresh a = record (alone a) { core = record a.core { master = true; offers = true; upstream = None; mark = None; lineage = renamed fresh a.core.lineage } }

-- .. or it is to follow this one
abbrev pub turned_to : AddressState → NodeState → NodeState
turned_to address a = record (alone a) { core = record a.core { upstream = Some address } }

-- A master is to follow this one, and has its stream to continue. Its replicas' links are closed.
pub record Obeys (a : NodeState) (address : AddressState) (b : NodeState) : Type 0 where
  pub core : b.core ≡ record a.core { master = false; offers = true; upstream = Some address; mark = None }
  pub follow : b.follow ≡ a.follow
  pub shuts : ShutsReplicas a.ends b.ends

-- effects are applied, and their texts stand behind the stream
pub record Commits (a : NodeState) (effects : List Effect) (b : NodeState) : Type 0 where
  pub held : Dataset
  pub applied : apply_all effects a.core.held ≡ Some held
  pub node : b ≡ record a { core = grown_by effects held a.core }

-- effects are applied, and the stream stays
pub record Holds (a : NodeState) (effects : List Effect) (b : NodeState) : Type 0 where
  pub held : Dataset
  pub applied : apply_all effects a.core.held ≡ Some held
  pub node : b ≡ record a { core = record a.core { held = held } }

-- bytes stand behind the stream
abbrev pub streams_on : List ℕ → NodeState → NodeState
streams_on bytes a = record a { core = record a.core { lineage = grown a.core.lineage bytes } }

-- memory ran out within some effects
pub record Spends (a : NodeState) (effects : List Effect) (b : NodeState) : Type 0 where
  pub some : effects ≢ []
  pub held : Dataset
  pub node : b ≡ spent_as held a

-- the effects lead somewhere
abbrev pub Leads : List Effect → Dataset → Type 0
Leads effects m = (n : Dataset) × (apply_all effects m ≡ Some n)

-- another moment is the mark
abbrev pub marked_at : ℤ → NodeState → NodeState
marked_at now a = record a { core = record a.core { mark = Some now } }
