-- What is counted of a step is what the node's follower made of it.
use Rattle.std.specs.Prelude.{◌≡◌, ◌≢◌, ℕ, List, Option, Some, None, length}
use Rattle.mr_links.specs.declared.link_id.LinkId.{LinkId}
use Rattle.mr_data.specs.declared.given.Given.{Given}
use Rattle.mr_node_output.specs.Outs.{OutsState}
use Rattle.mr_replication.specs.State.{name_of}
use Rattle.mr_replication.specs.declared.upstream.UpstreamStep.{UpstreamStep}
use Rattle.mr_replication.specs.declared.upstream.UpstreamStep.TheVariants as up
use Rattle.mr_follower.specs.State.{FollowState}
use Rattle.mr_follower.specs.declared.phase.Phase.{Phase}
use Rattle.mr_follower.specs.declared.phase.Phase.TheVariants as phase
use Rattle.mr_node_spec.specs.State.{NodeState}
use Rattle.mr_node_spec.specs.UpstreamRows.{Hears}
use Rattle.mr_loop.specs.declared.followed.News.{News}
use Rattle.mr_loop.specs.declared.followed.News.TheVariants as news
use Rattle.mr_loop.specs.Stage.{Stage}
use Rattle.mr_loop.specs.Causes.{Calls, at_step}

-- bytes that nothing begins with that is waited for: in the stream, or before
abbrev pub spoiled_at : Phase → News
spoiled_at phase.Ping = news.Refused
spoiled_at phase.Port = news.Refused
spoiled_at phase.Capabilities = news.Refused
spoiled_at phase.Psync = news.Refused
spoiled_at (phase.Snapshot id offset) = news.Refused
spoiled_at phase.Stream = news.Spoiled

-- A step of the follower as news, by what it waited for before it, and with what it put out.
abbrev pub news_by_step : Phase → UpstreamStep → List ℕ → Option News
news_by_step p up.Idle told = None
news_by_step p up.Said told = Some news.Greeted
news_by_step p up.Announced told = Some news.Announced
news_by_step p up.Continued told = Some news.Continued
news_by_step p up.Loaded told = Some (news.Copied (length told))
news_by_step p up.Applied told = None
news_by_step p up.Left told = Some news.Refused
news_by_step p up.Spoiled told = Some (spoiled_at p)

-- a step at the link to the master is counted as what it came to
pub record IsWhatCame (a b : NodeState) (l : LinkId) (f : FollowState) (outs : OutsState) (told : Option News) : Type 0 where
  pub came : UpstreamStep
  pub hears : Hears a l came b outs
  pub is : told ≡ news_by_step f.phase came hears.told

abbrev pub TellsWhatCame : Type 0
TellsWhatCame = (socket link : LinkId) (given : Given) (fresh : List ℕ) (told : Option News) (s t : Stage) (outs : OutsState) (f : FollowState) → Calls (at_step socket link given fresh told) s t outs → s.node.follow ≡ Some (link, f)
    → IsWhatCame s.node t.node link f outs told

-- .. and one at another link isn't counted
abbrev pub TellsNothingElse : Type 0
TellsNothingElse = (socket link : LinkId) (given : Given) (fresh : List ℕ) (told : Option News) (s t : Stage) (outs : OutsState) → Calls (at_step socket link given fresh told) s t outs → name_of s.node.follow ≢ Some link → told ≡ None
